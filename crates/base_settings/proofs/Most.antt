-- What lies below the entries has its bounds of 256 and 512. Assumes nothing.
-- `template_most`, `input_most`: no caller's limits are above these.
use Prim.Native.Nat.{◌≤◌}
use native.Mathlib.Omega.{arith}
use Rattle.base_settings.specs.Limits.{template_limit, input_limit}
use Rattle.base_settings.specs.declared.Settings.{Settings}

module _ (set : Settings) where
  pub template_most : template_limit set ≤ 256
  unfolding template_limit
  template_most = omega arith

  pub input_most : input_limit set ≤ 512
  unfolding input_limit
  input_most = omega arith
