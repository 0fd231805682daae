-- What a time group sets makes the time that it was written from. Assumes nothing.
-- `time_read`: so for each of the three groups (`TimeRead`).
use Rattle.std.specs.Prelude.{Ok}
use mathlib.Core.Path.{◌≡◌, refl, ap}
use mathlib.Core.Bool.{Bool, true, false}
use Prim.Native.Nat.{ℕ, zero, suc, ◌-◌, ◌<◌}
use native.Mathlib.Omega.{arith}
use borrow.Author.Tests.{lt-ltb, le-ltb, ltb-true, ltb-false, ne_eqb, eqb-true, eqb-false}
use lib.Dec.{ltb, eqb, lit<}
use lib.IntN.{pos}
use Rattle.base_notation.specs.Choice.{when◌then◌else◌}
use Rattle.moment_time.specs.Time.{◌or◌, hour_of, minute_of, second_of, hour_of_twelve, clock_hour}
use Rattle.read_fields.specs.Fields as F
use Rattle.read_fields.specs.declared.Fields.{Fields}
use Rattle.write_pieces.specs.Pieces.{of12}
use Rattle.readback.proofs.GroupFields.{TimeGroup, of_24, of_12, by_second, time_values, DateValues, fields_of, Same}

-- the fields make the time
pub record TimeRead (f : Fields) (h m s : ℕ) : Type 0 where
  pub hour_is : clock_hour f ≡ Ok (pos h)
  pub minute_is : minute_of f ≡ pos m
  pub second_is : second_of f ≡ pos s

-- 0 counts as absent, and is then taken from the second of the day, which is absent too
or_zero : (n : ℕ) → (pos n or pos 0) ≡ pos n
or_zero zero = refl
or_zero (suc n) = rw (ne_eqb (suc n) 0 (λ z. omega arith))

-- the hour back from the 12-hour clock
twelve : (h : ℕ) → h < 24 → hour_of_twelve (pos (when ltb h 12 then 0 else 1)) (pos (of12 h)) ≡ Ok (pos h)
unfolding hour_of_twelve
twelve h l = by (ltb h 12) (eqb h 0) (eqb h 12) refl refl refl
  where
    by : (a b c : Bool) → ltb h 12 ≡ a → eqb h 0 ≡ b → eqb h 12 ≡ c → hour_of_twelve (pos (when a then 0 else 1)) (pos (of12 h)) ≡ Ok (pos h)
    by true true c p q r = let e : h ≡ 0 = eqb-true h 0 q in rw e
    by true false c p q r =
        let morning = ltb-true h 12 p in
        let not_midnight = eqb-false h 0 q in
        let e : of12 h ≡ h = omega arith in
        rw (e, le-ltb h 1 (omega arith), le-ltb 12 h (omega arith), ne_eqb h 12 (λ k. omega arith))
    by false b true p q r = let e : h ≡ 12 = eqb-true h 12 r in rw e
    by false b false p q r =
        let afternoon = ltb-false h 12 p in
        let not_noon = eqb-false h 12 r in
        let e : of12 h ≡ h - 12 = omega arith in
        rw (e, le-ltb (h - 12) 1 (omega arith), le-ltb 12 (h - 12) (omega arith), lt-ltb (h - 12) 12 (omega arith)) (ap Ok (ap pos (omega arith)))

module _ {h m s : ℕ} (hour : h < 24) (minute : m < 60) (second : s < 60) (f : Fields) (a : DateValues) (us : ℕ) where
  -- minute and second by their own fields
  own_minute : F.get f F.mi ≡ pos m → F.get f F.ssss ≡ pos 0 → minute_of f ≡ pos m
  unfolding minute_of
  own_minute e z = rw (e, z) (or_zero m)

  own_second : F.get f F.ss ≡ pos s → F.get f F.ssss ≡ pos 0 → second_of f ≡ pos s
  unfolding second_of
  own_second e z = rw (e, z) (or_zero s)

  -- HH24 MI SS
  of24 : Same f (fields_of a (time_values of_24 h m s) us) → TimeRead f h m s
  unfolding clock_hour hour_of
  of24 e = record {
    hour_is = rw (e F.clock (lit< tt), e F.hh (lit< tt), e F.ssss (lit< tt)) (ap Ok (or_zero h));
    minute_is = own_minute (e F.mi (lit< tt)) (e F.ssss (lit< tt));
    second_is = own_second (e F.ss (lit< tt)) (e F.ssss (lit< tt));
  }

  -- HH12 MI SS and a marker
  of12th : Same f (fields_of a (time_values of_12 h m s) us) → TimeRead f h m s
  unfolding clock_hour hour_of
  of12th e = record {
    hour_is = rw (e F.clock (lit< tt), e F.hh (lit< tt), e F.ssss (lit< tt), or_zero (of12 h), e F.pm (lit< tt)) (twelve h hour);
    minute_is = own_minute (e F.mi (lit< tt)) (e F.ssss (lit< tt));
    second_is = own_second (e F.ss (lit< tt)) (e F.ssss (lit< tt));
  }

  -- SSSSS
  second_of_day : Same f (fields_of a (time_values by_second h m s) us) → TimeRead f h m s
  unfolding clock_hour hour_of minute_of second_of
  second_of_day e = record {
    hour_is = rw (e F.clock (lit< tt), e F.hh (lit< tt), e F.ssss (lit< tt)) (ap Ok (ap pos (omega arith)));
    minute_is = rw (e F.mi (lit< tt), e F.ssss (lit< tt)) (ap pos (omega arith));
    second_is = rw (e F.ss (lit< tt), e F.ssss (lit< tt)) (ap pos (omega arith));
  }

  pub time_read : (g : TimeGroup) → Same f (fields_of a (time_values g h m s) us) → TimeRead f h m s
  time_read of_24 e = of24 e
  time_read of_12 e = of12th e
  time_read by_second e = second_of_day e
