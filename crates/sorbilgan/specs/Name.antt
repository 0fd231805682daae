-- A pattern's name in six bytes, the last of them 0.
use Rattle.std.specs.Prelude.{◌≡◌, refl, List, [], ◌∷◌, ℕ, length}
use Rattle.base_notation.specs.Text.{byte_at}
use Rattle.template_patterns.specs.Patterns.{name_of}

-- the bytes of a name of up to five, 0 after them
abbrev pub in_six : List ℕ → List ℕ
in_six name = byte_at name 0 ∷ byte_at name 1 ∷ byte_at name 2 ∷ byte_at name 3 ∷ byte_at name 4 ∷ 0 ∷ []

-- r is the length of the name of a pattern's number, `after` the name; past the table there is none
pub record Named (number : ℕ) (after : List ℕ) (r : ℕ) : Type 0 where
  pub is : r ≡ length (name_of number)
  pub name : after ≡ in_six (name_of number)

-- DD, and the number 112, which no pattern has
pub worked : (in_six (name_of 9) ≡ 68 ∷ 68 ∷ 0 ∷ 0 ∷ 0 ∷ 0 ∷ []) × (in_six (name_of 112) ≡ 0 ∷ 0 ∷ 0 ∷ 0 ∷ 0 ∷ 0 ∷ [])
worked = (refl, refl)
