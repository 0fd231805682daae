-- Words in a case. Assumes nothing.
-- `cased_size`: a word in a case is as long as the word.
-- `next_letter`: what is left of it is put by the next letter of the word in that case, and then the rest.
-- `cased_folded`: a word in a case is the same, whether it was folded before or not.
-- `folded_cased`: folded, it is the same whatever case it was in.
use mathlib.Core.Path.{◌≡◌, refl, sym, ap}
use mathlib.Core.Bool.{Bool, true, false}
use mathlib.Core.List.{List, [], ◌∷◌, map}
use Prim.Native.Nat.{ℕ, zero, suc, ◌+◌, ◌<◌}
use native.Mathlib.Omega.{arith}
use lib.Dec.{eqb, eqb-suc-zero}
use lib.ListN.{length, drop, get_or, set, length-map, get_or-map}
use lib.Seq.{sets}
use Rattle.base_chars.specs.Fold.{folded}
use Rattle.base_chars.proofs.Folds.{fold_raised, fold_twice, raise_folded}
use Rattle.template_patterns.specs.declared.Case.{Case}
use Rattle.template_patterns.specs.declared.Case.TheVariants.{Capitals, Small, Title}
use Rattle.write_pieces.specs.Words.{in_case, letter_in}
use Rattle.write_pieces.proofs.Puts.{next_byte}

-- what holds of every byte holds of a word: one map after another is a third
mapped : (f g h : ℕ → ℕ) → ((b : ℕ) → f (g b) ≡ h b) → (w : List ℕ) → map f (map g w) ≡ map h w
mapped f g h e [] = refl
mapped f g h e (b ∷ w) = rw (e b, mapped f g h e w)

-- 0 is no letter, and stays
no_letter_lem : (case : Case) (first : Bool) → letter_in case first 0 ≡ 0
no_letter_lem Capitals first = refl
no_letter_lem Small first = refl
no_letter_lem Title true = refl
no_letter_lem Title false = refl

-- a letter that was folded before
letter_folded : (case : Case) (first : Bool) (b : ℕ) → letter_in case first (folded b) ≡ letter_in case first b
letter_folded Capitals first b = raise_folded b
letter_folded Small first b = fold_twice b
letter_folded Title true b = raise_folded b
letter_folded Title false b = fold_twice b

-- a letter in a case, once it is folded
folded_letter : (case : Case) (first : Bool) (b : ℕ) → folded (letter_in case first b) ≡ folded b
folded_letter Capitals first b = fold_raised b
folded_letter Small first b = fold_twice b
folded_letter Title true b = fold_raised b
folded_letter Title false b = fold_twice b

module _ (case : Case) where
  pub cased_size : (w : List ℕ) → length (in_case case w) ≡ length w
  cased_size [] = refl
  cased_size (b ∷ w) = ap suc (length-map w (letter_in case false))

  -- byte i of a word in a case is byte i of the word, in the case as the first letter or as another
  cased_byte : (w : List ℕ) (i : ℕ) → get_or (in_case case w) i 0 ≡ letter_in case (eqb i 0) (get_or w i 0)
  cased_byte [] i = sym (no_letter_lem case (eqb i 0))
  cased_byte (b ∷ w) zero = refl
  cased_byte (b ∷ w) (suc i) = rw eqb-suc-zero (rw (no_letter_lem case false) at (get_or-map (letter_in case false) w i 0))

  -- b is the next letter
  pub next_letter : (l : List ℕ) (at : ℕ) (w : List ℕ) (i : ℕ) → i < length w → (b : ℕ) → b ≡ letter_in case (eqb i 0) (get_or w i 0)
      → sets (set l (at + i) b) (at + (i + 1)) (drop (i + 1) (in_case case w)) ≡ sets l (at + i) (drop i (in_case case w))
  next_letter l at w i h b e = rw (e, ← cased_byte w i) (next_byte l at (in_case case w) i (omega (arith, cased_size w)))

  pub cased_folded : (w : List ℕ) → in_case case (map folded w) ≡ in_case case w
  cased_folded [] = refl
  cased_folded (b ∷ w) = rw (letter_folded case true b, mapped (letter_in case false) folded (letter_in case false) (letter_folded case false) w)

  pub folded_cased : (w : List ℕ) → map folded (in_case case w) ≡ map folded w
  folded_cased [] = refl
  folded_cased (b ∷ w) = rw (folded_letter case true b, mapped folded (letter_in case false) folded (folded_letter case false) w)
