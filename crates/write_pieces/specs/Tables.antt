-- The piece of each pattern by a letter, in the order of the patterns.
use Rattle.std.specs.Prelude.{◌≡◌, refl, List, map, ℕ, ◌+◌, length, take}
use Prim.Native.Char.{code}
use Rattle.base_notation.specs.Text.{utf8}
use Rattle.template_patterns.specs.Search.{count_from}
use Rattle.write_pieces.specs.Pieces.{piece_of}

-- a piece by its letter: A for 1 to Q for 17, @ for none
abbrev pub letter_of : ℕ → ℕ
letter_of piece = code "@" + piece

unfoldable pub piece_table : List ℕ
piece_table = map (λ k. letter_of (piece_of k)) (count_from 0 112)

-- of the first ten patterns A.M., AM, DDD and DD are written
pub worked : (length piece_table ≡ 112) × (take 10 piece_table ≡ utf8 "@O@N@@@@DC")
unfolding piece_table piece_of
worked = (refl, refl)
