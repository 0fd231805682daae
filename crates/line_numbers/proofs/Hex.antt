-- The bytes of pairs of hexadecimal digits.
-- `no_high`, `no_low`: a pair that is none ends them, by its first byte or its second. `no_pair`: where no pair is left
-- there are none.
-- `begun`, `more`: the bytes put, then those of the pairs that are left, are the item's (`Decoded`), at first and with
-- a pair more. `ended`: where none are left, all are put. Assumes nothing.
use Rattle.std.proofs.Common.{◌≡◌, ◌∙◌, refl, ℕ, ◌+◌, ◌*◌, ◌<◌, List, [], ◌∷◌, ◌++◌, append_assoc, append-nil, length, get_or, Some, None, arith}
use Rattle.line_buffers.specs.Output.{Put}
use Rattle.line_buffers.proofs.Puts.{put_then}
use Rattle.line_numbers.specs.Numbers.{hex_digit, byte_before, bytes_of}

-- a pair in front
bytes_pair : (pair rest : List ℕ) → length pair ≡ 2
    → bytes_of (pair ++ rest) ≡ byte_before (hex_digit (get_or pair 0 0)) (hex_digit (get_or pair 1 0)) (bytes_of rest)
unfolding bytes_of
bytes_pair [] rest h = absurd (omega arith)
bytes_pair (a ∷ []) rest h = absurd (omega arith)
bytes_pair (a ∷ b ∷ []) rest h = refl
bytes_pair (a ∷ b ∷ c ∷ s) rest h = absurd (omega arith)

module _ (pair rest : List ℕ) (two : length pair ≡ 2) where
  pub no_high : None ≡ hex_digit (get_or pair 0 0) → bytes_of (pair ++ rest) ≡ []
  no_high e = bytes_pair pair rest two ∙ rw (← e)

  pub no_low : (high : ℕ) → Some high ≡ hex_digit (get_or pair 0 0) → None ≡ hex_digit (get_or pair 1 0) → bytes_of (pair ++ rest) ≡ []
  no_low high e f = bytes_pair pair rest two ∙ rw (← e, ← f)

pub no_pair : (s : List ℕ) → length s < 2 → bytes_of s ≡ []
unfolding bytes_of
no_pair [] h = refl
no_pair (a ∷ []) h = refl
no_pair (a ∷ b ∷ s) h = absurd (omega arith)

-- the buffer with the bytes of the pairs in front of the rest
pub record Decoded (text out₀ : List ℕ) (at : ℕ) (rest out : List ℕ) (next : ℕ) : Type 0 where
  pub done : List ℕ
  pub put : Put out₀ at done out next
  pub whole : done ++ bytes_of rest ≡ bytes_of text

pub begun : (text out : List ℕ) (at : ℕ) → Decoded text out at text out at
begun text out at = record { done = []; put = record { is = refl; next = omega arith }; whole = refl }

module _ {text out₀ : List ℕ} {at : ℕ} {left out : List ℕ} {next : ℕ} (d : Decoded text out₀ at left out next) where
  pub more : (pair rest : List ℕ) (high low : ℕ) → left ≡ pair ++ rest → length pair ≡ 2 → Some high ≡ hex_digit (get_or pair 0 0) → Some low ≡ hex_digit (get_or pair 1 0)
      → {out' : List ℕ} {next' : ℕ} → Put out next ((high * 16 + low) ∷ []) out' next' → Decoded text out₀ at rest out' next'
  more pair rest high low parts two e f put =
      let on : bytes_of (pair ++ rest) ≡ (high * 16 + low) ∷ bytes_of rest = bytes_pair pair rest two ∙ rw (← e, ← f) in
      record {
        done = d.done ++ ((high * 16 + low) ∷ []);
        put = put_then out₀ at d.put put;
        whole = rw (append_assoc, ← on) (rw parts at d.whole);
      }

  pub ended : bytes_of left ≡ [] → Put out₀ at (bytes_of text) out next
  ended e = rw (rw (e, append-nil) at d.whole) at d.put
