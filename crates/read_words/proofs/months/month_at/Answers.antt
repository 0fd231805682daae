-- `read_words::months::month_at`: the month in the slot of the first three letters is the only one that can be there,
-- and its letters are compared.
use Rattle.std.proofs.Common.{◌≡◌, ◌∙◌, ◌<◌, ℕ, arith, get_or, refl, sym}
use Rattle.read_words.specs.Months.{letters_at, month_list, row_in, slot_of}
use Rattle.read_words.proofs.MonthLetters.{begun, left_fits, left_in, length_in, other_letters, other_ninth, same_letters}
use Rattle.read_words.proofs.Words.{found_at, past_end}
use Rattle.read_words.proofs.months.month_at.Goals as goal
use Rattle.read_words.proofs.months.month_at.Goals.{else-len-eq9-via-then-len-eq9+else-folded-ne114, else-len-eq9-via-else-len-eq9}

-- no month is past the end
pub returns-then-s-at : goal.returns-then-s-at
returns-then-s-at c =
    found_at (month_list c.args.short) c.args.s.now c.args.at
    (past_end c.args.s.now c.args.at (month_list c.args.short) c.if-s-at.true)

pub same_below-requires : goal.same_below-requires
same_below-requires c =
    let s = c.args.s.now in
    let bytes : (i : ℕ) → get_or s i 0 < 256 = λ i. omega (arith, c.type_inv.s i) in
    let row : c.row_in-row.result ≡ row_in (slot_of (letters_at s c.args.at))
    = c.row_in-row.ensures ∙ rw (c.slot_of-slot.ensures, c.letters_at-x.ensures) refl in
    let left : c.left_in.result ≡ left_in c.args.short (row_in (slot_of (letters_at s c.args.at)))
    = c.left_in.ensures ∙ rw row refl in
    rw left (left_fits s bytes c.args.at c.args.short)

-- other letters
pub returns-then-not-same_below : goal.returns-then-not-same_below
returns-then-not-same_below c =
    let s = c.args.s.now in
    let bytes : (i : ℕ) → get_or s i 0 < 256 = λ i. omega (arith, c.type_inv.s i) in
    let row : c.row_in-row.result ≡ row_in (slot_of (letters_at s c.args.at))
    = c.row_in-row.ensures ∙ rw (c.slot_of-slot.ensures, c.letters_at-x.ensures) refl in
    let left : c.left_in.result ≡ left_in c.args.short (row_in (slot_of (letters_at s c.args.at)))
    = c.left_in.ensures ∙ rw row refl in
    let begins : c.same_below.result ≡ begun s bytes c.args.at c.args.short
    = c.same_below.ensures ∙ rw (left, c.number_in.ensures, c.slot_of-slot.ensures, c.letters_at-x.ensures) refl in
    found_at (month_list c.args.short) s c.args.at
    (other_letters s bytes c.args.at c.args.short (sym begins ∙ c.if-not-same_below.true))

-- another ninth letter
pub returns-then-folded-ne114 : goal.returns-then-folded-ne114
returns-then-folded-ne114 c =
    let s = c.args.s.now in
    let bytes : (i : ℕ) → get_or s i 0 < 256 = λ i. omega (arith, c.type_inv.s i) in
    let row : c.row_in-row.result ≡ row_in (slot_of (letters_at s c.args.at))
    = c.row_in-row.ensures ∙ rw (c.slot_of-slot.ensures, c.letters_at-x.ensures) refl in
    let left : c.left_in.result ≡ left_in c.args.short (row_in (slot_of (letters_at s c.args.at)))
    = c.left_in.ensures ∙ rw row refl in
    let begins : c.same_below.result ≡ begun s bytes c.args.at c.args.short
    = c.same_below.ensures ∙ rw (left, c.number_in.ensures, c.slot_of-slot.ensures, c.letters_at-x.ensures) refl in
    let size : c.length_in-len.result ≡ length_in c.args.short (row_in (slot_of (letters_at s c.args.at)))
    = c.length_in-len.ensures ∙ rw row refl in
    found_at (month_list c.args.short) s c.args.at
    (other_ninth s bytes c.args.at c.args.short (sym begins ∙ c.if-not-same_below.false) (sym size ∙ c.if-len-eq9.true)
    (λ e. c.if-folded-ne114.true (c.folded.ensures ∙ rw c.byte_at.ensures e)))

-- the month
pub returns : goal.returns
returns c =
    let s = c.args.s.now in
    let bytes : (i : ℕ) → get_or s i 0 < 256 = λ i. omega (arith, c.type_inv.s i) in
    let row : c.row_in-row.result ≡ row_in (slot_of (letters_at s c.args.at))
    = c.row_in-row.ensures ∙ rw (c.slot_of-slot.ensures, c.letters_at-x.ensures) refl in
    let left : c.left_in.result ≡ left_in c.args.short (row_in (slot_of (letters_at s c.args.at)))
    = c.left_in.ensures ∙ rw row refl in
    let begins : c.same_below.result ≡ begun s bytes c.args.at c.args.short
    = c.same_below.ensures ∙ rw (left, c.number_in.ensures, c.slot_of-slot.ensures, c.letters_at-x.ensures) refl in
    let size : c.length_in-len.result ≡ length_in c.args.short (row_in (slot_of (letters_at s c.args.at)))
    = c.length_in-len.ensures ∙ rw row refl in
    found_at (month_list c.args.short) s c.args.at
    (rw (row, size)
    (same_letters s bytes c.args.at c.args.short (sym begins ∙ c.if-not-same_below.false) (λ e. (elim c.else-len-eq9.branch [
      | else-len-eq9-via-then-len-eq9+else-folded-ne114 w ↦ sym (w.folded.ensures ∙ rw w.byte_at.ensures refl) ∙ w.if-folded-ne114.false
      | else-len-eq9-via-else-len-eq9 w ↦ absurd (w.if-len-eq9.false (size ∙ e))
    ]))))
