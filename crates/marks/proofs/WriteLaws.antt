-- The bytes of the table as the code makes them. Assumes nothing.
use Rattle.std.specs.Prelude.{Ok}
use mathlib.Core.Path.{◌≡◌, refl, sym, ap, ◌∙◌}
use mathlib.Core.Bool.{Bool, true, false, ◌&&◌, and_comm}
use mathlib.Core.List.{List, [], ◌∷◌}
use Prim.Native.Nat.{ℕ, ◌+◌, ◌-◌, ◌*◌, ◌/◌, ◌%◌, ◌^◌, ◌<◌, ◌≤◌}
use native.Mathlib.Omega.{arith}
use lib.Bits.{bit_and}
use lib.Dec.{eqb, leb, ltb}
use lib.ListN.{length, get_or}
use lib.Pow.{shr-shr, pow_mono}
use borrow.Author.Tests.{lt-ltb, le-ltb, leb-true, leb-false}
use Rattle.bits.specs.Bits.{has, of_rows}
use Rattle.bits.specs.Tests.{pick, ◌⊕◌}
use Rattle.bits.proofs.SearchLaws.{byBool}
use Rattle.bits.proofs.RowLaws.{of_rows-ext, of_rows-is_row}
use Rattle.block.specs.Table.{table_rows, table_bytes, table_byte, table_of}
use Rattle.block.specs.Refusal.{◌when◌, first_of, too_many_inputs}
use Rattle.block.specs.Answer.{buffer_after, Writes}
use Rattle.block.proofs.AnswerLaws.{writes_bytes}
use Rattle.block.proofs.TableLaws.{bytes-few, bytes-many, table_of-length}
use Rattle.marks.specs.Rows.{is_set}
use Rattle.marks.proofs.MaskLaws.{of_rows-and, of_rows-not, of_rows-all}

has-shifted : (x s i : ℕ) → has (x / 2 ^ s) i ≡ has x (s + i)
unfolding has
has-shifted x s i = ap (λ (y : ℕ). eqb (y % 2) 1) (shr-shr x s i)

-- byte j is eight bits of word j / 8
pub byte-made : (words : List ℕ) (j : ℕ)
    → get_or words (j / 8) 0 / 2 ^ (56 - 8 * (j % 8)) % 256 ≡ of_rows 8 (λ k. is_set words (8 * j + k))
unfolding is_set
byte-made words j =
    let x = get_or words (j / 8) 0 in
    let s = 56 - 8 * (j % 8) in
    sym (of_rows-is_row 8 (x / 2 ^ s))
    ∙ of_rows-ext 8 _ _
    (λ k l.
    let at : (8 * j + k) / 64 ≡ j / 8 = omega arith in
    let row : 63 - (8 * j + k) % 64 ≡ s + (7 - k) = omega arith in
    has-shifted x s (7 - k) ∙ rw (at, row))

-- the rows of a whole byte, and those of the first one
pub rows-of-byte : (n : ℕ) → 3 ≤ n → 255 ≡ of_rows 8 (λ k. ltb k (table_rows n))
rows-of-byte n l =
    let rows : 8 ≤ table_rows n = pow_mono {i = 3} {j = n} l in
    sym (of_rows-all 8) ∙ of_rows-ext 8 _ _ (λ k m. sym (lt-ltb k (table_rows n) (omega arith)))

same_rows : (n j k : ℕ) → j < table_bytes n → k < 8
    → ltb k (table_rows n) ≡ ltb (8 * j + k) (table_rows n)
same_rows n j k l m =
    byBool (leb n 3)
    (λ e.
    let one = bytes-few n (leb-true n 3 e) in
    let first : 8 * j + k ≡ k = omega arith in
    rw first)
    (λ e.
    let many = leb-false n 3 e in
    let all = bytes-many n (omega arith) in
    lt-ltb k (table_rows n) (omega arith) ∙ sym (lt-ltb (8 * j + k) (table_rows n) (omega arith)))

pub byte-kept : (n : ℕ) (f : ℕ → Bool) (j : ℕ) → j < table_bytes n
    → bit_and (of_rows 8 (λ k. f (8 * j + k))) (of_rows 8 (λ k. ltb k (table_rows n))) ≡ table_byte n f j
byte-kept n f j l =
    of_rows-and 8 (λ k. f (8 * j + k)) (λ k. ltb k (table_rows n))
    ∙ of_rows-ext 8 _ _
    (λ k m.
    and_comm (f (8 * j + k)) (ltb k (table_rows n))
    ∙ ap (λ (b : Bool). b && f (8 * j + k)) (same_rows n j k l m))

-- byte j as the code makes it of its rows
pub byte-turned : (flip : Bool) (g : ℕ → Bool)
    → pick flip (255 - of_rows 8 g) (of_rows 8 g) ≡ of_rows 8 (λ k. flip ⊕ g k)
byte-turned true g = of_rows-not 8 g
byte-turned false g = refl

-- the table at the start of a buffer with room
pub table-written : (n : ℕ) (f : ℕ → Bool) (before after : List ℕ) (used : ℕ) → n ≤ 9
    → used ≤ length before → used ≡ table_bytes n → after ≡ buffer_after 0 (table_of n f) before
    → Writes (first_of (1 when too_many_inputs n ∷ 5 when ltb (length before) (table_bytes n) ∷ []))
    (table_of n f) before after (Ok used)
table-written n f before after used within room sized same =
    writes_bytes _ (table_of n f) before after used
    (rw (le-ltb 9 n within, le-ltb (length before) (table_bytes n) (omega arith)))
    (sized ∙ sym (table_of-length n f)) same
