-- Bytes read pair by pair, in the word's own buffer. Assumes nothing.
use Rattle.std.specs.Prelude.{None, Some}
use mathlib.Core.Path.{◌≡◌, refl, sym, ◌∙◌}
use mathlib.Core.Bool.{true, false}
use mathlib.Core.List.{List, [], ◌∷◌, ◌++◌}
use Prim.Native.Nat.{ℕ, zero, suc, ◌+◌, ◌-◌, ◌*◌, ◌/◌, ◌%◌, ◌<◌, ◌≤◌}
use native.Mathlib.Numerals.{add-one}
use native.Mathlib.Omega.{arith}
use lib.Dec.{eqb}
use lib.ListN.{length, get_or, take, drop, set, length-set}
use lib.Seq.{take-suc, take_all, drop-cons, set_at, append_snoc, length-take-le}
use lib.Seq.{get_or-append-add, get_or-drop}
use borrow.Author.Tests.{ltb-true}
use Rattle.bits.specs.Bits.{byte_of}
use Rattle.bits.specs.Tests.{every}
use Rattle.bits.proofs.ListLaws.{every-at}
use Rattle.bits.proofs.TestLaws.{both_right}
use Rattle.words.specs.Text.{Word}
use Rattle.digits.specs.Spelled.{digit_value, is_hexadecimal, value_told, is_bytes, bytes_in}
use Rattle.digits.specs.Spelled.{spelled_bytes, SpellsBytes}
use Rattle.digits.proofs.SpelledLaws.{bytes-length}

-- byte i of those that a word spells
bytes-at : (word : Word) (i : ℕ) → 2 * i + 1 < length word
    → get_or (bytes_in word) i 0
    ≡ digit_value (get_or word (2 * i) 0) * 16 + digit_value (get_or word (2 * i + 1) 0)
unfolding bytes_in
bytes-at [] i l = absurd (omega arith)
bytes-at (c ∷ []) i l = absurd (omega arith)
bytes-at (c ∷ d ∷ word) zero l = refl
bytes-at (c ∷ d ∷ word) (suc i) l =
    let even : 2 * suc i ≡ suc (suc (2 * i)) = omega arith in
    let odd : 2 * suc i + 1 ≡ suc (suc (2 * i + 1)) = omega arith in
    rw (odd, even) (bytes-at word i (omega arith))

-- so many bytes stand at the start of the word's own buffer
abbrev pub spelled_to : (word : Word) (i : ℕ) → List ℕ
spelled_to word i = take i (bytes_in word) ++ drop i word

module _ (word : Word) (i : ℕ) (within : 2 * i ≤ length word) where
  taken : length (take i (bytes_in word)) ≡ i
  taken = length-take-le i (bytes_in word) (omega (arith, bytes-length word))

  spelled_to-more : i < length word / 2
      → set (spelled_to word i) i (get_or (bytes_in word) i 0) ≡ spelled_to word (i + 1)
  spelled_to-more l =
      let bytes = bytes_in word in
      let rest = drop (suc i) word in
      let put = set_at (take i bytes) (get_or word i 0) rest (get_or bytes i 0) i taken in
      rw (drop-cons word i 0 (omega arith), put)
      (rw (add-one i, take-suc bytes i 0 (omega (arith, bytes-length word)))
      (sym (append_snoc (take i bytes) (get_or bytes i 0) rest)))

  -- no byte from i on is changed yet
  spelled_to-at : (j : ℕ) → i ≤ j → get_or (spelled_to word i) j 0 ≡ get_or word j 0
  spelled_to-at j l =
      let on : i + (j - i) ≡ j = omega arith in
      let front = take i (bytes_in word) in
      let past = rw taken at (get_or-append-add front (drop i word) (j - i) 0) in
      rw on at (past ∙ get_or-drop i word (j - i) 0)

value-small : (word : Word) (j : ℕ) → every is_hexadecimal word ≡ true → j < length word
    → digit_value (get_or word j 0) < 16
value-small word j hex l = ltb-true (digit_value (get_or word j 0)) 16 (every-at is_hexadecimal word hex j l)

-- a digit has its value
pub told_some : (c : ℕ) → is_hexadecimal c ≡ true → value_told c ≡ Some (digit_value c)
told_some c e = rw e

whole-byte : (high low : ℕ) → high < 16 → low < 16 → byte_of high low ≡ high * 16 + low
whole-byte high low h l = omega arith

-- the bytes up to i are read, of so many
pub record Spelling (word now : Word) (many i : ℕ) : Type 0 where
  pub whole : is_bytes word ≡ true
  pub half : many ≡ length word / 2
  pub within : i ≤ many
  pub long : length now ≡ length word
  pub so_far : now ≡ spelled_to word i

-- the next byte, of the two digits that stand for it
next-byte : (word now : Word) (i : ℕ) → is_bytes word ≡ true → i < length word / 2 → now ≡ spelled_to word i
    → byte_of (digit_value (get_or now (2 * i) 0)) (digit_value (get_or now (2 * i + 1) 0))
    ≡ get_or (bytes_in word) i 0
unfolding is_bytes
next-byte word now i whole l so_far =
    let hex = both_right (eqb (length word % 2) 0) (every is_hexadecimal word) whole in
    let inside : 2 * i ≤ length word = omega arith in
    let high : get_or now (2 * i) 0 ≡ get_or word (2 * i) 0 =
    rw so_far (spelled_to-at word i inside (2 * i) (omega arith)) in
    let low : get_or now (2 * i + 1) 0 ≡ get_or word (2 * i + 1) 0 =
    rw so_far (spelled_to-at word i inside (2 * i + 1) (omega arith)) in
    rw (high, low)
    (whole-byte (digit_value (get_or word (2 * i) 0)) (digit_value (get_or word (2 * i + 1) 0))
    (value-small word (2 * i) hex (omega arith)) (value-small word (2 * i + 1) hex (omega arith))
    ∙ sym (bytes-at word i (omega arith)))

-- what is left to read is digits
pub digit-there : (word now : Word) (many i j : ℕ) → Spelling word now many i → i ≤ j → j < length word
    → value_told (get_or now j 0) ≡ Some (digit_value (get_or now j 0))
unfolding is_bytes
digit-there word now many i j s l inside =
    let hex = both_right (eqb (length word % 2) 0) (every is_hexadecimal word) s.whole in
    let same : get_or now j 0 ≡ get_or word j 0 =
    rw s.so_far (spelled_to-at word i (omega (arith, s.half, s.within)) j l) in
    rw same (told_some (get_or word j 0) (every-at is_hexadecimal word hex j inside))

pub spelling-turn : (word now : Word) (many i byte : ℕ) → Spelling word now many i → i < many
    → byte ≡ byte_of (digit_value (get_or now (2 * i) 0)) (digit_value (get_or now (2 * i + 1) 0))
    → Spelling word (set now i byte) many (i + 1)
spelling-turn word now many i byte s l told =
    let next = told ∙ next-byte word now i s.whole (omega arith) s.so_far in
    record {
      whole = s.whole;
      half = s.half;
      within = omega arith;
      long = simp length-set s.long;
      so_far = rw (s.so_far, next) (spelled_to-more word i (omega arith) (omega arith));
    }

pub spelling-end : (word now : Word) (many i : ℕ) → Spelling word now many i → many ≤ i
    → SpellsBytes word now (Some many)
unfolding spelled_bytes
spelling-end word now many i s over =
    let size = bytes-length word in
    let all : many ≡ length (bytes_in word) = omega arith in
    let done : i ≡ length (bytes_in word) = omega arith in
    record {
      told = rw (s.whole, all);
      kept =
          rw s.whole
          (s.so_far ∙ rw (done, take_all (length (bytes_in word)) (bytes_in word) (omega arith)));
    }

pub spells_nothing : (word : Word) → is_bytes word ≡ false → SpellsBytes word word None
unfolding spelled_bytes
spells_nothing word other = record { told = rw other; kept = rw other }
