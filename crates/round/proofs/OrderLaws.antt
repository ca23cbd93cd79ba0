-- Byte order is the order of the numbers that the bytes make. So of two blocks the packer accepts,
-- one comes before the other just if its number is less. Assumes nothing.
use mathlib.Core.Path.{◌≡◌, refl, sym, ap, ◌∙◌}
use mathlib.Core.Bool.{Bool, true, false, ◌&&◌, ◌||◌}
use mathlib.Core.List.{List, [], ◌∷◌}
use Prim.Native.Nat.{ℕ, zero, suc, ◌+◌, ◌*◌, ◌/◌, ◌%◌, ◌<◌}
use native.Mathlib.Nat.{suc_inj}
use native.Mathlib.Omega.{arith}
use lib.Dec.{eqb, ltb}
use lib.ListN.{length}
use borrow.Author.Tests.{ltb-true, ltb-false, eqb-true, eqb-false, lt-ltb, le-ltb}
use Rattle.bits.specs.Bits.{Bytes}
use Rattle.bits.specs.Tests.{every}
use Rattle.bits.proofs.TestLaws.{both_left, both_right}
use Rattle.bits.proofs.FieldLaws.{field_lt}
use Rattle.block.specs.declared.Parts.{Parts}
use Rattle.block.specs.Block.{Block}
use Rattle.block.specs.Code.{block_of}
use Rattle.codec.specs.Ten.{pack_of, FieldsOfFour}
use Rattle.codec.specs.Order.{before, comes_before}
use Rattle.codec.proofs.UnpackLaws.{parts_of}
use Rattle.round.specs.Acceptable.{Acceptable}
use Rattle.round.proofs.RoundLaws.{device-parts}
use Rattle.round.proofs.PackedLaws.{small, packed-ten}

-- the number that bytes make below what stands above them
abbrev pub bytes_number : (high : ℕ) (s : List ℕ) → ℕ
bytes_number high [] = high
bytes_number high (x ∷ xs) = bytes_number (high * 256 + x) xs

later : (x : ℕ) (s : List ℕ) → Bytes (x ∷ s) → Bytes s
later x s bytes k = bytes (suc k)

-- what stands above decides
high-decides : (a b : ℕ) (s t : List ℕ) → length s ≡ length t → Bytes s → a < b
    → bytes_number a s < bytes_number b t
high-decides a b [] [] e bytes l = l
high-decides a b [] (y ∷ t) e bytes l = absurd (omega arith)
high-decides a b (x ∷ s) [] e bytes l = absurd (omega arith)
high-decides a b (x ∷ s) (y ∷ t) e bytes l =
    let first : x < 256 = bytes 0 in
    high-decides (a * 256 + x) (b * 256 + y) s t (suc_inj e) (later x s bytes) (omega arith)

pub before-number : (high : ℕ) (s t : List ℕ) → length s ≡ length t → Bytes s → Bytes t
    → before s t ≡ ltb (bytes_number high s) (bytes_number high t)
before-number high [] [] e p q = sym (le-ltb high high (omega arith))
before-number high [] (y ∷ t) e p q = absurd (omega arith)
before-number high (x ∷ s) [] e p q = absurd (omega arith)
before-number high (x ∷ s) (y ∷ t) e p q =
    by (ltb x y) (eqb x y) refl refl
    (before-number (high * 256 + x) s t (suc_inj e) (later x s p) (later y t q))
  where
    below : ℕ → ℕ → Bool
    below a b = ltb (bytes_number (high * 256 + a) s) (bytes_number (high * 256 + b) t)

    by : (less same : Bool) → ltb x y ≡ less → eqb x y ≡ same → before s t ≡ below x x
        → less || (same && before s t) ≡ below x y
    by true same l f rest =
        let first = ltb-true x y l in
        sym (lt-ltb _ _ (high-decides (high * 256 + x) (high * 256 + y) s t (suc_inj e) (later x s p) (omega arith)))
    by false true l f rest = rest ∙ ap (below x) (eqb-true x y f)
    by false false l f rest =
        let not-less = ltb-false x y l in
        let other = eqb-false x y f in
        let more = high-decides (high * 256 + y) (high * 256 + x) t s (sym (suc_inj e)) (later y t q) (omega arith) in
        sym (le-ltb (bytes_number (high * 256 + x) s) (bytes_number (high * 256 + y) t) (omega arith))

abbrev is_byte : ℕ → Bool
is_byte x = ltb x 256

bytes_of : (s : List ℕ) → every is_byte s ≡ true → Bytes s
bytes_of [] h k = omega arith
bytes_of (x ∷ s) h zero = ltb-true x 256 (both_left (is_byte x) (every is_byte s) h)
bytes_of (x ∷ s) h (suc k) = bytes_of s (both_right (is_byte x) (every is_byte s) h) k

pair-byte : (high low : ℕ) → high < 16 → low < 16 → is_byte (high * 16 + low) ≡ true
pair-byte high low h l = lt-ltb (high * 16 + low) 256 (omega arith)

packed-pairs : (x : Parts) → FieldsOfFour x → every is_byte (pack_of (block_of x)) ≡ true
unfolding pack_of
packed-pairs x fields =
    let f = fields.in_f in
    let g = fields.in_g in
    let fr = x.f.rows in
    let gr = x.g.rows in
    rw (
      pair-byte x.f.a x.f.b f.a f.b,
      pair-byte x.f.c x.f.d f.c f.d,
      pair-byte x.g.a x.g.b g.a g.b,
      pair-byte x.g.c x.g.d g.c g.d,
      pair-byte x.direct (fr / 4096 % 16) fields.direct (field_lt (fr / 4096)),
      pair-byte (fr / 256 % 16) (fr / 16 % 16) (field_lt (fr / 256)) (field_lt (fr / 16)),
      pair-byte (fr / 1 % 16) (gr / 4096 % 16) (field_lt (fr / 1)) (field_lt (gr / 4096)),
      pair-byte (gr / 256 % 16) (gr / 16 % 16) (field_lt (gr / 256)) (field_lt (gr / 16)),
      pair-byte (gr / 1 % 16) (x.h / 16 % 16) (field_lt (gr / 1)) (field_lt (x.h / 16)),
      pair-byte (x.h / 1 % 16) 0 (field_lt (x.h / 1)) (omega arith),
    )

-- what is packed are bytes
pub packed-bytes : (n : ℕ) (b : Block) → Acceptable n b → Bytes (pack_of b)
packed-bytes n b given =
    let bytes = bytes_of (pack_of (block_of (parts_of b))) (packed-pairs (parts_of b) (small n b given)) in
    rw (device-parts b given.device) at bytes

-- the order of blocks is that of their numbers
pub comes_before-number : (n m : ℕ) (b c : Block) → Acceptable n b → Acceptable m c
    → comes_before b c ≡ ltb (bytes_number 0 (pack_of b)) (bytes_number 0 (pack_of c))
unfolding comes_before
comes_before-number n m b c p q =
    before-number 0 (pack_of b) (pack_of c) (packed-ten n b p ∙ sym (packed-ten m c q))
    (packed-bytes n b p) (packed-bytes m c q)
