-- Unpacking what was packed gives the same fields and tables, and accepted bytes repack to
-- themselves. Assumes nothing.
use mathlib.Core.Path.{◌≡◌, sym, ap, ◌∙◌}
use mathlib.Core.List.{List, [], ◌∷◌, ◌++◌}
use Prim.Native.Nat.{ℕ, suc, ◌+◌, ◌*◌, ◌/◌, ◌%◌, ◌<◌}
use native.Mathlib.Omega.{arith}
use lib.ListN.{length, get_or}
use Rattle.bits.specs.Bits.{nibble, nibbles, joined, split, bytes_of, Bytes}
use Rattle.bits.proofs.FieldLaws.{field_lt, nibble-lt, high-field, low_field, same_byte, joined-split}
use Rattle.bits.proofs.FieldLaws.{split-four, split-two, four-of, ten-of}
use Rattle.block.specs.declared.Parts.{Parts}
use Rattle.block.specs.Block.{Block, Device}
use Rattle.block.specs.Code.{block_of}
use Rattle.codec.specs.Ten.{pack_of, fields_of, unpack_of, last_bits, FieldsOfFour}
use Rattle.codec.proofs.UnpackLaws.{parts_of}

-- a block of the device is its parts
pub device-parts : (b : Block) → Device b → block_of (parts_of b) ≡ b
device-parts b d = rw (← four-of b.f.pins d.in_f.four, ← four-of b.g.pins d.in_g.four)

-- sixteen rows, and eight, put together again from their fields
rows-again : (x : ℕ) → x < 65536 → joined 0 (split 4 x) ≡ x
rows-again x l = omega (arith, joined-split 4 0 x)

eight-again : (x : ℕ) → x < 256 → joined 0 (split 2 x) ≡ x
eight-again x l = omega (arith, joined-split 2 0 x)

module _ (x : Parts) (small : FieldsOfFour x)
    (f-fits : x.f.rows < 65536) (g-fits : x.g.rows < 65536) (h_fits : x.h < 256) where
  pub parts_again : unpack_of (pack_of (block_of x)) ≡ block_of x
  unfolding unpack_of pack_of
  parts_again =
      let f = small.in_f in
      let g = small.in_g in
      let fr = x.f.rows in
      let gr = x.g.rows in
      rw (
        high-field x.f.a x.f.b f.a f.b,
        low_field x.f.a x.f.b f.b,
        high-field x.f.c x.f.d f.c f.d,
        low_field x.f.c x.f.d f.d,
        high-field x.g.a x.g.b g.a g.b,
        low_field x.g.a x.g.b g.b,
        high-field x.g.c x.g.d g.c g.d,
        low_field x.g.c x.g.d g.d,
        high-field x.direct (fr / 4096 % 16) small.direct (field_lt (fr / 4096)),
        low_field x.direct (fr / 4096 % 16) (field_lt (fr / 4096)),
        high-field (fr / 256 % 16) (fr / 16 % 16) (field_lt (fr / 256)) (field_lt (fr / 16)),
        low_field (fr / 256 % 16) (fr / 16 % 16) (field_lt (fr / 16)),
        high-field (fr / 1 % 16) (gr / 4096 % 16) (field_lt (fr / 1)) (field_lt (gr / 4096)),
        low_field (fr / 1 % 16) (gr / 4096 % 16) (field_lt (gr / 4096)),
        high-field (gr / 256 % 16) (gr / 16 % 16) (field_lt (gr / 256)) (field_lt (gr / 16)),
        low_field (gr / 256 % 16) (gr / 16 % 16) (field_lt (gr / 16)),
        high-field (gr / 1 % 16) (x.h / 16 % 16) (field_lt (gr / 1)) (field_lt (x.h / 16)),
        low_field (gr / 1 % 16) (x.h / 16 % 16) (field_lt (x.h / 16)),
        high-field (x.h / 1 % 16) 0 (field_lt (x.h / 1)) (omega arith),
        rows-again fr f-fits,
        rows-again gr g-fits,
        eight-again x.h h_fits,
      )

-- the fields of ten bytes, all but the last
module _ (s : List ℕ) where
  rows-fields : (i : ℕ) → split 4 (joined 0 (nibbles s i 4)) ≡ nibbles s i 4
  rows-fields i =
      split-four _ _ _ _
      (nibble-lt s i) (nibble-lt s (suc i)) (nibble-lt s (suc (suc i))) (nibble-lt s (suc (suc (suc i))))

  eight-fields : split 2 (joined 0 (nibbles s 17 2)) ≡ nibbles s 17 2
  eight-fields = split-two _ _ (nibble-lt s 17) (nibble-lt s 18)

  unpacked-fields : fields_of (unpack_of s)
      ≡ nibbles s 0 4
      ++ (nibbles s 4 4 ++ (nibble s 8 ∷ (nibbles s 9 4 ++ (nibbles s 13 4 ++ (nibbles s 17 2 ++ (0 ∷ []))))))
  unfolding unpack_of
  unpacked-fields =
      let tail : List ℕ → List ℕ → List ℕ → List ℕ =
      λ f g h. nibbles s 0 4 ++ (nibbles s 4 4 ++ (nibble s 8 ∷ (f ++ (g ++ (h ++ (0 ∷ [])))))) in
      let g = split 4 (joined 0 (nibbles s 13 4)) in
      let h = split 2 (joined 0 (nibbles s 17 2)) in
      ap (λ (l : List ℕ). tail l g h) (rows-fields 9)
      ∙ ap (λ (l : List ℕ). tail (nibbles s 9 4) l h) (rows-fields 13)
      ∙ ap (λ (l : List ℕ). tail (nibbles s 9 4) (nibbles s 13 4) l) eight-fields

  pub bytes-again : length s ≡ 10 → Bytes s → last_bits s ≡ 0 → pack_of (unpack_of s) ≡ s
  unfolding pack_of
  bytes-again ten bytes last =
      let last_byte : get_or s 9 0 / 16 % 16 * 16 + 0 ≡ get_or s 9 0 = omega (arith, bytes 9) in
      ap bytes_of unpacked-fields
      ∙ rw (
        same_byte (get_or s 0 0) (bytes 0),
        same_byte (get_or s 1 0) (bytes 1),
        same_byte (get_or s 2 0) (bytes 2),
        same_byte (get_or s 3 0) (bytes 3),
        same_byte (get_or s 4 0) (bytes 4),
        same_byte (get_or s 5 0) (bytes 5),
        same_byte (get_or s 6 0) (bytes 6),
        same_byte (get_or s 7 0) (bytes 7),
        same_byte (get_or s 8 0) (bytes 8),
        last_byte,
      )
      (sym (ten-of s ten))
