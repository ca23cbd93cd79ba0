-- The round trips over what the packer and the checker accept, and over what the block computes.
-- Assumes nothing.
use mathlib.Core.Path.{◌≡◌, refl, sym, ap, ◌∙◌}
use mathlib.Core.Bool.{true}
use mathlib.Core.List.{List}
use Prim.Native.Nat.{ℕ, ◌<◌, ◌≤◌}
use native.Mathlib.Omega.{arith}
use lib.ListN.{length}
use Rattle.bits.specs.Bits.{Bytes}
use Rattle.block.specs.declared.Parts.{Parts}
use Rattle.block.specs.Block.{Block, Device}
use Rattle.block.specs.Code.{block_of}
use Rattle.block.specs.Table.{table_rows}
use Rattle.block.specs.Tidy.{fields_fit}
use Rattle.block.specs.Value.{block_value}
use Rattle.block.specs.Answer.{answer}
use Rattle.codec.specs.Ten.{pack_of, unpack_of, last_bits, FieldsOfFour}
use Rattle.codec.specs.Check.{check_refusal, pack_refusal, Accepted}
use Rattle.codec.specs.Answers.{unpack_answer}
use Rattle.codec.proofs.UnpackLaws.{parts_of}
use Rattle.codec.proofs.CheckLaws.{accepted-of-none, none-of-accepted}
use Rattle.codec.proofs.PackLaws.{fields-of-four, pack-accepts, packable-of-none}
use Rattle.codec.proofs.TenLaws.{packed-length}
use Rattle.block.proofs.RefusalLaws.{none-of-tidy}
use Rattle.value.specs.Evaluate.{evaluate_answer}
use Rattle.value.proofs.EvaluateLaws.{gives-bit, leaves-row}
use Rattle.round.specs.Acceptable.{Acceptable}
use Rattle.round.proofs.RoundLaws.{device-parts, parts_again, bytes-again}

last-clear : (x : Parts) → last_bits (pack_of (block_of x)) ≡ 0
unfolding pack_of
last-clear x = omega arith

module _ (n : ℕ) (b : Block) (given : Acceptable n b) where
  pub small : FieldsOfFour (parts_of b)
  small =
      let same = device-parts b given.device in
      let fit : fields_fit n (block_of (parts_of b)) ≡ true = rw same given.tidy.fields in
      fields-of-four n (parts_of b) given.within fit

  -- unpacking what was packed gives the same fields and tables
  pub unpack_of-pack_of : unpack_of (pack_of b) ≡ b
  unpack_of-pack_of =
      let d = given.device in
      let same = device-parts b d in
      let again = parts_again (parts_of b) small d.in_f.rows_fit d.in_g.rows_fit d.h_fits in
      rw same at again

  pub packed-ten : length (pack_of b) ≡ 10
  packed-ten =
      let same = device-parts b given.device in
      ap (λ (c : Block). length (pack_of c)) (sym same) ∙ packed-length (parts_of b)

  packed-last : last_bits (pack_of b) ≡ 0
  packed-last =
      let same = device-parts b given.device in
      ap (λ (c : Block). last_bits (pack_of c)) (sym same) ∙ last-clear (parts_of b)

  -- the ten bytes that were packed are accepted
  pub packed-accepted : Accepted n (pack_of b)
  packed-accepted =
      record {
        within = given.within;
        ten = packed-ten;
        tidy = rw unpack_of-pack_of given.tidy;
        last = packed-last;
      }

  pub unpacks-packed : unpack_answer n (pack_of b) ≡ answer 0 b
  unfolding unpack_answer
  unpacks-packed = rw (none-of-accepted n (pack_of b) packed-accepted, unpack_of-pack_of)

  -- evaluating the ten bytes gives C(A, B, xc) of the fields and tables
  pub evaluates-packed : (row : ℕ) → row < table_rows n
      → evaluate_answer n (pack_of b) row ≡ answer 0 (block_value b row)
  evaluates-packed row below =
      sym (leaves-row n (pack_of b) row (none-of-accepted n (pack_of b) packed-accepted))
      ∙ sym (gives-bit n row (block_value (unpack_of (pack_of b)) row) below)
      ∙ ap (λ (c : Block). answer 0 (block_value c row)) unpack_of-pack_of

-- what the packer accepts with any room is what `Acceptable` says of a device
pub acceptable-of-none : (n : ℕ) (b : Block) (room : ℕ) → Device b → pack_refusal n b room ≡ 0
    → Acceptable n b
acceptable-of-none n b room d e =
    let found = packable-of-none n b room e in
    record { within = found.within; device = d; tidy = found.tidy }

pub none-of-acceptable : (n : ℕ) (b : Block) (room : ℕ) → Acceptable n b → 10 ≤ room
    → pack_refusal n b room ≡ 0
none-of-acceptable n b room given enough =
    sym (pack-accepts n b room given.within (sym (none-of-tidy n b given.tidy)) enough)

-- packing is one-to-one
pub pack_of-injective : (n m : ℕ) (b c : Block) → Acceptable n b → Acceptable m c
    → pack_of b ≡ pack_of c → b ≡ c
pack_of-injective n m b c p q e = sym (unpack_of-pack_of n b p) ∙ ap unpack_of e ∙ unpack_of-pack_of m c q

-- ten bytes unpack to a block of the device
pub unpacked-device : (s : List ℕ) → Device (unpack_of s)
unfolding unpack_of
unpacked-device s =
    record {
      in_f = record { four = refl; rows_fit = omega arith };
      in_g = record { four = refl; rows_fit = omega arith };
      h_fits = omega arith;
    }

module _ (n : ℕ) (s : List ℕ) (none : check_refusal n s ≡ 0) where
  -- accepted bytes unpack to what the packer accepts
  pub unpacked-acceptable : Acceptable n (unpack_of s)
  unpacked-acceptable =
      let found = accepted-of-none n s none in
      record { within = found.within; device = unpacked-device s; tidy = found.tidy }

  -- accepted bytes repack to themselves
  pub pack_of-unpack_of : Bytes s → pack_of (unpack_of s) ≡ s
  pack_of-unpack_of bytes =
      let found = accepted-of-none n s none in bytes-again s found.ten bytes found.last

  -- the repacked fields and tables compute, row by row, what the bytes computed
  pub repacked-computes : (row : ℕ) → row < table_rows n
      → evaluate_answer n (pack_of (unpack_of s)) row ≡ evaluate_answer n s row
  repacked-computes row below =
      evaluates-packed n (unpack_of s) unpacked-acceptable row below
      ∙ gives-bit n row (block_value (unpack_of s) row) below
      ∙ leaves-row n s row none
