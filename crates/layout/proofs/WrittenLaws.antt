-- Every table written as a cover, one line for each row at which it is `value`, reads back as itself.
-- Assumes nothing.
use Rattle.std.specs.Prelude.{Ok, Result}
use Rattle.block.specs.declared.Refusal.{Refusal}
use mathlib.Core.Path.{◌≡◌, ◌∙◌}
use mathlib.Core.Bool.{true}
use mathlib.Core.List.{List, [], ◌∷◌, ◌++◌}
use Prim.Native.Nat.{ℕ, suc, ◌<◌, ◌≤◌}
use native.Mathlib.Omega.{arith}
use lib.Dec.{eqb}
use lib.ListN.{length, drop, length-append}
use borrow.Author.Tests.{lt-ltb, le-ltb}
use Rattle.bits.specs.Bits.{Bytes}
use Rattle.bits.proofs.AnyLaws.{all_append}
use Rattle.block.specs.Table.{table_bytes, table_bit}
use Rattle.block.specs.Refusal.{table_refusal}
use Rattle.block.proofs.TableLaws.{well-formed, table_of-ext, table_of-table}
use Rattle.words.specs.Text.{content_of}
use Rattle.blif.specs.declared.Cover.{Cover}
use Rattle.blif.specs.Part.{is_name, inputs_of, opens, is_part}
use Rattle.blif.specs.Cover.{value_at, cover_table, cover_refusal, ReadsPart, Reads}
use Rattle.blif.proofs.CoverLaws.{same-cover}
use Rattle.layout.specs.Written.{input_names, output_name, header_of, row_lines, cover_content}
use Rattle.layout.specs.Written.{cover_text, HasRow}
use Rattle.words.proofs.PlainLaws.{is_plain}
use Rattle.layout.proofs.TextLaws.{is_written, content-text}
use Rattle.layout.proofs.NameLaws.{names-length, names-plain, names-named, names_apart}
use Rattle.layout.proofs.RowLaws.{lines-cover, lines-written, lines-value, lines-one-sided}

-- the first line
header-length : (n : ℕ) → length (input_names 0 n ++ output_name ∷ []) ≡ suc n
header-length n = length-append (input_names 0 n) (output_name ∷ []) ∙ omega (arith, names-length 0 n)

header-written : (n : ℕ) → is_written (header_of n) ≡ true
header-written n =
    rw (
      header-length n,
      lt-ltb 0 (suc (suc n)) (omega arith),
      all_append is_plain (input_names 0 n) (output_name ∷ []),
      names-plain 0 n,
    )

-- the content of the text
pub written-content : (value n : ℕ) (t : List ℕ)
    → content_of (cover_text value n t) ≡ cover_content value n t
unfolding cover_text
written-content value n t =
    content-text (cover_content value n t) (rw (header-written n) (lines-written value n t))

module _ (value n : ℕ) (t : List ℕ) where
  written-inputs : inputs_of (cover_content value n t) ≡ n
  written-inputs = omega (arith, header-length n)

  module _ (two : value < 2) (none : table_refusal n t ≡ 0) where
    within : n ≤ 9
    within = (well-formed n t none).within

    written-part : is_part (cover_content value n t) ≡ true
    unfolding is_part opens
    written-part =
        rw (
          written-inputs,
          header-length n,
          lt-ltb 0 (suc n) (omega arith),
          all_append is_name (input_names 0 n) (output_name ∷ []),
          names-named 0 n (omega (arith, within)),
        )
        (lines-cover value n t two)

    written-accepted : (room : ℕ) → table_bytes n ≤ room → cover_refusal (cover_content value n t) room ≡ 0
    unfolding cover_refusal
    written-accepted room fits =
        rw (
          written-part,
          written-inputs,
          le-ltb 9 n within,
          names_apart 0 n (omega (arith, within)),
          lines-one-sided value n t two,
          le-ltb room (table_bytes n) fits,
        )

    written-table : (value ≡ 0 → HasRow 0 n t) → Bytes t → cover_table (cover_content value n t) ≡ t
    unfolding cover_table
    written-table some bytes =
        rw written-inputs
        (table_of-ext n (value_at (row_lines value n t)) (λ r. eqb (table_bit t r) 1)
        (lines-value value n t two some)
        ∙ table_of-table n t none bytes)

-- what reading such a text answers and writes; an off-set has a row at which the table is 0
pub written_back : (value n : ℕ) (t before after : List ℕ) (r : Result Cover Refusal) → value < 2
    → (value ≡ 0 → HasRow 0 n t) → table_refusal n t ≡ 0 → Bytes t
    → table_bytes n ≤ length before → Reads (cover_text value n t) before after r
    → (r ≡ Ok (record { n = n; used = table_bytes n })) × (after ≡ t ++ drop (table_bytes n) before)
written_back value n t before after r two some none bytes fits read =
    let content = cover_content value n t in
    let part : ReadsPart content before after r = rw (written-content value n t) at read in
    let accepted = written-accepted value n t two none (length before) fits in
    let told = rw (accepted, written-inputs value n t) at part.told in
    let kept = rw (accepted, written-table value n t two none some bytes) at part.kept in
    (same-cover r (Ok (record { n = n; used = table_bytes n })) told, rw (well-formed n t none).sized at kept)
