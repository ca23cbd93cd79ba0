-- From what was gathered of a part to its table or its refusal. Assumes nothing.
use Rattle.std.specs.Prelude.{Err}
use mathlib.Core.Path.{◌≡◌, refl, sym, ap, ◌∙◌}
use mathlib.Core.Bool.{Bool, true, false, ◌||◌, or_comm, or-false, and-true}
use mathlib.Core.List.{List, [], ◌∷◌}
use Prim.Native.Nat.{ℕ, ◌≤◌}
use native.Mathlib.Omega.{arith}
use lib.Dec.{eqb}
use lib.Pow.{pow_mono}
use lib.ListN.{length}
use Rattle.bits.specs.Tests.{◌⊕◌, all, any}
use Rattle.bits.proofs.TestLaws.{both_left, both_right, either-false}
use Rattle.bits.proofs.SearchLaws.{byBool, clash}
use Rattle.block.specs.declared.Refusal.{Refusal}
use Rattle.block.specs.Table.{table_bytes, table_of}
use Rattle.block.specs.Refusal.{number_of}
use Rattle.block.specs.Answer.{answered, buffer_after}
use Rattle.block.proofs.AnswerLaws.{answered-refused}
use Rattle.block.proofs.RefusalLaws.{at-refusal}
use Rattle.block.proofs.TableLaws.{table_of-ext}
use Rattle.words.specs.Text.{Word}
use Rattle.marks.specs.Rows.{rows_table}
use Rattle.blif.specs.declared.lines.Gathered.{Gathered}
use Rattle.blif.specs.Part.{inputs_of, marks_of, gives, line_words, fits_marks, is_cover_line, both_outputs}
use Rattle.blif.specs.Cover.{covered, value_at, cover_table, cover_refusal, ReadsPart}
use Rattle.blif.specs.Reading.{some_covers, AllGathered}

-- a refusal of the whole part
pub part-refused : (content : List (List Word)) (k : Refusal) (before : List ℕ)
    → number_of k ≡ cover_refusal content (length before)
    → ReadsPart content before before (Err k)
part-refused content k before e =
    record {
      told =
          sym (answered-refused (0, 0) (inputs_of content, table_bytes (inputs_of content)) k)
          ∙ ap (λ (m : ℕ). answered m (0, 0) (inputs_of content, table_bytes (inputs_of content))) e;
      kept =
          at-refusal (λ m. before ≡ buffer_after m (cover_table content) before) (λ m. refl) k
          ∙ ap (λ (m : ℕ). buffer_after m (cover_table content) before) e;
    }

-- a line that is a cover line has one of the two outputs
cover-output : (inputs : ℕ) (line : List Word) → is_cover_line inputs line ≡ true
    → (gives 1 line || gives 0 line) ≡ true
unfolding is_cover_line
cover-output inputs line e =
    let inner = both_right (eqb (length line) (line_words inputs)) _ e in
    both_right (fits_marks inputs (marks_of line)) _ inner

or_left : (a b : Bool) → a || b ≡ true → b ≡ false → a ≡ true
or_left true b e f = refl
or_left false b e f = clash e f

-- lines of which none has the other output: some line with this output covers the row exactly if some
-- line does
covered-all : (inputs value other : ℕ) (lines : List (List Word)) (row : ℕ)
    → ((line : List Word) → is_cover_line inputs line ≡ true → (gives value line || gives other line) ≡ true)
    → all (is_cover_line inputs) lines ≡ true → any (gives other) lines ≡ false
    → covered value lines row ≡ some_covers lines row
unfolding some_covers
covered-all inputs value other [] row either good none = refl
covered-all inputs value other (line ∷ lines) row either good none =
    let here = either-false (gives other line) (any (gives other) lines) none in
    let out = or_left (gives value line) (gives other line)
    (either line (both_left (is_cover_line inputs line) _ good)) here.0 in
    rw (
      out,
      covered-all inputs value other lines row either
          (both_right (is_cover_line inputs line) _ good) here.1,
    )

-- lines without this output cover nothing by it
covered_none : (value : ℕ) (lines : List (List Word)) (row : ℕ) → any (gives value) lines ≡ false
    → covered value lines row ≡ false
covered_none value [] row none = refl
covered_none value (line ∷ lines) row none =
    let here = either-false (gives value line) (any (gives value) lines) none in
    rw (here.0, covered_none value lines row here.1)

-- lines with one output: with 0 they list where the function is 0
value-turned : (inputs : ℕ) (lines : List (List Word)) (row : ℕ)
    → all (is_cover_line inputs) lines ≡ true → both_outputs lines ≡ false
    → value_at lines row ≡ any (gives 0) lines ⊕ some_covers lines row
unfolding value_at both_outputs
value-turned inputs lines row good apart =
    byBool (any (gives 0) lines)
    (λ zeros.
    let no_ones : any (gives 1) lines ≡ false = rw (zeros, and-true) at apart in
    rw (
      zeros,
      covered_none 1 lines row no_ones,
      covered-all inputs 0 1 lines row
          (λ line e. or_comm (gives 0 line) (gives 1 line) ∙ cover-output inputs line e) good no_ones,
    ))
    (λ none.
    rw (none, covered-all inputs 1 0 lines row (cover-output inputs) good none)
    (or-false (some_covers lines row)))

-- the table that is written is the part's
pub table-turned : (inputs : ℕ) (lines : List (List Word)) (g : Gathered) → inputs ≤ 9
    → AllGathered inputs lines g → both_outputs lines ≡ false
    → rows_table inputs g.rows.words g.zeros ≡ table_of inputs (value_at lines)
table-turned inputs lines g few so apart =
    table_of-ext inputs _ _ (λ row l.
    let most = pow_mono few in
    rw (so.zeros, so.rows few row (omega arith))
    (sym (value-turned inputs lines row so.good apart)))
