-- A part whose first line was opened and whose other lines were gathered: its refusal and its table.
-- Assumes nothing.
use Rattle.std.specs.Prelude.{Err, Ok}
use mathlib.Core.Path.{◌≡◌, refl, sym, ap, ◌∙◌}
use mathlib.Core.Bool.{true, false, ◌&&◌}
use mathlib.Core.List.{List, [], ◌∷◌}
use Prim.Native.Nat.{ℕ, ◌≤◌, ◌<◌}
use native.Mathlib.Omega.{arith}
use lib.Dec.{ltb}
use lib.ListN.{length}
use borrow.Author.Tests.{lt-ltb, le-ltb}
use Rattle.bits.specs.Tests.{pick, all}
use Rattle.block.specs.declared.Refusal.{Refusal}
use Rattle.block.specs.declared.Refusal.TheVariants.{NoCover, TooManyInputs, NameTwice, BothOutputs}
use Rattle.block.specs.Table.{table_bytes}
use Rattle.block.specs.Refusal.{number_of}
use Rattle.block.specs.Answer.{answered}
use Rattle.block.proofs.AnswerLaws.{answered-parts, answered-refused, written-number}
use Rattle.block.proofs.TableLaws.{table_of-length}
use Rattle.words.specs.Text.{Word, words_of}
use Rattle.words.specs.Left.{words_left}
use Rattle.marks.specs.Rows.{rows_table, WritesRows}
use Rattle.blif.specs.declared.names.Names.{Names}
use Rattle.blif.specs.declared.lines.Gathered.{Gathered}
use Rattle.blif.specs.Part.{names_of, inputs_of, opens, is_cover_line, is_part, repeats, both_outputs}
use Rattle.blif.specs.Cover.{cover_table, cover_refusal, ReadsPart}
use Rattle.blif.specs.Reading.{Opened, AllGathered}
use Rattle.blif.proofs.ReadLaws.{part-refused, table-turned}

-- a text without words is no part
pub nothing_read : (content : List (List Word)) (before : List ℕ) → content ≡ []
    → ReadsPart content before before (Err NoCover)
unfolding cover_refusal is_part opens
nothing_read content before none = rw none (part-refused [] NoCover before refl)

-- a line that opens no part
pub unopened : (line : List Word) (lines : List (List Word)) (before : List ℕ)
    → opens (line ∷ lines) ≡ false → ReadsPart (line ∷ lines) before before (Err NoCover)
unfolding cover_refusal is_part
unopened line lines before none = part-refused (line ∷ lines) NoCover before (rw none)

module _ (line : List ℕ) (lines : List (List Word)) (names : Names) (opened : Opened line names) where
  abbrev content : List (List Word)
  content = words_of line ∷ lines

  names_are : names_of content ≡ words_left names.words
  names_are = rw opened.words

  inputs_are : inputs_of content ≡ names.inputs
  inputs_are = let many = opened.many in rw names_are (omega arith)

  -- a line after it is no cover line
  pub part-misses : all (is_cover_line names.inputs) lines ≡ false → (before : List ℕ)
      → ReadsPart content before before (Err NoCover)
  unfolding cover_refusal is_part
  part-misses other before =
      part-refused content NoCover before (rw (opened.good lines, inputs_are, other))

  module _ (g : Gathered) (so : AllGathered names.inputs lines g) where
    part-is : is_part content ≡ true
    unfolding is_part
    part-is = rw (opened.good lines, inputs_are) so.good

    both-are : both_outputs lines ≡ (g.ones && g.zeros)
    unfolding both_outputs
    both-are = rw (so.ones, so.zeros)

    pub part-wide : 9 < names.inputs → (before : List ℕ) → ReadsPart content before before (Err TooManyInputs)
    unfolding cover_refusal
    part-wide wide before =
        part-refused content TooManyInputs before (rw (part-is, inputs_are, lt-ltb 9 names.inputs wide))

    module _ (few : names.inputs ≤ 9) where
      pub part-twice : repeats (words_left names.words) ≡ true → (before : List ℕ)
          → ReadsPart content before before (Err NameTwice)
      unfolding cover_refusal
      part-twice twice before =
          part-refused content NameTwice before
          (rw (part-is, inputs_are, le-ltb 9 names.inputs few, names_are, twice))

      module _ (apart : repeats (words_left names.words) ≡ false) where
        pub part-both : (g.ones && g.zeros) ≡ true → (before : List ℕ)
            → ReadsPart content before before (Err BothOutputs)
        unfolding cover_refusal
        part-both both before =
            part-refused content BothOutputs before
            (rw (part-is, inputs_are, le-ltb 9 names.inputs few, names_are, apart, both-are ∙ both))

        module _ (one_sided : (g.ones && g.zeros) ≡ false) where
          refusal_is : (room : ℕ)
              → cover_refusal content room ≡ pick (ltb room (table_bytes names.inputs)) 5 0
          unfolding cover_refusal
          refusal_is room =
              rw (
                part-is,
                inputs_are,
                le-ltb 9 names.inputs few,
                names_are,
                apart,
                both-are ∙ one_sided,
              )

          table_is : rows_table names.inputs g.rows.words g.zeros ≡ cover_table content
          unfolding cover_table
          table_is = table-turned names.inputs lines g few so (both-are ∙ one_sided) ∙ rw inputs_are

          module _ (before after : List ℕ) where
            -- too little room
            pub part-short : (k : Refusal) → WritesRows names.inputs g.rows.words g.zeros before after (Err k)
                → ReadsPart content before after (Err k)
            part-short k w =
                let table = rows_table names.inputs g.rows.words g.zeros in
                let refused = rw (le-ltb 9 names.inputs few) at (written-number _ table before after (Err k) w) in
                let number : number_of k ≡ cover_refusal content (length before) =
                refused ∙ sym (refusal_is (length before)) in
                let parts : ℕ × ℕ = (inputs_of content, table_bytes (inputs_of content)) in
                record {
                  told =
                      sym (answered-refused (0, 0) parts k) ∙ ap (λ (m : ℕ). answered m (0, 0) parts) number;
                  kept =
                      rw (refusal_is (length before), ← table_is) (rw (le-ltb 9 names.inputs few) at w.kept);
                }

            pub part-written : (used : ℕ)
                → WritesRows names.inputs g.rows.words g.zeros before after (Ok used)
                → ReadsPart content before after (Ok (record { n = names.inputs; used = used }))
            part-written used w =
                let table = rows_table names.inputs g.rows.words g.zeros in
                let short = pick (ltb (length before) (table_bytes names.inputs)) 5 0 in
                let told = rw (le-ltb 9 names.inputs few) at w.told in
                let parts = answered-parts short 0 (length table) used told in
                record {
                  told = rw (refusal_is (length before), inputs_are, parts.0, parts.1, table_of-length);
                  kept =
                      rw (refusal_is (length before), ← table_is) (rw (le-ltb 9 names.inputs few) at w.kept);
                }
