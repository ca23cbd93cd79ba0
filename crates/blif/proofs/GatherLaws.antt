-- Lines, gathered one after the other. Assumes nothing.
use Rattle.std.specs.Prelude.{Err, Ok, Result}
use mathlib.Core.Path.{◌≡◌, refl, sym, ◌∙◌}
use mathlib.Core.Bool.{true, false, ◌||◌, or_assoc, or-false}
use mathlib.Core.List.{List, [], ◌∷◌}
use Prim.Native.Nat.{ℕ, ◌≤◌, ◌<◌}
use lib.Dec.{eqb}
use lib.ListN.{length, replicate}
use borrow.Author.Tests.{eq-eqb, eqb-true}
use Rattle.bits.specs.Tests.{all, any}
use Rattle.bits.proofs.TestLaws.{both_left, both_right}
use Rattle.block.specs.declared.Refusal.{Refusal}
use Rattle.words.specs.Text.{Word, words_of}
use Rattle.marks.specs.Rows.{is_set}
use Rattle.marks.proofs.RowsLaws.{painted-row, painted-length, is_set-none}
use Rattle.blif.specs.declared.lines.Gathered.{Gathered}
use Rattle.blif.specs.Part.{marks_of, gives, line_words, fits_marks, is_cover_line}
use Rattle.blif.specs.Reading.{Parted, Takes, Added, Adds}
use Rattle.blif.specs.Reading.{some_covers, AllGathered}

-- a cover line has one mark for each input
cover-marks : (inputs : ℕ) (line : List Word) → is_cover_line inputs line ≡ true
    → length (marks_of line) ≡ inputs
unfolding is_cover_line
cover-marks inputs line e =
    let inner = both_right (eqb (length line) (line_words inputs)) _ e in
    let fits = both_left (fits_marks inputs (marks_of line)) _ inner in
    eqb-true _ _ (both_left (eqb (length (marks_of line)) inputs) _ fits)

-- a line with a wrong number of words is no cover line
pub miscounted : (inputs : ℕ) (line : List Word) → eqb (length line) (line_words inputs) ≡ false
    → is_cover_line inputs line ≡ false
unfolding is_cover_line
miscounted inputs line many = rw many

-- a line is one by its marks and its output
pub adds-parted : (inputs : ℕ) (line : List ℕ) (marks output : Word) (g : Gathered) (r : Result Gathered Refusal)
    → Parted inputs line marks output → Takes inputs marks output g r → Adds inputs (words_of line) g r
unfolding is_cover_line
adds-parted inputs line marks output g (Ok next) p t =
    record {
      good = rw (eq-eqb _ _ p.many, p.marks-are, p.output-is) t.0;
      ones = rw (t.1, p.output-is);
      zeros = rw (t.1, p.output-is);
      rows = rw (t.1, p.marks-are);
    }
adds-parted inputs line marks output g (Err k) p t =
    (t.0, rw (eq-eqb _ _ p.many, p.marks-are, p.output-is) t.1)

-- what is gathered of the lines, with the rest still to come
pub record GathersOn (inputs : ℕ) (lines rest : List (List Word)) (g : Gathered) : Type 0 where
  pub good : all (is_cover_line inputs) lines ≡ all (is_cover_line inputs) rest
  pub ones : any (gives 1) lines ≡ (g.ones || any (gives 1) rest)
  pub zeros : any (gives 0) lines ≡ (g.zeros || any (gives 0) rest)
  pub eight : length g.rows.words ≡ 8
  pub rows : inputs ≤ 9 → (row : ℕ) → row < 512
      → some_covers lines row ≡ (is_set g.rows.words row || some_covers rest row)

module _ (inputs : ℕ) (lines : List (List Word)) where
  pub gathers-start : GathersOn inputs lines lines
      (record { ones = false; zeros = false; rows = record { words = replicate 8 0 } })
  gathers-start =
      record {
        good = refl;
        ones = refl;
        zeros = refl;
        eight = refl;
        rows = λ few row l. rw (is_set-none row);
      }

  module _ (rest others : List (List Word)) (line : List Word) (e : rest ≡ line ∷ others) (g : Gathered)
      (so : GathersOn inputs lines rest g) where
    -- one line more
    pub gathers-line : (next : Gathered) → Added inputs line g next → GathersOn inputs lines others next
    unfolding some_covers
    gathers-line next added =
        record {
          good = so.good ∙ rw (e, added.good);
          ones = so.ones ∙ rw (e, added.ones) (sym (or_assoc g.ones _ _));
          zeros = so.zeros ∙ rw (e, added.zeros) (sym (or_assoc g.zeros _ _));
          eight = rw (added.rows, painted-length) so.eight;
          rows =
              λ few row l.
              so.rows few row l
              ∙ rw (
                e,
                added.rows,
                painted-row (marks_of line) g.rows.words row
                    (rw (cover-marks inputs line added.good) few) so.eight l,
              )
              (sym (or_assoc (is_set g.rows.words row) _ _));
        }

    -- a line that is no cover line
    pub gathers-none : is_cover_line inputs line ≡ false → all (is_cover_line inputs) lines ≡ false
    gathers-none other = so.good ∙ rw (e, other)

  -- no line is left
  pub gathers-end : (rest : List (List Word)) (g : Gathered) → rest ≡ [] → GathersOn inputs lines rest g
      → AllGathered inputs lines g
  unfolding some_covers
  gathers-end rest g e so =
      record {
        good = so.good ∙ rw e;
        ones = sym (so.ones ∙ rw e (or-false g.ones));
        zeros = sym (so.zeros ∙ rw e (or-false g.zeros));
        rows = λ few row l. sym (so.rows few row l ∙ rw e (or-false (is_set g.rows.words row)));
      }
