-- The order of cover lines, how often each stands, and the names do not change what is read. Assumes
-- nothing.
use Rattle.std.specs.Prelude.{Result}
use Rattle.block.specs.declared.Refusal.{Refusal}
use mathlib.Core.Path.{◌≡◌, refl, fun_ext}
use mathlib.Core.Bool.{true, false, ◌&&◌}
use mathlib.Core.List.{List, [], ◌∷◌}
use Prim.Native.Nat.{ℕ}
use lib.ListN.{length}
use Rattle.bits.specs.Elements.{SameElements}
use Rattle.bits.proofs.AnyLaws.{any_same, all_same}
use Rattle.words.specs.Text.{Word, content_of}
use Rattle.marks.specs.Marks.{covers}
use Rattle.blif.specs.declared.Cover.{Cover}
use Rattle.blif.specs.Part.{names_of, inputs_of, marks_of, gives, is_cover_line, opens, is_part}
use Rattle.blif.specs.Part.{repeats, both_outputs}
use Rattle.blif.specs.Cover.{value_at, cover_table, cover_refusal, ReadsPart, Reads}

module _ (a b : List (List Word)) (same : SameElements a b) where
  same-value : (r : ℕ) → value_at a r ≡ value_at b r
  unfolding value_at
  same-value r =
      rw (
        any_same (λ line. gives 1 line && covers (marks_of line) r) a b same,
        any_same (gives 0) a b same,
        any_same (λ line. gives 0 line && covers (marks_of line) r) a b same,
      )

  same-outputs : both_outputs a ≡ both_outputs b
  unfolding both_outputs
  same-outputs = rw (any_same (gives 1) a b same, any_same (gives 0) a b same)

  same_names : (first : List Word) → names_of (first ∷ a) ≡ names_of (first ∷ b)
  same_names [] = refl
  same_names (word ∷ names) = refl

  same-part : (first : List Word) → is_part (first ∷ a) ≡ is_part (first ∷ b)
  unfolding is_part opens
  same-part [] = refl
  same-part (word ∷ names) = rw (all_same (is_cover_line (inputs_of ((word ∷ names) ∷ b))) a b same)

  pub same_lines : (first : List Word) (room : ℕ)
      → (cover_refusal (first ∷ a) room ≡ cover_refusal (first ∷ b) room)
      × (cover_table (first ∷ a) ≡ cover_table (first ∷ b))
  unfolding cover_refusal cover_table
  same_lines [] room = (rw (same-part [], same-outputs), rw (fun_ext same-value))
  same_lines (word ∷ names) room =
      (rw (same-part (word ∷ names), same-outputs), rw (fun_ext same-value))

  -- the two parts are read the same
  pub lines-read : (first : List Word) (before after : List ℕ) (r : Result Cover Refusal)
      → ReadsPart (first ∷ a) before after r → ReadsPart (first ∷ b) before after r
  lines-read first before after r read =
      let same = same_lines first (length before) in
      record {
        told = rw (same.0, same_names first) at read.told;
        kept = rw (same.0, same.1) at read.kept;
      }

-- so are two texts with the same first line and the same others, in any order and number
pub order-read : (text text' : List ℕ) (first : List Word) (a b : List (List Word))
    → content_of text ≡ first ∷ a → content_of text' ≡ first ∷ b → SameElements a b
    → (before after : List ℕ) (r : Result Cover Refusal) → Reads text before after r → Reads text' before after r
order-read text text' first a b e e' same before after r read =
    rw e' (lines-read a b same first before after r (rw e at read))

-- the names are forgotten: first lines of equally many names, none of them repeated, are read the same
-- before the same cover lines
module _ (f f' : List Word) (lines : List (List Word))
    (count : length (names_of (f ∷ lines)) ≡ length (names_of (f' ∷ lines)))
    (opened : opens (f ∷ lines) ≡ true) (opened' : opens (f' ∷ lines) ≡ true)
    (apart : repeats (names_of (f ∷ lines)) ≡ false)
    (apart' : repeats (names_of (f' ∷ lines)) ≡ false) where
  same-refusal : (room : ℕ) → cover_refusal (f ∷ lines) room ≡ cover_refusal (f' ∷ lines) room
  unfolding cover_refusal is_part
  same-refusal room = rw (opened, opened', apart, apart', count)

  same-table : cover_table (f ∷ lines) ≡ cover_table (f' ∷ lines)
  unfolding cover_table
  same-table = rw count

  pub names-forgotten : (before after : List ℕ) (r : Result Cover Refusal)
      → ReadsPart (f ∷ lines) before after r → ReadsPart (f' ∷ lines) before after r
  names-forgotten before after r read =
      record {
        told = rw (same-refusal (length before), count) at read.told;
        kept = rw (same-refusal (length before), same-table) at read.kept;
      }
