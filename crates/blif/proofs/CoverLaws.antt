-- What a cover promises leaves one answer and one buffer, and a table that was read is well-formed: its
-- bits are the cover's values. Assumes nothing.
use Rattle.std.specs.Prelude.{Err, Ok, Result}
use Rattle.block.specs.declared.Refusal.{Refusal}
use mathlib.Core.Path.{◌≡◌, sym, ap, ◌∙◌}
use mathlib.Core.Bool.{true, false, not}
use mathlib.Core.List.{List, ◌++◌}
use Prim.Native.Nat.{ℕ, ◌≤◌, ◌<◌}
use lib.Dec.{ltb}
use lib.ListN.{length, take, drop}
use lib.Seq.{take_at}
use borrow.Author.Tests.{not-false, ltb-false}
use Rattle.bits.specs.Bits.{num}
use Rattle.bits.specs.Tests.{pick}
use Rattle.block.specs.Table.{table_rows, table_bytes, table_bit}
use Rattle.block.specs.Refusal.{too_many_inputs, table_refusal}
use Rattle.block.specs.Answer.{Answer, buffer_after}
use Rattle.block.proofs.RefusalLaws.{number-injective, pick-zero}
use Rattle.block.proofs.AnswerLaws.{never-refused, answered-parts}
use Rattle.block.proofs.TableLaws.{bytes_most, table_of-length, table_of-bit, table_of-fits}
use Rattle.words.specs.Text.{Word, content_of}
use Rattle.blif.specs.declared.Cover.{Cover}
use Rattle.blif.specs.Part.{names_of, cover_of, inputs_of, is_part, repeats, both_outputs}
use Rattle.blif.specs.Cover.{value_at, cover_table, cover_refusal, read_of, ReadsPart, Reads}

abbrev Pair : Type 0
Pair = ℕ × ℕ

abbrev cover_of_parts : Pair → Cover
cover_of_parts p = record { n = p.0; used = p.1 }

pub same-cover : (r q : Result Cover Refusal) → read_of r ≡ read_of q → r ≡ q
same-cover (Ok x) (Ok y) e =
    ap (λ (p : Pair). Ok (cover_of_parts p)) (ap (λ (a : Answer Pair). a.parts) e)
same-cover (Ok x) (Err k) e = absurd (never-refused (x.n, x.used) (0, 0) k e)
same-cover (Err k) (Ok x) e = absurd (never-refused (x.n, x.used) (0, 0) k (sym e))
same-cover (Err k) (Err m) e =
    ap Err (number-injective k m (ap (λ (a : Answer Pair). a.number) e))

pub reads-unique : (text before after after' : List ℕ) (r q : Result Cover Refusal)
    → Reads text before after r → Reads text before after' q → (r ≡ q) × (after ≡ after')
reads-unique text before after after' r q p p' =
    (same-cover r q (p.told ∙ sym p'.told), p.kept ∙ sym p'.kept)

-- what a part has that is not refused
pub record Accepted (content : List (List Word)) (room : ℕ) : Type 0 where
  pub part : is_part content ≡ true
  pub within : inputs_of content ≤ 9
  pub apart : repeats (names_of content) ≡ false
  pub one-sided : both_outputs (cover_of content) ≡ false
  pub fits : table_bytes (inputs_of content) ≤ room

pub accepted : (content : List (List Word)) (room : ℕ) → cover_refusal content room ≡ 0
    → Accepted content room
unfolding cover_refusal
accepted content room none =
    let many = too_many_inputs (inputs_of content) in
    let twice = repeats (names_of content) in
    let both = both_outputs (cover_of content) in
    let short = ltb room (table_bytes (inputs_of content)) in
    let after-17 : ℕ = pick short 5 0 in
    let after-16 : ℕ = pick both 17 after-17 in
    let after-1 : ℕ = pick twice 16 after-16 in
    let fifteen = pick-zero (not (is_part content)) 14 (pick many 1 after-1) none in
    let one = pick-zero many 0 after-1 fifteen.1 in
    let sixteen = pick-zero twice 15 after-16 one.1 in
    let seventeen = pick-zero both 16 after-17 sixteen.1 in
    let five = pick-zero short 4 0 seventeen.1 in
    record {
      part = not-false _ fifteen.0;
      within = ltb-false 9 (inputs_of content) one.0;
      apart = sixteen.0;
      one-sided = seventeen.0;
      fits = ltb-false room (table_bytes (inputs_of content)) five.0;
    }

-- what was read where a table was answered
pub record ReadTable (content : List (List Word)) (before after : List ℕ) (n used : ℕ) : Type 0 where
  pub none : cover_refusal content (length before) ≡ 0
  pub inputs : n ≡ inputs_of content
  pub table : take used after ≡ cover_table content

cover_table-length : (content : List (List Word))
    → length (cover_table content) ≡ table_bytes (inputs_of content)
unfolding cover_table
cover_table-length content = table_of-length (inputs_of content) (value_at (cover_of content))

module _ (content : List (List Word)) (before after : List ℕ) (x : Cover)
    (read : ReadsPart content before after (Ok x)) where
  pub read_table : ReadTable content before after x.n x.used
  read_table =
      let refusal = cover_refusal content (length before) in
      let t = cover_table content in
      let inputs = inputs_of content in
      let told = answered-parts refusal (0, 0) (inputs, table_bytes inputs) (x.n, x.used) read.told in
      let kept : after ≡ t ++ drop (length t) before =
      read.kept ∙ ap (λ (k : ℕ). buffer_after k t before) told.0 in
      let length-used : length t ≡ x.used =
      cover_table-length content ∙ sym (ap (λ (p : Pair). p.1) told.1) in
      record {
        none = told.0;
        inputs = ap (λ (p : Pair). p.0) told.1;
        table = ap (take x.used) kept ∙ take_at t (drop (length t) before) x.used length-used;
      }

module _ (text before after : List ℕ) (x : Cover) (read : Reads text before after (Ok x)) where
  -- it fills what the longest table does at most
  pub read-used : x.used ≤ 64
  read-used =
      let content = content_of text in
      let inputs = inputs_of content in
      let refusal = cover_refusal content (length before) in
      let told = answered-parts refusal (0, 0) (inputs, table_bytes inputs) (x.n, x.used) read.told in
      let long : x.used ≡ table_bytes inputs = ap (λ (p : Pair). p.1) told.1 in
      rw long (bytes_most inputs (accepted content (length before) told.0).within)

  pub read-inputs : x.n ≤ 9
  read-inputs =
      let content = content_of text in
      let found = read_table content before after x read in
      rw found.inputs (accepted content (length before) found.none).within

  -- the matcher never refuses it with 1, 2 or 3
  pub read-well-formed : table_refusal x.n (take x.used after) ≡ 0
  unfolding cover_table
  read-well-formed =
      let content = content_of text in
      let found = read_table content before after x read in
      let within = (accepted content (length before) found.none).within in
      rw (found.table, found.inputs)
      (table_of-fits (inputs_of content) (value_at (cover_of content)) within)

  -- its bit at a row is the cover's value there
  pub read-bit : (r : ℕ) → r < table_rows x.n
      → table_bit (take x.used after) r ≡ num (value_at (cover_of (content_of text)) r)
  unfolding cover_table
  read-bit r l =
      let content = content_of text in
      let found = read_table content before after x read in
      rw found.table
      (table_of-bit (inputs_of content) (value_at (cover_of content)) r (rw found.inputs at l))
