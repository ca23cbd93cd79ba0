-- The number told is 0, 1, 4, 15, 16 or 17: the room is enough for every table, and what was read is a
-- table that the matcher does not refuse with 1, 2, 3 or 5. Assumes nothing.
use Rattle.std.specs.Prelude.{Err, Ok, Result}
use Rattle.block.specs.declared.Refusal.{Refusal}
use mathlib.Core.Path.{◌≡◌, refl, ap, ◌∙◌}
use mathlib.Core.Bool.{Bool, true, false, not}
use mathlib.Core.List.{List}
use mathlib.Core.Logic.{⊎_elim}
use Prim.Native.Nat.{ℕ}
use lib.Dec.{eqb}
use lib.ListN.{length, take}
use borrow.Author.Tests.{le-ltb, ltb-false, eqb-true, ne_eqb}
use Rattle.bits.specs.Tests.{pick}
use Rattle.bits.proofs.SearchLaws.{byBool, clash}
use Rattle.bits.proofs.TestLaws.{or_cases}
use Rattle.block.specs.Table.{table_bytes}
use Rattle.block.specs.Refusal.{too_many_inputs}
use Rattle.block.specs.Answer.{Answer, written_of}
use Rattle.block.proofs.TableLaws.{bytes_most}
use Rattle.block.proofs.AnswerLaws.{answered-number}
use Rattle.codec.specs.Ten.{ten_zeros}
use Rattle.matcher.specs.Match.{Matched}
use Rattle.words.specs.Text.{Word, content_of}
use Rattle.blif.specs.declared.Cover.{Cover}
use Rattle.blif.specs.Part.{names_of, cover_of, inputs_of, is_part, repeats, both_outputs}
use Rattle.blif.specs.Cover.{cover_refusal, table_room, Reads}
use Rattle.line.specs.declared.Said.{Said}
use Rattle.line.specs.Line.{told_number}
use Rattle.line.proofs.LineLaws.{told-written}
use Rattle.desk.specs.Desk.{SaysCover, Tells, IsTold}
use Rattle.desk.proofs.MatchedLaws.{read_number}

pick-told : (fault : Bool) (k m : ℕ) → IsTold k → IsTold m → IsTold (pick fault k m)
pick-told true k m told other = told
pick-told false k m told other = other

-- of reading
reading-told : (content : List (List Word)) → IsTold (cover_refusal content (length table_room))
unfolding cover_refusal IsTold
reading-told content =
    let n = inputs_of content in
    pick-told (not (is_part content)) 15 _ refl
    (byBool (too_many_inputs n) (λ many. rw many refl)
    (λ few.
    rw (few, le-ltb 64 (table_bytes n) (bytes_most n (ltb-false 9 n few)))
    (pick-told (repeats (names_of content)) 16 _ refl (pick-told (both_outputs (cover_of content)) 17 0 refl refl))))

-- of matching what was read
matching-told : (text table ten : List ℕ) (x : Cover) (answer : Result ℕ Refusal)
    → Reads text table_room table (Ok x) → Matched x.n (take x.used table) ten_zeros ten answer
    → IsTold (written_of answer).number
unfolding IsTold
matching-told text table ten x answer read m =
    ⊎_elim (λ e. rw e refl) (λ e. rw e refl)
    (read_number text table_room table x read ten_zeros ten answer m)

cover-told : (text table before after : List ℕ) (cover : Result Cover Refusal) (r : Said) → Reads text table_room table cover
    → SaysCover cover table before after r → IsTold (told_number r.refusal)
unfolding SaysCover
cover-told text table before after (Ok x) r read s =
    rw (s.refusal, told-written s.answer) (matching-told text table s.ten x s.answer read s.matched)
cover-told text table before after (Err k) r read s =
    let refusal = cover_refusal (content_of text) (length table_room) in
    let told = ap (λ (a : Answer (ℕ × ℕ)). a.number) read.told in
    rw (s.refusal, told ∙ answered-number refusal _ _) (reading-told (content_of text))

pub tells-numbers : (text before after : List ℕ) (r : Said) → Tells text before after r → IsTold (told_number r.refusal)
tells-numbers text before after r t =
    cover-told text t.table before after t.cover r t.read t.told

-- of the numbers told, one that is no refusal's is 0
pub told-zero : (number : ℕ) → IsTold number → (number ≡ 1 → ⊥) → (number ≡ 4 → ⊥) → (number ≡ 15 → ⊥)
    → (number ≡ 16 → ⊥) → (number ≡ 17 → ⊥) → number ≡ 0
unfolding IsTold
told-zero number told not-1 not-4 not-15 not_16 not-17 =
    let no-1 = ne_eqb number 1 not-1 in
    let no-4 = ne_eqb number 4 not-4 in
    let no-15 = ne_eqb number 15 not-15 in
    let no-16 = ne_eqb number 16 not_16 in
    let no-17 = ne_eqb number 17 not-17 in
    let zero = rw (no-1, no-4, no-15, no-16, no-17) at told in
    or_cases (eqb number 0) false (number ≡ 0) zero (eqb-true number 0) (λ e. clash e refl)
