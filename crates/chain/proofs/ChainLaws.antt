-- Records that the rules allow, appended one by one from an empty sheet with room for them, are all
-- there: the sheet is accepted, each is found by its pair and read at its place, and no byte after
-- them has changed. By induction over the records still to come. Assumes nothing.
use Rattle.std.specs.Prelude.{Result}
use Rattle.record.specs.declared.Refused.{Refused}
use mathlib.Core.Path.{◌≡◌, refl, sym, ap, ◌∙◌}
use mathlib.Core.List.{List, [], ◌∷◌, ◌++◌, append_assoc, append-nil}
use Prim.Native.Nat.{ℕ, ◌+◌, ◌*◌, ◌<◌, ◌≤◌}
use native.Mathlib.Omega.{arith}
use lib.ListN.{length, get_or, take, drop, length-append}
use lib.Seq.{drop-drop}
use denote.Ref.{Bor}
use Rattle.block.specs.Answer.{answer}
use Rattle.record.specs.Record.{Record, record_bytes, zero_record, key_of}
use Rattle.record.specs.Told.{placed, told_of}
use Rattle.records.specs.Sheet.{sheet_of}
use Rattle.records.specs.Check.{sheet_fault}
use Rattle.finding.specs.Find.{place_answer, Finds}
use Rattle.finding.specs.Read.{read_answer}
use Rattle.chain.specs.Rules.{Listed}
use Rattle.chain.specs.Chain.{Chain, done, more}
use Rattle.chain.proofs.FollowsLaws.{listed-front}
use Rattle.chain.proofs.ListedLaws.{accepted-of-listed}
use Rattle.chain.proofs.ReadingLaws.{reads-listed, finds-listed}
use Rattle.chain.proofs.PartLaws.{finds-ten}
use Rattle.chain.proofs.AppendingLaws.{Succeeds, appends-listed}

-- the lent sheet's used part holds these records and nothing else; after it the bytes are those from
-- the start, as many as then
pub record Holds (rs : List Record) (start s : List ℕ) (used : ℕ) : Type 0 where
  pub long : used ≡ length rs * record_bytes
  pub sheet : take used s ≡ sheet_of rs
  pub rest : drop used s ≡ drop used start
  pub kept : length s ≡ length start

drop_more : (m n : ℕ) (s t : List ℕ) → drop m s ≡ drop m t → drop (m + n) s ≡ drop (m + n) t
drop_more m n s t e = sym (drop-drop n m s) ∙ ap (drop n) e ∙ drop-drop n m t

holds_more : (rs : List Record) (r : Record) (start s : List ℕ) (used : ℕ) (s' : List ℕ) (q : Result ℕ Refused)
    → Holds rs start s used → Succeeds rs r s used s' q
    → Holds (rs ++ (r ∷ [])) start s' (told_of q).parts.value
holds_more rs r start s used s' q holds appends =
    let count = length-append rs (r ∷ []) in
    let long = holds.long in
    let longer = appends.longer in
    rw appends.answer
    (record {
      long = omega arith;
      sheet = longer.sheet;
      rest = longer.rest ∙ drop_more used record_bytes s start holds.rest;
      kept = longer.long ∙ holds.kept;
    })

-- records appended one by one to a sheet that holds others, which they may follow
pub chain-holds : {rs : List Record} {s : List ℕ} {used : ℕ} {s' : List ℕ} {used' : ℕ}
    → Chain rs s used s' used' → (there : List Record) (start : List ℕ) → Listed (there ++ rs)
    → length (there ++ rs) * record_bytes ≤ length start → Holds there start s used
    → Holds (there ++ rs) start s' used'
chain-holds done there start listed room holds = rw (append-nil there) holds
chain-holds (more {r = r} {rs = rs} {s = s} {s' = s'} {used = used} q given chain)
    there start listed room holds =
    let moved : there ++ (r ∷ []) ++ rs ≡ there ++ r ∷ rs = append_assoc there (r ∷ []) rs in
    let all : Listed (there ++ (r ∷ []) ++ rs) = rw moved listed in
    let one_more = listed-front (there ++ (r ∷ [])) rs all in
    let long = holds.long in
    let kept = holds.kept in
    let count = length-append there (r ∷ rs) in
    let enough : used + record_bytes ≤ length s = omega arith in
    let appends = appends-listed there r s used s' q one_more holds.sheet enough given in
    rw (← moved)
    (chain-holds chain (there ++ (r ∷ [])) start all (rw moved room)
    (holds_more there r start s used s' q holds appends))

-- the records are there, found by their pairs and read at their places; a finder that is given the
-- used part hands back their ten bytes
pub record Chained (rs : List Record) (start s : List ℕ) (used : ℕ) : Type 0 where
  pub holds : Holds rs start s used
  pub accepted : (sheet_fault (take used s)).number ≡ 0
  pub found : (i : ℕ) → i < length rs
      → place_answer (take used s) (key_of (get_or rs i zero_record))
      ≡ answer 0 (placed 0 i)
  pub read : (i : ℕ) → i < length rs
      → read_answer (take used s) i ≡ answer 0 (placed 0 (get_or rs i zero_record))
  pub ten : (i : ℕ) → i < length rs → (t r : Bor (List ℕ)) → t.now ≡ take used s
      → Finds t (key_of (get_or rs i zero_record)) r → r.now ≡ (get_or rs i zero_record).ten

pub chained : (rs : List Record) (s s' : List ℕ) (used' : ℕ) → Listed rs
    → length rs * record_bytes ≤ length s → Chain rs s 0 s' used' → Chained rs s s' used'
chained rs s s' used' listed room chain =
    let empty : Holds [] s s 0 = record { long = refl; sheet = refl; rest = refl; kept = refl } in
    let holds = chain-holds chain [] s listed room empty in
    record {
      holds = holds;
      accepted = rw holds.sheet (accepted-of-listed rs listed);
      found = λ i l. rw holds.sheet (finds-listed rs listed i l);
      read = λ i l. rw holds.sheet (reads-listed rs listed i l);
      ten = λ i l t r is finds. (finds-ten rs listed t r (is ∙ holds.sheet) i l finds).0;
    }
