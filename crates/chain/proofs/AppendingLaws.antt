-- A successful append leaves the records that were there and the new one after them; given room, a
-- record that the rules allow there is never refused. Assumes nothing.
use Rattle.std.specs.Prelude.{Ok, Result}
use Rattle.record.specs.declared.Refused.{Refused}
use mathlib.Core.Path.{◌≡◌, refl, sym, ap, ◌∙◌}
use mathlib.Core.List.{List, [], ◌∷◌, ◌++◌, append-nil}
use Prim.Native.Nat.{ℕ, ◌+◌, ◌<◌, ◌≤◌}
use native.Mathlib.Omega.{arith}
use lib.ListN.{length, take, drop, length-append}
use Rattle.block.specs.Answer.{answer}
use Rattle.bits.specs.Bits.{Bytes}
use Rattle.record.specs.Record.{Record, record_bytes, lay_out, key_of}
use Rattle.record.specs.Told.{placed}
use Rattle.record.proofs.ToldLaws.{told-fine, fine_of, told-unique}
use Rattle.records.specs.Sheet.{records_of, sheet_of, last_key}
use Rattle.records.specs.Check.{sheet_fault}
use Rattle.finding.specs.Read.{record_at, read_answer}
use Rattle.finding.specs.Find.{place_answer}
use Rattle.append.specs.Append.{append_fault, appended, Appends}
use Rattle.append.proofs.AppendLaws.{Fine, append-fine, none-of-fine}
use Rattle.append.proofs.AppendedLaws.{appended-take, appended-drop, appended-length}
use Rattle.chain.specs.Rules.{Listed}
use Rattle.chain.proofs.NextLaws.{Next, next-of-none, none-of-next, ruled-length}
use Rattle.chain.proofs.FollowsLaws.{follows-rest, follows-append, listed-front}
use Rattle.chain.proofs.FollowsLaws.{listed-of-follows, follows-of-listed}
use Rattle.chain.proofs.BytesLaws.{bytes_take, sheet_of-append}
use Rattle.chain.proofs.ListedLaws.{follows-of-accepted, sheet_of-records_of}
use Rattle.chain.proofs.ListedLaws.{records_of-sheet_of, accepted-of-listed}
use Rattle.chain.proofs.ReadingLaws.{reads_more, finds-more}

-- the lent sheet holds these records and one more, and nothing after them has changed
pub record Longer (rs : List Record) (r : Record) (s : List ℕ) (used : ℕ) (s' : List ℕ) (used' : ℕ)
    : Type 0 where
  pub grown : used' ≡ used + record_bytes
  pub listed : Listed (rs ++ (r ∷ []))
  pub sheet : take used' s' ≡ sheet_of (rs ++ (r ∷ []))
  pub accepted : (sheet_fault (take used' s')).number ≡ 0
  pub rest : drop used' s' ≡ drop used' s
  pub long : length s' ≡ length s

sheet-more : (rs : List Record) (r : Record) → sheet_of (rs ++ (r ∷ [])) ≡ sheet_of rs ++ lay_out r
sheet-more rs r =
    sheet_of-append rs (r ∷ []) ∙ ap (λ (t : List ℕ). sheet_of rs ++ t) (append-nil (lay_out r))

next-of-listed : (rs : List Record) (r : Record) → Listed (rs ++ (r ∷ [])) → Next (last_key [] rs) r
next-of-listed rs r listed = (follows-rest [] rs (r ∷ []) (follows-of-listed (rs ++ (r ∷ [])) listed)).0

longer-by : (rs : List Record) (r : Record) (s : List ℕ) (used : ℕ) → Listed (rs ++ (r ∷ []))
    → take used s ≡ sheet_of rs → used + record_bytes ≤ length s
    → Longer rs r s used (appended 0 s used r) (used + record_bytes)
longer-by rs r s used listed is room =
    let long = ruled-length r (next-of-listed rs r listed).ruled in
    let sheet : take (used + record_bytes) (appended 0 s used r) ≡ sheet_of (rs ++ (r ∷ [])) =
    appended-take s used r room long
    ∙ ap (λ (t : List ℕ). t ++ lay_out r) is
    ∙ sym (sheet-more rs r) in
    record {
      grown = refl;
      listed = listed;
      sheet = sheet;
      accepted = rw sheet (accepted-of-listed (rs ++ (r ∷ [])) listed);
      rest = appended-drop s used r room long;
      long = appended-length s used r room long;
    }

-- any successful append
module _ (s : List ℕ) (used : ℕ) (r : Record) (s' : List ℕ) (used' : ℕ)
    (bytes : Bytes s) (ten : Bytes r.ten) (given : Appends s used r s' (Ok used')) where
  succeeded : ((append_fault s used r).number ≡ 0) × (used' ≡ used + record_bytes)
  succeeded = fine_of (append_fault s used r) used' 0 (used + record_bytes) given.answer

  fine : Fine s used r
  fine = append-fine s used r succeeded.0

  was : sheet_of (records_of (take used s)) ≡ take used s
  was = sheet_of-records_of (take used s) (bytes_take used s bytes) fine.sheet

  one_more : Listed (records_of (take used s) ++ (r ∷ []))
  one_more =
      let rs = records_of (take used s) in
      let follows = follows-of-accepted (take used s) (bytes_take used s bytes) fine.sheet in
      let next = next-of-none (last_key [] rs) r ten fine.new in
      let few = fine.few in
      listed-of-follows (rs ++ (r ∷ [])) (follows-append [] rs (r ∷ []) follows (next, tt))
      (rw (length-append rs (r ∷ [])) (omega arith))

  pub appends-longer : Longer (records_of (take used s)) r s used s' used'
  appends-longer =
      let same : s' ≡ appended 0 s used r = rw succeeded.0 at given.kept in
      rw (same, succeeded.1) (longer-by (records_of (take used s)) r s used one_more (sym was) fine.room)

  -- every record that was there reads and is found as before
  pub keeps-reading : (i : ℕ) → i < length (records_of (take used s))
      → read_answer (take used' s') i ≡ read_answer (take used s) i
  keeps-reading i l =
      rw appends-longer.sheet
      (reads_more (records_of (take used s)) (r ∷ []) one_more i l ∙ ap (λ (t : List ℕ). read_answer t i) was)

  pub keeps-finding : (i : ℕ) → i < length (records_of (take used s))
      → place_answer (take used' s') (key_of (record_at (take used s) i))
      ≡ place_answer (take used s) (key_of (record_at (take used s) i))
  keeps-finding i l =
      let r' = record_at (take used s) i in
      rw appends-longer.sheet
      (finds-more (records_of (take used s)) (r ∷ []) one_more i l
      ∙ ap (λ (t : List ℕ). place_answer t (key_of r')) was)

-- what appending an allowed record answers, and what it leaves
pub record Succeeds (rs : List Record) (r : Record) (s : List ℕ) (used : ℕ) (s' : List ℕ) (q : Result ℕ Refused)
    : Type 0 where
  pub answer : q ≡ Ok (used + record_bytes)
  pub longer : Longer rs r s used s' (used + record_bytes)

fine-of-listed : (rs : List Record) (r : Record) (s : List ℕ) (used : ℕ) → Listed (rs ++ (r ∷ []))
    → take used s ≡ sheet_of rs → used + record_bytes ≤ length s → Fine s used r
fine-of-listed rs r s used listed is room =
    let front = listed-front rs (r ∷ []) listed in
    let same : records_of (take used s) ≡ rs = rw is (records_of-sheet_of rs front) in
    let few = rw (length-append rs (r ∷ [])) at listed.few in
    record {
      room = room;
      sheet = rw is (accepted-of-listed rs front);
      new = rw same (none-of-next (last_key [] rs) r (next-of-listed rs r listed));
      few = rw same (omega arith);
    }

pub appends-listed : (rs : List Record) (r : Record) (s : List ℕ) (used : ℕ) (s' : List ℕ) (q : Result ℕ Refused)
    → Listed (rs ++ (r ∷ [])) → take used s ≡ sheet_of rs → used + record_bytes ≤ length s
    → Appends s used r s' q → Succeeds rs r s used s' q
appends-listed rs r s used s' q listed is room given =
    let none = none-of-fine s used r (fine-of-listed rs r s used listed is room) in
    let used' = used + record_bytes in
    let value = given.answer ∙ told-fine (append_fault s used r) 0 used' none in
    let same : s' ≡ appended 0 s used r = rw none at given.kept in
    record {
      answer = told-unique q (Ok used') (answer 0 (placed 0 used')) value refl;
      longer = rw same (longer-by rs r s used listed is room);
    }
