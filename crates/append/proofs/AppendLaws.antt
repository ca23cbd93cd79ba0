-- Appending: what it accepts, that its promise leaves one answer and one sheet, and that a refusal
-- changes no byte. Assumes nothing.
use Rattle.std.specs.Prelude.{Err, Ok, Result}
use Rattle.record.specs.declared.Refused.{Refused}
use mathlib.Core.Path.{◌≡◌, refl, sym, ◌∙◌}
use mathlib.Core.List.{List, [], ◌∷◌, ◌++◌}
use Prim.Native.Nat.{ℕ, ◌+◌, ◌-◌, ◌≤◌, ◌<◌}
use native.Mathlib.Omega.{arith}
use lib.Dec.{ltb, leb}
use lib.ListN.{length, take, drop}
use borrow.Rule.Slice.PartMut.{put_mid}
use borrow.Author.Tests.{ltb-false, leb-false, le-ltb, lt-leb}
use Rattle.bits.proofs.TestLaws.{either-false}
use Rattle.bits.proofs.SliceLaws.{tail-back}
use Rattle.block.specs.Refusal.{◌when◌}
use Rattle.block.proofs.RefusalLaws.{pick-zero, at-refusal}
use Rattle.record.specs.Record.{Record, record_bytes, lay_out}
use Rattle.record.specs.Fault.{record_refusal, whole, ◌then◌}
use Rattle.record.specs.Told.{fault_of}
use Rattle.record.proofs.ToldLaws.{then-zero, then-test, told-unique, fault-told, refusal-told}
use Rattle.records.specs.Sheet.{most_records, records_of, last_key}
use Rattle.records.specs.Check.{sheet_fault}
use Rattle.append.specs.Append.{no_room, new_fault, append_fault, appended, Appends}
use Rattle.append.proofs.DecideLaws.{own_fault}

-- what appending accepts: a used part that is a sheet, a record that may come next, and room for it
pub record Fine (s : List ℕ) (used : ℕ) (r : Record) : Type 0 where
  pub room : used + record_bytes ≤ length s
  pub sheet : (sheet_fault (take used s)).number ≡ 0
  pub new : record_refusal (last_key [] (records_of (take used s))) r ≡ 0
  pub few : length (records_of (take used s)) < most_records

new-fine : (left : ℕ) (rs : List Record) (r : Record) → (new_fault left rs r).number ≡ 0
    → (record_refusal (last_key [] rs) r ≡ 0) × (record_bytes ≤ left) × (length rs < most_records)
unfolding new_fault
new-fine left rs r none =
    let parts = then-test (own_fault rs r) 4 (no_room left (length rs)) none in
    let free = either-false (ltb left record_bytes) (leb most_records (length rs)) parts.1 in
    (parts.0, ltb-false left record_bytes free.0, leb-false most_records (length rs) free.1)

pub append-fine : (s : List ℕ) (used : ℕ) (r : Record) → (append_fault s used r).number ≡ 0 → Fine s used r
unfolding append_fault
append-fine s used r none =
    let short = ltb (length s) used in
    let sheet = sheet_fault (take used s) in
    let rs = records_of (take used s) in
    let new = new_fault (length s - used) rs r in
    let first = then-zero (whole (2 when short ∷ [])) (sheet then new) none in
    let second = then-zero sheet new first.1 in
    let third = new-fine (length s - used) rs r second.1 in
    let within : used ≤ length s = ltb-false (length s) used (pick-zero short 1 0 first.0).0 in
    record { room = omega arith; sheet = second.0; new = third.0; few = third.2 }

pub none-of-fine : (s : List ℕ) (used : ℕ) (r : Record) → Fine s used r → (append_fault s used r).number ≡ 0
unfolding append_fault new_fault
none-of-fine s used r fine =
    let room = fine.room in
    rw (
      le-ltb (length s) used (omega arith),
      fine.sheet,
      fine.new,
      le-ltb (length s - used) record_bytes (omega arith),
      lt-leb most_records (length (records_of (take used s))) fine.few,
    )

-- what appending answers and leaves: a refusal, or the record in the free tail
pub appends-nothing : (s : List ℕ) (used : ℕ) (r : Record) (k : Refused) → fault_of k ≡ append_fault s used r
    → Appends s used r s (Err k)
appends-nothing s used r k e =
    record {
      answer = fault-told k (append_fault s used r) (used + record_bytes) (sym e);
      kept = rw (← e) (at-refusal (λ m. s ≡ appended m s used r) (λ m. refl) k.refusal);
    }

pub appends-record : (s : List ℕ) (used : ℕ) (r : Record) (tail : List ℕ) → (append_fault s used r).number ≡ 0
    → tail ≡ lay_out r ++ drop record_bytes (take (length s - used) (drop used s))
    → Appends s used r (put_mid used (length s - used) s tail) (Ok (used + record_bytes))
appends-record s used r tail none written =
    record {
      answer = rw none;
      kept =
          rw (none, written)
          (tail-back s (lay_out r) used record_bytes (omega (arith, (append-fine s used r none).room)));
    }

pub append-unique : (before : List ℕ) (used : ℕ) (r : Record) (after after' : List ℕ) (p q : Result ℕ Refused)
    → Appends before used r after p → Appends before used r after' q → (p ≡ q) × (after ≡ after')
append-unique before used r after after' p q a a' =
    (told-unique p q _ a.answer a'.answer, a.kept ∙ sym a'.kept)

pub append-refused : (before : List ℕ) (used : ℕ) (r : Record) (after : List ℕ) (k : Refused)
    → Appends before used r after (Err k) → after ≡ before
append-refused before used r after k a =
    let nothing =
    appends-nothing before used r k (sym (refusal-told k (append_fault before used r) (used + record_bytes) a.answer)) in
    (append-unique before used r after before (Err k) (Err k) a nothing).1
