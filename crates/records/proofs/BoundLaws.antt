-- How far a sheet's places and its number of records go, and what an accepted one is. Assumes
-- nothing.
use Rattle.std.specs.Prelude.{Ok, Result}
use Rattle.record.specs.declared.Refused.{Refused}
use mathlib.Core.Path.{◌≡◌}
use mathlib.Core.Bool.{Bool, true, false, not, or-true}
use mathlib.Core.List.{List, [], ◌∷◌}
use Prim.Native.Nat.{ℕ, suc, ◌+◌, ◌%◌, ◌<◌, ◌≤◌}
use native.Mathlib.Nat.{zero-add, le_trans}
use native.Mathlib.Omega.{arith}
use lib.Dec.{eqb, ltb}
use lib.ListN.{length}
use borrow.Author.Tests.{ltb-false, eqb-true, not-false, eq-eqb, le-ltb, lt-ltb}
use Rattle.bits.specs.Tests.{pick}
use Rattle.bits.proofs.TestLaws.{either-false}
use Rattle.block.specs.Refusal.{◌when◌}
use Rattle.block.proofs.RefusalLaws.{pick-zero}
use Rattle.record.specs.Record.{Record, record_bytes, key_of}
use Rattle.record.specs.Fault.{Fault, record_refusal, fault, at, whole, ◌then◌}
use Rattle.record.proofs.ToldLaws.{then-cases, then-zero, value-told, told-unique}
use Rattle.records.specs.Sheet.{most_records, sheet_bytes, records_of}
use Rattle.records.specs.Check.{wrong_length, first_fault, sheet_fault, Counts}
use Rattle.records.proofs.SheetLaws.{records-length}

-- a record's fault stands at the record
pub at_place : (k p : ℕ) → (at k p).place ≤ p
at_place k p = picked (eqb k 2)
  where
    picked : (two : Bool) → pick two 0 p ≤ p
    picked true = omega arith
    picked false = omega arith

-- of two faults in a row one is given, the next only where there is none before it
pub then-place : (f next : Fault) (m : ℕ) → f.place ≤ m → (f.number ≡ 0 → next.place ≤ m)
    → (f then next).place ≤ m
then-place f next m one other = then-cases (λ g. g.place ≤ m) f next (λ some. one) other

fault-place : (last : List ℕ) (p : ℕ) (rs : List Record) → (first_fault last p rs).place ≤ p + length rs
unfolding first_fault
fault-place last p [] = omega arith
fault-place last p (r ∷ rs) =
    let here : (at (record_refusal last r) p).place ≤ p = at_place (record_refusal last r) p in
    let later : (first_fault (key_of r) (suc p) rs).place ≤ suc p + length rs = fault-place (key_of r) (suc p) rs in
    then-place (at (record_refusal last r) p) (first_fault (key_of r) (suc p) rs) (p + suc (length rs))
    (omega arith) (λ none. omega arith)

-- a right length: a multiple of a record's, at most the longest sheet's
pub record RightLength (len : ℕ) : Type 0 where
  pub multiple : len % record_bytes ≡ 0
  pub most : len ≤ sheet_bytes

abbrev length_fault : List ℕ → Fault
length_fault s = whole (2 when wrong_length (length s) ∷ [])

right-of-none : (s : List ℕ) → (length_fault s).number ≡ 0 → RightLength (length s)
right-of-none s none =
    let len = length s in
    let right = (pick-zero (wrong_length len) 1 0 none).0 in
    let parts = either-false (not (eqb (len % record_bytes) 0)) (ltb sheet_bytes len) right in
    record {
      multiple = eqb-true (len % record_bytes) 0 (not-false (eqb (len % record_bytes) 0) parts.0);
      most = ltb-false sheet_bytes len parts.1;
    }

right-few : (s : List ℕ) → RightLength (length s) → length (records_of s) ≤ most_records
right-few s right = let most = right.most in rw (records-length s) (omega arith)

pub sheet-place : (s : List ℕ) → (sheet_fault s).place ≤ most_records
unfolding sheet_fault
sheet-place s =
    then-place (length_fault s) (first_fault [] 0 (records_of s)) most_records (omega arith)
    (λ none. le_trans (fault-place [] 0 (records_of s))
    (rw (zero-add (length (records_of s))) (right-few s (right-of-none s none))))

-- an accepted sheet has a right length, and no record of it has a fault
module _ (s : List ℕ) (accepted : (sheet_fault s).number ≡ 0) where
  accepted-parts : ((length_fault s).number ≡ 0) × ((first_fault [] 0 (records_of s)).number ≡ 0)
  unfolding sheet_fault
  accepted-parts = then-zero (length_fault s) (first_fault [] 0 (records_of s)) accepted

  pub accepted-length : RightLength (length s)
  accepted-length = right-of-none s accepted-parts.0

  pub accepted-records : (first_fault [] 0 (records_of s)).number ≡ 0
  accepted-records = accepted-parts.1

  pub records-few : length (records_of s) ≤ most_records
  records-few = right-few s accepted-length

pub accepted-of : (s : List ℕ) → RightLength (length s) → (first_fault [] 0 (records_of s)).number ≡ 0
    → (sheet_fault s).number ≡ 0
unfolding sheet_fault
accepted-of s right none =
    let len = length s in
    rw (eq-eqb (len % record_bytes) 0 right.multiple, le-ltb sheet_bytes len right.most) none

-- a sheet that was counted has no fault, and the count is that of its records
pub counted : (s : List ℕ) (count : ℕ) → Counts s (Ok count)
    → ((sheet_fault s).number ≡ 0) × (count ≡ length (records_of s))
counted s count e = value-told count (sheet_fault s) (length (records_of s)) e

-- a sheet that is too long is refused with 2, whatever its bytes are
pub long-refused : (s : List ℕ) → sheet_bytes < length s → sheet_fault s ≡ fault 2 0
unfolding sheet_fault
long-refused s long =
    rw (lt-ltb sheet_bytes (length s) long, or-true (not (eqb (length s % record_bytes) 0)))

pub counts-unique : (s : List ℕ) (r q : Result ℕ Refused) → Counts s r → Counts s q → r ≡ q
counts-unique s r q = told-unique r q _
