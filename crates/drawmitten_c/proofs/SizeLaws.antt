-- Every answer about a sheet has room in 64 bits. Assumes nothing.
use mathlib.Core.Path.{◌≡◌, refl}
use mathlib.Core.List.{List, [], ◌∷◌}
use Prim.Native.Nat.{ℕ, zero, suc, ◌+◌, ◌/◌, ◌^◌, ◌<◌, ◌≤◌}
use native.Mathlib.Omega.{arith}
use lib.Dec.{ltb}
use lib.ListN.{length, take}
use lib.Seq.{length-take-le}
use Rattle.block.specs.Refusal.{◌when◌}
use Rattle.record.specs.Record.{Record, record_bytes}
use Rattle.record.specs.Fault.{Fault, record_refusal, at, whole}
use Rattle.record.specs.Told.{told}
use Rattle.record.proofs.ToldLaws.{then-zero}
use Rattle.records.specs.Sheet.{most_records, records_of, last_key}
use Rattle.records.specs.Check.{sheet_fault, sheet_answer}
use Rattle.records.proofs.SheetLaws.{records-length}
use Rattle.records.proofs.BoundLaws.{at_place, then-place, sheet-place, records-few}
use Rattle.finding.specs.Find.{place_of, place_answer}
use Rattle.finding.specs.Read.{read_fault, copy_fault, copy_answer}
use Rattle.finding.proofs.ReadLaws.{readable_of}
use Rattle.append.specs.Append.{new_fault, append_fault, append_answer}
use Rattle.append.proofs.AppendLaws.{append-fine}
use Rattle.drawmitten_c.specs.Boundary.{Of32Bits}

told-small : (f : Fault) (value : ℕ) → f.place ≤ most_records → (f.number ≡ 0 → value < 2 ^ 32)
    → Of32Bits (told f 0 value)
told-small f value place fine = at-number f.number refl
  where
    at-number : (k : ℕ) → f.number ≡ k → Of32Bits (told f 0 value)
    at-number zero e = rw e (record { place = omega arith; value = fine e })
    at-number (suc k) e = rw e (record { place = omega arith; value = omega arith })

pub counts-small : (s : List ℕ) → Of32Bits (sheet_answer s)
counts-small s =
    told-small (sheet_fault s) (length (records_of s)) (sheet-place s)
    (λ accepted. let few = records-few s accepted in omega arith)

read-place : (s : List ℕ) (place : ℕ) → (read_fault s place).place ≤ most_records
unfolding read_fault
read-place s place = then-place (sheet_fault s) _ most_records (sheet-place s) (λ none. omega arith)

place-small : (s : List ℕ) (place : ℕ) → (read_fault s place).number ≡ 0 → place < 2 ^ 32
unfolding read_fault
place-small s place found =
    let within = (readable_of s place found).within in
    let few = records-few s (then-zero (sheet_fault s) _ found).0 in
    let count : length (records_of s) ≡ length s / record_bytes = records-length s in
    omega arith

pub places-small : (s : List ℕ) (key : List ℕ) → Of32Bits (place_answer s key)
places-small s key =
    let place = place_of s key in
    told-small (read_fault s place) place (read-place s place) (λ found. place-small s place found)

pub copies-small : (s : List ℕ) (place room : ℕ) → Of32Bits (copy_answer s place room)
unfolding copy_fault
copies-small s place room =
    told-small (copy_fault s place room) record_bytes
    (then-place (read_fault s place) _ most_records (read-place s place) (λ none. omega arith))
    (λ none. omega arith)

new-place : (left : ℕ) (rs : List Record) (r : Record) → length rs ≤ most_records
    → (new_fault left rs r).place ≤ most_records
unfolding new_fault
new-place left rs r few =
    let own = at (record_refusal (last_key [] rs) r) (length rs) in
    let there : own.place ≤ length rs = at_place (record_refusal (last_key [] rs) r) (length rs) in
    then-place own _ most_records (omega arith) (λ none. omega arith)

append-place : (s : List ℕ) (used : ℕ) (r : Record) → (append_fault s used r).place ≤ most_records
unfolding append_fault
append-place s used r =
    let sheet = take used s in
    then-place (whole (2 when ltb (length s) used ∷ [])) _ most_records (omega arith)
    (λ within. then-place (sheet_fault sheet) _ most_records (sheet-place sheet)
    (λ accepted. new-place _ (records_of sheet) r (records-few sheet accepted)))

pub appends-small : (s : List ℕ) (used : ℕ) (r : Record) → Of32Bits (append_answer s used r)
appends-small s used r =
    told-small (append_fault s used r) (used + record_bytes) (append-place s used r)
    (λ none. let fine = append-fine s used r none in
    let few = fine.few in
    let sheet = take used s in
    let long : length sheet ≡ used = length-take-le used s (omega (arith, fine.room)) in
    let count : length (records_of sheet) ≡ length sheet / record_bytes = records-length sheet in
    omega arith)
