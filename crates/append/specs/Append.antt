-- What appending answers, and what the lent sheet holds then (document 01, "Numbered refusals").
-- Assumes nothing.
use Rattle.std.specs.Prelude.{ℕ, zero, suc, ◌+◌, ◌-◌, ◌≡◌, Bool, ◌||◌, List, [], ◌∷◌, ◌++◌, leb, ltb, length, take, drop, Result}
use Rattle.record.specs.declared.Refused.{Refused}
use Rattle.block.specs.Refusal.{◌when◌}
use Rattle.block.specs.Answer.{Answer}
use Rattle.record.specs.Record.{Record, record_bytes, lay_out}
use Rattle.record.specs.Fault.{record_refusal, Fault, at, whole, ◌then◌}
use Rattle.record.specs.Told.{Placed, told, told_of}
use Rattle.records.specs.Sheet.{most_records, records_of, last_key}
use Rattle.records.specs.Check.{sheet_fault}

-- 5: fewer than 14 bytes left after the used part, or 4,681 records already
abbrev pub no_room : (left count : ℕ) → Bool
no_room left count = ltb left record_bytes || leb most_records count

-- the new record after those that are there: 10, 11, 1, 2, 6, 7, 8, 9, then 5
unfoldable pub new_fault : (left : ℕ) (rs : List Record) (r : Record) → Fault
new_fault left rs r =
    at (record_refusal (last_key [] rs) r) (length rs) then whole (5 when no_room left (length rs) ∷ [])

-- appending: the used part as a sheet, then the new record
unfoldable pub append_fault : (s : List ℕ) (used : ℕ) (r : Record) → Fault
append_fault s used r =
    whole (2 when ltb (length s) used ∷ [])
    then sheet_fault (take used s)
    then new_fault (length s - used) (records_of (take used s)) r

-- the new record at the end of the used part and nothing else changed; after a refusal no byte changed
abbrev pub appended : (refusal : ℕ) (s : List ℕ) (used : ℕ) (r : Record) → List ℕ
appended zero s used r = take used s ++ (lay_out r ++ drop (used + record_bytes) s)
appended (suc k) s used r = s

-- the length in use grows by 14
abbrev pub append_answer : (s : List ℕ) (used : ℕ) (r : Record) → Answer (Placed ℕ)
append_answer s used r = told (append_fault s used r) 0 (used + record_bytes)

-- the lent sheet afterwards
abbrev pub sheet_after : (s : List ℕ) (used : ℕ) (r : Record) → List ℕ
sheet_after s used r = appended (append_fault s used r).number s used r

-- what appending promises
pub record Appends (before : List ℕ) (used : ℕ) (r : Record) (after : List ℕ) (q : Result ℕ Refused) : Type 0 where
  pub answer : told_of q ≡ append_answer before used r
  pub kept : after ≡ sheet_after before used r
