-- Which refusal a sheet gets, with its place, and what checking it answers. Assumes nothing.
use Rattle.std.specs.Prelude.{ℕ, suc, ◌%◌, ◌≡◌, Bool, not, ◌||◌, List, [], ◌∷◌, eqb, ltb, length, Result, Some}
use Rattle.record.specs.declared.Refused.{Refused}
use Rattle.record.specs.declared.Pair.{Pair}
use Rattle.block.specs.Refusal.{◌when◌}
use Rattle.block.specs.Answer.{Answer}
use Rattle.record.specs.Record.{Record, record_bytes, key_of, key_before}
use Rattle.record.specs.Fault.{record_refusal, Fault, fine, at, whole, ◌then◌}
use Rattle.record.specs.Told.{Placed, told, told_of}
use Rattle.records.specs.Sheet.{sheet_bytes, records_of}

-- 2: a sheet is not a multiple of 14, or above 65,534
abbrev pub wrong_length : (len : ℕ) → Bool
wrong_length len = not (eqb (len % record_bytes) 0) || ltb sheet_bytes len

-- a record that may stand after the pair `last` has no fault there, and this pair
pub record Follows (last : List ℕ) (r : Record) (x : Pair) : Type 0 where
  pub none : record_refusal last r ≡ 0
  pub pair : key_before (Some x) ≡ key_of r

-- record by record, the first after the pair `last` standing at the place
unfoldable pub first_fault : (last : List ℕ) (place : ℕ) (rs : List Record) → Fault
first_fault last place [] = fine
first_fault last place (r ∷ rs) =
    at (record_refusal last r) place then first_fault (key_of r) (suc place) rs

-- a sheet: 2, then record by record 10, 11, 1, 6, 7, 8, 9
unfoldable pub sheet_fault : List ℕ → Fault
sheet_fault s = whole (2 when wrong_length (length s) ∷ []) then first_fault [] 0 (records_of s)

-- the number of records
abbrev pub sheet_answer : List ℕ → Answer (Placed ℕ)
sheet_answer s = told (sheet_fault s) 0 (length (records_of s))

-- what checking a sheet promises
abbrev pub Counts : (s : List ℕ) (r : Result ℕ Refused) → Type 0
Counts s r = told_of r ≡ sheet_answer s
