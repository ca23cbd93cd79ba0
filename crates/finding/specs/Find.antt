-- The record with a number pair: its place, and its ten bytes as a part of the sheet (document 01,
-- "Numbered refusals"). Assumes nothing.
use Rattle.std.specs.Prelude.{ℕ, zero, suc, ◌+◌, ◌*◌, ◌≡◌, List, [], ◌∷◌, take, drop, Result}
use Rattle.record.specs.declared.Refused.{Refused}
use Rattle.std.specs.Borrow.{Bor}
use Rattle.bits.specs.Tests.{pick}
use Rattle.block.specs.Answer.{Answer}
use Rattle.codec.specs.Ten.{block_bytes}
use Rattle.record.specs.Record.{Record, header_bytes, record_bytes, has_key}
use Rattle.record.specs.Fault.{Fault}
use Rattle.record.specs.Told.{Placed, told, told_of}
use Rattle.records.specs.Sheet.{records_of}
use Rattle.finding.specs.Read.{read_fault}

-- how many records stand before the first with the number pair; all of them if none has it
abbrev pub place_in : (key : List ℕ) (rs : List Record) → ℕ
place_in key [] = 0
place_in key (r ∷ rs) = pick (has_key key r) 0 (suc (place_in key rs))

-- the place in a sheet
unfoldable pub place_of : (s key : List ℕ) → ℕ
place_of s key = place_in key (records_of s)

-- finding: as reading at that place, the sheet, then 12
abbrev pub find_fault : (s key : List ℕ) → Fault
find_fault s key = read_fault s (place_of s key)

-- the sister question: the place, or the refusal
abbrev pub place_answer : (s key : List ℕ) → Answer (Placed ℕ)
place_answer s key = told (find_fault s key) 0 (place_of s key)

-- what asking for the place promises
abbrev pub Places : (s key : List ℕ) (r : Result ℕ Refused) → Type 0
Places s key r = told_of r ≡ place_answer s key

-- the part of s with so many bytes from byte `start` on: in the same memory, `start` bytes further
pub record PartOf (s r : Bor (List ℕ)) (start count : ℕ) : Type 0 where
  pub memory : r.ref_ptr.0 ≡ s.ref_ptr.0
  pub offset : r.ref_ptr.1 ≡ s.ref_ptr.1 + start
  pub bytes : r.now ≡ take count (drop start s.now)

-- a number, or 0 after a refusal
abbrev pub unrefused : (refusal x : ℕ) → ℕ
unrefused zero x = x
unrefused (suc k) x = 0

-- the ten bytes of the record as a part of the caller's own sheet; for any refusal the empty part at
-- the sheet's start
pub record Finds (s : Bor (List ℕ)) (key : List ℕ) (r : Bor (List ℕ)) : Type 0 where
  pub part :
      PartOf s r
      (unrefused (find_fault s.now key).number
      (place_of s.now key * record_bytes + header_bytes))
      (unrefused (find_fault s.now key).number block_bytes)
