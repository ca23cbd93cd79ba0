-- The record at a place: its numbers and ten bytes, or its 14 bytes in a lent buffer. Assumes nothing.
use Rattle.std.specs.Prelude.{ℕ, ◌≡◌, List, [], ◌∷◌, leb, ltb, length, get_or, Err, Ok, Result}
use Rattle.record.specs.declared.Refused.{Refused}
use Rattle.block.specs.Refusal.{◌when◌, number_of}
use Rattle.block.specs.Answer.{Answer, answer, buffer_after}
use Rattle.record.specs.Record.{Record, record_bytes, record_with, zero_record}
use Rattle.record.specs.Fault.{Fault, whole, ◌then◌}
use Rattle.record.specs.Told.{Placed, placed, told, told_of}
use Rattle.records.specs.Sheet.{records_of, bytes_at}
use Rattle.records.specs.Check.{sheet_fault}
use Rattle.finding.specs.declared.Reading.{Reading}

-- the record at a place
abbrev pub record_at : (s : List ℕ) (place : ℕ) → Record
record_at s place = get_or (records_of s) place zero_record

-- reading at a place: the sheet, then 12
unfoldable pub read_fault : (s : List ℕ) (place : ℕ) → Fault
read_fault s place = sheet_fault s then whole (12 when leb (length (records_of s)) place ∷ [])

-- what asking whether a record stands at a place promises: the number of records, or the refusal
abbrev pub Stands : (s : List ℕ) (place : ℕ) (r : Result ℕ Refused) → Type 0
Stands s place r = told_of r ≡ told (read_fault s place) 0 (length (records_of s))

-- a part of the sheet with the bytes of the record that stands at the place
pub record Standing (s : List ℕ) (place : ℕ) (part : List ℕ) : Type 0 where
  pub none : (read_fault s place).number ≡ 0
  pub bytes : part ≡ bytes_at s place
  pub whole : length part ≡ record_bytes

-- that record's spacecraft number, block number, n and ten bytes
abbrev pub read_answer : (s : List ℕ) (place : ℕ) → Answer (Placed Record)
read_answer s place = told (read_fault s place) zero_record (record_at s place)

-- a record that is read is answered as its numbers and ten bytes
abbrev pub reading_of : Result Reading Refused → Answer (Placed Record)
reading_of (Ok r) = answer 0 (placed 0 (record_with r.numbers r.ten))
reading_of (Err r) = answer (number_of r.refusal) (placed r.place zero_record)

-- what reading at a place promises
abbrev pub Reads : (s : List ℕ) (place : ℕ) (r : Result Reading Refused) → Type 0
Reads s place r = reading_of r ≡ read_answer s place

-- copying the record out: as reading, then 5
unfoldable pub copy_fault : (s : List ℕ) (place room : ℕ) → Fault
copy_fault s place room = read_fault s place then whole (5 when ltb room record_bytes ∷ [])

-- the length in use
abbrev pub copy_answer : (s : List ℕ) (place room : ℕ) → Answer (Placed ℕ)
copy_answer s place room = told (copy_fault s place room) 0 record_bytes

-- the lent buffer afterwards: the record's 14 bytes at its start
abbrev pub copied_into : (s : List ℕ) (place : ℕ) (buffer : List ℕ) → List ℕ
copied_into s place buffer =
    buffer_after (copy_fault s place (length buffer)).number
    (bytes_at s place) buffer

-- what copying out promises
pub record Copies (s : List ℕ) (place : ℕ) (before after : List ℕ) (r : Result ℕ Refused) : Type 0 where
  pub answer : told_of r ≡ copy_answer s place (length before)
  pub kept : after ≡ copied_into s place before
