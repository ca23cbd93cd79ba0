-- What the entries about one record promise. Assumes nothing.
use Rattle.std.specs.Prelude.{ℕ, List, ◌≡◌, Option, Result}
use Rattle.record.specs.declared.Refused.{Refused}
use Rattle.record.specs.declared.Numbers.{Numbers}
use Rattle.record.specs.declared.Pair.{Pair}
use Rattle.record.specs.Record.{record_of, record_with, numbers_in, key_before}
use Rattle.record.specs.Fault.{record_refusal, at, fine, ◌then◌}
use Rattle.record.specs.Told.{judged_of}

-- the numbers are those of the record in the bytes
abbrev pub Numbered : (s : List ℕ) (r : Numbers) → Type 0
Numbered s r = r ≡ numbers_in (record_of s)

-- the refusal of a record after the pair of another, or the first one's, at its place; or none
abbrev pub Judges : (last : Option Pair) (x : Numbers) (ten : List ℕ) (place : ℕ) (r : Result (Unit {0}) Refused)
    → Type 0
Judges last x ten place r =
    judged_of r ≡ (at (record_refusal (key_before last) (record_with x ten)) place then fine)
