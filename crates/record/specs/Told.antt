-- What an entry about a sheet answers: a number, 0 for success, the place that a refusal found in a
-- record gives, and the other parts. Assumes nothing.
use Rattle.std.specs.Prelude.{ℕ, Err, Ok, Result}
use Rattle.record.specs.declared.Refused.{Refused}
use Rattle.block.specs.declared.Refusal.{Refusal}
use Rattle.block.specs.Refusal.{number_of}
use Rattle.block.specs.Answer.{Answer, answer, answered}
use Rattle.record.specs.Fault.{Fault, fault, fine}

-- the place of the faulty record, and the other parts
pub record Placed (A : Type 0) : Type 0 where
  pub place : ℕ
  pub value : A

abbrev pub placed : {A : Type 0} (place : ℕ) (value : A) → Placed A
placed p x = record { place = p; value = x }

-- the refusal with its place and every other part 0; or, where there is none, the value
abbrev pub told : {A : Type 0} (f : Fault) (none value : A) → Answer (Placed A)
told f none value = answered f.number (placed f.place none) (placed 0 value)

-- a refusal at a place
abbrev pub refused : (refusal : Refusal) (place : ℕ) → Refused
refused k p = record { refusal = k; place = p }

-- it as a fault: its number and its place
abbrev pub fault_of : Refused → Fault
fault_of r = fault (number_of r.refusal) r.place

-- a number, or a refusal with its place
abbrev pub told_of : Result ℕ Refused → Answer (Placed ℕ)
told_of (Ok x) = answer 0 (placed 0 x)
told_of (Err r) = answer (number_of r.refusal) (placed r.place 0)

-- what judging a record found: a refusal's fault, or none
abbrev pub judged_of : Result (Unit {0}) Refused → Fault
judged_of (Ok _) = fine
judged_of (Err r) = fault_of r
