-- Answers as document 01 gives them: a number, 0 for success, and the other parts, all 0 after a
-- refusal. Assumes nothing.
use Rattle.std.specs.Prelude.{ℕ, zero, suc, List, [], ◌++◌, ◌≡◌, length, drop, Err, Ok, Result}
use Rattle.block.specs.declared.Refusal.{Refusal}
use Rattle.block.specs.Refusal.{number_of}

-- a number, 0 for success, and the other parts
pub record Answer (A : Type 0) : Type 0 where
  pub number : ℕ
  pub parts : A

abbrev pub answer : {A : Type 0} (number : ℕ) (parts : A) → Answer A
answer k x = record { number = k; parts = x }

-- the answer whose refusal has this number: the parts if it is 0, else every part 0
abbrev pub answered : {A : Type 0} (refusal : ℕ) (none parts : A) → Answer A
answered zero none parts = answer 0 parts
answered (suc k) none parts = answer (suc k) none

-- what a call's result is answered as: its value's parts, or the refusal's number and every part 0
abbrev pub answer_of : {A B : Type 0} (parts : A → B) (none : B) → Result A Refusal → Answer B
answer_of parts none (Ok x) = answer 0 (parts x)
answer_of parts none (Err k) = answer (number_of k) none

-- a writer answers the length then in use
abbrev pub written_of : Result ℕ Refusal → Answer ℕ
written_of = answer_of (λ used. used) 0

-- a lent buffer afterwards: the bytes at its start and none after them changed; after a refusal no
-- byte changed
abbrev pub buffer_after : (refusal : ℕ) (bytes buffer : List ℕ) → List ℕ
buffer_after zero bytes buffer = bytes ++ drop (length bytes) buffer
buffer_after (suc k) bytes buffer = buffer

-- what a writer promises: its refusal or the length in use, and every byte of the lent buffer
pub record Writes (refusal : ℕ) (bytes before after : List ℕ) (r : Result ℕ Refusal) : Type 0 where
  pub told : written_of r ≡ answered refusal 0 (length bytes)
  pub kept : after ≡ buffer_after refusal bytes before

-- what a writer promises of bytes that are themselves promised: its refusal, and no byte changed; or
-- such bytes
pub data Fills (refusal : ℕ) (Promised : List ℕ → Type 0) (before after : List ℕ) (r : Result ℕ Refusal) : Type 0 where
  refused : (refusal ≡ 0 → ⊥) → Writes refusal [] before after r → Fills refusal Promised before after r
  filled : refusal ≡ 0 → (bytes : List ℕ) → Promised bytes → Writes 0 bytes before after r
      → Fills refusal Promised before after r
