-- One call for a whole build (request 1). Assumes nothing.
use Rattle.std.specs.Prelude.{ℕ, List, ◌∷◌, length, Result}
use Rattle.block.specs.declared.Refusal.{Refusal}
use Rattle.block.specs.Answer.{written_of, Fills}
use Rattle.matcher.specs.Single.{Single}
use Rattle.requests.specs.Requests.{Request, requests_of, build_refusal}
use Rattle.requests.specs.Each.{Each}

-- a slot has 11 bytes
abbrev pub slot_bytes : ℕ
slot_bytes = 11

-- the refusal number or 0, then the ten bytes
abbrev pub slot_of : (ten : List ℕ) (answer : Result ℕ Refusal) → List ℕ
slot_of ten answer = (written_of answer).number ∷ ten

-- the slot of a request: what a single call gives for it
abbrev pub Slot : (q : Request) (slot : List ℕ) → Type 0
Slot q slot = Single q.n q.table slot_of slot

-- What a batch promises: 14 or 5 for the whole of it, and no byte changed; else a slot for each
-- request, no byte beyond the slots changed, and their length.
abbrev pub Batched : (s before after : List ℕ) (r : Result ℕ Refusal) → Type 0
Batched s before after r =
    Fills (build_refusal slot_bytes s (length before)) (Each Slot (requests_of s)) before after r
