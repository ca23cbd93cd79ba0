-- Records appended one by one. Assumes nothing.
use Rattle.std.specs.Prelude.{ℕ, List, [], ◌∷◌, Result}
use Rattle.record.specs.declared.Refused.{Refused}
use Rattle.record.specs.Record.{Record}
use Rattle.record.specs.Told.{told_of}
use Rattle.append.specs.Append.{Appends}

-- from a lent sheet and its length in use, each record in turn is offered to any appender that keeps
-- the promise; the next begins with the sheet and the length that the one before it answered
pub data Chain : (rs : List Record) (s : List ℕ) (used : ℕ) (s' : List ℕ) (used' : ℕ) → Type 0 where
  done : {s : List ℕ} {used : ℕ} → Chain [] s used s used
  more : {r : Record} {rs : List Record} {s s' s'' : List ℕ} {used used'' : ℕ} (q : Result ℕ Refused)
      → Appends s used r s' q → Chain rs s' (told_of q).parts.value s'' used''
      → Chain (r ∷ rs) s used s'' used''
