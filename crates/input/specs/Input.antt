-- How much of a buffer the input has filled. Assumes nothing.
use Rattle.std.specs.Prelude.{ℕ, ◌<◌, ◌≡◌, List, Ok, Err, Option, take, length, replicate}
use Rattle.std.specs.Io.KnownBytes.{Consumes, IsAtEnd}
use Rattle.std.specs.declared.result.Result.{Result}
use Rattle.std.specs.declared.io.Error.{Error}
use Rattle.input.specs.declared.Input.{Input}
use Rattle.input.specs.declared.Input.TheVariants.{Whole, Longer}

-- a read that brings nothing is the end of the input if it succeeds; one that does not has failed
unfoldable pub ended_by : (got : Result ℕ Error) (used : ℕ) → Result Input Error
ended_by (Ok k) used = Ok (Whole used)
ended_by (Err why) used = Err why

-- input that was read whole left room
unfoldable pub LeavesRoom : Result Input Error → (room : ℕ) → Type 0
LeavesRoom (Ok (Whole used)) room = used < room
LeavesRoom (Ok Longer) room = Unit {0}
LeavesRoom (Err why) room = Unit {0}

-- which of a reader's bytes stand in the buffer, where it is known what it has: all of them if the input was read
-- whole, and as many as fill it if there may be more
unfoldable pub Reads : (had left : Option (List ℕ)) → Result Input Error → (buf : List ℕ) → Type 0
Reads had left (Ok (Whole used)) buf = Consumes had left (take used buf) × IsAtEnd left
Reads had left (Ok Longer) buf = Consumes had left buf
Reads had left (Err why) buf = Unit {0}

-- every byte is 0
unfoldable pub AreZeros : List ℕ → Type 0
AreZeros bytes = bytes ≡ replicate (length bytes) 0
