-- A read leaves the buffer's length as it was, and what it brought stands before `used`.
use Rattle.std.proofs.Common.{length, take, ◌-◌, ◌≡◌, ◌≤◌}
use Rattle.std.specs.Io.KnownBytes.{Consumes}
use Rattle.input.proofs.read.Given as goal

abbrev pub invariant-loop-used : goal.invariant-loop-used
invariant-loop-used g l = (length l.buf ≡ length l.initial.buf) × (l.used ≤ length l.buf) × Consumes (g.R.Read.remaining l.initial.from) (g.R.Read.remaining l.from) (take l.used l.buf)

abbrev pub decreases-loop-used : goal.decreases-loop-used
decreases-loop-used g l = length l.initial.buf - l.used
