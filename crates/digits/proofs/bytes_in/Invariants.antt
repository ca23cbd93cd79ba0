-- `digits::bytes_in` meets its contract. The invariant: so many bytes stand at the start of the buffer,
-- and what follows them is still to read. Assumes nothing.
use Prim.Native.Nat.{◌-◌}
use Rattle.digits.proofs.BytesLaws.{Spelling}
use Rattle.digits.proofs.bytes_in.Given as goal

abbrev pub invariant-loop-i : goal.invariant-loop-i
invariant-loop-i l = Spelling l.initial.word l.word l.many l.i

abbrev pub decreases-loop-i : goal.decreases-loop-i
decreases-loop-i l = l.many - l.i
