-- Input that was read whole left room, and is all that there was.
use Rattle.std.proofs.Common.{rules, subst, take_all}
use Rattle.std.specs.Io.KnownBytes.{Consumes}
use Rattle.input.specs.Input.{LeavesRoom, Reads}
use Rattle.input.proofs.BytesLaws.{grown, told, room_left}
use Rattle.input.proofs.read.Goals as goal

pub returns-then-more-eq0-clause-room : goal.returns-then-more-eq0-clause-room
returns-then-more-eq0-clause-room g c = room_left _ _ _ _ c.ended.ensures (search rules)

pub returns-then-more-eq0-clause-bytes : goal.returns-then-more-eq0-clause-bytes
returns-then-more-eq0-clause-bytes g c = told _ _ _ _ _ _ _ _ _ c.ended.ensures (search rules) c.loop-used.invariant.1 (search rules) c.loop-used.invariant.2 c.read-got.ensures.bound c.read-got.ensures.bytes

pub loop-used-preserved : goal.loop-used-preserved
loop-used-preserved g c =
    (search rules, search rules, grown _ _ _ _ _ _ _ _ _ c.unwrap_or-more.ensures c.loop-used.invariant.1 c.loop-used.invariant.2 c.read-got.ensures.bound c.read-got.ensures.bytes)

pub returns-clause-room : goal.returns-clause-room
unfolding LeavesRoom
returns-clause-room g c = tt

pub returns-clause-bytes : goal.returns-clause-bytes
unfolding Reads
returns-clause-bytes g c = subst (Consumes _ _) (take_all c.loop-used.used c.loop-used.buf (search rules)) c.loop-used.invariant.2
