-- `text::Made::push_bytes` meets its contract: there is room for the capitals of the bytes that are left.
use native.Mathlib.Omega.{arith}
use lib.ListN.{length-append}
use Rattle.text.proofs.NumberLaws.{capitals-next, capitals-room, capitals-all}
use Rattle.text.proofs.Made.push_bytes.Goals as goal

pub push-requires : goal.push-requires
push-requires c =
    let left = capitals-room c.loop-byte.self c.args.self.now c.args.s.now c.loop-byte.byte-index c.loop-byte.invariant in
    omega arith

pub push-requires-in-loop-byte : goal.push-requires-in-loop-byte
push-requires-in-loop-byte c =
    let left = capitals-room c.loop-byte.self c.args.self.now c.args.s.now c.loop-byte.byte-index c.loop-byte.invariant in
    rw c.push.ensures (simp length-append (omega arith))

pub loop-byte-preserved : goal.loop-byte-preserved
loop-byte-preserved c =
    rw (c.push-in-loop-byte.ensures, c.push.ensures)
    (capitals-next c.loop-byte.self c.args.self.now c.args.s.now c.loop-byte.byte-index c.loop-byte.invariant
    _ _ c.loop-byte-test.true c.digit.ensures c.digit-in-loop-byte.ensures)

pub returns : goal.returns
returns c =
    capitals-all c.loop-byte.self c.args.self.now c.args.s.now c.loop-byte.byte-index c.loop-byte.invariant (omega arith)
