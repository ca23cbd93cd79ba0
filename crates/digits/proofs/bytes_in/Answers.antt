-- `digits::bytes_in` meets its contract. The invariant: so many bytes stand at the start of the buffer,
-- and what follows them is still to read. Assumes nothing.
use mathlib.Core.Path.{sym, ◌∙◌}
use Rattle.std.proofs.Common.{rules, ◌+◌, ◌*◌}
use native.Mathlib.Omega.{arith}
use Rattle.digits.proofs.BytesLaws.{digit-there, spelling-turn, spelling-end}
use Rattle.digits.proofs.BytesLaws.{spells_nothing}
use Rattle.digits.proofs.bytes_in.Goals as goal

pub returns-then-not-are_bytes : goal.returns-then-not-are_bytes
returns-then-not-are_bytes c = spells_nothing _ (sym c.are_bytes.ensures ∙ c.if-not-are_bytes.true)

pub unwrap-high-requires : goal.unwrap-high-requires
unwrap-high-requires c =
    let l = c.loop-i in
    let told = digit-there _ l.word _ l.i (2 * l.i) l.invariant (omega arith) (omega arith) in
    rw (c.value_of.ensures ∙ told) (search rules)

pub unwrap-low-requires : goal.unwrap-low-requires
unwrap-low-requires c =
    let l = c.loop-i in
    let told = digit-there _ l.word _ l.i (2 * l.i + 1) l.invariant (omega arith) (omega arith) in
    rw (c.value_of-in-loop-i.ensures ∙ told) (search rules)

pub loop-i-preserved : goal.loop-i-preserved
loop-i-preserved c =
    let l = c.loop-i in
    let high = digit-there _ l.word _ l.i (2 * l.i) l.invariant (omega arith) (omega arith) in
    let low = digit-there _ l.word _ l.i (2 * l.i + 1) l.invariant (omega arith) (omega arith) in
    spelling-turn _ l.word _ l.i _ l.invariant c.loop-i-test.true (cc)

pub returns : goal.returns
returns c =
    let l = c.loop-i in spelling-end _ l.word _ l.i l.invariant c.loop-i-test.false
