-- `finding::place_of` meets its contract: no record so far has the number pair, so what is left decides.
use Rattle.std.proofs.Common.{arith, length-append, sym, ◌∙◌}
use Rattle.std.proofs.lemmas.Result.{err_from_is_err_and}
use Rattle.std.specs.Slice.Iter.{chunks_exact_rest}
use Rattle.record.specs.Record.{pair_of}
use Rattle.finding.proofs.FindLaws.{looked-start, looked-on, looked-here, looked-end}
use Rattle.finding.proofs.FindLaws.{places-refused, places-found, places-none}
use Rattle.finding.proofs.place_of.Goals as goal

pub returns-in_err-check : goal.returns-in_err-check
returns-in_err-check c =
    let p = err_from_is_err_and c.from_residual.result c.from_residual.ensures.1 in
    rw (p.1, p.2) (places-refused _ _ _ c.in_err-check.ensures)

pub loop-place-init : goal.loop-place-init
loop-place-init c =
    record {
      size = grind arith;
      place = grind arith;
      later = grind (arith, looked-start);
    }

pub returns-then-has_pair : goal.returns-then-has_pair
returns-then-has_pair c =
    let cut = c.in-Some.ensures.steps.0.1 in
    let same = rw c.numbers_of.ensures at c.has_pair.ensures in
    let here = looked-here (pair_of c.args.craft c.args.block) _ c.in-Some.bytes.now _ cut.0 (grind arith) (sym same ∙ c.if-has_pair.true) in
    places-found _ _ _ c.in_ok-check.ensures c.in-Some.place (grind (arith, length-append)) (grind arith)

pub loop-place-preserved : goal.loop-place-preserved
loop-place-preserved c =
    let cut = c.in-Some.ensures.steps.0.1 in
    let other = rw c.numbers_of.ensures at c.has_pair.ensures in
    let on = looked-on (pair_of c.args.craft c.args.block) _ c.in-Some.bytes.now _ cut.0 (grind arith) (sym other ∙ c.if-has_pair.false) in
    record {
      size = grind arith;
      place = grind (arith, length-append);
      later = grind arith;
    }

pub returns : goal.returns
returns c =
    let none = looked-end (pair_of c.args.craft c.args.block) (chunks_exact_rest c.loop-place.place-iterator.iter) (grind arith) in
    rw c.into.ensures (places-none _ _ _ c.in_ok-check.ensures (grind arith))
