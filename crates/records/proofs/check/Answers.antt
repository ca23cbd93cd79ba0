-- `records::check` meets its contract: the records so far have no fault, and what is left decides.
use Rattle.std.proofs.Common.{arith, length-append, ◌∙◌}
use Rattle.std.proofs.lemmas.Result.{err_from_is_err_and}
use Rattle.record.proofs.ToldLaws.{fault-told, fine-told}
use Rattle.records.proofs.SheetLaws.{records-length}
use Rattle.records.proofs.WalkLaws.{refuses-length, right_walked, walked_on, walked_stop, walked_end}
use Rattle.records.proofs.check.Goals as goal

pub returns-then-is_wrong : goal.returns-then-is_wrong
returns-then-is_wrong c = rw c.into.ensures (refuses-length _ c.if-is_wrong.ensures)

pub loop-place-init : goal.loop-place-init
loop-place-init c =
    record {
      size = grind arith;
      place = grind arith;
      decides = right_walked _ c.if-is_wrong.ensures ∙ grind arith;
    }

pub returns-in_err-judged : goal.returns-in_err-judged
returns-in_err-judged c =
    let p = err_from_is_err_and c.from_residual.result c.from_residual.ensures.1 in
    let cut = c.in-Some.ensures.steps.0.1 in
    let stop = walked_stop _ c.in-Some.place _ c.in-Some.bytes.now _ cut.0 (grind arith) c.in_err-judged.field-0.0 c.in_err-judged.ensures.err in
    rw (p.1, p.2) (fault-told _ _ _ (c.loop-place.invariant.decides ∙ grind arith))

pub loop-place-preserved : goal.loop-place-preserved
loop-place-preserved c =
    let cut = c.in-Some.ensures.steps.0.1 in
    let on = walked_on _ c.in-Some.place _ c.in-Some.bytes.now _ cut.0 (grind arith) c.in_ok-judged.field-0 c.in_ok-judged.ensures.ok in
    record {
      size = grind arith;
      place = grind (arith, length-append);
      decides = c.loop-place.invariant.decides ∙ grind arith;
    }

pub returns : goal.returns
returns c =
    let ended = walked_end _ c.loop-place.place-iterator.count _ (grind arith) in
    rw (← records-length c.args.s.now) (fine-told _ _ (c.loop-place.invariant.decides ∙ ended))
