-- `codec::packable` meets its contract: a fault is the first refusal. Assumes nothing.
use Rattle.std.proofs.Common.{sym, ap, ◌∙◌}
use Rattle.std.proofs.lemmas.Result.{err_from_is_err_and}
use Rattle.codec.specs.Answers.{checked_of}
use Rattle.codec.proofs.PackLaws.{pack-refuses-tidy}
use Rattle.codec.proofs.packable.Goals as goal

pub returns-in_err-fault : goal.returns-in_err-fault
returns-in_err-fault c =
    let p = err_from_is_err_and c.from_residual.result c.from_residual.ensures.1 in
    rw (p.1, p.2)
    (pack-refuses-tidy _ _ _ c.if-n-gt-MOST_INPUTS.false _
    (ap checked_of (sym c.in_err-fault.was) ∙ c.fault.ensures))
