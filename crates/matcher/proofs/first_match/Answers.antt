-- `matcher::first_match` meets its contract: what the search found is packed. Assumes nothing.
use Rattle.std.proofs.lemmas.Result.{err_from_is_err_and}
use mathlib.Core.Path.{sym}
use Rattle.matcher.proofs.EntryLaws.{matched-refused, matched-none, matched-found, place-small}
use Rattle.matcher.proofs.first_match.Goals as goal

pub returns-in_err-inputs : goal.returns-in_err-inputs
returns-in_err-inputs c =
    let p = err_from_is_err_and c.from_residual.result c.from_residual.ensures.1 in
    rw (p.1, p.2)
    (matched-refused c.args.n c.args.t.now c.args.out.now c.in_err-inputs.field-0.0
    c.in_err-inputs.ensures.refusal)

pub returns-in-None : goal.returns-in-None
returns-in-None c =
    matched-none c.args.n c.args.t.now c.args.out.now (sym c.in_ok-inputs.ensures.refusal) c.search.result
    (rw c.in_ok-inputs.ensures.number at c.search.ensures) c.in-None.is

pub parts_of-requires : goal.parts_of-requires
parts_of-requires c =
    place-small c.args.n c.args.t.now c.args.out.now (sym c.in_ok-inputs.ensures.refusal) c.search.result
    (rw c.in_ok-inputs.ensures.number at c.search.ensures) c.in-Some.place c.in-Some.is

pub returns-in-Some : goal.returns-in-Some
returns-in-Some c =
    matched-found c.args.n c.args.t.now c.args.out.now (sym c.in_ok-inputs.ensures.refusal) c.search.result
    (rw c.in_ok-inputs.ensures.number at c.search.ensures) c.in-Some.place c.in-Some.is
    c.parts_of.result c.pack.new.out c.pack.result c.parts_of.ensures c.pack.ensures
