-- `contents::Pins::new` meets its contract. Assumes nothing.
use mathlib.Core.Path.{refl, sym, ◌∙◌}
use Rattle.contents.proofs.ChoiceLaws.{wiring-not, wiring-by}
use Rattle.contents.proofs.Pins.new.Goals as goal

pub returns-in_default-clause-none : goal.returns-in_default-clause-none
returns-in_default-clause-none c e =
    sym
    (wiring-not c.args.n c.args.f c.args.g c.args.direct (c.in_default.ensures.err c.in_default.field-0 refl).1)

pub invariant_of-result : goal.invariant_of-result
invariant_of-result c =
    let inputs = c.in-Ok.inputs in
    record {
      tidy =
          sym (wiring-by inputs.n c.args.f c.args.g c.args.direct inputs.within)
          ∙ rw (← c.is_choice.ensures, ← c.is_choice-2.ensures, c.in-Ok.ensures.ok) c.if-is_choice-direct.true;
    }

pub returns-clause-none : goal.returns-clause-none
returns-clause-none c e =
    let inputs = c.in-Ok.inputs in
    rw (← c.in-Ok.ensures.ok)
    (sym (wiring-by inputs.n c.args.f c.args.g c.args.direct inputs.within)
    ∙ rw (← c.is_choice.ensures, ← c.is_choice-2.ensures, c.in-Ok.ensures.ok) c.if-is_choice-direct.false)
