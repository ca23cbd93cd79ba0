-- What is added, by what is offered.
use Rattle.sheet.specs.Adding.{AddsOffer}
use Rattle.sheet.proofs.BoundLaws.{adds-case}
use Rattle.sheet.proofs.append_to.Goals as goal

pub returns-in-Block : goal.returns-in-Block
unfolding AddsOffer
returns-in-Block c = adds-case _ _ _ _ _ _ _ c.in-Block.is c.append.ensures

pub returns-in-Cover : goal.returns-in-Cover
unfolding AddsOffer
returns-in-Cover c = adds-case _ _ _ _ _ _ _ c.in-Cover.is c.of_cover.ensures
