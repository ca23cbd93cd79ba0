-- A length that adding tells is within the sheet's buffer. Assumes nothing.
use Rattle.std.specs.Prelude.{◌≡◌, ℕ, ◌≤◌, List, length, Ok, Result}
use Rattle.record.specs.declared.Refused.{Refused}
use Rattle.filing.proofs.WithinLaws.{appends-within, files-cover-within}
use Rattle.sheet.specs.declared.Offer.{Offer}
use Rattle.sheet.specs.declared.Offer.TheVariants.{Block, Cover}
use Rattle.sheet.specs.declared.Order.{Order}
use Rattle.sheet.specs.Adding.{AddsOffer, Adds}

offer-within : (offer : Offer) (craft block : ℕ) (given s : List ℕ) (used : ℕ) (after : List ℕ) (longer : ℕ)
    → AddsOffer offer craft block given s used after (Ok longer) → longer ≤ length after
unfolding AddsOffer
offer-within (Block n) craft block given s used after longer a = appends-within s used _ after longer a
offer-within Cover craft block given s used after longer f =
    files-cover-within s used craft block given after longer f

pub adds-within : (order : Order) (given s : List ℕ) (used : ℕ) (after : List ℕ) (r : Result ℕ Refused) (longer : ℕ)
    → r ≡ Ok longer → Adds order given s used after r → longer ≤ length after
adds-within order given s used after r longer is a =
    offer-within order.offer _ _ given s used after longer (rw is at a)

-- what is added, by what is offered
pub adds-case : (order : Order) (offer : Offer) (given s : List ℕ) (used : ℕ) (after : List ℕ) (r : Result ℕ Refused)
    → order.offer ≡ offer → AddsOffer offer order.craft order.block given s used after r
    → Adds order given s used after r
adds-case order offer given s used after r is a = rw is a
