-- What adding to a sheet in memory promises: a block is appended, a cover is filed, under the numbers of
-- the order. Assumes nothing.
use Rattle.std.specs.Prelude.{ℕ, List, Result}
use Rattle.record.specs.declared.Refused.{Refused}
use Rattle.record.specs.Record.{offered}
use Rattle.append.specs.Append.{Appends}
use Rattle.filing.specs.Cover.{FilesCover}
use Rattle.sheet.specs.declared.Offer.{Offer}
use Rattle.sheet.specs.declared.Offer.TheVariants.{Block, Cover}
use Rattle.sheet.specs.declared.Order.{Order}

-- by what is offered: the ten bytes of a block of n inputs, or the text of a cover
unfoldable pub AddsOffer : (offer : Offer) (craft block : ℕ) (given s : List ℕ) (used : ℕ) (after : List ℕ)
    (r : Result ℕ Refused) → Type 0
AddsOffer (Block n) craft block given s used after r = Appends s used (offered craft block n given) after r
AddsOffer Cover craft block given s used after r = FilesCover s used craft block given after r

-- what the order says is added to the used part of the sheet
abbrev pub Adds : (order : Order) (given s : List ℕ) (used : ℕ) (after : List ℕ) (r : Result ℕ Refused) → Type 0
Adds order given s used after r = AddsOffer order.offer order.craft order.block given s used after r
