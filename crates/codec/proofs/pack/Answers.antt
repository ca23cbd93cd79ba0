-- `codec::pack` meets its contract: it decides, then writes. Assumes nothing.
use Rattle.std.proofs.Common.{length, sym, ap, ◌∙◌}
use Rattle.std.specs.Prelude.{ℕ, ◌≡◌, Ok, Result}
use Rattle.std.proofs.lemmas.List.{length-take-le}
use Rattle.block.specs.declared.Refusal.{Refusal}
use Rattle.block.specs.Block.{Block}
use Rattle.codec.specs.Check.{pack_refusal}
use Rattle.codec.specs.Answers.{checked_of}
use Rattle.codec.proofs.PackLaws.{Packable, packable-of-none, fields-of-four}
use Rattle.codec.proofs.TenLaws.{packed-length}
use Rattle.codec.proofs.pack.Goals as goal

-- what was found without a fault
accepted : {n : ℕ} {b : Block} {room : ℕ} {found : Result (Unit {0}) Refusal}
    → checked_of found ≡ pack_refusal n b room → found ≡ Ok tt → Packable n b room
accepted told is = packable-of-none _ _ _ (sym told ∙ ap checked_of is)

pub ten-requires : goal.ten-requires
ten-requires c =
    let parts = accepted c.packable.ensures c.in_ok-packable.was in
    fields-of-four _ c.args.x parts.within parts.tidy.fields

pub slice_bounds-copy_from_slice-end : goal.slice_bounds-copy_from_slice-end
slice_bounds-copy_from_slice-end c = (accepted c.packable.ensures c.in_ok-packable.was).enough

pub slice_bounds-copy_from_slice-end-2 : goal.slice_bounds-copy_from_slice-end-2
slice_bounds-copy_from_slice-end-2 c =
    sym (length-take-le 10 _ (accepted c.packable.ensures c.in_ok-packable.was).enough)

pub copy_from_slice-requires : goal.copy_from_slice-requires
copy_from_slice-requires c =
    length-take-le 10 _ (accepted c.packable.ensures c.in_ok-packable.was).enough
    ∙ sym (ap length c.ten.ensures ∙ packed-length c.args.x)
