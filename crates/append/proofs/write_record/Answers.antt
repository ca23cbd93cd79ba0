-- `append::write_record` meets its contract: the header is copied, then the ten bytes after it. Assumes
-- nothing.
use mathlib.Core.Path.{refl, ◌∙◌}
use native.Mathlib.Nat.{add-sub_cancel_left}
use Rattle.codec.specs.Ten.{block_bytes}
use Rattle.record.specs.Record.{header_bytes, header_of}
use Rattle.append.proofs.RoomLaws.{parts-copied}
use Rattle.append.proofs.write_record.Goals as goal

pub returns : goal.returns
unfolding header_of
returns c =
    let x = c.args.x in
    parts-copied (header_of x.craft x.block x.n) c.args.ten.now c.args.room.now _ _ header_bytes block_bytes _
    refl (rw (c.requires.1, add-sub_cancel_left))
    (c.copy_from_slice.ensures.after ∙ c.header-header.ensures) c.copy_from_slice-2.ensures.after
