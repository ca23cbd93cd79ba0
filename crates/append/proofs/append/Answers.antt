-- `append::append` meets its contract: what is not refused goes into the free tail.
use native.Mathlib.Nat.{le_refl}
use native.Mathlib.Omega.{arith}
use borrow.Rule.Slice.PartMut.{mid_len}
use lib.ListN.{length}
use Rattle.record.proofs.RecordLaws.{accepted-ten}
use Rattle.append.proofs.AppendLaws.{append-fine, appends-record}
use Rattle.append.proofs.append.Goals as goal

pub slice_bounds-write_record-count : goal.slice_bounds-write_record-count
slice_bounds-write_record-count c = omega (arith, (append-fine _ _ _ c.in_ok-decide.ensures.ok).room)

pub slice_bounds-write_record-start : goal.slice_bounds-write_record-start
slice_bounds-write_record-start c = omega (arith, (append-fine _ _ _ c.in_ok-decide.ensures.ok).room)

pub write_record-requires : goal.write_record-requires
write_record-requires c =
    let s = c.args.s.now in
    let fine = append-fine _ _ _ c.in_ok-decide.ensures.ok in
    let tail = mid_len c.args.used (length s) s (le_refl _) in
    (omega (arith, fine.room), accepted-ten _ _ fine.new)

pub overflow_add-result : goal.overflow_add-result
overflow_add-result c = record { fits = omega (arith, (append-fine _ _ _ c.in_ok-decide.ensures.ok).room) }

pub returns : goal.returns
returns c = appends-record _ _ _ _ c.in_ok-decide.ensures.ok c.write_record.ensures
