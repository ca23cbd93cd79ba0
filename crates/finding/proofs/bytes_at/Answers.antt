-- `finding::bytes_at` meets its contract: a place that is read has its bytes.
use native.Mathlib.Nat.{add-sub_cancel_left}
use native.Mathlib.Omega.{arith}
use Rattle.finding.proofs.ReadLaws.{readable-told, standing-of}
use Rattle.finding.proofs.bytes_at.Goals as goal

pub overflow_mul-a : goal.overflow_mul-a
overflow_mul-a c =
    let accepted = readable-told _ _ _ c.in_ok-readable.ensures in
    record { fits = omega (arith, accepted.within) }

pub overflow_add-result : goal.overflow_add-result
overflow_add-result c =
    let accepted = readable-told _ _ _ c.in_ok-readable.ensures in
    record { fits = omega (arith, accepted.within) }

pub slice_bounds-result-end : goal.slice_bounds-result-end
slice_bounds-result-end c = omega (arith, (readable-told _ _ _ c.in_ok-readable.ensures).within)

pub returns-clause-ok : goal.returns-clause-ok
returns-clause-ok c = rw add-sub_cancel_left (standing-of _ _ (readable-told _ _ _ c.in_ok-readable.ensures))
