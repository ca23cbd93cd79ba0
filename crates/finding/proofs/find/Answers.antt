-- `finding::find` meets its contract: the part that it lends begins behind the numbers of the record at
-- the place. Assumes nothing.
use native.Mathlib.Omega.{arith}
use Rattle.record.specs.Record.{pair_of}
use Rattle.finding.proofs.FindLaws.{Found, found-told}
use Rattle.finding.proofs.find.Goals as goal

pub overflow_mul-a : goal.overflow_mul-a
overflow_mul-a c =
    let has-place : (let a = c.args in Found a.s.now (pair_of a.craft a.block) c.in-Ok.place) =
    found-told _ _ _ c.in-Ok.ensures
    in
    record { fits = omega (arith, has-place.within) }

pub overflow_add-a : goal.overflow_add-a
overflow_add-a c =
    let has-place : (let a = c.args in Found a.s.now (pair_of a.craft a.block) c.in-Ok.place) =
    found-told _ _ _ c.in-Ok.ensures
    in
    record { fits = omega (arith, has-place.within) }

pub overflow_add-result : goal.overflow_add-result
overflow_add-result c =
    let has-place : (let a = c.args in Found a.s.now (pair_of a.craft a.block) c.in-Ok.place) =
    found-told _ _ _ c.in-Ok.ensures
    in
    record { fits = omega (arith, has-place.within) }

pub slice_bounds-result-end-2 : goal.slice_bounds-result-end-2
slice_bounds-result-end-2 c =
    let has-place : (let a = c.args in Found a.s.now (pair_of a.craft a.block) c.in-Ok.place) =
    found-told _ _ _ c.in-Ok.ensures
    in
    omega (arith, has-place.within)
