-- n and the length in use have room.
use Rattle.std.specs.Prelude.{Ok}
use Rattle.std.proofs.Common.{arith}
use Rattle.blif.specs.Cover.{Reads}
use Rattle.blif.proofs.CoverLaws.{read-used, read-inputs}
use Rattle.drawmitten_c.proofs.drawmitten_cover.Goals as goal

pub overflow_mul-result-in-Ok : goal.overflow_mul-result-in-Ok
overflow_mul-result-in-Ok c =
    let read : Reads c.args.text.now c.args.out.now c.read.new.out (Ok c.in-Ok.cover) = rw c.in-Ok.is at c.read.ensures in
    record { fits = omega (arith, read-used _ _ _ _ read) }

pub overflow_add-result : goal.overflow_add-result
overflow_add-result c =
    let read : Reads c.args.text.now c.args.out.now c.read.new.out (Ok c.in-Ok.cover) = rw c.in-Ok.is at c.read.ensures in
    record { fits = omega (arith, read-used _ _ _ _ read, read-inputs _ _ _ _ read) }
