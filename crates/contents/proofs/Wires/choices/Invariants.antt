-- `contents::Wires::choices` meets its contract. The invariant: the components below s have their
-- polarities. Assumes nothing.
use mathlib.Core.Path.{◌≡◌}
use lib.ListN.{length}
use Rattle.contents.specs.Code.{choice_at}
use Rattle.contents.proofs.PoleLaws.{Poles}
use Rattle.contents.proofs.Wires.choices.Given as goal

abbrev pub invariant-loop-s : goal.invariant-loop-s
invariant-loop-s l =
    record {
      all : length l.poles ≡ 16;
      poles : Poles (choice_at l.self l.asked l.h) l.s l.poles;
    }
