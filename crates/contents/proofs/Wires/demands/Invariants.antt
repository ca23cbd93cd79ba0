-- `contents::Wires::demands` meets its contract. The invariant: what the rows below r ask is marked. Assumes
-- nothing.
use mathlib.Core.Path.{◌≡◌}
use lib.ListN.{length}
use Rattle.contents.specs.Code.{AreAsked}
use Rattle.contents.proofs.Wires.demands.Given as goal

abbrev pub invariant-loop-r : goal.invariant-loop-r
invariant-loop-r l =
    record {
      all : length l.asked ≡ 16;
      so_far : AreAsked l.t l.self l.r l.asked;
    }
