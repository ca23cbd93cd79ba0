-- `contents::Wires::smallest` meets its contract. The invariant: the least of the contents with a table H
-- below h. Assumes nothing.
use Rattle.std.specs.Prelude.{unwrap_or, IfSome}
use Prim.Native.Nat.{◌<◌}
use mathlib.Core.Path.{◌≡◌}
use Rattle.contents.specs.Contents.{no_contents}
use Rattle.contents.specs.Code.{with_table, least_of}
use Rattle.contents.proofs.Wires.smallest.Given as goal

abbrev pub invariant-loop-h : goal.invariant-loop-h
invariant-loop-h l =
    record {
      least : unwrap_or l.best no_contents ≡ least_of no_contents (with_table l.self l.asked) l.h;
      below : IfSome l.best (λ x. x < no_contents);
    }
