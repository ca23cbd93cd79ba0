-- `matcher::search` meets its contract. The invariant of each loop: nothing is found, and no wiring
-- before the place fits. Assumes nothing.
use Rattle.std.proofs.lemmas.List.{get_or-drop, take_all, length-drop}
use mathlib.Core.Path.{◌≡◌, refl, sym, ap, ◌∙◌}
use mathlib.Core.List.{List}
use Prim.Native.Nat.{ℕ, ◌+◌, ◌-◌, ◌<◌, ◌≤◌}
use lib.ListN.{length, get_or, take, drop}
use Rattle.filter.specs.Choices.{useful_of}
use Rattle.filter.proofs.ChoiceLaws.{used-sets}
use native.Mathlib.Omega.{arith}
use Rattle.matcher.proofs.StandLaws.{stand-start, stand-untried, stand-next}
use Rattle.matcher.proofs.StandLaws.{stand-hopeless, stand-exchanged, stand-found}
use Rattle.matcher.proofs.StandLaws.{stand-none, weighable}
use Rattle.matcher.proofs.search.Goals as goal

-- an entry of what is left of the list from i on, by its place in the list
here : (s : List ℕ) (i k : ℕ) → k < length (take (length s - i) (drop i s))
    → (get_or (take (length s - i) (drop i s)) k 0 ≡ get_or s (i + k) 0) × (i + k < length s)
here s i k l =
    let long : length (drop i s) ≤ length s - i = rw (length-drop i s) (omega arith) in
    let all = take_all (length s - i) (drop i s) long in
    let inside : k < length (drop i s) = rw all at l in
    (rw (all, get_or-drop i s k 0), omega (arith, length-drop i s))

pub search-init : goal.search-init
search-init c =
    let useful = c.useful-choices.ensures in
    let list : c.sets-sets.result.now ≡ useful_of c.number-n.result c.support-within.result =
    c.sets-sets.ensures ∙ rw (useful.sets, useful.many) (used-sets 256 _) in
    stand-start c.number-n.result c.args.t.now c.support-within.result c.sets-sets.result.now
    (length c.sets-sets.result.now) c.directs-pins.result (rw c.number-n.ensures c.args.inputs.within)
    c.support-within.ensures list (ap length list) c.directs-pins.ensures

pub loop-g-init : goal.loop-g-init
loop-g-init c =
    let start : c.search.i + 0 ≡ c.search.i = omega arith in
    rw start (stand-exchanged _ _ _ _ _ _ _ c.search.i c.search-test.true c.search.invariant)

pub loop-g-preserved-then-hopeless : goal.loop-g-preserved-then-hopeless
loop-g-preserved-then-hopeless c =
    let at = here c.sets-sets.result.now c.search.i c.loop-g.g-index c.loop-g-test.true in
    let j = c.search.i + c.loop-g.g-index in
    let next : c.search.i + (c.loop-g.g-index + 1) ≡ j + 1 = omega arith in
    rw next
    (stand-hopeless _ _ _ _ _ _ _ c.search.i j at.1 c.loop-g.invariant
    (rw at.0 at (c.hopeless.ensures c.if-hopeless.true)))

pub loop-k-preserved-then-not-is_tried : goal.loop-k-preserved-then-not-is_tried
loop-k-preserved-then-not-is_tried c =
    let at = here c.sets-sets.result.now c.search.i c.loop-g.g-index c.loop-g-test.true in
    stand-untried _ _ _ _ _ _ _ c.search.i (c.search.i + c.loop-g.g-index) c.loop-k.k
    c.search-test.true at.1 c.loop-k-test.true c.loop-k.invariant
    (sym c.is_tried.ensures ∙ c.if-not-is_tried.true)

pub weigh-requires : goal.weigh-requires
weigh-requires c =
    let at = here c.sets-sets.result.now c.search.i c.loop-g.g-index c.loop-g-test.true in
    rw at.0
    (weighable _ _ _ _ _ _ _ c.search.i (c.search.i + c.loop-g.g-index) c.loop-k.k _ c.loop-k.invariant
    c.search-test.true at.1 c.loop-k-test.true _ c.words-words.ensures)

pub loop-k-preserved : goal.loop-k-preserved
loop-k-preserved c =
    let at = here c.sets-sets.result.now c.search.i c.loop-g.g-index c.loop-g-test.true in
    stand-next _ _ _ _ _ _ _ c.search.i (c.search.i + c.loop-g.g-index) c.loop-k.k
    c.search-test.true at.1 c.loop-k-test.true c.loop-k.invariant
    (rw at.0 at c.in_default.ensures)

pub returns-after-search : goal.returns-after-search
returns-after-search c =
    rw (← c.number-n.ensures)
    (stand-none _ _ _ _ _ _ _ c.search.i c.search-test.false (omega arith) c.search.invariant)

pub returns-in-Some : goal.returns-in-Some
returns-in-Some c =
    let at = here c.sets-sets.result.now c.search.i c.loop-g.g-index c.loop-g-test.true in
    rw (← c.number-n.ensures, at.0)
    (stand-found _ _ _ _ _ _ _ c.search.i (c.search.i + c.loop-g.g-index) c.loop-k.k c.in-Some.contents
    c.search-test.true at.1 c.loop-k-test.true c.loop-k.invariant
    (rw at.0 at c.in-Some.ensures) _ refl refl c.direct_of.ensures refl)
