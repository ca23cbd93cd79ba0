-- Components: the shared variables split the rows, and with the direct pin they fix all that F sees
-- but its own variables. Said for any numbering of the components, so that F and G may have the same.
-- Assumes nothing.
use mathlib.Core.Path.{◌≡◌, refl, sym, ap, ◌∙◌}
use mathlib.Core.Bool.{Bool, true, false, not, ◌&&◌, and_assoc, and_comm}
use Prim.Native.Nat.{ℕ}
use lib.Dec.{eqb}
use borrow.Author.Tests.{eqb-true, not-true}
use Rattle.bits.proofs.SearchLaws.{byBool, clash}
use Rattle.bits.proofs.TestLaws.{both_left, both_right}
use Rattle.block.specs.Value.{selected}
use Rattle.block.specs.Kind.{carries}
use Rattle.wiring.specs.Wire.{Wiring, Wired, exchanged, reads, only, shown}
use Rattle.wiring.specs.Wire.{private, shared, bridged}
use Rattle.wiring.specs.Test.{component}
use Rattle.wiring.proofs.OnlyLaws.{Agree, only-in, only-agree, without-out, put_other}
use Rattle.wiring.proofs.ReadLaws.{carried-lt, reads-carried, reads-ext, carried-closed}
use Rattle.wiring.proofs.SelectLaws.{selected-agree}
use Rattle.wiring.proofs.ShownLaws.{shown-agrees}
use Rattle.wiring.proofs.OwnLaws.{rest, rest-agree, with_direct}

-- the numbering tells rows apart just by their shared variables
pub record Splits (n : ℕ) (w : Wiring) (comp : ℕ → ℕ) : Type 0 where
  pub same : (r s : ℕ) → Agree n (shared w) r s → comp r ≡ comp s
  pub agree : (r s : ℕ) → comp r ≡ comp s → Agree n (shared w) r s

shared-f : (w : Wiring) (v : ℕ) → shared w v ≡ true → carries w.f v ≡ true
shared-f w v q = both_left (carries w.f v) (carries w.g v && not (eqb v w.direct)) q

pub splits-f : (n : ℕ) (w : Wiring) → Splits n w (component n w)
unfolding component
splits-f n w =
    record {
      same = λ r s h. ap (selected w.f) (only-agree n (shared w) r s h);
      agree = λ r s e v l q.
          let only-r = only n (shared w) r in
          let only-s = only n (shared w) s in
          let same = selected-agree n w.f only-r only-s e v l (shared-f w v q) in
          cc (same, only-in n (shared w) r v l q, only-in n (shared w) s v l q);
    }

shared-exchanged : (w : Wiring) (v : ℕ) → shared (exchanged w) v ≡ shared w v
shared-exchanged w v =
    let f = carries w.f v in
    let g = carries w.g v in
    let off = not (eqb v w.direct) in
    rw (← and_assoc g f off, and_comm g f) (and_assoc f g off)

-- G's components have the numbers of F's
pub splits-g : (n : ℕ) (w : Wiring) → Splits n (exchanged w) (component n w)
splits-g n w =
    let splits = splits-f n w in
    record {
      same = λ r s h. splits.same r s (λ v l q. h v l (shared-exchanged w v ∙ q));
      agree = λ r s e v l q. splits.agree r s e v l (sym (shared-exchanged w v) ∙ q);
    }

-- a variable of F is its own, or the direct pin's, or shared
shared_of : (w : Wiring) (v : ℕ) → carries w.f v ≡ true → eqb v w.direct ≡ false
    → private w v ≡ false → shared w v ≡ true
shared_of w v c d q = rw (c, d) (go (carries w.g v) (rw (c, d) at q))
  where
    go : (g : Bool) → not g && true ≡ false → g && true ≡ true
    go true q = refl
    go false q = sym q

shared-not-own : (w : Wiring) (v : ℕ) → shared w v ≡ true → private w v ≡ false
shared-not-own w v q = go (carries w.f v) (carries w.g v) (not (eqb v w.direct)) q
  where
    go : (f g e : Bool) → f && (g && e) ≡ true → f && (not g && e) ≡ false
    go true true e q = refl
    go true false e q = clash q refl
    go false g e q = refl

shared-not-direct : (w : Wiring) (v : ℕ) → shared w v ≡ true → eqb v w.direct ≡ false
shared-not-direct w v q =
    let apart = not (eqb v w.direct) in
    let in_g = both_right (carries w.f v) (carries w.g v && apart) q in
    not-true (eqb v w.direct) (both_right (carries w.g v) apart in_g)

module _ (n : ℕ) (w : Wiring) (wired : Wired n w) (comp : ℕ → ℕ) (splits : Splits n w comp) where
  -- the component, with the direct pin's value where F carries it, fixes what F sees of the rest
  pub rest-by-component : (r s : ℕ) → comp r ≡ comp s
      → (bridged w ≡ true → reads w.direct r ≡ reads w.direct s)
      → selected w.f (rest n w r) ≡ selected w.f (rest n w s)
  rest-by-component r s e h =
      rest-agree n w wired r s
      (λ v l c q.
      byBool (eqb v w.direct)
      (λ d.
      let is = eqb-true v w.direct d in
      let bridge : bridged w ≡ true = rw (← is) c in
      let closed = carried-closed w.f w.direct bridge in
      cc (h bridge, reads-carried w.direct r closed, reads-carried w.direct s closed))
      (λ d. splits.agree r s e v l (shared_of w v c d q)))

  -- a row shown to F is of the component of the rows that it stands for
  pub shown-component : (r : ℕ) → comp (shown n w.f (selected w.f r)) ≡ comp r
  shown-component r =
      splits.same (shown n w.f (selected w.f r)) r
      (λ v l q. shown-agrees n w.f r v l (shared-f w v q))

  pub shown-direct : (r : ℕ) → bridged w ≡ true
      → reads w.direct (shown n w.f (selected w.f r)) ≡ reads w.direct r
  shown-direct r bridge =
      reads-ext w.direct (shown n w.f (selected w.f r)) r
      (λ closed.
      shown-agrees n w.f r w.direct (carried-lt n w.direct wired.direct-fits closed) bridge)

  pub rest-component : (r : ℕ) → comp (rest n w r) ≡ comp r
  rest-component r =
      splits.same (rest n w r) r
      (λ v l q. without-out n (private w) r v l (shared-not-own w v q))

  pub direct-component : (level : Bool) (r : ℕ) → comp (with_direct n w level r) ≡ comp r
  direct-component level r =
      splits.same (with_direct n w level r) r
      (λ v l q. put_other n w.direct level r v l (shared-not-direct w v q))
