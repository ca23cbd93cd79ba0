-- The test holds just if every component has polarities that serve it, and picks the first. Where
-- tables give t, their polarities serve every component. Assumes nothing.
use mathlib.Core.Path.{◌≡◌, sym, ◌∙◌}
use mathlib.Core.Bool.{Bool, true, false}
use mathlib.Core.List.{List}
use Prim.Native.Nat.{ℕ, ◌<◌, ◌≤◌}
use native.Mathlib.Omega.{arith}
use lib.Dec.{ltb}
use borrow.Author.Tests.{ltb-true, lt-ltb}
use Rattle.bits.proofs.SearchLaws.{first-is, first-le}
use Rattle.bits.proofs.TestLaws.{below_at, below_of}
use Rattle.wiring.specs.Wire.{Wiring, Wired, exchanged, reads, only, shared}
use Rattle.wiring.specs.Test.{component, serves, choice, holds}
use Rattle.wiring.proofs.SelectLaws.{selected-four}
use Rattle.wiring.proofs.BlockLaws.{h_of, Gives}
use Rattle.wiring.proofs.OwnLaws.{wired-exchanged}
use Rattle.wiring.proofs.ComponentLaws.{splits-f, splits-g}
use Rattle.wiring.proofs.PolarityLaws.{polarity, polarity-steady}
use Rattle.wiring.proofs.PolarityLaws.{lowered, lowered-at, lowered-gives}
use Rattle.wiring.proofs.PoleLaws.{poles, pole_f-poles, pole_g-poles}
use Rattle.wiring.proofs.ServeLaws.{Serves, serves→Serves, Serves→serves}
use Rattle.wiring.proofs.AskedLaws.{served-of}

module _ (n : ℕ) (t : List ℕ) (w : Wiring) where
  pub component-lt : Wired n w → (r : ℕ) → component n w r < 16
  unfolding component
  component-lt wired r = selected-four w.f wired.f-four (only n (shared w) r)

  module _ (h : ℕ) where
    pub choice-le : (s k : ℕ) → k < 16 → Serves n t w h s k → choice n t w h s ≤ k
    unfolding choice
    choice-le s k l served = first-le (serves n t w h s) 16 k l (Serves→serves n t w h s k served)

    pub holds_of : ((s : ℕ) → s < 16 → (k : ℕ) × (k < 16) × Serves n t w h s k) → holds n t w h ≡ true
    unfolding holds
    holds_of served =
        below_of (λ s. ltb (choice n t w h s) 16) 16
        (λ s l.
        let found = served s l in
        lt-ltb (choice n t w h s) 16
        (omega (arith, found.1, choice-le s found.0 found.1 found.2)))

    pub choice-lt : holds n t w h ≡ true → (s : ℕ) → s < 16 → choice n t w h s < 16
    unfolding holds
    choice-lt held s l =
        ltb-true (choice n t w h s) 16 (below_at (λ s. ltb (choice n t w h s) 16) 16 held s l)

    pub choice-serves : holds n t w h ≡ true → (s : ℕ) → s < 16 → Serves n t w h s (choice n t w h s)
    unfolding choice
    choice-serves held s l =
        serves→Serves n t w h s (choice n t w h s)
        (first-is (serves n t w h s) 16 (choice-lt held s l))

-- the polarities of tables A and B in component s, as a number
abbrev pub own_poles : (n : ℕ) (t : List ℕ) (w : Wiring) (A B : ℕ → Bool) (s : ℕ) → ℕ
own_poles n t w A B s =
    poles (polarity n t w (component n w) A s) (polarity n t (exchanged w) (component n w) B s)

module _ (n : ℕ) (t : List ℕ) (w : Wiring) (wired : Wired n w) (h : ℕ) (A B : ℕ → Bool)
    (gives : Gives n t w (h_of h) A B) where
  abbrev comp : ℕ → ℕ
  comp r = component n w r

  abbrev own_f : (s : ℕ) (v : Bool) → Bool
  own_f s v = polarity n t w comp A s v

  abbrev own_g : (s : ℕ) (v : Bool) → Bool
  own_g s v = polarity n t (exchanged w) comp B s v

  abbrev wired-g : Wired n (exchanged w)
  wired-g = wired-exchanged n w wired

  both-lowered : Gives n t w (h_of h) (lowered n t w comp A) (lowered n t (exchanged w) comp B)
  both-lowered =
      lowered-gives n t (exchanged w) comp B wired-g (splits-g n w) (λ y x z. h_of h x y z)
      (lowered n t w comp A)
      (lowered-gives n t w comp A wired (splits-f n w) (h_of h) B gives)

  pub own-serves : (s : ℕ) → Serves n t w h s (own_poles n t w A B s)
  own-serves s =
      served-of n t w h s (own_poles n t w A B s)
      (λ b.
      pole_f-poles (own_f s) (own_g s) true
      ∙ polarity-steady n t w comp A s b
      ∙ sym (pole_f-poles (own_f s) (own_g s) false))
      (λ b.
      pole_g-poles (own_f s) (own_g s) true
      ∙ polarity-steady n t (exchanged w) comp B s b
      ∙ sym (pole_g-poles (own_f s) (own_g s) false))
      (λ r l e.
      rw (
        pole_f-poles (own_f s) (own_g s) (reads w.direct r),
        pole_g-poles (own_f s) (own_g s) (reads w.direct r),
        ← e,
        ← lowered-at n t w comp A wired (splits-f n w) r,
        ← lowered-at n t (exchanged w) comp B wired-g (splits-g n w) r,
      )
      (both-lowered r l))
