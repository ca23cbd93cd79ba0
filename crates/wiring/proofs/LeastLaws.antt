-- The first polarities that serve each component give tables that make t, and the least such: F's
-- rows first, then G's. Assumes nothing.
use mathlib.Core.Path.{◌≡◌, sym, ◌∙◌}
use mathlib.Core.Bool.{Bool, true, false}
use mathlib.Core.List.{List}
use Prim.Native.Nat.{ℕ, ◌≤◌}
use native.Mathlib.Nat.{le_trans}
use native.Mathlib.Omega.{arith}
use Rattle.bits.specs.Bits.{of_rows}
use Rattle.wiring.specs.Wire.{Wiring, Wired, exchanged, bridged}
use Rattle.wiring.specs.Test.{component, pole_f, pole_g, choice, holds}
use Rattle.wiring.proofs.BlockLaws.{h_of, Gives}
use Rattle.wiring.proofs.OwnLaws.{wired-exchanged}
use Rattle.wiring.proofs.ComponentLaws.{Splits, splits-f, splits-g}
use Rattle.wiring.proofs.ChangeLaws.{rest-unchanged}
use Rattle.wiring.proofs.TableLaws.{Steady, table_of, table_at}
use Rattle.wiring.proofs.PolarityLaws.{polarity, polarity-steady, lowered, lowered-le}
use Rattle.wiring.proofs.OrderLaws.{First, lesser, same-polarities}
use Rattle.wiring.proofs.PoleLaws.{poles-lt, pole_f-poles, pole_g-poles, first-F, first-G}
use Rattle.wiring.proofs.ServeLaws.{Serves}
use Rattle.wiring.proofs.AskedLaws.{served-row}
use Rattle.wiring.proofs.ChoiceLaws.{component-lt, choice-le, choice-serves}
use Rattle.wiring.proofs.ChoiceLaws.{own_poles, own-serves}

-- polarities that come before those of A, component by component, give a table no greater than A
module _ (n : ℕ) (t : List ℕ) (w : Wiring) (wired : Wired n w)
    (comp : ℕ → ℕ) (splits : Splits n w comp)
    (H : Bool → Bool → Bool → Bool) (A B : ℕ → Bool) (gives : Gives n t w H A B)
    (P : ℕ → Bool → Bool) (steady : (r : ℕ) → Steady (bridged w) (P (comp r)))
    (order : (r : ℕ) → First (P (comp r)) (polarity n t w comp A (comp r))) where
  over : of_rows 16 (table_of n t w comp P) ≤ of_rows 16 (lowered n t w comp A)
  over =
      lesser n t w wired comp splits (rest-unchanged n t w wired H A B gives) P
      (polarity n t w comp A) steady (λ r. polarity-steady n t w comp A (comp r)) order 16

  under : of_rows 16 (lowered n t w comp A) ≤ of_rows 16 A
  under = lowered-le n t w comp A wired splits H B gives 16

  least : of_rows 16 (table_of n t w comp P) ≤ of_rows 16 A
  least = le_trans over under

  least-same : of_rows 16 (table_of n t w comp P) ≡ of_rows 16 A
      → (r : ℕ) (v : Bool) → P (comp r) v ≡ polarity n t w comp A (comp r) v
  least-same e =
      same-polarities n t w wired comp splits (rest-unchanged n t w wired H A B gives) P
      (polarity n t w comp A) steady (λ r. polarity-steady n t w comp A (comp r))
      (omega (arith, over, under))

-- F's table with the first polarities that serve, and G's
abbrev pub table_f : (n : ℕ) (t : List ℕ) (w : Wiring) (h x : ℕ) → Bool
table_f n t w h = table_of n t w (component n w) (λ s. pole_f (choice n t w h s))

abbrev pub table_g : (n : ℕ) (t : List ℕ) (w : Wiring) (h x : ℕ) → Bool
table_g n t w h = table_of n t (exchanged w) (component n w) (λ s. pole_g (choice n t w h s))

module _ (n : ℕ) (t : List ℕ) (w : Wiring) (wired : Wired n w) (h : ℕ) where
  abbrev comp : ℕ → ℕ
  comp r = component n w r

  -- the first polarities that serve the component of row r
  abbrev best : ℕ → ℕ
  best r = choice n t w h (comp r)

  abbrev best_f : ℕ → Bool → Bool
  best_f s = pole_f (choice n t w h s)

  abbrev best_g : ℕ → Bool → Bool
  best_g s = pole_g (choice n t w h s)

  abbrev wired-g : Wired n (exchanged w)
  wired-g = wired-exchanged n w wired

  module _ (held : holds n t w h ≡ true) where
    best-serves : (r : ℕ) → Serves n t w h (comp r) (best r)
    best-serves r = choice-serves n t w h held (comp r) (component-lt n t w wired r)

    pub best-gives : Gives n t w (h_of h) (table_f n t w h) (table_g n t w h)
    best-gives r l =
        rw (
          table_at n t w comp best_f wired (splits-f n w) r (best-serves r).steady-f,
          table_at n t (exchanged w) comp best_g wired-g (splits-g n w) r (best-serves r).steady-g,
        )
        (served-row n t w h (best r) r l (best-serves r))

    module _ (A B : ℕ → Bool) (gives : Gives n t w (h_of h) A B) where
      -- those of A and B there, which are not before them
      abbrev own : ℕ → ℕ
      own r = own_poles n t w A B (comp r)

      abbrev p_f : ℕ → Bool → Bool
      p_f r v = polarity n t w comp A (comp r) v

      abbrev p_g : ℕ → Bool → Bool
      p_g r v = polarity n t (exchanged w) comp B (comp r) v

      best-le : (r : ℕ) → best r ≤ own r
      best-le r =
          choice-le n t w h (comp r) (own r) (poles-lt (p_f r) (p_g r))
          (own-serves n t w wired h A B gives (comp r))

      order-F : (r : ℕ) → First (pole_f (best r)) (p_f r)
      order-F r =
          rw (pole_f-poles (p_f r) (p_g r) false, pole_f-poles (p_f r) (p_g r) true) at
          (first-F (best r) (own r) (poles-lt (p_f r) (p_g r)) (best-le r))

      pub least-F : of_rows 16 (table_f n t w h) ≤ of_rows 16 A
      least-F =
          least n t w wired comp (splits-f n w) (h_of h) A B gives best_f
          (λ r. (best-serves r).steady-f) order-F

      pub least-G : of_rows 16 (table_f n t w h) ≡ of_rows 16 A
          → of_rows 16 (table_g n t w h) ≤ of_rows 16 B
      least-G e =
          let same : (r : ℕ) (v : Bool) → pole_f (best r) v ≡ pole_f (own r) v =
          λ r v.
          least-same n t w wired comp (splits-f n w) (h_of h) A B gives best_f
          (λ r. (best-serves r).steady-f) order-F e r v
          ∙ sym (pole_f-poles (p_f r) (p_g r) v) in
          let order-G : (r : ℕ) → First (pole_g (best r)) (p_g r) =
          λ r.
          rw (pole_g-poles (p_f r) (p_g r) false, pole_g-poles (p_f r) (p_g r) true) at
          (first-G (best r) (own r) (poles-lt (p_f r) (p_g r)) (best-le r) (same r)) in
          least n t (exchanged w) wired-g comp (splits-g n w) (λ y x z. h_of h x y z) B A gives
          best_g (λ r. (best-serves r).steady-g) order-G
