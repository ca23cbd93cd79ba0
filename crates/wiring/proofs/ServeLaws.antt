-- The test of polarities for a component says what it should: each row of H that they turn to has the
-- value that is asked. Assumes nothing.
use mathlib.Core.Path.{◌≡◌, refl}
use mathlib.Core.Bool.{Bool, true, false, not, ◌&&◌, ◌||◌}
use mathlib.Core.List.{List}
use Prim.Native.Nat.{ℕ, ◌<◌}
use borrow.Author.Tests.{not-true}
use Rattle.bits.specs.Tests.{below}
use Rattle.bits.proofs.SearchLaws.{clash}
use Rattle.bits.proofs.TestLaws.{both_left, both_right, implied, below_at, below_of}
use Rattle.bits.proofs.XorLaws.{xor-no, xor-eq}
use Rattle.wiring.specs.Wire.{Wiring, exchanged, bridged}
use Rattle.wiring.specs.Test.{asked, pole_f, pole_g, steady, allowed, turned, h_row, serves}
use Rattle.wiring.proofs.TableLaws.{Steady}

-- what polarities k must do to serve component s with table H
pub record Serves (n : ℕ) (t : List ℕ) (w : Wiring) (h s k : ℕ) : Type 0 where
  pub steady-f : Steady (bridged w) (pole_f k)
  pub steady-g : Steady (bridged (exchanged w)) (pole_g k)
  pub meets : (v : Bool) (e : ℕ) → e < 8 → asked n t w v s e ≡ true → h_row h (turned k e) ≡ v

steady→Steady : (bridged : Bool) (pole : Bool → Bool) → steady bridged pole ≡ true
    → Steady bridged pole
unfolding steady
steady→Steady bridged pole e b = xor-no (pole true) (pole false) (not-true _ (rw b at e))

Steady→steady : (bridged : Bool) (pole : Bool → Bool) → Steady bridged pole
    → steady bridged pole ≡ true
unfolding steady
Steady→steady true pole h = refl
Steady→steady false pole h = rw (xor-eq (pole true) (pole false) (h refl))

-- what is asked of one row of H, as a test
met→ : (one zero row : Bool) → (not one || row) && (not zero || not row) ≡ true
    → (v : Bool) → (v ≡ true → one ≡ true) → (v ≡ false → zero ≡ true) → row ≡ v
met→ one zero row h true a b = implied one row (both_left (not one || row) _ h) (a refl)
met→ one zero row h false a b =
    not-true row (implied zero (not row) (both_right (not one || row) _ h) (b refl))

→met : (one zero row : Bool) → (one ≡ true → row ≡ true) → (zero ≡ true → row ≡ false)
    → (not one || row) && (not zero || not row) ≡ true
→met true true row a b = clash (a refl) (b refl)
→met true false row a b = rw (a refl)
→met false true row a b = rw (b refl)
→met false false row a b = refl

module _ (n : ℕ) (t : List ℕ) (w : Wiring) (h s k : ℕ) where
  -- row e of H is asked to be 1, is asked to be 0, is 1 once turned
  abbrev one : ℕ → Bool
  one e = asked n t w true s e

  abbrev zero : ℕ → Bool
  zero e = asked n t w false s e

  abbrev row : ℕ → Bool
  row e = h_row h (turned k e)

  abbrev met : ℕ → Bool
  met e = (not (one e) || row e) && (not (zero e) || not (row e))

  abbrev in_f : Bool
  in_f = steady (bridged w) (pole_f k)

  abbrev in_g : Bool
  in_g = steady (bridged (exchanged w)) (pole_g k)

  pub serves→Serves : serves n t w h s k ≡ true → Serves n t w h s k
  unfolding serves allowed
  serves→Serves e =
      let can = both_left (in_f && in_g) (below met 8) e in
      let all = below_at met 8 (both_right (in_f && in_g) (below met 8) e) in
      record {
        steady-f = steady→Steady (bridged w) (pole_f k) (both_left in_f in_g can);
        steady-g = steady→Steady (bridged (exchanged w)) (pole_g k) (both_right in_f in_g can);
        meets = λ v e l a.
            met→ (one e) (zero e) (row e) (all e l) v (λ is. rw is at a) (λ is. rw is at a);
      }

  pub Serves→serves : Serves n t w h s k → serves n t w h s k ≡ true
  unfolding serves allowed
  Serves→serves served =
      rw (
        Steady→steady (bridged w) (pole_f k) served.steady-f,
        Steady→steady (bridged (exchanged w)) (pole_g k) served.steady-g,
      )
      (below_of met 8
      (λ e l. →met (one e) (zero e) (row e) (served.meets true e l) (served.meets false e l)))
