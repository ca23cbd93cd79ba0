-- Table H turned by polarities: what served before serves turned, so with some H polarities 0 serve a
-- given component. Assumes nothing.
use mathlib.Core.Path.{◌≡◌, refl, sym, ap, ◌∙◌}
use mathlib.Core.Bool.{Bool, true, false}
use mathlib.Core.List.{List}
use Prim.Native.Nat.{ℕ, ◌<◌}
use Rattle.bits.specs.Bits.{has, of_rows}
use Rattle.bits.specs.Tests.{◌⊕◌}
use Rattle.bits.proofs.BitLaws.{has-of-0}
use Rattle.bits.proofs.XorLaws.{xor_self, xor-undo}
use Rattle.bits.proofs.RowLaws.{of_rows-lt, is_row-of_rows}
use Rattle.wiring.specs.Wire.{Wiring}
use Rattle.wiring.specs.Test.{pole_f, pole_g, turned, h_row}
use Rattle.wiring.proofs.BlockLaws.{place, place-lt}
use Rattle.wiring.proofs.PoleLaws.{poles, poles-lt, pole_f-poles, pole_g-poles}
use Rattle.wiring.proofs.ServeLaws.{Serves}
use Rattle.wiring.proofs.AskedLaws.{turned-place}

-- table H with row e taken from the row that polarities p make of it
unfoldable pub h_turned : (h p : ℕ) → ℕ
h_turned h p = of_rows 8 (λ e. h_row h (turned p e))

pub h_turned-lt : (h p : ℕ) → h_turned h p < 256
unfolding h_turned
h_turned-lt h p = of_rows-lt 8 (λ e. h_row h (turned p e))

h_turned-row : (h p e : ℕ) → e < 8 → h_row (h_turned h p) e ≡ h_row h (turned p e)
unfolding h_turned has
h_turned-row h p e l = is_row-of_rows 8 (λ e. h_row h (turned p e)) e l

turned-is : (k e : ℕ)
    → turned k e ≡ place (has e 2 ⊕ pole_f k (has e 0)) (has e 1 ⊕ pole_g k (has e 0)) (has e 0)
unfolding turned
turned-is k e = refl

turned_lt : (k e : ℕ) → turned k e < 8
turned_lt k e =
    let z = has e 0 in
    rw (turned-is k e) (place-lt (has e 2 ⊕ pole_f k z) (has e 1 ⊕ pole_g k z) z)

-- polarities k are l and p, one after the other
pub record Both (k l p : ℕ) : Type 0 where
  pub in_f : (v : Bool) → pole_f k v ≡ pole_f l v ⊕ pole_f p v
  pub in_g : (v : Bool) → pole_g k v ≡ pole_g l v ⊕ pole_g p v

-- such polarities there are
unfoldable pub both : (l p : ℕ) → ℕ
both l p = poles (λ v. pole_f l v ⊕ pole_f p v) (λ v. pole_g l v ⊕ pole_g p v)

pub both-lt : (l p : ℕ) → both l p < 16
unfolding both
both-lt l p = poles-lt _ _

pub both-Both : (l p : ℕ) → Both (both l p) l p
unfolding both
both-Both l p = record { in_f = λ v. pole_f-poles _ _ v; in_g = λ v. pole_g-poles _ _ v }

pole_f-0 : (v : Bool) → pole_f 0 v ≡ false
unfolding pole_f
pole_f-0 true = has-of-0 2
pole_f-0 false = has-of-0 3

pole_g-0 : (v : Bool) → pole_g 0 v ≡ false
unfolding pole_g
pole_g-0 true = has-of-0 0
pole_g-0 false = has-of-0 1

-- polarities p undo themselves
pub none-Both : (p : ℕ) → Both 0 p p
none-Both p =
    record {
      in_f = λ v. pole_f-0 v ∙ sym (xor_self (pole_f p v));
      in_g = λ v. pole_g-0 v ∙ sym (xor_self (pole_g p v));
    }

module _ (k l p : ℕ) (are : Both k l p) where
  turned-both : (e : ℕ) → turned p (turned k e) ≡ turned l e
  turned-both e =
      let z = has e 0 in
      rw (
        turned-is k e,
        turned-is l e,
        are.in_f z,
        are.in_g z,
        turned-place p (has e 2 ⊕ (pole_f l z ⊕ pole_f p z)) (has e 1 ⊕ (pole_g l z ⊕ pole_g p z)) z,
        xor-undo (has e 2) (pole_f l z) (pole_f p z),
        xor-undo (has e 1) (pole_g l z) (pole_g p z),
      )

  pub serves-turned : (n : ℕ) (t : List ℕ) (w : Wiring) (h s q : ℕ)
      → Serves n t w h q p → Serves n t w h s l → Serves n t w (h_turned h p) s k
  serves-turned n t w h s q by-p by-l =
      record {
        steady-f = λ b. cc (are.in_f true, are.in_f false, by-l.steady-f b, by-p.steady-f b);
        steady-g = λ b. cc (are.in_g true, are.in_g false, by-l.steady-g b, by-p.steady-g b);
        meets = λ v e m a.
            h_turned-row h p (turned k e) (turned_lt k e)
            ∙ ap (h_row h) (turned-both e)
            ∙ by-l.meets v e m a;
      }
