-- The function's value is that of the row cut down to any set that holds every variable on which it
-- depends: clear the others one after another. Assumes nothing.
use mathlib.Core.Path.{◌≡◌, sym, ap, ◌∙◌}
use mathlib.Core.Bool.{Bool, true, false, not, ◌||◌, or-true, or-false}
use mathlib.Core.List.{List}
use Prim.Native.Nat.{ℕ, zero, suc, ◌^◌, ◌<◌, ◌≤◌}
use native.Mathlib.Omega.{arith}
use lib.Dec.{eqb, ltb}
use borrow.Author.Tests.{eqb-true, lt-ltb, le-ltb}
use Rattle.bits.specs.Tests.{◌⊕◌}
use Rattle.wiring.specs.Wire.{truth, only, without}
use Rattle.wiring.specs.Fits.{depends_on}
use Rattle.bits.proofs.SearchLaws.{byBool, clash, none_out, none_in}
use Rattle.bits.proofs.TestLaws.{ltb-suc}
use Rattle.bits.proofs.XorLaws.{xor-no, xor-eq}
use Rattle.bits.proofs.BitLaws.{same_number}
use Rattle.wiring.proofs.OnlyLaws.{has-only, has-without, only-lt, without-lt, only-ext}

pub free-same : (n : ℕ) (t : List ℕ) (v : ℕ) → depends_on n t v ≡ false
    → (r : ℕ) → r < 2 ^ n → truth t r ≡ truth t (without n (eqb v) r)
unfolding depends_on
free-same n t v free r l =
    xor-no _ _ (none_out (λ r. truth t r ⊕ truth t (without n (eqb v) r)) (2 ^ n) free r l)

pub same-free : (n : ℕ) (t : List ℕ) (v : ℕ)
    → ((r : ℕ) → r < 2 ^ n → truth t r ≡ truth t (without n (eqb v) r)) → depends_on n t v ≡ false
unfolding depends_on
same-free n t v same = none_in _ (2 ^ n) (λ r l. xor-eq _ _ (same r l))

module _ (n : ℕ) (t : List ℕ) (set : ℕ → Bool)
    (holds : (v : ℕ) → v < n → depends_on n t v ≡ true → set v ≡ true) where
  -- row r with the variables below k cleared that are not in the set
  abbrev cleared : (k r : ℕ) → ℕ
  cleared k r = only n (λ v. set v || not (ltb v k)) r

  none-cleared : (r : ℕ) → r < 2 ^ n → cleared 0 r ≡ r
  none-cleared r l =
      same_number n (cleared 0 r) r (only-lt n _ r) l
      (λ v m. has-only n (λ v. set v || not (ltb v 0)) r v m ∙ rw (le-ltb v 0 (omega arith)) (simp or-true))

  all-cleared : (r : ℕ) → cleared n r ≡ only n set r
  all-cleared r = only-ext n _ set r (λ v l. rw (lt-ltb v n l, or-false (set v)))

  kept : (k r : ℕ) → set k ≡ true → cleared k r ≡ cleared (suc k) r
  kept k r e =
      only-ext n _ _ r
      (λ v l.
      byBool (eqb k v) (λ here. let same : set v ≡ true = ap set (sym (eqb-true k v here)) ∙ e in rw same)
      (λ other. rw (ltb-suc v k other)))

  cleared-one : (k r : ℕ) → set k ≡ false → without n (eqb k) (cleared k r) ≡ cleared (suc k) r
  cleared-one k r e =
      same_number n _ (cleared (suc k) r) (without-lt n (eqb k) (cleared k r)) (only-lt n _ r)
      (λ v l.
      rw (
        has-without n (eqb k) (cleared k r) v l,
        has-only n (λ v. set v || not (ltb v k)) r v l,
        has-only n (λ v. set v || not (ltb v (suc k))) r v l,
      )
      (byBool (eqb k v)
      (λ here.
      let same = eqb-true k v here in
      let out : set v ≡ false = ap set (sym same) ∙ e in
      rw (here, out, lt-ltb v (suc k) (omega arith)))
      (λ other. rw (other, ltb-suc v k other))))

  truth-next : (k r : ℕ) → k < n → truth t (cleared k r) ≡ truth t (cleared (suc k) r)
  truth-next k r l =
      byBool (set k) (λ e. ap (truth t) (kept k r e))
      (λ e.
      let unmoved = byBool (depends_on n t k) (λ d. clash (holds k l d) e) (λ d. d) in
      free-same n t k unmoved (cleared k r) (only-lt n _ r) ∙ ap (truth t) (cleared-one k r e))

  truth-cleared : (k r : ℕ) → k ≤ n → r < 2 ^ n → truth t r ≡ truth t (cleared k r)
  truth-cleared zero r l row = ap (truth t) (sym (none-cleared r row))
  truth-cleared (suc k) r l row = truth-cleared k r (omega arith) row ∙ truth-next k r l

  pub truth-only : (r : ℕ) → r < 2 ^ n → truth t (only n set r) ≡ truth t r
  truth-only r row = sym (truth-cleared n r (omega arith) row ∙ ap (truth t) (all-cleared r))
