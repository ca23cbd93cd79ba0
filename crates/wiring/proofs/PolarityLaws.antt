-- Any table that gives t may be replaced by the changes of t turned by one polarity for each
-- component and value of the direct pin; and that table is nowhere above it. Assumes nothing.
use mathlib.Core.Path.{◌≡◌, refl, sym, ◌∙◌}
use mathlib.Core.Bool.{Bool, true, false, not, ◌&&◌, ◌||◌, or-true}
use mathlib.Core.Logic.{◌⊎◌, inl, inr, ⊎_elim}
use mathlib.Core.List.{List}
use Prim.Native.Nat.{ℕ, ◌^◌, ◌<◌, ◌≤◌}
use lib.Dec.{eqb}
use borrow.Author.Tests.{not-true, not-false}
use Rattle.bits.specs.Bits.{of_rows}
use Rattle.bits.specs.Tests.{some, ◌⊕◌}
use Rattle.bits.proofs.SearchLaws.{byBool, clash, some-where, none-where}
use Rattle.bits.proofs.TestLaws.{both_left, both_right, implied}
use Rattle.bits.proofs.XorLaws.{xor-no, xor-yes, xor_self, xor-back}
use Rattle.bits.proofs.RowLaws.{before-le}
use Rattle.block.specs.Value.{selected}
use Rattle.wiring.specs.Wire.{Wiring, Wired, reads, bridged}
use Rattle.wiring.specs.Test.{changes}
use Rattle.wiring.proofs.BlockLaws.{Gives}
use Rattle.wiring.proofs.ComponentLaws.{Splits, rest-by-component}
use Rattle.wiring.proofs.ChangeLaws.{Idle, idle-between, idle-unchanged}
use Rattle.wiring.proofs.TableLaws.{Steady, table_of, table_at, table-cases}

-- the polarity of table A in component s, where the direct pin is v if F carries it: 0 if in some row
-- there A is as t changes
unfoldable pub polarity : (n : ℕ) (t : List ℕ) (w : Wiring) (comp : ℕ → ℕ) (A : ℕ → Bool)
    (s : ℕ) (v : Bool) → Bool
polarity n t w comp A s v =
    not
    (some
    (λ r.
    eqb (comp r) s
    && ((not (bridged w) || not (reads w.direct r ⊕ v))
    && not (A (selected w.f r) ⊕ changes n t w (selected w.f r)))) (2 ^ n))

-- the table of A's polarities
abbrev pub lowered : (n : ℕ) (t : List ℕ) (w : Wiring) (comp : ℕ → ℕ) (A : ℕ → Bool) (x : ℕ) → Bool
lowered n t w comp A = table_of n t w comp (polarity n t w comp A)

module _ (n : ℕ) (t : List ℕ) (w : Wiring) (comp : ℕ → ℕ) (A : ℕ → Bool) where
  abbrev f : ℕ → ℕ
  f r = selected w.f r

  abbrev pin : ℕ → Bool
  pin r = reads w.direct r

  -- in row r A is not as t changes
  abbrev turn : ℕ → Bool
  turn r = A (f r) ⊕ changes n t w (f r)

  abbrev pole : (s : ℕ) (v : Bool) → Bool
  pole s v = polarity n t w comp A s v

  -- the direct pin reads v in row r, if F carries its variable
  abbrev level : (v : Bool) (r : ℕ) → Bool
  level v r = not (bridged w) || not (pin r ⊕ v)

  level-is : (v : Bool) (r : ℕ) → level v r ≡ true → bridged w ≡ true → pin r ≡ v
  level-is v r h b =
      xor-no (pin r) v (not-true (pin r ⊕ v) (implied (bridged w) (not (pin r ⊕ v)) h b))

  pub polarity-steady : (s : ℕ) → Steady (bridged w) (pole s)
  unfolding polarity
  polarity-steady s e = rw e

  polarity-0 : (s : ℕ) (v : Bool) → pole s v ≡ false
      → (r : ℕ) × (r < 2 ^ n) × (comp r ≡ s) × (bridged w ≡ true → pin r ≡ v) × (turn r ≡ false)
  unfolding polarity
  polarity-0 s v h =
      let found = some-where comp s (λ r. level v r && not (turn r)) (2 ^ n) (not-false _ h) in
      let r = found.0 in (
        r,
        found.1,
        found.2,
        level-is v r (both_left (level v r) (not (turn r)) found.3),
        not-true (turn r) (both_right (level v r) (not (turn r)) found.3),
      )

  polarity-1 : (r : ℕ) → r < 2 ^ n → pole (comp r) (pin r) ≡ true → turn r ≡ true
  unfolding polarity
  polarity-1 r l h =
      let test : ℕ → Bool = λ s. level (pin r) s && not (turn s) in
      let none = none-where comp (comp r) test (2 ^ n) (not-true _ h) r l refl in
      not-false (turn r) (simp (xor_self, or-true) at none)

  module _ (wired : Wired n w) (splits : Splits n w comp) where
    pub lowered-at : (r : ℕ)
        → lowered n t w comp A (f r) ≡ changes n t w (f r) ⊕ pole (comp r) (pin r)
    lowered-at r = table_at n t w comp pole wired splits r (polarity-steady (comp r))

    module _ (H : Bool → Bool → Bool → Bool) (B : ℕ → Bool) (gives : Gives n t w H A B) where
      -- the table keeps A's value, or has 0 where H does not look
      keeps-or-idle : (r : ℕ) → r < 2 ^ n
          → (changes n t w (f r) ⊕ pole (comp r) (pin r) ≡ A (f r))
          ⊎ ((changes n t w (f r) ⊕ pole (comp r) (pin r) ≡ false) × Idle w H B r)
      keeps-or-idle r l =
          let c = changes n t w (f r) in
          let p = pole (comp r) (pin r) in
          byBool (p ⊕ turn r)
          (λ e.
          byBool (turn r)
          (λ y.
          let low : p ≡ false = cc (xor-yes p (turn r) e) in
          let found = polarity-0 (comp r) (pin r) low in
          let s = found.0 in
          let same =
          rest-by-component n w wired comp splits r s (sym found.2) (λ b. sym (found.3 b)) in
          let idle = idle-between n t w wired H A B gives r s same y found.4 in
          inr (cc (idle-unchanged n t w wired H A B gives r idle), idle r refl))
          (λ y. clash (polarity-1 r l (cc (xor-yes p (turn r) e))) y))
          (λ e. inl (cc (xor-no p (turn r) e, xor-back c (A (f r)))))

      pub lowered-gives : Gives n t w H (lowered n t w comp A) B
      lowered-gives r l =
          rw (lowered-at r)
          (⊎_elim (λ e. rw e (gives r l)) (λ e. gives r l ∙ e.1 _ _) (keeps-or-idle r l))

      lowered-below : (r : ℕ) → r < 2 ^ n → A (f r) ≡ false → lowered n t w comp A (f r) ≡ false
      lowered-below r l h =
          lowered-at r ∙ ⊎_elim (λ e. e ∙ h) (λ e. e.0) (keeps-or-idle r l)

      pub lowered-le : (k : ℕ) → of_rows k (lowered n t w comp A) ≤ of_rows k A
      lowered-le k =
          before-le k (lowered n t w comp A) A
          (λ x l same h.
          ⊎_elim (λ e. e)
          (λ (row : (r : ℕ) × (r < 2 ^ n) × (f r ≡ x)).
          rw row.2 at (lowered-below row.0 row.1 (rw (← row.2) at h)))
          (table-cases n t w comp pole x))
