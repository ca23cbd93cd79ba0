-- Where tables A and B with H give t, a change of t with F's own variables turns A; and where A does
-- not turn as t does, H does not look at A. Assumes nothing.
use mathlib.Core.Path.{◌≡◌, refl, sym}
use mathlib.Core.Bool.{Bool, true, false, not}
use mathlib.Core.List.{List}
use Prim.Native.Nat.{ℕ, ◌^◌, ◌<◌}
use Rattle.bits.specs.Tests.{◌⊕◌}
use Rattle.bits.proofs.SearchLaws.{byBool, some-where, none-where}
use Rattle.bits.proofs.TestLaws.{unturned}
use Rattle.bits.proofs.XorLaws.{xor-no, xor-yes, xor-false, xor-true, not-self}
use Rattle.block.specs.Value.{selected}
use Rattle.wiring.specs.Wire.{Wiring, Wired, truth, reads}
use Rattle.wiring.specs.Test.{changes}
use Rattle.wiring.proofs.BlockLaws.{Gives}
use Rattle.wiring.proofs.OwnLaws.{own, rest, own-lt, own-f, own-g, own-direct}
use Rattle.wiring.proofs.OwnLaws.{rest_lt, rest-g, rest-direct, rest-same, rest-rest}

-- in row s H does not look at F's table
abbrev pub Idle : (w : Wiring) (H : Bool → Bool → Bool → Bool) (B : ℕ → Bool) (s : ℕ) → Type 0
Idle w H B s =
    (u v : Bool)
    → H u (B (selected w.g s)) (reads w.direct s)
    ≡ H v (B (selected w.g s)) (reads w.direct s)

module _ (n : ℕ) (t : List ℕ) (w : Wiring) (wired : Wired n w) where
  -- the rows of F and of G that row r selects, the direct pin's value, r without F's own variables
  abbrev f : ℕ → ℕ
  f r = selected w.f r

  abbrev g : ℕ → ℕ
  g r = selected w.g r

  abbrev pin : ℕ → Bool
  pin r = reads w.direct r

  abbrev bare : ℕ → ℕ
  bare r = rest n w r

  abbrev change : ℕ → Bool
  change x = changes n t w x

  unchanged : (r : ℕ) → r < 2 ^ n → change (f r) ≡ false → truth t r ≡ truth t (bare r)
  unfolding changes
  unchanged r l h = xor-no _ _ (none-where f (f r) _ (2 ^ n) h r l refl)

  changed : (x : ℕ) → change x ≡ true
      → (s : ℕ) × (s < 2 ^ n) × (f s ≡ x) × (truth t s ≡ not (truth t (bare s)))
  unfolding changes
  changed x h =
      let found = some-where f x (λ r. truth t r ⊕ truth t (bare r)) (2 ^ n) h in
      (found.0, found.1, found.2, xor-yes _ _ found.3)

  module _ (H : Bool → Bool → Bool → Bool) (A B : ℕ → Bool) (gives : Gives n t w H A B) where
    given-rest : (r : ℕ) → truth t (bare r) ≡ H (A (f (bare r))) (B (g r)) (pin r)
    given-rest r =
        rw (rest-g n w wired r, rest-direct n w wired r) at (gives (bare r) (rest_lt n w wired r))

    -- where t changes, A differs from its value at rest
    turns : (r : ℕ) → change (f r) ≡ true → A (f r) ≡ not (A (f (bare r)))
    turns r h =
        byBool (A (f r) ⊕ A (f (bare r))) (xor-yes (A (f r)) (A (f (bare r))))
        (λ e.
        let found = changed (f r) h in
        let s = found.0 in
        let same = xor-no (A (f r)) (A (f (bare r))) e in
        let keys = rest-same n w wired s r found.2 in
        not-self (truth t (bare s))
        (cc (gives s found.1, given-rest s, found.2, found.3, same, keys)))

    -- at rest nothing changes
    pub rest-unchanged : (r : ℕ) → change (f (bare r)) ≡ false
    rest-unchanged r =
        byBool (change (f (bare r)))
        (λ e.
        let found = changed (f (bare r)) e in
        let s = found.0 in
        let keys = rest-same n w wired s (bare r) found.2 in
        not-self (truth t (bare s))
        (cc (found.2, found.3, gives s found.1, given-rest s, keys, rest-rest n w wired r)))
        (λ e. e)

    idle-by : (z : ℕ) → A (f z) ⊕ change (f z) ≡ not (A (f (bare z)))
        → (s : ℕ) → f (bare z) ≡ f (bare s) → Idle w H B s
    idle-by z h s e =
        let k = A (f (bare z)) in
        let r = own n w z s in
        let seen = own-f n w wired z s e in
        let keys = rest-same n w wired r z seen in
        byBool (change (f z)) (λ y. not-self (A (f z)) (cc (xor-true (A (f z)), turns z y)))
        (λ y.
        let differs : A (f z) ≡ not k = cc (xor-false (A (f z))) in
        let still = unchanged r (own-lt n w wired z s) (cc) in
        unturned (λ v. H v (B (g s)) (pin s)) k
        (cc (
          still,
          gives r (own-lt n w wired z s),
          given-rest r,
          own-g n w wired z s,
          own-direct n w wired z s,
        )))

    -- where of two rows with one rest A is as t changes in one and not in the other, H does not look
    pub idle-between : (r s : ℕ) → f (bare r) ≡ f (bare s)
        → A (f r) ⊕ change (f r) ≡ true → A (f s) ⊕ change (f s) ≡ false
        → (z : ℕ) → f (bare r) ≡ f (bare z) → Idle w H B z
    idle-between r s e hr hs z q =
        byBool (A (f (bare r))) (λ y. idle-by s (cc) z (cc)) (λ y. idle-by r (cc) z q)

    pub idle-unchanged : (r : ℕ) → ((z : ℕ) → f (bare r) ≡ f (bare z) → Idle w H B z)
        → change (f r) ≡ false
    idle-unchanged r idle =
        byBool (change (f r))
        (λ e.
        let found = changed (f r) e in
        let s = found.0 in
        let keys = rest-same n w wired r s (sym found.2) in
        not-self (truth t (bare s))
        (cc (found.3, gives s found.1, given-rest s, idle s keys (A (f s)) (A (f (bare s))))))
        (λ e. e)
