-- What the tests of specs/Tests say, number by number. Assumes nothing.
use mathlib.Core.Path.{◌≡◌, refl, sym, ◌∙◌}
use mathlib.Core.Bool.{Bool, true, false, not, ◌&&◌, ◌||◌, and-false, beq}
use mathlib.Core.Logic.{⊎_elim}
use Prim.Native.Nat.{ℕ, zero, suc, ◌<◌}
use native.Mathlib.Nat.{not-suc-le-zero, le-suc_iff, suc_inj, lt-suc_self, le_step}
use native.Mathlib.Omega.{arith}
use lib.Dec.{eqb, ltb}
use borrow.Author.Tests.{eq-eqb, eqb-true, eqb-false, ltb-true, lt-ltb}
use Rattle.bits.specs.Tests.{below}

pub both_left : (a b : Bool) → a && b ≡ true → a ≡ true
both_left true b t = refl
both_left false b t = t

pub both_right : (a b : Bool) → a && b ≡ true → b ≡ true
both_right true b t = t
both_right false b t = cc

pub implied : (a b : Bool) → not a || b ≡ true → a ≡ true → b ≡ true
implied true b h e = h
implied false b h e = cc

pub or_cases : (a b : Bool) (P : Type 0) → a || b ≡ true → (a ≡ true → P) → (b ≡ true → P) → P
or_cases true b P h left right = left refl
or_cases false b P h left right = right h

pub either-false : (a b : Bool) → a || b ≡ false → (a ≡ false) × (b ≡ false)
either-false true b e = (e, cc)
either-false false b e = (refl, e)

-- a comparison that came out true
pub same_bool : (a b : Bool) → beq a b ≡ true → a ≡ b
same_bool true true e = refl
same_bool true false e = sym e
same_bool false true e = e
same_bool false false e = refl

-- two tests that hold of the same are equal
pub same_test : (a b : Bool) → (a ≡ true → b ≡ true) → (b ≡ true → a ≡ true) → a ≡ b
same_test true b f g = sym (f refl)
same_test false true f g = g refl
same_test false false f g = refl

-- a test that only counts where the first holds
pub and-ext : (a x y : Bool) → (a ≡ true → x ≡ y) → a && x ≡ a && y
and-ext true x y e = e refl
and-ext false x y e = refl

pub or-absorb : (a b : Bool) → a || (b && a) ≡ a
or-absorb true b = refl
or-absorb false b = and-false b

pub implied-not : (a b : Bool) → not a || b ≡ true → b ≡ false → a ≡ false
implied-not true b h e = sym h ∙ e
implied-not false b h e = refl

-- a function of a bit that a turn of the bit leaves as it is, is constant
pub unturned : (g : Bool → Bool) (x : Bool) → g (not x) ≡ g x → (u v : Bool) → g u ≡ g v
unturned g x e true true = refl
unturned g true e true false = sym e
unturned g false e true false = e
unturned g true e false true = e
unturned g false e false true = sym e
unturned g x e false false = refl

pub eqb_comm : (a b : ℕ) → eqb a b ≡ eqb b a
eqb_comm a b =
    same_test _ _ (λ e. eq-eqb b a (sym (eqb-true a b e))) (λ e. eq-eqb a b (sym (eqb-true b a e)))

pub ltb-suc : (v k : ℕ) → eqb k v ≡ false → ltb v (suc k) ≡ ltb v k
ltb-suc v k other =
    let apart = eqb-false k v other in
    same_test _ _ (λ e. let l = ltb-true v (suc k) e in lt-ltb v k (omega arith))
    (λ e. let l = ltb-true v k e in lt-ltb v (suc k) (omega arith))

pub below_at : (f : ℕ → Bool) (n : ℕ) → below f n ≡ true → (k : ℕ) → k < n → f k ≡ true
below_at f zero t k h = absurd (not-suc-le-zero h)
below_at f (suc n) t k h =
    ⊎_elim (λ l. below_at f n (both_right (f n) (below f n) t) k l)
    (λ q. let w : k ≡ n = suc_inj q in cc (both_left (f n) (below f n) t))
    (le-suc_iff.0 h)

pub below_of : (f : ℕ → Bool) (n : ℕ) → ((k : ℕ) → k < n → f k ≡ true) → below f n ≡ true
below_of f zero h = refl
below_of f (suc n) h = rw (h n (lt-suc_self n)) (below_of f n (λ k l. h k (le_step l)))

pub below-ext : (f g : ℕ → Bool) (n : ℕ) → ((k : ℕ) → k < n → f k ≡ g k) → below f n ≡ below g n
below-ext f g zero h = refl
below-ext f g (suc n) h = rw (h n (lt-suc_self n), below-ext f g n (λ k l. h k (le_step l)))

exchange : (a b c d : Bool) → (a && b) && (c && d) ≡ (a && c) && (b && d)
exchange true true c d = refl
exchange true false c d = sym (and-false c)
exchange false b c d = refl

pub below-and : (f g : ℕ → Bool) (n : ℕ) → below (λ k. f k && g k) n ≡ below f n && below g n
below-and f g zero = refl
below-and f g (suc n) = rw (below-and f g n) (exchange (f n) (g n) (below f n) (below g n))

pub below_true : (n : ℕ) → below (λ k. true) n ≡ true
below_true zero = refl
below_true (suc n) = below_true n

-- a test that does not look at the number may stand before the others
pub below_or : (b : Bool) (f : ℕ → Bool) (n : ℕ) → below (λ k. b || f k) n ≡ b || below f n
below_or true f n = below_true n
below_or false f n = refl
