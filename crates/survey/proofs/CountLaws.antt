-- How many numbers below n a test holds of: of two tests together, of a test without one number or
-- with it. Assumes nothing.
use mathlib.Core.Path.{◌≡◌, refl, sym, ◌∙◌}
use mathlib.Core.Bool.{Bool, true, false, not, ◌&&◌, ◌||◌, and-false}
use mathlib.Core.Logic.{⊎_elim}
use Prim.Native.Nat.{ℕ, zero, suc, ◌+◌, ◌<◌, ◌≤◌}
use native.Mathlib.Nat.{not-suc-le-zero, le-suc_iff, suc_inj}
use native.Mathlib.Omega.{arith}
use lib.Dec.{eqb}
use borrow.Author.Tests.{eqb-true, eqb-false, ne_eqb}
use Rattle.bits.specs.Tests.{pick, count}

bool_cases : (a : Bool) (P : Type 0) → (a ≡ true → P) → (a ≡ false → P) → P
bool_cases true P holds fails = holds refl
bool_cases false P holds fails = fails refl

pub count_same : (f g : ℕ → Bool) → ((v : ℕ) → f v ≡ g v) → (n : ℕ) → count f n ≡ count g n
count_same f g same zero = refl
count_same f g same (suc n) = rw (same n, count_same f g same n)

count_none : (n : ℕ) → count (λ v. false) n ≡ 0
count_none zero = refl
count_none (suc n) = omega (arith, count_none n)

-- what one number adds to the counts, by whether the tests hold of it
either-both : (a b : Bool) → pick (a || b) 1 0 + pick (a && b) 1 0 ≡ pick a 1 0 + pick b 1 0
either-both true true = refl
either-both true false = refl
either-both false true = refl
either-both false false = refl

without-both : (a b : Bool) → pick (a && not b) 1 0 + pick (a && b) 1 0 ≡ pick a 1 0
without-both true true = refl
without-both true false = refl
without-both false b = refl

-- of two tests
module _ (f g : ℕ → Bool) where
  count-either : (n : ℕ) → count (λ v. f v || g v) n + count (λ v. f v && g v) n ≡ count f n + count g n
  count-either zero = refl
  count-either (suc n) = omega (arith, either-both (f n) (g n), count-either n)

  count_less : (n : ℕ) → count (λ v. f v && not (g v)) n + count (λ v. f v && g v) n ≡ count f n
  count_less zero = refl
  count_less (suc n) = omega (arith, without-both (f n) (g n), count_less n)

pub count-positive : (f : ℕ → Bool) (d n : ℕ) → f d ≡ true → d < n → 1 ≤ count f n
count-positive f d zero holds l = absurd (not-suc-le-zero l)
count-positive f d (suc n) holds l =
    ⊎_elim (λ less. omega (arith, count-positive f d n holds less))
    (λ last. let same : d ≡ n = suc_inj last in let here : f n ≡ true = cc in rw here (omega arith))
    (le-suc_iff.0 l)

-- how often d stands below n: once or never
abbrev pub times : ℕ → ℕ → ℕ
times d n = count (λ v. eqb v d) n

pub times-past : (d n : ℕ) → n ≤ d → times d n ≡ 0
times-past d zero l = refl
times-past d (suc n) l =
    rw (ne_eqb n d (λ same. omega arith)) (omega (arith, times-past d n (omega arith)))

pub times-once : (d n : ℕ) → d < n → times d n ≡ 1
times-once d zero l = absurd (not-suc-le-zero l)
times-once d (suc n) l =
    bool_cases (eqb n d) (times d (suc n) ≡ 1)
    (λ here. rw here (omega (arith, times-past d n (omega (arith, eqb-true n d here)))))
    (λ other. rw other (omega (arith, times-once d n (omega (arith, eqb-false n d other)))))

-- of a test and one number d
module _ (f : ℕ → Bool) (d : ℕ) where
  at-number : (v : ℕ) → f v && eqb v d ≡ f d && eqb v d
  at-number v =
      bool_cases (eqb v d) (f v && eqb v d ≡ f d && eqb v d) (λ here. let same : v ≡ d =
      eqb-true v d here in cc)
      (λ other. rw other (and-false (f v) ∙ sym (and-false (f d))))

  at-most-d : (n : ℕ) → count (λ v. f v && eqb v d) n ≡ pick (f d) (times d n) 0
  at-most-d n = count_same _ _ at-number n ∙ by-test (f d)
    where
      by-test : (a : Bool) → count (λ v. a && eqb v d) n ≡ pick a (times d n) 0
      by-test true = refl
      by-test false = count_none n

  pub count-without : (n : ℕ)
      → count (λ v. f v && not (eqb v d)) n + pick (f d) (times d n) 0 ≡ count f n
  count-without n = rw (← at-most-d n) (count_less f (λ v. eqb v d) n)

  pub count-with : (n : ℕ)
      → count (λ v. f v || eqb v d) n + pick (f d) (times d n) 0 ≡ count f n + times d n
  count-with n = rw (← at-most-d n) (count-either f (λ v. eqb v d) n)
