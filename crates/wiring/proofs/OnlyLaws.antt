-- Rows cut down to a set of variables, mixed, or with one variable put to a level: bit by bit.
-- Assumes nothing.
use mathlib.Core.Path.{◌≡◌, refl, sym, ap, ◌∙◌}
use mathlib.Core.Bool.{Bool, true, false, not, ◌&&◌, and-false}
use Prim.Native.Nat.{ℕ, ◌^◌, ◌<◌}
use lib.Dec.{eqb}
use borrow.Author.Tests.{eq-eqb, eqb-true}
use Rattle.bits.specs.Bits.{has, of_bits}
use Rattle.bits.specs.Tests.{pick}
use Rattle.bits.proofs.TestLaws.{and-ext}
use Rattle.bits.proofs.SearchLaws.{byBool, clash}
use Rattle.bits.proofs.BitLaws.{has-of_bits, of_bits-lt, of_bits-ext, has-of-0}
use Rattle.wiring.specs.Wire.{only, without, mixed}

-- rows r and s have the same values on the variables of the set
abbrev pub Agree : (n : ℕ) (set : ℕ → Bool) (r s : ℕ) → Type 0
Agree n set r s = (v : ℕ) → v < n → set v ≡ true → has r v ≡ has s v

module _ (n : ℕ) (set : ℕ → Bool) where
  pub has-only : (r v : ℕ) → v < n → has (only n set r) v ≡ set v && has r v
  unfolding only
  has-only r v l = has-of_bits n (λ v. set v && has r v) v l

  pub has-without : (r v : ℕ) → v < n → has (without n set r) v ≡ not (set v) && has r v
  unfolding without
  has-without r v l = has-of_bits n (λ v. not (set v) && has r v) v l

  pub has-mixed : (r s v : ℕ) → v < n → has (mixed n set r s) v ≡ pick (set v) (has r v) (has s v)
  unfolding mixed
  has-mixed r s v l = has-of_bits n (λ v. pick (set v) (has r v) (has s v)) v l

  pub only-lt : (r : ℕ) → only n set r < 2 ^ n
  unfolding only
  only-lt r = of_bits-lt n (λ v. set v && has r v)

  pub without-lt : (r : ℕ) → without n set r < 2 ^ n
  unfolding without
  without-lt r = of_bits-lt n (λ v. not (set v) && has r v)

  pub mixed-lt : (r s : ℕ) → mixed n set r s < 2 ^ n
  unfolding mixed
  mixed-lt r s = of_bits-lt n (λ v. pick (set v) (has r v) (has s v))

  -- a cut row has what it keeps of the row
  pub only-in : (r v : ℕ) → v < n → set v ≡ true → has (only n set r) v ≡ has r v
  only-in r v l e = has-only r v l ∙ rw e

  pub without-out : (r v : ℕ) → v < n → set v ≡ false → has (without n set r) v ≡ has r v
  without-out r v l e = has-without r v l ∙ rw e

  -- within the set the mixed row is the first one, outside the second
  pub mixed-in : (r s v : ℕ) → v < n → set v ≡ true → has (mixed n set r s) v ≡ has r v
  mixed-in r s v l e = has-mixed r s v l ∙ rw e

  pub mixed-out : (r s v : ℕ) → v < n → set v ≡ false → has (mixed n set r s) v ≡ has s v
  mixed-out r s v l e = has-mixed r s v l ∙ rw e

  -- two rows that agree on the set are the same once cut down to it
  pub only-agree : (r s : ℕ) → Agree n set r s → only n set r ≡ only n set s
  unfolding only
  only-agree r s h = of_bits-ext n _ _ (λ v l. and-ext (set v) (has r v) (has s v) (h v l))

  pub only-ext : (other : ℕ → Bool) (r : ℕ) → ((v : ℕ) → v < n → set v ≡ other v)
      → only n set r ≡ only n other r
  unfolding only
  only-ext other r h = of_bits-ext n _ _ (λ v l. rw (h v l))

  -- clearing variables keeps an agreement on the others, and turns no bit on
  pub without-same : (r s v : ℕ) → v < n → (set v ≡ false → has r v ≡ has s v)
      → has (without n set r) v ≡ has (without n set s) v
  without-same r s v l h =
      rw (has-without r v l, has-without s v l) (byBool (set v) (λ e. rw e) (λ e. rw e (h e)))

  pub without-low : (r v : ℕ) → v < n → has r v ≡ false → has (without n set r) v ≡ false
  without-low r v l e = has-without r v l ∙ rw e (and-false (not (set v)))

  -- to clear variables is to take them from row 0
  pub without-mixed : (r : ℕ) → without n set r ≡ mixed n set 0 r
  unfolding without mixed
  without-mixed r =
      of_bits-ext n _ _ (λ v l. rw (has-of-0 v) (byBool (set v) (λ e. rw e) (λ e. rw e)))

-- a variable outside the set may be cleared before
pub only-without : (n : ℕ) (set : ℕ → Bool) (v r : ℕ) → set v ≡ false
    → only n set (without n (eqb v) r) ≡ only n set r
only-without n set v r out =
    only-agree n set (without n (eqb v) r) r
    (λ w l inside.
    without-out n (eqb v) r w l
    (byBool (eqb v w) (λ e. clash inside (ap set (sym (eqb-true v w e)) ∙ out)) (λ e. e)))

-- of the needed variables the set f keeps what it keeps of those of f'
pub only-within : (n : ℕ) (needed f f' : ℕ → Bool) (r : ℕ)
    → ((v : ℕ) → v < n → needed v ≡ true → f v ≡ true → f' v ≡ true)
    → only n f (only n needed r) ≡ only n f (only n needed (only n f' r))
only-within n needed f f' r hold =
    only-agree n f (only n needed r) (only n needed (only n f' r))
    (λ v l inside.
    rw (has-only n needed r v l, has-only n needed (only n f' r) v l)
    (and-ext (needed v) (has r v) (has (only n f' r) v)
    (λ e. sym (only-in n f' r v l (hold v l e inside)))))

-- row r with variable v put to the level
unfoldable pub put_to : (n v : ℕ) (level : Bool) (r : ℕ) → ℕ
put_to n v level r = of_bits n (λ i. pick (eqb i v) level (has r i))

module _ (n v : ℕ) (level : Bool) (r : ℕ) where
  pub has-put : (i : ℕ) → i < n → has (put_to n v level r) i ≡ pick (eqb i v) level (has r i)
  unfolding put_to
  has-put i l = has-of_bits n (λ i. pick (eqb i v) level (has r i)) i l

  pub put-here : v < n → has (put_to n v level r) v ≡ level
  put-here l = has-put v l ∙ rw (eq-eqb v v refl)

  pub put_other : (i : ℕ) → i < n → eqb i v ≡ false → has (put_to n v level r) i ≡ has r i
  put_other i l e = has-put i l ∙ rw e
