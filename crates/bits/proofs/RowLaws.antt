-- Rows held in one number, row 0 most significant, and their order: the first row where two differ
-- decides. Assumes nothing.
use mathlib.Core.Path.{◌≡◌, refl, sym, ap, ◌∙◌}
use mathlib.Core.Bool.{Bool, true, false}
use Prim.Native.Nat.{ℕ, zero, suc, ◌+◌, ◌-◌, ◌*◌, ◌%◌, ◌^◌, ◌<◌, ◌≤◌}
use native.Mathlib.Nat.{not-suc-le-zero, add_comm, mod-eq_of_lt}
use native.Mathlib.Numerals.{add-one}
use native.Mathlib.Omega.{arith}
use lib.Pow.{mod-pow-add}
use Rattle.bits.specs.Bits.{bit, row_of, has, num, of_rows}
use Rattle.bits.proofs.SearchLaws.{byBool}
use Rattle.bits.proofs.BitLaws.{num-has}

-- where the rows of B agree with those of A up to a row that is 0 in B, A has 0 there
abbrev pub Before : ℕ → (ℕ → Bool) → (ℕ → Bool) → Type 0
Before w A B = (x : ℕ) → x < w → ((y : ℕ) → y < x → A y ≡ B y) → B x ≡ false → A x ≡ false

pub of_rows-lt : (w : ℕ) (A : ℕ → Bool) → of_rows w A < 2 ^ w
unfolding of_rows
of_rows-lt zero A = omega arith
of_rows-lt (suc w) A =
    let h = of_rows-lt w (λ x. A (suc x)) in
    byBool (A 0) (λ e. rw e (omega arith)) (λ e. rw e (omega arith))

-- what holds at 0, and at suc y for y below x, holds below suc x
under-suc : (P : ℕ → Type 0) (x : ℕ) → P 0 → ((y : ℕ) → y < x → P (suc y))
    → (y : ℕ) → y < suc x → P y
under-suc P x p h zero l = p
under-suc P x p h (suc y) l = h y (omega arith)

before-tail : (w : ℕ) (A B : ℕ → Bool) → Before (suc w) A B → A 0 ≡ B 0
    → Before w (λ x. A (suc x)) (λ x. B (suc x))
before-tail w A B h e x l g b = h (suc x) (omega arith) (under-suc (λ y. A y ≡ B y) x e g) b

pub before-le : (w : ℕ) (A B : ℕ → Bool) → Before w A B → of_rows w A ≤ of_rows w B
unfolding of_rows
before-le zero A B h = omega arith
before-le (suc w) A B h =
    byBool (B 0)
    (λ b.
    byBool (A 0)
    (λ a.
    rw (a, b)
    (let i = before-le w (λ x. A (suc x)) (λ x. B (suc x)) (before-tail w A B h (a ∙ sym b)) in
    omega arith))
    (λ a. rw (a, b) (let i = of_rows-lt w (λ x. A (suc x)) in omega arith)))
    (λ b.
    let a = h 0 (omega arith) (λ y l. absurd (not-suc-le-zero l)) b in
    rw (a, b)
    (let i = before-le w (λ x. A (suc x)) (λ x. B (suc x)) (before-tail w A B h (a ∙ sym b)) in
    omega arith))

-- a bit before w others
pub heads : (w : ℕ) (x y : Bool) (a b : ℕ) → a < 2 ^ w → b < 2 ^ w
    → num x * 2 ^ w + a ≡ num y * 2 ^ w + b → (x ≡ y) × (a ≡ b)
heads w true true a b p q h = (refl, omega arith)
heads w true false a b p q h = absurd (omega arith)
heads w false true a b p q h = absurd (omega arith)
heads w false false a b p q h = (refl, omega arith)

pub of_rows-injective : (w : ℕ) (A B : ℕ → Bool) → of_rows w A ≡ of_rows w B
    → (x : ℕ) → x < w → A x ≡ B x
unfolding of_rows
of_rows-injective zero A B h x l = absurd (not-suc-le-zero l)
of_rows-injective (suc w) A B h x l =
    let A' : ℕ → Bool = λ x. A (suc x) in
    let B' : ℕ → Bool = λ x. B (suc x) in
    let e =
    heads w (A 0) (B 0) (of_rows w A') (of_rows w B') (of_rows-lt w A') (of_rows-lt w B') h in
    under-suc (λ y. A y ≡ B y) w e.0 (of_rows-injective w A' B' e.1) x l

pub of_rows-ext : (w : ℕ) (A B : ℕ → Bool) → ((x : ℕ) → x < w → A x ≡ B x) → of_rows w A ≡ of_rows w B
unfolding of_rows
of_rows-ext zero A B h = refl
of_rows-ext (suc w) A B h =
    rw (
      h 0 (omega arith),
      of_rows-ext w (λ x. A (suc x)) (λ x. B (suc x)) (λ x l. h (suc x) (omega arith)),
    )

-- row x of a table of w rows is 1
abbrev pub is_row : ℕ → ℕ → ℕ → Bool
is_row w T x = has T (w - 1 - x)

-- a table's number is that of its rows
pub of_rows-is_row : (w T : ℕ) → of_rows w (is_row w T) ≡ T % 2 ^ w
unfolding of_rows
of_rows-is_row zero T = omega arith
of_rows-is_row (suc w) T =
    let h : has T (suc w - 1 - 0) ≡ has T w = ap (has T) (omega arith) in
    let r =
    of_rows-ext w (λ x. is_row (suc w) T (suc x)) (is_row w T) (λ x l. ap (has T) (omega arith)) in
    let m : T % 2 ^ suc w ≡ bit T w * 2 ^ w + T % 2 ^ w =
    rw (add_comm 1 w, add-one) at (mod-pow-add T 1 w) in
    rw (h, r, of_rows-is_row w T, num-has T w, m)

-- the rows of a number made of rows are those rows
pub is_row-of_rows : (w : ℕ) (A : ℕ → Bool) (x : ℕ) → x < w → is_row w (of_rows w A) x ≡ A x
is_row-of_rows w A =
    of_rows-injective w (is_row w (of_rows w A)) A
    (of_rows-is_row w (of_rows w A) ∙ mod-eq_of_lt (of_rows-lt w A))

-- a row as a number
pub row_of-num : (w T x : ℕ) → row_of w T x ≡ num (is_row w T x)
row_of-num w T x = sym (num-has T (w - 1 - x))

pub row_of-of_rows : (w : ℕ) (A : ℕ → Bool) (x : ℕ) → x < w → row_of w (of_rows w A) x ≡ num (A x)
row_of-of_rows w A x l = row_of-num w (of_rows w A) x ∙ ap num (is_row-of_rows w A x l)

more_rows : (w : ℕ) (g : ℕ → Bool) → of_rows (suc w) g ≡ of_rows w g * 2 + num (g w)
unfolding of_rows
more_rows zero g = omega arith
more_rows (suc w) g =
    let rest = more_rows w (λ k. g (suc k)) in
    let double : num (g 0) * 2 ^ suc w ≡ num (g 0) * 2 ^ w * 2 = go (g 0) in
    omega arith
  where
    go : (b : Bool) → num b * 2 ^ suc w ≡ num b * 2 ^ w * 2
    go true = omega arith
    go false = omega arith

-- rows taken in one by one, from row 0 on
pub of_rows-more : (w : ℕ) (g : ℕ → Bool) → of_rows w g * 2 + num (g w) ≡ of_rows (w + 1) g
of_rows-more w g = rw (add-one w) (sym (more_rows w g))
