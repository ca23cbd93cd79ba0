-- Polarities: table H with F's or G's output turned, and what a component asks of it. Assumes nothing.
use mathlib.Core.Path.{◌≡◌, refl, sym, ap, ap₂, ◌∙◌}
use mathlib.Core.Bool.{Bool, true, false, not, ◌&&◌, ◌||◌, beq}
use Prim.Native.Nat.{ℕ, ◌+◌, ◌-◌, ◌*◌, ◌/◌, ◌%◌, ◌<◌}
use native.Mathlib.Omega.{arith}
use lib.Bits.{bit_and, bit_or}
use lib.Dec.{eqb, ltb}
use borrow.Author.Tests.{eqb-true, ltb-true}
use Rattle.bits.specs.Bits.{bit, has}
use Rattle.bits.specs.Tests.{below, pick}
use Rattle.bits.proofs.SearchLaws.{byBool}
use Rattle.bits.proofs.TestLaws.{same_bool, both_left, both_right, below_at, below-ext, below-and}
use Rattle.bits.proofs.BitLaws.{has-zero, has-and, has-or}
use Rattle.bits.proofs.MaskLaws.{same_bits, subset-rows, disjoint-rows}
use Rattle.wiring.specs.Test.{pole_f, pole_g, steady, turned, h_row}
use Rattle.contents.specs.declared.Wires.{Wires}
use Rattle.contents.specs.Code.{flip, allowed_by, serves_by}

-- the two halves of H exchanged; the two quarters of each half exchanged
abbrev halves : ℕ → ℕ
halves h = h % 16 * 16 + h / 16

abbrev quarters : ℕ → ℕ
quarters h = h / 16 % 4 * 64 + h / 64 * 16 + h % 4 * 4 + h / 4 % 4

-- what each move of table H makes of row e: one test over all tables and rows
abbrev moves : (ℕ → ℕ) → Bool → Bool → ℕ → ℕ → Bool
moves m f g h e = beq (has (m h) (7 - e)) (has h (7 - flip f g e))

abbrev all_moves : (ℕ → ℕ) → Bool → Bool → ℕ → Bool
all_moves m f g h = below (moves m f g h) 8

moves-at : (m : ℕ → ℕ) (f g : Bool) → below (all_moves m f g) 256 ≡ true
    → (h : ℕ) → h < 256 → (e : ℕ) → e < 8 → has (m h) (7 - e) ≡ has h (7 - flip f g e)
moves-at m f g all h l e k =
    same_bool _ _ (below_at (moves m f g h) 8 (below_at (all_moves m f g) 256 all h l) e k)

halves-all : below (all_moves halves true false) 256 ≡ true
unfolding has flip
halves-all = refl

pub turns-f : (h : ℕ) → h < 256 → (e : ℕ) → e < 8
    → has (halves h) (7 - e) ≡ has h (7 - flip true false e)
turns-f = moves-at halves true false halves-all

quarters-all : below (all_moves quarters false true) 256 ≡ true
unfolding has flip
quarters-all = refl

pub turns-g : (h : ℕ) → h < 256 → (e : ℕ) → e < 8
    → has (quarters h) (7 - e) ≡ has h (7 - flip false true e)
turns-g = moves-at quarters false true quarters-all

-- rows of H: where nothing is turned, and where both are
abbrev flips : Bool → Bool → ℕ → Bool
flips f g e = eqb (flip f false (flip false g e)) (flip f g e) && ltb (flip f g e) 8

flips-all : (f g : Bool) → below (flips f g) 8 ≡ true
unfolding has flip
flips-all true true = refl
flips-all true false = refl
flips-all false true = refl
flips-all false false = refl

flip-both : (f g : Bool) (e : ℕ) → e < 8 → flip f false (flip false g e) ≡ flip f g e
flip-both f g e l = eqb-true _ _ (both_left _ _ (below_at (flips f g) 8 (flips-all f g) e l))

flip-lt : (f g : Bool) (e : ℕ) → e < 8 → flip f g e < 8
flip-lt f g e l =
    ltb-true _ _
    (both_right (eqb (flip f false (flip false g e)) (flip f g e)) _
    (below_at (flips f g) 8 (flips-all f g) e l))

abbrev stays : ℕ → Bool
stays e = eqb (flip false false e) e

stays_all : below stays 8 ≡ true
unfolding has flip
stays_all = refl

pub flip-none : (e : ℕ) → e < 8 → flip false false e ≡ e
flip-none e l = eqb-true _ _ (below_at stays 8 stays_all e l)

-- the rows of H where the direct pin is 0, and where it is 1
abbrev marked : ℕ → Bool
marked e = beq (has 170 (7 - e)) (not (has e 0)) && beq (has 85 (7 - e)) (has e 0)

marked_all : below marked 8 ≡ true
unfolding has
marked_all = refl

by-direct : (x y e : ℕ) → e < 8
    → has (bit_or (bit_and x 170) (bit_and y 85)) (7 - e) ≡ pick (has e 0) (has y (7 - e)) (has x (7 - e))
by-direct x y e l =
    let at = below_at marked 8 marked_all e l in
    let low : has 170 (7 - e) ≡ not (has e 0) = same_bool _ _ (both_left _ _ at) in
    let high : has 85 (7 - e) ≡ has e 0 =
    same_bool _ _ (both_right (beq (has 170 (7 - e)) (not (has e 0))) _ at) in
    has-or (bit_and x 170) (bit_and y 85) (7 - e)
    ∙ ap₂ ◌||◌ (has-and x 170 (7 - e)) (has-and y 85 (7 - e))
    ∙ rw (low, high) (go (has e 0) (has x (7 - e)) (has y (7 - e)))
  where
    go : (c p q : Bool) → (p && not c) || (q && c) ≡ pick c q p
    go true true true = refl
    go true true false = refl
    go true false true = refl
    go true false false = refl
    go false true true = refl
    go false true false = refl
    go false false true = refl
    go false false false = refl

-- the table that is moved by F's polarity, then by G's
abbrev pub Moved : (h : ℕ) (f g : Bool) (r : ℕ) → Type 0
Moved h f g r = (e : ℕ) → e < 8 → has r (7 - e) ≡ has h (7 - flip f g e)

pub moved-both : (h x y : ℕ) (f g : Bool) → Moved h f false x → Moved x false g y → Moved h f g y
moved-both h x y f g first then e l =
    then e l
    ∙ first (flip false g e) (flip-lt false g e l)
    ∙ ap (λ (k : ℕ). has h (7 - k)) (flip-both f g e l)

row_at : (h k e : ℕ) (c : Bool) → has e 0 ≡ c
    → has h (7 - flip (pole_f k c) (pole_g k c) e) ≡ h_row h (turned k e)
unfolding has flip turned
row_at h k e c is = rw (← is)

pub moved_by : (h k x y : ℕ) → Moved h (has k 3) (has k 1) x → Moved h (has k 2) (eqb (k % 2) 1) y
    → (e : ℕ) → e < 8 → has (bit_or (bit_and x 170) (bit_and y 85)) (7 - e) ≡ h_row h (turned k e)
unfolding pole_f pole_g
moved_by h k x y at-0 odd e l =
    let at_1 : Moved h (has k 2) (has k 0) y = rw (has-zero k) odd in
    by-direct x y e l
    ∙ byBool (has e 0) (λ c. rw c (at_1 e l) ∙ row_at h k e true c)
    (λ c. rw c (at-0 e l) ∙ row_at h k e false c)

pub allows : (f g : Bool) (k : ℕ)
    → (f || eqb (bit k 2) (bit k 3)) && (g || eqb (k % 2) (bit k 1)) ≡ allowed_by f g k
unfolding allowed_by steady pole_f pole_g
allows f g k =
    let low : k % 2 ≡ bit k 0 = omega arith in
    rw (low, same_bits k 2 k 3, same_bits k 0 k 1)

-- what the code asks of the moved table m
module _ (w : Wires) (h ones zeros k m : ℕ) where
  abbrev allowed : Bool
  allowed = allowed_by w.f.bridged w.g.bridged k

  pub serves-not : allowed ≡ false → false ≡ serves_by w h ones zeros k
  unfolding serves_by
  serves-not no_way = rw no_way

  pub serves_by_lem : allowed ≡ true → ones < 256 → m < 256
      → ((e : ℕ) → e < 8 → has m (7 - e) ≡ h_row h (turned k e))
      → eqb (bit_and ones m) ones && eqb (bit_and m zeros) 0 ≡ serves_by w h ones zeros k
  unfolding serves_by
  serves_by_lem way fits fits-m row =
      rw (way, subset-rows 8 ones m fits, disjoint-rows 8 m zeros fits-m)
      (sym (below-and
      (λ e. not (has ones (7 - e)) || has m (7 - e))
      (λ e. not (has zeros (7 - e)) || not (has m (7 - e))) 8)
      ∙ below-ext _ _ 8
      (λ e l.
      ap (λ (b : Bool). (not (has ones (7 - e)) || b) && (not (has zeros (7 - e)) || not b)) (row e l)))
