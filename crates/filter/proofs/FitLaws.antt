-- Where a function fits, the words of F's set are two at most for each value of the key: the rows of
-- two indices with the same bits in the key look the same to G and to the direct pin, so only F tells
-- them apart. Assumes nothing.
use mathlib.Core.Path.{◌≡◌, refl, sym, ap, ◌∙◌}
use mathlib.Core.Bool.{Bool, true, false, not, ◌&&◌, or-false, and-true, and-false}
use mathlib.Core.List.{List}
use Prim.Native.Nat.{ℕ, ◌^◌, ◌<◌, ◌≤◌}
use native.Mathlib.Omega.{arith}
use lib.Bits.{bit_and, bit_or, and_le_r, or_lt}
use lib.Dec.{ltb}
use lib.Pow.{pow_mono}
use borrow.Author.Tests.{ltb-true, ltb-false}
use Rattle.bits.specs.Bits.{has}
use Rattle.bits.proofs.SearchLaws.{byBool, clash}
use Rattle.bits.proofs.TestLaws.{both_left, both_right}
use Rattle.bits.proofs.BitLaws.{has-and, has-or, has-high, has-of_bits}
use Rattle.bits.proofs.SetLaws.{bits-le}
use Rattle.block.specs.Value.{selected}
use Rattle.block.specs.Tidy.{field_fits}
use Rattle.block.specs.Kind.{carries}
use Rattle.subsets.specs.Masks.{pins_of_mask, Small}
use Rattle.subsets.proofs.PinLaws.{carries-mask}
use Rattle.wiring.specs.Wire.{reads, only, without, shows, shown}
use Rattle.wiring.specs.Fits.{Fits}
use Rattle.wiring.proofs.ReadLaws.{variable-carried, carried-lt, reads-ext}
use Rattle.wiring.proofs.OnlyLaws.{has-without, only-agree}
use Rattle.wiring.proofs.ShownLaws.{ends-selected}
use Rattle.wiring.proofs.ShowsLaws.{shows-member, shows_same}
use Rattle.filter.specs.Two.{apart, two_of}
use Rattle.filter.specs.Words.{place_of, rest_of, word_at, words_of}
use Rattle.filter.proofs.TwoLaws.{apart_out, two-true}
use Rattle.filter.proofs.WordLaws.{same_word, words-at}

-- of three values of a test two are equal
three-tests : (x y z : Bool) → (x ≡ y → ⊥) → (x ≡ z → ⊥) → (y ≡ z → ⊥) → ⊥
three-tests true true z xy xz yz = xy refl
three-tests false false z xy xz yz = xy refl
three-tests true false true xy xz yz = xz refl
three-tests false true false xy xz yz = xz refl
three-tests true false false xy xz yz = yz refl
three-tests false true true xy xz yz = yz refl

module _ (f : ℕ) (small : Small f) where
  -- the variables of a row that shows a table row to the set's pins are in the set
  shown-in : (a v : ℕ) → v < 9 → shows (pins_of_mask f) a v ≡ true → has f v ≡ true
  unfolding carries
  shown-in a v l h =
      sym (carries-mask f small v l)
      ∙ rw (variable-carried 9 v (omega arith) l, shows-member (pins_of_mask f) a v h)

  shown-out : (a v : ℕ) → v < 9 → has f v ≡ false → shows (pins_of_mask f) a v ≡ false
  shown-out a v l e =
      byBool (shows (pins_of_mask f) a v) (λ h. clash (shown-in a v l h) e) (λ h. h)

  shown-le : (a : ℕ) → place_of f a ≤ f
  unfolding shown
  shown-le a = bits-le 9 (shows (pins_of_mask f) a) f small.nine (shown-out a)

module _ (within f : ℕ) where
  rest_le : within < 2 ^ 9 → rest_of within f ≤ within
  unfolding without
  rest_le l =
      bits-le 9 (λ v. not (has f v) && has within v) within l
      (λ j m e. rw e (and-false (not (has f j))))

  -- no variable of the set is in a part of the rest
  rest_out : (y v : ℕ) → f < 2 ^ 9 → has f v ≡ true
      → has (bit_and y (rest_of within f)) v ≡ false
  rest_out y v l e =
      let out : has (rest_of within f) v ≡ false =
      byBool (ltb v 9) (λ b. has-without 9 (has f) within v (ltb-true v 9 b) ∙ rw e)
      (λ b. clash e (has-high 9 f v l (ltb-false v 9 b))) in
      has-and y (rest_of within f) v ∙ rw out (and-false (has y v))

module _ (n : ℕ) (t : List ℕ) (within f : ℕ) (g : ℕ → Bool) (d : ℕ) (inputs : n ≤ 9)
    (small : Small f) (f-below : f < 2 ^ n) (direct : field_fits n d ≡ true) (m : ℕ)
    (sees-g : (v : ℕ) → v < n → g v ≡ true → has m v ≡ true)
    (sees-d : (v : ℕ) → v < n → v ≡ d → has m v ≡ true) (inside : within < 2 ^ n)
    (fits : Fits n t (has f) g d) where
  abbrev key : ℕ
  key = selected (pins_of_mask f) m

  abbrev part : ℕ → ℕ
  part y = bit_and y (rest_of within f)

  -- the row that shows table row a to F, with a part of the rest
  abbrev row : ℕ → ℕ → ℕ
  row a y = bit_or (place_of f a) (part y)

  -- F's output at table row a
  abbrev output : ℕ → Bool
  output a = fits.of-f (only n (has f) (place_of f a))

  row_lt : (a y : ℕ) → row a y < 2 ^ n
  row_lt a y =
      let most : 2 ^ n ≤ 2 ^ 9 = pow_mono inputs in
      let place = shown-le f small a in
      let rest = rest_le within f (omega arith) in
      let within-rest = and_le_r y (rest_of within f) in
      or_lt n (place_of f a) (part y) (omega arith) (omega arith)

  -- what F sees of it
  row-f : (a y : ℕ) → only n (has f) (row a y) ≡ only n (has f) (place_of f a)
  row-f a y =
      only-agree n (has f) (row a y) (place_of f a)
      (λ v l e.
      rw (has-or (place_of f a) (part y) v, rest_out within f y v small.nine e)
      (or-false (has (place_of f a) v)))

  module _ (a b : ℕ) (same : bit_and a key ≡ bit_and b key) where
    kept : (i : ℕ) → has key i ≡ true → has a i ≡ has b i
    kept i h =
        let both = sym (has-and a key i) ∙ ap (λ (x : ℕ). has x i) same ∙ has-and b key i in
        sym (and-true (has a i)) ∙ rw h at both ∙ and-true (has b i)

    -- a variable that is 1 in row m is the same in both rows
    row-bit : (y v : ℕ) → v < n → has m v ≡ true → has (row a y) v ≡ has (row b y) v
    unfolding shown
    row-bit y v l on =
        let closed = variable-carried n v inputs l in
        let shows-a = has-of_bits 9 (shows (pins_of_mask f) a) v (omega arith) in
        let shows-b = has-of_bits 9 (shows (pins_of_mask f) b) v (omega arith) in
        let ends = ends-selected (pins_of_mask f) m in
        let alike = shows_same a b m v closed on (pins_of_mask f) key ends (λ i h. kept i) in
        rw (
          has-or (place_of f a) (part y) v,
          has-or (place_of f b) (part y) v,
          shows-a,
          shows-b,
          alike,
        )

    row-g : (y : ℕ) → only n g (row a y) ≡ only n g (row b y)
    row-g y = only-agree n g (row a y) (row b y) (λ v l e. row-bit y v l (sees-g v l e))

    row-direct : (y : ℕ) → reads d (row a y) ≡ reads d (row b y)
    row-direct y =
        reads-ext d (row a y) (row b y)
        (λ closed. let below = carried-lt n d direct closed in row-bit y d below (sees-d d below refl))

    -- F's output decides the word
    by-f : output a ≡ output b → word_at t within f a ≡ word_at t within f b
    by-f e =
        same_word t within f a b
        (λ y.
        rw (
          fits.every-row (row a y) (row_lt a y),
          fits.every-row (row b y) (row_lt b y),
          row-f a y,
          row-f b y,
          row-g y,
          row-direct y,
          e,
        ))

  fits-two : two_of (words_of t within f) key ≡ true
  unfolding words_of
  fits-two =
      two-true (words_of t within f) key
      (λ a b c la lb lc h.
      let ab = both_left (apart (words_of t within f) key a b) _ h in
      let rest = both_right (apart (words_of t within f) key a b) _ h in
      let ac = both_left (apart (words_of t within f) key a c) _ rest in
      let bc = both_right (apart (words_of t within f) key a c) _ rest in
      three-tests _ _ _ (apart-f a b la lb ab) (apart-f a c la lc ac) (apart-f b c lb lc bc))
    where
      apart-f : (a b : ℕ) → a < 16 → b < 16 → apart (words_of t within f) key a b ≡ true
          → output a ≡ output b → ⊥
      apart-f a b la lb h e =
          let told = apart_out (words_of t within f) key a b h in
          let at = words-at t within f 16 in
          told.1 (at a la ∙ by-f a b told.0 e ∙ sym (at b lb))

-- m is a row with every variable of G and the direct pin's at 1; key is what F's pins select in it
pub two_fits : (n : ℕ) (t : List ℕ) (within f : ℕ) (g : ℕ → Bool) (d key : ℕ) → n ≤ 9 → Small f
    → f < 2 ^ n → field_fits n d ≡ true → (m : ℕ)
    → ((v : ℕ) → v < n → g v ≡ true → has m v ≡ true)
    → ((v : ℕ) → v < n → v ≡ d → has m v ≡ true) → key ≡ selected (pins_of_mask f) m
    → within < 2 ^ n → Fits n t (has f) g d → two_of (words_of t within f) key ≡ true
two_fits n t within f g d key inputs small f-below direct m sees-g sees-d is inside fits =
    rw is (fits-two n t within f g d inputs small f-below direct m sees-g sees-d inside fits)
