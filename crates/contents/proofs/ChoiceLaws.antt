-- Tidy choices of pins: what the tests of a set and of a wiring say of the pins, and that every tidy
-- choice of pins is that of a set. Assumes nothing.
use Rattle.std.specs.Prelude.{count_ones}
use mathlib.Core.Path.{◌≡◌, refl, sym, ◌∙◌}
use mathlib.Core.Bool.{Bool, true, false, ◌&&◌}
use mathlib.Core.List.{List}
use Prim.Native.Nat.{ℕ, ◌^◌, ◌<◌, ◌≤◌}
use native.Mathlib.Omega.{arith}
use lib.Count.{ones}
use lib.Dec.{eqb, ltb, leb}
use lib.ListN.{length, get_or}
use lib.Pow.{pow_mono}
use borrow.Author.Tests.{eqb-true, ltb-true, lt-ltb, leb-true, le-leb, lt-leb}
use Rattle.bits.specs.Bits.{has}
use Rattle.bits.specs.Tests.{below, every}
use Rattle.bits.proofs.TestLaws.{both_left, both_right, below_at}
use Rattle.bits.proofs.SearchLaws.{byBool}
use Rattle.bits.proofs.ListLaws.{every-implied}
use Rattle.bits.proofs.SetLaws.{low-set}
use Rattle.block.specs.Tidy.{field_fits, ordered}
use Rattle.block.specs.Kind.{carries}
use Rattle.block.proofs.TidyLaws.{fits_lt, fits_wider}
use Rattle.subsets.specs.Masks.{variables_from, variables_in, pins_of_mask, Small, TidyChoice, masks}
use Rattle.subsets.proofs.MaskLaws.{masks-rule}
use Rattle.subsets.proofs.PinLaws.{listed-choice, pins-tidy, carries-mask}
use Rattle.wiring.specs.Wire.{Wired}
use Rattle.wiring.proofs.ReadLaws.{carried-below}
use Rattle.contents.specs.Contents.{is_choice, is_wiring, wiring_of}

-- how many variables a set of nine has
abbrev same_size : ℕ → Bool
same_size set = eqb (count_ones set) (length (variables_in set))

size_all : below same_size 512 ≡ true
unfolding variables_from variables_in has ones
size_all = refl

pub choice-by : (n set : ℕ) → n ≤ 9 → ltb set (2 ^ n) && leb (count_ones set) 4 ≡ is_choice n set
unfolding is_choice
choice-by n set within =
    byBool (ltb set (2 ^ n))
    (λ e.
    let l = ltb-true set (2 ^ n) e in
    let nine : set < 512 = omega (arith, l, pow_mono {i = n} {j = 9} within) in
    rw (eqb-true (count_ones set) (length (variables_in set)) (below_at same_size 512 size_all set nine)))
    (λ e. rw e)

pub wiring-not : (n f g direct : ℕ) → 9 < n → false ≡ is_wiring n f g direct
unfolding is_wiring
wiring-not n f g direct l = rw (lt-leb n 9 l)

pub wiring-by : (n f g direct : ℕ) → n ≤ 9
    → is_choice n f && (is_choice n g && field_fits n direct) ≡ is_wiring n f g direct
unfolding is_wiring
wiring-by n f g direct l = rw (le-leb n 9 l)

-- the pins of a set below 2 ^ n are pins of n inputs
abbrev pins_fit : (n set : ℕ) → Bool
pins_fit n set = every (field_fits n) (pins_of_mask set)

abbrev all_pins_fit : ℕ → Bool
all_pins_fit n = below (pins_fit n) (2 ^ n)

fit_all : below all_pins_fit 10 ≡ true
unfolding has variables_from variables_in pins_of_mask
fit_all = refl

pins-fit : (n set : ℕ) → n ≤ 9 → set < 2 ^ n → every (field_fits n) (pins_of_mask set) ≡ true
pins-fit n set l m =
    below_at (pins_fit n) (2 ^ n) (below_at all_pins_fit 10 fit_all n (omega arith)) set m

module _ (n set : ℕ) (within : n ≤ 9) (choice : is_choice n set ≡ true) where
  pub choice-lt : set < 2 ^ n
  unfolding is_choice
  choice-lt = ltb-true set (2 ^ n) (both_left _ _ choice)

  pub choice-small : Small set
  unfolding is_choice
  choice-small =
      record {
        nine = omega (arith, choice-lt, pow_mono {i = n} {j = 9} within);
        four = leb-true (length (variables_in set)) 4 (both_right (ltb set (2 ^ n)) _ choice);
      }

  pub choice-tidy : TidyChoice (pins_of_mask set)
  choice-tidy = pins-tidy set choice-small

  pub choice-carries : (v : ℕ) → v < n → carries (pins_of_mask set) v ≡ has set v
  choice-carries v l = carries-mask set choice-small v (omega arith)

pub is-choice : (n set : ℕ) → set < 2 ^ n → length (variables_in set) ≤ 4 → is_choice n set ≡ true
unfolding is_choice
is-choice n set l four = rw (lt-ltb set (2 ^ n) l, le-leb (length (variables_in set)) 4 four)

-- a tidy choice of pins below n is that of a set of at most four variables below n
pub choice-of : (n : ℕ) (pins : List ℕ) → n ≤ 9 → length pins ≡ 4 → every (field_fits n) pins ≡ true
    → ordered pins ≡ true → (set : ℕ) × (is_choice n set ≡ true) × (pins_of_mask set ≡ pins)
choice-of n pins within four fit order =
    let fields = every-implied (field_fits n) (field_fits 9) (λ v. fits_wider n 9 v within) pins fit in
    let listed = listed-choice pins (record { four = four; fields = fields; order = order }) in
    let set = get_or masks listed.0 0 in
    let small = masks-rule.sound listed.0 listed.1 in
    let none : (v : ℕ) → n ≤ v → v < 9 → has set v ≡ false =
    λ v above nine.
    byBool (has set v)
    (λ e.
    let carried = rw listed.2 at (carries-mask set small v nine) ∙ e in
    absurd (omega (arith, carried-below n pins fit v carried)))
    (λ e. e) in
    (set, is-choice n set (low-set n 9 set within small.nine none) small.four, listed.2)

-- what the test of a wiring says
pub record Pieces (n f g d : ℕ) : Type 0 where
  pub within : n ≤ 9
  pub f-choice : is_choice n f ≡ true
  pub g-choice : is_choice n g ≡ true
  pub direct : field_fits n d ≡ true

pub wiring-of : (n f g d : ℕ) → Pieces n f g d → is_wiring n f g d ≡ true
wiring-of n f g d p = sym (wiring-by n f g d p.within) ∙ rw (p.f-choice, p.g-choice, p.direct)

module _ (n f g d : ℕ) (tidy : is_wiring n f g d ≡ true) where
  pub pieces : Pieces n f g d
  unfolding is_wiring
  pieces =
      let pins = both_right (leb n 9) _ tidy in
      let rest = both_right (is_choice n f) _ pins in
      record {
        within = leb-true n 9 (both_left _ _ tidy);
        f-choice = both_left (is_choice n f) _ pins;
        g-choice = both_left (is_choice n g) _ rest;
        direct = both_right (is_choice n g) _ rest;
      }

  pub direct-lt : d < 16
  direct-lt = fits_lt n d pieces.within pieces.direct

  pub f-tidy : TidyChoice (pins_of_mask f)
  f-tidy = choice-tidy n f pieces.within pieces.f-choice

  pub f-carries : (v : ℕ) → v < n → carries (pins_of_mask f) v ≡ has f v
  f-carries = choice-carries n f pieces.within pieces.f-choice

  pub tidy-exchanged : is_wiring n g f d ≡ true
  tidy-exchanged =
      wiring-of n g f d
      (record {
        within = pieces.within;
        f-choice = pieces.g-choice;
        g-choice = pieces.f-choice;
        direct = pieces.direct;
      })

module _ (n f g d : ℕ) (tidy : is_wiring n f g d ≡ true) where
  pub g-tidy : TidyChoice (pins_of_mask g)
  g-tidy = f-tidy n g f d (tidy-exchanged n f g d tidy)

  pub g-carries : (v : ℕ) → v < n → carries (pins_of_mask g) v ≡ has g v
  g-carries = f-carries n g f d (tidy-exchanged n f g d tidy)

  pub wired : Wired n (wiring_of f g d)
  wired =
      let told = pieces n f g d tidy in
      record {
        within = told.within;
        f-four = (f-tidy n f g d tidy).four;
        g-four = g-tidy.four;
        f-fit = pins-fit n f told.within (choice-lt n f told.within told.f-choice);
        g-fit = pins-fit n g told.within (choice-lt n g told.within told.g-choice);
        direct-fits = told.direct;
      }
