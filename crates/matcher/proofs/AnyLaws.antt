-- Any block at all, its pins in any order and repeated, carries at most four variables in F and in G:
-- where no wiring fits, no block computes the table. Assumes nothing.
use mathlib.Core.Path.{◌≡◌, refl, sym, ◌∙◌}
use mathlib.Core.Bool.{Bool, true, not}
use mathlib.Core.List.{List, [], ◌∷◌, ◌++◌}
use Prim.Native.Nat.{ℕ, ◌<◌, ◌≤◌}
use native.Mathlib.Omega.{arith}
use lib.Dec.{eqb, ltb}
use lib.ListN.{length}
use lib.Pow.{pow_mono}
use borrow.Author.Tests.{eqb-true, ltb-true, ltb-false}
use Rattle.bits.specs.Bits.{has, of_bits}
use Rattle.bits.specs.Tests.{below, count, member}
use Rattle.bits.proofs.TestLaws.{both_left, both_right, below_at}
use Rattle.bits.proofs.SearchLaws.{byBool, clash}
use Rattle.bits.proofs.BitLaws.{has-of_bits, has-high, of_bits-lt}
use Rattle.bits.proofs.ListLaws.{every-after}
use Rattle.bits.proofs.CountLaws.{count-within, count-member}
use Rattle.block.specs.Block.{is_open}
use Rattle.block.specs.Tidy.{field_fits, fields_fit}
use Rattle.block.specs.Kind.{carries}
use Rattle.subsets.specs.Masks.{variables_from, variables_in}
use Rattle.wiring.proofs.FitsLaws.{fits-of-block, fits-ext}
use Rattle.contents.specs.Contents.{is_choice}
use Rattle.contents.proofs.ChoiceLaws.{is-choice, wiring-of}
use Rattle.matcher.specs.Match.{NoBlock}
use Rattle.matcher.specs.Search.{NoWiring}

-- the variables of a set, listed and counted
abbrev listed_right : ℕ → Bool
listed_right m = eqb (length (variables_in m)) (count (has m) 9)

all_listed : below listed_right 512 ≡ true
unfolding variables_in variables_from has
all_listed = refl

module _ (n : ℕ) (pins : List ℕ) (within : n ≤ 9) (four : length pins ≡ 4) where
  abbrev set : ℕ
  set = of_bits n (carries pins)

  carried-set : (v : ℕ) → v < n → carries pins v ≡ has set v
  carried-set v l = sym (has-of_bits n (carries pins) v l)

  set-member : (v : ℕ) → v < 9 → has set v ≡ true → member v pins ≡ true
  unfolding carries
  set-member v l h =
      byBool (ltb v n)
      (λ e.
      both_right (not (is_open v)) (member v pins) (carried-set v (ltb-true v n e) ∙ h))
      (λ e. clash h (has-high n set v (of_bits-lt n (carries pins)) (ltb-false v n e)))

  set-choice : is_choice n set ≡ true
  set-choice =
      let small = of_bits-lt n (carries pins) in
      let nine : set < 512 = omega (arith, pow_mono {i = n} {j = 9} within) in
      let listed = eqb-true (length (variables_in set)) (count (has set) 9) (below_at listed_right 512 all_listed set nine) in
      let few = count-within (has set) (λ v. member v pins) 9 set-member in
      is-choice n set small (omega (arith, count-member pins 9))

-- no match
pub no_block : (n : ℕ) (t : List ℕ) → n ≤ 9 → NoWiring n t → NoBlock n t
unfolding fields_fit
no_block n t within none b r =
    let f = b.f.pins in
    let g = b.g.pins in
    let after-f = every-after (field_fits n) f (g ++ (b.direct ∷ [])) r.fields in
    let direct = both_left (field_fits n b.direct) true (every-after (field_fits n) g (b.direct ∷ []) after-f) in
    none (set n f within r.device.in_f.four) (set n g within r.device.in_g.four) b.direct
    (wiring-of n _ _ b.direct
    (record {
      within = within;
      f-choice = set-choice n f within r.device.in_f.four;
      g-choice = set-choice n g within r.device.in_g.four;
      direct = direct;
    }))
    (fits-ext n t (carries f) (carries g) (has (set n f within r.device.in_f.four))
    (has (set n g within r.device.in_g.four)) b.direct
    (carried-set n f within r.device.in_f.four) (carried-set n g within r.device.in_g.four)
    (fits-of-block n t b r.fields r.computes))
