-- A wiring that does not fit has no contents, and one without contents does not fit. The tests that
-- only reject. Assumes nothing.
use Rattle.std.specs.Prelude.{None}
use mathlib.Core.Path.{◌≡◌, sym, ap, ap₂, ◌∙◌}
use mathlib.Core.Bool.{Bool, true, ◌||◌, or_assoc}
use mathlib.Core.List.{List}
use Prim.Native.Nat.{ℕ, ◌^◌, ◌<◌, ◌≤◌}
use native.Mathlib.Omega.{arith}
use lib.Dec.{eqb}
use lib.Bits.{bit_and, bit_or, and_le_l}
use lib.Pow.{pow_mono}
use borrow.Author.Tests.{eqb-true}
use Rattle.bits.specs.Bits.{has}
use Rattle.bits.proofs.SearchLaws.{byBool}
use Rattle.bits.proofs.BitLaws.{has-and, has-or, has-pow, same_number}
use Rattle.block.specs.Tidy.{rows_quiet}
use Rattle.block.specs.Kind.{carries}
use Rattle.subsets.specs.Masks.{pins_of_mask}
use Rattle.wiring.specs.Fits.{Fits, depends_on}
use Rattle.wiring.proofs.FitsLaws.{fits-of-block, fits-ext, fits-covers}
use Rattle.wiring.proofs.FillLaws.{block-of-fits, filled-quiet}
use Rattle.filter.specs.Support.{support_of}
use Rattle.filter.proofs.SupportLaws.{support-lt, support-on}
use Rattle.contents.specs.Contents.{is_wiring, wiring_of, block_with, no_contents, IsLeast}
use Rattle.contents.proofs.ChoiceLaws.{f-carries, g-carries, wired}
use Rattle.contents.proofs.LeastLaws.{block_with_lem, none-fill, is-least-none}
use Rattle.matcher.specs.Search.{direct_of, direct_set, directs, Uncovered}
use Rattle.matcher.proofs.NumberLaws.{tables_number}
use Rattle.matcher.proofs.FirstLaws.{block-fields}
use Rattle.matcher.proofs.PlaceLaws.{direct-fits}

module _ (n : ℕ) (t : List ℕ) (f g d : ℕ) (w : is_wiring n f g d ≡ true) where
  -- without a fit there are no contents
  pub rejected : (Fits n t (has f) (has g) d → ⊥) → IsLeast n t f g d None
  rejected never =
      is-least-none n t f g d
      (none-fill n t f g d
      (λ y fills.
      never
      (fits-ext n t (carries (pins_of_mask f)) (carries (pins_of_mask g)) (has f) (has g) d
      (f-carries n f g d w) (g-carries n f g d w)
      (fits-of-block n t (block_with f g d y) (block-fields n f g d w y) fills.computes))))

  -- without contents there is no fit
  pub never-fits : IsLeast n t f g d None → Fits n t (has f) (has g) d → ⊥
  never-fits none fits =
      let sees =
      fits-ext n t (has f) (has g) (carries (pins_of_mask f)) (carries (pins_of_mask g)) d
      (λ v m. sym (f-carries n f g d w v m)) (λ v m. sym (g-carries n f g d w v m)) fits in
      let pins = wired n f g d w in
      let made = block-of-fits n t (wiring_of f g d) pins sees in
      let y = tables_number made.f made.g made.h in
      let lf = made.f_lt in
      let lg = made.g-lt in
      let lh = made.h-lt in
      let small : y < no_contents = omega arith in
      let same = block_with_lem made.f made.g made.h lg lh f g d in
      let most =
      none.least.least y
      (record {
        small = small;
        quiet = ap rows_quiet same ∙ filled-quiet n t (wiring_of f g d) pins made;
        computes = rw same made.computes;
      }) in
      omega arith

-- the variables that the table depends on
module _ (n : ℕ) (t : List ℕ) (within : n ≤ 9) where
  -- two variables that neither set has: no choice of the direct pin covers both
  pub never-covered : (f g k : ℕ) → k < directs n → Uncovered (support_of n t) f g
      → Fits n t (has f) (has g) (direct_of n k) → ⊥
  never-covered f g k l missing fits =
      let u = missing (direct_of n k) in
      let on = support-on n t within u.0 u.2 in
      let told = fits-covers n t (has f) (has g) (direct_of n k) fits (direct-fits n k l) u.0 on.1 in
      u.1 (eqb-true u.0 (direct_of n k) (rw (u.3, u.4) at told))

  pub direct-has : (k v : ℕ) → v < n → has (direct_set n k) v ≡ eqb v (direct_of n k)
  direct-has k v l =
      byBool (eqb n 0) (λ z. absurd (omega (arith, eqb-true n 0 z))) (λ z. rw z (has-pow k v))

  pub cover-has : (f g k v : ℕ) → v < n
      → has (bit_or (bit_or f g) (direct_set n k)) v ≡ ((has f v || has g v) || eqb v (direct_of n k))
  cover-has f g k v l =
      has-or (bit_or f g) (direct_set n k) v ∙ ap₂ ◌||◌ (has-or f g v) (direct-has k v l)

  -- a variable that the table depends on, and that no pin carries
  pub never-missed : (f g k : ℕ) → k < directs n
      → (bit_and (support_of n t) (bit_or (bit_or f g) (direct_set n k)) ≡ support_of n t → ⊥)
      → Fits n t (has f) (has g) (direct_of n k) → ⊥
  never-missed f g k l missed fits =
      missed
      (same_number 9 (bit_and s cover) s (omega (arith, and_le_l s cover, nine)) nine
      (λ v m.
      has-and s cover v
      ∙ byBool (has s v)
      (λ e.
      let on = support-on n t within v e in rw (e, cover-has f g k v on.0, covered v on.1))
      (λ e. rw e)))
    where
      s : ℕ
      s = support_of n t

      cover : ℕ
      cover = bit_or (bit_or f g) (direct_set n k)

      nine : s < 2 ^ 9
      nine = omega (arith, support-lt n t within, pow_mono {i = n} {j = 9} within)

      covered : (v : ℕ) → depends_on n t v ≡ true → ((has f v || has g v) || eqb v (direct_of n k)) ≡ true
      covered v on =
          or_assoc (has f v) (has g v) (eqb v (direct_of n k))
          ∙ fits-covers n t (has f) (has g) (direct_of n k) fits (direct-fits n k l) v on

  -- what G and the direct pin carry, as one set
  pub other-has : (g k : ℕ) → (v : ℕ) → v < n
      → has (bit_or g (direct_set n k)) v ≡ (has g v || eqb v (direct_of n k))
  other-has g k v l = has-or g (direct_set n k) v ∙ ap (λ (b : Bool). has g v || b) (direct-has k v l)
