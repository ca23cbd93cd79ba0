-- The survey holds: no wiring of the table's sets exceeds the thirteen rows, by the test of every
-- wiring, and each row is reached, by a test of one wiring for each row. Assumes nothing.
use mathlib.Core.Path.{◌≡◌, refl}
use mathlib.Core.Bool.{Bool, true, false, ◌&&◌}
use mathlib.Core.List.{List, [], ◌∷◌}
use Prim.Native.Nat.{ℕ, ◌<◌}
use native.Mathlib.Omega.{arith}
use lib.Dec.{eqb, ltb}
use lib.ListN.{length, get_or}
use borrow.Author.Tests.{eqb-true, ltb-true}
use Rattle.bits.specs.Tests.{below}
use Rattle.bits.specs.Bits.{has}
use Rattle.block.specs.Block.{open_field, is_open}
use Rattle.block.specs.Table.{most_inputs}
use Rattle.block.specs.Tidy.{field_fits}
use Rattle.block.specs.Kind.{carries, letter_of, digit_of, variables_of}
use Rattle.subsets.specs.Masks.{variables_from, variables_in, pins_of_mask, masks}
use Rattle.bits.proofs.TestLaws.{both_left, both_right, or_cases, below_at}
use Rattle.survey.specs.Survey.{TypeRow, thirteen, type_row_at, wired, Wiring, Known, Reached, Bridged}
use Rattle.survey.specs.Survey.{Survey}
use Rattle.survey.proofs.RowLaws.{same_letter, same_letter-eq}
use Rattle.survey.proofs.WiringTest.{pair-within}
use Rattle.survey.proofs.TallyLaws.{carried-within, open-within}

-- an open pin carries no variable
carries-open : (pins : List ℕ) (v : ℕ) → is_open v ≡ true → carries pins v ≡ false
unfolding carries
carries-open pins v opened = rw opened

pub wired-known : (i j d : ℕ) → Wiring i j d → Known (wired i j d)
unfolding wired letter_of digit_of variables_of
wired-known i j d w =
    let f-pins = pins_of_mask (get_or masks i 0) in
    let g-pins = pins_of_mask (get_or masks j 0) in
    let f = carries f-pins in
    let g = carries g-pins in
    let test = pair-within i j w.f-set w.g_set in
    or_cases (ltb d most_inputs) (is_open d) (Known (wired i j d)) w.direct-pin
    (λ low. carried-within f g d most_inputs test (ltb-true d most_inputs low))
    (λ opened.
    open-within f g d most_inputs test (carries-open f-pins d opened) (carries-open g-pins d opened)
    (omega (arith, eqb-true d open_field opened)))

count : length thirteen ≡ 13
unfolding thirteen
count = refl

-- a set for G and a direct pin, beside F on set 0, the variables 0 to 3
record Beside : Type 0 where
  g_set : ℕ
  direct : ℕ

abbrev beside : ℕ → ℕ → Beside
beside j d = record { g_set = j; direct = d }

-- one for each of the thirteen rows. The sets 0, 93, 157, 199 and 225 are four variables in
-- succession, from 0, 1, 2, 3 and 4 on.
abbrev examples : List Beside
examples =
    beside 225 8 ∷ beside 199 7 ∷ beside 157 6 ∷ beside 93 5 ∷ beside 0 4
    ∷ beside 225 0 ∷ beside 199 0 ∷ beside 157 0 ∷ beside 93 0
    ∷ beside 199 3 ∷ beside 157 3 ∷ beside 93 3 ∷ beside 0 3
    ∷ []

abbrev wiring : ℕ → ℕ → ℕ → Bool
wiring i j d = ltb i 256 && (ltb j 256 && field_fits most_inputs d)

wiring→Wiring : (i j d : ℕ) → wiring i j d ≡ true → Wiring i j d
wiring→Wiring i j d h =
    let rest = both_right (ltb i 256) _ h in
    record {
      f-set = ltb-true i 256 (both_left _ _ h);
      g_set = ltb-true j 256 (both_left _ _ rest);
      direct-pin = both_right (ltb j 256) _ rest;
    }

abbrev reaches : TypeRow → ℕ → ℕ → ℕ → Bool
reaches r i j d =
    wiring i j d
    && (same_letter (letter_of (wired i j d)) r.letter
    && (eqb (digit_of (wired i j d)) r.digit && eqb (variables_of (wired i j d)) r.most))

reaches→Reached : (r : TypeRow) (i j d : ℕ) → reaches r i j d ≡ true → Reached r
reaches→Reached r i j d h =
    let kind = both_right (wiring i j d) _ h in
    let numbers = both_right (same_letter (letter_of (wired i j d)) r.letter) _ kind in
    record {
      i = i;
      j = j;
      d = d;
      wiring = wiring→Wiring i j d (both_left _ _ h);
      letter = same_letter-eq _ _ (both_left _ _ kind);
      digit = eqb-true _ _ (both_left _ _ numbers);
      most = eqb-true _ _ (both_right (eqb (digit_of (wired i j d)) r.digit) _ numbers);
    }

abbrev example_at : ℕ → Beside
example_at k = get_or examples k (beside 0 0)

abbrev reaches_at : ℕ → Bool
reaches_at k = reaches (type_row_at k) 0 (example_at k).g_set (example_at k).direct

all-reached : below reaches_at 13 ≡ true
unfolding thirteen wired letter_of digit_of variables_of carries masks has variables_from variables_in pins_of_mask
all-reached = refl

reached : (k : ℕ) → k < 13 → Reached (type_row_at k)
reached k l =
    let e = example_at k in
    reaches→Reached (type_row_at k) 0 e.g_set e.direct (below_at reaches_at 13 all-reached k l)

f-bridged : Bridged true false
unfolding wired letter_of carries masks has variables_from variables_in pins_of_mask
f-bridged =
    record {
      i = 0;
      j = 225;
      d = 0;
      wiring = wiring→Wiring 0 225 0 refl;
      letter = refl;
      f-carries = refl;
      g-carries = refl;
    }

g-bridged : Bridged false true
unfolding wired letter_of carries masks has variables_from variables_in pins_of_mask
g-bridged =
    record {
      i = 225;
      j = 0;
      d = 0;
      wiring = wiring→Wiring 225 0 0 refl;
      letter = refl;
      f-carries = refl;
      g-carries = refl;
    }

pub survey : Survey
survey =
    record {
      count = count;
      within = wired-known;
      reached = reached;
      f-bridged = f-bridged;
      g-bridged = g-bridged;
    }
