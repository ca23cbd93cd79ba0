-- Every tidy block of at most nine inputs has one of the thirteen types, and no more variables than
-- its row allows: its pins are those of two sets of the table, so some wiring has its type. Assumes
-- nothing.
use mathlib.Core.Path.{◌≡◌, refl}
use mathlib.Core.Bool.{true}
use mathlib.Core.List.{[], ◌∷◌, ◌++◌}
use Prim.Native.Nat.{ℕ, ◌≤◌}
use native.Mathlib.Omega.{arith}
use lib.Dec.{ltb}
use borrow.Author.Tests.{ltb-true, lt-ltb, eqb-true}
use Rattle.bits.specs.Tests.{every}
use Rattle.block.specs.Block.{Block, Device, is_open, pins_of}
use Rattle.block.specs.Table.{most_inputs}
use Rattle.block.specs.Tidy.{Tidy, field_fits, fields_fit}
use Rattle.block.specs.Kind.{letter_of, digit_of, variables_of}
use Rattle.subsets.specs.Masks.{TidyChoice}
use Rattle.bits.proofs.TestLaws.{both_left, or_cases}
use Rattle.bits.proofs.ListLaws.{every-after, every-before, every-implied}
use Rattle.subsets.proofs.PinLaws.{listed-choice}
use Rattle.survey.specs.Survey.{wired, Known}
use Rattle.survey.proofs.SurveyLaws.{wired-known}

-- a field that fits n inputs fits nine
fits-nine : (n pin : ℕ) → n ≤ most_inputs → field_fits n pin ≡ true → field_fits most_inputs pin ≡ true
fits-nine n pin most fits =
    or_cases (ltb pin n) (is_open pin) (field_fits most_inputs pin ≡ true) fits
    (λ low. rw (lt-ltb pin most_inputs (omega (arith, ltb-true pin n low))))
    (λ opened. rw (eqb-true pin 15 opened))

-- the type and the number of variables go by the pins alone
typed-by-pins : (b c : Block) → b.f.pins ≡ c.f.pins → b.g.pins ≡ c.g.pins
    → b.direct ≡ c.direct
    → Known b → Known c
unfolding letter_of digit_of variables_of
typed-by-pins b c same-f same-g same-direct typed = rw (← same-f, ← same-g, ← same-direct) typed

module _ (n : ℕ) (b : Block) (most : n ≤ most_inputs) (device : Device b) (tidy : Tidy n b) where
  fields-nine : every (field_fits most_inputs) (pins_of b) ≡ true
  unfolding fields_fit
  fields-nine = every-implied _ _ (λ pin. fits-nine n pin most) (pins_of b) tidy.fields

  after-f : every (field_fits most_inputs) (b.g.pins ++ (b.direct ∷ [])) ≡ true
  after-f = every-after _ b.f.pins _ fields-nine

  f-choice : TidyChoice b.f.pins
  f-choice =
      record {
        four = device.in_f.four;
        fields = every-before _ b.f.pins _ fields-nine;
        order = tidy.f-order;
      }

  g-choice : TidyChoice b.g.pins
  g-choice =
      record {
        four = device.in_g.four;
        fields = every-before _ b.g.pins _ after-f;
        order = tidy.g-order;
      }

  -- the block is wired as two sets of the table are
  pub tidy-known : Known b
  unfolding wired
  tidy-known =
      let f-set = listed-choice b.f.pins f-choice in
      let g_set = listed-choice b.g.pins g-choice in
      let fits = both_left _ _ (every-after (field_fits most_inputs) b.g.pins (b.direct ∷ []) after-f) in
      let like = wired f-set.0 g_set.0 b.direct in
      typed-by-pins like b f-set.2 g_set.2 refl
      (wired-known _ _ _ (record { f-set = f-set.1; g_set = g_set.1; direct-pin = fits }))
