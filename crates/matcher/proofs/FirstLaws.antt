-- The least contents on the first wiring that fits are the first block in byte order. Assumes nothing.
use mathlib.Core.Path.{◌≡◌, refl, sym, ap, ap₂, ◌∙◌}
use mathlib.Core.Bool.{true}
use mathlib.Core.List.{List, [], ◌∷◌, ◌++◌}
use mathlib.Core.Logic.{⊎_elim}
use Prim.Native.Nat.{ℕ, ◌+◌, ◌*◌, ◌/◌, ◌%◌, ◌^◌, ◌<◌, ◌≤◌}
use native.Mathlib.Nat.{eq-or-lt_of_le}
use native.Mathlib.Omega.{arith}
use Rattle.bits.specs.Bits.{has, split}
use Rattle.bits.proofs.TestLaws.{both_left}
use Rattle.bits.proofs.ListLaws.{every_append, every-before, every-after}
use Rattle.block.specs.Block.{Block, Device}
use Rattle.block.specs.Tidy.{field_fits, fields_fit, rows_quiet}
use Rattle.block.specs.Kind.{carries}
use Rattle.subsets.specs.Masks.{pins_of_mask, key_of}
use Rattle.rows.proofs.KeyLaws.{key_of-lt, key-pins}
use Rattle.wiring.specs.Fits.{Fits}
use Rattle.wiring.proofs.FitsLaws.{fits-of-block, fits-ext}
use Rattle.contents.specs.Contents.{is_choice, is_wiring, block_with, no_contents, Fills, LeastFilling}
use Rattle.contents.proofs.ChoiceLaws.{choice-of, choice-carries, pieces, wiring-of}
use Rattle.contents.proofs.ChoiceLaws.{direct-lt, f-tidy, g-tidy, wired}
use Rattle.contents.proofs.LeastLaws.{block_with_lem}
use Rattle.matcher.specs.Match.{TidyMatch, First}
use Rattle.matcher.specs.Search.{wiring_number, FirstWiring}
use Rattle.matcher.proofs.NumberLaws.{pins_number, tables_number, block_number, not-before}

-- contents as a number, and back
tables-number : (x : ℕ) → tables_number (x / 2 ^ 24) (x / 2 ^ 8 % 2 ^ 16) (x % 2 ^ 8) ≡ x
tables-number x = omega arith

module _ (n f g d : ℕ) (w : is_wiring n f g d ≡ true) where
  pub block-device : (x : ℕ) → x < no_contents → Device (block_with f g d x)
  block-device x l =
      record {
        in_f = record { four = (f-tidy n f g d w).four; rows_fit = omega arith };
        in_g = record { four = (g-tidy n f g d w).four; rows_fit = omega arith };
        h_fits = omega arith;
      }

  pub block-fields : (x : ℕ) → fields_fit n (block_with f g d x) ≡ true
  unfolding fields_fit
  block-fields x =
      let pins = wired n f g d w in
      rw (
        every_append (field_fits n) (pins_of_mask f) (pins_of_mask g ++ (d ∷ [])),
        every_append (field_fits n) (pins_of_mask g) (d ∷ []),
        pins.f-fit,
        pins.g-fit,
        pins.direct-fits,
      )

  pub block-match : (t : List ℕ) (x : ℕ) → Fills n t f g d x → TidyMatch n t (block_with f g d x)
  block-match t x fills =
      record {
        tidy =
            record {
              fields = block-fields x;
              f-order = (f-tidy n f g d w).order;
              g-order = (g-tidy n f g d w).order;
              rows = fills.quiet;
            };
        realises =
            record {
              device = block-device x fills.small;
              fields = block-fields x;
              computes = fills.computes;
            };
      }

-- the sets of a tidy block's pins
record SetsOf (n : ℕ) (t : List ℕ) (c : Block) : Type 0 where
  pub p : ℕ
  pub q : ℕ
  pub wiring : is_wiring n p q c.direct ≡ true
  pub f-pins : pins_of_mask p ≡ c.f.pins
  pub g-pins : pins_of_mask q ≡ c.g.pins
  pub fits : Fits n t (has p) (has q) c.direct

carried : (n set : ℕ) (pins : List ℕ) → n ≤ 9 → is_choice n set ≡ true → pins_of_mask set ≡ pins
    → (v : ℕ) → v < n → carries pins v ≡ has set v
carried n set pins within choice same v l =
    ap (λ (s : List ℕ). carries s v) (sym same) ∙ choice-carries n set within choice v l

sets_of : (n : ℕ) (t : List ℕ) (c : Block) → n ≤ 9 → TidyMatch n t c → SetsOf n t c
unfolding fields_fit
sets_of n t c within m =
    let fields = m.tidy.fields in
    let after-f = every-after (field_fits n) c.f.pins (c.g.pins ++ (c.direct ∷ [])) fields in
    let in_f = every-before (field_fits n) c.f.pins (c.g.pins ++ (c.direct ∷ [])) fields in
    let in_g = every-before (field_fits n) c.g.pins (c.direct ∷ []) after-f in
    let in-d = every-after (field_fits n) c.g.pins (c.direct ∷ []) after-f in
    let device = m.realises.device in
    let f = choice-of n c.f.pins within device.in_f.four in_f m.tidy.f-order in
    let g = choice-of n c.g.pins within device.in_g.four in_g m.tidy.g-order in
    record {
      p = f.0;
      q = g.0;
      wiring =
          wiring-of n f.0 g.0 c.direct
          (record {
            within = within;
            f-choice = f.1;
            g-choice = g.1;
            direct = both_left (field_fits n c.direct) true in-d;
          });
      f-pins = f.2;
      g-pins = g.2;
      fits =
          fits-ext n t (carries c.f.pins) (carries c.g.pins) (has f.0) (has g.0) c.direct
          (carried n f.0 c.f.pins within f.1 f.2)
          (carried n g.0 c.g.pins within g.1 g.2)
          (fits-of-block n t c m.realises.fields m.realises.computes);
    }

-- equal keys are those of equal pins
same-pins : (set other : ℕ) → key_of set ≡ key_of other → pins_of_mask set ≡ pins_of_mask other
same-pins set other e = sym (key-pins set) ∙ ap (split 4) e ∙ key-pins other

pins-wiring : (f g d : ℕ) → pins_number (pins_of_mask f) (pins_of_mask g) d ≡ wiring_number f g d
unfolding key_of
pins-wiring f g d = refl

same_keys : (a b d a' b' d' : ℕ) → b < 65536 → d < 16 → b' < 65536 → d' < 16
    → (a * 65536 + b) * 16 + d ≡ (a' * 65536 + b') * 16 + d' → (a ≡ a') × (b ≡ b') × (d ≡ d')
same_keys a b d a' b' d' lb ld lb' ld' e = (omega arith, omega arith, omega arith)

module _ (n : ℕ) (t : List ℕ) (f g d x : ℕ) (w : is_wiring n f g d ≡ true) (full : x < no_contents)
    (least : LeastFilling n t f g d x) (first : FirstWiring n t f g d) where
  -- on the same wiring, no lesser contents
  same-wiring : (c : Block) → Device c → TidyMatch n t c → pins_of_mask f ≡ c.f.pins
      → pins_of_mask g ≡ c.g.pins → d ≡ c.direct → x ≤ tables_number c.f.rows c.g.rows c.h
  same-wiring c device m ef eg ed =
      let y = tables_number c.f.rows c.g.rows c.h in
      let small : y < no_contents =
      omega (arith, device.in_f.rows_fit, device.in_g.rows_fit, device.h_fits) in
      let same : block_with f g d y ≡ c =
      block_with_lem c.f.rows c.g.rows c.h device.in_g.rows_fit device.h_fits f g d
      ∙ rw (ef, eg, ed) in
      least.least y
      (record {
        small = small;
        quiet = ap rows_quiet same ∙ m.tidy.rows;
        computes = rw same m.realises.computes;
      })

  no_less : (c : Block) → TidyMatch n t c → block_number (block_with f g d x) ≤ block_number c
  no_less c m =
      let p = pieces n f g d w in
      let s = sets_of n t c p.within m in
      let mine : pins_number (pins_of_mask f) (pins_of_mask g) d ≡ wiring_number f g d = pins-wiring f g d in
      let other : pins_number c.f.pins c.g.pins c.direct ≡ wiring_number s.p s.q c.direct =
      ap₂ (λ (a b : List ℕ). pins_number a b c.direct) (sym s.f-pins) (sym s.g-pins)
      ∙ pins-wiring s.p s.q c.direct in
      let number = tables-number x in
      ⊎_elim
      (λ e.
      let keys =
      same_keys (key_of f) (key_of g) d (key_of s.p) (key_of s.q) c.direct (key_of-lt g)
      (direct-lt n f g d w) (key_of-lt s.q) (direct-lt n s.p s.q c.direct s.wiring) e in
      let less =
      same-wiring c m.realises.device m (same-pins f s.p keys.0 ∙ s.f-pins)
      (same-pins g s.q keys.1 ∙ s.g-pins) keys.2 in
      omega arith)
      (λ l. omega arith) (eq-or-lt_of_le (first s.p s.q c.direct s.wiring s.fits))

  pub first_block : First n t (block_with f g d x)
  first_block =
      let p = pieces n f g d w in
      let m = block-match n f g d w t x (least.fills full) in
      record {
        matches = m;
        none_before =
            λ c other.
            not-before n (block_with f g d x) c
            (record { within = p.within; device = m.realises.device; tidy = m.tidy })
            (record { within = p.within; device = other.realises.device; tidy = other.tidy })
            (no_less c other);
      }
