-- What fits: every block's function fits the sets that the block carries, a fit covers what the function
-- depends on, and it stays a fit on sets that hold as much of that. Assumes nothing.
use mathlib.Core.Path.{◌≡◌, refl, sym, ap, ◌∙◌}
use mathlib.Core.Bool.{Bool, true, false, ◌&&◌, ◌||◌}
use mathlib.Core.List.{List}
use Prim.Native.Nat.{ℕ, ◌<◌}
use lib.Dec.{eqb, ltb}
use borrow.Author.Tests.{lt-ltb, ltb-true}
use Rattle.bits.specs.Tests.{pick, every}
use Rattle.block.specs.Block.{Block}
use Rattle.block.specs.Value.{Computes}
use Rattle.block.specs.Tidy.{field_fits, fields_fit}
use Rattle.block.specs.Kind.{carries}
use Rattle.wiring.specs.Wire.{reads, only, without}
use Rattle.wiring.specs.Fits.{Fits, depends_on}
use Rattle.bits.proofs.SearchLaws.{byBool, clash}
use Rattle.bits.proofs.TestLaws.{both_left, both_right}
use Rattle.bits.proofs.ListLaws.{every-before, every-after}
use Rattle.bits.proofs.BitLaws.{has-of-0}
use Rattle.wiring.proofs.OnlyLaws.{has-only, only-in, only-lt, without-out, without-lt}
use Rattle.wiring.proofs.OnlyLaws.{only-ext, only-without, only-within}
use Rattle.wiring.proofs.ReadLaws.{carried-lt, reads-ext}
use Rattle.wiring.proofs.SelectLaws.{selected-only}
use Rattle.wiring.proofs.BlockLaws.{lut_of, h_of, computes→out}
use Rattle.wiring.proofs.DependLaws.{same-free, truth-only}

fits-f : (n : ℕ) (b : Block) → fields_fit n b ≡ true → every (field_fits n) b.f.pins ≡ true
unfolding fields_fit
fits-f n b fit = every-before (field_fits n) b.f.pins _ fit

fits-g : (n : ℕ) (b : Block) → fields_fit n b ≡ true → every (field_fits n) b.g.pins ≡ true
unfolding fields_fit
fits-g n b fit =
    every-before (field_fits n) b.g.pins _ (every-after (field_fits n) b.f.pins _ fit)

-- any block at all: its pins in any order, repeated or open, its unread rows set or not
pub fits-of-block : (n : ℕ) (t : List ℕ) (b : Block) → fields_fit n b ≡ true → Computes n t b
    → Fits n t (carries b.f.pins) (carries b.g.pins) b.direct
fits-of-block n t b fit computes =
    record {
      of-f = lut_of b.f;
      of-g = lut_of b.g;
      of-h = h_of b.h;
      every-row = λ r row.
          rw (
            selected-only n b.f.pins (fits-f n b fit) r,
            selected-only n b.g.pins (fits-g n b fit) r,
          )
          (computes→out n t b computes r row);
    }

pub fits-ext : (n : ℕ) (t : List ℕ) (f g f' g' : ℕ → Bool) (d : ℕ)
    → ((v : ℕ) → v < n → f v ≡ f' v) → ((v : ℕ) → v < n → g v ≡ g' v) → Fits n t f g d → Fits n t f' g' d
fits-ext n t f g f' g' d same-f same-g fits =
    record {
      of-f = fits.of-f;
      of-g = fits.of-g;
      of-h = fits.of-h;
      every-row = λ r row.
          let seen-f = only-ext n f f' r same-f in
          let seen-g = only-ext n g g' r same-g in
          rw (← seen-f, ← seen-g) (fits.every-row r row);
    }

module _ (n : ℕ) (t : List ℕ) (f g : ℕ → Bool) (d : ℕ) (fits : Fits n t f g d) where
  pub fits-exchanged : Fits n t g f d
  fits-exchanged =
      record {
        of-f = fits.of-g;
        of-g = fits.of-f;
        of-h = λ x y z. fits.of-h y x z;
        every-row = fits.every-row;
      }

  -- the function is free of a variable outside the sets and off the direct pin
  unseen : field_fits n d ≡ true → (v : ℕ) → f v ≡ false → g v ≡ false → eqb v d ≡ false
      → depends_on n t v ≡ false
  unseen fit v out-f out-g off =
      same-free n t v
      (λ r row.
      let s = without n (eqb v) r in
      let direct : reads d s ≡ reads d r =
      reads-ext d s r (λ carried. without-out n (eqb v) r d (carried-lt n d fit carried) off) in
      fits.every-row r row
      ∙ rw (← only-without n f v r out-f, ← only-without n g v r out-g, ← direct)
      (sym (fits.every-row s (without-lt n (eqb v) r))))

  pub fits-covers : field_fits n d ≡ true → (v : ℕ) → depends_on n t v ≡ true
      → (f v || (g v || eqb v d)) ≡ true
  fits-covers fit v depends =
      byBool (f v) (λ e. rw e)
      (λ out-f.
      byBool (g v) (λ e. rw (out-f, e))
      (λ out-g.
      byBool (eqb v d) (λ e. rw (out-f, out-g, e))
      (λ off. clash depends (unseen fit v out-f out-g off))))

  -- a fit stays a fit on sets that hold what the function depends on of the old ones
  module _ (f' g' : ℕ → Bool) (d' : ℕ) (fit : field_fits n d ≡ true)
      (hold-f : (v : ℕ) → v < n → depends_on n t v ≡ true → f v ≡ true → f' v ≡ true)
      (hold-g : (v : ℕ) → v < n → depends_on n t v ≡ true → g v ≡ true → g' v ≡ true)
      (hold-d : (v : ℕ) → v < n → depends_on n t v ≡ true → v ≡ d → v ≡ d') where
    -- the variables on which the function depends
    abbrev needed : ℕ → Bool
    needed v = depends_on n t v

    -- the function depends on the direct pin's variable
    abbrev live : Bool
    live = ltb d n && needed d

    direct-needed : (r : ℕ) → reads d (only n needed r) ≡ pick live (reads d' r) (reads d 0)
    direct-needed r =
        byBool live
        (λ e.
        let l = ltb-true d n (both_left (ltb d n) (needed d) e) in
        let kept = both_right (ltb d n) (needed d) e in
        rw e
        (reads-ext d _ r (λ carried. only-in n needed r d l kept)
        ∙ ap (λ (pin : ℕ). reads pin r) (hold-d d l kept refl)))
        (λ e.
        rw e
        (reads-ext d _ 0
        (λ carried.
        let l = carried-lt n d fit carried in
        let gone : needed d ≡ false = rw (lt-ltb d n l) at e in
        has-only n needed r d l ∙ rw gone (sym (has-of-0 d)))))

    pub fits-within : Fits n t f' g' d'
    fits-within =
        record {
          of-f = λ x. fits.of-f (only n f (only n needed x));
          of-g = λ x. fits.of-g (only n g (only n needed x));
          of-h = λ x y z. fits.of-h x y (pick live z (reads d 0));
          every-row = λ r row.
              sym (truth-only n t needed (λ v l e. e) r row)
              ∙ fits.every-row (only n needed r) (only-lt n needed r)
              ∙ rw (
                direct-needed r,
                only-within n needed f f' r hold-f,
                only-within n needed g g' r hold-g,
              );
        }
