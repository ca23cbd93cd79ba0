-- The least of the contents over all tables H is the least that compute t on the wiring, and what
-- `least` promises leaves one answer. Assumes nothing.
use Rattle.std.specs.Prelude.{Option, None, Some}
use mathlib.Core.Path.{◌≡◌, refl, sym, ap, ◌∙◌}
use mathlib.Core.Bool.{true, false, ◌&&◌}
use mathlib.Core.List.{List, [], ◌∷◌}
use Prim.Native.Nat.{ℕ, ◌+◌, ◌*◌, ◌/◌, ◌%◌, ◌^◌, ◌<◌, ◌≤◌}
use native.Mathlib.Nat.{le_antisymm}
use native.Mathlib.Omega.{arith}
use lib.Dec.{ltb}
use lib.Pow.{pow_pos}
use borrow.Author.Tests.{ltb-true, ltb-false}
use Rattle.bits.specs.Tests.{some}
use Rattle.bits.proofs.SearchLaws.{byBool, clash, none_out}
use Rattle.bits.proofs.TestLaws.{both_left, both_right}
use Rattle.block.specs.Tidy.{quiet, lut_quiet, rows_quiet}
use Rattle.wiring.specs.Wire.{Wiring, Wired, block_on}
use Rattle.wiring.specs.Test.{component, holds, rows_f, rows_g}
use Rattle.wiring.proofs.ChoiceLaws.{component-lt}
use Rattle.wiring.proofs.TestLaws.{holds-of-block, block-of-holds, rows-least, some_first}
use Rattle.wiring.proofs.TestLaws.{rows_f-quiet, rows_g-quiet, rows_f-lt, rows_g-lt}
use Rattle.contents.specs.declared.Wires.{Wires}
use Rattle.contents.specs.declared.Asked.{Asked}
use Rattle.contents.specs.Contents.{is_wiring, wiring_of, block_with, no_contents}
use Rattle.contents.specs.Contents.{Fills, LeastFilling, IsLeast, Weighs}
use Rattle.contents.specs.Code.{AreWires, AreAsked, component_by, possible_by, with_table, least_of}
use Rattle.contents.proofs.ChoiceLaws.{wired}
use Rattle.contents.proofs.MinimumLaws.{least_of-most, least_of-le, least_of-is}
use Rattle.contents.proofs.StandLaws.{component-as, serves-as, holds_as, with-as}

-- contents taken apart
module _ (f g h : ℕ) (g-fits : g < 2 ^ 16) (h_fits : h < 2 ^ 8) where
  f-part : ((f * 65536 + g) * 256 + h) / 2 ^ 24 ≡ f
  f-part = omega arith

  g-part : ((f * 65536 + g) * 256 + h) / 2 ^ 8 % 2 ^ 16 ≡ g
  g-part = omega arith

  h-part : ((f * 65536 + g) * 256 + h) % 2 ^ 8 ≡ h
  h-part = omega arith

  pub block_with_lem : (p q direct : ℕ)
      → block_with p q direct ((f * 65536 + g) * 256 + h) ≡ block_on (wiring_of p q direct) f g h
  block_with_lem p q direct = rw (f-part, g-part, h-part)

-- no contents at all
pub none-fill : (n : ℕ) (t : List ℕ) (f g direct : ℕ) → ((y : ℕ) → Fills n t f g direct y → ⊥)
    → LeastFilling n t f g direct no_contents
none-fill n t f g direct never =
    record {
      most = omega arith;
      fills = λ l. absurd (omega arith);
      least = λ y fills. absurd (never y fills);
    }

module _ (n : ℕ) (t : List ℕ) (f g direct : ℕ) (tidy : is_wiring n f g direct ≡ true) where
  abbrev w : Wiring
  w = wiring_of f g direct

  pins : Wired n w
  pins = wired n f g direct tidy

  -- the contents that the test finds with table H
  abbrev found : ℕ → ℕ
  found h = (rows_f n t w h * 65536 + rows_g n t w h) * 256 + h

  found-fills : (h : ℕ) → h < 256 → quiet 8 h (direct ∷ []) ≡ true → holds n t w h ≡ true
      → Fills n t f g direct (found h)
  unfolding rows_quiet
  found-fills h l hushed held =
      let in_f = rows_f-lt n t w pins h in
      let in_g = rows_g-lt n t w pins h in
      let same = block_with_lem (rows_f n t w h) (rows_g n t w h) h in_g l f g direct in
      record {
        small = omega arith;
        quiet =
            ap rows_quiet same
            ∙ rw (
              pins.f-four,
              pins.g-four,
              rows_f-quiet n t w pins h,
              rows_g-quiet n t w pins h,
              hushed,
            );
        computes = rw same (block-of-holds n t w pins h held);
      }

  module _ (x : Wires) (are : AreWires n t w x) (a : List Asked) (ask : AreAsked t x (2 ^ n) a) where
    -- contents that fill, and their table H
    module _ (y : ℕ) (fills : Fills n t f g direct y) where
      abbrev h : ℕ
      h = y % 2 ^ 8

      held : holds n t w h ≡ true
      held = holds-of-block n t w pins (y / 2 ^ 24) (y / 2 ^ 8 % 2 ^ 16) h fills.computes

      hushed : quiet 8 h (direct ∷ []) ≡ true
      unfolding rows_quiet
      hushed =
          let b = block_with f g direct y in
          both_right (lut_quiet b.g) _ (both_right (lut_quiet b.f) _ fills.quiet)

      found-least : found h ≤ y
      found-least =
          let small = fills.small in
          let rows =
          rows-least n t w pins (y / 2 ^ 24) (y / 2 ^ 8 % 2 ^ 16) h (omega arith) (omega arith)
          fills.computes in
          omega arith

      weighed : with_table x a h ≤ y
      weighed = rw (with-as n t w pins x are a ask h, hushed, held) found-least

    with-fills : (h : ℕ) → h < 256 → with_table x a h < no_contents → Fills n t f g direct (with_table x a h)
    with-fills h l some-way =
        byBool (quiet 8 h (direct ∷ []) && holds n t w h)
        (λ e.
        let is : with_table x a h ≡ found h = with-as n t w pins x are a ask h ∙ rw e in
        rw is
        (found-fills h l (both_left _ _ e) (both_right (quiet 8 h (direct ∷ [])) _ e)))
        (λ e.
        let is : with_table x a h ≡ no_contents = with-as n t w pins x are a ask h ∙ rw e in
        absurd (omega arith))

    pub least-of-all : LeastFilling n t f g direct (least_of no_contents (with_table x a) 256)
    least-of-all =
        record {
          most = least_of-most no_contents (with_table x a) 256;
          fills = λ l.
              let at = least_of-is no_contents (with_table x a) 256 l in
              rw at.2 (with-fills at.0 at.1 (rw at.2 at l));
          least = λ y fills.
              let least = least_of-le no_contents (with_table x a) 256 (y % 2 ^ 8) (omega arith) in
              omega (arith, weighed y fills);
        }

    -- if any contents fill, some table H passes the first test
    pub none-possible : some (possible_by x a) 256 ≡ false → LeastFilling n t f g direct no_contents
    unfolding possible_by
    none-possible none =
        none-fill n t f g direct
        (λ y fills.
        let first =
        some_first n t w pins (y / 2 ^ 24) (y / 2 ^ 8 % 2 ^ 16) (y % 2 ^ 8) fills.computes in
        let k = first.0 in
        let is : component_by x 0 ≡ component n w 0 = component-as n t w pins x are 0 (pow_pos n) in
        let serves-first =
        serves-as n t w pins x are a ask k (component n w 0) (component-lt n t w pins 0) 0
        ∙ first.3 in
        let holds-all = holds_as n t w pins x are a ask k ∙ first.2 in
        let possible : possible_by x a k ≡ true = rw (is, serves-first, holds-all) in
        clash possible (none_out (possible_by x a) 256 none k first.1))

module _ (n : ℕ) (t : List ℕ) (f g direct : ℕ) where
  pub weighs-refused : is_wiring n f g direct ≡ false → Weighs n t f g direct None
  weighs-refused wrong = record { refused = λ e. refl; weighed = λ e. clash e wrong }

  -- no contents at all, as an answer
  pub is-least-none : LeastFilling n t f g direct no_contents → IsLeast n t f g direct None
  is-least-none least = record { least = least; small = λ x e. absurd (cc) }

  pub weighs-tidy : (r : Option ℕ) → is_wiring n f g direct ≡ true → IsLeast n t f g direct r
      → Weighs n t f g direct r
  weighs-tidy r tidy least = record { refused = λ e. clash tidy e; weighed = λ e. least }

  no_more : (x y : ℕ) → LeastFilling n t f g direct x → LeastFilling n t f g direct y → x ≤ y
  no_more x y p q =
      byBool (ltb y no_contents) (λ e. p.least y (q.fills (ltb-true y no_contents e)))
      (λ e. let above = ltb-false y no_contents e in omega (arith, p.most))

  -- the promise leaves one answer
  pub least-unique : (r q : Option ℕ) → Weighs n t f g direct r → Weighs n t f g direct q → r ≡ q
  least-unique r q told other =
      byBool (is_wiring n f g direct)
      (λ e. same-answer r q (told.weighed e) (other.weighed e))
      (λ e. told.refused e ∙ sym (other.refused e))
    where
      same-answer : (r q : Option ℕ) → IsLeast n t f g direct r → IsLeast n t f g direct q → r ≡ q
      same-answer None None p s = refl
      same-answer None (Some y) p s =
          let small = s.small y refl in
          let more = no_more no_contents y p.least s.least in
          absurd (omega arith)
      same-answer (Some x) None p s =
          let small = p.small x refl in
          let more = no_more no_contents x s.least p.least in
          absurd (omega arith)
      same-answer (Some x) (Some y) p s =
          let same : x ≡ y =
          le_antisymm (no_more x y p.least s.least) (no_more y x s.least p.least) in
          rw same
