-- The contents with one table H, and the test that goes before them. Assumes nothing.
use Rattle.std.specs.Prelude.{Some}
use mathlib.Core.Path.{◌≡◌, refl, sym}
use mathlib.Core.Bool.{true, false, and-false}
use mathlib.Core.List.{List, [], ◌∷◌}
use Prim.Native.Nat.{ℕ, ◌+◌, ◌*◌, ◌<◌}
use lib.ListN.{get_or, get_or-map}
use Rattle.bits.specs.Bits.{split, of_rows}
use Rattle.bits.proofs.RowLaws.{of_rows-ext}
use Rattle.block.specs.Tidy.{quiet}
use Rattle.wiring.proofs.SelectLaws.{selected-four}
use Rattle.contents.specs.declared.Side.{Side}
use Rattle.contents.specs.declared.Wires.{Wires}
use Rattle.contents.specs.declared.Asked.{Asked}
use Rattle.contents.specs.Contents.{no_contents}
use Rattle.contents.specs.Code.{nothing, asked_ones, asked_zeros, component_by, shown_by, serves_by, choice_at, holds_by, AreChosen, possible_by}
use Rattle.contents.specs.Code.{filled_by, with_table}

component-lt : (w : Wires) (r : ℕ) → component_by w r < 16
unfolding component_by
component-lt w r = selected-four (split 4 w.f.key) refl _

-- a table depends on the polarities of components only
filled-ext : (w : Wires) (s : Side) (p q : ℕ → ℕ) (at x : ℕ) → ((c : ℕ) → c < 16 → p c ≡ q c)
    → filled_by w s p at x ≡ filled_by w s q at x
unfolding filled_by
filled-ext w s p q at x same =
    let here = component_by w (shown_by s.key x) in
    rw (same here (component-lt w (shown_by s.key x)))

module _ (w : Wires) (a : List Asked) (h : ℕ) where
  pub with-loud : quiet 8 h (w.direct ∷ []) ≡ false → no_contents ≡ with_table w a h
  unfolding with_table
  with-loud loud = rw loud

  pub with_none : holds_by w a h ≡ false → no_contents ≡ with_table w a h
  unfolding with_table
  with_none none = rw (none, and-false (quiet 8 h (w.direct ∷ [])))

  pub with-as : quiet 8 h (w.direct ∷ []) ≡ true → (poles : List ℕ) → AreChosen w a h (Some poles)
      → (of_rows 16 (filled_by w w.f (λ k. get_or poles k 0) 3) * 65536
      + of_rows 16 (filled_by w w.g (λ k. get_or poles k 0) 1))
      * 256
      + h
      ≡ with_table w a h
  unfolding with_table
  with-as hushed poles chosen =
      let held : holds_by w a h ≡ true = sym chosen.holds in
      rw (hushed, held, rows w.f 3, rows w.g 1)
    where
      rows : (s : Side) (at : ℕ)
          → of_rows 16 (filled_by w s (λ k. get_or poles k 0) at)
          ≡ of_rows 16 (filled_by w s (choice_at w a h) at)
      rows s at =
          of_rows-ext 16 _ _
          (λ x l. filled-ext w s (λ k. get_or poles k 0) (choice_at w a h) at x (chosen.each poles refl))

  module _ (s : ℕ) (is : s ≡ component_by w 0) where
    serves-here : serves_by w h (get_or a s nothing).ones (get_or a s nothing).zeros 0
        ≡ serves_by w h (get_or (asked_ones a) s 0) (get_or (asked_zeros a) s 0) 0
    serves-here =
        rw (
          get_or-map (λ (x : Asked). x.ones) a s nothing,
          get_or-map (λ (x : Asked). x.zeros) a s nothing,
        )

    pub first-not : serves_by w h (get_or a s nothing).ones (get_or a s nothing).zeros 0 ≡ false
        → possible_by w a h ≡ false
    unfolding possible_by
    first-not none = rw (← is, ← serves-here, none)

    pub all-not : holds_by w a h ≡ false → possible_by w a h ≡ false
    unfolding possible_by
    all-not none =
        rw none
        (and-false
        (serves_by w h (get_or (asked_ones a) (component_by w 0) 0) (get_or (asked_zeros a) (component_by w 0) 0) 0))

    pub first-and-all : serves_by w h (get_or a s nothing).ones (get_or a s nothing).zeros 0 ≡ true
        → holds_by w a h ≡ true → possible_by w a h ≡ true
    unfolding possible_by
    first-and-all first all = rw (← is, ← serves-here, first, all)
