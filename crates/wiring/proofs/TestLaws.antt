-- The test of a wiring is right: it holds just where a block on the wiring computes t, and the
-- contents that it finds compute t and are the least. Assumes nothing.
use mathlib.Core.Path.{◌≡◌, ◌∙◌}
use mathlib.Core.Bool.{true}
use mathlib.Core.Logic.{⊎_elim}
use mathlib.Core.List.{List}
use Prim.Native.Nat.{ℕ, ◌+◌, ◌*◌, ◌^◌, ◌<◌, ◌≤◌}
use native.Mathlib.Nat.{eq-or-lt_of_le, mod-eq_of_lt}
use native.Mathlib.Omega.{arith}
use Rattle.bits.specs.Bits.{of_rows}
use Rattle.bits.proofs.RowLaws.{is_row, of_rows-lt, of_rows-is_row, is_row-of_rows}
use Rattle.block.specs.Value.{Computes}
use Rattle.block.specs.Tidy.{quiet}
use Rattle.wiring.specs.Wire.{Wiring, Wired, exchanged, block_on}
use Rattle.wiring.specs.Test.{component, pole_f, pole_g, serves, choice, holds, rows_f, rows_g}
use Rattle.wiring.proofs.SelectLaws.{selected-four}
use Rattle.wiring.proofs.BlockLaws.{computes→gives, gives→computes}
use Rattle.wiring.proofs.TableLaws.{table-quiet}
use Rattle.wiring.proofs.ServeLaws.{Serves→serves}
use Rattle.wiring.proofs.PoleLaws.{poles-lt}
use Rattle.wiring.proofs.ChoiceLaws.{component-lt, holds_of, choice-serves, own_poles, own-serves}
use Rattle.wiring.proofs.LeastLaws.{table_f, table_g, best-gives, least-F, least-G}
use Rattle.wiring.proofs.TurnLaws.{h_turned, h_turned-lt, both, both-lt, both-Both, none-Both}
use Rattle.wiring.proofs.TurnLaws.{serves-turned}

module _ (n : ℕ) (t : List ℕ) (w : Wiring) (wired : Wired n w) where
  -- where a block on this wiring computes t, the test holds
  pub holds-of-block : (f g h : ℕ) → Computes n t (block_on w f g h) → holds n t w h ≡ true
  holds-of-block f g h computes =
      let A = is_row 16 f in
      let B = is_row 16 g in
      let gives = computes→gives n t w wired f g h computes in
      holds_of n t w h
      (λ s l. (own_poles n t w A B s, poles-lt _ _, own-serves n t w wired h A B gives s))

  -- where the test holds, the contents it finds compute t
  pub block-of-holds : (h : ℕ) → holds n t w h ≡ true
      → Computes n t (block_on w (rows_f n t w h) (rows_g n t w h) h)
  unfolding rows_f rows_g
  block-of-holds h held =
      gives→computes n t w wired (rows_f n t w h) (rows_g n t w h) h
      (λ r l.
      rw (
        is_row-of_rows 16 (table_f n t w h) _ (selected-four w.f wired.f-four r),
        is_row-of_rows 16 (table_g n t w h) _ (selected-four w.g wired.g-four r),
      )
      (best-gives n t w wired h held r l))

  -- and are the least: F's rows first, then G's
  pub rows-least : (f g h : ℕ) → f < 2 ^ 16 → g < 2 ^ 16 → Computes n t (block_on w f g h)
      → rows_f n t w h * 65536 + rows_g n t w h ≤ f * 65536 + g
  unfolding rows_f rows_g
  rows-least f g h f-fits g-fits computes =
      let A = is_row 16 f in
      let B = is_row 16 g in
      let gives = computes→gives n t w wired f g h computes in
      let held = holds-of-block f g h computes in
      let is_f : of_rows 16 A ≡ f = of_rows-is_row 16 f ∙ mod-eq_of_lt f-fits in
      let is-g : of_rows 16 B ≡ g = of_rows-is_row 16 g ∙ mod-eq_of_lt g-fits in
      let in_f = least-F n t w wired h held A B gives in
      let in_g = least-G n t w wired h held A B gives in
      let small = of_rows-lt 16 (table_g n t w h) in
      ⊎_elim (λ e. omega (arith, in_g e)) (λ l. omega arith) (eq-or-lt_of_le in_f)

  -- a row that an open pin makes unreadable is 0
  pub rows_f-quiet : (h : ℕ) → quiet 16 (rows_f n t w h) w.f ≡ true
  unfolding rows_f
  rows_f-quiet h = table-quiet n t w (component n w) (λ s. pole_f (choice n t w h s)) 16

  pub rows_g-quiet : (h : ℕ) → quiet 16 (rows_g n t w h) w.g ≡ true
  unfolding rows_g
  rows_g-quiet h =
      table-quiet n t (exchanged w) (component n w) (λ s. pole_g (choice n t w h s)) 16

  pub rows_f-lt : (h : ℕ) → rows_f n t w h < 2 ^ 16
  unfolding rows_f
  rows_f-lt h = of_rows-lt 16 _

  pub rows_g-lt : (h : ℕ) → rows_g n t w h < 2 ^ 16
  unfolding rows_g
  rows_g-lt h = of_rows-lt 16 _

  -- if any block on this wiring computes t, with some H polarities 0 serve row 0's component
  pub some_first : (f g h : ℕ) → Computes n t (block_on w f g h)
      → (k : ℕ) × (k < 256) × (holds n t w k ≡ true) × (serves n t w k (component n w 0) 0 ≡ true)
  some_first f g h computes =
      let held = holds-of-block f g h computes in
      let s = component n w 0 in
      let p = choice n t w h s in
      let by-p = choice-serves n t w h held s (component-lt n t w wired 0) in
      let turned = h_turned h p in (
        turned,
        h_turned-lt h p,
        holds_of n t w turned
            (λ q l.
            let k = choice n t w h q in
            let by-k = choice-serves n t w h held q l in
            let turned-k = serves-turned (both k p) k p (both-Both k p) n t w h q s by-p by-k in
            (both k p, both-lt k p, turned-k)),
        Serves→serves n t w turned s 0 (serves-turned 0 p p (none-Both p) n t w h s s by-p by-p),
      )
