-- `columns::put_numbers` meets its contract: cell after cell. Assumes nothing.
use mathlib.Core.List.{List, [], ◌++◌}
use mathlib.Core.Path.{◌≡◌}
use Prim.Native.Nat.{ℕ, ◌-◌}
use native.Mathlib.Omega.{arith}
use borrow.Rule.Slice.PartMut.{put_mid}
use lib.ListN.{length, take, drop}
use Rattle.record.specs.declared.Numbers.{Numbers}
use Rattle.columns.specs.Columns.{place_width, craft_width, block_width, n_width, cell, number_cells}
use Rattle.columns.specs.Columns.{InColumns}
use Rattle.columns.proofs.CellLaws.{Begun, begun_first, begun-next, begun-space}
use Rattle.columns.proofs.CellLaws.{place-room, craft-room, block_room, n_room}
use Rattle.columns.proofs.put_numbers.Goals as goal

-- what stands in the buffer after one cell, after two and after three
module _ (place : ℕ) (x : Numbers) (fits : InColumns place x) (before o p q : List ℕ) where
  placed : o ≡ cell place_width place ++ drop 5 before → Begun before o (cell place_width place) 5
  placed first = begun_first _ _ place_width _ (place-room _ _ fits) first

  crafted : o ≡ cell place_width place ++ drop 5 before
      → p ≡ cell craft_width x.craft ++ drop 6 (take (length o - 5) (drop 5 o))
      → Begun before (put_mid 5 (length o - 5) o p) (cell place_width place ++ cell craft_width x.craft) 11
  crafted first second = begun-next _ _ _ _ 5 craft_width _ (placed first) (craft-room _ _ fits) second

  blocked : o ≡ cell place_width place ++ drop 5 before
      → p ≡ cell craft_width x.craft ++ drop 6 (take (length o - 5) (drop 5 o))
      → (let both = put_mid 5 (length o - 5) o p in
      q ≡ cell block_width x.block ++ drop 5 (take (length both - 11) (drop 11 both))
      → Begun before (put_mid 11 (length both - 11) both q)
      (cell place_width place ++ cell craft_width x.craft ++ cell block_width x.block)
      16)
  blocked first second third =
      begun-next _ _ _ _ 11 block_width _ (crafted first second) (block_room _ _ fits) third

pub put_cell-requires : goal.put_cell-requires
put_cell-requires c = (place-room _ _ c.requires.0, omega (arith, c.requires.1))

pub put_cell-requires-3 : goal.put_cell-requires-3
put_cell-requires-3 c =
    let begun = crafted _ c.args.x c.requires.0 c.args.out.now _ _ [] c.put_cell.ensures c.put_cell-2.ensures in
    (block_room _ _ c.requires.0, begun-space _ _ _ 11 4 begun (omega (arith, c.requires.1)))

pub put_cell-requires-2 : goal.put_cell-requires-2
put_cell-requires-2 c =
    let begun = placed _ c.args.x c.requires.0 c.args.out.now _ [] [] c.put_cell.ensures in
    (craft-room _ _ c.requires.0, begun-space _ _ _ 5 5 begun (omega (arith, c.requires.1)))

pub put_cell-requires-4 : goal.put_cell-requires-4
put_cell-requires-4 c =
    let begun =
    blocked _ c.args.x c.requires.0 c.args.out.now _ _ _ c.put_cell.ensures c.put_cell-2.ensures c.put_cell-3.ensures
    in
    (n_room _ _ c.requires.0, begun-space _ _ _ 16 1 begun (omega (arith, c.requires.1)))

pub returns : goal.returns
unfolding number_cells
returns c =
    let begun =
    blocked _ c.args.x c.requires.0 c.args.out.now _ _ _ c.put_cell.ensures c.put_cell-2.ensures c.put_cell-3.ensures
    in
    (begun-next _ _ _ _ 16 n_width _ begun (n_room _ _ c.requires.0) c.put_cell-4.ensures).kept
