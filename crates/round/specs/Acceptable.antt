-- A block that the packer accepts. Assumes nothing.
use Rattle.std.specs.Prelude.{ℕ, ◌≤◌}
use Rattle.block.specs.Block.{Block, Device}
use Rattle.block.specs.Table.{most_inputs}
use Rattle.block.specs.Tidy.{Tidy}

-- fields and tables that the packer accepts, given room: a tidy block of the device
pub record Acceptable (n : ℕ) (b : Block) : Type 0 where
  pub within : n ≤ most_inputs
  pub device : Device b
  pub tidy : Tidy n b
