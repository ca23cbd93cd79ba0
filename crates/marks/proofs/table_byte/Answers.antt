-- `marks::table_byte` meets its contract. Assumes nothing.
use Prim.Native.Nat.{ℕ, ◌+◌, ◌*◌}
use mathlib.Core.Path.{◌≡◌, sym, ap₂, ◌∙◌}
use mathlib.Core.Bool.{Bool}
use native.Mathlib.Omega.{arith}
use lib.Bits.{bit_and}
use Rattle.bits.specs.Bits.{of_rows}
use Rattle.bits.specs.Tests.{◌⊕◌}
use Rattle.block.proofs.TableLaws.{bytes_most, table_of-at}
use Rattle.marks.specs.Rows.{is_set}
use Rattle.marks.proofs.WriteLaws.{byte-turned, byte-kept}
use Rattle.marks.proofs.table_byte.Goals as goal

pub byte-requires : goal.byte-requires
byte-requires c =
    omega (arith, bytes_most c.args.n c.requires.0)

pub returns : goal.returns
returns c =
    let a = c.args in
    let set : ℕ → Bool = λ row. is_set a.rows.words row in
    let value : ℕ → Bool = λ row. a.flip ⊕ set row in
    let eight : c.turned.result ≡ of_rows 8 (λ k. value (8 * a.j + k)) =
    c.turned.ensures
    ∙ rw c.byte.ensures (byte-turned a.flip (λ k. set (8 * a.j + k))) in
    ap₂ bit_and eight c.rows_kept.ensures
    ∙ byte-kept a.n value a.j c.requires.1
    ∙ sym (table_of-at a.n value a.j c.requires.1)
