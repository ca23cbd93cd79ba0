-- `matcher::head` meets its contract. Assumes nothing.
use Rattle.std.proofs.lemmas.Result.{err_from_is_err_and}
use mathlib.Core.Path.{◌≡◌, refl, sym, ◌∙◌}
use mathlib.Core.List.{List}
use Prim.Native.Nat.{ℕ, ◌≤◌}
use native.Mathlib.Omega.{arith}
use lib.ListN.{length}
use Rattle.block.specs.Table.{table_bytes, table_length}
use Rattle.block.proofs.TableLaws.{length-within}
use Rattle.matcher.proofs.HeadLaws.{refuses-1, refuses-2, refuses-3, refuses-5, passes}
use Rattle.matcher.proofs.head.Goals as goal

-- the bytes are as many as a table of n inputs has
fits : (n : ℕ) (t : List ℕ) (bytes : ℕ) → n ≤ 9 → length t ≡ bytes → bytes ≡ table_length n
    → length t ≡ table_bytes n
fits n t bytes within same is = same ∙ is ∙ length-within n within

pub returns-in_err-inputs-clause-refusal : goal.returns-in_err-inputs-clause-refusal
returns-in_err-inputs-clause-refusal c =
    let a = c.args in
    let p = err_from_is_err_and c.from_residual.result c.from_residual.ensures.1 in
    let told = c.in_err-inputs.ensures.err c.in_err-inputs.field-0.0 refl in
    rw (p.1, p.2, told.0) (refuses-1 a.n a.t.now a.room told.1)

pub returns-then-t-table_bytes-clause-refusal : goal.returns-then-t-table_bytes-clause-refusal
returns-then-t-table_bytes-clause-refusal c =
    let a = c.args in
    let within : a.n ≤ 9 = omega (arith, c.in_ok-inputs.ensures.ok) in
    let the-length : c.table_bytes.result ≡ table_bytes a.n =
    c.table_bytes.ensures ∙ length-within a.n within
    in
    refuses-2 a.n a.t.now a.room within (λ e. c.if-t-table_bytes.true (e ∙ sym (the-length)))

pub returns-then-padding-ne0-clause-refusal : goal.returns-then-padding-ne0-clause-refusal
returns-then-padding-ne0-clause-refusal c =
    let a = c.args in
    let within : a.n ≤ 9 = omega (arith, c.in_ok-inputs.ensures.ok) in
    let right-length = fits a.n a.t.now c.table_bytes.result within c.if-t-table_bytes.false c.table_bytes.ensures in
    refuses-3 a.n a.t.now a.room within right-length (λ e. c.if-padding-ne0.true (c.padding.ensures ∙ e))

pub returns-then-room-lt-BLOCK_BYTES-clause-refusal : goal.returns-then-room-lt-BLOCK_BYTES-clause-refusal
returns-then-room-lt-BLOCK_BYTES-clause-refusal c =
    let a = c.args in
    let within : a.n ≤ 9 = omega (arith, c.in_ok-inputs.ensures.ok) in
    let right-length = fits a.n a.t.now c.table_bytes.result within c.if-t-table_bytes.false c.table_bytes.ensures in
    refuses-5 a.n a.t.now a.room within right-length
    (sym c.padding.ensures ∙ c.if-padding-ne0.false) (omega arith)

pub returns-clause-refusal : goal.returns-clause-refusal
returns-clause-refusal c =
    let a = c.args in
    let within : a.n ≤ 9 = omega (arith, c.in_ok-inputs.ensures.ok) in
    let right-length = fits a.n a.t.now c.table_bytes.result within c.if-t-table_bytes.false c.table_bytes.ensures in
    passes a.n a.t.now a.room within right-length
    (sym c.padding.ensures ∙ c.if-padding-ne0.false) (omega arith)
