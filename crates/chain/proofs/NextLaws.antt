-- A record that may come next after a number pair is one that is not refused there. Assumes nothing.
use mathlib.Core.Path.{◌≡◌}
use mathlib.Core.Bool.{true, false, ◌||◌}
use mathlib.Core.List.{List}
use Prim.Native.Nat.{ℕ}
use native.Mathlib.Omega.{arith}
use lib.Dec.{eqb, ltb}
use lib.ListN.{length}
use borrow.Author.Tests.{ltb-false, eqb-false, le-ltb, ne_eqb}
use Rattle.bits.proofs.TestLaws.{either-false}
use Rattle.codec.specs.Order.{before}
use Rattle.codec.specs.Check.{check_refusal}
use Rattle.codec.proofs.CheckLaws.{accepted-of-none, none-of-accepted}
use Rattle.bits.specs.Bits.{Bytes}
use Rattle.record.specs.Record.{Record, most_craft, most_block, record_bytes, lay_out, record_of, key_of}
use Rattle.record.specs.Fault.{unassigned, record_refusal}
use Rattle.record.proofs.RecordLaws.{accepted-parts}
use Rattle.record.proofs.LayoutLaws.{lay_out-length, record_of-lay_out}
use Rattle.chain.specs.Rules.{Ruled}

-- an allowed record above the pair
pub record Next (last : List ℕ) (r : Record) : Type 0 where
  pub ruled : Ruled r
  pub above : before last (key_of r) ≡ true

pub next-of-none : (last : List ℕ) (r : Record) → Bytes r.ten → record_refusal last r ≡ 0
    → Next last r
next-of-none last r bytes e =
    let parts = accepted-parts last r e in
    let above_most = ltb most_craft r.craft || ltb most_block r.block in
    let numbers = either-false (eqb r.craft 0) above_most parts.0 in
    let fits = either-false (ltb most_craft r.craft) (ltb most_block r.block) numbers.1 in
    let some = eqb-false r.craft 0 numbers.0 in
    record {
      ruled =
          record {
            assigned = omega arith;
            craft-fits = ltb-false most_craft r.craft fits.0;
            block-fits = ltb-false most_block r.block fits.1;
            accepted = accepted-of-none r.n r.ten parts.2;
            bytes = bytes;
          };
      above = parts.1;
    }

pub ruled-assigned : (r : Record) → Ruled r → unassigned r.craft r.block ≡ false
ruled-assigned r ruled =
    let some : r.craft ≡ 0 → ⊥ = λ e. let above-0 = ruled.assigned in omega arith in
    rw (
      ne_eqb r.craft 0 some,
      le-ltb most_craft r.craft ruled.craft-fits,
      le-ltb most_block r.block ruled.block-fits,
    )

pub none-of-next : (last : List ℕ) (r : Record) → Next last r → record_refusal last r ≡ 0
unfolding record_refusal check_refusal
none-of-next last r next =
    rw (ruled-assigned r next.ruled, next.above)
    (none-of-accepted r.n r.ten next.ruled.accepted)

-- an allowed record has all its bytes and is the record in them
module _ (r : Record) (ruled : Ruled r) where
  pub ruled-length : length (lay_out r) ≡ record_bytes
  ruled-length = lay_out-length r ruled.accepted.ten

  pub ruled-again : record_of (lay_out r) ≡ r
  ruled-again =
      let within = ruled.accepted.within in
      record_of-lay_out r ruled.craft-fits ruled.block-fits (omega arith)
