-- `rows::key_of` meets its contract. The invariant: the key of the variables from v on. Assumes nothing.
use mathlib.Core.Path.{◌≡◌, ap, ◌∙◌}
use Prim.Native.Nat.{ℕ, ◌+◌, ◌-◌, ◌*◌, ◌/◌}
use native.Mathlib.Omega.{arith}
use borrow.Author.Tests.{eq-eqb, ne_eqb}
use lib.ListN.{take}
use Rattle.bits.specs.Bits.{bit, has, joined}
use Rattle.rows.proofs.KeyLaws.{padded, key-with, key-without, key-lt, key-start, key-all}
use Rattle.rows.proofs.key_of.Goals as goal

pub loop-v-init : goal.loop-v-init
loop-v-init c = record { fits = omega arith; looked = key-start c.args.set }

pub loop-v-preserved-then-set-v-eq1 : goal.loop-v-preserved-then-set-v-eq1
unfolding has
loop-v-preserved-then-set-v-eq1 c =
    let set = c.args.set in
    let v = c.loop-v.v in
    let k = 9 - v in
    let here : v - 1 ≡ 8 - k = omega arith in
    let next : 9 - (v - 1) ≡ k + 1 = omega arith in
    let has_it = rw here at c.if-set-v-eq1.true in
    let bits : (8 - k) * 4096 + c.loop-v.key / 16 ≡ joined 0 (take 4 (padded (k + 1) set)) =
    ap (λ (x : ℕ). (8 - k) * 4096 + x / 16) c.loop-v.invariant.looked
    ∙ key-with set k (omega arith) (eq-eqb (bit set (8 - k)) 1 has_it) in
    rw (next, here) (record { fits = rw bits (key-lt set (k + 1) (omega arith)); looked = bits })

pub loop-v-preserved : goal.loop-v-preserved
unfolding has
loop-v-preserved c =
    let set = c.args.set in
    let v = c.loop-v.v in
    let k = 9 - v in
    let here : v - 1 ≡ 8 - k = omega arith in
    let next : 9 - (v - 1) ≡ k + 1 = omega arith in
    let has_not = rw here at c.if-set-v-eq1.false in
    rw next
    (record {
      fits = c.loop-v.invariant.fits;
      looked =
          c.loop-v.invariant.looked
          ∙ key-without set k (omega arith) (ne_eqb (bit set (8 - k)) 1 has_not);
    })

pub returns : goal.returns
returns c =
    let done : 9 - c.loop-v.v ≡ 9 = omega arith in
    c.loop-v.invariant.looked ∙ rw done (key-all c.args.set)
