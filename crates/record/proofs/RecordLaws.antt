-- A record's refusal, test by test, and number pairs, number by number. Assumes nothing.
use Rattle.std.specs.Prelude.{Result, Option}
use Rattle.block.specs.declared.Refusal.{Refusal}
use Rattle.record.specs.declared.Refused.{Refused}
use Rattle.block.specs.declared.Parts.{Parts}
use mathlib.Core.Path.{◌≡◌, refl, sym, ap, ◌∙◌}
use mathlib.Core.Bool.{true, false}
use mathlib.Core.List.{List, []}
use Prim.Native.Nat.{ℕ, zero, suc}
use native.Mathlib.Omega.{arith}
use lib.ListN.{length, drop}
use borrow.Author.Tests.{lt-ltb, not-false}
use Rattle.block.specs.Block.{Block}
use Rattle.block.specs.Code.{zero_block}
use Rattle.block.specs.Answer.{Answer}
use Rattle.block.proofs.RefusalLaws.{pick-zero}
use Rattle.block.proofs.AnswerLaws.{answered-number}
use Rattle.codec.specs.Ten.{block_bytes, unpack_of}
use Rattle.codec.specs.Order.{before}
use Rattle.codec.specs.Check.{check_refusal, check_cases}
use Rattle.block.specs.Refusal.{first_of}
use Rattle.codec.specs.Answers.{unpacked_of, unpack_answer, Unpacks}
use Rattle.codec.proofs.CheckLaws.{accepted-of-none}
use Rattle.record.specs.declared.Numbers.{Numbers}
use Rattle.record.specs.declared.Pair.{Pair}
use Rattle.record.specs.Record.{Record, header_bytes, record_of, record_with, pair_of, key_of}
use Rattle.record.specs.Fault.{unassigned, not_above, record_refusal}
use Rattle.record.specs.Answers.{Numbered, Judges}
use Rattle.record.proofs.ToldLaws.{same-judged}

pub refuses-10 : (last : List ℕ) (r : Record) → true ≡ unassigned r.craft r.block → 10 ≡ record_refusal last r
unfolding record_refusal
refuses-10 last r e = rw (← e)

-- a record that is not refused has none of the faults
pub accepted-parts : (last : List ℕ) (r : Record) → record_refusal last r ≡ 0
    → (unassigned r.craft r.block ≡ false)
    × (before last (key_of r) ≡ true)
    × (check_refusal r.n r.ten ≡ 0)
unfolding record_refusal check_refusal
accepted-parts last r none =
    let assigned = pick-zero (unassigned r.craft r.block) 9 _ none in
    let above = pick-zero (not_above last r) 10 _ assigned.1 in
    (assigned.0, not-false (before last (key_of r)) above.0, above.1)

pub accepted-ten : (last : List ℕ) (r : Record) → record_refusal last r ≡ 0 → length r.ten ≡ block_bytes
accepted-ten last r none = (accepted-of-none r.n r.ten (accepted-parts last r none).2).ten

-- the pair 0, 0 is before every record's that can be there, as no pair is
pub none_before : (r : Record) → record_refusal [] r ≡ record_refusal (pair_of 0 0) r
unfolding record_refusal
none_before r = at-craft r.craft refl
  where
    at-craft : (craft : ℕ) → r.craft ≡ craft → record_refusal [] r ≡ record_refusal (pair_of 0 0) r
    at-craft zero e = rw e
    at-craft (suc craft) e = rw (e, lt-ltb 0 (suc craft) (omega arith))

-- unpacking is refused as checking is
pub unpacked_number : (n : ℕ) (ten : List ℕ) (u : Result Parts Refusal) → Unpacks n ten u
    → (unpacked_of u).number ≡ first_of (check_cases n ten)
unfolding unpack_answer check_refusal
unpacked_number n ten u e =
    ap (λ (a : Answer Block). a.number) e ∙ answered-number (check_refusal n ten) zero_block (unpack_of ten)

-- the numbers and the ten bytes behind them make the record
pub numbered-record : (s : List ℕ) (x : Numbers) → Numbered s x
    → record_with x (drop header_bytes s) ≡ record_of s
unfolding record_of
numbered-record s x e = rw e

-- one answer
pub judges-unique : (last : Option Pair) (x : Numbers) (ten : List ℕ) (place : ℕ) (r q : Result (Unit {0}) Refused)
    → Judges last x ten place r → Judges last x ten place q → r ≡ q
judges-unique last x ten place r q e e' = same-judged r q (e ∙ sym e')
