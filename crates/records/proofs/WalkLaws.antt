-- A walk over a sheet's records: what is left decides the whole. Assumes nothing.
use Rattle.std.specs.Prelude.{Some}
use Rattle.std.proofs.lemmas.List.{take_at, drop_at}
use mathlib.Core.Path.{◌≡◌, sym}
use mathlib.Core.Bool.{true, false}
use mathlib.Core.List.{List, [], ◌∷◌, ◌++◌}
use Prim.Native.Nat.{ℕ, suc, ◌+◌, ◌/◌, ◌<◌}
use native.Mathlib.Numerals.{add-one}
use native.Mathlib.Omega.{arith}
use lib.ListN.{length, drop, length-append}
use Rattle.block.specs.Answer.{answer}
use Rattle.record.specs.declared.Refused.{Refused}
use Rattle.record.specs.declared.Pair.{Pair}
use Rattle.record.specs.declared.Numbers.{Numbers}
use Rattle.record.specs.Record.{header_bytes, record_bytes, record_of, record_with, pair_in, key_before}
use Rattle.record.specs.Fault.{record_refusal, at, fine, ◌then◌}
use Rattle.record.specs.Told.{placed, fault_of}
use Rattle.record.specs.Answers.{Numbered}
use Rattle.record.proofs.RecordLaws.{numbered-record}
use Rattle.record.proofs.ToldLaws.{fault-stops, fine-judged, fault-judged}
use Rattle.records.specs.Sheet.{records_of}
use Rattle.records.specs.Check.{wrong_length, first_fault, sheet_fault, sheet_answer, Follows}

pub refuses-length : (s : List ℕ) → true ≡ wrong_length (length s) → answer 2 (placed 0 0) ≡ sheet_answer s
unfolding sheet_fault
refuses-length s wrong = rw (← wrong)

-- a sheet of a right length: its records decide
pub right_walked : (s : List ℕ) → false ≡ wrong_length (length s) → sheet_fault s ≡ first_fault [] 0 (records_of s)
unfolding sheet_fault
right_walked s right = rw (← right)

-- fewer bytes than a record's hold none
pub records_short : (s : List ℕ) → length s < record_bytes → records_of s ≡ []
unfolding records_of
records_short s short = let none : length s / record_bytes ≡ 0 = omega (arith, short) in rw none

-- a record's bytes, and what follows them
pub records_next : (x s : List ℕ) → length x ≡ record_bytes → records_of (x ++ s) ≡ record_of x ∷ records_of s
unfolding records_of
records_next x s l =
    let more : length (x ++ s) / record_bytes ≡ suc (length s / record_bytes) = omega (arith, length-append x s, l) in
    rw (more, take_at x s record_bytes l, drop_at x s record_bytes l)

module _ (last : List ℕ) (place : ℕ) (before bytes after : List ℕ) (cut : before ≡ bytes ++ after)
    (long : length bytes ≡ record_bytes) where
  -- a record without a fault: the rest decides
  pub walked_on : (x : Pair) → Follows last (record_of bytes) x
      → first_fault last place (records_of before) ≡ first_fault (key_before (Some x)) (place + 1) (records_of after)
  unfolding first_fault
  walked_on x follows = rw (cut, records_next bytes after long, follows.none, follows.pair, add-one place)

  -- the first fault decides
  pub walked_stop : (r : Refused) → fault_of r ≡ at (record_refusal last (record_of bytes)) place
      → first_fault last place (records_of before) ≡ fault_of r
  unfolding first_fault
  walked_stop r found =
      rw (cut, records_next bytes after long) (fault-stops r _ _ found)

-- a record judged by its numbers and the ten bytes behind them
module _ (last : List ℕ) (s : List ℕ) (x : Numbers) (numbered : Numbered s x) (place : ℕ) where
  pub follows-judged : fine ≡ (at (record_refusal last (record_with x (drop header_bytes s))) place then fine)
      → Follows last (record_of s) (pair_in x)
  unfolding record_of
  follows-judged e =
      record {
        none = fine-judged _ (rw (numbered-record s x numbered) at e);
        pair = rw numbered;
      }

  pub stops-judged : (r : Refused) → fault_of r ≡ (at (record_refusal last (record_with x (drop header_bytes s))) place then fine)
      → fault_of r ≡ at (record_refusal last (record_of s)) place
  stops-judged r e = sym (fault-judged r _ (rw (numbered-record s x numbered) at e))

-- no record is left
pub walked_end : (last : List ℕ) (place : ℕ) (rest : List ℕ) → length rest < record_bytes
    → first_fault last place (records_of rest) ≡ fine
unfolding first_fault
walked_end last place rest short = rw (records_short rest short)
