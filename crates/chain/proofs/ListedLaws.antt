-- A sheet is accepted exactly if its records are a list that the rules allow, and it is that list's
-- bytes; no two lists have the same. Assumes nothing.
use mathlib.Core.Path.{◌≡◌, sym, ap, ◌∙◌}
use mathlib.Core.List.{List, []}
use Prim.Native.Nat.{ℕ, ◌*◌, ◌/◌}
use native.Mathlib.Omega.{arith}
use lib.ListN.{length}
use Rattle.bits.specs.Bits.{Bytes}
use Rattle.record.specs.Record.{Record, record_bytes}
use Rattle.records.specs.Sheet.{records_of, sheet_of}
use Rattle.records.specs.Check.{sheet_fault}
use Rattle.records.proofs.BoundLaws.{accepted-length, accepted-records, records-few, accepted-of}
use Rattle.chain.specs.Rules.{Listed, SheetOf}
use Rattle.chain.proofs.FollowsLaws.{Follows, follows-of-none, none-of-follows}
use Rattle.chain.proofs.FollowsLaws.{listed-of-follows, follows-of-listed}
use Rattle.chain.proofs.BytesLaws.{records-bytes, sheet_of-in, sheet_of-length, in-sheet_of}

-- an accepted sheet
module _ (s : List ℕ) (bytes : Bytes s) (accepted : (sheet_fault s).number ≡ 0) where
  pub follows-of-accepted : Follows [] (records_of s)
  follows-of-accepted =
      follows-of-none [] 0 (records_of s) (records-bytes s bytes) (accepted-records s accepted)

  pub listed-of-accepted : Listed (records_of s)
  listed-of-accepted = listed-of-follows (records_of s) follows-of-accepted (records-few s accepted)

  pub sheet_of-records_of : sheet_of (records_of s) ≡ s
  unfolding records_of
  sheet_of-records_of =
      let multiple = (accepted-length s accepted).multiple in
      sheet_of-in (length s / record_bytes) s (omega arith) bytes

-- a list that the rules allow
module _ (rs : List Record) (listed : Listed rs) where
  pub sheet-length : length (sheet_of rs) ≡ length rs * record_bytes
  sheet-length = sheet_of-length [] rs (follows-of-listed rs listed)

  pub records_of-sheet_of : records_of (sheet_of rs) ≡ rs
  unfolding records_of
  records_of-sheet_of =
      let long = sheet-length in
      let count : length (sheet_of rs) / record_bytes ≡ length rs = omega arith in
      rw count (in-sheet_of [] rs (follows-of-listed rs listed))

  pub accepted-of-listed : (sheet_fault (sheet_of rs)).number ≡ 0
  accepted-of-listed =
      let long = sheet-length in
      let few = listed.few in
      accepted-of (sheet_of rs) (record { multiple = omega arith; most = omega arith })
      (rw records_of-sheet_of (none-of-follows [] 0 rs (follows-of-listed rs listed)))

pub one_list : (rs qs : List Record) → Listed rs → Listed qs → sheet_of rs ≡ sheet_of qs → rs ≡ qs
one_list rs qs p q e = sym (records_of-sheet_of rs p) ∙ ap records_of e ∙ records_of-sheet_of qs q

-- accepted exactly if the rules hold, and then of exactly one list
pub accepted-sheet : (s : List ℕ) → Bytes s → (sheet_fault s).number ≡ 0 → SheetOf s (records_of s)
accepted-sheet s bytes accepted =
    record {
      listed = listed-of-accepted s bytes accepted;
      bytes = sym (sheet_of-records_of s bytes accepted);
    }

pub sheet-accepted : (s : List ℕ) (rs : List Record) → SheetOf s rs → (sheet_fault s).number ≡ 0
sheet-accepted s rs is = rw is.bytes (accepted-of-listed rs is.listed)

pub sheet-one : (s : List ℕ) (rs qs : List Record) → SheetOf s rs → SheetOf s qs → rs ≡ qs
sheet-one s rs qs p q = one_list rs qs p.listed q.listed (sym p.bytes ∙ q.bytes)
