-- Of a sheet, 2 is given for its own length alone: a record in its bytes has its ten. Assumes nothing.
use mathlib.Core.Path.{◌≡◌, refl}
use mathlib.Core.Bool.{Bool, true, false, not, ◌&&◌}
use mathlib.Core.List.{List, [], ◌∷◌}
use Prim.Native.Nat.{ℕ, suc, suc-le-suc, ◌*◌, ◌/◌, ◌<◌, ◌≤◌}
use native.Mathlib.Nat.{zero-lt-suc}
use native.Mathlib.Omega.{arith}
use lib.Dec.{eqb}
use lib.ListN.{length, get_or, drop, length-drop}
use lib.Seq.{length-take-le}
use borrow.Author.Tests.{eqb-false, eq-eqb, not-true}
use Rattle.bits.specs.Tests.{pick}
use Rattle.bits.proofs.TestLaws.{both_left, both_right}
use Rattle.block.specs.Refusal.{Case, ◌when◌, first_of, too_many_inputs, stray_field, out_of_order, open_row_set}
use Rattle.codec.specs.Ten.{block_bytes, unpack_of}
use Rattle.codec.specs.Check.{last_bits_set}
use Rattle.record.specs.Record.{Record, header_bytes, record_bytes, record_of, key_of, zero_record}
use Rattle.record.specs.Fault.{unassigned, not_above, record_refusal, at}
use Rattle.record.proofs.ToldLaws.{then-cases}
use Rattle.records.specs.Sheet.{records_of, bytes_at}
use Rattle.records.specs.Check.{wrong_length, first_fault, sheet_fault}
use Rattle.records.proofs.SheetLaws.{records-length, records-at}

-- no case gives the number
abbrev lacks : (k : ℕ) (cases : List Case) → Bool
lacks k [] = true
lacks k ((number when fault) ∷ cases) = not (eqb number k) && lacks k cases

pick_other : (k : ℕ) (fault : Bool) (number other : ℕ) → (number ≡ k → ⊥) → (other ≡ k → ⊥)
    → pick fault number other ≡ k → ⊥
pick_other k true number other p q e = p e
pick_other k false number other p q e = q e

lacks-first : (k : ℕ) (cases : List Case) → 0 < k → lacks k cases ≡ true → first_of cases ≡ k → ⊥
lacks-first k [] l h e = omega arith
lacks-first k ((number when fault) ∷ cases) l h e =
    let differs = not-true (eqb number k) (both_left (not (eqb number k)) (lacks k cases) h) in
    let rest = both_right (not (eqb number k)) (lacks k cases) h in
    pick_other k fault number (first_of cases) (eqb-false number k differs) (lacks-first k cases l rest) e

never-record : (last : List ℕ) (r : Record) → length r.ten ≡ block_bytes → record_refusal last r ≡ 2 → ⊥
unfolding record_refusal
never-record last r ten e =
    lacks-first 2
    (10 when unassigned r.craft r.block
    ∷ 11 when not_above last r
    ∷ 1 when too_many_inputs r.n
    ∷ 6 when stray_field r.n (unpack_of r.ten)
    ∷ 7 when out_of_order (unpack_of r.ten)
    ∷ 8 when open_row_set (unpack_of r.ten)
    ∷ 9 when last_bits_set r.ten
    ∷ [])
    (omega arith) refl (rw (eq-eqb (length r.ten) block_bytes ten) at e)

never_first : (last : List ℕ) (p : ℕ) (rs : List Record)
    → ((i : ℕ) → i < length rs → length (get_or rs i zero_record).ten ≡ block_bytes)
    → (first_fault last p rs).number ≡ 2 → ⊥
unfolding first_fault
never_first last p [] ten e = omega arith
never_first last p (r ∷ rs) ten e =
    then-cases (λ f. f.number ≡ 2 → ⊥) (at (record_refusal last r) p) (first_fault (key_of r) (suc p) rs)
    (λ some. never-record last r (ten 0 (zero-lt-suc (length rs))))
    (λ none. never_first (key_of r) (suc p) rs (λ i l. ten (suc i) (suc-le-suc l))) e

-- the bytes at a place are all there
pub records-ten : (s : List ℕ) (i : ℕ) → i < length (records_of s)
    → length (get_or (records_of s) i zero_record).ten ≡ block_bytes
unfolding record_of
records-ten s i l =
    let before-end : i < length s / record_bytes = rw (records-length s) at l in
    let left : record_bytes ≤ length (drop (i * record_bytes) s) =
    rw (length-drop (i * record_bytes) s) (omega arith) in
    rw (
      records-at s i zero_record before-end,
      length-drop header_bytes (bytes_at s i),
      length-take-le record_bytes (drop (i * record_bytes) s) left,
    )

pub never-2 : (s : List ℕ) → (sheet_fault s).number ≡ 2 → wrong_length (length s) ≡ true
unfolding sheet_fault
never-2 s e = at_length (wrong_length (length s)) refl
  where
    at_length : (wrong : Bool) → wrong_length (length s) ≡ wrong → wrong_length (length s) ≡ true
    at_length true w = w
    at_length false w = absurd (never_first [] 0 (records_of s) (records-ten s) (rw w at e))
