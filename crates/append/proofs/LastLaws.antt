-- The pair of a sheet's last record. Assumes nothing.
use mathlib.Core.Path.{◌≡◌, sym, ap, ◌∙◌}
use mathlib.Core.List.{List, []}
use Prim.Native.Nat.{ℕ, ◌-◌, ◌/◌, ◌%◌, ◌≤◌, ◌<◌}
use native.Mathlib.Omega.{arith}
use lib.ListN.{length, drop, length-drop}
use lib.Seq.{take_all}
use Rattle.record.specs.declared.Numbers.{Numbers}
use Rattle.record.specs.Record.{record_bytes, pair_of}
use Rattle.record.specs.Answers.{Numbered}
use Rattle.records.specs.Sheet.{records_of, last_key}
use Rattle.records.proofs.SheetLaws.{records-last}

-- where there is no record, none
pub none-last : (s : List ℕ) → length s < record_bytes → last_key [] (records_of s) ≡ []
unfolding records_of
none-last s short =
    let none : length s / record_bytes ≡ 0 = omega (arith, short) in rw none

-- else the pair in the last bytes, so many as a record has
pub read-last : (s : List ℕ) (x : Numbers) → record_bytes ≤ length s → length s % record_bytes ≡ 0
    → Numbered (drop (length s - record_bytes) s) x
    → last_key [] (records_of s) ≡ pair_of x.craft x.block
read-last s x some divided numbers =
    let back = drop (length s - record_bytes) s in
    let long : length back ≡ record_bytes = length-drop (length s - record_bytes) s ∙ omega arith in
    rw (take_all record_bytes back (omega (arith, long))) at (records-last [] s some divided)
    ∙ ap (λ (y : Numbers). pair_of y.craft y.block) (sym numbers)
