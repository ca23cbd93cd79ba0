-- What finding in a listed sheet hands back is the record's own ten bytes, and what is copied out is
-- the record as it is laid out. Assumes nothing.
use Rattle.std.specs.Prelude.{Err}
use Rattle.record.specs.Told.{refused}
use mathlib.Core.Path.{◌≡◌, sym, ap, ◌∙◌}
use mathlib.Core.Bool.{false}
use mathlib.Core.List.{List, [], ◌++◌}
use Prim.Native.Nat.{ℕ, ◌+◌, ◌-◌, ◌*◌, ◌<◌, ◌≤◌}
use native.Mathlib.Omega.{arith}
use borrow.Author.Tests.{lt-leb, le-ltb}
use lib.ListN.{length, get_or, take, drop, length-drop}
use lib.Seq.{take-add, drop_at, drop-drop, length-take-le}
use denote.Ref.{Bor}
use Rattle.block.specs.declared.Refusal.TheVariants.{NotThere}
use Rattle.codec.specs.Ten.{block_bytes}
use Rattle.record.specs.Record.{Record, header_bytes, record_bytes, lay_out, record_of, zero_record, key_of}
use Rattle.record.specs.Record.{has_key}
use Rattle.record.proofs.ToldLaws.{fine_of, told-number}
use Rattle.records.specs.Sheet.{sheet_of, bytes_at}
use Rattle.finding.specs.Find.{place_of, find_fault, Finds}
use Rattle.finding.specs.Read.{read_fault, copy_fault, copied_into}
use Rattle.chain.specs.Rules.{Listed}
use Rattle.chain.proofs.NextLaws.{ruled-length, ruled-again}
use Rattle.chain.proofs.FollowsLaws.{follows-of-listed}
use Rattle.chain.proofs.BytesLaws.{sheet_of-at}
use Rattle.chain.proofs.ListedLaws.{sheet-length, records_of-sheet_of, accepted-of-listed}
use Rattle.chain.proofs.ReadingLaws.{finds-listed, finds-absent}

-- the ten bytes of a record as a part of the sheet
ten-part : (s : List ℕ) (a : ℕ) → a + record_bytes ≤ length s
    → take block_bytes (drop (a + header_bytes) s) ≡ drop header_bytes (take record_bytes (drop a s))
ten-part s a within =
    let rest = drop a s in
    let long : length rest ≡ length s - a = length-drop a s in
    let front = length-take-le header_bytes rest (omega arith) in
    let back = drop_at (take header_bytes rest) (take block_bytes (drop header_bytes rest)) header_bytes front in
    rw (take-add header_bytes block_bytes rest, back, drop-drop header_bytes a s)

module _ (rs : List Record) (listed : Listed rs) where
  laid-at : (i : ℕ) → i < length rs
      → bytes_at (sheet_of rs) i ≡ lay_out (get_or rs i zero_record)
  laid-at = sheet_of-at [] rs (follows-of-listed rs listed)

  ten-at : (i : ℕ) → i < length rs
      → take block_bytes (drop (i * record_bytes + header_bytes) (sheet_of rs)) ≡ (get_or rs i zero_record).ten
  unfolding record_of
  ten-at i l =
      let long = sheet-length rs listed in
      let again = ruled-again (get_or rs i zero_record) (listed.each i l) in
      ten-part (sheet_of rs) (i * record_bytes) (omega arith)
      ∙ ap (drop header_bytes) (laid-at i l)
      ∙ ap (λ (r : Record). r.ten) again

  module _ (s r : Bor (List ℕ)) (is : s.now ≡ sheet_of rs) where
    pub finds-ten : (i : ℕ) → i < length rs → Finds s (key_of (get_or rs i zero_record)) r
        → (r.now ≡ (get_or rs i zero_record).ten)
        × (r.ref_ptr.1 ≡ s.ref_ptr.1 + (i * record_bytes + header_bytes))
    finds-ten i l finds =
        let key = key_of (get_or rs i zero_record) in
        let found : ((find_fault s.now key).number ≡ 0) × (i ≡ place_of s.now key) =
        rw is
        (fine_of (find_fault (sheet_of rs) key) i 0 (place_of (sheet_of rs) key)
        (sym (finds-listed rs listed i l))) in
        let bytes = rw (found.0, ← found.1, is) at finds.part.bytes in
        let offset = rw (found.0, ← found.1) at finds.part.offset in
        (bytes ∙ ten-at i l, offset)

    pub finds-nothing : (key : List ℕ)
        → ((i : ℕ) → i < length rs → has_key key (get_or rs i zero_record) ≡ false)
        → Finds s key r → r.now ≡ []
    finds-nothing key none finds =
        let refused : 12 ≡ (find_fault s.now key).number =
        rw is
        (told-number (Err (refused NotThere 0)) (find_fault (sheet_of rs) key) (place_of (sheet_of rs) key)
        (sym (finds-absent rs listed key none))) in
        rw (← refused) at finds.part.bytes

  pub copies-listed : (i : ℕ) → i < length rs → (before : List ℕ) → record_bytes ≤ length before
      → copied_into (sheet_of rs) i before
      ≡ lay_out (get_or rs i zero_record) ++ drop record_bytes before
  unfolding copy_fault read_fault
  copies-listed i l before room =
      rw (
        accepted-of-listed rs listed,
        records_of-sheet_of rs listed,
        lt-leb (length rs) i l,
        le-ltb (length before) record_bytes room,
        laid-at i l,
        ruled-length (get_or rs i zero_record) (listed.each i l),
      )
