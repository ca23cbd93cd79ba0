-- What each test before appending decides of the answer. Assumes nothing.
use Rattle.std.specs.Prelude.{Err, Ok}
use Rattle.record.specs.declared.Refused.{Refused}
use Rattle.record.specs.Told.{refused}
use mathlib.Core.Path.{◌≡◌, sym}
use mathlib.Core.Bool.{true, false}
use mathlib.Core.List.{List, [], ◌∷◌}
use Prim.Native.Nat.{ℕ, ◌-◌, ◌≤◌, ◌<◌}
use lib.ListN.{length, take}
use borrow.Author.Tests.{lt-ltb, le-ltb}
use Rattle.block.specs.declared.Refusal.TheVariants.{WrongLength, NoRoom}
use Rattle.block.specs.Refusal.{◌when◌}
use Rattle.record.specs.Record.{Record}
use Rattle.record.specs.Fault.{record_refusal, Fault, fine, at, whole, ◌then◌}
use Rattle.record.specs.Told.{fault_of}
use Rattle.record.proofs.ToldLaws.{refusal-told, fault-stops, then-fine, fault-judged, fine-judged}
use Rattle.records.specs.Sheet.{records_of, last_key}
use Rattle.records.specs.Check.{sheet_fault, Counts}
use Rattle.records.proofs.BoundLaws.{counted}
use Rattle.append.specs.Append.{no_room, new_fault, append_fault}

-- the new record's own fault, at the place after those that are there
abbrev pub own_fault : (rs : List Record) (r : Record) → Fault
own_fault rs r = at (record_refusal (last_key [] rs) r) (length rs)

module _ (s : List ℕ) (used : ℕ) (r : Record) where
  -- the used part goes beyond the bytes
  pub refuses-used : length s < used → fault_of (refused WrongLength 0) ≡ append_fault s used r
  unfolding append_fault
  refuses-used short = rw (lt-ltb _ _ short)

  module _ (within : used ≤ length s) where
    leaves-sheet : append_fault s used r
        ≡ (sheet_fault (take used s) then new_fault (length s - used) (records_of (take used s)) r)
    unfolding append_fault
    leaves-sheet = rw (le-ltb _ _ within)

    -- it is no sheet
    pub refuses-sheet : (k : Refused) → Counts (take used s) (Err k) → fault_of k ≡ append_fault s used r
    refuses-sheet k e =
        sym (rw leaves-sheet
        (fault-stops k (sheet_fault (take used s)) _ (sym (refusal-told k (sheet_fault (take used s)) _ e))))

    -- it is one, of so many records, and this is the pair of the last
    module _ (count : ℕ) (e : Counts (take used s) (Ok count)) (key : List ℕ)
        (last : key ≡ last_key [] (records_of (take used s))) where
      leaves-new : append_fault s used r
          ≡ (at (record_refusal key r) count then whole (5 when no_room (length s - used) count ∷ []))
      unfolding new_fault
      leaves-new =
          let sheet = counted (take used s) count e in
          rw (leaves-sheet, then-fine (sheet_fault (take used s)) _ sheet.0, last, sheet.1)

      -- the new record has a fault
      pub refuses-new : (k : Refused) → fault_of k ≡ (at (record_refusal key r) count then fine)
          → fault_of k ≡ append_fault s used r
      refuses-new k judged =
          sym (rw leaves-new (fault-stops k _ _ (sym (fault-judged k (at (record_refusal key r) count) judged))))

      -- it has none: the room decides
      module _ (judged : fine ≡ (at (record_refusal key r) count then fine)) where
        pub leaves-room : append_fault s used r ≡ whole (5 when no_room (length s - used) count ∷ [])
        leaves-room = rw leaves-new (then-fine _ _ (fine-judged (at (record_refusal key r) count) judged))

        pub refuses-room : true ≡ no_room (length s - used) count → fault_of (refused NoRoom 0) ≡ append_fault s used r
        refuses-room full = rw (leaves-room, ← full)

        pub accepts : false ≡ no_room (length s - used) count → (append_fault s used r).number ≡ 0
        accepts free = rw (leaves-room, ← free)
