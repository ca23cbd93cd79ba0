-- A length in use that was told is within the sheet, and what was in use before it is as it was.
-- Assumes nothing.
use Rattle.std.specs.Prelude.{Ok}
use mathlib.Core.Path.{◌≡◌}
use mathlib.Core.List.{List, ◌++◌}
use Prim.Native.Nat.{ℕ, ◌+◌, ◌≤◌}
use native.Mathlib.Omega.{arith}
use lib.ListN.{length, take, drop}
use lib.Seq.{length-take-le, take_at}
use Rattle.words.specs.Text.{content_of}
use Rattle.blif.specs.Part.{inputs_of}
use Rattle.blif.specs.Cover.{cover_table}
use Rattle.record.specs.Record.{Record, record_bytes, lay_out, offered}
use Rattle.record.proofs.ToldLaws.{fine_of}
use Rattle.record.proofs.RecordLaws.{accepted-ten}
use Rattle.record.proofs.LayoutLaws.{lay_out-length}
use Rattle.append.specs.Append.{append_fault, appended, Appends}
use Rattle.append.proofs.AppendLaws.{Fine, append-fine}
use Rattle.append.proofs.AppendedLaws.{appended-length}
use Rattle.filing.specs.Table.{FilesTable}
use Rattle.filing.specs.Cover.{FilesCover}
use Rattle.filing.proofs.FilingLaws.{files-appended, cover-table}

module _ (s : List ℕ) (used : ℕ) (r : Record) (after : List ℕ) (longer : ℕ)
    (given : Appends s used r after (Ok longer)) where
  succeeded : ((append_fault s used r).number ≡ 0) × (longer ≡ used + record_bytes)
  succeeded = fine_of (append_fault s used r) longer 0 (used + record_bytes) given.answer

  fine : Fine s used r
  fine = append-fine s used r succeeded.0

  now-is : after ≡ appended 0 s used r
  now-is = rw succeeded.0 at given.kept

  pub appends-within : longer ≤ length after
  appends-within =
      let laid = lay_out-length r (accepted-ten _ r fine.new) in
      rw (now-is, appended-length s used r fine.room laid, succeeded.1) fine.room

  pub appends-front : take used after ≡ take used s
  appends-front =
      let room = fine.room in
      rw now-is
      (take_at (take used s) (lay_out r ++ drop (used + record_bytes) s) used
      (length-take-le used s (omega arith)))

pub files-table-within : (s : List ℕ) (used craft block n : ℕ) (t after : List ℕ) (longer : ℕ)
    → FilesTable s used craft block n t after (Ok longer) → longer ≤ length after
files-table-within s used craft block n t after longer f =
    let found = files-appended s used craft block n t after longer f in
    appends-within s used (offered craft block n found.ten) after longer found.appends

pub files-cover-within : (s : List ℕ) (used craft block : ℕ) (text after : List ℕ) (longer : ℕ)
    → FilesCover s used craft block text after (Ok longer) → longer ≤ length after
files-cover-within s used craft block text after longer f =
    files-table-within s used craft block (inputs_of (content_of text)) (cover_table (content_of text)) after longer
    (cover-table s used craft block text after longer f)
