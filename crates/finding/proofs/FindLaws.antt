-- Looking for a number pair, record by record, and that finding leaves one answer. Assumes nothing.
use Rattle.std.specs.Prelude.{Err, Ok, Result}
use Rattle.record.specs.declared.Refused.{Refused}
use Rattle.record.specs.Told.{refused}
use mathlib.Core.Path.{◌≡◌, refl, sym, ◌∙◌}
use mathlib.Core.Bool.{true, false}
use mathlib.Core.List.{List, ◌++◌}
use Prim.Native.Nat.{ℕ, suc, ◌/◌, ◌<◌, ◌≤◌}
use lib.ListN.{length}
use denote.Ref.{Bor}
use Rattle.block.specs.declared.Refusal.TheVariants.{NotThere}
use Rattle.record.specs.Record.{record_bytes, record_of, has_key}
use Rattle.record.proofs.ToldLaws.{told-unique, value-told}
use Rattle.records.specs.Sheet.{records_of}
use Rattle.records.specs.Check.{Counts}
use Rattle.records.proofs.SheetLaws.{records-length}
use Rattle.records.proofs.WalkLaws.{records_short, records_next}
use Rattle.records.proofs.BoundLaws.{counted}
use Rattle.finding.specs.Find.{place_in, place_of, find_fault, Places, Finds}
use Rattle.finding.proofs.ReadLaws.{read-stops, refuses-12, tells-value, readable_of}

pub looked-start : (s key : List ℕ) → place_in key (records_of s) ≡ place_of s key
unfolding place_of
looked-start s key = refl

-- the records that are left decide where the pair stands
module _ (key : List ℕ) (before bytes after : List ℕ) (cut : before ≡ bytes ++ after)
    (long : length bytes ≡ record_bytes) where
  pub looked-on : has_key key (record_of bytes) ≡ false
      → place_in key (records_of before) ≡ suc (place_in key (records_of after))
  looked-on other = rw (cut, records_next bytes after long, other)

  pub looked-here : has_key key (record_of bytes) ≡ true → place_in key (records_of before) ≡ 0
  looked-here same = rw (cut, records_next bytes after long, same)

-- no record is left
pub looked-end : (key rest : List ℕ) → length rest < record_bytes → place_in key (records_of rest) ≡ 0
looked-end key rest short = rw (records_short rest short)

-- a sheet's fault is that of finding in it
pub places-refused : (s : List ℕ) (key : List ℕ) (r : Refused) → Counts s (Err r) → Places s key (Err r)
places-refused s key r e = read-stops s (place_of s key) (place_of s key) r e

-- in a sheet that was counted, the pair stands at a place, or at none
module _ (s : List ℕ) (key : List ℕ) (count : ℕ) (e : Counts s (Ok count)) where
  pub places-found : (p : ℕ) → p < length s / record_bytes → p ≡ place_of s key → Places s key (Ok p)
  places-found p within is =
      let all = (counted s count e).1 in
      rw (← is) (tells-value s p count e p (rw (all, records-length s) within))

  pub places-none : length s / record_bytes ≤ place_of s key → Places s key (Err (refused NotThere 0))
  places-none none =
      let all = (counted s count e).1 in
      refuses-12 s (place_of s key) count e (place_of s key) (rw (all, records-length s) none)

-- the place where the pair was found has a record
pub record Found (s : List ℕ) (key : List ℕ) (p : ℕ) : Type 0 where
  pub none : (find_fault s key).number ≡ 0
  pub place : p ≡ place_of s key
  pub within : p < length s / record_bytes

pub found-told : (s : List ℕ) (key : List ℕ) (p : ℕ) → Places s key (Ok p) → Found s key p
found-told s key p e =
    let parts = value-told p (find_fault s key) (place_of s key) e in
    record {
      none = parts.0;
      place = parts.1;
      within = rw parts.1 (readable_of s (place_of s key) parts.0).within;
    }

pub places-unique : (s : List ℕ) (key : List ℕ) (r q : Result ℕ Refused) → Places s key r
    → Places s key q → r ≡ q
places-unique s key r q = told-unique r q _

pub finds-unique : (s : Bor (List ℕ)) (key : List ℕ) (r q : Bor (List ℕ)) → Finds s key r
    → Finds s key q
    → (r.ref_ptr.0 ≡ q.ref_ptr.0) × (r.ref_ptr.1 ≡ q.ref_ptr.1) × (r.now ≡ q.now)
finds-unique s key r q a b = (
  a.part.memory ∙ sym b.part.memory,
  a.part.offset ∙ sym b.part.offset,
  a.part.bytes ∙ sym b.part.bytes,
)
