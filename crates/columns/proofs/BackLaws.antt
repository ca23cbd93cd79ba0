-- A list of records spells its records and their places, so no two sheets have the same list. Assumes
-- nothing.
use mathlib.Core.Path.{◌≡◌, refl, sym, ap, ◌∙◌}
use mathlib.Core.List.{List, [], ◌∷◌, append-nil}
use Prim.Native.Nat.{ℕ, suc, ◌<◌, suc-le-suc}
use native.Mathlib.Nat.{zero-lt-suc}
use native.Mathlib.Omega.{arith}
use lib.ListN.{length}
use Rattle.bits.specs.Bits.{Bytes}
use Rattle.record.specs.Record.{Record}
use Rattle.records.specs.Sheet.{records_of, sheet_of}
use Rattle.records.specs.Check.{sheet_fault}
use Rattle.chain.proofs.ListedLaws.{listed-of-accepted, sheet_of-records_of}
use Rattle.words.specs.Text.{content_of}
use Rattle.words.proofs.TextLaws.{words-none, content-last}
use Rattle.digits.proofs.SpelledLaws.{number-back, bytes_back}
use Rattle.columns.specs.Columns.{record_line, lines_from}
use Rattle.columns.specs.Back.{record_in, place_in, records_in, places_in, count_from, Legible, AllLegible}
use Rattle.columns.proofs.WordLaws.{record_words, content-record}

pub place-back : (place : ℕ) (r : Record) → place_in (record_words place r) ≡ place
unfolding record_words
place-back place r = number-back place

pub record-back : (place : ℕ) (r : Record) → Bytes r.ten → record_in (record_words place r) ≡ r
unfolding record_words record_in
record-back place r bytes =
    rw (number-back r.craft, number-back r.block, number-back r.n, bytes_back r.ten bytes)

no-content : content_of [] ≡ []
no-content = content-last [] refl ∙ rw words-none

-- a record's line, alone
pub line-content : (place : ℕ) (r : Record) → 0 < length r.ten
    → content_of (record_line place r) ≡ record_words place r ∷ []
line-content place r some =
    rw (append-nil (record_line place r)) at (content-record place r some []) ∙ rw no-content

pub line-back : (place : ℕ) (r : Record) → Legible r
    → (places_in (record_line place r) ≡ place ∷ []) × (records_in (record_line place r) ≡ r ∷ [])
line-back place r legible = (
  rw (line-content place r legible.some, place-back place r),
  rw (line-content place r legible.some, record-back place r legible.bytes),
)

-- the lines one after the other
pub list_back : (place : ℕ) (rs : List Record) → AllLegible rs → records_in (lines_from place rs) ≡ rs
unfolding lines_from
list_back place [] legible = rw no-content
list_back place (r ∷ rs) legible =
    let first = legible 0 (zero-lt-suc (length rs)) in
    rw (content-record place r first.some (lines_from (suc place) rs), record-back place r first.bytes)
    (ap (λ rest. r ∷ rest) (list_back (suc place) rs (λ i l. legible (suc i) (suc-le-suc l))))

pub places-back : (place : ℕ) (rs : List Record) → AllLegible rs
    → places_in (lines_from place rs) ≡ count_from place (length rs)
unfolding lines_from count_from
places-back place [] legible = rw no-content
places-back place (r ∷ rs) legible =
    let first = legible 0 (zero-lt-suc (length rs)) in
    rw (content-record place r first.some (lines_from (suc place) rs), place-back place r)
    (ap (λ rest. place ∷ rest) (places-back (suc place) rs (λ i l. legible (suc i) (suc-le-suc l))))

-- an accepted sheet
module _ (s : List ℕ) (bytes : Bytes s) (accepted : (sheet_fault s).number ≡ 0) where
  sheet-legible : AllLegible (records_of s)
  sheet-legible i l =
      let ruled = (listed-of-accepted s bytes accepted).each i l in
      let long = ruled.accepted.ten in
      record { some = omega arith; bytes = ruled.bytes }

  pub sheet-back : records_in (lines_from 0 (records_of s)) ≡ records_of s
  sheet-back = list_back 0 (records_of s) sheet-legible

  pub sheet-places : places_in (lines_from 0 (records_of s)) ≡ count_from 0 (length (records_of s))
  sheet-places = places-back 0 (records_of s) sheet-legible

pub list-one : (s t : List ℕ) → Bytes s → Bytes t → (sheet_fault s).number ≡ 0 → (sheet_fault t).number ≡ 0
    → lines_from 0 (records_of s) ≡ lines_from 0 (records_of t) → s ≡ t
list-one s t bytes bytes' accepted accepted' same =
    let records : records_of s ≡ records_of t =
    sym (sheet-back s bytes accepted) ∙ ap records_in same ∙ sheet-back t bytes' accepted' in
    sym (sheet_of-records_of s bytes accepted) ∙ ap sheet_of records ∙ sheet_of-records_of t bytes' accepted'
