-- The lines of a sheet's records, one after the other. Assumes nothing.
use Rattle.std.specs.Prelude.{Err, Ok, Result}
use Rattle.record.specs.declared.Refused.{Refused}
use Rattle.record.specs.Told.{refused}
use mathlib.Core.Path.{◌≡◌, refl, sym, ap, ◌∙◌}
use mathlib.Core.List.{List, [], ◌∷◌, ◌++◌, append-nil, append_assoc}
use Prim.Native.Nat.{ℕ, zero, suc, ◌+◌, ◌-◌, ◌*◌, ◌<◌, ◌≤◌}
use native.Mathlib.Nat.{add-zero, zero-add, not-suc-le-zero, le_of_suc-le-suc}
use native.Mathlib.Numerals.{add-one}
use native.Mathlib.Omega.{arith}
use borrow.Rule.Slice.PartMut.{put_mid}
use lib.Dec.{leb}
use lib.ListN.{length, get_or, take, drop, length-append, length-drop}
use lib.Seq.{take-suc, take-length, take_at, drop_at, drop-drop, length-take-le}
use borrow.Author.Tests.{leb-false, le-ltb}
use Rattle.bits.proofs.SliceLaws.{filled_on}
use Rattle.block.specs.declared.Refusal.TheVariants.{NoRoom}
use Rattle.record.specs.Told.{told_of}
use Rattle.record.specs.Record.{Record, record_bytes, record_of, key_of, zero_record}
use Rattle.record.specs.Fault.{record_refusal, at}
use Rattle.record.proofs.ToldLaws.{then-zero, then-test, then-cases, told-number}
use Rattle.records.specs.Sheet.{most_records, records_of, bytes_at}
use Rattle.records.specs.Check.{first_fault, sheet_fault}
use Rattle.records.proofs.SheetLaws.{records-length, records-at}
use Rattle.records.proofs.BoundLaws.{accepted-records, records-few}
use Rattle.finding.specs.Read.{record_at, read_fault, Standing}
use Rattle.columns.specs.Columns.{record_line, record_line_bytes, lines_from, Sound, PrintsRecord}
use Rattle.columns.specs.Columns.{text_fault, PrintsSheet}
use Rattle.columns.proofs.PrintLaws.{prints-5, prints-text}
use Rattle.columns.proofs.LineLaws.{accepted-sound, line-length}

-- every record of a sheet without a fault
sound-from : (last : List ℕ) (p : ℕ) (rs : List Record) → (first_fault last p rs).number ≡ 0
    → (i : ℕ) → i < length rs → Sound (get_or rs i zero_record)
unfolding first_fault
sound-from last p [] none i l = absurd (not-suc-le-zero l)
sound-from last p (r ∷ rs) none zero l =
    accepted-sound last r (then-zero (at (record_refusal last r) p) (first_fault (key_of r) (suc p) rs) none).0
sound-from last p (r ∷ rs) none (suc i) l =
    sound-from (key_of r) (suc p) rs
    (then-zero (at (record_refusal last r) p) (first_fault (key_of r) (suc p) rs) none).1 i (le_of_suc-le-suc l)

pub each-sound : (s : List ℕ) → (sheet_fault s).number ≡ 0 → (i : ℕ) → i < length (records_of s)
    → Sound (get_or (records_of s) i zero_record)
each-sound s none = sound-from [] 0 (records_of s) (accepted-records s none)

-- its bytes
pub record-part : (s : List ℕ) → (sheet_fault s).number ≡ 0 → (p : ℕ) → p < length (records_of s)
    → (length (bytes_at s p) ≡ record_bytes) × Sound (record_of (bytes_at s p))
record-part s none p l =
    let count = records-length s in (
      length-take-le record_bytes (drop (p * record_bytes) s) (omega (arith, length-drop (p * record_bytes) s)),
      rw (records-at s p zero_record (omega arith)) at (each-sound s none p l),
    )

-- the bytes at a place, and their line where there is too little room and where it is written
module _ (s : List ℕ) (place : ℕ) (part : List ℕ) (stands : Standing s place part) where
  read-parts : ((sheet_fault s).number ≡ 0) × (place < length (records_of s))
  unfolding read_fault
  read-parts =
      let count = length (records_of s) in
      let parts = then-test (sheet_fault s) 11 (leb count place) stands.none in
      (parts.0, leb-false count place parts.1)

  pub place-few : place < most_records
  place-few = omega (arith, read-parts.1, records-few s read-parts.0)

  same-record : record_at s place ≡ record_of part
  same-record =
      rw stands.bytes (records-at s place zero_record (rw (records-length s) at read-parts.1))

  pub place-part : (length part ≡ record_bytes) × Sound (record_of part)
  place-part = (stands.whole, rw same-record at (each-sound s read-parts.0 place read-parts.1))

  size : length (record_line place (record_at s place)) ≡ record_line_bytes
  size = line-length place (record_at s place) place-few (each-sound s read-parts.0 place read-parts.1)

  pub place-5 : (before : List ℕ) → length before < record_line_bytes
      → PrintsRecord s place before before (Err (refused NoRoom 0))
  place-5 before short = prints-5 (read_fault s place) _ before stands.none (omega (arith, size))

  pub place-put : (before after : List ℕ) → record_line_bytes ≤ length before
      → after ≡ record_line place (record_of part) ++ drop record_line_bytes before
      → PrintsRecord s place before after (Ok record_line_bytes)
  place-put before after room e =
      prints-text (read_fault s place) _ before stands.none after record_line_bytes (omega (arith, size)) (sym size)
      (e ∙ rw (same-record, rw same-record at size))

-- one line more
lines_snoc : (place : ℕ) (rs : List Record) (r : Record)
    → lines_from place (rs ++ (r ∷ [])) ≡ lines_from place rs ++ record_line (place + length rs) r
unfolding lines_from
lines_snoc place [] r = rw (add-zero place) (append-nil (record_line place r))
lines_snoc place (q ∷ rs) r =
    let next : suc place + length rs ≡ place + suc (length rs) = omega arith in
    rw (lines_snoc (suc place) rs r, next)
    (sym (append_assoc (record_line place q) (lines_from (suc place) rs) (record_line (place + suc (length rs)) r)))

pub lines_more : (rs : List Record) (p : ℕ) → p < length rs
    → lines_from 0 (take (suc p) rs) ≡ lines_from 0 (take p rs) ++ record_line p (get_or rs p zero_record)
lines_more rs p l =
    let long : length (take p rs) ≡ p = length-take-le p rs (omega arith) in
    rw (take-suc rs p zero_record l, lines_snoc 0 (take p rs) (get_or rs p zero_record), long, zero-add p)

-- every line has the same length
pub first-length : (s : List ℕ) → (sheet_fault s).number ≡ 0 → (p : ℕ) → p ≤ length (records_of s)
    → length (lines_from 0 (take p (records_of s))) ≡ p * record_line_bytes
unfolding lines_from
first-length s none zero l = refl
first-length s none (suc p) l =
    let rs = records_of s in
    let few = records-few s none in
    let size = line-length p (get_or rs p zero_record) (omega arith) (each-sound s none p l) in
    let before = first-length s none p (omega arith) in
    rw (lines_more rs p l) (length-append (lines_from 0 (take p rs)) _ ∙ omega arith)

pub list_length : (s : List ℕ) → (sheet_fault s).number ≡ 0
    → length (lines_from 0 (records_of s)) ≡ length (records_of s) * record_line_bytes
list_length s none =
    let rs = records_of s in rw (take-length rs) at (first-length s none (length rs) (omega arith))

-- the lines of the first p records stand at the start of the buffer
pub record PutTo (s before out : List ℕ) (p : ℕ) : Type 0 where
  pub low : p ≤ length (records_of s)
  pub lines : out ≡ lines_from 0 (take p (records_of s)) ++ drop (p * record_line_bytes) before

pub put-start : (s before : List ℕ) → PutTo s before before 0
unfolding lines_from
put-start s before = record { low = omega arith; lines = refl }

pub put_next : (s before out : List ℕ) (p : ℕ) → (sheet_fault s).number ≡ 0 → p < length (records_of s)
    → PutTo s before out p → (made : List ℕ)
    → (let a = p * record_line_bytes in
    made
    ≡ record_line p (record_of (bytes_at s p)) ++ drop record_line_bytes (take (length out - a) (drop a out)))
    → (let a = p * record_line_bytes in PutTo s before (put_mid a (length out - a) out made) (p + 1))
put_next s before out p none l put made e =
    let rs = records_of s in
    let a = p * record_line_bytes in
    let front = lines_from 0 (take p rs) in
    let line = record_line p (get_or rs p zero_record) in
    let on : a + record_line_bytes ≡ suc p * record_line_bytes = omega arith in
    let count = records-length s in
    record {
      low = omega arith;
      lines =
          rw (e, ← records-at s p zero_record (omega arith))
          (filled_on out before front line a record_line_bytes put.lines (first-length s none p put.low)
          ∙ rw (add-one p, lines_more rs p l, on));
    }

-- the next record, where what is left of the sheet begins with its bytes
pub record Next (s : List ℕ) (p : ℕ) (part after : List ℕ) : Type 0 where
  pub within : p < length (records_of s)
  pub bytes : part ≡ bytes_at s p
  pub rest : after ≡ drop ((p + 1) * record_bytes) s

pub next-of : (s rest part after : List ℕ) (p : ℕ) → rest ≡ drop (p * record_bytes) s → rest ≡ part ++ after
    → length part ≡ record_bytes → Next s p part after
next-of s rest part after p is cut long =
    let all : length part + length after ≡ length s - p * record_bytes =
    sym (length-append part after) ∙ ap length (sym cut ∙ is) ∙ length-drop (p * record_bytes) s in
    let on : p * record_bytes + record_bytes ≡ (p + 1) * record_bytes = omega arith in
    record {
      within = rw (records-length s) (omega (arith, all, long));
      bytes = sym (take_at part after record_bytes long) ∙ ap (take record_bytes) (sym cut ∙ is);
      rest =
          sym (drop_at part after record_bytes long) ∙ ap (drop record_bytes) (sym cut ∙ is)
          ∙ drop-drop record_bytes (p * record_bytes) s ∙ ap (λ (k : ℕ). drop k s) on;
    }

pub put_all : (s before out : List ℕ) (p : ℕ) → length (records_of s) ≤ p → PutTo s before out p
    → out ≡ lines_from 0 (records_of s) ++ drop (length (records_of s) * record_line_bytes) before
put_all s before out p over put =
    let low = put.low in
    let all : p ≡ length (records_of s) = omega arith in
    put.lines ∙ rw (all, take-length (records_of s))

-- the list of a sheet without a fault: too little room, and written
module _ (s : List ℕ) (none : (sheet_fault s).number ≡ 0) where
  pub list-5 : (before : List ℕ) → length before < length (records_of s) * record_line_bytes
      → PrintsSheet s before before (Err (refused NoRoom 0))
  list-5 before short = prints-5 (sheet_fault s) _ before none (omega (arith, list_length s none))

  pub list_put : (before after : List ℕ) → length (records_of s) * record_line_bytes ≤ length before
      → after ≡ lines_from 0 (records_of s) ++ drop (length (records_of s) * record_line_bytes) before
      → PrintsSheet s before after (Ok (length (records_of s) * record_line_bytes))
  list_put before after room e =
      let size = list_length s none in
      prints-text (sheet_fault s) _ before none after _ (omega (arith, size)) (sym size) (e ∙ rw size)

-- with room for the most records the sheet alone decides
pub list-fits : (s before after : List ℕ) (r : Result ℕ Refused) → most_records * record_line_bytes ≤ length before
    → PrintsSheet s before after r → (told_of r).number ≡ (sheet_fault s).number
unfolding text_fault
list-fits s before after r room p =
    told-number r (text_fault (sheet_fault s) (lines_from 0 (records_of s)) (length before)) _ p.answer
    ∙ then-cases (λ f. f.number ≡ (sheet_fault s).number) (sheet_fault s) _ (λ some. refl)
    (λ none.
    let few = records-few s none in
    let size = list_length s none in
    rw (le-ltb (length before) (length (lines_from 0 (records_of s))) (omega arith)) (sym none))
