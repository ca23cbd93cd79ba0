-- Reading at a place and copying out: what they refuse, and that they leave one answer. Assumes
-- nothing.
use Rattle.std.specs.Prelude.{Err, Ok, Result}
use Rattle.record.specs.declared.Refused.{Refused}
use Rattle.record.specs.Told.{refused}
use mathlib.Core.Path.{◌≡◌, refl, sym, ap, ◌∙◌}
use mathlib.Core.List.{List, [], ◌∷◌, ◌++◌, append-nil}
use Prim.Native.Nat.{ℕ, ◌*◌, ◌/◌, ◌<◌, ◌≤◌}
use native.Mathlib.Omega.{arith}
use borrow.Author.Tests.{le-leb, lt-leb, leb-false, lt-ltb, le-ltb}
use lib.Dec.{leb, ltb}
use lib.ListN.{length, take, drop, replicate, length-drop}
use lib.Seq.{take-length, take_all}
use Rattle.std.proofs.lemmas.List.{length-take-le}
use Rattle.block.specs.declared.Refusal.TheVariants.{NoRoom, NotThere}
use Rattle.block.specs.Refusal.{◌when◌}
use Rattle.block.specs.Answer.{Answer, answer, buffer_after}
use Rattle.block.proofs.RefusalLaws.{at-refusal, number-injective}
use Rattle.block.proofs.AnswerLaws.{never-refused}
use Rattle.codec.specs.Ten.{block_bytes}
use Rattle.record.specs.declared.Numbers.{Numbers}
use Rattle.record.specs.Record.{Record, header_bytes, record_bytes, record_of, zero_record}
use Rattle.record.specs.Record.{numbers_in}
use Rattle.record.specs.Fault.{whole}
use Rattle.record.specs.Told.{Placed, placed, told, told_of, fault_of}
use Rattle.record.specs.Answers.{Numbered}
use Rattle.record.proofs.RecordLaws.{numbered-record}
use Rattle.record.proofs.ToldLaws.{stopped-by, passed-by, told-fine, then-fine}
use Rattle.record.proofs.ToldLaws.{then-test, told-unique, value-told, fault-told, fault-stops}
use Rattle.records.specs.Sheet.{records_of, bytes_at}
use Rattle.records.specs.Check.{sheet_fault, Counts}
use Rattle.records.proofs.SheetLaws.{records-length, records-at}
use Rattle.records.proofs.BoundLaws.{counted}
use Rattle.finding.specs.declared.Reading.{Reading}
use Rattle.finding.specs.Read.{record_at, read_fault, Stands, Standing, reading_of, Reads}
use Rattle.finding.specs.Read.{copy_fault, Copies}

-- a sheet's fault is that of reading in it
pub read-stops : (s : List ℕ) (place v : ℕ) (r : Refused) → Counts s (Err r)
    → told_of (Err r) ≡ told (read_fault s place) 0 v
unfolding read_fault
read-stops s place v r e = stopped-by r (length (records_of s)) (sheet_fault s) _ v e

-- in a sheet that was counted, a place is read just if it is one of its records
module _ (s : List ℕ) (place : ℕ) (count : ℕ) (e : Counts s (Ok count)) where
  read-decides : read_fault s place ≡ whole (12 when leb count place ∷ [])
  unfolding read_fault
  read-decides =
      rw (passed-by count (length (records_of s)) (sheet_fault s) _ e, ← (counted s count e).1)

  pub refuses-12 : (v : ℕ) → count ≤ place → told_of (Err (refused NotThere 0)) ≡ told (read_fault s place) 0 v
  refuses-12 v beyond = rw (read-decides, le-leb count place beyond)

  pub tells-value : (v : ℕ) → place < count → told_of (Ok v) ≡ told (read_fault s place) 0 v
  tells-value v within = rw (read-decides, lt-leb count place within)

  pub tells-count : place < count
      → told_of (Ok count) ≡ told (read_fault s place) 0 (length (records_of s))
  tells-count within = rw (← (counted s count e).1) (tells-value count within)

-- a place that is read has a record
pub record Readable (s : List ℕ) (place : ℕ) : Type 0 where
  pub none : (read_fault s place).number ≡ 0
  pub within : place < length s / record_bytes

pub readable_of : (s : List ℕ) (place : ℕ) → (read_fault s place).number ≡ 0 → Readable s place
unfolding read_fault
readable_of s place none =
    let records = length (records_of s) in
    let within = leb-false records place (then-test (sheet_fault s) 11 (leb records place) none).1 in
    record { none = none; within = rw (records-length s) at within }

pub readable-told : (s : List ℕ) (place x : ℕ) → Stands s place (Ok x) → Readable s place
readable-told s place x e =
    readable_of s place (value-told x (read_fault s place) (length (records_of s)) e).0

-- a record in the sheet is as long as each
pub record-long : (s : List ℕ) (place : ℕ) → place < length s / record_bytes
    → length (bytes_at s place) ≡ record_bytes
record-long s place within =
    length-take-le record_bytes _ (rw (length-drop (place * record_bytes) s) (omega (arith, within)))

-- bytes copied over the front of a buffer
pub copied : (xs bytes buffer : List ℕ) (n : ℕ) → xs ≡ bytes → length bytes ≡ n
    → xs ++ drop n buffer ≡ take (length bytes) bytes ++ drop (length bytes) buffer
copied xs bytes buffer n same long = rw (take-length bytes, long, same)

-- the ten bytes behind the numbers, copied over other ten
pub taken-record : (s : List ℕ) (x : Numbers) (ten : List ℕ) → length s ≡ record_bytes → Numbered s x
    → ten
    ≡ take (length (take block_bytes (drop header_bytes s))) (take block_bytes (drop header_bytes s))
    ++ drop (length (take block_bytes (drop header_bytes s))) (replicate block_bytes 0)
    → reading_of (Ok (record { numbers = x; ten = ten })) ≡ answer 0 (placed 0 (record_of s))
taken-record s x ten e numbered w =
    let back = drop header_bytes s in
    let long : length back ≡ block_bytes = simp length-drop (omega arith) in
    let whole : take block_bytes back ≡ back = take_all block_bytes back (omega arith) in
    let same : ten ≡ back = w ∙ rw (whole, long, whole) (append-nil back) in
    rw (same, numbered-record s x numbered)

-- the bytes that stand at a place that is read
pub standing-of : (s : List ℕ) (place : ℕ) → Readable s place → Standing s place (bytes_at s place)
standing-of s place readable =
    record { none = readable.none; bytes = refl; whole = record-long s place readable.within }

-- the record that was read
pub reads-record : (s : List ℕ) (place : ℕ) (part : List ℕ) (r : Reading) → Standing s place part
    → reading_of (Ok r) ≡ answer 0 (placed 0 (record_of part)) → Reads s place (Ok r)
reads-record s place part r stands e =
    e
    ∙ rw (
      stands.bytes,
      told-fine (read_fault s place) zero_record (record_at s place) stands.none,
      records-at s place zero_record (readable_of s place stands.none).within,
    )

-- copying that was refused, before the room is looked at and by it, and the record that was copied
pub copies-refused : (s : List ℕ) (place : ℕ) (buffer : List ℕ) (r : Refused) → fault_of r ≡ read_fault s place
    → Copies s place buffer buffer (Err r)
unfolding copy_fault
copies-refused s place buffer r e =
    let stops = fault-stops r (read_fault s place) (whole (5 when ltb (length buffer) record_bytes ∷ [])) e in
    record {
      answer = fault-told r _ record_bytes stops;
      kept = rw stops (at-refusal (λ m. buffer ≡ buffer_after m (bytes_at s place) buffer) (λ m. refl) r.refusal);
    }

module _ (s : List ℕ) (place : ℕ) (none : (read_fault s place).number ≡ 0) (before : List ℕ) where
  pub copies-5 : length before < record_bytes → Copies s place before before (Err (refused NoRoom 0))
  unfolding copy_fault
  copies-5 short =
      record {
        answer = rw (then-fine (read_fault s place) _ none, lt-ltb (length before) record_bytes short);
        kept = rw (then-fine (read_fault s place) _ none, lt-ltb (length before) record_bytes short);
      }

  pub copies-record : (after : List ℕ) → record_bytes ≤ length before
      → after ≡ bytes_at s place ++ drop (length (bytes_at s place)) before
      → Copies s place before after (Ok record_bytes)
  unfolding copy_fault
  copies-record after enough w =
      record {
        answer = rw (then-fine (read_fault s place) _ none, le-ltb (length before) record_bytes enough);
        kept = rw (then-fine (read_fault s place) _ none, le-ltb (length before) record_bytes enough) w;
      }

same-reading : (r q : Result Reading Refused) → reading_of r ≡ reading_of q → r ≡ q
same-reading (Ok x) (Ok y) e =
    let same = ap (λ (z : Answer (Placed Record)). z.parts.value) e in
    let numbers : x.numbers ≡ y.numbers = ap numbers_in same in
    let ten : x.ten ≡ y.ten = ap (λ (r : Record). r.ten) same in
    ap Ok (rw (numbers, ten))
same-reading (Ok x) (Err r) e = absurd (never-refused _ _ r.refusal e)
same-reading (Err r) (Ok y) e = absurd (never-refused _ _ r.refusal (sym e))
same-reading (Err r) (Err q) e =
    let same = number-injective r.refusal q.refusal (ap (λ (z : Answer (Placed Record)). z.number) e) in
    let place = ap (λ (z : Answer (Placed Record)). z.parts.place) e in
    ap Err (rw (same, place))

pub stands-unique : (s : List ℕ) (place : ℕ) (r q : Result ℕ Refused) → Stands s place r → Stands s place q → r ≡ q
stands-unique s place r q = told-unique r q _

pub reads-unique : (s : List ℕ) (place : ℕ) (r q : Result Reading Refused)
    → Reads s place r → Reads s place q → r ≡ q
reads-unique s place r q e e' = same-reading r q (e ∙ sym e')

pub copies-unique : (s : List ℕ) (place : ℕ) (before after after' : List ℕ) (r q : Result ℕ Refused)
    → Copies s place before after r → Copies s place before after' q → (r ≡ q) × (after ≡ after')
copies-unique s place before after after' r q p p' =
    (told-unique r q _ p.answer p'.answer, p.kept ∙ sym p'.kept)
