-- Promises under numbers that a caller capped are those under the numbers themselves: what is refused is
-- refused as before, and what is accepted was not capped. Assumes nothing.
use Rattle.std.specs.Prelude.{Err, Ok, Result}
use Rattle.block.specs.declared.Refusal.{Refusal}
use Rattle.record.specs.declared.Refused.{Refused}
use mathlib.Core.Path.{◌≡◌, refl, sym, ap, ◌∙◌}
use mathlib.Core.List.{List, []}
use mathlib.Core.Bool.{◌||◌}
use Prim.Native.Nat.{ℕ, zero, suc, ◌<◌, min}
use native.Mathlib.Omega.{arith}
use lib.Dec.{eqb, ltb, leb}
use lib.ListN.{length, take}
use denote.Ref.{Bor}
use borrow.Author.Tests.{ltb-true, ltb-false, leb-false}
use Rattle.bits.proofs.TestLaws.{either-false}
use Rattle.bits.proofs.SearchLaws.{byBool}
use Rattle.block.specs.Answer.{answered}
use Rattle.codec.proofs.CheckLaws.{accepted-of-none}
use Rattle.matcher.specs.Match.{Matched, refused, unmatched, matched}
use Rattle.matcher.proofs.HeadLaws.{refuses-1}
use Rattle.blif.specs.declared.Cover.{Cover}
use Rattle.blif.specs.Cover.{table_room, Reads}
use Rattle.blif.proofs.CoverLaws.{read-inputs}
use Rattle.record.specs.Record.{Record, most_craft, most_block, offered, pair_of, zero_record}
use Rattle.record.specs.Fault.{record_refusal, Fault}
use Rattle.record.specs.Told.{placed, told}
use Rattle.record.proofs.ToldLaws.{then-test}
use Rattle.record.proofs.RecordLaws.{accepted-parts}
use Rattle.records.specs.Sheet.{records_of, last_key}
use Rattle.records.specs.Check.{sheet_fault}
use Rattle.records.proofs.BoundLaws.{records-few}
use Rattle.finding.specs.Read.{record_at, read_fault, read_answer}
use Rattle.finding.specs.Find.{place_answer, Finds}
use Rattle.append.specs.Append.{new_fault, append_fault, appended, Appends}
use Rattle.append.proofs.AppendLaws.{append-fine}
use Rattle.digits.specs.Spelled.{most_number, most_byte}
use Rattle.filing.specs.Table.{FilesBlock, FilesTable}
use Rattle.filing.specs.Cover.{FilesRead, FilesCover}
use Rattle.filing.proofs.OfferedLaws.{offered-capped, place-capped, read-capped}

-- a record that is not refused was not capped
offered-same : (last : List ℕ) (craft block n : ℕ) (ten : List ℕ)
    → record_refusal last (offered craft block n ten) ≡ 0
    → offered (min craft most_number) (min block most_number) (min n most_byte) ten ≡ offered craft block n ten
offered-same last craft block n ten none =
    let parts = accepted-parts last (offered craft block n ten) none in
    let past = ltb most_craft craft || ltb most_block block in
    let fits = either-false (ltb most_craft craft) (ltb most_block block)
    (either-false (eqb craft 0) past parts.0).1 in
    let small-craft = ltb-false most_craft craft fits.0 in
    let small-block = ltb-false most_block block fits.1 in
    let few = (accepted-of-none n ten parts.2).within in
    let same-craft : min craft most_number ≡ craft = omega arith in
    let same_block : min block most_number ≡ block = omega arith in
    let same-n : min n most_byte ≡ n = omega arith in
    rw (same-craft, same_block, same-n)

-- appending promises the same of two records that are refused alike, and are one if they are not
module _ (s : List ℕ) (used : ℕ) (r q : Record)
    (alike : (last : List ℕ) → record_refusal last r ≡ record_refusal last q)
    (one : (last : List ℕ) → record_refusal last q ≡ 0 → r ≡ q) where
  same-fault : append_fault s used r ≡ append_fault s used q
  unfolding append_fault new_fault
  same-fault = rw (alike (last_key [] (records_of (take used s))))

  same-sheet : (k : ℕ) → (append_fault s used q).number ≡ k → appended k s used r ≡ appended k s used q
  same-sheet zero none =
      let last = last_key [] (records_of (take used s)) in
      ap (appended 0 s used) (one last (append-fine s used q none).new)
  same-sheet (suc k) some = refl

  appends-alike : (after : List ℕ) (p : Result ℕ Refused) → Appends s used r after p → Appends s used q after p
  appends-alike after p a =
      record {
        answer = rw same-fault at a.answer;
        kept = (rw same-fault at a.kept) ∙ same-sheet (append_fault s used q).number refl;
      }

pub appends-capped : (s : List ℕ) (used craft block n : ℕ) (ten after : List ℕ) (r : Result ℕ Refused)
    → Appends s used (offered (min craft most_number) (min block most_number) (min n most_byte) ten) after r
    → Appends s used (offered craft block n ten) after r
appends-capped s used craft block n ten after r =
    appends-alike s used (offered (min craft most_number) (min block most_number) (min n most_byte) ten)
    (offered craft block n ten) (λ last. offered-capped last craft block n ten)
    (λ last. offered-same last craft block n ten) after r

-- more inputs than a block has are refused before anything else
match-past : (n m : ℕ) (t before after : List ℕ) (r : Result ℕ Refusal) → 9 < n → 9 < m
    → Matched n t before after r → Matched m t before after r
match-past n m t before after r l l' (refused some w) =
    let same = sym (refuses-1 n t (length before) l) ∙ refuses-1 m t (length before) l' in
    refused (λ z. some (same ∙ z)) (rw same at w)
match-past n m t before after r l l' (unmatched none never w) =
    let one = refuses-1 n t (length before) l in absurd (omega arith)
match-past n m t before after r l l' (matched none b p w) =
    let one = refuses-1 n t (length before) l in absurd (omega arith)

match-capped : (n : ℕ) (t before after : List ℕ) (r : Result ℕ Refusal) → Matched (min n most_byte) t before after r
    → Matched n t before after r
match-capped n t before after r m =
    byBool (ltb most_byte n)
    (λ e.
    let far = ltb-true most_byte n e in
    match-past (min n most_byte) n t before after r (omega arith) (omega arith) m)
    (λ e.
    let near = ltb-false most_byte n e in
    let same : min n most_byte ≡ n = omega arith in
    rw same at m)

-- filing
block-capped : (found : Result ℕ Refusal) (s : List ℕ) (used craft block n : ℕ) (ten after : List ℕ) (r : Result ℕ Refused)
    → FilesBlock found s used (min craft most_number) (min block most_number) (min n most_byte) ten after r
    → FilesBlock found s used craft block n ten after r
unfolding FilesBlock
block-capped (Ok long) s used craft block n ten after r f =
    appends-capped s used craft block n ten after r f
block-capped (Err k) s used craft block n ten after r f = f

pub files-table-capped : (s : List ℕ) (used craft block n : ℕ) (t after : List ℕ) (r : Result ℕ Refused)
    → FilesTable s used (min craft most_number) (min block most_number) (min n most_byte) t after r
    → FilesTable s used craft block n t after r
files-table-capped s used craft block n t after r f =
    record {
      found = f.found;
      ten = f.ten;
      matched = match-capped n t _ f.ten f.found f.matched;
      filed = block-capped f.found s used craft block n f.ten after r f.filed;
    }

read-part-capped : (cover : Result Cover Refusal) (text table s : List ℕ) (used craft block : ℕ) (after : List ℕ) (r : Result ℕ Refused)
    → Reads text table_room table cover
    → FilesRead cover table s used (min craft most_number) (min block most_number) after r
    → FilesRead cover table s used craft block after r
unfolding FilesRead
read-part-capped (Ok cover) text table s used craft block after r read f =
    let few = read-inputs text table_room table cover read in
    let same : min cover.n most_byte ≡ cover.n = omega arith in
    files-table-capped s used craft block cover.n (take cover.used table) after r (rw same f)
read-part-capped (Err k) text table s used craft block after r read f = f

pub files-cover-capped : (s : List ℕ) (used craft block : ℕ) (text after : List ℕ) (r : Result ℕ Refused)
    → FilesCover s used (min craft most_number) (min block most_number) text after r
    → FilesCover s used craft block text after r
files-cover-capped s used craft block text after r f =
    record {
      cover = f.cover;
      table = f.table;
      read = f.read;
      filed = read-part-capped f.cover text f.table s used craft block after r f.read f.filed;
    }

-- finding and reading
pub places-capped : (s : List ℕ) (craft block : ℕ)
    → place_answer s (pair_of (min craft most_number) (min block most_number))
    ≡ place_answer s (pair_of craft block)
places-capped s craft block = ap (λ (p : ℕ). told (read_fault s p) 0 p) (place-capped s craft block)

pub finds-capped : (s : Bor (List ℕ)) (craft block : ℕ) (r : Bor (List ℕ))
    → Finds s (pair_of (min craft most_number) (min block most_number)) r → Finds s (pair_of craft block) r
finds-capped s craft block r f = record { part = rw (place-capped s.now craft block) at f.part }

told_same : (f : Fault) (none x y : Record) → (f.number ≡ 0 → x ≡ y) → told f none x ≡ told f none y
told_same f none x y same = at-number f.number refl
  where
    at-number : (k : ℕ) → f.number ≡ k
        → answered k (placed f.place none) (placed 0 x) ≡ answered k (placed f.place none) (placed 0 y)
    at-number zero e = rw (same e)
    at-number (suc k) e = refl

-- a place that is read was not capped
place_same : (s : List ℕ) (place : ℕ) → (read_fault s place).number ≡ 0 → min place most_number ≡ place
unfolding read_fault
place_same s place none =
    let count = length (records_of s) in
    let parts = then-test (sheet_fault s) 11 (leb count place) none in
    let few = records-few s parts.0 in
    let within = leb-false count place parts.1 in
    omega arith

pub reads-capped : (s : List ℕ) (place : ℕ) → read_answer s (min place most_number) ≡ read_answer s place
reads-capped s place =
    rw (read-capped s place)
    (told_same (read_fault s place) zero_record (record_at s (min place most_number)) (record_at s place)
    (λ none. ap (record_at s) (place_same s place none)))
