-- What a success means: the ten bytes of a match hold the first block, and the record with them is
-- there, after the others. Assumes nothing.
use Rattle.std.specs.Prelude.{Ok}
use mathlib.Core.Path.{◌≡◌, ◌∙◌}
use mathlib.Core.List.{List, [], ◌∷◌, ◌++◌, append-nil}
use Prim.Native.Nat.{ℕ, ◌+◌, ◌<◌}
use native.Mathlib.Omega.{arith}
use lib.ListN.{length, get_or, take, length-append}
use lib.Seq.{get_or-append-add}
use Rattle.bits.specs.Bits.{Bytes}
use Rattle.block.proofs.AnswerLaws.{answered-parts}
use Rattle.codec.specs.Ten.{ten_zeros, pack_of, unpack_of}
use Rattle.round.proofs.PackedLaws.{packed-ten, unpack_of-pack_of}
use Rattle.round.proofs.OrderLaws.{packed-bytes}
use Rattle.matcher.specs.Match.{First, match_refusal, Matched, refused, unmatched, matched}
use Rattle.matcher.proofs.UniqueMatch.{acceptable}
use Rattle.words.specs.Text.{content_of}
use Rattle.blif.specs.Part.{inputs_of}
use Rattle.blif.specs.Cover.{cover_table}
use Rattle.record.specs.Record.{Record, offered, zero_record}
use Rattle.records.specs.Sheet.{records_of}
use Rattle.chain.proofs.ListedLaws.{records_of-sheet_of}
use Rattle.chain.proofs.ReadingLaws.{reads-listed, finds-listed}
use Rattle.chain.proofs.AppendingLaws.{appends-longer}
use Rattle.filing.specs.Table.{FilesTable}
use Rattle.filing.specs.Cover.{FilesCover}
use Rattle.filing.specs.Filed.{Filed}
use Rattle.filing.proofs.FilingLaws.{files-appended, cover-table}
use Rattle.filing.proofs.WithinLaws.{appends-front}

-- the ten bytes of a match
pub match-first : (n : ℕ) (t ten : List ℕ) (long : ℕ) → Matched n t ten_zeros ten (Ok long)
    → (First n t (unpack_of ten)) × (Bytes ten)
match-first n t ten long (refused some w) =
    absurd (some (answered-parts (match_refusal n t 10) 0 0 long w.told).0)
match-first n t ten long (unmatched none never w) =
    let z = (answered-parts 4 0 0 long w.told).0 in absurd (omega arith)
match-first n t ten long (matched none b p w) =
    let fine = acceptable n t 10 none b p.matches in
    let same : ten ≡ pack_of b = w.kept ∙ rw (packed-ten n b fine, append-nil) in
    (rw (same, unpack_of-pack_of n b fine) p, rw same (packed-bytes n b fine))

-- the record after the others
last-at : (rs : List Record) (r : Record) → get_or (rs ++ (r ∷ [])) (length rs) zero_record ≡ r
last-at rs r =
    let end : length rs + 0 ≡ length rs = omega arith in
    rw end at (get_or-append-add rs (r ∷ []) 0 zero_record)

last_within : (rs : List Record) (r : Record) → length rs < length (rs ++ (r ∷ []))
last_within rs r = rw (length-append rs (r ∷ [])) (omega arith)

pub table-filed : (s : List ℕ) (used craft block n : ℕ) (t after : List ℕ) (longer : ℕ) → Bytes s
    → FilesTable s used craft block n t after (Ok longer) → Filed s used craft block n t after longer
table-filed s used craft block n t after longer bytes f =
    let done = files-appended s used craft block n t after longer f in
    let first = match-first n t done.ten done.long done.matched in
    let r = offered craft block n done.ten in
    let rs = records_of (take used s) in
    let grown = appends-longer s used r after longer bytes first.1 done.appends in
    let all = rs ++ (r ∷ []) in
    let within = last_within rs r in
    let here = last-at rs r in
    record {
      grown = grown.grown;
      ten = done.ten;
      first = first.0;
      records = rw grown.sheet (records_of-sheet_of all grown.listed);
      accepted = grown.accepted;
      found = rw grown.sheet (rw here at (finds-listed all grown.listed (length rs) within));
      read = rw grown.sheet (rw here at (reads-listed all grown.listed (length rs) within));
      front = appends-front s used r after longer done.appends;
      rest = grown.rest;
    }

pub cover-filed : (s : List ℕ) (used craft block : ℕ) (text after : List ℕ) (longer : ℕ) → Bytes s
    → FilesCover s used craft block text after (Ok longer)
    → Filed s used craft block (inputs_of (content_of text)) (cover_table (content_of text)) after longer
cover-filed s used craft block text after longer bytes f =
    table-filed s used craft block (inputs_of (content_of text)) (cover_table (content_of text)) after longer bytes
    (cover-table s used craft block text after longer f)
