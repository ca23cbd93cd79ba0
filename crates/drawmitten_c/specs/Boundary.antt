-- One number of 64 bits: the refusal's number, or 0, in the low 8 bits, the other part of the answer
-- above. Assumes nothing.
use Rattle.std.specs.Prelude.{ℕ, ◌+◌, ◌*◌, ◌%◌, ◌^◌, ◌<◌, ◌≡◌, List, [], ◌∷◌, length, get_or, Result}
use Rattle.block.specs.declared.Refusal.{Refusal}
use Rattle.block.specs.Block.{Lut, Block}
use Rattle.block.specs.Answer.{Answer, written_of}
use Rattle.codec.specs.Check.{check_refusal}
use Rattle.codec.specs.Answers.{Packs}
use Rattle.value.specs.Evaluate.{evaluate_answer}
use Rattle.types.specs.Typing.{type_answer}
use Rattle.matcher.specs.Match.{Matched}
use Rattle.batch.specs.Batch.{Batched}
use Rattle.record.specs.Record.{Record, pair_of}
use Rattle.record.specs.Told.{Placed}
use Rattle.records.specs.Check.{sheet_answer}
use Rattle.finding.specs.Find.{place_answer}
use Rattle.finding.specs.Read.{copy_answer, copied_into}
use Rattle.append.specs.Append.{append_answer, sheet_after}
use Rattle.blif.specs.declared.Cover.{Cover}
use Rattle.blif.specs.Cover.{read_of, Reads}

-- of an answer with one other part: the length in use, or the bit
abbrev pub answer_word : Answer ℕ → ℕ
answer_word a = a.number + a.parts * 256

-- the number stands for an answer that is promised
pub record Worded {A : Type 0} (word_of : A → ℕ) (Promised : A → Type 0) (r : ℕ) : Type 0 where
  pub answer : A
  pub promised : Promised answer
  pub word : r ≡ word_of answer

-- a writer's answer
abbrev pub written_word : Result ℕ Refusal → ℕ
written_word answer = answer_word (written_of answer)

-- the ten bytes of the first match in a lent buffer, and the length in use
abbrev pub MatchesC : (n : ℕ) (t before after : List ℕ) (r : ℕ) → Type 0
MatchesC n t before after r = Worded written_word (Matched n t before after) r

-- of an answer whose length in use has no limit of its own: 56 bits of it, which are all of it in a
-- buffer of less than 2^56 bytes
abbrev pub long_word : Result ℕ Refusal → ℕ
long_word answer = (written_of answer).number + (written_of answer).parts % 2 ^ 56 * 256

-- a slot for each request of a build in a lent buffer, and the length in use
abbrev pub BatchesC : (s before after : List ℕ) (r : ℕ) → Type 0
BatchesC s before after r = Worded long_word (Batched s before after) r

-- the number alone
abbrev pub ChecksC : (n : ℕ) (s : List ℕ) (r : ℕ) → Type 0
ChecksC n s r = r ≡ check_refusal n s

-- the value's bit
abbrev pub EvaluatesC : (n : ℕ) (s : List ℕ) (row r : ℕ) → Type 0
EvaluatesC n s row r = r ≡ answer_word (evaluate_answer n s row)

-- of an answer with two other parts: the first in 8 bits, and above them the second
abbrev pub two_part_word : Answer (ℕ × ℕ) → ℕ
two_part_word a = a.number + (a.parts.0 + a.parts.1 * 256) * 256

-- the type's letter in ASCII, and its digit
abbrev pub TypesC : (n : ℕ) (s : List ℕ) (r : ℕ) → Type 0
TypesC n s r = r ≡ two_part_word (type_answer n s)

-- a table whose four pins are the four fields from field `at` on
abbrev pub lut_from : (fields : List ℕ) (at rows : ℕ) → Lut
lut_from fields at rows =
    record {
      pins =
          get_or fields at 0
          ∷ get_or fields (at + 1) 0
          ∷ get_or fields (at + 2) 0
          ∷ get_or fields (at + 3) 0
          ∷ [];
      rows = rows;
    }

-- nine fields, in the order of the ten bytes, and three tables
abbrev pub block_from : (fields : List ℕ) (f g h : ℕ) → Block
block_from fields f g h =
    record { f = lut_from fields 0 f; g = lut_from fields 4 g; direct = get_or fields 8 0; h = h }

-- the ten bytes of a block in a lent buffer, and the length in use
abbrev pub PacksC : (n : ℕ) (b : Block) (before after : List ℕ) (r : ℕ) → Type 0
PacksC n b before after r = Worded written_word (Packs n b before after) r

-- of an answer about a sheet: the value, or the place after a refusal, one of which is 0
abbrev pub told_word : Answer (Placed ℕ) → ℕ
told_word a = a.number + (a.parts.place + a.parts.value) * 256

-- the place and the value of an answer are of 32 bits
pub record Of32Bits (a : Answer (Placed ℕ)) : Type 0 where
  pub place : a.parts.place < 2 ^ 32
  pub value : a.parts.value < 2 ^ 32

-- the number of records
abbrev pub CountsC : (s : List ℕ) (r : ℕ) → Type 0
CountsC s r = r ≡ told_word (sheet_answer s)

-- the place of the record with the number pair
abbrev pub PlacesC : (s : List ℕ) (craft block : ℕ) (r : ℕ) → Type 0
PlacesC s craft block r = r ≡ told_word (place_answer s (pair_of craft block))

-- the number of an answer, and a lent buffer afterwards
pub record WrittenC (answer : Answer (Placed ℕ)) (buffer after : List ℕ) (r : ℕ) : Type 0 where
  pub word : r ≡ told_word answer
  pub kept : after ≡ buffer

-- the record's 14 bytes in a lent buffer, and the length in use
abbrev pub CopiesC : (s : List ℕ) (place : ℕ) (before after : List ℕ) (r : ℕ) → Type 0
CopiesC s place before after r =
    WrittenC (copy_answer s place (length before)) (copied_into s place before) after r

-- the record at the end of the used part, and the length in use
abbrev pub AppendsC : (before : List ℕ) (used : ℕ) (x : Record) (after : List ℕ) (r : ℕ) → Type 0
AppendsC before used x after r =
    WrittenC (append_answer before used x) (sheet_after before used x) after r

-- n and the length in use
abbrev pub cover_word : Result Cover Refusal → ℕ
cover_word answer = two_part_word (read_of answer)

-- a cover's table in a lent buffer, n, and the length in use
abbrev pub CoversC : (text before after : List ℕ) (r : ℕ) → Type 0
CoversC text before after r = Worded cover_word (Reads text before after) r
