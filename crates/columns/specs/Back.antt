-- A list of records read back: each line by its words, the numbers by their digits. Assumes nothing.
use Rattle.std.specs.Prelude.{ℕ, zero, suc, ◌<◌, List, [], ◌∷◌, map, length, get_or}
use Rattle.bits.specs.Bits.{Bytes}
use Rattle.record.specs.Record.{Record, offered, zero_record}
use Rattle.words.specs.Text.{Word, content_of}
use Rattle.digits.specs.Spelled.{number_in, bytes_in}

-- word i of a line
abbrev pub word_at : (line : List Word) (i : ℕ) → Word
word_at line i = get_or line i []

-- the record of a line's words: spacecraft number, block number and n are the second to the fourth, the
-- ten bytes the sixth
unfoldable pub record_in : (line : List Word) → Record
record_in line =
    offered (number_in (word_at line 1)) (number_in (word_at line 2)) (number_in (word_at line 3))
    (bytes_in (word_at line 5))

-- its place is the first
abbrev pub place_in : (line : List Word) → ℕ
place_in line = number_in (word_at line 0)

-- the records and the places of a text
abbrev pub records_in : (text : List ℕ) → List Record
records_in text = map record_in (content_of text)

abbrev pub places_in : (text : List ℕ) → List ℕ
places_in text = map place_in (content_of text)

-- so many places, counted on from the first
unfoldable pub count_from : (place count : ℕ) → List ℕ
count_from place zero = []
count_from place (suc count) = place ∷ count_from (suc place) count

-- a record whose line says it whole: its block is bytes, one at least
pub record Legible (r : Record) : Type 0 where
  pub some : 0 < length r.ten
  pub bytes : Bytes r.ten

-- and all of a list
abbrev pub AllLegible : (rs : List Record) → Type 0
AllLegible rs = (i : ℕ) → i < length rs → Legible (get_or rs i zero_record)
