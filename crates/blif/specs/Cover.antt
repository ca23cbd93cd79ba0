-- Reading a cover: n and the truth table of one `.names` part (request 2). Assumes nothing.
use Rattle.std.specs.Prelude.{ℕ, ◌≡◌, Bool, not, ◌&&◌, ◌||◌, List, [], ◌∷◌, ltb, length, replicate, Err, Ok, Result}
use Rattle.block.specs.declared.Refusal.{Refusal}
use Rattle.bits.specs.Tests.{any}
use Rattle.block.specs.Table.{most_inputs, table_bytes, table_of}
use Rattle.block.specs.Refusal.{◌when◌, Case, first_of, number_of, too_many_inputs}
use Rattle.block.specs.Answer.{Answer, answer, answered, buffer_after}
use Rattle.words.specs.Text.{Word, content_of}
use Rattle.marks.specs.Marks.{covers}
use Rattle.blif.specs.declared.Cover.{Cover}
use Rattle.blif.specs.Part.{names_of, cover_of, inputs_of, marks_of, gives, is_part, repeats, both_outputs}

-- a line with this output covers row r
abbrev pub covered : (value : ℕ) (lines : List (List Word)) (r : ℕ) → Bool
covered value lines r = any (λ line. gives value line && covers (marks_of line) r) lines

-- the function is 1 at row r if a line with output 1 covers it, or lines have output 0 and none of them
-- covers it; so no line at all means constant 0
unfoldable pub value_at : (lines : List (List Word)) (r : ℕ) → Bool
value_at lines r = covered 1 lines r || (any (gives 0) lines && not (covered 0 lines r))

-- variables are numbered by their names' written order, and the names are then forgotten
unfoldable pub cover_table : (content : List (List Word)) → List ℕ
cover_table content = table_of (inputs_of content) (value_at (cover_of content))

-- 15: the text is not one `.names` part; 1: more than nine inputs; 16: a repeated name, the output's
-- included; 17: lines with both outputs; 5: too little room
abbrev pub cover_cases : (content : List (List Word)) (room : ℕ) → List Case
cover_cases content room =
    15 when not (is_part content)
    ∷ 1 when too_many_inputs (inputs_of content)
    ∷ 16 when repeats (names_of content)
    ∷ 17 when both_outputs (cover_of content)
    ∷ 5 when ltb room (table_bytes (inputs_of content))
    ∷ []

-- the number that these give
unfoldable pub cover_refusal : (content : List (List Word)) (room : ℕ) → ℕ
cover_refusal content room = first_of (cover_cases content room)

-- reading answers n and the length in use
abbrev pub read_of : Result Cover Refusal → Answer (ℕ × ℕ)
read_of (Ok x) = answer 0 (x.n, x.used)
read_of (Err k) = answer (number_of k) (0, 0)

-- what reading a part promises, by its content: n and the length in use, or the refusal; the table at
-- the start of the lent buffer
pub record ReadsPart (content : List (List Word)) (before after : List ℕ) (r : Result Cover Refusal) : Type 0 where
  pub told :
      read_of r
      ≡ answered (cover_refusal content (length before)) (0, 0)
      (inputs_of content, table_bytes (inputs_of content))
  pub kept : after ≡ buffer_after (cover_refusal content (length before)) (cover_table content) before

-- room for the longest table
abbrev pub table_room : List ℕ
table_room = replicate (table_bytes most_inputs) 0

-- what reading a cover promises
abbrev pub Reads : (text before after : List ℕ) (r : Result Cover Refusal) → Type 0
Reads text before after r = ReadsPart (content_of text) before after r
