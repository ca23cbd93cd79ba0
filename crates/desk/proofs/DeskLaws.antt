-- What is told of a cover's text is one line and one number; the line is the one that is printed for its
-- table, and has room in as many bytes as the longest has. Assumes nothing.
use Rattle.std.specs.Prelude.{Err, Ok, Result}
use mathlib.Core.Path.{◌≡◌, sym, ◌∙◌}
use mathlib.Core.List.{List, ◌∷◌}
use Prim.Native.Nat.{ℕ, ◌≤◌}
use lib.ListN.{length, take}
use Rattle.block.specs.declared.Refusal.{Refusal}
use Rattle.block.specs.Refusal.{number_of}
use Rattle.block.specs.Answer.{written_of}
use Rattle.block.proofs.AnswerLaws.{never-refused}
use Rattle.words.specs.Text.{content_of}
use Rattle.blif.specs.declared.Cover.{Cover}
use Rattle.blif.specs.Part.{inputs_of}
use Rattle.blif.specs.Cover.{cover_table, cover_refusal, table_room, Reads}
use Rattle.blif.proofs.CoverLaws.{reads-unique, read_table}
use Rattle.line.specs.declared.Said.{Said}
use Rattle.text.specs.Line.{refusal_line}
use Rattle.text.proofs.TextLaws.{text-unique}
use Rattle.line.specs.Line.{Answers, longest}
use Rattle.line.proofs.PartLaws.{says-lines}
use Rattle.line.proofs.LineLaws.{said_same, says-unique}
use Rattle.line.proofs.LineLaws.{Short, refusal-short, lines-short, short-within, short-fits}
use Rattle.desk.specs.Desk.{SaysCover, Tells}

says-cover-unique : (cover : Result Cover Refusal) (table before after after' : List ℕ) (r q : Said)
    → SaysCover cover table before after r → SaysCover cover table before after' q
    → (r ≡ q) × (after ≡ after')
unfolding SaysCover
says-cover-unique (Ok x) table before after after' r q p p' =
    says-unique x.n (take x.used table) before after after' r q p p'
says-cover-unique (Err k) table before after after' r q p p' =
    let text = refusal_line (number_of k) in
    let line = text-unique text before after after' r.line q.line p.written p'.written in
    (said_same r q (p.refusal ∙ sym p'.refusal) line.0, line.1)

pub tells-unique : (text before after after' : List ℕ) (r q : Said) → Tells text before after r
    → Tells text before after' q → (r ≡ q) × (after ≡ after')
tells-unique text before after after' r q p p' =
    let same = reads-unique text table_room p.table p'.table p.cover p'.cover p.read p'.read in
    says-cover-unique p.cover p.table before after after' r q p.told
    (rw (same.0, same.1) p'.told)

cover-answers : (text table before after : List ℕ) (cover : Result Cover Refusal) (r : Said) → Reads text table_room table cover
    → SaysCover cover table before after r → cover_refusal (content_of text) (length table_room) ≡ 0
    → Answers (inputs_of (content_of text) ∷ cover_table (content_of text)) before after r.line
unfolding SaysCover Answers
cover-answers text table before after (Ok x) r read s none =
    let found = read_table (content_of text) table_room table x read in
    rw (← found.inputs, ← found.table) (says-lines x.n (take x.used table) before after r s)
cover-answers text table before after (Err k) r read s none =
    absurd (never-refused _ (0, 0) k (sym (rw none at read.told)))

-- a text that reading does not refuse has the line that is printed for its n and its table
pub tells-answers : (text before after : List ℕ) (r : Said) → Tells text before after r
    → cover_refusal (content_of text) (length table_room) ≡ 0
    → Answers (inputs_of (content_of text) ∷ cover_table (content_of text)) before after r.line
tells-answers text before after r t none =
    cover-answers text t.table before after t.cover r t.read t.told none

cover-short : (cover : Result Cover Refusal) (table before after : List ℕ) (r : Said)
    → SaysCover cover table before after r → Short before after r.line
unfolding SaysCover
cover-short (Ok x) table before after r s =
    lines-short x.n (take x.used table) before after r.line
    (says-lines x.n (take x.used table) before after r s)
cover-short (Err k) table before after r s =
    refusal-short k before after r.line s.written

-- the length in use is within the buffer
pub tells-within : (text before after : List ℕ) (r : Said) (used : ℕ) → r.line ≡ Ok used
    → Tells text before after r → used ≤ length before
tells-within text before after r used e t =
    let short = cover-short t.cover t.table before after r t.told in
    short-within before after used (rw e at short)

-- every line has room in so many bytes
pub tells-fits : (text before after : List ℕ) (r : Said) → longest ≤ length before → Tells text before after r
    → (written_of r.line).number ≡ 0
tells-fits text before after r room t =
    let short = cover-short t.cover t.table before after r t.told in
    short-fits before after r.line room short
