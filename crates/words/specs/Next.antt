-- Where the next word of a line and the next line of a text stand. Assumes nothing.
use Rattle.std.specs.Prelude.{ℕ, ◌+◌, ◌-◌, Bool, not, ◌&&◌, ◌||◌, List, [], ◌∷◌, eqb, ltb, length, drop, get_or}
use Rattle.std.specs.List.{prefix_len}
use Rattle.bits.specs.Tests.{pick}
use Rattle.words.specs.declared.Span.{Span}
use Rattle.words.specs.declared.Ends.{Ends}
use Rattle.words.specs.Text.{line_feed, carriage_return, hash, separates}

-- a byte of a word, and a byte of a line
abbrev pub in_word : ℕ → Bool
in_word b = not (separates b || eqb b hash)

abbrev pub in_line : ℕ → Bool
in_line b = not (eqb b line_feed)

-- the first place from `at` on whose byte the test does not pass, or the end
abbrev pub past : (test : ℕ → Bool) (s : List ℕ) (at : ℕ) → ℕ
past test s at = at + prefix_len test (drop at s)

-- the next word from `at` on, empty if there is none
unfoldable pub next_word : (line : List ℕ) (at : ℕ) → Span
next_word line at =
    let start = past separates line at in record { start = start; end = past in_word line start }

-- the bytes before an LF without the CR that may stand directly before it
unfoldable pub unreturned : List ℕ → List ℕ
unreturned [] = []
unreturned (b ∷ []) = pick (eqb b carriage_return) [] (b ∷ [])
unreturned (b ∷ c ∷ rest) = b ∷ unreturned (c ∷ rest)

-- the line from `at` on ends with CR LF, the LF standing at `feed`
unfoldable pub ends_cr_lf : (text : List ℕ) (at feed : ℕ) → Bool
ends_cr_lf text at feed =
    ltb feed (length text) && (ltb at feed && eqb (get_or text (feed - 1) 0) carriage_return)

-- where the line's bytes end: at its LF, at its CR LF or at the end of the text
abbrev pub line_end : (text : List ℕ) (at feed : ℕ) → ℕ
line_end text at feed = pick (ends_cr_lf text at feed) (feed - 1) feed

-- where the next line starts: after the LF
abbrev pub line_next : (text : List ℕ) (feed : ℕ) → ℕ
line_next text feed = pick (ltb feed (length text)) (feed + 1) feed

-- the line from `at` on
unfoldable pub next_line : (text : List ℕ) (at : ℕ) → Ends
next_line text at =
    let feed = past in_line text at in
    record { end = line_end text at feed; next = line_next text feed }
