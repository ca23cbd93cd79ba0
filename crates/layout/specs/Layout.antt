-- Words for the layout of a text. Assumes nothing.
use Rattle.std.specs.Prelude.{ℕ, ◌≡◌, true, false, not, List, eqb}
use Rattle.bits.specs.Tests.{every}
use Rattle.words.specs.Text.{line_feed, carriage_return, ends}

-- no CR stands at the text's end, so none is taken with an LF that is put after it
abbrev pub NoReturn : (text : List ℕ) → Type 0
NoReturn text = ends carriage_return text ≡ false

-- no LF is in the text
abbrev pub OneLine : (text : List ℕ) → Type 0
OneLine text = every (λ b. not (eqb b line_feed)) text ≡ true
