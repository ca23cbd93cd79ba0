-- The type of ten bytes, letter and digit, as document 01 gives it. Assumes nothing.
use Rattle.std.specs.Prelude.{ℕ, ◌≡◌, List, Result}
use Rattle.block.specs.declared.Refusal.{Refusal}
use Rattle.block.specs.declared.Kind.{Kind}
use Rattle.block.specs.Kind.{letter_code, type_of}
use Rattle.block.specs.Answer.{Answer, answered, answer_of}
use Rattle.codec.specs.Ten.{unpack_of}
use Rattle.codec.specs.Check.{check_refusal}

-- a type is answered as its letter and its digit
abbrev pub lettered : Kind → ℕ × ℕ
lettered k = (letter_code k.letter, k.digit)

-- typing answers them
abbrev pub typed_of : Result Kind Refusal → Answer (ℕ × ℕ)
typed_of = answer_of lettered (0, 0)

-- refused as checking is, else the type of the carried pins
unfoldable pub type_answer : (n : ℕ) (s : List ℕ) → Answer (ℕ × ℕ)
type_answer n s = answered (check_refusal n s) (0, 0) (lettered (type_of (unpack_of s)))

-- what typing promises
abbrev pub Types : (n : ℕ) (s : List ℕ) (r : Result Kind Refusal) → Type 0
Types n s r = typed_of r ≡ type_answer n s
