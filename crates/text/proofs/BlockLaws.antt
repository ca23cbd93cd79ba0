-- The line of a block's ten bytes. Assumes nothing.
use Rattle.std.specs.Prelude.{Err, Ok, Result}
use mathlib.Core.Path.{◌≡◌, refl, sym, ap, ◌∙◌}
use mathlib.Core.List.{List, [], ◌∷◌}
use Prim.Native.Nat.{ℕ, ◌%◌, ◌<◌}
use native.Mathlib.Omega.{arith}
use lib.Dec.{ltb}
use lib.ListN.{length, length-append}
use Rattle.bits.proofs.CountLaws.{count_most}
use Rattle.block.specs.declared.Kind.{Kind}
use Rattle.block.specs.declared.Refusal.{Refusal}
use Rattle.block.specs.Block.{Block}
use Rattle.block.specs.Kind.{is_shared, digit_of, type_of}
use Rattle.block.specs.Refusal.{◌when◌, first_of, number_of}
use Rattle.block.specs.Answer.{Answer}
use Rattle.block.proofs.RefusalLaws.{at-refusal, or_else, first-append}
use Rattle.block.proofs.AnswerLaws.{written-unique, writes-refused, answered-number, answered-parts}
use Rattle.codec.specs.Ten.{unpack_of}
use Rattle.codec.specs.Check.{check_cases, check_refusal}
use Rattle.codec.proofs.CheckLaws.{accepted-of-none}
use Rattle.types.specs.Typing.{lettered, type_answer, Types}
use Rattle.types.proofs.TypeLaws.{gives-type, type-unique}
use Rattle.digits.specs.Digits.{digit_code, decimal}
use Rattle.digits.proofs.DigitLaws.{decimal-one, hexadecimal-length}
use Rattle.text.specs.Line.{typed_line, block_line, block_line_bytes, WritesText, line_refusal, LinesBlock}

-- the digit of a type is one digit
pub digit_lt : (b : Block) → (type_of b).digit < 10
unfolding type_of digit_of
digit_lt b = let most = count_most (is_shared b) 9 in omega arith

-- a number of one digit, by the digit of its low four bits
pub digit_low : (x : ℕ) → x < 10 → digit_code (x % 16) ∷ [] ≡ decimal x
digit_low x small =
    let low : x % 16 ≡ x = omega arith in rw (decimal-one x small, low)

pub block-length : (ten : List ℕ) → length ten ≡ 10 → length (block_line ten) ≡ block_line_bytes
unfolding block_line
block-length ten long =
    rw (decimal-one _ (digit_lt (unpack_of ten)), length-append, hexadecimal-length ten) (omega arith)

-- checking decides, then the room
line-cases : (n : ℕ) (ten : List ℕ) (room : ℕ)
    → line_refusal n ten room ≡ or_else (check_refusal n ten) (first_of (5 when ltb room block_line_bytes ∷ []))
unfolding line_refusal check_refusal
line-cases n ten room = first-append (check_cases n ten) (5 when ltb room block_line_bytes ∷ []) refl

-- bytes that have no type are refused as checking refuses them
pub line_refused : (n : ℕ) (ten before : List ℕ) (k : Refusal) → Types n ten (Err k)
    → LinesBlock n ten before before (Err k)
unfolding type_answer
line_refused n ten before k typed =
    let rest = first_of (5 when ltb (length before) block_line_bytes ∷ []) in
    let number : number_of k ≡ check_refusal n ten =
    ap (λ (a : Answer (ℕ × ℕ)). a.number) typed
    ∙ answered-number (check_refusal n ten) (0, 0) (lettered (type_of (unpack_of ten))) in
    writes-refused k _ (block_line ten) before
    (sym (at-refusal (λ m. or_else m rest ≡ m) (λ m. refl) k)
    ∙ ap (λ (m : ℕ). or_else m rest) number
    ∙ sym (line-cases n ten (length before)))

-- bytes that have a type pass the check, and it is theirs
pub record Passed (n : ℕ) (ten : List ℕ) (k : Kind) : Type 0 where
  pub checked : check_refusal n ten ≡ 0
  pub long : length ten ≡ 10
  pub kind : k ≡ type_of (unpack_of ten)

pub typed-passes : (n : ℕ) (ten : List ℕ) (k : Kind) → Types n ten (Ok k) → Passed n ten k
unfolding type_answer
typed-passes n ten k typed =
    let none = (answered-parts (check_refusal n ten) (0, 0) (lettered (type_of (unpack_of ten))) (lettered k) typed).0 in
    let same : Ok k ≡ Ok (type_of (unpack_of ten)) = type-unique n ten _ _ typed (gives-type n ten none) in
    record { checked = none; long = (accepted-of-none n ten none).ten; kind = cc same }

-- of bytes that pass, only the room is asked
pub line-passed : (n : ℕ) (ten : List ℕ) (room : ℕ) → check_refusal n ten ≡ 0
    → line_refusal n ten room ≡ first_of (5 when ltb room (length (block_line ten)) ∷ [])
line-passed n ten room none =
    line-cases n ten room ∙ rw (none, block-length ten (accepted-of-none n ten none).ten)

pub line-written : (n : ℕ) (ten before after : List ℕ) (k : Kind) (r : Result ℕ Refusal) → Passed n ten k
    → WritesText (typed_line k ten) before after r → LinesBlock n ten before after r
unfolding block_line
line-written n ten before after k r p w =
    rw (line-passed n ten (length before) p.checked) (rw p.kind at w)

pub line-text : (n : ℕ) (ten before after : List ℕ) (r : Result ℕ Refusal) → check_refusal n ten ≡ 0
    → LinesBlock n ten before after r → WritesText (block_line ten) before after r
line-text n ten before after r none w = rw (line-passed n ten (length before) none) at w

pub lines-unique : (n : ℕ) (ten before after after' : List ℕ) (r q : Result ℕ Refusal) → LinesBlock n ten before after r
    → LinesBlock n ten before after' q → (r ≡ q) × (after ≡ after')
lines-unique n ten before after after' r q w w' =
    written-unique (line_refusal n ten (length before)) (block_line ten) before after after' r q w w'
