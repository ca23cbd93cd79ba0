-- What an answer of the unpacker tells, and that its promise leaves one answer. Assumes nothing.
use Rattle.std.specs.Prelude.{Err, Ok, Result}
use mathlib.Core.Path.{◌≡◌, refl, sym, ap, ◌∙◌}
use mathlib.Core.List.{List}
use Prim.Native.Nat.{ℕ}
use native.Mathlib.Omega.{arith}
use lib.ListN.{get_or}
use Rattle.block.specs.declared.Refusal.{Refusal}
use Rattle.block.specs.declared.FourPin.{FourPin}
use Rattle.block.specs.declared.Parts.{Parts}
use Rattle.block.specs.Block.{Lut, Block}
use Rattle.block.specs.Code.{block_of, zero_block}
use Rattle.block.specs.Refusal.{number_of}
use Rattle.block.specs.Answer.{Answer, answer}
use Rattle.block.proofs.RefusalLaws.{at-refusal, number-injective}
use Rattle.block.proofs.AnswerLaws.{same-answer, answered-number, answered-parts}
use Rattle.codec.specs.Ten.{unpack_of}
use Rattle.codec.specs.Check.{check_refusal}
use Rattle.codec.specs.Answers.{checked_of, unpacked_of, unpack_answer, Checks, Unpacks}

refused-number : (n : ℕ) (s : List ℕ) (k : Refusal)
    → answer (number_of k) zero_block ≡ unpack_answer n s → number_of k ≡ check_refusal n s
unfolding unpack_answer
refused-number n s k e =
    ap (λ (a : Answer Block). a.number) e ∙ answered-number (check_refusal n s) zero_block (unpack_of s)

pub refused-by : (n : ℕ) (s : List ℕ) (u : Result Parts Refusal) (k : Refusal) → u ≡ Err k
    → unpacked_of u ≡ unpack_answer n s → number_of k ≡ check_refusal n s
refused-by n s u k e told = refused-number n s k (ap unpacked_of (sym e) ∙ told)

-- accepted bytes have no refusal, and the parts are theirs
pub accepted : (n : ℕ) (s : List ℕ) (b : Block) → answer 0 b ≡ unpack_answer n s
    → (check_refusal n s ≡ 0) × (b ≡ unpack_of s)
unfolding unpack_answer
accepted n s b e = answered-parts (check_refusal n s) zero_block (unpack_of s) b e

-- the parts of a block, which block_of takes back
abbrev pub four_of : Lut → FourPin
four_of t =
    record {
      a = get_or t.pins 0 0;
      b = get_or t.pins 1 0;
      c = get_or t.pins 2 0;
      d = get_or t.pins 3 0;
      rows = t.rows;
    }

abbrev pub parts_of : Block → Parts
parts_of b = record { f = four_of b.f; g = four_of b.g; direct = b.direct; h = b.h }

pub block_of-injective : (x y : Parts) → block_of x ≡ block_of y → x ≡ y
block_of-injective x y e = ap parts_of e

pub unpack-unique : (n : ℕ) (s : List ℕ) (r q : Result Parts Refusal) → Unpacks n s r → Unpacks n s q → r ≡ q
unpack-unique n s r q p p' = same-answer block_of zero_block block_of-injective r q (p ∙ sym p')

not-zero : (k : Refusal) → 0 ≡ number_of k → ⊥
not-zero = at-refusal (λ m. 0 ≡ m → ⊥) (λ m e. omega arith)

same-checked : (r q : Result (Unit {0}) Refusal) → checked_of r ≡ checked_of q → r ≡ q
same-checked (Ok _) (Ok _) e = refl
same-checked (Ok _) (Err k) e = absurd (not-zero k e)
same-checked (Err k) (Ok _) e = absurd (not-zero k (sym e))
same-checked (Err k) (Err m) e = ap Err (number-injective k m e)

pub check-unique : (n : ℕ) (s : List ℕ) (r q : Result (Unit {0}) Refusal) → Checks n s r → Checks n s q → r ≡ q
check-unique n s r q p p' = same-checked r q (p ∙ sym p')
