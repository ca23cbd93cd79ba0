-- Carried variables by four pins, and that the promise leaves one answer. Assumes nothing.
use Rattle.std.specs.Prelude.{Result}
use mathlib.Core.Path.{◌≡◌, sym, ap, ◌∙◌}
use mathlib.Core.Bool.{Bool, false, not, ◌&&◌, ◌||◌, or-false}
use mathlib.Core.List.{List, [], ◌∷◌}
use Prim.Native.Nat.{ℕ}
use lib.Dec.{eqb}
use borrow.Author.Tests.{ne_eqb}
use Rattle.bits.proofs.TestLaws.{eqb_comm}
use Rattle.block.specs.declared.Kind.{Kind}
use Rattle.block.specs.declared.Refusal.{Refusal}
use Rattle.block.specs.Block.{is_open}
use Rattle.block.specs.Kind.{carries, type_of}
use Rattle.block.specs.Refusal.{number_of}
use Rattle.block.specs.Answer.{answer, answered}
use Rattle.block.proofs.LetterLaws.{letter_code-injective}
use Rattle.block.proofs.AnswerLaws.{same-answer, answered-refused}
use Rattle.codec.specs.Ten.{unpack_of}
use Rattle.codec.specs.Check.{check_refusal}
use Rattle.types.specs.Typing.{lettered, type_answer, Types}

pub carries-four : (v a b c d : ℕ)
    → not (is_open v) && (eqb v a || (eqb v b || (eqb v c || eqb v d))) ≡ carries (a ∷ b ∷ c ∷ d ∷ []) v
unfolding carries
carries-four v a b c d =
    ap (λ (q : Bool). not (is_open v) && (eqb v a || (eqb v b || (eqb v c || q)))) (sym (or-false (eqb v d)))

-- so a variable is carried if it is one of the pins, and what an open pin has is not
module _ (v a b c d : ℕ) where
  pub carries-some : (v ≡ 15 → ⊥)
      → eqb a v || (eqb b v || (eqb c v || (eqb d v || false))) ≡ carries (a ∷ b ∷ c ∷ d ∷ []) v
  carries-some carried =
      rw (or-false (eqb d v), eqb_comm a v, eqb_comm b v, eqb_comm c v, eqb_comm d v)
      (rw (ne_eqb v 15 carried) at (carries-four v a b c d))

  pub carries-none : v ≡ 15 → false ≡ carries (a ∷ b ∷ c ∷ d ∷ []) v
  unfolding carries
  carries-none closed = rw closed

module _ (n : ℕ) (s : List ℕ) where
  pub refuses-block : (k : Refusal) → number_of k ≡ check_refusal n s
      → answer (number_of k) (0, 0) ≡ type_answer n s
  unfolding type_answer
  refuses-block k e =
      sym (answered-refused (0, 0) (lettered (type_of (unpack_of s))) k)
      ∙ ap (λ (m : ℕ). answered m (0, 0) (lettered (type_of (unpack_of s)))) e

  pub gives-type : check_refusal n s ≡ 0 → answer 0 (lettered (type_of (unpack_of s))) ≡ type_answer n s
  unfolding type_answer
  gives-type e = rw e

same_kind : (k m : Kind) → lettered k ≡ lettered m → k ≡ m
same_kind k m e =
    let letters = letter_code-injective k.letter m.letter (ap (λ (p : ℕ × ℕ). p.0) e) in
    let digits : k.digit ≡ m.digit = ap (λ (p : ℕ × ℕ). p.1) e in
    rw (letters, digits)

pub type-unique : (n : ℕ) (s : List ℕ) (r q : Result Kind Refusal) → Types n s r → Types n s q → r ≡ q
type-unique n s r q p p' = same-answer lettered (0, 0) same_kind r q (p ∙ sym p')
