-- A writer's promise leaves one answer and one buffer. Assumes nothing.
use Rattle.std.specs.Prelude.{Err, Ok, Result, IsOk}
use mathlib.Core.Path.{◌≡◌, refl, sym, ap, ◌∙◌}
use mathlib.Core.List.{List, [], ◌++◌}
use Prim.Native.Nat.{ℕ, zero, suc}
use native.Mathlib.Omega.{arith}
use lib.ListN.{length, drop}
use Rattle.block.specs.declared.Refusal.{Refusal}
use Rattle.block.specs.Refusal.{number_of}
use Rattle.block.specs.Answer.{Answer, answer, answered, answer_of, written_of, buffer_after, Writes}
use Rattle.block.specs.Answer.{Fills, refused, filled}
use Rattle.block.proofs.RefusalLaws.{at-refusal, number-injective}

-- an answer with a refusal's number has every other part 0
pub answered-refused : {A : Type 0} (none parts : A) (r : Refusal)
    → answered (number_of r) none parts ≡ answer (number_of r) none
answered-refused {A} none parts r =
    at-refusal (λ k. answered k none parts ≡ answer k none) (λ k. refl) r

-- success is no refusal
pub never-refused : {A : Type 0} (x y : A) (r : Refusal) → answer 0 x ≡ answer (number_of r) y → ⊥
never-refused {A} x y r =
    at-refusal (λ k. answer 0 x ≡ answer k y → ⊥)
    (λ k e. let z : 0 ≡ suc k = ap (λ (a : Answer A). a.number) e in omega arith) r

-- a refusal's number is none of success
pub some-number : (k : Refusal) → number_of k ≡ 0 → ⊥
some-number = at-refusal (λ m. m ≡ 0 → ⊥) (λ m z. omega arith)

-- an answer with number 0 is success
pub success : {A B : Type 0} (parts : A → B) (none : B) (r : Result A Refusal)
    → (answer_of parts none r).number ≡ 0 → IsOk r
success parts none (Ok x) e = refl
success parts none (Err k) e = absurd (some-number k e)

-- results that are answered alike are the same, where their values' parts tell them apart
pub same-answer : {A B : Type 0} (parts : A → B) (none : B) → ((x y : A) → parts x ≡ parts y → x ≡ y)
    → (r q : Result A Refusal) → answer_of parts none r ≡ answer_of parts none q → r ≡ q
same-answer {A} {B} parts none apart (Ok x) (Ok y) e =
    ap Ok (apart x y (ap (λ (a : Answer B). a.parts) e))
same-answer parts none apart (Ok x) (Err k) e = absurd (never-refused (parts x) none k e)
same-answer parts none apart (Err k) (Ok y) e = absurd (never-refused (parts y) none k (sym e))
same-answer {A} {B} parts none apart (Err k) (Err m) e =
    ap Err (number-injective k m (ap (λ (a : Answer B). a.number) e))

pub written-unique : (refusal : ℕ) (bytes before after after' : List ℕ) (r q : Result ℕ Refusal)
    → Writes refusal bytes before after r → Writes refusal bytes before after' q
    → (r ≡ q) × (after ≡ after')
written-unique refusal bytes before after after' r q p p' =
    (same-answer _ 0 (λ x y e. e) r q (p.told ∙ sym p'.told), p.kept ∙ sym p'.kept)

pub answered-number : {A : Type 0} (k : ℕ) (none parts : A) → (answered k none parts).number ≡ k
answered-number zero none parts = refl
answered-number (suc k) none parts = refl

-- a writer's number is its refusal's
pub written-number : (refusal : ℕ) (bytes before after : List ℕ) (r : Result ℕ Refusal)
    → Writes refusal bytes before after r → (written_of r).number ≡ refusal
written-number refusal bytes before after r w =
    ap (λ (a : Answer ℕ). a.number) w.told ∙ answered-number refusal 0 (length bytes)

-- success gives the parts
pub answered-parts : {A : Type 0} (k : ℕ) (none parts x : A) → answer 0 x ≡ answered k none parts
    → (k ≡ 0) × (x ≡ parts)
answered-parts {A} zero none parts x e = (refl, ap (λ (a : Answer A). a.parts) e)
answered-parts {A} (suc k) none parts x e =
    absurd (let z : 0 ≡ suc k = ap (λ (a : Answer A). a.number) e in omega arith)

-- a writer that refused, and one that wrote
pub writes-refused : (k : Refusal) (refusal : ℕ) (bytes buffer : List ℕ) → number_of k ≡ refusal
    → Writes refusal bytes buffer buffer (Err k)
writes-refused k refusal bytes buffer e =
    record {
      told = sym (answered-refused 0 (length bytes) k) ∙ ap (λ (m : ℕ). answered m 0 (length bytes)) e;
      kept =
          at-refusal (λ m. buffer ≡ buffer_after m bytes buffer) (λ m. refl) k
          ∙ ap (λ (m : ℕ). buffer_after m bytes buffer) e;
    }

pub writes_bytes : (refusal : ℕ) (bytes before after : List ℕ) (used : ℕ) → 0 ≡ refusal
    → used ≡ length bytes
    → after ≡ bytes ++ drop (length bytes) before → Writes refusal bytes before after (Ok used)
writes_bytes refusal bytes before after used e u w = record { told = rw (← e, u); kept = rw (← e) w }

-- the same where the bytes are themselves promised
pub fills-refused : (k : Refusal) (refusal : ℕ) (P : List ℕ → Type 0) (buffer : List ℕ)
    → number_of k ≡ refusal → Fills refusal P buffer buffer (Err k)
fills-refused k refusal P buffer e =
    refused (λ z. some-number k (e ∙ z))
    (writes-refused k refusal [] buffer e)

pub fills-bytes : (refusal : ℕ) (P : List ℕ → Type 0) (bytes before after : List ℕ) (used : ℕ)
    → refusal ≡ 0 → P bytes → used ≡ length bytes → after ≡ bytes ++ drop (length bytes) before
    → Fills refusal P before after (Ok used)
fills-bytes refusal P bytes before after used none p size kept =
    filled none bytes p (writes_bytes 0 bytes before after used refl size kept)

-- a writer of nothing keeps its buffer
pub nothing_written : (k : ℕ) (buffer : List ℕ) → buffer ≡ buffer_after k [] buffer
nothing_written zero buffer = refl
nothing_written (suc k) buffer = refl

-- a refusal tells its number, and changes no byte
pub fills-kept : (refusal : ℕ) (P : List ℕ → Type 0) (before after : List ℕ) (k : Refusal)
    → Fills refusal P before after (Err k) → (number_of k ≡ refusal) × (after ≡ before)
fills-kept refusal P before after k (refused some w) =
    (written-number refusal [] before after (Err k) w, w.kept ∙ sym (nothing_written refusal before))
fills-kept refusal P before after k (filled none bytes p w) =
    absurd (never-refused (length bytes) 0 k (sym w.told))

-- if one list of bytes is promised, one answer and one buffer are
pub fills-unique : (refusal : ℕ) (P : List ℕ → Type 0) → ((a b : List ℕ) → P a → P b → a ≡ b)
    → (before after after' : List ℕ) (r q : Result ℕ Refusal) → Fills refusal P before after r
    → Fills refusal P before after' q → (r ≡ q) × (after ≡ after')
fills-unique refusal P one before after after' r q (refused some w) (refused some' w') =
    written-unique refusal [] before after after' r q w w'
fills-unique refusal P one before after after' r q (refused some w) (filled none b p w') = absurd (some none)
fills-unique refusal P one before after after' r q (filled none a p w) (refused some w') = absurd (some none)
fills-unique refusal P one before after after' r q (filled none a p w) (filled none' b p' w') =
    written-unique 0 a before after after' r q w (rw (one a b p p') w')
