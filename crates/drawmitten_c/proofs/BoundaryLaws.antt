-- What stands in the 64 bits, and that they leave one answer. Assumes nothing.
use Rattle.std.specs.Prelude.{Result}
use mathlib.Core.Path.{◌≡◌, sym, ap, ◌∙◌}
use mathlib.Core.List.{List}
use Prim.Native.Nat.{ℕ, zero, suc, ◌+◌, ◌*◌, ◌/◌, ◌%◌, ◌^◌, ◌<◌, ◌≤◌}
use native.Mathlib.Nat.{mod-eq_of_lt}
use native.Mathlib.Omega.{arith}
use lib.ListN.{length}
use Rattle.block.specs.declared.Parts.{Parts}
use Rattle.block.specs.declared.Refusal.{Refusal}
use Rattle.block.specs.declared.Letter.{Letter}
use Rattle.block.specs.declared.Letter.TheVariants.{A, B, C}
use Rattle.block.specs.Block.{Block}
use Rattle.block.specs.Kind.{letter_code}
use Rattle.block.specs.Refusal.{number_of}
use Rattle.block.specs.Code.{block_of}
use Rattle.block.specs.Answer.{Answer, answered, written_of, Writes}
use Rattle.block.proofs.RefusalLaws.{two_digits}
use Rattle.codec.specs.Ten.{block_bytes}
use Rattle.codec.specs.Answers.{Packs}
use Rattle.codec.proofs.TenLaws.{packed-length}
use Rattle.codec.proofs.PackLaws.{pack-unique}
use Rattle.round.proofs.PackedLaws.{packed-ten}
use Rattle.matcher.specs.Match.{Matched, refused, unmatched, matched}
use Rattle.matcher.proofs.UniqueMatch.{match-unique, acceptable}
use Rattle.batch.specs.Batch.{Batched}
use Rattle.batch.proofs.BatchLaws.{batch-unique, batch-within}
use Rattle.record.specs.Record.{Record}
use Rattle.record.specs.Told.{Placed}
use Rattle.drawmitten_c.specs.Boundary.{Worded, written_word, MatchesC, PacksC, WrittenC}
use Rattle.blif.proofs.CoverLaws.{reads-unique}
use Rattle.drawmitten_c.specs.Boundary.{long_word, BatchesC, cover_word, CopiesC, AppendsC, CoversC}

-- the low 8 bits are the number, the bits above them the other part; so for a letter and its digit
pub word-apart : (number part : ℕ) → number < 256
    → ((number + part * 256) % 256 ≡ number) × ((number + part * 256) / 256 ≡ part)
word-apart number part small = (omega arith, omega arith)

-- every refusal's number, and every letter, is of 8 bits
pub number_small : (k : Refusal) → number_of k < 256
number_small k = omega (arith, two_digits k)

pub letter-small : (l : Letter) → letter_code l < 256
letter-small A = omega arith
letter-small B = omega arith
letter-small C = omega arith

-- a length of less than 2^56 is told whole
pub word-whole : (r : Result ℕ Refusal) → (written_of r).parts < 2 ^ 56 → long_word r ≡ written_word r
word-whole r small = ap (λ (k : ℕ). (written_of r).number + k * 256) (mod-eq_of_lt small)

part-fits : (refusal size : ℕ) → size ≤ block_bytes → (answered refusal 0 size).parts ≤ block_bytes
part-fits zero size fits = fits
part-fits (suc k) size fits = omega arith

-- the length in use of a writer that has at most a block's bytes
writes-fit : (refusal : ℕ) (bytes before after : List ℕ) (r : Result ℕ Refusal)
    → Writes refusal bytes before after r → length bytes ≤ block_bytes
    → (written_of r).parts ≤ block_bytes
writes-fit refusal bytes before after r w fits = rw w.told (part-fits refusal (length bytes) fits)

-- a matcher and a packer are such writers
pub match-fits : (n : ℕ) (t before after : List ℕ) (r : Result ℕ Refusal) → Matched n t before after r
    → (written_of r).parts ≤ block_bytes
match-fits n t before after r (refused some w) = writes-fit _ _ _ _ r w (omega arith)
match-fits n t before after r (unmatched none never w) = writes-fit _ _ _ _ r w (omega arith)
match-fits n t before after r (matched none b p w) =
    let ten = packed-ten n b (acceptable n t (length before) none b p.matches) in
    writes-fit _ _ _ _ r w (omega arith)

pub pack-fits : (n : ℕ) (x : Parts) (before after : List ℕ) (r : Result ℕ Refusal)
    → Packs n (block_of x) before after r → (written_of r).parts ≤ block_bytes
pack-fits n x before after r w =
    let ten = packed-length x in writes-fit _ _ _ _ r w (omega arith)

-- two promises that leave one answer and one buffer leave one number
worded-unique : {A : Type 0} (word_of : A → ℕ) (P P' : A → Type 0) (after after' : List ℕ) (r q : ℕ)
    → ((a b : A) → P a → P' b → (a ≡ b) × (after ≡ after'))
    → Worded word_of P r → Worded word_of P' q → (r ≡ q) × (after ≡ after')
worded-unique word_of P P' after after' r q unique p p' =
    let same = unique p.answer p'.answer p.promised p'.promised in
    (p.word ∙ ap word_of same.0 ∙ sym p'.word, same.1)

pub match-c-unique : (n : ℕ) (t before after after' : List ℕ) (r q : ℕ)
    → MatchesC n t before after r → MatchesC n t before after' q → (r ≡ q) × (after ≡ after')
match-c-unique n t before after after' r q =
    worded-unique written_word _ _ after after' r q (match-unique n t before after after')

pub batch-c-unique : (s before after after' : List ℕ) (r q : ℕ)
    → BatchesC s before after r → BatchesC s before after' q → (r ≡ q) × (after ≡ after')
batch-c-unique s before after after' r q =
    worded-unique long_word _ _ after after' r q (batch-unique s before after after')

pub batch-c-whole : (s before after : List ℕ) (r : ℕ) → length before < 2 ^ 56
    → BatchesC s before after r → Worded written_word (Batched s before after) r
batch-c-whole s before after r small b =
    let within = batch-within s before after b.answer b.promised in
    record {
      answer = b.answer;
      promised = b.promised;
      word = b.word ∙ word-whole b.answer (omega arith);
    }

pub pack-c-unique : (n : ℕ) (b : Block) (before after after' : List ℕ) (r q : ℕ)
    → PacksC n b before after r → PacksC n b before after' q → (r ≡ q) × (after ≡ after')
pack-c-unique n b before after after' r q =
    worded-unique written_word _ _ after after' r q (pack-unique n b before after after')

-- what is written, and the number, are one
written-c-unique : (answer : Answer (Placed ℕ)) (buffer after after' : List ℕ) (r q : ℕ)
    → WrittenC answer buffer after r → WrittenC answer buffer after' q → (r ≡ q) × (after ≡ after')
written-c-unique answer buffer after after' r q p p' =
    (p.word ∙ sym p'.word, p.kept ∙ sym p'.kept)

pub copies-c-unique : (s : List ℕ) (place : ℕ) (before after after' : List ℕ) (r q : ℕ)
    → CopiesC s place before after r → CopiesC s place before after' q → (r ≡ q) × (after ≡ after')
copies-c-unique s place before = written-c-unique _ _

pub append-c-unique : (before : List ℕ) (used : ℕ) (x : Record) (after after' : List ℕ) (r q : ℕ)
    → AppendsC before used x after r → AppendsC before used x after' q
    → (r ≡ q) × (after ≡ after')
append-c-unique before used x = written-c-unique _ _

pub cover-c-unique : (text before after after' : List ℕ) (r q : ℕ)
    → CoversC text before after r → CoversC text before after' q → (r ≡ q) × (after ≡ after')
cover-c-unique text before after after' r q =
    worded-unique cover_word _ _ after after' r q (reads-unique text before after after')
