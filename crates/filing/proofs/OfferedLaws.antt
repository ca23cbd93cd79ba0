-- Numbers that a caller caps stay out of range: a record offered under them is refused as it was, and
-- no record of a sheet is found under them, or read at such a place. Assumes nothing.
use mathlib.Core.Path.{◌≡◌, refl, sym, ap, ◌∙◌}
use mathlib.Core.Bool.{true, false, or-true, and-false}
use mathlib.Core.List.{List, [], ◌∷◌}
use Prim.Native.Nat.{ℕ, zero, suc, ◌<◌, ◌≤◌, min}
use native.Mathlib.Omega.{arith}
use lib.Dec.{ltb, leb}
use lib.ListN.{length}
use borrow.Author.Tests.{ltb-true, ltb-false, lt-ltb, le-leb, ne_eqb}
use Rattle.bits.proofs.SearchLaws.{byBool}
use Rattle.block.specs.Refusal.{◌when◌}
use Rattle.record.specs.Record.{most_craft, most_block, record_of, offered, zero_record, pair_of, has_key}
use Rattle.record.specs.Fault.{record_refusal, Fault, whole, unless, ◌then◌}
use Rattle.record.proofs.RecordLaws.{refuses-10}
use Rattle.records.specs.Sheet.{records_of, bytes_at}
use Rattle.records.specs.Check.{sheet_fault}
use Rattle.records.proofs.SheetLaws.{records-length, records-at}
use Rattle.records.proofs.BoundLaws.{records-few}
use Rattle.finding.specs.Read.{read_fault}
use Rattle.finding.specs.Find.{place_of}
use Rattle.chain.proofs.PlaceLaws.{place_in-absent}
use Rattle.digits.specs.Spelled.{most_number, most_byte}

-- what is the same for every number past a bound is the same for the capped number
capped : (A : Type 0) (f : ℕ → A) (other : A) (most : ℕ) → ((x : ℕ) → most ≤ x → f x ≡ other) → (x : ℕ)
    → f (min x most) ≡ f x
capped A f other most past x =
    byBool (ltb most x)
    (λ e.
    let far = ltb-true most x e in
    past (min x most) (omega arith) ∙ sym (past x (omega arith)))
    (λ e. let near = ltb-false most x e in let same : min x most ≡ x = omega arith in ap f same)

-- of number pairs likewise
pair-capped : (A : Type 0) (f : (craft block : ℕ) → A) (other : A)
    → ((craft block : ℕ) → most_craft < craft → f craft block ≡ other)
    → ((craft block : ℕ) → most_block < block → f craft block ≡ other)
    → (craft block : ℕ) → f (min craft most_number) (min block most_number) ≡ f craft block
pair-capped A f other past-craft past-block craft block =
    let block' = min block most_number in
    capped A (λ x. f x block') other most_number (λ x l. past-craft x block' (omega arith)) craft
    ∙ capped A (f craft) other most_number (λ x l. past-block craft x (omega arith)) block

-- a record that is offered
past-craft-refused : (last : List ℕ) (craft block n : ℕ) (ten : List ℕ) → most_craft < craft
    → record_refusal last (offered craft block n ten) ≡ 10
past-craft-refused last craft block n ten l =
    sym (refuses-10 last (offered craft block n ten) (rw (lt-ltb most_craft craft l) (simp or-true)))

past-block-refused : (last : List ℕ) (craft block n : ℕ) (ten : List ℕ) → most_block < block
    → record_refusal last (offered craft block n ten) ≡ 10
past-block-refused last craft block n ten l =
    sym (refuses-10 last (offered craft block n ten) (rw (lt-ltb most_block block l) (simp or-true)))

inputs-capped : (last : List ℕ) (craft block n : ℕ) (ten : List ℕ)
    → record_refusal last (offered craft block (min n most_byte) ten)
    ≡ record_refusal last (offered craft block n ten)
unfolding record_refusal
inputs-capped last craft block n ten =
    capped ℕ (λ m. record_refusal last (offered craft block m ten))
    (record_refusal last (offered craft block most_byte ten)) most_byte
    (λ m l. rw (lt-ltb 9 m (omega arith))) n

pub offered-capped : (last : List ℕ) (craft block n : ℕ) (ten : List ℕ)
    → record_refusal last (offered (min craft most_number) (min block most_number) (min n most_byte) ten)
    ≡ record_refusal last (offered craft block n ten)
offered-capped last craft block n ten =
    let n' = min n most_byte in
    pair-capped ℕ (λ c b. record_refusal last (offered c b n' ten)) 10
    (λ c b. past-craft-refused last c b n' ten) (λ c b. past-block-refused last c b n' ten) craft block
    ∙ inputs-capped last craft block n ten

-- no record has numbers above its fields
record-craft : (s : List ℕ) → (record_of s).craft ≤ most_craft
unfolding record_of
record-craft s = omega arith

record-block : (s : List ℕ) → (record_of s).block ≤ most_block
unfolding record_of
record-block s = omega arith

module _ (s : List ℕ) (craft block : ℕ) where
  absent : ((t : List ℕ) → has_key (pair_of craft block) (record_of t) ≡ false)
      → place_of s (pair_of craft block) ≡ length (records_of s)
  unfolding place_of
  absent none =
      place_in-absent (pair_of craft block) (records_of s)
      (λ i l. rw (records-at s i zero_record (rw (records-length s) at l)) (none (bytes_at s i)))

  past-craft-absent : most_craft < craft → place_of s (pair_of craft block) ≡ length (records_of s)
  past-craft-absent l =
      absent (λ t.
      let small = record-craft t in
      let differs : craft ≡ (record_of t).craft → ⊥ = λ e. omega arith in
      rw (ne_eqb craft (record_of t).craft differs))

  past-block-absent : most_block < block → place_of s (pair_of craft block) ≡ length (records_of s)
  past-block-absent l =
      absent (λ t.
      let small = record-block t in
      let differs : block ≡ (record_of t).block → ⊥ = λ e. omega arith in
      rw (ne_eqb block (record_of t).block differs) (simp and-false))

-- the place of a capped pair is that of the pair, and so is the fault of finding it
pub place-capped : (s : List ℕ) (craft block : ℕ)
    → place_of s (pair_of (min craft most_number) (min block most_number)) ≡ place_of s (pair_of craft block)
place-capped s =
    pair-capped ℕ (λ c b. place_of s (pair_of c b)) (length (records_of s))
    (past-craft-absent s) (past-block-absent s)

-- of two faults in a row the second counts only where there is none before it
then_same : (f g h : Fault) → (f.number ≡ 0 → g ≡ h) → (f then g) ≡ (f then h)
then_same f g h same = at-number f.number refl
  where
    at-number : (k : ℕ) → f.number ≡ k → unless k f g ≡ unless k f h
    at-number zero e = same e
    at-number (suc k) e = refl

-- a sheet has fewer records than the cap
pub read-capped : (s : List ℕ) (place : ℕ) → read_fault s (min place most_number) ≡ read_fault s place
unfolding read_fault
read-capped s place =
    let count = length (records_of s) in
    then_same (sheet_fault s) _ _
    (λ none.
    let few = records-few s none in
    capped Fault (λ p. whole (12 when leb count p ∷ [])) (whole (12 when true ∷ [])) most_number
    (λ p l. rw (le-leb count p (omega arith))) place)
