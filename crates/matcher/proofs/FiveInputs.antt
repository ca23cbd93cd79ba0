-- A function that depends on at most five of its variables is never answered with 4; so with at most
-- five inputs none is. Assumes nothing.
use Rattle.std.specs.Prelude.{Result}
use Rattle.block.specs.declared.Refusal.{Refusal}
use mathlib.Core.Path.{◌≡◌, sym, ◌∙◌}
use mathlib.Core.Bool.{Bool, true, false, not}
use mathlib.Core.List.{List, []}
use Prim.Native.Nat.{ℕ, ◌≤◌}
use native.Mathlib.Omega.{arith}
use lib.Dec.{eqb}
use lib.ListN.{length}
use Rattle.bits.specs.Tests.{pick, count}
use Rattle.block.specs.Table.{table_bytes, padding}
use Rattle.block.specs.Refusal.{too_many_inputs}
use Rattle.block.specs.Answer.{written_of}
use Rattle.block.proofs.AnswerLaws.{written-number}
use Rattle.codec.specs.Ten.{pack_of}
use Rattle.codec.specs.Check.{no_room}
use Rattle.wiring.specs.Fits.{depends_on}
use Rattle.bits.proofs.CountLaws.{count_most}
use Rattle.wiring.proofs.FiveLaws.{five}
use Rattle.matcher.specs.Match.{match_refusal, Matched, refused, unmatched, matched}
use Rattle.matcher.proofs.HeadLaws.{well-formed}

-- 4 is none of 1, 2, 3, 5
pick_other : (fault : Bool) (k m : ℕ) → (k ≡ 4 → ⊥) → (m ≡ 4 → ⊥) → pick fault k m ≡ 4 → ⊥
pick_other true k m a b e = a e
pick_other false k m a b e = b e

head-other : (n : ℕ) (t : List ℕ) (room : ℕ) → match_refusal n t room ≡ 4 → ⊥
unfolding match_refusal
head-other n t room =
    let five = pick_other (no_room room) 5 0 (λ e. omega arith) (λ e. omega arith) in
    let three = pick_other (not (eqb (padding n t) 0)) 3 _ (λ e. omega arith) five in
    let two = pick_other (not (eqb (length t) (table_bytes n))) 2 _ (λ e. omega arith) three in
    pick_other (too_many_inputs n) 1 _ (λ e. omega arith) two

module _ (n : ℕ) (t before after : List ℕ) (r : Result ℕ Refusal) where
  pub five-never-4 : count (depends_on n t) n ≤ 5 → Matched n t before after r
      → (written_of r).number ≡ 4 → ⊥
  five-never-4 few (refused some w) e =
      head-other n t (length before)
      (sym (written-number (match_refusal n t (length before)) [] before after r w) ∙ e)
  five-never-4 few (unmatched none never w) e =
      let found = five n t (well-formed n t (length before) none).within few in
      never found.0 (record { device = found.1; fields = found.2; computes = found.3 })
  five-never-4 few (matched none b p w) e =
      let z = sym (written-number 0 (pack_of b) before after r w) ∙ e in omega arith

  -- n at most 5
  pub few-inputs-never-4 : n ≤ 5 → Matched n t before after r → (written_of r).number ≡ 4 → ⊥
  few-inputs-never-4 few = five-never-4 (omega (arith, count_most (depends_on n t) n))
