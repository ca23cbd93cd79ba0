-- A text about a sheet: refused, without room, or written. Assumes nothing.
use Rattle.std.specs.Prelude.{Err, Ok, Result}
use Rattle.record.specs.declared.Refused.{Refused}
use Rattle.record.specs.Told.{refused}
use mathlib.Core.Path.{◌≡◌, refl, sym, ◌∙◌}
use mathlib.Core.List.{List, [], ◌∷◌, ◌++◌}
use Prim.Native.Nat.{ℕ, ◌<◌, ◌≤◌}
use lib.Dec.{ltb}
use lib.ListN.{length, drop}
use borrow.Author.Tests.{lt-ltb, le-ltb, ltb-false}
use native.Mathlib.Omega.{arith}
use Rattle.block.specs.declared.Refusal.TheVariants.{NoRoom}
use Rattle.block.specs.Answer.{buffer_after}
use Rattle.block.proofs.RefusalLaws.{at-refusal}
use Rattle.block.specs.Refusal.{◌when◌}
use Rattle.record.specs.Fault.{Fault, whole}
use Rattle.record.specs.Told.{fault_of}
use Rattle.record.proofs.ToldLaws.{fault-told, fault-stops, value-told, then-fine, then-test}
use Rattle.record.proofs.ToldLaws.{told-unique}
use Rattle.columns.specs.Columns.{text_fault, Prints}

-- a fault stops the writing
pub prints-fault : (f : Fault) (text buffer : List ℕ) (r : Refused) → fault_of r ≡ f
    → Prints f text buffer buffer (Err r)
unfolding text_fault
prints-fault f text buffer r e =
    let stops = fault-stops r f (whole (5 when ltb (length buffer) (length text) ∷ [])) e in
    record {
      answer = fault-told r _ (length text) stops;
      kept = rw stops (at-refusal (λ m. buffer ≡ buffer_after m text buffer) (λ m. refl) r.refusal);
    }

-- where there is none, the room decides
module _ (f : Fault) (text before : List ℕ) (none : f.number ≡ 0) where
  pub prints-5 : length before < length text → Prints f text before before (Err (refused NoRoom 0))
  unfolding text_fault
  prints-5 short =
      record {
        answer = rw (then-fine f _ none, lt-ltb (length before) (length text) short);
        kept = rw (then-fine f _ none, lt-ltb (length before) (length text) short);
      }

  pub prints-text : (after : List ℕ) (used : ℕ) → length text ≤ length before → used ≡ length text
      → after ≡ text ++ drop (length text) before → Prints f text before after (Ok used)
  unfolding text_fault
  prints-text after used fits all kept =
      record {
        answer = rw (then-fine f _ none, le-ltb (length before) (length text) fits, all);
        kept = rw (then-fine f _ none, le-ltb (length before) (length text) fits) kept;
      }

-- a length that is told is within the buffer
pub prints-within : (f : Fault) (text before after : List ℕ) (used : ℕ) → Prints f text before after (Ok used)
    → used ≤ length before
unfolding text_fault
prints-within f text before after used p =
    let fine = value-told used (text_fault f text (length before)) (length text) p.answer in
    let room = (then-test f 4 (ltb (length before) (length text)) fine.0).1 in
    let fits = ltb-false (length before) (length text) room in
    omega (arith, fine.1)

pub prints-unique : (f : Fault) (text before after after' : List ℕ) (r q : Result ℕ Refused) → Prints f text before after r
    → Prints f text before after' q → (r ≡ q) × (after ≡ after')
prints-unique f text before after after' r q p p' =
    (told-unique r q _ p.answer p'.answer, p.kept ∙ sym p'.kept)
