-- The first entries of a list, or all if it has fewer, and the part after them. Assumes nothing.
use mathlib.Core.Path.{◌≡◌, sym, ◌∙◌}
use mathlib.Core.List.{List}
use Prim.Native.Nat.{ℕ, ◌-◌, ◌≤◌, min}
use native.Mathlib.Omega.{arith}
use lib.Dec.{ltb}
use lib.ListN.{length, take, drop, length-drop, drop_of_length-le}
use lib.Seq.{take_all, take-length, drop-length}
use borrow.Author.Tests.{ltb-true, ltb-false}
use Rattle.bits.proofs.SearchLaws.{byBool}

-- what is the same from m on
cut : (f : ℕ → List ℕ) (k m : ℕ) → (m ≤ k → f m ≡ f k) → f (min k m) ≡ f k
cut f k m same =
    byBool (ltb m k)
    (λ e.
    let short = ltb-true m k e in
    let least : min k m ≡ m = omega arith in
    rw least (same (omega arith)))
    (λ e. let long = ltb-false m k e in let least : min k m ≡ k = omega arith in rw least)

pub take-least : (k : ℕ) (s : List ℕ) → take (min k (length s)) s ≡ take k s
take-least k s = cut (λ i. take i s) k (length s) (λ l. take-length s ∙ sym (take_all k s l))

drop-least : (k : ℕ) (s : List ℕ) → drop (min k (length s)) s ≡ drop k s
drop-least k s = cut (λ i. drop i s) k (length s) (λ l. drop-length s ∙ sym (drop_of_length-le s l))

-- as the code lends it
pub part-least : (k : ℕ) (s : List ℕ)
    → take (length s - min k (length s)) (drop (min k (length s)) s) ≡ drop k s
part-least k s =
    let least = min k (length s) in
    take_all (length s - least) (drop least s) (omega (arith, length-drop least s)) ∙ drop-least k s
