-- P1 to P12 hold, by one test that antt computes over their table. Assumes nothing.
use Prim.Native.Nat.{ℕ}
use mathlib.Core.Path.{◌≡◌, refl}
use mathlib.Core.Bool.{Bool, true, ◌&&◌}
use mathlib.Core.List.{List, [], ◌∷◌}
use lib.Dec.{eqb}
use borrow.Author.Tests.{eqb-true}
use Rattle.bits.specs.Tests.{below}
use Rattle.bits.proofs.TestLaws.{both_left, both_right, below_at}
use Rattle.block.specs.Table.{table_rows, table_bit}
use Rattle.block.specs.Value.{pin_value, selected, lut_value, h_value, block_value}
use Rattle.block.specs.Tidy.{fields_fit, ordered, unreadable, quiet, rows_quiet}
use Rattle.block.specs.Kind.{carries, letter_code, letter_of, digit_of}
use Rattle.block.specs.Refusal.{table_refusal}
use Rattle.block.proofs.LetterLaws.{letter_code-injective}
use Rattle.codec.specs.Ten.{unpack_of}
use Rattle.codec.specs.Check.{check_refusal}
use Rattle.codec.proofs.CheckLaws.{accepted-of-none}
use Rattle.worked.specs.Worked.{Example, matches, no_table, checks, Holds, AllHold}
use Rattle.worked.specs.Worked.{examples}

abbrev agrees : List ℕ → List ℕ → ℕ → Bool
agrees table s r = eqb (block_value (unpack_of s) r) (table_bit table r)

abbrev test : Example → Bool
test (matches n table letter digit s) =
    eqb (table_refusal n table) 0
    && (eqb (check_refusal n s) 0
    && (eqb (letter_code (letter_of (unpack_of s))) (letter_code letter)
    && (eqb (digit_of (unpack_of s)) digit && below (agrees table s) (table_rows n))))
test (no_table n table number) = eqb (table_refusal n table) number
test (checks n s number) = eqb (check_refusal n s) number

abbrev tests : List Example → Bool
tests [] = true
tests (e ∷ es) = test e && tests es

computed : tests examples ≡ true
unfolding examples table_refusal check_refusal unpack_of fields_fit ordered unreadable quiet rows_quiet
    carries letter_of digit_of table_bit pin_value selected lut_value h_value block_value
computed = refl

eq-and : (m k : ℕ) (b : Bool) → eqb m k && b ≡ true → (m ≡ k) × (b ≡ true)
eq-and m k b h = (eqb-true m k (both_left (eqb m k) b h), both_right (eqb m k) b h)

holds : (e : Example) → test e ≡ true → Holds e
holds (matches n table letter digit s) h =
    let one = eq-and (table_refusal n table) 0 _ h in
    let two = eq-and (check_refusal n s) 0 _ one.1 in
    let three = eq-and (letter_code (letter_of (unpack_of s))) (letter_code letter) _ two.1 in
    let four = eq-and (digit_of (unpack_of s)) digit _ three.1 in
    record {
      well-formed = one.0;
      accepted = two.0;
      tidy = (accepted-of-none n s two.0).tidy;
      has-letter = letter_code-injective _ _ three.0;
      has-digit = four.0;
      computes = record {
        every-row = λ r l.
            eqb-true (block_value (unpack_of s) r) (table_bit table r)
            (below_at (agrees table s) (table_rows n) four.1 r l);
      };
    }
holds (no_table n table number) h = eqb-true (table_refusal n table) number h
holds (checks n s number) h = eqb-true (check_refusal n s) number h

all_hold : (es : List Example) → tests es ≡ true → AllHold es
all_hold [] h = tt
all_hold (e ∷ es) h =
    (holds e (both_left (test e) (tests es) h), all_hold es (both_right (test e) (tests es) h))

pub worked : AllHold examples
worked = all_hold examples computed
