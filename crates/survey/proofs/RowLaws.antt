-- What the thirteen rows allow, by one test over them: letter A with digit x up to 4 and 9 - x
-- variables, letter B with x up to 3 and 8 - x, letter C with x up to 3 and 7 - x. Assumes nothing.
use mathlib.Core.Path.{◌≡◌, refl}
use mathlib.Core.Bool.{Bool, true, false, not, ◌&&◌, ◌||◌, false≢true}
use mathlib.Core.List.{List, [], ◌∷◌}
use Prim.Native.Nat.{ℕ, suc, suc-le-suc, ◌+◌, ◌<◌, ◌≤◌}
use native.Mathlib.Nat.{zero-lt-suc}
use native.Mathlib.Omega.{arith}
use lib.Dec.{eqb, leb, ltb}
use lib.ListN.{length, get_or}
use borrow.Author.Tests.{eqb-true, leb-true, ltb-true, le-leb}
use Rattle.bits.specs.Tests.{below}
use Rattle.block.specs.Kind.{letter_code}
use Rattle.block.proofs.LetterLaws.{letter_code-injective}
use Rattle.block.specs.declared.Letter.{Letter}
use Rattle.block.specs.declared.Letter.TheVariants.{A, B, C}
use Rattle.bits.proofs.TestLaws.{both_left, both_right, implied, or_cases, below_at}
use Rattle.survey.specs.Survey.{TypeRow, type_row, thirteen, type_row_at, Within}

abbrev pub same_letter : (l m : Letter) → Bool
same_letter l m = eqb (letter_code l) (letter_code m)

pub same_letter-eq : (l m : Letter) → same_letter l m ≡ true → l ≡ m
same_letter-eq l m h = letter_code-injective l m (eqb-true (letter_code l) (letter_code m) h)

-- a row has this type and allows so many variables
abbrev allows : Letter → ℕ → ℕ → TypeRow → Bool
allows l x variables r = same_letter r.letter l && (eqb r.digit x && leb variables r.most)

abbrev some_allows : Letter → ℕ → ℕ → List TypeRow → Bool
some_allows l x variables [] = false
some_allows l x variables (r ∷ rows) = allows l x variables r || some_allows l x variables rows

module _ (l : Letter) (x variables : ℕ) where
  abbrev Allowed : List TypeRow → Type 0
  Allowed rows = (k : ℕ) × (k < length rows) × (allows l x variables (get_or rows k (type_row A 0 0)) ≡ true)

  allowed : (rows : List TypeRow) → some_allows l x variables rows ≡ true → Allowed rows
  allowed [] h = absurd (false≢true h)
  allowed (r ∷ rows) h =
      or_cases (allows l x variables r) (some_allows l x variables rows) (Allowed (r ∷ rows)) h
      (λ here. (0, zero-lt-suc (length rows), here))
      (λ there. let rest = allowed rows there in (suc rest.0, suc-le-suc rest.1, rest.2))

  in-thirteen : some_allows l x variables thirteen ≡ true → Within l x variables
  unfolding thirteen
  in-thirteen h =
      let found = allowed thirteen h in
      let r = type_row_at found.0 in
      let numbers = both_right (same_letter r.letter l) _ found.2 in
      record {
        place = found.0;
        listed = found.1;
        letter = same_letter-eq r.letter l (both_left _ _ found.2);
        digit = eqb-true r.digit x (both_left _ _ numbers);
        few = leb-true variables r.most (both_right (eqb r.digit x) _ numbers);
      }

-- one more than the greatest digit of the letter
abbrev digits : Letter → ℕ
digits A = 5
digits B = 4
digits C = 4

-- digit and variables together are at most this
abbrev limit : Letter → ℕ
limit A = 9
limit B = 8
limit C = 7

abbrev digit_right : Letter → ℕ → ℕ → Bool
digit_right l x variables = not (leb (x + variables) (limit l)) || some_allows l x variables thirteen

abbrev letter_right : Letter → Bool
letter_right l = below (λ x. below (digit_right l x) 10) (digits l)

rows-computed : letter_right A && (letter_right B && letter_right C) ≡ true
unfolding thirteen
rows-computed = refl

letter-right : (l : Letter) → letter_right l ≡ true
letter-right A = both_left (letter_right A) _ rows-computed
letter-right B = both_left (letter_right B) _ (both_right (letter_right A) _ rows-computed)
letter-right C = both_right (letter_right B) _ (both_right (letter_right A) _ rows-computed)

limit-lt : (l : Letter) → limit l < 10
limit-lt A = omega arith
limit-lt B = omega arith
limit-lt C = omega arith

within-limit : (l : Letter) (x variables : ℕ) → x < digits l → x + variables ≤ limit l
    → Within l x variables
within-limit l x variables low few =
    let at_x = below_at (λ x. below (digit_right l x) 10) (digits l) (letter-right l) x low in
    let told = below_at (digit_right l x) 10 at_x variables (omega (arith, limit-lt l)) in
    in-thirteen l x variables (implied (leb (x + variables) (limit l)) _ told (le-leb _ _ few))

-- the rows allow this letter, digit and number of variables
abbrev pub within : Letter → ℕ → ℕ → Bool
within l x variables = ltb x (digits l) && leb (x + variables) (limit l)

pub within→Within : (l : Letter) (x variables : ℕ) → within l x variables ≡ true → Within l x variables
within→Within l x variables h =
    within-limit l x variables (ltb-true x (digits l) (both_left _ _ h))
    (leb-true (x + variables) (limit l) (both_right (ltb x (digits l)) _ h))
