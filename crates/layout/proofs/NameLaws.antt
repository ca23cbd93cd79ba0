-- The names a, b, c and so on, and z: each is a name, and no two are the same. Assumes nothing.
use mathlib.Core.Path.{◌≡◌, refl, ap}
use mathlib.Core.Bool.{true, false}
use mathlib.Core.List.{[], ◌∷◌, ◌++◌}
use Prim.Native.Nat.{ℕ, zero, suc, ◌+◌, ◌<◌, ◌≤◌}
use native.Mathlib.Omega.{arith}
use lib.ListN.{length}
use borrow.Author.Tests.{lt-ltb, ne_eqb}
use Rattle.bits.specs.Tests.{alike, all, any}
use Rattle.bits.proofs.AnyLaws.{any_append}
use Rattle.blif.specs.Part.{is_name, repeats}
use Rattle.layout.specs.Written.{input_names, output_name}
use Rattle.words.proofs.PlainLaws.{is_plain}

pub names-length : (i count : ℕ) → length (input_names i count) ≡ count
unfolding input_names
names-length i zero = refl
names-length i (suc count) = ap suc (names-length (suc i) count)

pub names-plain : (i count : ℕ) → all is_plain (input_names i count) ≡ true
unfolding input_names
names-plain i zero = refl
names-plain i (suc count) = rw (lt-ltb 35 (97 + i) (omega arith)) (names-plain (suc i) count)

letter-name : (i : ℕ) → i < 26 → is_name ((97 + i) ∷ []) ≡ true
letter-name i l =
    rw (
      lt-ltb 32 (97 + i) (omega arith),
      lt-ltb (97 + i) 127 (omega arith),
      ne_eqb (97 + i) 35 (omega arith),
      ne_eqb (97 + i) 92 (omega arith),
    )

pub names-named : (i count : ℕ) → i + count ≤ 26 → all is_name (input_names i count) ≡ true
unfolding input_names
names-named i zero most = refl
names-named i (suc count) most =
    rw (letter-name i (omega arith)) (names-named (suc i) count (omega arith))

-- a letter is none of those after it, nor z
other-names : (k i count : ℕ) → k < i → any (alike ((97 + k) ∷ [])) (input_names i count) ≡ false
unfolding input_names
other-names k i zero l = refl
other-names k i (suc count) l =
    rw (ne_eqb (97 + k) (97 + i) (omega arith)) (other-names k (suc i) count (omega arith))

pub names_apart : (i count : ℕ) → i + count ≤ 25
    → repeats (input_names i count ++ output_name ∷ []) ≡ false
unfolding input_names repeats
names_apart i zero most = refl
names_apart i (suc count) most =
    rw (
      any_append (alike ((97 + i) ∷ [])) (input_names (suc i) count) (output_name ∷ []),
      other-names i (suc i) count (omega arith),
      ne_eqb (97 + i) 122 (omega arith),
    )
    (names_apart (suc i) count (omega arith))
