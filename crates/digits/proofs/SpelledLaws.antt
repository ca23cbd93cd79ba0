-- What a word spells is what was written. Assumes nothing.
use Rattle.std.specs.Prelude.{Some, Option}
use mathlib.Core.Path.{◌≡◌, refl, sym, ◌∙◌}
use mathlib.Core.Bool.{true}
use mathlib.Core.List.{List, [], ◌∷◌, ◌++◌}
use Prim.Native.Nat.{ℕ, zero, suc, ◌+◌, ◌-◌, ◌*◌, ◌/◌, ◌%◌, ◌^◌, ◌<◌, ◌≤◌}
use native.Mathlib.Nat.{min-eq_left}
use native.Mathlib.Omega.{arith}
use lib.Dec.{eqb, ltb}
use lib.ListN.{length}
use borrow.Author.Tests.{lt-ltb, ltb-true, eq-eqb, eqb-true}
use Rattle.bits.specs.Bits.{Bytes}
use Rattle.bits.specs.Tests.{every}
use Rattle.bits.proofs.ListLaws.{every_append}
use Rattle.bits.proofs.SearchLaws.{byBool}
use Rattle.bits.proofs.TestLaws.{below_at}
use Rattle.words.specs.Text.{Word}
use Rattle.digits.specs.Digits.{digit_code, hexadecimal, decimal_in, decimal}
use Rattle.digits.specs.Spelled.{is_digit, is_number, number_after, number_in, spelled_number, most_number}
use Rattle.digits.specs.Spelled.{digit_value, is_hexadecimal, is_bytes, bytes_in}
use Rattle.digits.specs.Spelled.{spelled_bytes, SpellsBytes}
use Rattle.digits.proofs.DigitLaws.{hexadecimal-length, digits-enough, decimal-some}

-- a digit, read back
digit-is : (x : ℕ) → x < 10 → is_digit (digit_code x) ≡ true
unfolding digit_code
digit-is x l = below_at (λ d. is_digit (digit_code d)) 10 refl x l

digit-back : (x : ℕ) → x < 10 → digit_code x - 48 ≡ x
unfolding digit_code
digit-back x l = eqb-true _ _ (below_at (λ d. eqb (digit_code d - 48) d) 10 refl x l)

value-back : (x : ℕ) → x < 16 → digit_value (digit_code x) ≡ x
unfolding digit_code digit_value
value-back x l = eqb-true _ _ (below_at (λ d. eqb (digit_value (digit_code d)) d) 16 refl x l)

digits_in : (w x : ℕ) → every is_digit (decimal_in w x) ≡ true
unfolding decimal_in
digits_in zero x = refl
digits_in (suc w) x =
    let last = digit-is (x % 10) (omega arith) in
    byBool (ltb x 10) (λ e. rw (e, last))
    (λ e.
    let split = every_append is_digit (decimal_in w (x / 10)) (digit_code (x % 10) ∷ []) in
    rw (e, split, digits_in w (x / 10), last))

pub decimal-digits : (x : ℕ) → every is_digit (decimal x) ≡ true
unfolding decimal
decimal-digits x = digits_in (suc x) x

pub number_is : (x : ℕ) → is_number (decimal x) ≡ true
unfolding is_number
number_is x = rw (lt-ltb 0 (length (decimal x)) (decimal-some x)) (decimal-digits x)

-- one digit more
number_more : (x : ℕ) (word : Word) (c : ℕ)
    → number_after x (word ++ (c ∷ [])) ≡ number_after x word * 10 + (c - 48)
unfolding number_after
number_more x [] c = refl
number_more x (d ∷ word) c = number_more (x * 10 + (d - 48)) word c

number-of : (w x : ℕ) → x < 10 ^ w → number_in (decimal_in w x) ≡ x
unfolding decimal_in number_after
number-of zero x l = omega arith
number-of (suc w) x l =
    let last = digit-back (x % 10) (omega arith) in
    byBool (ltb x 10) (λ e. let small = ltb-true x 10 e in rw (e, last) (omega arith))
    (λ e.
    rw (
      e,
      number_more 0 (decimal_in w (x / 10)) (digit_code (x % 10)),
      number-of w (x / 10) (omega arith),
      last,
    )
    (omega arith))

pub number-back : (x : ℕ) → number_in (decimal x) ≡ x
unfolding decimal
number-back x = number-of (suc x) x (digits-enough x)

pub spelled_back : (x : ℕ) → x ≤ most_number → spelled_number (decimal x) ≡ Some x
unfolding spelled_number
spelled_back x l = rw (number_is x, number-back x, min-eq_left {n = x} {m = most_number} l)

-- hexadecimal digits are read back, and are nothing else
digit-hex : (x : ℕ) → x < 16 → is_hexadecimal (digit_code x) ≡ true
digit-hex x l = rw (value-back x l) (lt-ltb x 16 l)

pub hexadecimal-hex : (s : List ℕ) → every is_hexadecimal (hexadecimal s) ≡ true
unfolding hexadecimal
hexadecimal-hex [] = refl
hexadecimal-hex (x ∷ s) =
    rw (digit-hex (x / 16 % 16) (omega arith), digit-hex (x % 16) (omega arith)) (hexadecimal-hex s)

pub bytes-are : (s : List ℕ) → is_bytes (hexadecimal s) ≡ true
unfolding is_bytes
bytes-are s =
    let even : length (hexadecimal s) % 2 ≡ 0 = omega (arith, hexadecimal-length s) in
    rw (eq-eqb (length (hexadecimal s) % 2) 0 even) (hexadecimal-hex s)

pub bytes_back : (s : List ℕ) → Bytes s → bytes_in (hexadecimal s) ≡ s
unfolding hexadecimal bytes_in
bytes_back [] bytes = refl
bytes_back (x ∷ s) bytes =
    let small : x < 256 = bytes 0 in
    let whole : x / 16 % 16 * 16 + x % 16 ≡ x = omega arith in
    rw (
      value-back (x / 16 % 16) (omega arith),
      value-back (x % 16) (omega arith),
      whole,
      bytes_back s (λ k. bytes (suc k)),
    )

-- two digits to a byte
pub bytes-length : (word : Word) → length (bytes_in word) ≡ length word / 2
unfolding bytes_in
bytes-length [] = refl
bytes-length (c ∷ []) = refl
bytes-length (c ∷ d ∷ word) = let rest = bytes-length word in omega arith

pub bytes-few : (word : Word) (k : ℕ) → spelled_bytes word ≡ Some k → k ≤ length word
unfolding spelled_bytes
bytes-few word k spells =
    byBool (is_bytes word)
    (λ e.
    let told : Some (length (bytes_in word)) ≡ Some k = rw e at spells in
    let same : length (bytes_in word) ≡ k = cc in
    omega (arith, bytes-length word))
    (λ e. absurd (let told = rw e at spells in let z : ◌≡◌ {A = ℕ} 0 1 = cc in omega arith))

-- the promise leaves one answer and one buffer
pub spells-unique : (before after after' : List ℕ) (r q : Option ℕ) → SpellsBytes before after r
    → SpellsBytes before after' q → (r ≡ q) × (after ≡ after')
spells-unique before after after' r q p p' = (p.told ∙ sym p'.told, p.kept ∙ sym p'.kept)
