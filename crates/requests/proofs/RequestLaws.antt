-- The requests of a build, one by one. Assumes nothing.
use Rattle.std.specs.Prelude.{None, Some}
use Rattle.std.proofs.lemmas.Option.{none-some, same_Some}
use mathlib.Core.Path.{◌≡◌, refl, sym, ap, ◌∙◌}
use mathlib.Core.Bool.{true, false, ◌||◌}
use mathlib.Core.List.{List, [], ◌∷◌}
use Prim.Native.Nat.{ℕ, zero, suc, ◌+◌, ◌*◌, ◌<◌, ◌≤◌}
use native.Mathlib.Omega.{arith}
use lib.Dec.{ltb}
use lib.ListN.{length, take, drop, get_or, length-take, length-drop}
use lib.Seq.{length-take-le}
use borrow.Author.Tests.{ltb-false, le-ltb}
use Rattle.bits.specs.Tests.{any}
use Rattle.bits.proofs.SearchLaws.{byBool}
use Rattle.bits.proofs.TestLaws.{either-false}
use Rattle.block.specs.Table.{table_bytes}
use Rattle.block.specs.Refusal.{too_many_inputs}
use Rattle.block.proofs.TableLaws.{bytes-some}
use Rattle.requests.specs.Requests.{Request, request_at, requests_in, requests_of, is_broken, broken}
use Rattle.requests.specs.Requests.{first_request, first_bytes}

-- however many requests are allowed, if not fewer than bytes
in-same : (a b : ℕ) (s : List ℕ) → length s ≤ a → length s ≤ b → requests_in a s ≡ requests_in b s
unfolding requests_in
in-same zero zero s l m = refl
in-same zero (suc b) [] l m = refl
in-same zero (suc b) (n ∷ s) l m = absurd (omega arith)
in-same (suc a) zero [] l m = refl
in-same (suc a) zero (n ∷ s) l m = absurd (omega arith)
in-same (suc a) (suc b) [] l m = refl
in-same (suc a) (suc b) (n ∷ s) l m =
    let fewer = length-drop (table_bytes n) s in
    ap (λ (qs : List Request). request_at n s ∷ qs)
    (in-same a b (drop (table_bytes n) s) (omega arith) (omega arith))

pub requests-none : requests_of [] ≡ []
unfolding requests_of requests_in
requests-none = refl

-- the first request, and those of the rest
pub requests-next : (n : ℕ) (s : List ℕ)
    → requests_of (n ∷ s) ≡ request_at n s ∷ requests_of (drop (table_bytes n) s)
unfolding requests_of requests_in
requests-next n s =
    let rest = drop (table_bytes n) s in
    let fewer = length-drop (table_bytes n) s in
    ap (λ (qs : List Request). request_at n s ∷ qs)
    (in-same (length s) (length rest) rest (omega arith) (omega arith))

pub broken-none : broken [] ≡ false
unfolding broken
broken-none = rw requests-none

pub broken-next : (n : ℕ) (s : List ℕ)
    → broken (n ∷ s) ≡ is_broken (request_at n s) || broken (drop (table_bytes n) s)
unfolding broken
broken-next n s = rw (requests-next n s)

-- n is at most 9, and its table is there
pub record Fits (n : ℕ) (s : List ℕ) : Type 0 where
  pub few : n ≤ 9
  pub within : table_bytes n ≤ length s

pub fits-of-unbroken : (n : ℕ) (s : List ℕ) → is_broken (request_at n s) ≡ false → Fits n s
unfolding is_broken
fits-of-unbroken n s e =
    let size = table_bytes n in
    let parts = either-false (too_many_inputs n) (ltb (length (take size s)) size) e in
    let there = ltb-false (length (take size s)) size parts.1 in
    record { few = ltb-false 9 n parts.0; within = omega (arith, length-take size s) }

pub unbroken-of-fits : (n : ℕ) (s : List ℕ) → Fits n s → is_broken (request_at n s) ≡ false
unfolding is_broken
unbroken-of-fits n s w =
    rw (
      le-ltb 9 n w.few,
      length-take-le (table_bytes n) s w.within,
      le-ltb (table_bytes n) (table_bytes n) (omega arith),
    )

-- the first request is whole and has so many bytes, and what that leaves
pub record Led (s : List ℕ) (size : ℕ) : Type 0 where
  pub few : get_or s 0 0 ≤ 9
  pub bytes : size ≡ 1 + table_bytes (get_or s 0 0)
  pub within : size ≤ length s
  pub requests : requests_of s ≡ first_request s ∷ requests_of (drop size s)
  pub others : broken s ≡ broken (drop size s)

led-by : (n : ℕ) (s : List ℕ) (size : ℕ) → is_broken (request_at n s) ≡ false → size ≡ suc (table_bytes n)
    → Led (n ∷ s) size
led-by n s size e sized =
    let whole = fits-of-unbroken n s e in
    record {
      few = whole.few;
      bytes = omega (arith, sized);
      within = omega (arith, sized, whole.within);
      requests = rw sized (requests-next n s);
      others = rw sized (broken-next n s ∙ rw e refl);
    }

-- a first request that has bytes, and one that has none
pub led : (s : List ℕ) (size : ℕ) → first_bytes s ≡ Some size → Led s size
unfolding first_bytes
led [] size some = absurd (none-some size some)
led (n ∷ s) size some =
    byBool (is_broken (request_at n s)) (λ e. absurd (none-some size (rw e at some)))
    (λ e. led-by n s size e (sym (same_Some _ _ (rw e at some)) ∙ omega arith))

pub first-broken : (s : List ℕ) → 0 < length s → first_bytes s ≡ None → broken s ≡ true
unfolding first_bytes
first-broken [] l none = absurd (omega arith)
first-broken (n ∷ s) l none =
    byBool (is_broken (request_at n s)) (λ e. broken-next n s ∙ rw e refl)
    (λ e. absurd (none-some _ (sym (rw e at none))))

-- no more requests than bytes
in-few : (most : ℕ) (s : List ℕ) → length (requests_in most s) ≤ most
unfolding requests_in
in-few zero s = omega arith
in-few (suc most) [] = omega arith
in-few (suc most) (n ∷ s) = omega (arith, in-few most (drop (table_bytes n) s))

pub requests-few : (s : List ℕ) → length (requests_of s) ≤ length s
unfolding requests_of
requests-few s = in-few (length s) s

-- where none is broken, there are no more requests than half as many bytes
in-half : (most : ℕ) (s : List ℕ) → any is_broken (requests_in most s) ≡ false
    → 2 * length (requests_in most s) ≤ length s
unfolding requests_in
in-half zero s e = omega arith
in-half (suc most) [] e = omega arith
in-half (suc most) (n ∷ s) e =
    let rest = drop (table_bytes n) s in
    let parts = either-false (is_broken (request_at n s)) (any is_broken (requests_in most rest)) e in
    let whole = fits-of-unbroken n s parts.0 in
    omega (
      arith,
      in-half most rest parts.1,
      whole.within,
      bytes-some n,
      length-drop (table_bytes n) s,
    )

pub requests-half : (s : List ℕ) → broken s ≡ false → 2 * length (requests_of s) ≤ length s
unfolding broken requests_of
requests-half s e = in-half (length s) s e
