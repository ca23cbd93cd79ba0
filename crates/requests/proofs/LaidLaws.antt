-- The builds that are not broken are whole requests back to back, and two of them one after the other
-- are one. Assumes nothing.
use mathlib.Core.Path.{◌≡◌, refl, sym, ap, ap₂, ◌∙◌}
use mathlib.Core.Bool.{true, false}
use mathlib.Core.List.{List, [], ◌∷◌, ◌++◌}
use Prim.Native.Nat.{ℕ, zero, suc, ◌≤◌}
use native.Mathlib.Omega.{arith}
use lib.Dec.{eqb, leb}
use lib.ListN.{length, take, drop, length-append, length-drop, take-append-drop}
use lib.Seq.{length-take-le, take-append-le, drop-append-le, take_at, drop_at}
use borrow.Author.Tests.{leb-true, eqb-true, le-leb, eq-eqb}
use Rattle.bits.specs.Tests.{all}
use Rattle.bits.proofs.TestLaws.{both_left, both_right, either-false}
use Rattle.bits.proofs.AnyLaws.{any_append}
use Rattle.block.specs.Table.{table_bytes}
use Rattle.requests.specs.Requests.{Request, request_at, requests_of, is_broken, broken}
use Rattle.requests.specs.Requests.{is_whole, laid}
use Rattle.requests.proofs.RequestLaws.{requests-none, requests-next, broken-none, broken-next}
use Rattle.requests.proofs.RequestLaws.{Fits, fits-of-unbroken, unbroken-of-fits}

-- a build that is not broken is empty, or a whole request and such a build
record Begun (n : ℕ) (s : List ℕ) : Type 0 where
  whole : Fits n s
  rest : broken (drop (table_bytes n) s) ≡ false

begun : (n : ℕ) (s : List ℕ) → broken (n ∷ s) ≡ false → Begun n s
begun n s e =
    let rest = drop (table_bytes n) s in
    let parts = either-false (is_broken (request_at n s)) (broken rest) (sym (broken-next n s) ∙ e) in
    record { whole = fits-of-unbroken n s parts.0; rest = parts.1 }

-- what holds of the empty build, and of a whole request before a build of which it holds
by-request : (P : List ℕ → Type 0) → P []
    → ((n : ℕ) (s : List ℕ) → Fits n s → broken (drop (table_bytes n) s) ≡ false
    → P (drop (table_bytes n) s) → P (n ∷ s))
    → (s : List ℕ) → broken s ≡ false → P s
by-request P none more s e = go (length s) s (omega arith) e
  where
    go : (most : ℕ) (s : List ℕ) → length s ≤ most → broken s ≡ false → P s
    go zero [] l e = none
    go zero (n ∷ s) l e = absurd (omega arith)
    go (suc most) [] l e = none
    go (suc most) (n ∷ s) l e =
        let b = begun n s e in
        let fewer = length-drop (table_bytes n) s in
        more n s b.whole b.rest (go most (drop (table_bytes n) s) (omega arith) b.rest)

pub all_whole : (s : List ℕ) → broken s ≡ false → all is_whole (requests_of s) ≡ true
unfolding is_whole
all_whole =
    by-request (λ s. all is_whole (requests_of s) ≡ true) (rw requests-none)
    (λ n s w sound rest.
    rw (
      requests-next n s,
      le-leb n 9 w.few,
      eq-eqb _ _ (length-take-le (table_bytes n) s w.within),
      rest,
    ))

-- laid back to back again they are the build
pub build-laid : (s : List ℕ) → broken s ≡ false → laid (requests_of s) ≡ s
unfolding laid
build-laid =
    by-request (λ s. laid (requests_of s) ≡ s) (rw requests-none)
    (λ n s w sound rest.
    rw (requests-next n s, rest) (ap (λ (x : List ℕ). n ∷ x) (take-append-drop (table_bytes n) s)))

-- what makes a request whole
pub whole_of : (q : Request) → is_whole q ≡ true → (q.n ≤ 9) × (length q.table ≡ table_bytes q.n)
unfolding is_whole
whole_of q e = (
  leb-true q.n 9 (both_left (leb q.n 9) (eqb (length q.table) (table_bytes q.n)) e),
  eqb-true _ _ (both_right (leb q.n 9) (eqb (length q.table) (table_bytes q.n)) e),
)

-- and any whole requests are those of the build that they make
pub laid-back : (qs : List Request) → all is_whole qs ≡ true
    → (requests_of (laid qs) ≡ qs) × (broken (laid qs) ≡ false)
unfolding laid
laid-back [] e = (requests-none, broken-none)
laid-back (q ∷ qs) e =
    let here = whole_of q (both_left (is_whole q) (all is_whole qs) e) in
    let rest = laid-back qs (both_right (is_whole q) (all is_whole qs) e) in
    let s = q.table ++ laid qs in
    let first : take (table_bytes q.n) s ≡ q.table = take_at q.table (laid qs) _ here.1 in
    let others : drop (table_bytes q.n) s ≡ laid qs = drop_at q.table (laid qs) _ here.1 in
    let same : request_at q.n s ≡ q = ap (λ (t : List ℕ). record { n = q.n; table = t }) first in
    let whole : Fits q.n s =
    record { few = here.0; within = omega (arith, here.1, length-append q.table (laid qs)) } in (
      requests-next q.n s ∙ ap₂ ◌∷◌ same (ap requests_of others ∙ rest.0),
      broken-next q.n s ∙ rw (unbroken-of-fits q.n s whole, others) rest.1,
    )

-- after a build that is not broken the requests go on
module _ (t : List ℕ) where
  pub two-builds : (s : List ℕ) → broken s ≡ false → requests_of (s ++ t) ≡ requests_of s ++ requests_of t
  two-builds =
      by-request (λ s. requests_of (s ++ t) ≡ requests_of s ++ requests_of t) (rw requests-none)
      (λ n s w sound rest.
      let size = table_bytes n in
      requests-next n (s ++ t)
      ∙ rw (requests-next n s, take-append-le size s t w.within, drop-append-le size s t w.within)
      (ap (λ (qs : List Request). request_at n s ∷ qs) rest))

  pub two-broken : (s : List ℕ) → broken s ≡ false → broken (s ++ t) ≡ broken t
  unfolding broken
  two-broken s e =
      rw (two-builds s e, any_append is_broken (requests_of s) (requests_of t)) (rw e refl)
