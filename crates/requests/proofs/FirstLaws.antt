-- The first request as the code measures it. Assumes nothing.
use Rattle.std.specs.Prelude.{None, Some}
use mathlib.Core.Path.{◌≡◌, refl}
use mathlib.Core.Bool.{Bool, true, false, ◌||◌}
use mathlib.Core.List.{List, [], ◌∷◌}
use Prim.Native.Nat.{ℕ, ◌+◌}
use native.Mathlib.Omega.{arith}
use lib.Dec.{eqb, leb, ltb}
use lib.ListN.{length, take, length-take}
use borrow.Author.Tests.{ltb-true, lt-ltb, leb-true, leb-false, le-ltb, ne_eqb}
use Rattle.bits.proofs.SearchLaws.{byBool, clash}
use Rattle.bits.proofs.TestLaws.{same_test}
use Rattle.block.specs.Table.{table_bytes, table_length}
use Rattle.block.proofs.TableLaws.{bytes-some}
use Rattle.requests.specs.Requests.{request_at, is_broken, first_bytes}

-- what is there of a table is too short exactly if all that follows is
cut_short : (size : ℕ) (s : List ℕ) → ltb (length (take size s)) size ≡ ltb (length s) size
cut_short size s =
    let cut = length-take size s in
    same_test _ _
    (λ e. let l = ltb-true (length (take size s)) size e in lt-ltb (length s) size (omega arith))
    (λ e. let l = ltb-true (length s) size e in lt-ltb (length (take size s)) size (omega arith))

-- there is no table of n inputs, or it has more bytes than follow
abbrev pub unread : (n : ℕ) (s : List ℕ) → Bool
unread n s = eqb (table_length n) 0 || ltb (length s) (table_length n)

unread-broken : (n : ℕ) (s : List ℕ) → is_broken (request_at n s) ≡ unread n s
unfolding is_broken
unread-broken n s =
    byBool (leb n 9)
    (λ e.
    let few = leb-true n 9 e in
    let some = bytes-some n in
    rw (
      e,
      le-ltb 9 n few,
      ne_eqb (table_bytes n) 0 (λ none. omega arith),
      cut_short (table_bytes n) s,
    ))
    (λ e. rw (e, lt-ltb 9 n (leb-false n 9 e)))

pub first_none : (s : List ℕ) → length s ≡ 0 → first_bytes s ≡ None
unfolding first_bytes
first_none [] e = refl
first_none (n ∷ s) e = absurd (omega arith)

pub first_lost : (n : ℕ) (s : List ℕ) → unread n s ≡ true → None ≡ first_bytes (n ∷ s)
unfolding first_bytes
first_lost n s e = rw (unread-broken n s, e)

pub first_found : (n : ℕ) (s : List ℕ) → unread n s ≡ false → Some (1 + table_length n) ≡ first_bytes (n ∷ s)
unfolding first_bytes
first_found n s e =
    rw (unread-broken n s, e)
    (byBool (leb n 9) (λ few. rw few) (λ many. clash {b = true} refl (rw many at e)))
