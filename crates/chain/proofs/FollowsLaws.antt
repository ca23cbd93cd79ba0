-- Record by record: a list that the rules allow is one in which no record is refused. Assumes nothing.
use mathlib.Core.Path.{◌≡◌, refl}
use mathlib.Core.Bool.{true}
use mathlib.Core.List.{List, [], ◌∷◌, ◌++◌}
use Prim.Native.Nat.{ℕ, zero, suc, suc-le-suc, ◌<◌, ◌≤◌}
use native.Mathlib.Nat.{not-suc-le-zero, zero-lt-suc, le_of_suc-le-suc}
use native.Mathlib.Omega.{arith}
use lib.ListN.{length, get_or, length-append}
use Rattle.codec.specs.Order.{before}
use Rattle.bits.specs.Bits.{Bytes}
use Rattle.record.specs.Record.{Record, key_of, zero_record}
use Rattle.record.specs.Fault.{record_refusal, at}
use Rattle.record.proofs.ToldLaws.{then-zero}
use Rattle.records.specs.Sheet.{most_records, last_key}
use Rattle.records.specs.Check.{first_fault}
use Rattle.chain.specs.Rules.{Ruled, Listed}
use Rattle.chain.proofs.OrderLaws.{before-trans}
use Rattle.chain.proofs.NextLaws.{Next, next-of-none, none-of-next}

-- the first may come next after the pair, and each other after the one before it
abbrev pub Follows : (last : List ℕ) (rs : List Record) → Type 0
Follows last [] = Unit {0}
Follows last (r ∷ rs) = Next last r × Follows (key_of r) rs

pub none-of-follows : (last : List ℕ) (p : ℕ) (rs : List Record) → Follows last rs
    → (first_fault last p rs).number ≡ 0
unfolding first_fault
none-of-follows last p [] h = refl
none-of-follows last p (r ∷ rs) h =
    rw (none-of-next last r h.0) (none-of-follows (key_of r) (suc p) rs h.1)

pub follows-of-none : (last : List ℕ) (p : ℕ) (rs : List Record)
    → ((i : ℕ) → i < length rs → Bytes (get_or rs i zero_record).ten)
    → (first_fault last p rs).number ≡ 0 → Follows last rs
unfolding first_fault
follows-of-none last p [] bytes e = tt
follows-of-none last p (r ∷ rs) bytes e =
    let parts = then-zero (at (record_refusal last r) p) (first_fault (key_of r) (suc p) rs) e in
    let first = next-of-none last r (bytes 0 (zero-lt-suc (length rs))) parts.0 in
    (first, follows-of-none (key_of r) (suc p) rs (λ i l. bytes (suc i) (suc-le-suc l)) parts.1)

-- the front and the rest
pub follows-front : (last : List ℕ) (rs qs : List Record) → Follows last (rs ++ qs) → Follows last rs
follows-front last [] qs h = tt
follows-front last (r ∷ rs) qs h = (h.0, follows-front (key_of r) rs qs h.1)

pub follows-rest : (last : List ℕ) (rs qs : List Record) → Follows last (rs ++ qs)
    → Follows (last_key last rs) qs
follows-rest last [] qs h = h
follows-rest last (r ∷ rs) qs h = follows-rest (key_of r) rs qs h.1

pub follows-append : (last : List ℕ) (rs qs : List Record) → Follows last rs → Follows (last_key last rs) qs
    → Follows last (rs ++ qs)
follows-append last [] qs h k = k
follows-append last (r ∷ rs) qs h k = (h.0, follows-append (key_of r) rs qs h.1 k)

-- every record by its place
follows-each : (last : List ℕ) (rs : List Record) → Follows last rs → (i : ℕ) → i < length rs
    → Ruled (get_or rs i zero_record)
follows-each last [] h i l = absurd (not-suc-le-zero l)
follows-each last (r ∷ rs) h zero l = h.0.ruled
follows-each last (r ∷ rs) h (suc i) l = follows-each (key_of r) rs h.1 i (le_of_suc-le-suc l)

follows-above : (last : List ℕ) (rs : List Record) → Follows last rs → (i : ℕ) → i < length rs
    → before last (key_of (get_or rs i zero_record)) ≡ true
follows-above last [] h i l = absurd (not-suc-le-zero l)
follows-above last (r ∷ rs) h zero l = h.0.above
follows-above last (r ∷ rs) h (suc i) l =
    before-trans last (key_of r) (key_of (get_or rs i zero_record)) h.0.above
    (follows-above (key_of r) rs h.1 i (le_of_suc-le-suc l))

follows-ascends : (last : List ℕ) (rs : List Record) → Follows last rs → (i j : ℕ) → i < j → j < length rs
    → before (key_of (get_or rs i zero_record)) (key_of (get_or rs j zero_record)) ≡ true
follows-ascends last [] h i j l m = absurd (not-suc-le-zero m)
follows-ascends last (r ∷ rs) h i zero l m = absurd (not-suc-le-zero l)
follows-ascends last (r ∷ rs) h zero (suc j) l m = follows-above (key_of r) rs h.1 j (le_of_suc-le-suc m)
follows-ascends last (r ∷ rs) h (suc i) (suc j) l m =
    follows-ascends (key_of r) rs h.1 i j (le_of_suc-le-suc l) (le_of_suc-le-suc m)

pub listed-of-follows : (rs : List Record) → Follows [] rs → length rs ≤ most_records → Listed rs
listed-of-follows rs h few =
    record { each = follows-each [] rs h; ascends = follows-ascends [] rs h; few = few }

-- as `Listed`, after a pair
follows-after : (last : List ℕ) (rs : List Record)
    → ((i : ℕ) → i < length rs → Ruled (get_or rs i zero_record))
    → ((i j : ℕ) → i < j → j < length rs
    → before (key_of (get_or rs i zero_record)) (key_of (get_or rs j zero_record)) ≡ true)
    → (0 < length rs → before last (key_of (get_or rs 0 zero_record)) ≡ true) → Follows last rs
follows-after last [] each ascends above = tt
follows-after last (r ∷ rs) each ascends above =
    let some = zero-lt-suc (length rs) in
    let rest = follows-after (key_of r) rs (λ i l. each (suc i) (suc-le-suc l))
    (λ i j l m. ascends (suc i) (suc j) (suc-le-suc l) (suc-le-suc m))
    (λ l. ascends 0 1 (zero-lt-suc 0) (suc-le-suc l)) in
    (record { ruled = each 0 some; above = above some }, rest)

pub follows-of-listed : (rs : List Record) → Listed rs → Follows [] rs
follows-of-listed rs listed = follows-after [] rs listed.each listed.ascends (λ l. refl)

pub listed-front : (rs qs : List Record) → Listed (rs ++ qs) → Listed rs
listed-front rs qs listed =
    let few = rw (length-append rs qs) at listed.few in
    listed-of-follows rs (follows-front [] rs qs (follows-of-listed (rs ++ qs) listed)) (omega arith)
