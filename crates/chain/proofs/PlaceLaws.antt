-- The place of a number pair in a list of records. Assumes nothing.
use mathlib.Core.Path.{◌≡◌, refl, sym, ap, ◌∙◌}
use mathlib.Core.Bool.{Bool, true, false, false≢true}
use mathlib.Core.List.{List, [], ◌∷◌}
use Prim.Native.Nat.{ℕ, zero, suc, suc-le-suc, ◌<◌}
use native.Mathlib.Nat.{not-suc-le-zero, zero-lt-suc, le_of_suc-le-suc}
use lib.ListN.{length, get_or}
use Rattle.bits.proofs.ListLaws.{alike-eq, alike_self}
use Rattle.codec.specs.Order.{before}
use Rattle.record.specs.Record.{Record, pair_of, zero_record, key_of, has_key}
use Rattle.record.specs.Fault.{unassigned}
use Rattle.finding.specs.Find.{place_in}
use Rattle.chain.specs.Rules.{Ruled, Listed}
use Rattle.chain.proofs.OrderLaws.{before-irreflexive}
use Rattle.chain.proofs.NextLaws.{ruled-assigned}

has_other : (key : List ℕ) (r : Record) → (key ≡ key_of r → ⊥) → has_key key r ≡ false
has_other key r differs = at_test (has_key key r) refl
  where
    at_test : (same : Bool) → has_key key r ≡ same → same ≡ false
    at_test true e = absurd (differs (alike-eq key (key_of r) e))
    at_test false e = refl

-- of two records in order, the first has not the other's pair
before-other : (r q : Record) → before (key_of r) (key_of q) ≡ true → has_key (key_of q) r ≡ false
before-other r q h =
    has_other (key_of q) r
    (λ same. false≢true (sym (before-irreflexive (key_of r)) ∙ ap (before (key_of r)) (sym same) ∙ h))

-- an allowed record has no pair that is out of range
pub ruled-other : (craft block : ℕ) (r : Record) → Ruled r → unassigned craft block ≡ true
    → has_key (pair_of craft block) r ≡ false
ruled-other craft block r ruled out =
    has_other (pair_of craft block) r
    (λ same. let first : craft ≡ r.craft = ap (λ (t : List ℕ). get_or t 0 0) same in
    let second : block ≡ r.block = ap (λ (t : List ℕ). get_or t 1 0) same in
    false≢true (sym (ruled-assigned r ruled) ∙ rw (first, second) at out))

module _ (key : List ℕ) where
  pub place_in-first : (rs : List Record) (i : ℕ) → i < length rs
      → has_key key (get_or rs i zero_record) ≡ true
      → ((j : ℕ) → j < i → has_key key (get_or rs j zero_record) ≡ false) → place_in key rs ≡ i
  place_in-first [] i l h none = absurd (not-suc-le-zero l)
  place_in-first (r ∷ rs) zero l h none = rw h
  place_in-first (r ∷ rs) (suc i) l h none =
      rw (none 0 (zero-lt-suc i))
      (ap suc (place_in-first rs i (le_of_suc-le-suc l) h (λ j m. none (suc j) (suc-le-suc m))))

  pub place_in-absent : (rs : List Record)
      → ((i : ℕ) → i < length rs → has_key key (get_or rs i zero_record) ≡ false)
      → place_in key rs ≡ length rs
  place_in-absent [] none = refl
  place_in-absent (r ∷ rs) none =
      rw (none 0 (zero-lt-suc (length rs)))
      (ap suc (place_in-absent rs (λ i l. none (suc i) (suc-le-suc l))))

-- a listed record is the first with its pair
pub place_in-listed : (rs : List Record) → Listed rs → (i : ℕ) → i < length rs
    → place_in (key_of (get_or rs i zero_record)) rs ≡ i
place_in-listed rs listed i l =
    let r = get_or rs i zero_record in
    place_in-first (key_of r) rs i l (alike_self (key_of r))
    (λ j m. before-other (get_or rs j zero_record) r (listed.ascends j i m l))
