-- The table of sets keeps its rule, by one test over the whole table. Assumes nothing.
use mathlib.Core.Path.{◌≡◌, refl}
use mathlib.Core.Bool.{Bool, not, true, ◌&&◌, ◌||◌}
use mathlib.Core.List.{List}
use Prim.Native.Nat.{ℕ}
use lib.Dec.{eqb, leb, ltb}
use lib.ListN.{length, get_or}
use borrow.Author.Tests.{eqb-true, leb-true, ltb-true, le-leb}
use Rattle.bits.specs.Bits.{has}
use Rattle.bits.specs.Tests.{below, every, member}
use Rattle.subsets.specs.Masks.{variables_from, variables_in, pins_of_mask, key_of, Small, Rule, masks}
use Rattle.bits.proofs.TestLaws.{both_left, both_right, implied, below_at}
use Rattle.bits.proofs.ListLaws.{every-at, member-at, rises, rises-at}

abbrev pub at_most_four : ℕ → Bool
at_most_four m = leb (length (variables_in m)) 4

abbrev pub small : ℕ → Bool
small m = ltb m 512 && at_most_four m

pub small→Small : (m : ℕ) → small m ≡ true → Small m
small→Small m h =
    record {
      nine = ltb-true m 512 (both_left (ltb m 512) (at_most_four m) h);
      four = leb-true (length (variables_in m)) 4 (both_right (ltb m 512) (at_most_four m) h);
    }

-- a mask of at most four variables is in the table
abbrev listed : List ℕ → ℕ → Bool
listed t m = not (at_most_four m) || member m t

-- the test of the whole table: its length, each entry, the order, and each of the 512 masks
abbrev rule : List ℕ → Bool
rule t = eqb (length t) 256 && (every small t && (rises key_of 0 t && below (listed t) 512))

module _ (t : List ℕ) (h : rule t ≡ true) where
  counted : length t ≡ 256
  counted = eqb-true (length t) 256 (both_left _ _ h)

  pub rule-of : Rule t
  rule-of =
      let entries = both_right (eqb (length t) 256) _ h in
      let later = both_right (every small t) _ entries in
      record {
        count = counted;
        sound =
            λ k l. small→Small (get_or t k 0) (every-at small t (both_left _ _ entries) k (rw counted l));
        order = λ i j l m. rises-at key_of 0 t (both_left _ _ later) i j l (rw counted m);
        complete = λ m s.
            let told = below_at (listed t) 512 (both_right (rises key_of 0 t) _ later) m s.nine in
            rw counted at (member-at m t (implied (at_most_four m) (member m t) told (le-leb _ 4 s.four)));
      }

masks-computed : rule masks ≡ true
unfolding masks has variables_from variables_in pins_of_mask key_of
masks-computed = refl

pub masks-rule : Rule masks
masks-rule = rule-of masks masks-computed
