-- The list of useful sets, gathered one by one. Assumes nothing.
use mathlib.Core.Path.{◌≡◌, refl}
use mathlib.Core.Bool.{Bool, true, false, and-false}
use mathlib.Core.List.{List, [], ◌∷◌, ◌++◌}
use Prim.Native.Nat.{ℕ, suc, ◌+◌, ◌-◌, ◌^◌, ◌<◌, ◌≤◌}
use native.Mathlib.Numerals.{add-one}
use native.Mathlib.Omega.{arith}
use lib.Bits.{bit_and}
use lib.Dec.{ltb}
use Rattle.std.specs.List.{list_any}
use Rattle.std.proofs.lemmas.List.Folds.{list_any_at}
use lib.Seq.{take-append_seam}
use lib.ListN.{length, get_or, take, replicate, length-append, length-set, set as put}
use borrow.Author.Tests.{lt-ltb, le-ltb}
use Rattle.bits.specs.Tests.{some}
use Rattle.bits.proofs.SearchLaws.{byBool, some_out, none_out}
use Rattle.subsets.specs.Masks.{masks}
use Rattle.filter.specs.Support.{inputs_of}
use Rattle.filter.specs.Choices.{contains, contained, joining, useful_to, useful_of, filled_up}
use Rattle.filter.proofs.FillLaws.{filled_more}

-- the entries in use are the list
pub used-sets : (size : ℕ) (list : List ℕ) → take (length list) (filled_up size list) ≡ list
used-sets size list = take-append_seam list (replicate (size - length list) 0)

-- a test of some entry, by the places of the list
any-some : (p : ℕ → Bool) (list : List ℕ) → list_any p list ≡ some (λ k. p (get_or list k 0)) (length list)
any-some p list =
    byBool (some (λ k. p (get_or list k 0)) (length list))
    (λ e.
    let at = some_out (λ k. p (get_or list k 0)) (length list) e in
    rw e (list_any_at p list at.0 0 at.1 at.2))
    (λ e. rw e (nowhere list (none_out (λ k. p (get_or list k 0)) (length list) e)))
  where
    nowhere : (rest : List ℕ) → ((k : ℕ) → k < length rest → p (get_or rest k 0) ≡ false)
        → list_any p rest ≡ false
    nowhere [] none = refl
    nowhere (x ∷ rest) none =
        rw (none 0 (omega arith)) (nowhere rest (λ k l. none (suc k) (omega arith)))

-- what the code holds after so many sets of the table
pub record Gathered (n within i : ℕ) (sets : List ℕ) (many : ℕ) : Type 0 where
  pub most : many ≤ i
  pub size : length sets ≡ 256
  pub list : sets ≡ filled_up 256 (useful_to n within i)
  pub counted : many ≡ length (useful_to n within i)

pub gathered-start : (n within : ℕ) → Gathered n within 0 (replicate 256 0) 0
unfolding useful_to
gathered-start n within = record { most = omega arith; size = refl; list = refl; counted = refl }

module _ (n within i : ℕ) (sets : List ℕ) (many : ℕ) (held : Gathered n within i sets many) where
  abbrev list-now : List ℕ
  list-now = useful_to n within i

  abbrev next-set : ℕ
  next-set = get_or masks i 0

  -- the code's test is that of the list
  pub tested : list_any (λ set. contains set (bit_and next-set within)) (take many sets)
      ≡ contained within list-now next-set
  tested =
      rw (held.list, held.counted, used-sets 256 list-now)
      (any-some (λ set. contains set (bit_and next-set within)) list-now)

  same-list : useful_to n within (i + 1) ≡ list-now → Gathered n within (i + 1) sets many
  same-list e =
      record {
        most = omega (arith, held.most);
        size = held.size;
        list = rw e held.list;
        counted = rw e held.counted;
      }

  pub gathered-past : 2 ^ n ≤ next-set → Gathered n within (i + 1) sets many
  unfolding useful_to joining
  gathered-past l = same-list (rw (add-one i, le-ltb next-set (2 ^ n) l))

  pub gathered-contained : contained within list-now next-set ≡ true → Gathered n within (i + 1) sets many
  unfolding useful_to joining
  gathered-contained h =
      same-list (rw (add-one i, h, and-false (ltb next-set (2 ^ n))))

  joined-list : next-set < 2 ^ n → contained within list-now next-set ≡ false
      → useful_to n within (i + 1) ≡ list-now ++ (next-set ∷ [])
  unfolding useful_to joining
  joined-list l h = rw (add-one i, lt-ltb next-set (2 ^ n) l, h)

  pub gathered-more : i < 256 → next-set < 2 ^ n → contained within list-now next-set ≡ false
      → Gathered n within (i + 1) (put sets many next-set) (many + 1)
  gathered-more room l h =
      let e = joined-list l h in
      let longer = length-append list-now (next-set ∷ []) in
      let counted = held.counted in
      let most = held.most in
      record {
        most = omega arith;
        size = simp length-set held.size;
        list = rw (held.list, counted, e) (filled_more 256 list-now next-set (omega arith));
        counted = rw (e, longer, counted);
      }

pub gathered-all : (n within : ℕ) (sets : List ℕ) (many : ℕ)
    → Gathered (inputs_of n) within 256 sets many
    → (sets ≡ filled_up 256 (useful_of n within)) × (many ≡ length (useful_of n within))
unfolding useful_of
gathered-all n within sets many held = (held.list, held.counted)
