-- What the list of useful sets keeps of the table: its order, and for every set an entry that serves.
-- Assumes nothing.
use mathlib.Core.Path.{◌≡◌, refl, sym, ap, ◌∙◌}
use mathlib.Core.Bool.{true}
use mathlib.Core.List.{List, [], ◌∷◌, ◌++◌}
use Prim.Native.Nat.{ℕ, zero, suc, ◌+◌, ◌^◌, ◌<◌, ◌≤◌, min}
use native.Mathlib.Nat.{not-suc-le-zero}
use native.Mathlib.Omega.{arith}
use lib.Bits.{bit_and}
use lib.Dec.{ltb, eqb}
use lib.ListN.{length, get_or, length-append, get_or-append}
use lib.Seq.{get_or-append_seam}
use borrow.Author.Tests.{ltb-true, ltb-false, eqb-true, eqb-false}
use Rattle.bits.specs.Bits.{has}
use Rattle.bits.proofs.SearchLaws.{byBool, some_out}
use Rattle.bits.proofs.BitLaws.{has-and}
use Rattle.subsets.specs.Masks.{masks, key_of, Small}
use Rattle.subsets.proofs.MaskLaws.{masks-rule}
use Rattle.filter.specs.Choices.{contains, contained, joining, useful_to, useful_of, Listed}

-- the set has the variables of m inside `within`
abbrev Serves : (within m set : ℕ) → Type 0
Serves within m set = (v : ℕ) → has m v ≡ true → has within v ≡ true → has set v ≡ true

contains-serves : (within m set : ℕ) → contains set (bit_and m within) ≡ true → Serves within m set
contains-serves within m set h v in-m in_within =
    let part = bit_and m within in
    let on : has part v ≡ true = has-and m within v ∙ rw (in-m, in_within) in
    let same = eqb-true (bit_and part set) part h in
    let both = sym (has-and part set v) ∙ ap (λ (x : ℕ). has x v) same ∙ on in
    rw on at both

-- an entry for m that is not after it
abbrev Serving : (within : ℕ) (list : List ℕ) (m : ℕ) → Type 0
Serving within list m =
    (k : ℕ) × (k < length list) × (key_of (get_or list k 0) ≤ key_of m) × Serves within m (get_or list k 0)

-- an entry is one of the first sets of the table
abbrev Entry : (n i set : ℕ) → Type 0
Entry n i set = (j : ℕ) × (j < i) × (set ≡ get_or masks j 0) × (set < 2 ^ n)

-- the list as it stands after so many sets of the table
record Listing (n within i : ℕ) (list : List ℕ) : Type 0 where
  short : length list ≤ i
  entry : (k : ℕ) → k < length list → Entry n i (get_or list k 0)
  rises : (b a : ℕ) → b < length list → a < b → key_of (get_or list a 0) < key_of (get_or list b 0)
  serving : (j : ℕ) → j < i → get_or masks j 0 < 2 ^ n → Serving within list (get_or masks j 0)

-- what holds of each entry of a list, and of one more at its end
ending : (P : ℕ → ℕ → Type 0) (list : List ℕ) (x : ℕ)
    → ((k : ℕ) → k < length list → P k (get_or list k 0)) → P (length list) x
    → (k : ℕ) → k < length (list ++ (x ∷ [])) → P k (get_or (list ++ (x ∷ [])) k 0)
ending P list x old last k l =
    let longer : length (list ++ (x ∷ [])) ≡ length list + 1 = length-append list (x ∷ []) in
    byBool (ltb k (length list))
    (λ e.
    let within = ltb-true k (length list) e in
    rw (get_or-append list (x ∷ []) 0 k within) (old k within))
    (λ e.
    let past = ltb-false k (length list) e in
    let same : k ≡ length list = omega arith in
    rw (same, get_or-append_seam list x [] 0) last)

module _ (n within i : ℕ) (list : List ℕ) (so_far : Listing n within i list) (room : i < 256) where
  abbrev set : ℕ
  set = get_or masks i 0

  older : (x : ℕ) → Entry n i x → Entry n (suc i) x
  older x e = (e.0, omega (arith, e.1), e.2, e.3)

  before : (x : ℕ) → Entry n i x → key_of x < key_of set
  before x e = rw e.2 (masks-rule.order e.0 i e.1 room)

  -- every set up to this one, from those before it and this one
  up_to : (longer : List ℕ)
      → ((j : ℕ) → j < i → get_or masks j 0 < 2 ^ n → Serving within longer (get_or masks j 0))
      → (set < 2 ^ n → Serving within longer set)
      → (j : ℕ) → j < suc i → get_or masks j 0 < 2 ^ n → Serving within longer (get_or masks j 0)
  up_to longer old last j l m =
      byBool (eqb j i) (λ e. let same = eqb-true j i e in rw same (last (rw same at m)))
      (λ e. let other = eqb-false j i e in old j (omega arith) m)

  left_out : (set < 2 ^ n → Serving within list set) → Listing n within (suc i) list
  left_out this =
      record {
        short = omega (arith, so_far.short);
        entry = λ k l. older (get_or list k 0) (so_far.entry k l);
        rises = so_far.rises;
        serving = up_to list so_far.serving this;
      }

  by-contained : contained within list set ≡ true → Serving within list set
  by-contained h =
      let w = some_out (λ k. contains (get_or list k 0) (bit_and set within)) (length list) h in
      let key = before (get_or list w.0 0) (so_far.entry w.0 w.1) in
      (w.0, w.1, omega arith, contains-serves within set (get_or list w.0 0) w.2)

  abbrev joined : List ℕ
  joined = list ++ (set ∷ [])

  size : length joined ≡ length list + 1
  size = length-append list (set ∷ [])

  at_old : (k : ℕ) → k < length list → get_or joined k 0 ≡ get_or list k 0
  at_old k l = get_or-append list (set ∷ []) 0 k l

  at-end : get_or joined (length list) 0 ≡ set
  at-end = get_or-append_seam list set [] 0

  kept : (m : ℕ) → Serving within list m → Serving within joined m
  kept m s =
      let longer = size in
      let same = at_old s.0 s.1 in
      (s.0, omega (arith, s.1), rw same s.2, rw same s.3)

  joined-listing : set < 2 ^ n → Listing n within (suc i) joined
  joined-listing l =
      let longer = size in
      record {
        short = omega (arith, so_far.short);
        entry =
            ending (λ k x. Entry n (suc i) x) list set
            (λ k m. older (get_or list k 0) (so_far.entry k m)) (i, omega arith, refl, l);
        rises = λ b a lb.
            ending (λ b x. a < b → key_of (get_or joined a 0) < key_of x) list set
            (λ b m h. rw (at_old a (omega arith)) (so_far.rises b a m h))
            (λ h. rw (at_old a h) (before (get_or list a 0) (so_far.entry a h))) b lb;
        serving =
            up_to joined (λ j m h. kept (get_or masks j 0) (so_far.serving j m h))
            (λ h. (length list, omega arith, rw at-end (omega arith), rw at-end (λ v p q. p)));
      }

  next-listing : Listing n within (suc i) (joining n within list set)
  unfolding joining
  next-listing =
      byBool (ltb set (2 ^ n))
      (λ e.
      byBool (contained within list set)
      (λ h. rw (e, h) (left_out (λ l. by-contained h)))
      (λ h. rw (e, h) (joined-listing (ltb-true set (2 ^ n) e))))
      (λ e.
      let past = ltb-false set (2 ^ n) e in rw e (left_out (λ l. absurd (omega arith))))

listing : (n within i : ℕ) → i ≤ 256 → Listing n within i (useful_to n within i)
unfolding useful_to
listing n within zero l =
    record {
      short = omega arith;
      entry = λ k m. absurd (not-suc-le-zero m);
      rises = λ b a m. absurd (not-suc-le-zero m);
      serving = λ j m. absurd (not-suc-le-zero m);
    }
listing n within (suc i) l =
    next-listing n within i (useful_to n within i) (listing n within i (omega arith)) (omega arith)

-- the list that `useful` gives is what the search needs
pub listed : (n within : ℕ) → n ≤ 9 → Listed n within (useful_of n within) (length (useful_of n within))
unfolding useful_of
listed n within l =
    let cut : min n 9 ≡ n = omega arith in
    rw cut
    (let list = useful_to n within 256 in
    let all : Listing n within 256 list = listing n within 256 (omega arith) in
    record {
      most = all.short;
      small = λ k m. small-entry (get_or list k 0) (all.entry k m);
      below-n = λ k m. (all.entry k m).3;
      rises = λ a b h m. all.rises b a m h;
      complete = λ m s h.
          let found = masks-rule.complete m s in
          rw found.2 at (all.serving found.0 found.1 (rw found.2 h));
    })
  where
    small-entry : (x : ℕ) → Entry n 256 x → Small x
    small-entry x e = rw e.2 (masks-rule.sound e.0 e.1)
