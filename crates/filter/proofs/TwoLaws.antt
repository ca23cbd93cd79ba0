-- The walk over sixteen words, with a second index for each key. Assumes nothing.
use mathlib.Core.Path.{◌≡◌, refl, sym, ap, ◌∙◌}
use mathlib.Core.Bool.{Bool, true, false, not, ◌&&◌}
use mathlib.Core.Logic.{◌⊎◌, inl, inr}
use mathlib.Core.List.{List}
use Prim.Native.Nat.{ℕ, ◌+◌, ◌<◌}
use native.Mathlib.Nat.{not-suc-le-zero}
use native.Mathlib.Omega.{arith}
use lib.Dec.{eqb}
use lib.Bits.{bit_and, and_le_l, and_zero_l}
use lib.ListN.{length, get_or, set, replicate, length-set, get_or-replicate}
use lib.Seq.{get_or-set_same, get_or-set_other}
use borrow.Author.Count.{below_more}
use borrow.Author.Tests.{eq-eqb, ne_eqb, eqb-true, eqb-false, not-true}
use Rattle.bits.specs.Bits.{has}
use Rattle.bits.specs.Tests.{some}
use Rattle.bits.proofs.SearchLaws.{byBool, some_in, none_in}
use Rattle.bits.proofs.TestLaws.{both_left, both_right}
use Rattle.bits.proofs.BitLaws.{has-and, same_number}
use Rattle.filter.specs.Two.{apart, two_of}

-- an index with the base b, whose word is not b's
pub record Off (words : List ℕ) (key b i : ℕ) : Type 0 where
  pub small : i < 16
  pub base : bit_and i key ≡ b
  pub other : get_or words i 0 ≡ get_or words b 0 → ⊥

-- the word is that of the base, or of the base's second
abbrev pub Known : (words seconds : List ℕ) (b i : ℕ) → Type 0
Known words seconds b i =
    (get_or words i 0 ≡ get_or words b 0)
    ⊎ ((get_or seconds b 0 ≡ 0 → ⊥) × (get_or words i 0 ≡ get_or words (get_or seconds b 0) 0))

-- what the walk knows before index a
pub record Seen (words seconds : List ℕ) (key a : ℕ) : Type 0 where
  pub size : length seconds ≡ 16
  pub second : (b : ℕ) → b < 16 → (get_or seconds b 0 ≡ 0 → ⊥) → Off words key b (get_or seconds b 0)
  pub known : (i : ℕ) → i < a → Known words seconds (bit_and i key) i

-- of three numbers that are each one of two, two are equal
pigeon : (N : Type 0) (p q x y z : ℕ) → (x ≡ p) ⊎ (N × (x ≡ q)) → (y ≡ p) ⊎ (N × (y ≡ q))
    → (z ≡ p) ⊎ (N × (z ≡ q)) → (x ≡ y → ⊥) → (x ≡ z → ⊥) → (y ≡ z → ⊥) → ⊥
pigeon N p q x y z (inl e) (inl f) w xy xz yz = xy (e ∙ sym f)
pigeon N p q x y z (inr e) (inr f) w xy xz yz = xy (e.1 ∙ sym f.1)
pigeon N p q x y z (inl e) (inr f) (inl g) xy xz yz = xz (e ∙ sym g)
pigeon N p q x y z (inl e) (inr f) (inr g) xy xz yz = yz (f.1 ∙ sym g.1)
pigeon N p q x y z (inr e) (inl f) (inl g) xy xz yz = yz (f ∙ sym g)
pigeon N p q x y z (inr e) (inl f) (inr g) xy xz yz = xz (e.1 ∙ sym g.1)

pub base-lt : (a key : ℕ) → a < 16 → bit_and a key < 16
base-lt a key l = let le = and_le_l a key in omega arith

-- a base is its own base
and-twice : (a key : ℕ) → a < 16 → bit_and (bit_and a key) key ≡ bit_and a key
and-twice a key l =
    let once = and_le_l a key in
    let again = and_le_l (bit_and a key) key in
    same_number 4 (bit_and (bit_and a key) key) (bit_and a key) (omega arith) (omega arith)
    (λ v w. rw (has-and (bit_and a key) key v, has-and a key v) (same (has a v) (has key v)))
  where
    same : (x y : Bool) → ((x && y) && y) ≡ (x && y)
    same true true = refl
    same true false = refl
    same false y = refl

module _ (words : List ℕ) (key : ℕ) where
  apart_in : (a b : ℕ) → bit_and a key ≡ bit_and b key → (get_or words a 0 ≡ get_or words b 0 → ⊥)
      → apart words key a b ≡ true
  apart_in a b same other =
      rw (
        eq-eqb (bit_and a key) (bit_and b key) same,
        ne_eqb (get_or words a 0) (get_or words b 0) other,
      )

  pub apart_out : (a b : ℕ) → apart words key a b ≡ true
      → (bit_and a key ≡ bit_and b key) × (get_or words a 0 ≡ get_or words b 0 → ⊥)
  apart_out a b h =
      let other = not-true _ (both_right (eqb (bit_and a key) (bit_and b key)) _ h) in
      (eqb-true _ _ (both_left _ _ h), eqb-false _ _ other)

  abbrev pub three : (a b c : ℕ) → Bool
  three a b c = apart words key a b && (apart words key a c && apart words key b c)

  two-false : (a b c : ℕ) → a < 16 → b < 16 → c < 16 → three a b c ≡ true
      → two_of words key ≡ false
  unfolding two_of
  two-false a b c la lb lc h =
      ap not
      (some_in (λ a. some (λ b. some (λ c. three a b c) 16) 16) 16 a la
      (some_in (λ b. some (λ c. three a b c) 16) 16 b lb (some_in (λ c. three a b c) 16 c lc h)))

  pub two-true : ((a b c : ℕ) → a < 16 → b < 16 → c < 16 → three a b c ≡ true → ⊥)
      → two_of words key ≡ true
  unfolding two_of
  two-true h =
      ap not
      (none_in _ 16
      (λ a la.
      none_in _ 16
      (λ b lb.
      none_in _ 16 (λ c lc. byBool (three a b c) (λ e. absurd (h a b c la lb lc e)) (λ e. e)))))

  pub seen_start : Seen words (replicate 16 0) key 0
  seen_start =
      record {
        size = refl;
        second = λ b l some. absurd (some (get_or-replicate 16 b 0 0 l));
        known = λ i l. absurd (not-suc-le-zero l);
      }

  module _ (seconds : List ℕ) (a : ℕ) (seen : Seen words seconds key a) where
    pub seen_more : Known words seconds (bit_and a key) a → Seen words seconds key (a + 1)
    seen_more more =
        record {
          size = seen.size;
          second = seen.second;
          known = below_more (λ i. Known words seconds (bit_and i key) i) a seen.known more;
        }

    module _ (small : a < 16) (other : get_or words a 0 ≡ get_or words (bit_and a key) 0 → ⊥) where
      is-off : Off words key (bit_and a key) a
      is-off = record { small = small; base = refl; other = other }

      not-zero : a ≡ 0 → ⊥
      not-zero z =
          let base-zero : bit_and a key ≡ 0 = rw z (and_zero_l key) in
          other (rw (base-zero, z))

      at_base : get_or (set seconds (bit_and a key) a) (bit_and a key) 0 ≡ a
      at_base =
          get_or-set_same seconds (bit_and a key) a 0 (let l = base-lt a key small in rw seen.size l)

      second-set : (d : ℕ) → d < 16 → (get_or (set seconds (bit_and a key) a) d 0 ≡ 0 → ⊥)
          → Off words key d (get_or (set seconds (bit_and a key) a) d 0)
      second-set d l n =
          byBool (eqb d (bit_and a key))
          (λ e. let same = eqb-true d (bit_and a key) e in rw (same, at_base) is-off)
          (λ e.
          let off = get_or-set_other seconds (bit_and a key) d a 0 (eqb-false d (bit_and a key) e) in
          rw off (seen.second d l (λ z. n (off ∙ z))))

      known-set : get_or seconds (bit_and a key) 0 ≡ 0 → (i d : ℕ) → Known words seconds d i
          → Known words (set seconds (bit_and a key) a) d i
      known-set none i d (inl e) = inl e
      known-set none i d (inr e) =
          byBool (eqb d (bit_and a key))
          (λ q. let same = eqb-true d (bit_and a key) q in absurd (e.0 (rw same none)))
          (λ q.
          let off = get_or-set_other seconds (bit_and a key) d a 0 (eqb-false d (bit_and a key) q) in
          inr (rw off e))

      -- the base has no second yet: a becomes it
      pub seen_first : get_or seconds (bit_and a key) 0 ≡ 0
          → Seen words (set seconds (bit_and a key) a) key (a + 1)
      seen_first none =
          record {
            size = simp length-set seen.size;
            second = second-set;
            known =
                below_more (λ i. Known words (set seconds (bit_and a key) a) (bit_and i key) i) a
                (λ i l. known-set none i (bit_and i key) (seen.known i l))
                (inr (rw at_base (not-zero, refl)));
          }

      -- a third word
      pub seen-three : (get_or seconds (bit_and a key) 0 ≡ 0 → ⊥)
          → (get_or words (get_or seconds (bit_and a key) 0) 0 ≡ get_or words a 0 → ⊥)
          → two_of words key ≡ false
      seen-three some third =
          let b = bit_and a key in
          let s = get_or seconds b 0 in
          let off : Off words key b s = seen.second b (base-lt a key small) some in
          let own = and-twice a key small in
          two-false b s a (base-lt a key small) off.small small
          (rw (
            apart_in b s (own ∙ sym off.base) (λ e. off.other (sym e)),
            apart_in b a own (λ e. other (sym e)),
            apart_in s a off.base third,
          ))

  pub seen_all : (seconds : List ℕ) → Seen words seconds key 16 → two_of words key ≡ true
  seen_all seconds seen =
      two-true
      (λ a b c la lb lc h.
      let ab = apart_out a b (both_left (apart words key a b) _ h) in
      let rest = both_right (apart words key a b) _ h in
      let ac = apart_out a c (both_left (apart words key a c) _ rest) in
      let bc = apart_out b c (both_right (apart words key a c) _ rest) in
      pigeon _ _ _ (get_or words a 0) (get_or words b 0) (get_or words c 0) (seen.known a la)
      (rw ab.0 (seen.known b lb)) (rw ac.0 (seen.known c lc)) ab.1 ac.1 bc.1)
