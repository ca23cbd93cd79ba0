-- The key of a set, made from its highest variable down, and the pins that it holds. Assumes nothing.
use mathlib.Core.Path.{◌≡◌, refl, sym}
use mathlib.Core.Bool.{Bool, true, false}
use mathlib.Core.List.{List, [], ◌∷◌, ◌++◌}
use Prim.Native.Nat.{ℕ, zero, suc, ◌+◌, ◌-◌, ◌*◌, ◌/◌, ◌<◌, ◌≤◌}
use native.Mathlib.Omega.{arith}
use lib.Dec.{ltb}
use lib.ListN.{length, get_or, take, replicate, length-append}
use borrow.Author.Tests.{ltb-true, lt-ltb}
use Rattle.bits.specs.Bits.{has, joined, split}
use Rattle.bits.specs.Tests.{every}
use Rattle.bits.proofs.ListLaws.{every-at}
use Rattle.bits.proofs.FieldLaws.{split-four}
use Rattle.block.specs.Block.{open_field}
use Rattle.subsets.specs.Masks.{cons_if, variables_from, variables_in, pins_of_mask, key_of}

-- the highest variables of the set, so many looked at, then open pins
unfoldable pub padded : (count set : ℕ) → List ℕ
padded count set = variables_from count (9 - count) set ++ replicate 4 open_field

abbrev is_field : ℕ → Bool
is_field x = ltb x 16

-- what stands from variable v on are fields
fields-from : (count v set : ℕ) → v + count ≤ 9
    → every is_field (variables_from count v set ++ replicate 4 open_field) ≡ true
unfolding variables_from
fields-from zero v set l = refl
fields-from (suc count) v set l =
    by (has set v) (fields-from count (suc v) set (omega arith))
  where
    rest : List ℕ
    rest = variables_from count (suc v) set

    by : (b : Bool) → every is_field (rest ++ replicate 4 open_field) ≡ true
        → every is_field (cons_if b v rest ++ replicate 4 open_field) ≡ true
    by true h = rw (lt-ltb v 16 (omega arith)) h
    by false h = h

-- a list that begins with four fields
record Four (l : List ℕ) : Type 0 where
  a : ℕ
  b : ℕ
  c : ℕ
  d : ℕ
  rest : List ℕ
  is : l ≡ a ∷ b ∷ c ∷ d ∷ rest
  a_lt : a < 16
  b_lt : b < 16
  c_lt : c < 16
  d-lt : d < 16

four : (l : List ℕ) → 4 ≤ length l → every is_field l ≡ true → Four l
four [] n h = absurd (omega arith)
four (a ∷ []) n h = absurd (omega arith)
four (a ∷ b ∷ []) n h = absurd (omega arith)
four (a ∷ b ∷ c ∷ []) n h = absurd (omega arith)
four (a ∷ b ∷ c ∷ d ∷ l) n h =
    let at : (k : ℕ) → k < 4 → get_or (a ∷ b ∷ c ∷ d ∷ l) k 0 < 16 =
    λ k m. ltb-true _ 16 (every-at is_field (a ∷ b ∷ c ∷ d ∷ l) h k (omega arith)) in
    record {
      a = a;
      b = b;
      c = c;
      d = d;
      rest = l;
      is = refl;
      a_lt = at 0 (omega arith);
      b_lt = at 1 (omega arith);
      c_lt = at 2 (omega arith);
      d-lt = at 3 (omega arith);
    }

padded-four : (set k : ℕ) → k ≤ 9 → Four (padded k set)
unfolding padded
padded-four set k l =
    let longer : 4 ≤ length (padded k set) = rw length-append (omega arith) in
    four (padded k set) longer (fields-from k (9 - k) set (omega arith))

-- a field put before four
shifted : (v : ℕ) (l : List ℕ) → Four l → joined 0 (take 4 (v ∷ l)) ≡ v * 4096 + joined 0 (take 4 l) / 16
shifted v l q = rw q.is (omega (arith, q.d-lt))

pub key-lt : (set k : ℕ) → k ≤ 9 → joined 0 (take 4 (padded k set)) < 65536
key-lt set k l =
    let q = padded-four set k l in
    rw q.is (omega (arith, q.a_lt, q.b_lt, q.c_lt, q.d-lt))

module _ (set k : ℕ) (within : k < 9) where
  step_down : 9 - (k + 1) ≡ 8 - k
  step_down = omega arith

  above : suc (8 - k) ≡ 9 - k
  above = omega arith

  pub key-with : has set (8 - k) ≡ true
      → (8 - k) * 4096 + joined 0 (take 4 (padded k set)) / 16 ≡ joined 0 (take 4 (padded (k + 1) set))
  unfolding padded variables_from
  key-with h =
      let one : k + 1 ≡ suc k = omega arith in
      rw (step_down, one, h, above)
      (sym (shifted (8 - k) (padded k set) (padded-four set k (omega arith))))

  pub key-without : has set (8 - k) ≡ false
      → joined 0 (take 4 (padded k set)) ≡ joined 0 (take 4 (padded (k + 1) set))
  unfolding padded variables_from
  key-without h = let one : k + 1 ≡ suc k = omega arith in rw (step_down, one, h, above)

pub key-all : (set : ℕ) → joined 0 (take 4 (padded 9 set)) ≡ key_of set
unfolding padded key_of pins_of_mask variables_in
key-all set = refl

pub key-start : (set : ℕ) → 65535 ≡ joined 0 (take 4 (padded 0 set))
unfolding padded variables_from
key-start set = refl

pub key_of-lt : (set : ℕ) → key_of set < 65536
key_of-lt set = rw (← key-all set) (key-lt set 9 (omega arith))

-- the key of a set holds its pins
pub key-pins : (set : ℕ) → split 4 (key_of set) ≡ pins_of_mask set
unfolding padded key_of pins_of_mask variables_in
key-pins set =
    let q = padded-four set 9 (omega arith) in
    rw q.is (split-four q.a q.b q.c q.d q.a_lt q.b_lt q.c_lt q.d-lt)
