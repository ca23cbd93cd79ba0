-- The row that shows a table row to pins, as the code adds it up. Assumes nothing.
use mathlib.Core.Path.{◌≡◌, refl, sym, ap₂, ◌∙◌}
use mathlib.Core.Bool.{Bool, true, false, ◌&&◌, ◌||◌, or-false}
use mathlib.Core.List.{[], ◌∷◌}
use Prim.Native.Nat.{ℕ, ◌*◌, ◌%◌, ◌^◌}
use native.Mathlib.Omega.{arith}
use lib.Dec.{eqb}
use lib.Bits.{bit_or}
use Rattle.bits.specs.Bits.{has, num, of_bits}
use Rattle.bits.proofs.BitLaws.{has-low, has-or, has-moved, has-of_bits, of_bits-lt, same_number}
use Rattle.wiring.specs.Wire.{shows, shown}

module _ (a b c d x : ℕ) where
  abbrev raised : ℕ
  raised =
      bit_or (bit_or (num (has x 3) * 2 ^ a) (num (has x 2) * 2 ^ b))
      (bit_or (num (has x 1) * 2 ^ c) (num (has x 0) * 2 ^ d))

  abbrev moved : ℕ → ℕ → ℕ → Bool
  moved pin k v = eqb v pin && has x k

  raised-bit : (v : ℕ) → has raised v ≡ ((moved a 3 v || moved b 2 v) || (moved c 1 v || moved d 0 v))
  raised-bit v =
      has-or (bit_or (num (has x 3) * 2 ^ a) (num (has x 2) * 2 ^ b)) (bit_or (num (has x 1) * 2 ^ c) (num (has x 0) * 2 ^ d)) v
      ∙ ap₂ ◌||◌
      (has-or (num (has x 3) * 2 ^ a) (num (has x 2) * 2 ^ b) v
      ∙ ap₂ ◌||◌ (has-moved (has x 3) a v) (has-moved (has x 2) b v))
      (has-or (num (has x 1) * 2 ^ c) (num (has x 0) * 2 ^ d) v
      ∙ ap₂ ◌||◌ (has-moved (has x 1) c v) (has-moved (has x 0) d v))

  or-four : (p q r s : Bool) → ((p || q) || (r || s)) ≡ (p || (q || (r || (s || false))))
  or-four true q r s = refl
  or-four false true r s = refl
  or-four false false true s = refl
  or-four false false false s = sym (or-false s)

  pub shows-row : raised % 512 ≡ shown 9 (a ∷ b ∷ c ∷ d ∷ []) x
  unfolding shown shows
  shows-row =
      same_number 9 (raised % 512) (of_bits 9 (shows (a ∷ b ∷ c ∷ d ∷ []) x)) (omega arith)
      (of_bits-lt 9 (shows (a ∷ b ∷ c ∷ d ∷ []) x))
      (λ v l.
      has-low 9 raised v l
      ∙ raised-bit v
      ∙ or-four (moved a 3 v) (moved b 2 v) (moved c 1 v) (moved d 0 v)
      ∙ sym (has-of_bits 9 (shows (a ∷ b ∷ c ∷ d ∷ []) x) v l))
