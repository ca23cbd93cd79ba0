-- The number that a block's ten bytes make: its wiring above its contents. Assumes nothing.
use mathlib.Core.Path.{◌≡◌, refl, ap, ◌∙◌}
use mathlib.Core.Bool.{Bool, true, false}
use mathlib.Core.List.{List, [], ◌∷◌, ◌++◌}
use Prim.Native.Nat.{ℕ, ◌+◌, ◌*◌, ◌%◌, ◌^◌, ◌≤◌}
use native.Mathlib.Nat.{mod-eq_of_lt}
use native.Mathlib.Omega.{arith}
use borrow.Author.Tests.{le-ltb}
use Rattle.bits.specs.Bits.{joined, split, bytes_of}
use Rattle.bits.proofs.FieldLaws.{joined-split, joined-append, joined-four, four-of}
use Rattle.block.specs.Block.{Block, Device}
use Rattle.codec.specs.Ten.{fields_of, pack_of}
use Rattle.codec.specs.Order.{comes_before}
use Rattle.round.specs.Acceptable.{Acceptable}
use Rattle.round.proofs.OrderLaws.{bytes_number, comes_before-number}

-- the nine pin fields as one number
abbrev pub pins_number : (f g : List ℕ) (direct : ℕ) → ℕ
pins_number f g direct = (joined 0 f * 65536 + joined 0 g) * 16 + direct

-- the three tables as one number
abbrev pub tables_number : (f g h : ℕ) → ℕ
tables_number f g h = (f * 65536 + g) * 256 + h

abbrev pub block_number : Block → ℕ
block_number b =
    pins_number b.f.pins b.g.pins b.direct * 2 ^ 40
    + tables_number b.f.rows b.g.rows b.h

-- fields come in pairs
abbrev paired : List ℕ → Bool
paired [] = true
paired (a ∷ []) = false
paired (a ∷ b ∷ l) = paired l

bytes-joined : (high : ℕ) (l : List ℕ) → paired l ≡ true → bytes_number high (bytes_of l) ≡ joined high l
bytes-joined high [] h = refl
bytes-joined high (a ∷ []) h = absurd (let z : ◌≡◌ {A = ℕ} 0 1 = cc in omega arith)
bytes-joined high (a ∷ b ∷ l) h =
    let same : high * 256 + (a * 16 + b) ≡ (high * 16 + a) * 16 + b = omega arith in
    bytes-joined (high * 256 + (a * 16 + b)) l h ∙ ap (λ (k : ℕ). joined k l) same

module _ (b : Block) (device : Device b) where
  abbrev tables : List ℕ
  tables = split 4 b.f.rows ++ (split 4 b.g.rows ++ (split 2 b.h ++ (0 ∷ [])))

  paired-fields : paired (fields_of b) ≡ true
  paired-fields =
      rw (four-of b.f.pins device.in_f.four, four-of b.g.pins device.in_g.four)

  pins-joined : joined 0 (fields_of b) ≡ joined (pins_number b.f.pins b.g.pins b.direct) tables
  pins-joined =
      joined-append 0 b.f.pins (b.g.pins ++ (b.direct ∷ tables))
      ∙ joined-append (joined 0 b.f.pins) b.g.pins (b.direct ∷ tables)
      ∙ ap (λ (k : ℕ). joined (k * 16 + b.direct) tables)
      (joined-four (joined 0 b.f.pins) b.g.pins device.in_g.four)

  tables-joined : (high : ℕ)
      → joined high tables ≡ (high * 2 ^ 40 + tables_number b.f.rows b.g.rows b.h) * 16
  tables-joined high =
      let f = b.f.rows in
      let g = b.g.rows in
      let h = b.h in
      let after-f = high * 65536 + f % 65536 in
      let after-g = after-f * 65536 + g % 65536 in
      let first : joined high tables ≡ joined after-f (split 4 g ++ (split 2 h ++ (0 ∷ []))) =
      joined-append high (split 4 f) (split 4 g ++ (split 2 h ++ (0 ∷ [])))
      ∙ ap (λ (k : ℕ). joined k (split 4 g ++ (split 2 h ++ (0 ∷ [])))) (joined-split 4 high f) in
      let second : joined after-f (split 4 g ++ (split 2 h ++ (0 ∷ []))) ≡ joined after-g (split 2 h ++ (0 ∷ [])) =
      joined-append after-f (split 4 g) (split 2 h ++ (0 ∷ []))
      ∙ ap (λ (k : ℕ). joined k (split 2 h ++ (0 ∷ []))) (joined-split 4 after-f g) in
      let third : joined after-g (split 2 h ++ (0 ∷ [])) ≡ (after-g * 256 + h % 256) * 16 + 0 =
      joined-append after-g (split 2 h) (0 ∷ [])
      ∙ ap (λ (k : ℕ). k * 16 + 0) (joined-split 2 after-g h) in
      let same-f : f % 65536 ≡ f = mod-eq_of_lt device.in_f.rows_fit in
      let same-g : g % 65536 ≡ g = mod-eq_of_lt device.in_g.rows_fit in
      let same-h : h % 256 ≡ h = mod-eq_of_lt device.h_fits in
      first ∙ second ∙ third ∙ rw (same-f, same-g, same-h) (omega arith)

  pub packed-number : bytes_number 0 (pack_of b) ≡ block_number b * 16
  unfolding pack_of
  packed-number =
      bytes-joined 0 (fields_of b) paired-fields
      ∙ pins-joined
      ∙ tables-joined (pins_number b.f.pins b.g.pins b.direct)

-- a block whose number is no less does not come before
pub not-before : (n : ℕ) (b c : Block) → Acceptable n b → Acceptable n c → block_number b ≤ block_number c
    → comes_before c b ≡ false
not-before n b c p q l =
    comes_before-number n n c b q p
    ∙ le-ltb (bytes_number 0 (pack_of c)) (bytes_number 0 (pack_of b))
    (omega (arith, packed-number b p.device, packed-number c q.device))
