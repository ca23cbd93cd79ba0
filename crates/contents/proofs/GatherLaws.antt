-- What the walks over the rows gather, row by row: the rows where a table changes, and what each
-- component asks of table H. Assumes nothing.
use mathlib.Core.Path.{◌≡◌, refl, sym, ap, ap₂, ◌∙◌}
use mathlib.Core.Bool.{Bool, true, false, not, ◌&&◌, ◌||◌, and-false, and-true, beq, or_comm}
use mathlib.Core.List.{List, map}
use Prim.Native.Nat.{ℕ, ◌+◌, ◌-◌, ◌*◌, ◌/◌, ◌%◌, ◌^◌, ◌<◌}
use native.Mathlib.Omega.{arith}
use lib.Bits.{bit_and, bit_or}
use lib.Dec.{eqb}
use Rattle.std.proofs.lemmas.List.{map-set, length-map}
use lib.ListN.{length, get_or, set, replicate, get_or-replicate, get_or-map}
use lib.Seq.{get_or-set_same, get_or-set_other, map-set_same}
use borrow.Author.Tests.{eq-eqb, eqb-true, eqb-false}
use Rattle.bits.specs.Bits.{has}
use Rattle.bits.specs.Tests.{some, below, ◌⊕◌}
use Rattle.bits.proofs.SearchLaws.{byBool, some_more}
use Rattle.bits.proofs.TestLaws.{same_bool, eqb_comm, below_at}
use Rattle.bits.proofs.XorLaws.{xor-beq, xor-eq}
use Rattle.bits.proofs.BitLaws.{has-of-0, has-or, has-set}
use Rattle.bits.proofs.SetLaws.{one_shifted}
use Rattle.wiring.specs.Wire.{truth}
use Rattle.contents.specs.declared.Wires.{Wires}
use Rattle.contents.specs.Code.{selected_by, changes_by, component_by, slot_by, asked_by, Marks, AreAsked, nothing, asked_ones, asked_zeros}
use Rattle.contents.specs.declared.Asked.{Asked}

differ : (a b : Bool) → beq a b ≡ false → a ⊕ b ≡ true
differ a b e = sym (xor-beq a b) ∙ ap not e

module _ (t : List ℕ) (key keep : ℕ) where
  -- the rows below m are gathered
  abbrev pub Gathered : (m found : ℕ) → Type 0
  Gathered m found = (x : ℕ) → x < 16 → has found x ≡ changes_by t key keep m x

  abbrev change : (x r : ℕ) → Bool
  change x r = eqb (selected_by key r) x && (truth t r ⊕ truth t (bit_and r keep))

  pub gathered_none : Gathered 0 0
  unfolding changes_by some
  gathered_none x l = has-of-0 x

  module _ (m found : ℕ) (gathered : Gathered m found) where
    pub gathered-same : truth t m ≡ truth t (bit_and m keep) → Gathered (m + 1) found
    unfolding changes_by
    gathered-same same x l =
        let none : change x m ≡ false =
        rw (xor-eq (truth t m) (truth t (bit_and m keep)) same) (and-false (eqb (selected_by key m) x)) in
        gathered x l ∙ sym (some_more (change x) m ∙ rw none)

    pub gathered-more : beq (truth t m) (truth t (bit_and m keep)) ≡ false
        → (k : ℕ) → k ≡ selected_by key m → k < 16
        → Gathered (m + 1) (bit_or found ((1 * 2 ^ k) % 65536))
    unfolding changes_by
    gathered-more other k is fits x l =
        let here : change x m ≡ eqb x k =
        rw (differ (truth t m) (truth t (bit_and m keep)) other, ← is)
        (and-true (eqb k x) ∙ eqb_comm k x) in
        rw (one_shifted k 16 fits)
        (has-set found k x
        ∙ or_comm (has found x) (eqb x k)
        ∙ ap₂ ◌||◌ (sym here) (gathered x l)
        ∙ sym (some_more (change x) m))

-- row e of H in bit 7 - e
abbrev marks_bit : ℕ → ℕ → Bool
marks_bit e k = beq (has (128 / 2 ^ e) (7 - k)) (eqb e k)

abbrev marks_bits : ℕ → Bool
marks_bits e = below (marks_bit e) 8

marks-all : below marks_bits 8 ≡ true
unfolding has
marks-all = refl

mark-at : (e k : ℕ) → e < 8 → k < 8 → has (128 / 2 ^ e) (7 - k) ≡ eqb e k
mark-at e k l m = same_bool _ _ (below_at (marks_bit e) 8 (below_at marks_bits 8 marks-all e l) k m)

module _ (t : List ℕ) (w : Wires) (v : Bool) where
  abbrev asks : (s e r : ℕ) → Bool
  asks s e r = eqb (component_by w r) s && (eqb (slot_by w r) e && not (truth t r ⊕ v))

  pub marks-none : Marks t w v 0 (replicate 16 0)
  unfolding asked_by some
  marks-none s e l k = rw (get_or-replicate {A = ℕ} 16 s 0 0 l) (has-of-0 (7 - e))

  module _ (m : ℕ) (bytes : List ℕ) (marks : Marks t w v m bytes) where
    pub marks-skip : truth t m ⊕ v ≡ true → Marks t w v (m + 1) bytes
    unfolding asked_by
    marks-skip other s e l k =
        let none : asks s e m ≡ false =
        rw (other, and-false (eqb (slot_by w m) e)) (and-false (eqb (component_by w m) s)) in
        marks s e l k ∙ sym (some_more (asks s e) m ∙ rw none)

    module _ (value : truth t m ≡ v) (long : length bytes ≡ 16) where
      asks-here : (s e : ℕ) → asks s e m ≡ eqb (component_by w m) s && eqb (slot_by w m) e
      asks-here s e =
          rw (xor-eq (truth t m) v value, and-true (eqb (slot_by w m) e))

      module _ (c k : ℕ) (is_c : c ≡ component_by w m) (c-fits : c < 16) (is-k : k ≡ slot_by w m)
          (k-fits : k < 8) where
        abbrev added : List ℕ
        added = set bytes c (bit_or (get_or bytes c 0) (128 / 2 ^ k))

        at_c : (e : ℕ) → e < 8 → has (get_or added c 0) (7 - e) ≡ asked_by t w v (m + 1) c e
        unfolding asked_by
        at_c e l =
            let here : asks c e m ≡ eqb k e = rw (asks-here c e, ← is_c, ← is-k, eq-eqb c c refl) in
            rw (get_or-set_same bytes c (bit_or (get_or bytes c 0) (128 / 2 ^ k)) 0 (omega arith))
            (has-or (get_or bytes c 0) (128 / 2 ^ k) (7 - e)
            ∙ or_comm (has (get_or bytes c 0) (7 - e)) (has (128 / 2 ^ k) (7 - e))
            ∙ ap₂ ◌||◌ (mark-at k e k-fits l ∙ sym here) (marks c e c-fits l)
            ∙ sym (some_more (asks c e) m))

        elsewhere : (s e : ℕ) → eqb c s ≡ false → s < 16 → e < 8
            → has (get_or added s 0) (7 - e) ≡ asked_by t w v (m + 1) s e
        unfolding asked_by
        elsewhere s e q s-fits l =
            let other = eqb-false c s q in
            let here : asks s e m ≡ false = rw (asks-here s e, ← is_c, q) in
            ap (λ (x : ℕ). has x (7 - e))
            (get_or-set_other bytes c s (bit_or (get_or bytes c 0) (128 / 2 ^ k)) 0 (λ z. other (sym z)))
            ∙ marks s e s-fits l
            ∙ sym (some_more (asks s e) m ∙ rw here)

        pub marks-add : Marks t w v (m + 1) added
        marks-add s e s-fits l =
            byBool (eqb c s) (λ q. rw (← eqb-true c s q) (at_c e l)) (λ q. elsewhere s e q s-fits l)

-- a row is marked in what its component asks
module _ (t : List ℕ) (w : Wires) where
  pub asked-none : AreAsked t w 0 (replicate 16 nothing)
  asked-none = record { ones = marks-none t w true; zeros = marks-none t w false }

  module _ (m : ℕ) (a : List Asked) (all : length a ≡ 16) (before : AreAsked t w m a) (c k : ℕ)
      (is_c : c ≡ component_by w m) (c-fits : c < 16) (is-k : k ≡ slot_by w m) (k-fits : k < 8) where
    abbrev old : Asked
    old = get_or a c nothing

    pub asked-one : truth t m ≡ true
        → AreAsked t w (m + 1) (set a c (record { ones = bit_or old.ones (128 / 2 ^ k); zeros = old.zeros }))
    asked-one value =
        let x : Asked = record { ones = bit_or old.ones (128 / 2 ^ k); zeros = old.zeros } in
        let same : map (λ (y : Asked). y.zeros) (set a c x) ≡ asked_zeros a =
        map-set_same (λ (y : Asked). y.zeros) a c x nothing refl in
        let here = get_or-map (λ (y : Asked). y.ones) a c nothing in
        record {
          ones =
              rw (map-set (λ (y : Asked). y.ones) a c x, ← here)
              (marks-add t w true m (asked_ones a) before.ones value (rw length-map all)
              c k is_c c-fits is-k k-fits);
          zeros = rw same (marks-skip t w false m (asked_zeros a) before.zeros (rw value));
        }

    pub asked-zero : truth t m ≡ false
        → AreAsked t w (m + 1) (set a c (record { ones = old.ones; zeros = bit_or old.zeros (128 / 2 ^ k) }))
    asked-zero value =
        let x : Asked = record { ones = old.ones; zeros = bit_or old.zeros (128 / 2 ^ k) } in
        let same : map (λ (y : Asked). y.ones) (set a c x) ≡ asked_ones a =
        map-set_same (λ (y : Asked). y.ones) a c x nothing refl in
        let here = get_or-map (λ (y : Asked). y.zeros) a c nothing in
        record {
          ones = rw same (marks-skip t w true m (asked_ones a) before.ones (rw value));
          zeros =
              rw (map-set (λ (y : Asked). y.zeros) a c x, ← here)
              (marks-add t w false m (asked_zeros a) before.zeros value
              (rw length-map all) c k is_c c-fits is-k k-fits);
        }
