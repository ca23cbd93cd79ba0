-- What each test of the packer decides, and what a packed block has. Assumes nothing.
use Rattle.std.specs.Prelude.{Result}
use mathlib.Core.Path.{◌≡◌, refl, sym, ◌∙◌}
use mathlib.Core.Bool.{true, ◌&&◌}
use mathlib.Core.List.{List, [], ◌∷◌}
use Prim.Native.Nat.{ℕ, ◌<◌, ◌≤◌}
use lib.Dec.{ltb}
use lib.ListN.{length}
use borrow.Author.Tests.{lt-ltb, le-ltb, ltb-false}
use Rattle.bits.specs.Tests.{pick, every}
use Rattle.bits.proofs.TestLaws.{both_left, both_right}
use Rattle.block.specs.declared.FourPin.{FourPin}
use Rattle.block.specs.declared.Parts.{Parts}
use Rattle.block.specs.declared.Refusal.{Refusal}
use Rattle.block.specs.Block.{Block}
use Rattle.block.specs.Code.{lut_of, block_of}
use Rattle.block.specs.Tidy.{field_fits, fields_fit, Tidy}
use Rattle.block.specs.Refusal.{◌when◌, number_of, tidy_cases, tidy_refusal}
use Rattle.block.proofs.TidyLaws.{fits_lt}
use Rattle.block.proofs.RefusalLaws.{at-refusal, or_else, or_else-zero, first-append, pick-zero}
use Rattle.block.proofs.RefusalLaws.{tidy-of-none}
use Rattle.block.proofs.AnswerLaws.{written-unique}
use Rattle.codec.specs.Ten.{pack_of, FourBits, FieldsOfFour}
use Rattle.codec.specs.Answers.{Packs}
use Rattle.codec.specs.Check.{no_room, pack_refusal}
use Rattle.codec.proofs.FaultLaws.{fits-parts}

module _ (n : ℕ) (b : Block) (room : ℕ) where
  pub pack-refuses-1 : 9 < n → 1 ≡ pack_refusal n b room
  unfolding pack_refusal
  pack-refuses-1 above = rw (lt-ltb 9 n above)

  module _ (within : n ≤ 9) where
    pack-parts : pack_refusal n b room ≡ or_else (tidy_refusal n b) (pick (ltb room 10) 5 0)
    unfolding pack_refusal tidy_refusal
    pack-parts = rw (le-ltb 9 n within) (first-append (tidy_cases n b) (5 when no_room room ∷ []) refl)

    pub pack-refuses-tidy : (k : Refusal) → number_of k ≡ tidy_refusal n b
        → number_of k ≡ pack_refusal n b room
    pack-refuses-tidy k e =
        rw (pack-parts, ← e) (at-refusal (λ m. m ≡ or_else m (pick (ltb room 10) 5 0)) (λ m. refl) k)

    pub pack-refuses-5 : 0 ≡ tidy_refusal n b → room < 10 → 5 ≡ pack_refusal n b room
    pack-refuses-5 e short = rw (pack-parts, ← e, lt-ltb room 10 short)

    pub pack-accepts : 0 ≡ tidy_refusal n b → 10 ≤ room → 0 ≡ pack_refusal n b room
    pack-accepts e enough = rw (pack-parts, ← e, le-ltb room 10 enough)

-- what the packer accepts
pub record Packable (n : ℕ) (b : Block) (room : ℕ) : Type 0 where
  pub within : n ≤ 9
  pub tidy : Tidy n b
  pub enough : 10 ≤ room

pub packable-of-none : (n : ℕ) (b : Block) (room : ℕ) → pack_refusal n b room ≡ 0 → Packable n b room
unfolding pack_refusal tidy_refusal
packable-of-none n b room e =
    let one = pick-zero (ltb 9 n) 0 _ e in
    let apart = first-append (tidy_cases n b) (5 when no_room room ∷ []) refl in
    let parts = or_else-zero (tidy_refusal n b) (pick (ltb room 10) 5 0) (sym apart ∙ one.1) in
    record {
      within = ltb-false 9 n one.0;
      tidy = tidy-of-none n b parts.0;
      enough = ltb-false room 10 (pick-zero (ltb room 10) 4 0 parts.1).0;
    }

four-bits : (n : ℕ) (t : FourPin) → n ≤ 9 → every (field_fits n) (lut_of t).pins ≡ true → FourBits t
four-bits n t within fit =
    let f = field_fits n in
    let after-a = both_right (f t.a) (f t.b && (f t.c && (f t.d && true))) fit in
    let after-b = both_right (f t.b) (f t.c && (f t.d && true)) after-a in
    let after-c = both_right (f t.c) (f t.d && true) after-b in
    record {
      a = fits_lt n t.a within (both_left (f t.a) _ fit);
      b = fits_lt n t.b within (both_left (f t.b) _ after-a);
      c = fits_lt n t.c within (both_left (f t.c) _ after-b);
      d = fits_lt n t.d within (both_left (f t.d) true after-c);
    }

pub fields-of-four : (n : ℕ) (x : Parts) → n ≤ 9 → fields_fit n (block_of x) ≡ true → FieldsOfFour x
fields-of-four n x within fit =
    let f = every (field_fits n) (lut_of x.f).pins in
    let g = every (field_fits n) (lut_of x.g).pins in
    let parts = sym (fits-parts n (block_of x)) ∙ fit in
    let rest = both_right f (g && field_fits n x.direct) parts in
    record {
      in_f = four-bits n x.f within (both_left f _ parts);
      in_g = four-bits n x.g within (both_left g _ rest);
      direct = fits_lt n x.direct within (both_right g _ rest);
    }

pub pack-unique : (n : ℕ) (b : Block) (before after after' : List ℕ) (r q : Result ℕ Refusal)
    → Packs n b before after r → Packs n b before after' q → (r ≡ q) × (after ≡ after')
pack-unique n b before after after' r q p p' =
    written-unique (pack_refusal n b (length before)) (pack_of b) before after after' r q p p'
