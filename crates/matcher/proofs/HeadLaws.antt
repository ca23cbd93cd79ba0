-- The refusals 1, 2, 3, 5 of matching, in this order, as the code meets them. Assumes nothing.
use mathlib.Core.Path.{◌≡◌}
use mathlib.Core.Bool.{not}
use mathlib.Core.List.{List}
use Prim.Native.Nat.{ℕ, ◌<◌, ◌≤◌}
use lib.Dec.{eqb}
use lib.ListN.{length}
use borrow.Author.Tests.{ltb-false, le-ltb, lt-ltb, eqb-true, eq-eqb, ne_eqb, not-false}
use Rattle.bits.specs.Tests.{pick}
use Rattle.block.specs.Table.{table_bytes, padding}
use Rattle.block.specs.Refusal.{too_many_inputs}
use Rattle.block.proofs.RefusalLaws.{pick-zero}
use Rattle.codec.specs.Check.{no_room}
use Rattle.matcher.specs.Match.{match_refusal}

-- a table of n inputs, well formed, and room for ten bytes
pub record WellFormed (n : ℕ) (t : List ℕ) (room : ℕ) : Type 0 where
  pub within : n ≤ 9
  pub bytes : length t ≡ table_bytes n
  pub clean : padding n t ≡ 0
  pub enough : 10 ≤ room

pub well-formed : (n : ℕ) (t : List ℕ) (room : ℕ) → match_refusal n t room ≡ 0 → WellFormed n t room
unfolding match_refusal
well-formed n t room e =
    let wrong = not (eqb (length t) (table_bytes n)) in
    let dirty = not (eqb (padding n t) 0) in
    let one = pick-zero (too_many_inputs n) 0 (pick wrong 2 (pick dirty 3 (pick (no_room room) 5 0))) e in
    let two = pick-zero wrong 1 (pick dirty 3 (pick (no_room room) 5 0)) one.1 in
    let three = pick-zero dirty 2 (pick (no_room room) 5 0) two.1 in
    let five = pick-zero (no_room room) 4 0 three.1 in
    record {
      within = ltb-false 9 n one.0;
      bytes = eqb-true (length t) (table_bytes n) (not-false _ two.0);
      clean = eqb-true (padding n t) 0 (not-false _ three.0);
      enough = ltb-false room 10 five.0;
    }

module _ (n : ℕ) (t : List ℕ) (room : ℕ) where
  pub refuses-1 : 9 < n → 1 ≡ match_refusal n t room
  unfolding match_refusal
  refuses-1 l = rw (lt-ltb 9 n l)

  module _ (within : n ≤ 9) where
    pub refuses-2 : (length t ≡ table_bytes n → ⊥) → 2 ≡ match_refusal n t room
    unfolding match_refusal
    refuses-2 wrong = rw (le-ltb 9 n within, ne_eqb (length t) (table_bytes n) wrong)

    module _ (bytes : length t ≡ table_bytes n) where
      pub refuses-3 : (padding n t ≡ 0 → ⊥) → 3 ≡ match_refusal n t room
      unfolding match_refusal
      refuses-3 dirty =
          rw (le-ltb 9 n within, eq-eqb (length t) (table_bytes n) bytes, ne_eqb (padding n t) 0 dirty)

      module _ (clean : padding n t ≡ 0) where
        pub refuses-5 : room < 10 → 5 ≡ match_refusal n t room
        unfolding match_refusal
        refuses-5 few =
            rw (
              le-ltb 9 n within,
              eq-eqb (length t) (table_bytes n) bytes,
              eq-eqb (padding n t) 0 clean,
              lt-ltb room 10 few,
            )

        pub passes : 10 ≤ room → 0 ≡ match_refusal n t room
        unfolding match_refusal
        passes enough =
            rw (
              le-ltb 9 n within,
              eq-eqb (length t) (table_bytes n) bytes,
              eq-eqb (padding n t) 0 clean,
              le-ltb room 10 enough,
            )
