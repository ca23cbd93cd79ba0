-- Of a listed sheet, reading and finding give its records by place and by pair. Assumes nothing.
use mathlib.Core.Path.{◌≡◌, sym, ap, ◌∙◌}
use mathlib.Core.Bool.{true, false}
use mathlib.Core.List.{List, ◌++◌}
use Prim.Native.Nat.{ℕ, ◌<◌, ◌≤◌}
use native.Mathlib.Nat.{le_refl}
use native.Mathlib.Omega.{arith}
use lib.ListN.{length, get_or, length-append, get_or-append}
use borrow.Author.Tests.{le-leb, lt-leb}
use Rattle.block.specs.Answer.{answer}
use Rattle.record.specs.Record.{Record, pair_of, zero_record, key_of, has_key}
use Rattle.record.specs.Fault.{unassigned}
use Rattle.record.specs.Told.{placed}
use Rattle.records.specs.Sheet.{sheet_of}
use Rattle.records.specs.Check.{sheet_answer}
use Rattle.finding.specs.Find.{place_of, place_answer}
use Rattle.finding.specs.Read.{read_fault, read_answer}
use Rattle.chain.specs.Rules.{Listed}
use Rattle.chain.proofs.FollowsLaws.{listed-front}
use Rattle.chain.proofs.ListedLaws.{records_of-sheet_of, accepted-of-listed}
use Rattle.chain.proofs.PlaceLaws.{place_in-absent, place_in-listed, ruled-other}

module _ (rs : List Record) (listed : Listed rs) where
  pub counts-listed : sheet_answer (sheet_of rs) ≡ answer 0 (placed 0 (length rs))
  counts-listed = rw (accepted-of-listed rs listed, records_of-sheet_of rs listed)

  pub reads-listed : (i : ℕ) → i < length rs
      → read_answer (sheet_of rs) i ≡ answer 0 (placed 0 (get_or rs i zero_record))
  unfolding read_fault
  reads-listed i l =
      rw (accepted-of-listed rs listed, records_of-sheet_of rs listed, lt-leb (length rs) i l)

  pub reads-past : (i : ℕ) → length rs ≤ i → read_answer (sheet_of rs) i ≡ answer 12 (placed 0 zero_record)
  unfolding read_fault
  reads-past i l =
      rw (accepted-of-listed rs listed, records_of-sheet_of rs listed, le-leb (length rs) i l)

  pub finds-listed : (i : ℕ) → i < length rs
      → place_answer (sheet_of rs) (key_of (get_or rs i zero_record))
      ≡ answer 0 (placed 0 i)
  unfolding read_fault place_of
  finds-listed i l =
      rw (
        accepted-of-listed rs listed,
        records_of-sheet_of rs listed,
        place_in-listed rs listed i l,
        lt-leb (length rs) i l,
      )

  pub finds-absent : (key : List ℕ)
      → ((i : ℕ) → i < length rs → has_key key (get_or rs i zero_record) ≡ false)
      → place_answer (sheet_of rs) key ≡ answer 12 (placed 0 0)
  unfolding read_fault place_of
  finds-absent key none =
      rw (
        accepted-of-listed rs listed,
        records_of-sheet_of rs listed,
        place_in-absent key rs none,
        le-leb (length rs) (length rs) (le_refl (length rs)),
      )

  -- a pair that no record may have
  pub finds-out-of-range : (craft block : ℕ) → unassigned craft block ≡ true
      → place_answer (sheet_of rs) (pair_of craft block) ≡ answer 12 (placed 0 0)
  finds-out-of-range craft block out =
      finds-absent (pair_of craft block)
      (λ i l. ruled-other craft block (get_or rs i zero_record) (listed.each i l) out)

-- more records after them change nothing of these
module _ (rs qs : List Record) (listed : Listed (rs ++ qs)) (i : ℕ) (l : i < length rs) where
  within : i < length (rs ++ qs)
  within = rw (length-append rs qs) (omega arith)

  pub reads_more : read_answer (sheet_of (rs ++ qs)) i ≡ read_answer (sheet_of rs) i
  reads_more =
      reads-listed (rs ++ qs) listed i within
      ∙ ap (λ (r : Record). answer 0 (placed 0 r)) (get_or-append rs qs zero_record i l)
      ∙ sym (reads-listed rs (listed-front rs qs listed) i l)

  pub finds-more :
      place_answer (sheet_of (rs ++ qs)) (key_of (get_or rs i zero_record))
      ≡ place_answer (sheet_of rs) (key_of (get_or rs i zero_record))
  finds-more =
      let found = finds-listed (rs ++ qs) listed i within in
      rw (get_or-append rs qs zero_record i l) at found
      ∙ sym (finds-listed rs (listed-front rs qs listed) i l)
