-- What it means that a function was filed (document 01, "Which match is returned" and "The patch
-- sheet"). Assumes nothing.
use Rattle.std.specs.Prelude.{ℕ, ◌+◌, ◌≡◌, List, [], ◌∷◌, ◌++◌, length, take, drop}
use Rattle.block.specs.Answer.{answer}
use Rattle.codec.specs.Ten.{unpack_of}
use Rattle.matcher.specs.Match.{First}
use Rattle.record.specs.Record.{record_bytes, offered, pair_of}
use Rattle.record.specs.Told.{placed}
use Rattle.records.specs.Sheet.{records_of}
use Rattle.records.specs.Check.{sheet_fault}
use Rattle.finding.specs.Read.{read_answer}
use Rattle.finding.specs.Find.{place_answer}

-- The length in use grows by 14. The records are those that were there, and then one under the numbers
-- given, whose ten bytes hold the first tidy block that realises the table. The sheet is accepted. The
-- record stands at the place after the others: it is found there by its number pair, and read there.
-- Nothing else changes.
pub record Filed (s : List ℕ) (used craft block n : ℕ) (t after : List ℕ) (longer : ℕ) : Type 0 where
  pub grown : longer ≡ used + record_bytes
  pub ten : List ℕ
  pub first : First n t (unpack_of ten)
  pub records : records_of (take longer after) ≡ records_of (take used s) ++ (offered craft block n ten ∷ [])
  pub accepted : (sheet_fault (take longer after)).number ≡ 0
  pub found :
      place_answer (take longer after) (pair_of craft block)
      ≡ answer 0 (placed 0 (length (records_of (take used s))))
  pub read :
      read_answer (take longer after) (length (records_of (take used s)))
      ≡ answer 0 (placed 0 (offered craft block n ten))
  pub front : take used after ≡ take used s
  pub rest : drop longer after ≡ drop longer s
