-- `finding::taken` meets its contract: after the numbers stand the ten bytes. Assumes nothing.
use mathlib.Core.Path.{sym, ap, ◌∙◌}
use mathlib.Core.List.{append-nil}
use lib.ListN.{length, replicate}
use Rattle.finding.proofs.ReadLaws.{taken-record, copied}
use Rattle.finding.proofs.taken.Goals as goal

pub returns : goal.returns
returns c =
    taken-record _ _ _ c.requires c.numbers_of.ensures
    (sym (append-nil _) ∙ copied _ _ (replicate 10 0) 10 c.copy_from_slice.ensures.after
    (ap length (sym c.copy_from_slice.ensures.after) ∙ c.copy_from_slice.ensures.len))
