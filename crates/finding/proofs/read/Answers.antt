-- `finding::read` meets its contract: the record is that of the bytes at the place.
use Rattle.finding.proofs.ReadLaws.{reads-record}
use Rattle.finding.proofs.read.Goals as goal

pub returns : goal.returns
returns c = reads-record _ _ _ _ c.in_ok-bytes.ensures.ok c.taken.ensures
