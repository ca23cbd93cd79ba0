-- As many bytes as `input::room` promises: by this answer another number is seen to differ at once.
use Rattle.cover.proofs.room.Goals as goal

pub returns : goal.returns
returns c = c.room.ensures.size
