-- `columns::put_lines` meets its contract: the lines of the records that are done stand at the start of
-- the buffer, and the bytes of the others are left.
use Rattle.std.proofs.Common.{◌≡◌, ◌*◌, drop}
use Rattle.std.specs.Slice.Iter.{chunks_exact_rest, chunks_exact_size}
use Rattle.record.specs.Record.{record_bytes}
use Rattle.columns.proofs.ListLaws.{PutTo}
use Rattle.columns.proofs.put_lines.Given as goal

abbrev pub invariant-loop-place : goal.invariant-loop-place
invariant-loop-place l =
    record {
      size : chunks_exact_size l.place-iterator.iter ≡ record_bytes;
      rest : chunks_exact_rest l.place-iterator.iter ≡ drop (l.place-iterator.count * record_bytes) l.s;
      put : PutTo l.s l.initial.out l.out l.place-iterator.count;
    }
