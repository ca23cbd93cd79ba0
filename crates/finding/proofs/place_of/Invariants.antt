-- `finding::place_of` meets its contract: no record so far has the number pair, so what is left decides.
use Rattle.std.proofs.Common.{◌≡◌, ◌+◌, ◌*◌, length}
use Rattle.std.specs.Slice.Iter.{chunks_exact_rest, chunks_exact_size}
use Rattle.record.specs.Record.{record_bytes, pair_of}
use Rattle.records.specs.Sheet.{records_of}
use Rattle.finding.specs.Find.{place_in, place_of}
use Rattle.finding.proofs.place_of.Given as goal

abbrev pub invariant-loop-place : goal.invariant-loop-place
invariant-loop-place l =
    let rest = chunks_exact_rest l.place-iterator.iter in
    let key = pair_of l.craft l.block in
    record {
      size : chunks_exact_size l.place-iterator.iter ≡ record_bytes;
      place : l.place-iterator.count * record_bytes + length rest ≡ length l.s;
      later : l.place-iterator.count + place_in key (records_of rest) ≡ place_of l.s key;
    }
