-- `columns::put_lines` meets its contract: the lines of the records that are done stand at the start of
-- the buffer, and the bytes of the others are left.
use Rattle.std.proofs.Common.{arith, ap, ◌∙◌, ◌≡◌, length, ◌*◌, ◌<◌, ◌+◌, ◌-◌}
use Rattle.std.specs.Slice.Iter.{chunks_exact_rest}
use lib.ListN.{length-drop}
use Rattle.bits.proofs.SliceLaws.{rest-lent}
use Rattle.record.specs.Record.{record_bytes}
use Rattle.records.proofs.SheetLaws.{records-length}
use Rattle.records.proofs.BoundLaws.{records-few}
use Rattle.columns.specs.Columns.{record_line_bytes}
use Rattle.columns.proofs.ListLaws.{Next, next-of, put-start, put_next, put_all, record-part}
use Rattle.columns.proofs.put_lines.Goals as goal

pub loop-place-init : goal.loop-place-init
loop-place-init c =
    let first : c.into_iter-place-iterator.result.count ≡ 0 = grind arith in
    record { size = grind arith; rest = grind arith; put = rw first (put-start _ _) }

pub overflow_mul-place : goal.overflow_mul-place
overflow_mul-place c =
    let s = c.args.s.now in
    let next : Next s c.in-Some.place c.in-Some.bytes.now (chunks_exact_rest c.next.new.self.iter) =
    next-of s (chunks_exact_rest c.loop-place.place-iterator.iter) _ _ _ (grind arith) (grind arith) (grind arith) in
    record { fits = omega (arith, next.within, records-few _ c.requires.none) }

pub slice_bounds-put_line-count : goal.slice_bounds-put_line-count
slice_bounds-put_line-count c =
    let s = c.args.s.now in
    let next : Next s c.in-Some.place c.in-Some.bytes.now (chunks_exact_rest c.next.new.self.iter) =
    next-of s (chunks_exact_rest c.loop-place.place-iterator.iter) _ _ _ (grind arith) (grind arith) (grind arith) in
    omega (arith, next.within, c.requires.room, c.loop-place.auto.out)

pub slice_bounds-put_line-start : goal.slice_bounds-put_line-start
slice_bounds-put_line-start c =
    let s = c.args.s.now in
    let next : Next s c.in-Some.place c.in-Some.bytes.now (chunks_exact_rest c.next.new.self.iter) =
    next-of s (chunks_exact_rest c.loop-place.place-iterator.iter) _ _ _ (grind arith) (grind arith) (grind arith) in
    omega (arith, next.within, c.requires.room, c.loop-place.auto.out)

pub put_line-requires-clause-s_len : goal.put_line-requires-clause-s_len
put_line-requires-clause-s_len c =
    let s = c.args.s.now in
    let next : Next s c.in-Some.place c.in-Some.bytes.now (chunks_exact_rest c.next.new.self.iter) =
    next-of s (chunks_exact_rest c.loop-place.place-iterator.iter) _ _ _ (grind arith) (grind arith) (grind arith) in
    rw next.bytes (record-part s c.requires.none c.in-Some.place next.within)

pub put_line-requires-clause-place_lt_most_records : goal.put_line-requires-clause-place_lt_most_records
put_line-requires-clause-place_lt_most_records c =
    let s = c.args.s.now in
    let next : Next s c.in-Some.place c.in-Some.bytes.now (chunks_exact_rest c.next.new.self.iter) =
    next-of s (chunks_exact_rest c.loop-place.place-iterator.iter) _ _ _ (grind arith) (grind arith) (grind arith) in
    let left = length-drop (c.in-Some.place * record_line_bytes) c.loop-place.out in (
      omega (arith, next.within, records-few s c.requires.none),
      rw (rest-lent _ _) (omega (arith, left, next.within, c.requires.room, c.loop-place.auto.out)),
    )

pub loop-place-preserved : goal.loop-place-preserved
loop-place-preserved c =
    let s = c.args.s.now in
    let next : Next s c.in-Some.place c.in-Some.bytes.now (chunks_exact_rest c.next.new.self.iter) =
    next-of s (chunks_exact_rest c.loop-place.place-iterator.iter) _ _ _ (grind arith) (grind arith) (grind arith) in
    let here : c.loop-place.place-iterator.count ≡ c.in-Some.place = grind arith in
    let on : c.next.new.self.count ≡ c.in-Some.place + 1 = grind arith in
    record {
      size = grind arith;
      rest = rw on next.rest;
      put =
          rw on
          (put_next s _ _ c.in-Some.place c.requires.none next.within (rw here at c.loop-place.invariant.put) _
          (rw next.bytes at c.put_line.ensures));
    }

pub returns : goal.returns
returns c =
    let s = c.args.s.now in
    let count = c.loop-place.place-iterator.count in
    let short : length (chunks_exact_rest c.loop-place.place-iterator.iter) < record_bytes = grind arith in
    let left : length (chunks_exact_rest c.loop-place.place-iterator.iter) ≡ length s - count * record_bytes =
    ap length c.loop-place.invariant.rest ∙ length-drop (count * record_bytes) s in
    put_all s _ _ count (omega (arith, records-length s, short, left)) c.loop-place.invariant.put
