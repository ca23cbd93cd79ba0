-- A buffer filled request by request: the pieces of the requests that are done stand at its start, its
-- other bytes are as they were, and there is room for the pieces still to come.
use Rattle.std.specs.Prelude.{None, Ok, Result}
use Rattle.std.specs.Result.{result_unwrap_or}
use mathlib.Core.Path.{◌≡◌, refl, sym, ap, ◌∙◌}
use mathlib.Core.Bool.{false}
use mathlib.Core.List.{List, [], ◌∷◌, ◌++◌, append_assoc, append-nil}
use Prim.Native.Nat.{ℕ, zero, suc, ◌+◌, ◌-◌, ◌*◌, ◌≤◌}
use native.Mathlib.Nat.{mul-suc}
use native.Mathlib.Omega.{arith}
use lib.ListN.{length, take, drop, get_or, length-append, length-drop}
use lib.Seq.{take_all, length-take-le}
use borrow.Author.Tests.{le-ltb}
use borrow.Rule.Slice.PartMut.{put_mid}
use Rattle.bits.proofs.SearchLaws.{clash}
use Rattle.bits.proofs.SliceLaws.{filled_on}
use Rattle.block.specs.declared.Refusal.{Refusal}
use Rattle.block.specs.Table.{table_bytes}
use Rattle.block.specs.Answer.{Writes, answered, written_of, refused, filled}
use Rattle.block.proofs.AnswerLaws.{fills-bytes, written-unique, writes_bytes}
use Rattle.requests.specs.Requests.{Request, requests_of, first_request, first_bytes, broken, build_refusal}
use Rattle.requests.specs.Each.{Each, none, next, WritesPiece, FillsEach}
use Rattle.requests.specs.Counting.{Counts}
use Rattle.requests.proofs.RequestLaws.{Led, first-broken, requests-none}
use Rattle.requests.proofs.CountLaws.{accepted, counted-many}
use Rattle.requests.proofs.EachLaws.{each-length}

-- the pieces of the requests before `rest` stand in the first `used` bytes
pub record FilledTo (Piece : Request → List ℕ → Type 0) (most : ℕ) (s before rest out : List ℕ) (used : ℕ) : Type 0 where
  pub pieces : List ℕ
  pub onward : (others : List ℕ) → Each Piece (requests_of rest) others → Each Piece (requests_of s) (pieces ++ others)
  pub sound : broken rest ≡ false
  pub length-used : used ≡ length pieces
  pub kept : out ≡ pieces ++ drop used before
  pub room : used + most * length (requests_of rest) ≤ length before

-- the first request of what is left, as the code lends its parts
pub record Lent (rest : List ℕ) (n : ℕ) (table : List ℕ) : Type 0 where
  pub n-is : n ≡ (first_request rest).n
  pub table-is : table ≡ (first_request rest).table

pub lent : (rest : List ℕ) (size : ℕ) → Led rest size
    → Lent rest (get_or (take size rest) 0 0) (take (length (take size rest) - 1) (drop 1 (take size rest)))
lent [] size first = absurd (omega (arith, first.within, first.bytes))
lent (n ∷ s) size first =
    let table = table_bytes n in
    let sized : size ≡ suc table = omega (arith, first.bytes) in
    rw sized
    (record { n-is = refl; table-is = take_all (suc (length (take table s)) - 1) (take table s) (omega arith) })

-- nothing is left
ended : (rest : List ℕ) → broken rest ≡ false → first_bytes rest ≡ None → rest ≡ []
ended [] sound e = refl
ended (n ∷ s) sound e = clash (first-broken (n ∷ s) (omega arith) e) sound

-- pieces of at most `most` bytes each
module _ (Piece : Request → List ℕ → Type 0) (most : ℕ) (s before : List ℕ) where
  pub filled-start : (many : ℕ) → Counts most s (length before) (Ok many) → FilledTo Piece most s before s before 0
  filled-start many c =
      let fine = accepted most s (length before) (counted-many most s (length before) many c).fine in
      record {
        pieces = [];
        onward = λ others e. e;
        sound = fine.0;
        length-used = refl;
        kept = refl;
        room = omega (arith, fine.1);
      }

  module _ (rest out : List ℕ) (used : ℕ) (f : FilledTo Piece most s before rest out used) where
    filled-length : length out ≡ length before
    filled-length =
        let parts = length-append f.pieces (drop used before) in
        let all = ap length f.kept in
        omega (arith, f.length-used, f.room, length-drop used before)

    pub filled-end : (many : ℕ) → Counts most s (length before) (Ok many) → first_bytes rest ≡ None
        → FillsEach Piece most s before out (Ok used)
    filled-end many c e =
        let fine = (counted-many most s (length before) many c).fine in
        let over : requests_of rest ≡ [] = rw (ended rest f.sound e) requests-none in
        let all : Each Piece (requests_of s) f.pieces =
        rw (append-nil f.pieces) at (f.onward [] (rw over none)) in
        fills-bytes (build_refusal most s (length before)) (Each Piece (requests_of s)) f.pieces before out used fine all
        f.length-used (rw f.length-used at f.kept)

    -- one piece more
    module _ (size n : ℕ) (table tail : List ℕ) (r : Result ℕ Refusal) (first : Led rest size) (l : Lent rest n table)
        (w : WritesPiece Piece most n table (take (length out - used) (drop used out)) tail r) where
      made : Piece (first_request rest) w.piece
      made = rw (l.n-is, l.table-is) at w.made

      more : used + most + most * length (requests_of (drop size rest)) ≤ length before
      more =
          let next : most * length (requests_of rest) ≡ most * length (requests_of (drop size rest)) + most =
          ap (λ (qs : List Request). most * length qs) first.requests ∙ mul-suc most (length (requests_of (drop size rest))) in
          omega (arith, f.room)

      -- it had room
      wrote : (r ≡ Ok (length w.piece)) × (tail ≡ w.piece ++ drop (length w.piece) (take (length out - used) (drop used out)))
      wrote =
          let lent = take (length out - used) (drop used out) in
          let long : length lent ≡ length out - used = length-take-le (length out - used) (drop used out) (omega (arith, length-drop used out)) in
          let fits : length w.piece ≤ length lent = omega (arith, w.short, more, filled-length, long) in
          let plain : Writes 0 w.piece lent tail r = rw (le-ltb (length lent) (length w.piece) fits) at w.written in
          written-unique 0 w.piece lent tail (w.piece ++ drop (length w.piece) lent) r (Ok (length w.piece)) plain
          (writes_bytes 0 w.piece lent _ (length w.piece) refl refl refl)

      pub filled_next : FilledTo Piece most s before (drop size rest) (put_mid used (length out - used) out tail)
          (used + result_unwrap_or r 0)
      filled_next =
          rw (wrote.0, wrote.1)
          (record {
            pieces = f.pieces ++ w.piece;
            onward = λ others e.
                rw (append_assoc f.pieces w.piece others) (f.onward (w.piece ++ others) (rw first.requests (next made e)));
            sound = sym first.others ∙ f.sound;
            length-used = omega (arith, f.length-used, length-append f.pieces w.piece);
            kept = filled_on out before f.pieces w.piece used (length w.piece) f.kept (sym f.length-used);
            room = omega (arith, more, w.short);
          })

-- the length in use is within the buffer
pub fills-within : (Piece : Request → List ℕ → Type 0) (most : ℕ)
    → ((q : Request) (a : List ℕ) → Piece q a → length a ≤ most)
    → (s before after : List ℕ) (r : Result ℕ Refusal)
    → FillsEach Piece most s before after r → (written_of r).parts ≤ length before
fills-within Piece most short s before after r (refused some w) =
    rw w.told (none-used (build_refusal most s (length before)))
  where
    none-used : (k : ℕ) → (answered k 0 0).parts ≤ length before
    none-used zero = omega arith
    none-used (suc k) = omega arith
fills-within Piece most short s before after r (filled fine bytes each w) =
    let made = (each-length Piece 0 most (λ q a p. (omega arith, short q a p)) (requests_of s) bytes each).1 in
    rw w.told (omega (arith, made, (accepted most s (length before) fine).1))
