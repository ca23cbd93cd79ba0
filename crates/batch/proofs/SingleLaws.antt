-- A slot is what a single call gives for its request, in whatever room of ten bytes or more. Assumes
-- nothing.
use Rattle.std.specs.Prelude.{Result}
use Rattle.block.specs.declared.Refusal.{Refusal}
use mathlib.Core.Path.{◌≡◌, refl, sym, ap, ap₂, ◌∙◌}
use mathlib.Core.Bool.{true, not}
use mathlib.Core.List.{List, [], ◌∷◌, append-nil}
use mathlib.Core.Logic.{◌⊎◌, inl, inr}
use Prim.Native.Nat.{ℕ, ◌≤◌}
use native.Mathlib.Omega.{arith}
use lib.Dec.{eqb}
use lib.ListN.{length, take, drop, get_or}
use lib.Seq.{take_at}
use borrow.Author.Tests.{le-ltb, eq-eqb, ne_eqb}
use Rattle.bits.specs.Tests.{pick, member}
use Rattle.bits.proofs.SearchLaws.{byBool}
use Rattle.block.specs.Table.{table_bytes, padding}
use Rattle.block.specs.Block.{Block}
use Rattle.block.specs.Answer.{written_of, Writes}
use Rattle.block.proofs.AnswerLaws.{written-number, nothing_written}
use Rattle.codec.specs.Ten.{block_bytes, ten_zeros, pack_of}
use Rattle.round.proofs.PackedLaws.{packed-ten}
use Rattle.matcher.specs.Match.{match_refusal, Matched, refused, unmatched, matched}
use Rattle.matcher.proofs.UniqueMatch.{acceptable, match-unique}
use Rattle.matcher.proofs.BytesLaws.{matched-number}
use Rattle.requests.specs.Requests.{Request, is_whole}
use Rattle.requests.proofs.LaidLaws.{whole_of}
use Rattle.batch.specs.Batch.{Slot}

-- the ten bytes of an answer: those written, or zeros after a refusal
abbrev pub ten_of : (r : Result ℕ Refusal) (after : List ℕ) → List ℕ
ten_of r after = pick (eqb (written_of r).number 0) (take block_bytes after) ten_zeros

-- room for ten bytes is as good as more
same-refusal : (n : ℕ) (t : List ℕ) (room : ℕ) → block_bytes ≤ room
    → match_refusal n t room ≡ match_refusal n t block_bytes
unfolding match_refusal
same-refusal n t room l = rw (le-ltb room block_bytes l)

module _ (n : ℕ) (t before after : List ℕ) (r : Result ℕ Refusal) (l : block_bytes ≤ length before) where
  zeros-kept : (k : ℕ) → (k ≡ 0 → ⊥) → Writes k [] before after r → Writes k [] ten_zeros (ten_of r after) r
  zeros-kept k some w =
      let number = written-number k [] before after r w in
      record {
        told = w.told;
        kept = rw (ne_eqb (written_of r).number 0 (λ e. some (sym number ∙ e))) (nothing_written k ten_zeros);
      }

  bytes-written : (b : Block) → length (pack_of b) ≡ block_bytes → Writes 0 (pack_of b) before after r
      → Writes 0 (pack_of b) ten_zeros (ten_of r after) r
  bytes-written b ten w =
      let number = written-number 0 (pack_of b) before after r w in
      record {
        told = w.told;
        kept =
            rw (eq-eqb (written_of r).number 0 number, w.kept, take_at (pack_of b) _ block_bytes ten, ten)
            (sym (append-nil (pack_of b)));
      }

  -- the same call, lent ten zeros
  in-ten-zeros : Matched n t before after r → Matched n t ten_zeros (ten_of r after) r
  in-ten-zeros (refused some w) =
      let alike = same-refusal n t (length before) l in
      refused (λ z. some (alike ∙ z)) (rw alike at (zeros-kept _ some w))
  in-ten-zeros (unmatched none never w) =
      let alike = same-refusal n t (length before) l in
      unmatched (sym alike ∙ none) never (zeros-kept 4 (λ z. omega arith) w)
  in-ten-zeros (matched none b p w) =
      let alike = same-refusal n t (length before) l in
      let ten = packed-ten n b (acceptable n t (length before) none b p.matches) in
      matched (sym alike ∙ none) b p (bytes-written b ten w)

pub slot-single : (q : Request) (slot before after : List ℕ) (r : Result ℕ Refusal) → Slot q slot
    → block_bytes ≤ length before → Matched q.n q.table before after r
    → slot ≡ (written_of r).number ∷ ten_of r after
slot-single q slot before after r s l m =
    let single = in-ten-zeros q.n q.table before after r l m in
    let same = match-unique q.n q.table ten_zeros s.ten (ten_of r after) s.answer r s.matched single in
    s.made ∙ ap₂ ◌∷◌ (ap (λ (a : Result ℕ Refusal). (written_of a).number) same.0) same.1

-- after a refusal the ten bytes are zero
pub slot-refused : (q : Request) (slot : List ℕ) → Slot q slot → (get_or slot 0 0 ≡ 0 → ⊥)
    → drop 1 slot ≡ ten_zeros
slot-refused q slot s some =
    let same = slot-single q slot ten_zeros s.ten s.answer s (omega arith) s.matched in
    let number : get_or slot 0 0 ≡ (written_of s.answer).number = rw same in
    rw same (rw (ne_eqb (written_of s.answer).number 0 (λ e. some (number ∙ e))) refl)

-- 3 and 4 are the only refusals in a slot
only-padding : (n : ℕ) (t : List ℕ) → n ≤ 9 → length t ≡ table_bytes n
    → match_refusal n t block_bytes ≡ pick (not (eqb (padding n t) 0)) 3 0
unfolding match_refusal
only-padding n t few sized = rw (le-ltb 9 n few, eq-eqb (length t) (table_bytes n) sized)

pub slot-number : (q : Request) (slot : List ℕ) → is_whole q ≡ true → Slot q slot
    → member (get_or slot 0 0) (0 ∷ 3 ∷ 4 ∷ []) ≡ true
slot-number q slot whole s =
    let w = whole_of q whole in
    rw s.made
    (by_number (matched-number q.n q.table ten_zeros s.ten s.answer s.matched)
    (only-padding q.n q.table w.0 w.1))
  where
    by_number : ((written_of s.answer).number ≡ match_refusal q.n q.table block_bytes)
        ⊎ ((written_of s.answer).number ≡ 4)
        → match_refusal q.n q.table block_bytes ≡ pick (not (eqb (padding q.n q.table) 0)) 3 0
        → member (written_of s.answer).number (0 ∷ 3 ∷ 4 ∷ []) ≡ true
    by_number (inl e) only =
        rw (e, only)
        (byBool (not (eqb (padding q.n q.table) 0)) (λ dirty. rw dirty) (λ clean. rw clean))
    by_number (inr e) only = rw e
