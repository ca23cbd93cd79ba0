-- A slot: how it is made, and its length. Assumes nothing.
use Rattle.std.specs.Prelude.{Result}
use Rattle.block.specs.declared.Refusal.{Refusal}
use mathlib.Core.Path.{◌≡◌, refl, ap, ◌∙◌}
use mathlib.Core.List.{List, []}
use Prim.Native.Nat.{ℕ, zero, suc, ◌*◌, ◌≤◌}
use native.Mathlib.Omega.{arith}
use lib.ListN.{length, length-append}
use Rattle.block.specs.Answer.{buffer_after}
use Rattle.codec.specs.Ten.{block_bytes, ten_zeros, pack_of}
use Rattle.round.proofs.PackedLaws.{packed-ten}
use Rattle.matcher.specs.Match.{match_refusal, Matched, refused, unmatched, matched}
use Rattle.matcher.proofs.UniqueMatch.{acceptable}
use Rattle.requests.specs.Requests.{Request}
use Rattle.requests.specs.Each.{Each}
use Rattle.requests.proofs.EachLaws.{each-length}
use Rattle.batch.specs.Batch.{slot_bytes, Slot}

-- a match leaves ten bytes
ten-length : (n : ℕ) (t ten : List ℕ) (r : Result ℕ Refusal) → Matched n t ten_zeros ten r → length ten ≡ block_bytes
ten-length n t ten r (refused some w) = rw w.kept (kept-length (match_refusal n t block_bytes) some)
  where
    kept-length : (k : ℕ) → (k ≡ 0 → ⊥) → length (buffer_after k [] ten_zeros) ≡ block_bytes
    kept-length zero none = absurd (none refl)
    kept-length (suc k) none = refl
ten-length n t ten r (unmatched none never w) = rw w.kept
ten-length n t ten r (matched none b p w) =
    let packed = packed-ten n b (acceptable n t block_bytes none b p.matches) in
    rw (w.kept, packed) (length-append (pack_of b) [] ∙ omega arith)

pub slot-length : (q : Request) (slot : List ℕ) → Slot q slot → length slot ≡ slot_bytes
slot-length q slot s =
    ap length s.made ∙ ap suc (ten-length q.n q.table s.ten s.answer s.matched)

pub slot-short : (q : Request) (slot : List ℕ) → Slot q slot → length slot ≤ slot_bytes
slot-short q slot s = omega (arith, slot-length q slot s)

pub slots_length : (qs : List Request) (slots : List ℕ) → Each Slot qs slots
    → length slots ≡ slot_bytes * length qs
slots_length qs slots each =
    let both = each-length Slot slot_bytes slot_bytes
    (λ q slot s. let size = slot-length q slot s in (omega arith, omega arith)) qs slots each in
    omega (arith, both.0, both.1)
