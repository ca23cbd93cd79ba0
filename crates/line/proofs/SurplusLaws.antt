-- What comes after enough bytes of the input changes nothing. Assumes nothing.
use Rattle.std.specs.Prelude.{Result}
use Rattle.block.specs.declared.Refusal.{Refusal}
use mathlib.Core.Path.{◌≡◌, sym, ◌∙◌}
use mathlib.Core.List.{List, [], ◌∷◌}
use Prim.Native.Nat.{ℕ, ◌≤◌}
use native.Mathlib.Omega.{arith}
use lib.Dec.{ltb}
use lib.ListN.{length, take}
use lib.Seq.{length-take-le}
use borrow.Author.Tests.{ltb-true, ltb-false}
use Rattle.bits.proofs.SearchLaws.{byBool}
use Rattle.block.proofs.TableLaws.{bytes_most}
use Rattle.matcher.specs.Match.{match_refusal, Matched, refused, unmatched, matched}
use Rattle.matcher.proofs.HeadLaws.{well-formed, refuses-1, refuses-2}
use Rattle.line.specs.Line.{Lines, Answers, enough}

never-whole : (n : ℕ) (t : List ℕ) (room : ℕ) → 65 ≤ length t → match_refusal n t room ≡ 0 → ⊥
never-whole n t room long none =
    let table = well-formed n t room none in
    let most = bytes_most n table.within in
    omega (arith, table.bytes)

-- two tables that are too long are refused alike, whatever their bytes are
module _ (n : ℕ) (s t : List ℕ) (long : 65 ≤ length s) (long' : 65 ≤ length t) where
  refused-alike : (room : ℕ) → match_refusal n s room ≡ match_refusal n t room
  refused-alike room =
      byBool (ltb 9 n)
      (λ e. let above = ltb-true 9 n e in sym (refuses-1 n s room above) ∙ refuses-1 n t room above)
      (λ e.
      let within = ltb-false 9 n e in
      let most = bytes_most n within in
      sym (refuses-2 n s room within (λ z. omega arith)) ∙ refuses-2 n t room within (λ z. omega arith))

  matched-alike : (before after : List ℕ) (r : Result ℕ Refusal) → Matched n s before after r
      → Matched n t before after r
  matched-alike before after r (refused some w) =
      let same = refused-alike (length before) in refused (λ z. some (same ∙ z)) (rw (← same) w)
  matched-alike before after r (unmatched none never w) = absurd (never-whole n s (length before) long none)
  matched-alike before after r (matched none b p w) = absurd (never-whole n s (length before) long none)

  lines-alike : (before after : List ℕ) (r : Result ℕ Refusal) → Lines n s before after r → Lines n t before after r
  lines-alike before after r l =
      record {
        answer = l.answer;
        ten = l.ten;
        matched = matched-alike _ l.ten l.answer l.matched;
        written = l.written;
      }

pub surplus : (input before after : List ℕ) (r : Result ℕ Refusal) → enough ≤ length input
    → Answers (take enough input) before after r → Answers input before after r
unfolding Answers
surplus [] before after r long h = absurd (omega arith)
surplus (n ∷ t) before after r long h =
    let cut : length (take 65 t) ≡ 65 = length-take-le 65 t (omega arith) in
    lines-alike n (take 65 t) t (omega arith) (omega arith) before after r h

pub surplus⁻ : (input before after : List ℕ) (r : Result ℕ Refusal) → enough ≤ length input
    → Answers input before after r → Answers (take enough input) before after r
unfolding Answers
surplus⁻ [] before after r long h = absurd (omega arith)
surplus⁻ (n ∷ t) before after r long h =
    let cut : length (take 65 t) ≡ 65 = length-take-le 65 t (omega arith) in
    lines-alike n t (take 65 t) (omega arith) (omega arith) before after r h
