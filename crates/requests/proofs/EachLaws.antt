-- Pieces one after the other: joined, taken apart, measured; and there is one way. Assumes nothing.
use mathlib.Core.Path.{◌≡◌, refl, sym, ap, ap₂, ◌∙◌}
use mathlib.Core.List.{List, [], ◌∷◌, ◌++◌, append_assoc}
use Prim.Native.Nat.{ℕ, ◌*◌, ◌≤◌}
use native.Mathlib.Nat.{mul-suc}
use native.Mathlib.Omega.{arith}
use lib.ListN.{length, length-append}
use Rattle.requests.specs.Requests.{Request}
use Rattle.requests.specs.Each.{Each, none, next}

module _ (Piece : Request → List ℕ → Type 0) where
  pub each_append : (qs rs : List Request) (a b : List ℕ) → Each Piece qs a → Each Piece rs b
      → Each Piece (qs ++ rs) (a ++ b)
  each_append _ rs _ b none e = e
  each_append _ rs _ b (next {q} {qs} {piece} {pieces} p more) e =
      rw (append_assoc piece pieces b) (next p (each_append qs rs pieces b more e))

  -- the pieces of the first requests and those of the others
  pub record Halves (qs rs : List Request) (s : List ℕ) : Type 0 where
    pub front : List ℕ
    pub back : List ℕ
    pub joined : s ≡ front ++ back
    pub firsts : Each Piece qs front
    pub others : Each Piece rs back

  pub each-parts : (qs rs : List Request) (s : List ℕ) → Each Piece (qs ++ rs) s → Halves qs rs s
  each-parts [] rs s e =
      record { front = []; back = s; joined = refl; firsts = none; others = e }
  each-parts (q ∷ qs) rs _ (next {piece = piece} {pieces = pieces} p more) =
      let parts = each-parts qs rs pieces more in
      record {
        front = piece ++ parts.front;
        back = parts.back;
        joined = ap (λ (x : List ℕ). piece ++ x) parts.joined ∙ sym (append_assoc piece _ _);
        firsts = next p parts.firsts;
        others = parts.others;
      }

  pub each-unique : ((q : Request) (a b : List ℕ) → Piece q a → Piece q b → a ≡ b)
      → (qs : List Request) (a b : List ℕ) → Each Piece qs a → Each Piece qs b → a ≡ b
  each-unique one _ _ _ none none = refl
  each-unique one _ _ _ (next {q} {qs} p more) (next p' more') =
      ap₂ ◌++◌ (one q _ _ p p') (each-unique one qs _ _ more more')

  -- the length, by that of each piece
  pub each-length : (low high : ℕ)
      → ((q : Request) (a : List ℕ) → Piece q a → (low ≤ length a) × (length a ≤ high))
      → (qs : List Request) (s : List ℕ) → Each Piece qs s
      → (low * length qs ≤ length s) × (length s ≤ high * length qs)
  each-length low high one _ _ none = (omega arith, omega arith)
  each-length low high one _ _ (next {q} {qs} {piece} {pieces} p more) =
      let here = one q piece p in
      let rest = each-length low high one qs pieces more in
      let all = length-append piece pieces in
      rw (mul-suc low (length qs), mul-suc high (length qs)) (omega arith, omega arith)
