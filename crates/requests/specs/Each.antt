-- Something for each request, one after the other. Assumes nothing.
use Rattle.std.specs.Prelude.{ℕ, List, [], ◌∷◌, ◌++◌, ltb, length, ◌≤◌, Result}
use Rattle.block.specs.declared.Refusal.{Refusal}
use Rattle.block.specs.Refusal.{◌when◌, first_of}
use Rattle.block.specs.Answer.{Writes, Fills}
use Rattle.requests.specs.Requests.{Request, requests_of, build_refusal}

-- the pieces of these requests, in their order, with nothing between them
pub data Each (Piece : Request → List ℕ → Type 0) : List Request → List ℕ → Type 0 where
  none : Each Piece [] []
  next : {q : Request} {qs : List Request} {piece pieces : List ℕ}
      → Piece q piece → Each Piece qs pieces → Each Piece (q ∷ qs) (piece ++ pieces)

-- the piece of one request, a table of n inputs, of `most` bytes at most and at the start of a lent buffer:
-- 5 if it does not fit
pub record WritesPiece (Piece : Request → List ℕ → Type 0) (most n : ℕ) (t before after : List ℕ) (r : Result ℕ Refusal) : Type 0 where
  pub piece : List ℕ
  pub short : length piece ≤ most
  pub made : Piece (record { n = n; table = t }) piece
  pub written : Writes (first_of (5 when ltb (length before) (length piece) ∷ [])) piece before after r

-- What filling promises, where pieces have `most` bytes at most: 14, or 5 where there is no room for so
-- many longest pieces, and no byte changed; else the piece of each request, no byte after them changed,
-- and their length.
abbrev pub FillsEach : (Piece : Request → List ℕ → Type 0) (most : ℕ) (s before after : List ℕ) (r : Result ℕ Refusal) → Type 0
FillsEach Piece most s before after r =
    Fills (build_refusal most s (length before)) (Each Piece (requests_of s)) before after r
