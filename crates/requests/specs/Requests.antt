-- A build: requests back to back, one byte n and then its table (request 1). Assumes nothing.
use Rattle.std.specs.Prelude.{ℕ, zero, suc, ◌+◌, ◌*◌, Bool, ◌&&◌, ◌||◌, List, [], ◌∷◌, ◌++◌, eqb, leb, ltb, length, take, drop, get_or, Option, None, Some}
use Rattle.bits.specs.Tests.{pick, any}
use Rattle.block.specs.Table.{most_inputs, table_bytes}
use Rattle.block.specs.Refusal.{◌when◌, first_of, too_many_inputs}

-- n, and its table, or what there is of it
pub record Request : Type 0 where
  pub n : ℕ
  pub table : List ℕ

-- the request that begins with the byte n, in what stands after it
abbrev pub request_at : (n : ℕ) (s : List ℕ) → Request
request_at n s = record { n = n; table = take (table_bytes n) s }

-- at most so many requests, each beginning where the one before it ended
unfoldable pub requests_in : (most : ℕ) (s : List ℕ) → List Request
requests_in zero s = []
requests_in (suc most) [] = []
requests_in (suc most) (n ∷ s) = request_at n s ∷ requests_in most (drop (table_bytes n) s)

-- all of them: there are no more requests than bytes
unfoldable pub requests_of : (s : List ℕ) → List Request
requests_of s = requests_in (length s) s

-- n is above 9, or the table runs past the end
unfoldable pub is_broken : Request → Bool
is_broken q = too_many_inputs q.n || ltb (length q.table) (table_bytes q.n)

-- 14: some request is so
unfoldable pub broken : (s : List ℕ) → Bool
broken s = any is_broken (requests_of s)

-- the first request of what is left of a build
abbrev pub first_request : (s : List ℕ) → Request
first_request s = request_at (get_or s 0 0) (drop 1 s)

-- its bytes; none if there is no request, or it is broken
unfoldable pub first_bytes : (s : List ℕ) → Option ℕ
first_bytes [] = None
first_bytes (n ∷ s) = pick (is_broken (request_at n s)) None (Some (1 + table_bytes n))

-- for the whole build first 14, then 5
unfoldable pub whole_refusal : (broken lacks : Bool) → ℕ
whole_refusal broken lacks = first_of (14 when broken ∷ 5 when lacks ∷ [])

-- 5: not room for so many requests of `size` bytes each
abbrev pub lacks_room : (size many room : ℕ) → Bool
lacks_room size many room = ltb room (size * many)

-- where `size` bytes of the room are for each request
unfoldable pub build_refusal : (size : ℕ) (s : List ℕ) (room : ℕ) → ℕ
build_refusal size s room = whole_refusal (broken s) (lacks_room size (length (requests_of s)) room)

-- a request as it is offered: n at most 9, and all of its table
unfoldable pub is_whole : Request → Bool
is_whole q = leb q.n most_inputs && eqb (length q.table) (table_bytes q.n)

-- such requests back to back
unfoldable pub laid : List Request → List ℕ
laid [] = []
laid (q ∷ qs) = q.n ∷ q.table ++ laid qs
