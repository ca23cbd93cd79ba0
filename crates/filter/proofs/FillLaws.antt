-- A list with zeros after it, made longer at its end. Assumes nothing.
use mathlib.Core.Path.{◌≡◌, sym}
use mathlib.Core.List.{List, [], ◌∷◌, ◌++◌, append-nil}
use Prim.Native.Nat.{ℕ, suc, ◌-◌, ◌<◌, ◌≤◌}
use native.Mathlib.Omega.{arith}
use lib.ListN.{length, get_or, set, replicate, length-append, length-replicate, get_or-append}
use lib.Seq.{set-append_seam, append_snoc}
use Rattle.filter.specs.Choices.{filled_up}

pub filled-length : (size : ℕ) (l : List ℕ) → length l ≤ size → length (filled_up size l) ≡ size
filled-length size l h = rw (length-append, length-replicate) (omega arith)

pub filled_more : (size : ℕ) (l : List ℕ) (x : ℕ) → length l < size
    → set (filled_up size l) (length l) x ≡ filled_up size (l ++ (x ∷ []))
filled_more size l x h =
    let rest : List ℕ = replicate (size - suc (length l)) 0 in
    let room : size - length l ≡ suc (size - suc (length l)) = omega arith in
    let longer : length (l ++ (x ∷ [])) ≡ suc (length l) = rw length-append (omega arith) in
    rw (room, longer, set-append_seam l 0 rest x) (sym (append_snoc l x rest))

pub filled-all : (size : ℕ) (l : List ℕ) → length l ≡ size → filled_up size l ≡ l
filled-all size l h =
    let none : size - length l ≡ 0 = omega arith in rw (none, append-nil)

pub filled_at : (size : ℕ) (l : List ℕ) (k : ℕ) → k < length l
    → get_or (filled_up size l) k 0 ≡ get_or l k 0
filled_at size l k h = get_or-append l (replicate (size - length l) 0) 0 k h
