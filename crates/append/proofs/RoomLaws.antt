-- The bytes of a slice to which a header is copied, and then the bytes after it. Assumes nothing.
use mathlib.Core.Path.{◌≡◌, sym}
use mathlib.Core.List.{List, ◌++◌, append_assoc}
use Prim.Native.Nat.{ℕ, ◌+◌}
use borrow.Rule.Slice.PartMut.{put_mid}
use lib.ListN.{length, drop}
use lib.Seq.{take_at, drop_at, drop-drop}

-- a front of a bytes is copied to the start of the room, then b bytes to the part after it, each to a
-- part of its own length
pub parts-copied : (front back room headed filled : List ℕ) (a b k : ℕ) → length front ≡ a → k ≡ b
    → headed ≡ front → filled ≡ back
    → put_mid a k (headed ++ drop a room) filled ≡ (front ++ back) ++ drop (a + b) room
parts-copied front back room headed filled a b k is-a is-b first second =
    let start = take_at front (drop a room) a is-a in
    let rest = drop_at front (drop a room) a is-a in
    rw (first, second, is-b, start, rest, drop-drop b a room) (sym (append_assoc front back (drop (a + b) room)))
