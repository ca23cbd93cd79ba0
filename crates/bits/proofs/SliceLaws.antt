-- The rest of a slice that is lent, and a slice whose lent tail comes back with its front replaced.
-- Assumes nothing.
use mathlib.Core.Path.{◌≡◌, sym, ap, ◌∙◌}
use mathlib.Core.List.{List, [], ◌++◌, append_assoc, append-nil}
use Prim.Native.Nat.{ℕ, ◌+◌, ◌-◌, ◌≤◌}
use native.Mathlib.Omega.{arith}
use borrow.Rule.Slice.PartMut.{put_mid}
use lib.ListN.{length, length-append, length-drop, drop_of_length-le, take, drop}
use lib.Seq.{take_all, take_at, drop_at, drop-drop}

-- `&s[a..]`
pub rest-lent : (s : List ℕ) (a : ℕ) → take (length s - a) (drop a s) ≡ drop a s
rest-lent s a = take_all (length s - a) (drop a s) (omega (arith, length-drop a s))

-- `&mut s[a..]` comes back with its first k bytes replaced by e
pub tail-back : (s e : List ℕ) (a k : ℕ) → a ≤ length s
    → put_mid a (length s - a) s (e ++ drop k (take (length s - a) (drop a s)))
    ≡ take a s ++ (e ++ drop (a + k) s)
tail-back s e a k within =
    let none : drop (length s - a) (drop a s) ≡ [] =
    drop_of_length-le (drop a s) {i = length s - a} (omega (arith, length-drop a s)) in
    rw (rest-lent s a, none, append-nil (e ++ drop k (drop a s)), drop-drop k a s)

-- a slice that is filled up to place a is filled on by k bytes
pub filled_on : (s before front e : List ℕ) (a k : ℕ) → s ≡ front ++ drop a before → length front ≡ a
    → put_mid a (length s - a) s (e ++ drop k (take (length s - a) (drop a s)))
    ≡ (front ++ e) ++ drop (a + k) before
filled_on s before front e a k filled is-a =
    let start : take a s ≡ front = rw filled (take_at front (drop a before) a is-a) in
    let after : drop a s ≡ drop a before = rw filled (drop_at front (drop a before) a is-a) in
    let rest : drop (a + k) s ≡ drop (a + k) before =
    sym (drop-drop k a s) ∙ ap (λ (t : List ℕ). drop k t) after ∙ drop-drop k a before in
    let long : length s ≡ a + length (drop a before) =
    ap length filled ∙ length-append front (drop a before) ∙ rw is-a in
    tail-back s e a k (omega arith) ∙ rw (start, rest) (sym (append_assoc front e (drop (a + k) before)))
