-- The lent sheet with the record in it: what is in use, what is after it, and as long as before.
-- Assumes nothing.
use mathlib.Core.Path.{◌≡◌, sym}
use mathlib.Core.List.{List, ◌++◌, append_assoc}
use Prim.Native.Nat.{ℕ, ◌+◌, ◌≤◌}
use native.Mathlib.Omega.{arith}
use lib.ListN.{length, take, drop, length-append, length-drop}
use lib.Seq.{length-take-le, take_at, drop_at}
use Rattle.record.specs.Record.{Record, record_bytes, lay_out}
use Rattle.append.specs.Append.{appended}

module _ (s : List ℕ) (used : ℕ) (r : Record)
    (room : used + record_bytes ≤ length s) (laid : length (lay_out r) ≡ record_bytes) where
  front_length : length (take used s ++ lay_out r) ≡ used + record_bytes
  front_length =
      rw (length-append (take used s) (lay_out r), length-take-le used s (omega arith), laid)

  two-parts : appended 0 s used r ≡ take used s ++ lay_out r ++ drop (used + record_bytes) s
  two-parts = sym (append_assoc (take used s) (lay_out r) (drop (used + record_bytes) s))

  pub appended-take : take (used + record_bytes) (appended 0 s used r) ≡ take used s ++ lay_out r
  appended-take =
      rw two-parts (take_at (take used s ++ lay_out r) (drop (used + record_bytes) s) _ front_length)

  pub appended-drop : drop (used + record_bytes) (appended 0 s used r) ≡ drop (used + record_bytes) s
  appended-drop =
      rw two-parts (drop_at (take used s ++ lay_out r) (drop (used + record_bytes) s) _ front_length)

  pub appended-length : length (appended 0 s used r) ≡ length s
  appended-length =
      rw (
        two-parts,
        length-append (take used s ++ lay_out r) (drop (used + record_bytes) s),
        front_length,
        length-drop (used + record_bytes) s,
      )
      (omega arith)
