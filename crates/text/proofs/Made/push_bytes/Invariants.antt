-- `text::Made::push_bytes` meets its contract. The invariant: with the capitals of the bytes that are left
-- the line is what it is to be.
use mathlib.Core.Path.{◌≡◌}
use mathlib.Core.List.{◌++◌}
use lib.ListN.{drop}
use Rattle.digits.specs.Digits.{hexadecimal}
use Rattle.text.proofs.Made.push_bytes.Given as goal

abbrev pub invariant-loop-byte : goal.invariant-loop-byte
invariant-loop-byte l = l.self ++ hexadecimal (drop l.byte-index l.s) ≡ l.fn.self ++ hexadecimal l.s
