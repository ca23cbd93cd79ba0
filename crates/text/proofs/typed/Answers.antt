-- `text::typed` meets its contract: the digit of a type is one digit.
use mathlib.Core.Path.{◌≡◌, refl}
use mathlib.Core.List.{[], ◌∷◌}
use native.Mathlib.Omega.{arith}
use Rattle.digits.specs.Digits.{decimal}
use Rattle.digits.proofs.DigitLaws.{hexadecimal-length}
use Rattle.text.proofs.BlockLaws.{digit_low}
use Rattle.text.proofs.typed.Goals as goal

pub push-requires-5 : goal.push-requires-5
push-requires-5 c =
    rw (c.push_bytes.ensures, c.push-4.ensures, c.push-3.ensures, c.push-2.ensures, c.push.ensures, c.new-line.ensures)
    (omega (arith, hexadecimal-length c.args.ten.now))

pub returns : goal.returns
returns c =
    let digit : (c.digit.result ∷ [] ≡ decimal c.args.kind.digit) = rw c.digit.ensures (digit_low _ c.requires.0) in
    rw (c.push-5.ensures, c.push_bytes.ensures, c.push-4.ensures, c.push-3.ensures, c.push-2.ensures, c.push.ensures, c.new-line.ensures)
    (rw (c.letter_code.ensures, ← digit) refl)
