-- `digits::are_bytes` meets its contract. Assumes nothing.
use Rattle.std.proofs.Common.{rules, tests, eq-eqb, ne_eqb}
use Rattle.std.proofs.lemmas.Iterator.{YieldsList-from_slice}
use Rattle.std.proofs.lemmas.Iterator.Search.{all_from_yields_List}
use Rattle.words.proofs.ByteLaws.{every-all}
use Rattle.digits.specs.Spelled.{is_hexadecimal, is_bytes}
use Rattle.digits.proofs.are_bytes.Goals as goal

pub returns-then-word-eq0 : goal.returns-then-word-eq0
unfolding is_bytes
returns-then-word-eq0 c =
    rw (eq-eqb _ _ c.if-word-eq0.true, every-all is_hexadecimal c.args.word.now)
    (all_from_yields_List is_hexadecimal _ _ c.all.result c.all.ensures.ran
    (YieldsList-from_slice c.args.word.now (cc)) (λ x b q k. search (rules, tests)))

pub returns-else-word-eq0 : goal.returns-else-word-eq0
unfolding is_bytes
returns-else-word-eq0 c = rw (ne_eqb _ _ c.if-word-eq0.false)
