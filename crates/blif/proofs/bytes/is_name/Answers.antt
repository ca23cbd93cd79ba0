-- `blif::bytes::is_name` meets its contract. Assumes nothing.
use Rattle.std.proofs.Common.{rules, tests, sym, ◌∙◌}
use Rattle.std.proofs.lemmas.Iterator.{YieldsList-from_slice}
use Rattle.std.proofs.lemmas.Iterator.Search.{all_from_yields_List}
use Rattle.words.proofs.ByteLaws.{every-all}
use Rattle.blif.specs.Part.{in_name}
use Rattle.blif.proofs.bytes.is_name.Goals as goal

pub returns : goal.returns
returns c =
    all_from_yields_List in_name _ _ c.all.result c.all.ensures.ran
    (YieldsList-from_slice c.args.word.now (cc)) (λ x b q k. search (rules, tests))
    ∙ sym (every-all in_name c.args.word.now)
