-- `blif::bytes::are_marks` meets its contract. Assumes nothing.
use Rattle.std.proofs.Common.{rules, tests, sym, ◌∙◌}
use Rattle.std.proofs.lemmas.Iterator.{YieldsList-from_slice}
use Rattle.std.proofs.lemmas.Iterator.Search.{all_from_yields_List}
use Rattle.words.proofs.ByteLaws.{every-all}
use Rattle.marks.specs.Marks.{is_mark}
use Rattle.blif.proofs.bytes.are_marks.Goals as goal

pub returns : goal.returns
returns c =
    all_from_yields_List is_mark _ _ c.all.result c.all.ensures.ran
    (YieldsList-from_slice c.args.word.now (cc)) (λ x b q k. search (rules, tests))
    ∙ sym (every-all is_mark c.args.word.now)
