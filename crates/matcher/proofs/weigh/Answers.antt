-- `matcher::weigh` meets its contract. Assumes nothing.
use Rattle.matcher.proofs.TrialLaws.{rejects-missed, rejects-f, rejects-g}
use Rattle.matcher.proofs.weigh.Goals as goal

pub returns-then-not-covers : goal.returns-then-not-covers
returns-then-not-covers c =
    let a = c.args in
    rejects-missed a.n a.t.now a.within a.words.now a.f a.g a.k c.requires
    c.direct_set-direct.result c.covers.result c.direct_set-direct.ensures
    c.covers.ensures (c.if-not-covers.true)

pub returns-then-not-two : goal.returns-then-not-two
returns-then-not-two c =
    let a = c.args in
    rejects-f a.n a.t.now a.within a.words.now a.f a.g a.k c.requires
    c.direct_set-direct.result c.key_of.result
    c.select.result c.two.result
    c.direct_set-direct.ensures c.key_of.ensures
    c.select.ensures.0 c.two.ensures
    (c.if-not-two.true)

pub returns-then-not-two-2 : goal.returns-then-not-two-2
returns-then-not-two-2 c =
    let a = c.args in
    let direct = c.direct_set-direct in
    rejects-g a.n a.t.now a.within a.words.now a.f a.g a.k c.requires
    direct.result c.key_of-2.result c.select-2.result
    c.words-others.result c.two-2.result direct.ensures
    c.words-others.ensures c.key_of-2.ensures
    c.select-2.ensures.0 c.two-2.ensures
    (c.if-not-two-2.true)
