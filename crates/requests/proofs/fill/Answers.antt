-- `requests::fill` meets its contract: each piece has room, since none is longer than the longest.
use mathlib.Core.Path.{sym, ◌∙◌}
use Rattle.requests.proofs.RequestLaws.{led}
use Rattle.requests.proofs.FillLaws.{lent, filled-start, filled_next, filled-end}
use Rattle.requests.proofs.fill.Goals as goal

pub loop-size-init : goal.loop-size-init
loop-size-init g c =
    filled-start g.P.Pieces.Piece g.P.Pieces.MOST _ _ _ (rw c.MOST.ensures at c.in_ok-count.ensures)

pub split_at-requires : goal.split_at-requires
split_at-requires g c = (led _ _ (sym c.first.ensures ∙ c.in-Some.is)).within

pub loop-size-preserved : goal.loop-size-preserved
loop-size-preserved g c =
    let first = led _ _ (sym c.first.ensures ∙ c.in-Some.is) in
    rw (c.split_at.ensures.back, c.unwrap_or-used.ensures)
    (filled_next g.P.Pieces.Piece g.P.Pieces.MOST _ _ _ _ _ c.loop-size.invariant
    c.in-Some.size _ _ _ _ first (lent _ _ first) (rw c.split_at.ensures.front at c.write.ensures))

pub returns : goal.returns
returns g c =
    filled-end g.P.Pieces.Piece g.P.Pieces.MOST _ _ _ _ _ c.loop-size.invariant
    _ (rw c.MOST.ensures at c.in_ok-count.ensures) (sym c.first.ensures ∙ c.in_default.is)
