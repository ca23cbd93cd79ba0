-- `types::type_of` meets its contract: it is refused as unpacking is. Assumes nothing.
use Rattle.std.proofs.Common.{ap, ◌∙◌}
use Rattle.std.proofs.lemmas.Result.{err_from_is_err_and}
use Rattle.block.specs.declared.Kind.{Kind}
use Rattle.block.specs.Kind.{type_of}
use Rattle.block.specs.Answer.{answer}
use Rattle.codec.proofs.UnpackLaws.{refused-by}
use Rattle.codec.proofs.OpenedLaws.{opened}
use Rattle.types.specs.Typing.{lettered}
use Rattle.types.proofs.TypeLaws.{refuses-block, gives-type}
use Rattle.types.proofs.type_of.Goals as goal

pub returns-in_err-unpack : goal.returns-in_err-unpack
returns-in_err-unpack c =
    let p = err_from_is_err_and c.from_residual.result c.from_residual.ensures.1 in
    rw (p.1, p.2) (refuses-block _ _ _ (refused-by _ _ _ _ c.in_err-unpack.was c.unpack.ensures))

pub returns : goal.returns
returns c =
    let block = opened _ _ _ _ c.in_ok-unpack.was c.unpack.ensures in
    ap (λ (k : Kind). answer 0 (lettered k)) (c.kind.ensures ∙ ap type_of block.parts)
    ∙ gives-type _ _ block.none
