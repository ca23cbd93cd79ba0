-- A promise that names the answer leaves one answer. Assumes nothing.
use mathlib.Core.Path.{◌≡◌, sym, ◌∙◌}

-- of every promise `r ≡ named`, where `named` is what a definition gives for the inputs
pub named-unique : {A : Type 0} (named r q : A) → r ≡ named → q ≡ named → r ≡ q
named-unique named r q p p' = p ∙ sym p'
