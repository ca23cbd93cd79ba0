-- One of two and not the other. Assumes nothing.
use mathlib.Core.Path.{◌≡◌, refl, sym}
use mathlib.Core.Bool.{Bool, true, false, not, beq}
use Rattle.bits.specs.Tests.{◌⊕◌}
use Rattle.bits.proofs.SearchLaws.{clash}

-- two bits compared
pub xor-beq : (x y : Bool) → not (beq x y) ≡ x ⊕ y
xor-beq true true = refl
xor-beq true false = refl
xor-beq false true = refl
xor-beq false false = refl

pub xor-no : (x y : Bool) → x ⊕ y ≡ false → x ≡ y
xor-no true true e = refl
xor-no true false e = cc
xor-no false true e = cc
xor-no false false e = refl

pub xor-yes : (x y : Bool) → x ⊕ y ≡ true → x ≡ not y
xor-yes true true e = sym e
xor-yes true false e = refl
xor-yes false true e = refl
xor-yes false false e = e

pub xor_self : (x : Bool) → x ⊕ x ≡ false
xor_self true = refl
xor_self false = refl

pub xor-eq : (x y : Bool) → x ≡ y → x ⊕ y ≡ false
xor-eq x y e = rw e (xor_self y)

pub xor-false : (x : Bool) → x ⊕ false ≡ x
xor-false true = refl
xor-false false = refl

pub xor-true : (x : Bool) → x ⊕ true ≡ not x
xor-true true = refl
xor-true false = refl

pub xor-back : (x y : Bool) → x ⊕ (y ⊕ x) ≡ y
xor-back true true = refl
xor-back true false = refl
xor-back false true = refl
xor-back false false = refl

pub xor_assoc : (x y z : Bool) → (x ⊕ y) ⊕ z ≡ x ⊕ (y ⊕ z)
xor_assoc true true true = refl
xor_assoc true true false = refl
xor_assoc true false z = refl
xor_assoc false y z = refl

pub xor-undo : (x y z : Bool) → (x ⊕ (y ⊕ z)) ⊕ z ≡ x ⊕ y
xor-undo x y z = rw (← xor_assoc x y z, xor_assoc (x ⊕ y) z z, xor_self z) (xor-false (x ⊕ y))

pub xor-cancel : (x y z : Bool) → x ⊕ y ≡ x ⊕ z → y ≡ z
xor-cancel true true true e = refl
xor-cancel true true false e = sym e
xor-cancel true false true e = sym e
xor-cancel true false false e = refl
xor-cancel false y z e = e

pub not-self {ℓ} : {C : Type ℓ} (x : Bool) → x ≡ not x → C
not-self true e = clash refl e
not-self false e = clash e refl
