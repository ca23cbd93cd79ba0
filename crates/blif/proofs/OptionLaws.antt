-- An answer made of an option. Assumes nothing.
use Rattle.std.specs.Prelude.{Err, None, Ok, Option, Some}
use Rattle.std.specs.Option.{ok_or}
use mathlib.Core.Path.{◌≡◌, refl}
use Rattle.block.specs.declared.Refusal.{Refusal}

-- what `ok_or` says of an option
pub ok_or-none : {A : Type 0} (o : Option A) (e k : Refusal) → Err k ≡ ok_or o e → (k ≡ e) × (o ≡ None)
ok_or-none None e k h = (cc, refl)
ok_or-none (Some x) e k h = cc

pub ok_or-some : {A : Type 0} (o : Option A) (e : Refusal) (x : A) → Ok x ≡ ok_or o e → o ≡ Some x
ok_or-some None e x h = cc
ok_or-some (Some y) e x h = cc
