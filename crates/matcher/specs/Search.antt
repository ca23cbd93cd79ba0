-- What the matcher's inner functions promise each other. The matcher's own promise is in Match and
-- does not use this. Assumes nothing.
use Rattle.std.specs.Prelude.{ℕ, ◌+◌, ◌*◌, ◌^◌, ◌<◌, ◌≤◌, ◌≡◌, true, false, List, eqb, None, Option, Some, Result, Ok, Err}
use Rattle.bits.specs.Bits.{has}
use Rattle.bits.specs.Tests.{pick}
use Rattle.block.specs.declared.Inputs.{Inputs}
use Rattle.block.specs.declared.Refusal.{Refusal}
use Rattle.block.specs.Block.{Lut, open_field}
use Rattle.block.specs.Refusal.{number_of}
use Rattle.subsets.specs.Masks.{key_of}
use Rattle.wiring.specs.Fits.{Fits}
use Rattle.filter.specs.Support.{support_of}
use Rattle.filter.specs.Words.{words_of}
use Rattle.contents.specs.Contents.{is_wiring, no_contents, LeastFilling}
use Rattle.matcher.specs.declared.Place.{Place}

-- the number of the refusal that the head gives, 0 for none
abbrev pub head_of : Result Inputs Refusal → ℕ
head_of (Ok _) = 0
head_of (Err k) = number_of k

-- the direct pin's field of choice k: without inputs the pin is open
abbrev pub direct_of : (n k : ℕ) → ℕ
direct_of n k = pick (eqb n 0) open_field k

-- its variable as a set
abbrev pub direct_set : (n k : ℕ) → ℕ
direct_set n k = pick (eqb n 0) 0 (2 ^ k)

-- how many choices there are
abbrev pub directs : ℕ → ℕ
directs n = pick (eqb n 0) 1 n

-- the nine pin fields of a wiring as one number, whose order is byte order
abbrev pub wiring_number : (f g direct : ℕ) → ℕ
wiring_number f g direct = (key_of f * 65536 + key_of g) * 16 + direct

-- no wiring that comes before this one fits
abbrev pub FirstWiring : (n : ℕ) (t : List ℕ) (f g direct : ℕ) → Type 0
FirstWiring n t f g direct =
    (p q d : ℕ) → is_wiring n p q d ≡ true → Fits n t (has p) (has q) d
    → wiring_number f g direct ≤ wiring_number p q d

-- no wiring fits
abbrev pub NoWiring : (n : ℕ) (t : List ℕ) → Type 0
NoWiring n t = (p q d : ℕ) → is_wiring n p q d ≡ true → Fits n t (has p) (has q) d → ⊥

-- whatever one variable the direct pin carries, another of `within` is in neither set
abbrev pub Uncovered : (within f g : ℕ) → Type 0
Uncovered within f g =
    (v : ℕ) → (u : ℕ) × (u ≡ v → ⊥) × (has within u ≡ true) × (has f u ≡ false) × (has g u ≡ false)

-- a table with pins
abbrev pub lut_on : (pins : List ℕ) (rows : ℕ) → Lut
lut_on pins rows = record { pins = pins; rows = rows }

-- a wiring to be weighed: sets f and g, choice k of the direct pin, with the variables that the table
-- depends on and the words of f at hand
pub record Weighable (n : ℕ) (t : List ℕ) (within : ℕ) (words : List ℕ) (f g k : ℕ) : Type 0 where
  pub inputs : n ≤ 9
  pub choice : k < directs n
  pub wiring : is_wiring n f g (direct_of n k) ≡ true
  pub support : within ≡ support_of n t
  pub of-f : words ≡ words_of t within f

-- the least contents on the first wiring that fits
pub record FirstPlace (n : ℕ) (t : List ℕ) (p : Place) : Type 0 where
  pub wiring : is_wiring n p.f p.g p.direct ≡ true
  pub full : p.contents < no_contents
  pub least : LeastFilling n t p.f p.g p.direct p.contents
  pub first : FirstWiring n t p.f p.g p.direct

-- what the search finds
abbrev pub Searched : (n : ℕ) (t : List ℕ) (r : Option Place) → Type 0
Searched n t (Some p) = FirstPlace n t p
Searched n t None = NoWiring n t
