-- The test of one wiring over the numbers that the code holds, each definition beside the one of
-- wiring/specs/Test that it computes. Assumes nothing.
use Rattle.std.specs.Prelude.{ℕ, zero, suc, ◌+◌, ◌-◌, ◌*◌, ◌<◌, min, ◌≡◌, Bool, true, false, not, ◌&&◌, ◌||◌, List, [], ◌∷◌, eqb, ltb, map, get_or, Option, Some, is_some}
use Rattle.std.specs.Int.Bits.{bit_and}
use Rattle.bits.specs.Bits.{has, num, split, of_rows}
use Rattle.bits.specs.Tests.{pick, below, some, first, ◌⊕◌}
use Rattle.block.specs.Value.{selected}
use Rattle.block.specs.Tidy.{quiet}
use Rattle.wiring.specs.Wire.{Wiring, exchanged, truth, reads, shown, shared, bridged}
use Rattle.wiring.specs.Test.{changes, pole_f, pole_g, steady, turned, h_row}
use Rattle.contents.specs.declared.Side.{Side}
use Rattle.contents.specs.declared.Wires.{Wires}
use Rattle.contents.specs.declared.Asked.{Asked}
use Rattle.contents.specs.Contents.{no_contents}

-- the table row that the four pins of a key select
abbrev pub selected_by : (key r : ℕ) → ℕ
selected_by key r = selected (split 4 key) r

-- of the rows below m, some that selects table row x changes its value when the variables outside
-- `keep` are cleared
unfoldable pub changes_by : (t : List ℕ) (key keep m x : ℕ) → Bool
changes_by t key keep m x =
    some (λ r. eqb (selected_by key r) x && (truth t r ⊕ truth t (bit_and r keep))) m

-- the numbers of F; of G where F and G are exchanged
pub record IsSide (n : ℕ) (t : List ℕ) (w : Wiring) (s : Side) : Type 0 where
  pub pins : split 4 s.key ≡ w.f
  pub change : (x : ℕ) → x < 16 → has s.changes x ≡ changes n t w x
  pub bridge : s.bridged ≡ bridged w

-- the numbers of a wiring
pub record AreWires (n : ℕ) (t : List ℕ) (w : Wiring) (x : Wires) : Type 0 where
  pub in_f : IsSide n t w x.f
  pub in_g : IsSide n t (exchanged w) x.g
  pub both : (v : ℕ) → v < n → has x.shared v ≡ shared w v
  pub pin : x.direct ≡ w.direct

-- the value of the shared variables, as the row of F that they select alone
unfoldable pub component_by : (w : Wires) (r : ℕ) → ℕ
component_by w r = selected_by w.f.key (bit_and r w.shared)

-- the row of the table that row r selects is one where the table changes
abbrev pub changed_by : (s : Side) (r : ℕ) → Bool
changed_by s r = has s.changes (selected_by s.key r)

-- the row of H that row r selects where every polarity is 0
unfoldable pub slot_by : (w : Wires) (r : ℕ) → ℕ
slot_by w r = 4 * num (changed_by w.f r) + 2 * num (changed_by w.g r) + num (reads w.direct r)

-- of the rows below m, some of component s selects row e of H and has the value v
unfoldable pub asked_by : (t : List ℕ) (w : Wires) (v : Bool) (m s e : ℕ) → Bool
asked_by t w v m s e =
    some (λ r. eqb (component_by w r) s && (eqb (slot_by w r) e && not (truth t r ⊕ v))) m

-- a byte for each component, row e of H in bit 7 - e
abbrev pub Marks : (t : List ℕ) (w : Wires) (v : Bool) (m : ℕ) (bytes : List ℕ) → Type 0
Marks t w v m bytes =
    (s e : ℕ) → s < 16 → e < 8 → has (get_or bytes s 0) (7 - e) ≡ asked_by t w v m s e

-- a component that asks nothing
abbrev pub nothing : Asked
nothing = record { ones = 0; zeros = 0 }

-- what all components ask to be 1, and to be 0
abbrev pub asked_ones : List Asked → List ℕ
asked_ones a = map (λ x. x.ones) a

abbrev pub asked_zeros : List Asked → List ℕ
asked_zeros a = map (λ x. x.zeros) a

-- what the rows below m ask
pub record AreAsked (t : List ℕ) (w : Wires) (m : ℕ) (a : List Asked) : Type 0 where
  pub ones : Marks t w true m (asked_ones a)
  pub zeros : Marks t w false m (asked_zeros a)

-- the row of H where F's output is turned, or G's, or both
unfoldable pub flip : (f g : Bool) (e : ℕ) → ℕ
flip f g e = 4 * num (has e 2 ⊕ f) + 2 * num (has e 1 ⊕ g) + num (has e 0)

-- a table that does not carry the direct pin's variable has one polarity
unfoldable pub allowed_by : (f g : Bool) (k : ℕ) → Bool
allowed_by f g k = steady f (pole_f k) && steady g (pole_g k)

-- with polarities k, table H is 1 at the rows `ones` and 0 at the rows `zeros`
unfoldable pub serves_by : (w : Wires) (h ones zeros k : ℕ) → Bool
serves_by w h ones zeros k =
    allowed_by w.f.bridged w.g.bridged k
    && below
    (λ e. (not (has ones (7 - e)) || h_row h (turned k e))
    && (not (has zeros (7 - e)) || not (h_row h (turned k e)))) 8

-- the first polarities that serve, or 16
unfoldable pub choice_by : (w : Wires) (h ones zeros : ℕ) → ℕ
choice_by w h ones zeros = first (serves_by w h ones zeros) 16

-- those of component s
abbrev pub choice_at : (w : Wires) (a : List Asked) (h s : ℕ) → ℕ
choice_at w a h s = choice_by w h (get_or (asked_ones a) s 0) (get_or (asked_zeros a) s 0)

-- every component has polarities that serve
unfoldable pub holds_by : (w : Wires) (a : List Asked) (h : ℕ) → Bool
holds_by w a h = below (λ s. ltb (choice_at w a h s) 16) 16

-- the polarities of every component, where every component has some
pub record AreChosen (w : Wires) (a : List Asked) (h : ℕ) (c : Option (List ℕ)) : Type 0 where
  pub holds : is_some c ≡ holds_by w a h
  pub each : (poles : List ℕ) → c ≡ Some poles → (s : ℕ) → s < 16 → get_or poles s 0 ≡ choice_at w a h s

-- table H with polarities 0 serves the component of row 0, and polarities serve every component
unfoldable pub possible_by : (w : Wires) (a : List Asked) (h : ℕ) → Bool
possible_by w a h =
    serves_by w h (get_or (asked_ones a) (component_by w 0) 0) (get_or (asked_zeros a) (component_by w 0) 0) 0
    && holds_by w a h

-- the row of nine variables that shows table row x to the four pins of a key
abbrev pub shown_by : (key x : ℕ) → ℕ
shown_by key x = shown 9 (split 4 key) x

-- of the polarities of a component, bit `at` is the table's where the direct pin is 0, and the bit
-- below it where it is 1
unfoldable pub filled_by : (w : Wires) (s : Side) (poles : ℕ → ℕ) (at x : ℕ) → Bool
filled_by w s poles at x =
    eqb (selected_by s.key (shown_by s.key x)) x
    && (has s.changes x
    ⊕ has (poles (component_by w (shown_by s.key x)))
    (at - num (s.bridged && reads w.direct (shown_by s.key x))))

-- the contents with table H, or none
unfoldable pub with_table : (w : Wires) (a : List Asked) (h : ℕ) → ℕ
with_table w a h =
    pick (quiet 8 h (w.direct ∷ []) && holds_by w a h)
    ((of_rows 16 (filled_by w w.f (choice_at w a h) 3) * 65536
    + of_rows 16 (filled_by w w.g (choice_at w a h) 1))
    * 256
    + h)
    no_contents

-- the least of most and of what f gives below n
unfoldable pub least_of : (most : ℕ) (f : ℕ → ℕ) (n : ℕ) → ℕ
least_of most f zero = most
least_of most f (suc n) = min (f n) (least_of most f n)
