-- The test of one wiring, and the least contents that it finds. Assumes nothing.
-- `changes` is where F's output changes with the variables that F has for itself; what is left free is
-- one bit, a polarity, for each value of the shared variables and of the direct pin.
use Rattle.std.specs.Prelude.{ℕ, ◌+◌, ◌*◌, ◌^◌, Bool, true, false, not, ◌&&◌, ◌||◌, List, eqb, ltb}
use Rattle.bits.specs.Bits.{has, num, of_rows, row_of}
use Rattle.bits.specs.Tests.{pick, below, some, first, ◌⊕◌}
use Rattle.block.specs.Value.{selected}
use Rattle.wiring.specs.Wire.{Wiring, exchanged, truth, reads, only, without, shown}
use Rattle.wiring.specs.Wire.{private, shared, bridged}

-- some row that selects row x of F changes its value when F's own variables are cleared
unfoldable pub changes : (n : ℕ) (t : List ℕ) (w : Wiring) (x : ℕ) → Bool
changes n t w x =
    some (λ r. eqb (selected w.f r) x && (truth t r ⊕ truth t (without n (private w) r))) (2 ^ n)

-- the value of the shared variables, as the row of F that they select alone
unfoldable pub component : (n : ℕ) (w : Wiring) (r : ℕ) → ℕ
component n w r = selected w.f (only n (shared w) r)

-- the row of H that row r selects where every polarity is 0
unfoldable pub slot : (n : ℕ) (t : List ℕ) (w : Wiring) (r : ℕ) → ℕ
slot n t w r =
    4 * num (changes n t w (selected w.f r))
    + 2 * num (changes n t (exchanged w) (selected w.g r))
    + num (reads w.direct r)

-- some row of component s selects row e of H and has the value v
unfoldable pub asked : (n : ℕ) (t : List ℕ) (w : Wiring) (v : Bool) (s e : ℕ) → Bool
asked n t w v s e =
    some (λ r. eqb (component n w r) s && (eqb (slot n t w r) e && not (truth t r ⊕ v))) (2 ^ n)

-- Polarities are a number below 16: F's where the direct pin is 0 weighs 8, where it is 1 weighs 4;
-- G's weigh 2 and 1.
unfoldable pub pole_f : (k : ℕ) (direct : Bool) → Bool
pole_f k direct = pick direct (has k 2) (has k 3)

unfoldable pub pole_g : (k : ℕ) (direct : Bool) → Bool
pole_g k direct = pick direct (has k 0) (has k 1)

-- a table that does not carry the direct pin's variable has one polarity
unfoldable pub steady : (bridged : Bool) (pole : Bool → Bool) → Bool
steady bridged pole = bridged || not (pole true ⊕ pole false)

unfoldable pub allowed : (w : Wiring) (k : ℕ) → Bool
allowed w k = steady (bridged w) (pole_f k) && steady (bridged (exchanged w)) (pole_g k)

-- the row of H that polarities k make of row e
unfoldable pub turned : (k e : ℕ) → ℕ
turned k e =
    4 * num (has e 2 ⊕ pole_f k (has e 0)) + 2 * num (has e 1 ⊕ pole_g k (has e 0)) + num (has e 0)

-- row e of H is 1
abbrev pub h_row : (h e : ℕ) → Bool
h_row h e = eqb (row_of 8 h e) 1

-- with polarities k, table H has what component s asks of it
unfoldable pub serves : (n : ℕ) (t : List ℕ) (w : Wiring) (h s k : ℕ) → Bool
serves n t w h s k =
    allowed w k
    && below
    (λ e. (not (asked n t w true s e) || h_row h (turned k e))
    && (not (asked n t w false s e) || not (h_row h (turned k e)))) 8

-- the first polarities that serve the component, or 16
unfoldable pub choice : (n : ℕ) (t : List ℕ) (w : Wiring) (h s : ℕ) → ℕ
choice n t w h s = first (serves n t w h s) 16

-- the wiring with table H can hold t: one H serves every component
unfoldable pub holds : (n : ℕ) (t : List ℕ) (w : Wiring) (h : ℕ) → Bool
holds n t w h = below (λ s. ltb (choice n t w h s) 16) 16

-- row x of a table with these pins: where it changes, turned by the polarity of its component; a row
-- that no row selects is 0
unfoldable pub filled : (n : ℕ) (pins : List ℕ) (direct : ℕ) (bridged : Bool) (change : ℕ → Bool)
    (pole : ℕ → Bool → Bool) (x : ℕ) → Bool
filled n pins direct bridged change pole x =
    eqb (selected pins (shown n pins x)) x
    && (change x ⊕ pole (shown n pins x) (bridged && reads direct (shown n pins x)))

-- the least rows of F, and of G, with table H
unfoldable pub rows_f : (n : ℕ) (t : List ℕ) (w : Wiring) (h : ℕ) → ℕ
rows_f n t w h =
    of_rows 16
    (filled n w.f w.direct (bridged w) (changes n t w)
    (λ r. pole_f (choice n t w h (component n w r))))

unfoldable pub rows_g : (n : ℕ) (t : List ℕ) (w : Wiring) (h : ℕ) → ℕ
rows_g n t w h =
    of_rows 16
    (filled n w.g w.direct (bridged (exchanged w)) (changes n t (exchanged w))
    (λ r. pole_g (choice n t w h (component n w r))))
