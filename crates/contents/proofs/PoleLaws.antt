-- The polarities of every component, one component after the other. Assumes nothing.
use Rattle.std.specs.Prelude.{None, Some}
use mathlib.Core.Path.{◌≡◌, sym, ◌∙◌}
use mathlib.Core.Bool.{Bool}
use mathlib.Core.List.{List}
use Prim.Native.Nat.{ℕ, ◌+◌, ◌<◌}
use native.Mathlib.Omega.{arith}
use lib.Dec.{eqb, ltb}
use lib.ListN.{length, get_or, set, get_or-map}
use lib.Seq.{get_or-set_same, get_or-set_other}
use borrow.Author.Tests.{eqb-true, eqb-false, lt-ltb, ltb-true}
use Rattle.bits.proofs.SearchLaws.{byBool}
use Rattle.bits.proofs.TestLaws.{below_at, below_of}
use Rattle.contents.specs.declared.Wires.{Wires}
use Rattle.contents.specs.declared.Asked.{Asked}
use Rattle.contents.specs.Code.{nothing, choice_by, choice_at, holds_by, AreChosen}

-- the components below s have polarities, and these are written
abbrev pub Poles : (choice : ℕ → ℕ) (s : ℕ) (poles : List ℕ) → Type 0
Poles choice s poles = (k : ℕ) → k < s → (get_or poles k 0 ≡ choice k) × (choice k < 16)

pub poles-more : (choice : ℕ → ℕ) (s : ℕ) (poles : List ℕ) → Poles choice s poles → s < length poles
    → choice s < 16 → (p : ℕ) → p ≡ choice s → Poles choice (s + 1) (set poles s p)
poles-more choice s poles before fits some-way p is k l =
    byBool (eqb k s)
    (λ q.
    let same = eqb-true k s q in
    rw same (get_or-set_same poles s p 0 fits ∙ is, some-way))
    (λ q.
    let other = eqb-false k s q in
    let at = before k (omega arith) in
    (get_or-set_other poles s k p 0 other ∙ at.0, at.1))

module _ (w : Wires) (a : List Asked) (h : ℕ) where
  -- what component s asks, as it stands in the list
  pub choice-here : (s : ℕ)
      → choice_by w h (get_or a s nothing).ones (get_or a s nothing).zeros ≡ choice_at w a h s
  choice-here s =
      rw (
        get_or-map (λ (x : Asked). x.ones) a s nothing,
        get_or-map (λ (x : Asked). x.zeros) a s nothing,
      )

  -- component s has polarities
  abbrev has_some : ℕ → Bool
  has_some s = ltb (choice_at w a h s) 16

  -- a component without polarities: H does not hold
  pub poles-none : (s : ℕ) → s < 16 → 16 ≡ choice_at w a h s → AreChosen w a h None
  unfolding holds_by
  poles-none s l none =
      record {
        holds =
            byBool (holds_by w a h)
            (λ e.
            let at = ltb-true (choice_at w a h s) 16 (below_at has_some 16 e s l) in
            absurd (omega arith))
            (λ e. sym e);
        each = λ poles e. absurd (cc);
      }

  pub poles-all : (poles : List ℕ) → Poles (choice_at w a h) 16 poles
      → AreChosen w a h (Some poles)
  unfolding holds_by
  poles-all poles all =
      record {
        holds = sym (below_of has_some 16 (λ s l. lt-ltb (choice_at w a h s) 16 (all s l).1));
        each = λ same e s l. let is : same ≡ poles = cc in rw is (all s l).0;
      }
