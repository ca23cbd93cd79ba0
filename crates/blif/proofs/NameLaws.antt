-- The words of the line that opens a part, tried and counted. Assumes nothing.
use Rattle.std.specs.List.{list_any}
use mathlib.Core.Path.{◌≡◌, refl, sym, ap, ap₂, ◌∙◌}
use mathlib.Core.Bool.{Bool, true, false, ◌&&◌, ◌||◌, and-false}
use mathlib.Core.List.{List, [], ◌∷◌}
use Prim.Native.Nat.{ℕ, ◌+◌, ◌≤◌}
use native.Mathlib.Omega.{arith}
use lib.Dec.{ltb}
use lib.ListN.{length}
use borrow.Author.Tests.{lt-ltb}
use Rattle.bits.specs.Tests.{alike, all, any}
use Rattle.bits.proofs.ListLaws.{alike-eq}
use Rattle.words.specs.Text.{Word, words_of}
use Rattle.words.specs.Left.{words_left}
use Rattle.blif.specs.declared.names.Names.{Names}
use Rattle.blif.specs.Part.{dot_names, is_name, opens, repeats}
use Rattle.blif.specs.Reading.{Opened}

-- the library's word for the same test
any-list_any : {A : Type 0} (test : A → Bool) (s : List A) → list_any test s ≡ any test s
any-list_any test [] = refl
any-list_any test (x ∷ s) = ap (λ (r : Bool). test x || r) (any-list_any test s)

-- the first word left, and whether it comes again
module _ (left others : List Word) (name : Word) (e : left ≡ name ∷ others) (again : Bool)
    (found : again ≡ list_any (alike name) others) where
  pub repeats-here : again ≡ true → true ≡ repeats left
  unfolding repeats
  repeats-here is = rw (e, sym (any-list_any (alike name) others), sym found ∙ is)

  pub repeats-on : again ≡ false → repeats others ≡ repeats left
  unfolding repeats
  repeats-on new = rw (e, sym (any-list_any (alike name) others), sym found ∙ new)

pub repeats-none : (left : List Word) → left ≡ [] → false ≡ repeats left
unfolding repeats
repeats-none left e = rw e

-- the words up to those that are left are names, so many
pub record CountedOn (words left : List Word) (many : ℕ) : Type 0 where
  pub tried : all is_name left ≡ all is_name words
  pub counted : many + length left ≡ length words

pub counted-start : (words : List Word) → CountedOn words words 0
counted-start words = record { tried = refl; counted = omega arith }

module _ (words left : List Word) (many : ℕ) (now : CountedOn words left many) where
  module _ (name : Word) (others : List Word) (e : left ≡ name ∷ others) (named : Bool)
      (found : named ≡ is_name name) where
    pub counted-few : many + 1 ≤ length words
    counted-few = let sum = rw e at now.counted in omega arith

    pub counted-next : named ≡ true → CountedOn words others (many + 1)
    counted-next is =
        let sum = rw e at now.counted in
        record { tried = rw (e, ← found, is) at now.tried; counted = omega arith }

    pub counted-not : named ≡ false → all is_name words ≡ false
    counted-not is = sym now.tried ∙ rw (e, ← found, is)

  pub counted-all : left ≡ [] → (all is_name words ≡ true) × (many ≡ length words)
  counted-all none =
      (sym now.tried ∙ rw none, let sum = rw none at now.counted in omega arith)

-- the line's first word, and those after it
module _ (line : List ℕ) (first : Word) (words : List Word) (e : words_of line ≡ first ∷ words) where
  opens-is : (others : List (List Word))
      → opens (words_of line ∷ others) ≡ (alike first dot_names && (ltb 0 (length words) && all is_name words))
  unfolding opens
  opens-is others = rw e

  pub opens-other : alike first dot_names ≡ false
      → (others : List (List Word)) → opens (words_of line ∷ others) ≡ false
  opens-other other others = opens-is others ∙ rw other

  module _ (same : alike first dot_names ≡ true) where
    pub opens-stray : all is_name words ≡ false
        → (others : List (List Word)) → opens (words_of line ∷ others) ≡ false
    opens-stray stray others = opens-is others ∙ rw (same, stray) (and-false (ltb 0 (length words)))

    pub opens-alone : 0 ≡ length words → (others : List (List Word)) → opens (words_of line ∷ others) ≡ false
    opens-alone alone others = opens-is others ∙ rw (same, ← alone)

    pub opens-so : (names : Names) → words ≡ words_left names.words → all is_name words ≡ true
        → length words ≡ names.inputs + 1 → Opened line names
    opens-so names left named many =
        record {
          good = λ others. opens-is others ∙ rw (same, named, lt-ltb 0 (length words) (omega (arith, many)));
          words = e ∙ ap₂ (λ (w : Word) (ws : List Word). w ∷ ws) (alike-eq first dot_names same) left;
          many = rw (← left) many;
        }

-- a line without words opens no part
pub opens-none : (line : List ℕ) → words_of line ≡ []
    → (others : List (List Word)) → opens (words_of line ∷ others) ≡ false
unfolding opens
opens-none line none others = rw none
