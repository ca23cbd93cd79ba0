-- Counting the requests: those that are counted and those still to come are all. Assumes nothing.
use Rattle.std.specs.Option.{ok_or}
use Rattle.std.specs.Prelude.{Option, Some, None, Err, Ok, Result}
use Rattle.std.proofs.lemmas.List.{nil_from_length}
use mathlib.Core.Path.{◌≡◌, refl, sym, ap, ◌∙◌}
use mathlib.Core.Bool.{true, false}
use mathlib.Core.List.{List, []}
use Prim.Native.Nat.{ℕ, zero, suc, ◌+◌, ◌*◌, ◌<◌, ◌≤◌}
use native.Mathlib.Omega.{arith}
use lib.Dec.{eqb}
use lib.ListN.{length, drop, length-drop}
use borrow.Author.Tests.{ltb-false, le-ltb}
use Rattle.bits.specs.Tests.{pick}
use Rattle.bits.proofs.SearchLaws.{byBool, clash}
use Rattle.block.proofs.RefusalLaws.{pick-zero, number-injective}
use Rattle.block.specs.declared.Refusal.{Refusal}
use Rattle.block.specs.declared.Refusal.TheVariants.{NoRoom, BrokenBuild}
use Rattle.block.specs.Answer.{Answer}
use Rattle.block.proofs.AnswerLaws.{answered-parts, never-refused}
use Rattle.requests.specs.Requests.{Request, requests_of, broken, first_bytes}
use Rattle.requests.specs.Requests.{whole_refusal, lacks_room, build_refusal}
use Rattle.requests.specs.Counting.{Walks, counted_of, Counts, Accepted}
use Rattle.requests.proofs.RequestLaws.{Led, first-broken, requests-none, broken-none}

-- the two answers
ok_err : {x : ℕ} {k : Refusal} → ◌≡◌ {A = Result ℕ Refusal} (Ok x) (Err k) → ⊥
ok_err e = cc

same_ok : {x y : ℕ} → ◌≡◌ {A = Result ℕ Refusal} (Ok x) (Ok y) → x ≡ y
same_ok e = cc

same_err : {k m : Refusal} → ◌≡◌ {A = Result ℕ Refusal} (Err k) (Err m) → k ≡ m
same_err e = cc

-- so many requests are counted, and these bytes are left
pub record CountedTo (s : List ℕ) (many : ℕ) (rest : List ℕ) : Type 0 where
  pub within : many + length rest ≤ length s
  pub all : length (requests_of s) ≡ many + length (requests_of rest)
  pub others : broken s ≡ broken rest

-- what was asked of `first`, where 14 stands for none
pub asked_none : (o : Option ℕ) (r : Result ℕ Refusal) {k m : Refusal} → r ≡ ok_or o m → r ≡ Err k → (o ≡ None) × (k ≡ m)
asked_none None r e f = (refl, sym (same_err (sym e ∙ f)))
asked_none (Some x) r e f = absurd (ok_err (sym e ∙ f))

pub asked_some : (o : Option ℕ) (r : Result ℕ Refusal) {x : ℕ} (m : Refusal) → r ≡ ok_or o m → r ≡ Ok x → o ≡ Some x
asked_some None r m e f = absurd (ok_err (sym f ∙ e))
asked_some (Some y) r m e f = ap Some (same_ok (sym e ∙ f))

-- bytes are left
pub some-left : (n : ℕ) → eqb n 0 ≡ false → 0 < n
some-left zero e = clash refl e
some-left (suc n) e = omega arith

module _ (s : List ℕ) (many : ℕ) (rest : List ℕ) (d : CountedTo s many rest) where
  pub counted-broken : 0 < length rest → first_bytes rest ≡ None → Walks s (Err BrokenBuild)
  counted-broken l none = rw (d.others ∙ first-broken rest l none)

  pub counted-end : length rest ≡ 0 → Walks s (Ok many)
  counted-end l =
      let over : rest ≡ [] = nil_from_length rest l in
      let sound : broken s ≡ false = d.others ∙ rw over broken-none in
      let none : length (requests_of rest) ≡ 0 = rw (over, requests-none) in
      rw sound (ap Ok (omega (arith, d.all)))

  -- one request more
  pub counted_next : (size : ℕ) → Led rest size → CountedTo s (many + 1) (drop size rest)
  counted_next size first =
      let one = ap (λ (qs : List Request). length qs) first.requests in
      record {
        within = omega (arith, d.within, first.bytes, first.within, length-drop size rest);
        all = omega (arith, d.all, one);
        others = d.others ∙ first.others;
      }

-- a build that is not refused: none of its requests is broken, and there is room for all
pub accepted : (size : ℕ) (s : List ℕ) (room : ℕ) → build_refusal size s room ≡ 0
    → (broken s ≡ false) × (size * length (requests_of s) ≤ room)
unfolding build_refusal whole_refusal
accepted size s room e =
    let lacks = lacks_room size (length (requests_of s)) room in
    let fourteen = pick-zero (broken s) 13 (pick lacks 5 0) e in
    let five = pick-zero lacks 4 0 fourteen.1 in
    (fourteen.0, ltb-false room (size * length (requests_of s)) five.0)

pub accepts : (size : ℕ) (s : List ℕ) (room : ℕ) → broken s ≡ false
    → size * length (requests_of s) ≤ room → build_refusal size s room ≡ 0
unfolding build_refusal whole_refusal
accepts size s room sound fits = rw (sound, le-ltb room (size * length (requests_of s)) fits)

pub refuses-broken : (size : ℕ) (s : List ℕ) (room : ℕ) → broken s ≡ true → build_refusal size s room ≡ 14
unfolding build_refusal whole_refusal
refuses-broken size s room some = rw some

-- what walking tells
pub walked-sound : (s : List ℕ) (many : ℕ) → Walks s (Ok many) → (broken s ≡ false) × (many ≡ length (requests_of s))
walked-sound s many w =
    byBool (broken s) (λ e. absurd (ok_err (rw e at w))) (λ e. (e, same_ok (rw e at w)))

pub walked-broken : (s : List ℕ) (k : Refusal) → Walks s (Err k) → (broken s ≡ true) × (k ≡ BrokenBuild)
walked-broken s k w =
    byBool (broken s) (λ e. (e, same_err (rw e at w))) (λ e. absurd (ok_err (sym (rw e at w))))

-- what is answered by what was walked
module _ (size : ℕ) (s : List ℕ) (room : ℕ) where
  pub counts_broken : (k : Refusal) → Walks s (Err k) → Counts size s room (Err k)
  counts_broken k w =
      let broken = walked-broken s k w in rw (broken.1, refuses-broken size s room broken.0)

  module _ (many : ℕ) (w : Walks s (Ok many)) where
    pub counts_lack : true ≡ lacks_room size many room → Counts size s room (Err NoRoom)
    unfolding build_refusal whole_refusal
    counts_lack short =
        let sound = walked-sound s many w in rw (sound.0, ← sound.1, ← short)

    pub counts_many : false ≡ lacks_room size many room → Counts size s room (Ok many)
    unfolding build_refusal whole_refusal
    counts_many enough =
        let sound = walked-sound s many w in rw (sound.0, ← sound.1, ← enough)

-- what an answer tells
module _ (size : ℕ) (s : List ℕ) (room : ℕ) where
  pub counted-many : (many : ℕ) → Counts size s room (Ok many) → Accepted size s room many
  counted-many many c =
      let parts = answered-parts (build_refusal size s room) 0 (length (requests_of s)) many c in
      record { fine = parts.0; counted = parts.1 }

-- one answer
same-counted : (r q : Result ℕ Refusal) → counted_of r ≡ counted_of q → r ≡ q
same-counted (Ok a) (Ok b) e = ap Ok (ap (λ (x : Answer ℕ). x.parts) e)
same-counted (Ok a) (Err k) e = absurd (never-refused a 0 k e)
same-counted (Err k) (Ok b) e = absurd (never-refused b 0 k (sym e))
same-counted (Err k) (Err m) e =
    ap Err (number-injective k m (ap (λ (x : Answer ℕ). x.number) e))

pub counts-unique : (size : ℕ) (s : List ℕ) (room : ℕ) (r q : Result ℕ Refusal) → Counts size s room r
    → Counts size s room q → r ≡ q
counts-unique size s room r q c c' = same-counted r q (c ∙ sym c')
