-- Answers about a sheet: the first fault decides, and they leave one answer. Assumes nothing.
use Rattle.std.specs.Prelude.{Err, Ok, Result}
use Rattle.record.specs.declared.Refused.{Refused}
use mathlib.Core.Path.{◌≡◌, refl, sym, ap, ◌∙◌}
use mathlib.Core.Bool.{Bool, false}
use mathlib.Core.List.{[], ◌∷◌}
use Prim.Native.Nat.{ℕ, zero, suc}
use native.Mathlib.Omega.{arith}
use Rattle.block.specs.declared.Refusal.{Refusal}
use Rattle.block.specs.Refusal.{◌when◌, number_of}
use Rattle.block.specs.Answer.{Answer, answer}
use Rattle.block.proofs.RefusalLaws.{at-refusal, number-injective, pick-zero}
use Rattle.block.proofs.AnswerLaws.{answered-refused, answered-parts, answered-number, never-refused}
use Rattle.record.specs.Fault.{Fault, fault, fine, whole, unless, ◌then◌}
use Rattle.record.specs.Told.{Placed, placed, told, told_of, fault_of, judged_of}

module _ {A : Type 0} where
  -- a refusal's fault, and no fault
  pub told-fault : (k : Refusal) (p : ℕ) (none value : A)
      → told (fault (number_of k) p) none value ≡ answer (number_of k) (placed p none)
  told-fault k p none value = answered-refused (placed p none) (placed 0 value) k

  pub told-fine : (f : Fault) (none value : A) → f.number ≡ 0
      → told f none value ≡ answer 0 (placed 0 value)
  told-fine f none value e = rw e

  number-of : (a : Answer (Placed A)) (f : Fault) (none value : A) → a ≡ told f none value
      → a.number ≡ f.number
  number-of a f none value e =
      ap (λ (b : Answer (Placed A)). b.number) e
      ∙ answered-number f.number (placed f.place none) (placed 0 value)

  -- a refusal is its fault
  pub fault-of : (f : Fault) (k : Refusal) (p : ℕ) (none x value : A)
      → answer (number_of k) (placed p x) ≡ told f none value → f ≡ fault (number_of k) p
  fault-of f k p none x value e =
      let number = number-of (answer (number_of k) (placed p x)) f none value e in
      let known : told f none value ≡ answer (number_of k) (placed f.place none) =
      rw (← number) (answered-refused (placed f.place none) (placed 0 value) k) in
      let place : p ≡ f.place = ap (λ (a : Answer (Placed A)). a.parts.place) (e ∙ known) in
      rw (number, place)

  -- success has no fault
  pub fine_of : (f : Fault) (x none value : A) → answer 0 (placed 0 x) ≡ told f none value
      → (f.number ≡ 0) × (x ≡ value)
  fine_of f x none value e =
      let parts = answered-parts f.number (placed f.place none) (placed 0 value) (placed 0 x) e in
      (parts.0, ap (λ (a : Placed A). a.value) parts.1)

-- a fault told as its refusal, and none
pub fault-told : (r : Refused) (f : Fault) (v : ℕ) → f ≡ fault_of r → told_of (Err r) ≡ told f 0 v
fault-told r f v e = sym (rw e (told-fault r.refusal r.place 0 v))

pub fine-told : (f : Fault) (v : ℕ) → f ≡ fine → told_of (Ok v) ≡ told f 0 v
fine-told f v e = rw e

pub refusal-some : (k : Refusal) → number_of k ≡ 0 → ⊥
refusal-some = at-refusal (λ m. m ≡ 0 → ⊥) (λ m e. omega arith)

-- the first fault decides
pub then-fault : (k : Refusal) (p : ℕ) (next : Fault)
    → (fault (number_of k) p then next) ≡ fault (number_of k) p
then-fault k p next = at-refusal (λ m. (fault m p then next) ≡ fault m p) (λ m. refl) k

pub fault-stops : (r : Refused) (f next : Fault) → fault_of r ≡ f → (f then next) ≡ fault_of r
fault-stops r f next e = rw (← e) (then-fault r.refusal r.place next)

pub then-fine : (f next : Fault) → f.number ≡ 0 → (f then next) ≡ next
then-fine f next e = rw e

-- the one analysis of two faults in a row
pub then-cases : (P : Fault → Type 0) (f next : Fault) → ((f.number ≡ 0 → ⊥) → P f)
    → (f.number ≡ 0 → P next) → P (f then next)
then-cases P f next one other = at-number f.number refl
  where
    at-number : (k : ℕ) → f.number ≡ k → P (unless k f next)
    at-number zero e = other e
    at-number (suc k) e = one (λ z. omega arith)

pub then-zero : (f next : Fault) → (f then next).number ≡ 0 → (f.number ≡ 0) × (next.number ≡ 0)
then-zero f next =
    then-cases (λ g. g.number ≡ 0 → (f.number ≡ 0) × (next.number ≡ 0)) f next
    (λ some z. absurd (some z)) (λ e z. (e, z))

-- where the next is one test's
pub then-test : (f : Fault) (k : ℕ) (test : Bool) → (f then whole (suc k when test ∷ [])).number ≡ 0
    → (f.number ≡ 0) × (test ≡ false)
then-test f k test none =
    let parts = then-zero f (whole (suc k when test ∷ [])) none in
    (parts.0, (pick-zero test k 0 parts.1).0)

-- a value is told where there is no fault, and a refusal is the fault that is told
pub value-told : (x : ℕ) (f : Fault) (value : ℕ) → told_of (Ok x) ≡ told f 0 value → (f.number ≡ 0) × (x ≡ value)
value-told x f value e = fine_of f x 0 value e

pub refusal-told : (r : Refused) (f : Fault) (value : ℕ) → told_of (Err r) ≡ told f 0 value → f ≡ fault_of r
refusal-told r f value e = fault-of f r.refusal r.place 0 0 value e

pub told-number : (t : Result ℕ Refused) (f : Fault) (v : ℕ) → told_of t ≡ told f 0 v → (told_of t).number ≡ f.number
told-number t f v = number-of (told_of t) f 0 v

-- a refusal is also that of the faults in a row, with any value
pub stopped-by : (r : Refused) (v : ℕ) (f next : Fault) (w : ℕ) → told_of (Err r) ≡ told f 0 v
    → told_of (Err r) ≡ told (f then next) 0 w
stopped-by r v f next w e =
    fault-told r (f then next) w (rw (refusal-told r f v e) (then-fault r.refusal r.place next))

-- a value leaves what comes after
pub passed-by : (x v : ℕ) (f next : Fault) → told_of (Ok x) ≡ told f 0 v → (f then next) ≡ next
passed-by x v f next e = then-fine f next (value-told x f v e).0

same-told : (r q : Result ℕ Refused) → told_of r ≡ told_of q → r ≡ q
same-told (Ok x) (Ok y) e = ap Ok (ap (λ (a : Answer (Placed ℕ)). a.parts.value) e)
same-told (Ok x) (Err r) e = absurd (never-refused (placed 0 x) (placed r.place 0) r.refusal e)
same-told (Err r) (Ok y) e = absurd (never-refused (placed 0 y) (placed r.place 0) r.refusal (sym e))
same-told (Err r) (Err q) e =
    let same = number-injective r.refusal q.refusal (ap (λ (a : Answer (Placed ℕ)). a.number) e) in
    let place = ap (λ (a : Answer (Placed ℕ)). a.parts.place) e in
    ap Err (rw (same, place))

pub told-unique : (r q : Result ℕ Refused) (a : Answer (Placed ℕ)) → told_of r ≡ a → told_of q ≡ a → r ≡ q
told-unique r q a e e' = same-told r q (e ∙ sym e')

-- a record that was judged: its fault, or none
pub fault-judged : (r : Refused) (f : Fault) → fault_of r ≡ (f then fine) → f ≡ fault_of r
fault-judged r f e =
    then-cases (λ g. fault_of r ≡ g → f ≡ g) f fine (λ some _. refl)
    (λ none same. absurd (refusal-some r.refusal (ap (λ (g : Fault). g.number) same))) e
    ∙ sym e

pub fine-judged : (f : Fault) → fine ≡ (f then fine) → f.number ≡ 0
fine-judged f e =
    (then-zero f fine (sym (ap (λ (g : Fault). g.number) e))).0

pub same-judged : (r q : Result (Unit {0}) Refused) → judged_of r ≡ judged_of q → r ≡ q
same-judged (Ok x) (Ok y) e = refl
same-judged (Ok x) (Err r) e = absurd (refusal-some r.refusal (sym (ap (λ (g : Fault). g.number) e)))
same-judged (Err r) (Ok y) e = absurd (refusal-some r.refusal (ap (λ (g : Fault). g.number) e))
same-judged (Err r) (Err q) e =
    let same = number-injective r.refusal q.refusal (ap (λ (g : Fault). g.number) e) in
    let place = ap (λ (g : Fault). g.place) e in
    ap Err (rw (same, place))
