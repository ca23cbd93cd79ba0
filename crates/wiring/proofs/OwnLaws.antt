-- The variables that F has for itself: neither G nor the direct pin sees them change, and F sees no
-- more than them where the rest agrees. Where F carries the direct pin's variable, clearing it lowers the
-- row that F's pins select. For G, exchange F and G. Assumes nothing.
use mathlib.Core.Path.{◌≡◌, refl, sym, ◌∙◌}
use mathlib.Core.Bool.{Bool, true, false, and-false}
use Prim.Native.Nat.{ℕ, ◌^◌, ◌<◌, ◌≤◌}
use lib.Dec.{eqb}
use borrow.Author.Tests.{eq-eqb}
use Rattle.bits.specs.Bits.{has}
use Rattle.bits.proofs.SearchLaws.{byBool}
use Rattle.block.specs.Block.{is_open}
use Rattle.block.specs.Value.{selected}
use Rattle.block.specs.Kind.{carries}
use Rattle.wiring.specs.Wire.{Wiring, Wired, exchanged, reads, without, mixed, private, bridged}
use Rattle.wiring.proofs.OnlyLaws.{mixed-in, mixed-out, mixed-lt, without-mixed}
use Rattle.wiring.proofs.OnlyLaws.{without-out, without-lt, without-same, without-low}
use Rattle.wiring.proofs.OnlyLaws.{put_to, has-put, put-here, put_other}
use Rattle.wiring.proofs.ReadLaws.{carried-lt, reads-carried, reads-ext, carried-closed}
use Rattle.wiring.proofs.SelectLaws.{selected-agree, selected-same, selected-le, selected-less}

pub wired-exchanged : (n : ℕ) (w : Wiring) → Wired n w → Wired n (exchanged w)
wired-exchanged n w wired =
    record {
      within = wired.within;
      f-four = wired.g-four;
      g-four = wired.f-four;
      f-fit = wired.g-fit;
      g-fit = wired.f-fit;
      direct-fits = wired.direct-fits;
    }

-- row s with F's own variables taken from row r
abbrev pub own : (n : ℕ) (w : Wiring) (r s : ℕ) → ℕ
own n w r s = mixed n (private w) r s

-- row r with F's own variables cleared
abbrev pub rest : (n : ℕ) (w : Wiring) (r : ℕ) → ℕ
rest n w r = without n (private w) r

module _ (n : ℕ) (w : Wiring) (wired : Wired n w) where
  not-own-g : (v : ℕ) → carries w.g v ≡ true → private w v ≡ false
  not-own-g v e = rw e (and-false (carries w.f v))

  not-own-direct : private w w.direct ≡ false
  not-own-direct = rw (eq-eqb w.direct w.direct refl) (simp and-false)

  pub own-g : (r s : ℕ) → selected w.g (own n w r s) ≡ selected w.g s
  own-g r s =
      selected-same n w.g wired.g-fit (own n w r s) s
      (λ v l c. mixed-out n (private w) r s v l (not-own-g v c))

  pub own-direct : (r s : ℕ) → reads w.direct (own n w r s) ≡ reads w.direct s
  own-direct r s =
      reads-ext w.direct (own n w r s) s
      (λ closed.
      let within = carried-lt n w.direct wired.direct-fits closed in
      mixed-out n (private w) r s w.direct within not-own-direct)

  -- where r and s agree in what F shares, F sees r
  pub own-f : (r s : ℕ) → selected w.f (rest n w r) ≡ selected w.f (rest n w s)
      → selected w.f (own n w r s) ≡ selected w.f r
  own-f r s e =
      selected-same n w.f wired.f-fit (own n w r s) r
      (λ v l c.
      byBool (private w v) (mixed-in n (private w) r s v l)
      (λ q.
      let same = selected-agree n w.f (rest n w r) (rest n w s) e v l c in
      let at-r = without-out n (private w) r v l q in
      let at-s = without-out n (private w) s v l q in
      mixed-out n (private w) r s v l q ∙ cc (same, at-r, at-s)))

  pub rest_lt : (r : ℕ) → rest n w r < 2 ^ n
  rest_lt r = without-lt n (private w) r

  pub own-lt : (r s : ℕ) → own n w r s < 2 ^ n
  own-lt r s = mixed-lt n (private w) r s

  pub rest-g : (r : ℕ) → selected w.g (rest n w r) ≡ selected w.g r
  rest-g r = rw (without-mixed n (private w) r) (own-g 0 r)

  pub rest-direct : (r : ℕ) → reads w.direct (rest n w r) ≡ reads w.direct r
  rest-direct r = rw (without-mixed n (private w) r) (own-direct 0 r)

  -- F sees the same of two rests where the rows agree in its other variables
  pub rest-agree : (r s : ℕ)
      → ((v : ℕ) → v < n → carries w.f v ≡ true → private w v ≡ false → has r v ≡ has s v)
      → selected w.f (rest n w r) ≡ selected w.f (rest n w s)
  rest-agree r s h =
      selected-same n w.f wired.f-fit (rest n w r) (rest n w s)
      (λ v l c. without-same n (private w) r s v l (h v l c))

  pub rest-same : (r s : ℕ) → selected w.f r ≡ selected w.f s
      → selected w.f (rest n w r) ≡ selected w.f (rest n w s)
  rest-same r s e = rest-agree r s (λ v l c q. selected-agree n w.f r s e v l c)

  pub rest-rest : (r : ℕ) → selected w.f (rest n w (rest n w r)) ≡ selected w.f (rest n w r)
  rest-rest r = rest-agree (rest n w r) r (λ v l c q. without-out n (private w) r v l q)

  pub rest_le : (r : ℕ) → selected w.f (rest n w r) ≤ selected w.f r
  rest_le r = selected-le n w.f wired.f-fit (rest n w r) r (without-low n (private w) r)

-- row r with the direct pin's variable put to the level
abbrev pub with_direct : (n : ℕ) (w : Wiring) (level : Bool) (r : ℕ) → ℕ
with_direct n w level r = put_to n w.direct level r

module _ (n : ℕ) (w : Wiring) (wired : Wired n w) (bridge : bridged w ≡ true) where
  closed : is_open w.direct ≡ false
  closed = carried-closed w.f w.direct bridge

  direct-lt : w.direct < n
  direct-lt = carried-lt n w.direct wired.direct-fits closed

  pub reads-put : (level : Bool) (r : ℕ) → reads w.direct (with_direct n w level r) ≡ level
  reads-put level r =
      reads-carried w.direct (with_direct n w level r) closed
      ∙ put-here n w.direct level r direct-lt

  pub cleared-less : (r : ℕ) → reads w.direct r ≡ true
      → selected w.f (with_direct n w false r) < selected w.f r
  cleared-less r on =
      let off = put-here n w.direct false r direct-lt in
      selected-less n w.f wired.f-fit (with_direct n w false r) r
      (λ v l low.
      byBool (eqb v w.direct) (λ e. rw (has-put n w.direct false r v l, e))
      (λ e. put_other n w.direct false r v l e ∙ low))
      w.direct direct-lt bridge off
      (sym (reads-carried w.direct r closed) ∙ on)
