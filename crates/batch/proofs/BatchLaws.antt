-- The promise of a batch leaves one answer; its slots have the places and the content that the requests
-- give them; and two batches one after the other. Assumes nothing.
use Rattle.std.specs.Prelude.{Err, Ok, Result}
use mathlib.Core.Path.{◌≡◌, refl, sym, ap, ap₂, ◌∙◌, subst}
use mathlib.Core.Bool.{true, false}
use mathlib.Core.List.{List, [], ◌∷◌, ◌++◌, append_assoc}
use Prim.Native.Nat.{ℕ, ◌+◌, ◌*◌, ◌≤◌}
use native.Mathlib.Omega.{arith}
use lib.ListN.{length, take, drop, get_or, length-append}
use lib.Seq.{take_at, drop_at}
use Rattle.bits.specs.Tests.{member, all}
use Rattle.bits.proofs.TestLaws.{both_left, both_right}
use Rattle.bits.proofs.AnyLaws.{all_append}
use Rattle.block.specs.declared.Refusal.{Refusal}
use Rattle.block.specs.declared.Refusal.TheVariants.{BrokenBuild}
use Rattle.block.specs.Refusal.{number_of}
use Rattle.block.specs.Answer.{written_of, refused, filled}
use Rattle.block.proofs.AnswerLaws.{written-number, answered-parts, fills-refused, fills-bytes, fills-kept, fills-unique}
use Rattle.matcher.proofs.UniqueMatch.{single-unique}
use Rattle.requests.specs.Requests.{Request, requests_of, is_whole, broken, build_refusal}
use Rattle.requests.specs.Each.{Each, none, next}
use Rattle.requests.proofs.RequestLaws.{requests-none, broken-none}
use Rattle.requests.proofs.CountLaws.{accepted, accepts, refuses-broken}
use Rattle.requests.proofs.EachLaws.{each_append, each-parts, each-unique}
use Rattle.requests.proofs.FillLaws.{fills-within}
use Rattle.requests.proofs.LaidLaws.{all_whole, two-builds, two-broken}
use Rattle.batch.specs.Batch.{slot_bytes, slot_of, Slot, Batched}
use Rattle.batch.proofs.SingleLaws.{slot-number}
use Rattle.batch.proofs.SlotLaws.{slot-length, slot-short, slots_length}

pub batch-unique : (s before after after' : List ℕ) (r q : Result ℕ Refusal) → Batched s before after r
    → Batched s before after' q → (r ≡ q) × (after ≡ after')
batch-unique s before =
    fills-unique (build_refusal slot_bytes s (length before)) (Each Slot (requests_of s))
    (each-unique Slot (λ q. single-unique q.n q.table slot_of) (requests_of s)) before

-- a refusal is the first of 14 and 5, and changes no byte
pub batch-refused : (s before after : List ℕ) (k : Refusal) → Batched s before after (Err k)
    → (number_of k ≡ build_refusal slot_bytes s (length before)) × (after ≡ before)
batch-refused s before =
    fills-kept (build_refusal slot_bytes s (length before)) (Each Slot (requests_of s)) before

-- a batch that was not refused
pub record Slotted (s before after : List ℕ) (used : ℕ) : Type 0 where
  pub slots : List ℕ
  pub each : Each Slot (requests_of s) slots
  pub fine : build_refusal slot_bytes s (length before) ≡ 0
  pub used-is : used ≡ length slots
  pub after_is : after ≡ slots ++ drop used before

pub slotted : (s before after : List ℕ) (used : ℕ) → Batched s before after (Ok used)
    → Slotted s before after used
slotted s before after used (refused some w) =
    absurd (some (sym (written-number _ [] before after (Ok used) w)))
slotted s before after used (filled fine slots each w) =
    let size : used ≡ length slots = (answered-parts 0 0 (length slots) used w.told).1 in
    record { slots = slots; each = each; fine = fine; used-is = size; after_is = rw size w.kept }

slots-in-front : (s before after : List ℕ) (used : ℕ) (m : Slotted s before after used)
    → m.slots ≡ take used after
slots-in-front s before after used m =
    let front = take_at m.slots (drop used before) used (sym m.used-is) in
    sym (ap (λ (x : List ℕ). take used x) m.after_is ∙ front)

whole-among : (qs rs : List Request) (q : Request) → all is_whole (qs ++ (q ∷ rs)) ≡ true → is_whole q ≡ true
whole-among qs rs q e =
    both_left (is_whole q) (all is_whole rs)
    (both_right (all is_whole qs) _ (sym (all_append is_whole qs (q ∷ rs)) ∙ e))

first_slot : (rs : List Request) (q : Request) (slots beyond : List ℕ) → Each Slot (q ∷ rs) slots
    → Slot q (take slot_bytes (slots ++ beyond))
first_slot rs q _ beyond (next {piece = slot} {pieces = others} here more) =
    rw (
      append_assoc slot others beyond,
      take_at slot (others ++ beyond) slot_bytes (slot-length q slot here),
    )
    here

among-slots : (qs rs : List Request) (q : Request) (slots beyond : List ℕ)
    → Each Slot (qs ++ (q ∷ rs)) slots
    → Slot q (take slot_bytes (drop (slot_bytes * length qs) (slots ++ beyond)))
among-slots qs rs q slots beyond each =
    let parts = each-parts Slot qs (q ∷ rs) slots each in
    let long = slots_length qs parts.front parts.firsts in
    rw (
      parts.joined,
      append_assoc parts.front parts.back beyond,
      drop_at parts.front (parts.back ++ beyond) (slot_bytes * length qs) long,
    )
    (first_slot rs q parts.back beyond parts.others)

module _ (s before after : List ℕ) (used : ℕ) (b : Batched s before after (Ok used)) where
  made : Slotted s before after used
  made = slotted s before after used b

  -- 11 bytes are in use for each request
  pub batch-length : used ≡ slot_bytes * length (requests_of s)
  batch-length = made.used-is ∙ slots_length (requests_of s) made.slots made.each

  -- bytes beyond the slots stay
  pub beyond-kept : drop used after ≡ drop used before
  beyond-kept = rw made.after_is (drop_at made.slots (drop used before) used (sym made.used-is))

  -- the slot of a request stands after one for each request before it
  pub slot_at : (qs rs : List Request) (q : Request) → requests_of s ≡ qs ++ (q ∷ rs)
      → Slot q (take slot_bytes (drop (slot_bytes * length qs) after))
  slot_at qs rs q split =
      rw made.after_is
      (among-slots qs rs q made.slots (drop used before)
      (subst (λ (all : List Request). Each Slot all made.slots) split made.each))

-- the length in use is within the buffer
pub batch-within : (s before after : List ℕ) (r : Result ℕ Refusal) → Batched s before after r
    → (written_of r).parts ≤ length before
batch-within = fills-within Slot slot_bytes slot-short

-- whose number is 0, 3 or 4
pub slot-at-number : (s before after : List ℕ) (used : ℕ) → Batched s before after (Ok used)
    → (qs rs : List Request) (q : Request) → requests_of s ≡ qs ++ (q ∷ rs)
    → member (get_or (drop (slot_bytes * length qs) after) 0 0) (0 ∷ 3 ∷ 4 ∷ []) ≡ true
slot-at-number s before after used b qs rs q split =
    let sound = (accepted slot_bytes s (length before) (slotted s before after used b).fine).0 in
    let whole = whole-among qs rs q (rw split at (all_whole s sound)) in
    let slot = slot_at s before after used b qs rs q split in
    rw (first_byte (drop (slot_bytes * length qs) after)) at (slot-number q _ whole slot)
  where
    first_byte : (t : List ℕ) → get_or (take slot_bytes t) 0 0 ≡ get_or t 0 0
    first_byte [] = refl
    first_byte (x ∷ t) = refl

-- the empty buffer is a batch of none
pub batch-none : (before after : List ℕ) (r : Result ℕ Refusal) → Batched [] before after r
    → (r ≡ Ok 0) × (after ≡ before)
batch-none before after r b =
    let fine = accepts slot_bytes [] (length before) broken-none (rw requests-none (omega arith)) in
    batch-unique [] before after before r (Ok 0) b
    (fills-bytes _ (Each Slot (requests_of [])) [] before before 0 fine
    (subst (λ (qs : List Request). Each Slot qs []) (sym requests-none) none) refl refl)

-- two batches one after the other: the slots of the first, and then those of the second
module _ (s t : List ℕ) (before before' after after' : List ℕ) (used used' : ℕ)
    (b : Batched s before after (Ok used)) (b' : Batched t before' after' (Ok used')) where
  first : Slotted s before after used
  first = slotted s before after used b

  second : Slotted t before' after' used'
  second = slotted t before' after' used' b'

  both-requests : requests_of (s ++ t) ≡ requests_of s ++ requests_of t
  both-requests = two-builds t s (accepted slot_bytes s (length before) first.fine).0

  both-sound : broken (s ++ t) ≡ false
  both-sound =
      two-broken t s (accepted slot_bytes s (length before) first.fine).0
      ∙ (accepted slot_bytes t (length before') second.fine).0

  both-slots : Each Slot (requests_of (s ++ t)) (first.slots ++ second.slots)
  both-slots =
      subst (λ (qs : List Request). Each Slot qs (first.slots ++ second.slots)) (sym both-requests)
      (each_append Slot (requests_of s) (requests_of t) first.slots second.slots first.each second.each)

  both-length : length (first.slots ++ second.slots) ≡ used + used'
  both-length =
      length-append first.slots second.slots ∙ omega (arith, first.used-is, second.used-is)

  pub two-batches : (buffer result : List ℕ) (r : Result ℕ Refusal) → used + used' ≤ length buffer
      → Batched (s ++ t) buffer result r
      → (r ≡ Ok (used + used')) × (result ≡ take used after ++ take used' after' ++ drop (used + used') buffer)
  two-batches buffer result r room p =
      let slots = first.slots ++ second.slots in
      let all = slots_length (requests_of (s ++ t)) slots both-slots in
      let fine = accepts slot_bytes (s ++ t) (length buffer) both-sound (omega (arith, all, both-length)) in
      let rest = drop (used + used') buffer in
      let same = batch-unique (s ++ t) buffer result (slots ++ rest) r (Ok (used + used')) p
      (fills-bytes _ (Each Slot (requests_of (s ++ t))) slots buffer _ (used + used') fine both-slots
      (sym both-length) (rw both-length refl)) in (
        same.0,
        same.1
            ∙ ap₂ (λ (x y : List ℕ). x ++ y ++ rest) (slots-in-front s before after used first)
            (slots-in-front t before' after' used' second),
      )

-- after a build that is not broken, a broken one makes the whole 14, and nothing is written
pub then-broken : (s t before after : List ℕ) (r : Result ℕ Refusal) → broken s ≡ false → broken t ≡ true
    → Batched (s ++ t) before after r → (r ≡ Err BrokenBuild) × (after ≡ before)
then-broken s t before after r sound some b =
    batch-unique (s ++ t) before after before r (Err BrokenBuild) b
    (fills-refused BrokenBuild _ (Each Slot (requests_of (s ++ t))) before
    (sym (refuses-broken slot_bytes (s ++ t) (length before) (two-broken t s sound ∙ some))))
