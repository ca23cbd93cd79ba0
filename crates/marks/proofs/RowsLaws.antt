-- Painting: the words one by one, and the rows that are then set. Assumes nothing.
use mathlib.Core.Path.{◌≡◌, refl, sym, ap, ◌∙◌}
use mathlib.Core.Bool.{Bool, true, false, ◌&&◌, ◌||◌, and-true, and-false}
use mathlib.Core.List.{List, [], ◌∷◌}
use Prim.Native.Nat.{ℕ, zero, suc, ◌+◌, ◌-◌, ◌/◌, ◌%◌, ◌<◌, ◌≤◌}
use native.Mathlib.Omega.{arith}
use lib.Bits.{bit_or}
use lib.Dec.{ltb}
use lib.ListN.{length, take, drop, get_or, set as put, replicate, get_or-replicate}
use lib.ListN.{length-replicate, get_or-eq_default}
use borrow.Author.Tests.{ltb-true, ltb-false}
use Rattle.bits.specs.Bits.{has, of_rows}
use Rattle.bits.specs.Tests.{pick}
use Rattle.bits.proofs.SearchLaws.{byBool}
use Rattle.bits.proofs.BitLaws.{has-or, has-of-0}
use Rattle.bits.proofs.RowLaws.{is_row-of_rows}
use Rattle.marks.specs.Marks.{covers}
use Rattle.marks.specs.Rows.{is_set, covered_word, painted}
use Rattle.marks.proofs.CoverLaws.{covers-split}
use Rattle.marks.proofs.OverLaws.{over_to, over-at, over-turn}

pub painted-length : (marks : List ℕ) (w : ℕ) (words : List ℕ)
    → length (painted marks w words) ≡ length words
unfolding painted
painted-length marks w [] = refl
painted-length marks w (x ∷ words) = ap suc (painted-length marks (suc w) words)

pub painted-at : (marks : List ℕ) (w : ℕ) (words : List ℕ) (k : ℕ) → k < length words
    → get_or (painted marks w words) k 0 ≡ bit_or (get_or words k 0) (covered_word marks (k + w))
unfolding painted
painted-at marks w [] k l = absurd (omega arith)
painted-at marks w (x ∷ words) zero l = let e : 0 + w ≡ w = omega arith in rw e
painted-at marks w (x ∷ words) (suc k) l =
    let e : suc k + w ≡ k + suc w = omega arith in
    rw e (painted-at marks (suc w) words k (omega arith))

-- a word as the code makes it
pub word_made : (marks : List ℕ) (w : ℕ) → w < 64
    → pick (has (of_rows 64 (covers (take 6 (drop 6 marks)))) (63 - w))
    (of_rows 64 (covers (take 6 marks))) 0
    ≡ covered_word marks w
unfolding covered_word
word_made marks w l = rw (is_row-of_rows 64 (covers (take 6 (drop 6 marks))) w l)

-- one word more, as the code stores it
pub painted-turn : (marks words : List ℕ) (w : ℕ) → w < length words
    → let made = painted marks 0 words in
    put (over_to made words w) w (bit_or (get_or (over_to made words w) w 0) (covered_word marks w))
    ≡ over_to made words (w + 1)
painted-turn marks words w l =
    let made = painted marks 0 words in
    let same = painted-length marks 0 words in
    let e : w + 0 ≡ w = omega arith in
    let next = rw e at (painted-at marks 0 words w l) in
    rw (over-at made words w (omega arith) l, ← next) (over-turn made words w (omega arith) l)

-- a row of a word that is there by a test
has-pick : (b : Bool) (x i : ℕ) → has (pick b x 0) i ≡ has x i && b
has-pick true x i = sym (and-true (has x i))
has-pick false x i = has-of-0 i ∙ sym (and-false (has x i))

covered-row : (marks : List ℕ) (r : ℕ) → length marks ≤ 9
    → has (covered_word marks (r / 64)) (63 - r % 64) ≡ covers marks r
unfolding covered_word
covered-row marks r few =
    let low = covers (take 6 marks) in
    let here = is_row-of_rows 64 low (r % 64) (omega arith) in
    has-pick (covers (take 6 (drop 6 marks)) (r / 64)) (of_rows 64 low) (63 - r % 64)
    ∙ ap (λ (b : Bool). b && covers (take 6 (drop 6 marks)) (r / 64)) here
    ∙ covers-split marks r few

pub painted-row : (marks words : List ℕ) (r : ℕ) → length marks ≤ 9 → length words ≡ 8 → r < 512
    → is_set (painted marks 0 words) r ≡ (is_set words r || covers marks r)
unfolding is_set
painted-row marks words r few eight l =
    let w = r / 64 in
    let e : w + 0 ≡ w = omega arith in
    rw (painted-at marks 0 words w (omega arith), e)
    (has-or (get_or words w 0) (covered_word marks w) (63 - r % 64)
    ∙ ap (λ (b : Bool). has (get_or words w 0) (63 - r % 64) || b) (covered-row marks r few))

-- no row is set where every word is 0
same_word : (n x w : ℕ) → get_or (replicate n x) w x ≡ x
same_word n x w =
    byBool (ltb w n) (λ e. get_or-replicate n w x x (ltb-true w n e))
    (λ e.
    get_or-eq_default (replicate n x) x {n = w}
    (rw (length-replicate n x) (ltb-false w n e)))

pub is_set-none : (r : ℕ) → is_set (replicate 8 0) r ≡ false
unfolding is_set
is_set-none r = rw (same_word 8 0 (r / 64)) (has-of-0 (63 - r % 64))
