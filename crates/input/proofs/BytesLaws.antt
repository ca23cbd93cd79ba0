-- What a buffer holds of a reader's bytes after one more read. Assumes nothing.
use Rattle.std.proofs.Common.{◌≡◌, ℕ, ◌+◌, ◌-◌, ◌≤◌, ◌<◌, List, ◌++◌, arith, length, take, slice_range, sym, ap, ◌∙◌, subst, le_refl, drop_at, length-take-le, refl}
use Rattle.std.proofs.lemmas.Slice.{take-put_mid_below}
use Rattle.std.specs.Prelude.{Ok, Err, Option}
use Rattle.std.specs.Result.{result_unwrap_or}
use Rattle.std.specs.declared.result.Result.{Result}
use Rattle.std.specs.declared.io.Error.{Error}
use Rattle.std.specs.Io.{ReadsAtMost}
use Rattle.std.specs.Io.KnownBytes.{Consumes, ReadConsumes}
use Rattle.std.proofs.KnownBytes.{Consumes-trans, Consumes-kept}
use borrow.Rule.Slice.PartMut.{put_mid, post_of}
use lib.Seq.{take-add, take-append-le}
use Rattle.input.specs.declared.Input.{Input}
use Rattle.input.specs.Input.{ended_by, LeavesRoom, Reads}

take_split : (a b : ℕ) (old new : List ℕ) → a ≤ b → take a new ≡ take a old → take a old ++ slice_range new a b ≡ take b new
take_split a b old new h front =
    let same : a + (b - a) ≡ b = omega arith in
    ap (λ l. l ++ slice_range new a b) (sym front) ∙ sym (take-add a (b - a) new) ∙ ap (λ n. take n new) same

slice_range-put_mid : (a k n : ℕ) (xs ys : List ℕ) → a ≤ length xs → n ≤ length ys → slice_range (put_mid a k xs ys) a (a + n) ≡ take n ys
slice_range-put_mid a k n xs ys within fits =
    let same : (a + n) - a ≡ n = omega arith in
    let after = post_of a k xs in
    ap (take ((a + n) - a)) (drop_at (take a xs) (ys ++ after) a (length-take-le a xs within)) ∙ ap (λ m. take m (ys ++ after)) same ∙ take-append-le n ys after fits

-- the bytes before the place, and those that a read puts from there on
pub joined : (a k n : ℕ) (xs ys : List ℕ) → a ≤ length xs → n ≤ length ys → take a xs ++ take n ys ≡ take (a + n) (put_mid a k xs ys)
joined a k n xs ys within fits =
    let part = slice_range-put_mid a k n xs ys within fits in
    ap (λ l. take a xs ++ l) (sym part) ∙ take_split a (a + n) xs (put_mid a k xs ys) (omega arith) (take-put_mid_below _ _ _ _ _ (le_refl _) within)

-- a read that fails, or brings nothing, leaves what stands before the place
pub kept : (a k : ℕ) (xs ys : List ℕ) → a ≤ length xs → take a (put_mid a k xs ys) ≡ take a xs
kept a k xs ys within = take-put_mid_below _ _ _ _ _ (le_refl _) within

-- what was read, and what one more read brings
pub grown : (had mid left : Option (List ℕ)) (got : Result ℕ Error) (more used k : ℕ) (xs ys : List ℕ) → more ≡ result_unwrap_or got 0 → used ≤ length xs
    → Consumes had mid (take used xs) → ReadsAtMost got ys → ReadConsumes mid left got ys → Consumes had left (take (used + more) (put_mid used k xs ys))
grown had mid left (Ok n) more used k xs ys is within before fits read =
    let same = ap (λ m. take (used + m) (put_mid used k xs ys)) (sym is) in
    subst (Consumes had left) (joined used k n xs ys within fits.0 ∙ same) (Consumes-trans _ _ _ _ _ before read.0)
grown had mid left (Err why) more used k xs ys is within before fits read =
    let none : used ≡ used + more = omega arith in
    let same = ap (λ m. take m (put_mid used k xs ys)) none in
    subst (Consumes had left) (sym (kept used k xs ys within) ∙ same) (Consumes-kept _ _ _ _ before read)

-- a read that brings nothing tells how the input ended
pub told : (had mid left : Option (List ℕ)) (got : Result ℕ Error) (used k : ℕ) (xs ys : List ℕ) (r : Result Input Error) → r ≡ ended_by got used → result_unwrap_or got 0 ≡ 0
    → used ≤ length xs → 0 < length ys → Consumes had mid (take used xs) → ReadsAtMost got ys → ReadConsumes mid left got ys → Reads had left r (put_mid used k xs ys)
unfolding ended_by Reads
told had mid left (Ok n) used k xs ys r is none within room before fits read =
    let all = grown had mid left (Ok n) n used k xs ys refl within before fits read in
    let same : used + n ≡ used = omega arith in
    rw is
    (subst (λ m. Consumes had left (take m (put_mid used k xs ys))) same all, read.1 none room)
told had mid left (Err why) used k xs ys r is none within room before fits read = rw is tt

-- what ended before the buffer was full leaves room
pub room_left : (got : Result ℕ Error) (used room : ℕ) (r : Result Input Error) → r ≡ ended_by got used → used < room → LeavesRoom r room
unfolding LeavesRoom ended_by
room_left (Ok k) used room r e below = rw e below
room_left (Err why) used room r e below = rw e tt
