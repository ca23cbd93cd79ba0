-- `filter::words` meets its contract. The invariant: the words so far, then zeros. Assumes nothing.
use Prim.Native.Nat.{ℕ, ◌+◌}
use mathlib.Core.Path.{◌≡◌, refl, ap, ◌∙◌}
use mathlib.Core.List.{List}
use native.Mathlib.Omega.{arith}
use lib.ListN.{set as put}
use Rattle.rows.proofs.KeyLaws.{key-pins}
use Rattle.filter.specs.Words.{word_at, words_to}
use Rattle.filter.proofs.WordLaws.{words_more, words-done, words-room}
use Rattle.filter.proofs.words.Goals as goal

pub loop-a-init : goal.loop-a-init
unfolding words_to
loop-a-init c = record { all = refl; so_far = refl }

pub loop-a-preserved : goal.loop-a-preserved
unfolding word_at
loop-a-preserved c =
    let the_word : c.word.result ≡ word_at c.args.t.now c.args.within c.args.set c.loop-a.a =
    rw (
      c.word.ensures,
      c.place.ensures.0,
      c.key_of-key.ensures,
      c.rest_of-rest.ensures.0,
      key-pins,
    )
    in
    let l = c.loop-a in
    let a = c.args in
    let next =
    ap (λ (s : List ℕ). put s l.a c.word.result) l.invariant.so_far
    ∙ words_more a.t.now a.within a.set l.a c.word.result (omega arith) the_word in
    let room = words-room a.t.now a.within a.set (l.a + 1) (omega arith) in
    record { all = rw next room; so_far = next }

pub returns : goal.returns
returns c =
    let l = c.loop-a in
    let a = c.args in
    let done : l.a ≡ 16 = omega arith in
    l.invariant.so_far ∙ rw done (words-done a.t.now a.within a.set)
