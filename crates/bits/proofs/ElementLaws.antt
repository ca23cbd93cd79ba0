-- Parts of a list exchanged, and a part doubled: the elements stay the same. Assumes nothing.
use mathlib.Core.List.Memᴰ
use mathlib.Core.List.{List, ◌++◌}
use mathlib.Core.Logic.{⊎_elim}
use Rattle.bits.specs.Elements.{Among, SameElements}

module _ {A : Type 0} where
  both-among : (xs ys zs : List A) → Among xs zs → Among ys zs → Among (xs ++ ys) zs
  both-among xs ys zs left right x stands =
      ⊎_elim (left x) (right x) (Memᴰ.append_cases xs stands)

  among-exchanged : (a x y b : List A) → Among (a ++ x ++ y ++ b) (a ++ y ++ x ++ b)
  among-exchanged a x y b =
      let whole = a ++ y ++ x ++ b in
      let of-a : Among a whole =
      λ e m. Memᴰ.append_left b (Memᴰ.append_left x (Memᴰ.append_left y m)) in
      let of-x : Among x whole = λ e m. Memᴰ.append_left b (Memᴰ.append_right (a ++ y) m) in
      let of-y : Among y whole =
      λ e m. Memᴰ.append_left b (Memᴰ.append_left x (Memᴰ.append_right a m)) in
      let of-b : Among b whole = λ e m. Memᴰ.append_right (a ++ y ++ x) m in
      both-among (a ++ x ++ y) b whole
      (both-among (a ++ x) y whole (both-among a x whole of-a of-x) of-y) of-b

  pub parts-exchanged : (a x y b : List A) → SameElements (a ++ x ++ y ++ b) (a ++ y ++ x ++ b)
  parts-exchanged a x y b = (among-exchanged a x y b, among-exchanged a y x b)

  among-twice : (a x b : List A) → Among (a ++ x ++ b) (a ++ x ++ x ++ b)
  among-twice a x b =
      both-among (a ++ x) b (a ++ x ++ x ++ b)
      (λ e m. Memᴰ.append_left b (Memᴰ.append_left x m))
      (λ e m. Memᴰ.append_right (a ++ x ++ x) m)

  among-once : (a x b : List A) → Among (a ++ x ++ x ++ b) (a ++ x ++ b)
  among-once a x b =
      let whole = a ++ x ++ b in
      let of-x : Among x whole = λ e m. Memᴰ.append_left b (Memᴰ.append_right a m) in
      both-among (a ++ x ++ x) b whole
      (both-among (a ++ x) x whole (λ e m. Memᴰ.append_left b m) of-x)
      (λ e m. Memᴰ.append_right (a ++ x) m)

  pub part-doubled : (a x b : List A) → SameElements (a ++ x ++ b) (a ++ x ++ x ++ b)
  part-doubled a x b = (among-twice a x b, among-once a x b)
