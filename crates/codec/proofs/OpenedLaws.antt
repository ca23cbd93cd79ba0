-- What a caller knows of the parts that the unpacker hands out. Assumes nothing.
use Rattle.std.specs.Prelude.{Ok, Result}
use Rattle.block.specs.declared.Refusal.{Refusal}
use mathlib.Core.Path.{◌≡◌, sym, ap, ◌∙◌}
use mathlib.Core.List.{List}
use Prim.Native.Nat.{ℕ, ◌≤◌}
use Rattle.block.specs.declared.Parts.{Parts}
use Rattle.block.specs.Code.{block_of}
use Rattle.block.specs.Tidy.{Tidy}
use Rattle.codec.specs.Ten.{unpack_of}
use Rattle.codec.specs.Check.{check_refusal}
use Rattle.codec.specs.Answers.{unpacked_of, unpack_answer}
use Rattle.codec.proofs.UnpackLaws.{accepted}
use Rattle.codec.proofs.CheckLaws.{accepted-of-none}

pub record Opened (n : ℕ) (s : List ℕ) (x : Parts) : Type 0 where
  pub none : check_refusal n s ≡ 0
  pub parts : block_of x ≡ unpack_of s
  pub within : n ≤ 9
  pub tidy : Tidy n (block_of x)

pub opened : (n : ℕ) (s : List ℕ) (u : Result Parts Refusal) (x : Parts) → u ≡ Ok x
    → unpacked_of u ≡ unpack_answer n s → Opened n s x
opened n s u x e answered =
    let told = accepted n s (block_of x) (ap unpacked_of (sym e) ∙ answered) in
    let fine = accepted-of-none n s told.0 in
    let tidy : Tidy n (block_of x) = rw told.1 fine.tidy in
    record {
      none = told.0;
      parts = told.1;
      within = fine.within;
      tidy = tidy;
    }
