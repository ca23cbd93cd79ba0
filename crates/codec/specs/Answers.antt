-- The codec's answers as document 01 gives them. Assumes nothing.
use Rattle.std.specs.Prelude.{ℕ, List, ◌≡◌, length, Err, Ok, Result}
use Rattle.block.specs.declared.Refusal.{Refusal}
use Rattle.block.specs.declared.Parts.{Parts}
use Rattle.block.specs.Block.{Block}
use Rattle.block.specs.Code.{block_of, zero_block}
use Rattle.block.specs.Refusal.{number_of}
use Rattle.block.specs.Answer.{Answer, answered, answer_of, Writes}
use Rattle.codec.specs.Ten.{unpack_of, pack_of}
use Rattle.codec.specs.Check.{check_refusal, pack_refusal}

-- a check answers the number alone
abbrev pub checked_of : Result (Unit {0}) Refusal → ℕ
checked_of (Ok _) = 0
checked_of (Err k) = number_of k

-- unpacking answers the nine fields and three tables
abbrev pub unpacked_of : Result Parts Refusal → Answer Block
unpacked_of = answer_of block_of zero_block

-- refused as checking is, else what the ten bytes hold
unfoldable pub unpack_answer : (n : ℕ) (s : List ℕ) → Answer Block
unpack_answer n s = answered (check_refusal n s) zero_block (unpack_of s)

-- what checking promises
abbrev pub Checks : (n : ℕ) (s : List ℕ) (r : Result (Unit {0}) Refusal) → Type 0
Checks n s r = checked_of r ≡ check_refusal n s

-- what unpacking promises
abbrev pub Unpacks : (n : ℕ) (s : List ℕ) (r : Result Parts Refusal) → Type 0
Unpacks n s r = unpacked_of r ≡ unpack_answer n s

-- packing writes the ten bytes of the block, the room being the whole lent buffer
abbrev pub Packs : (n : ℕ) (b : Block) (before after : List ℕ) (r : Result ℕ Refusal) → Type 0
Packs n b before after r = Writes (pack_refusal n b (length before)) (pack_of b) before after r
