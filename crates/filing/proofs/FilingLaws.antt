-- What filing promises, case by case; that it leaves one answer and one sheet, and that a refusal changes
-- no byte. A cover that was filed is its table that was filed. Assumes nothing.
use Rattle.std.specs.Prelude.{Err, Ok, Result}
use Rattle.record.specs.declared.Refused.{Refused}
use Rattle.record.specs.Told.{refused}
use mathlib.Core.Path.{◌≡◌, refl, sym, ◌∙◌}
use mathlib.Core.List.{List}
use Prim.Native.Nat.{ℕ}
use lib.ListN.{take}
use Rattle.block.specs.declared.Refusal.{Refusal}
use Rattle.block.specs.Refusal.{number_of}
use Rattle.block.proofs.AnswerLaws.{never-refused}
use Rattle.codec.specs.Ten.{ten_zeros}
use Rattle.matcher.specs.Match.{Matched}
use Rattle.matcher.proofs.UniqueMatch.{match-unique}
use Rattle.words.specs.Text.{content_of}
use Rattle.blif.specs.declared.Cover.{Cover}
use Rattle.blif.specs.Part.{inputs_of}
use Rattle.blif.specs.Cover.{cover_table, table_room, Reads}
use Rattle.blif.proofs.CoverLaws.{reads-unique, read_table}
use Rattle.record.specs.Record.{offered}
use Rattle.record.specs.Told.{placed}
use Rattle.record.proofs.ToldLaws.{told-unique}
use Rattle.append.specs.Append.{Appends}
use Rattle.append.proofs.AppendLaws.{append-unique, append-refused}
use Rattle.filing.specs.Table.{Unfiled, FilesBlock, FilesTable}
use Rattle.filing.specs.Cover.{FilesRead, FilesCover}

-- the two cases of what matching answered
pub files-block : (s : List ℕ) (used craft block n : ℕ) (t ten after : List ℕ) (long : ℕ) (r : Result ℕ Refused)
    → Matched n t ten_zeros ten (Ok long) → Appends s used (offered craft block n ten) after r
    → FilesTable s used craft block n t after r
unfolding FilesBlock
files-block s used craft block n t ten after long r m a =
    record { found = Ok long; ten = ten; matched = m; filed = a }

pub files-unmatched : (s : List ℕ) (used craft block n : ℕ) (t ten : List ℕ) (k : Refusal)
    → Matched n t ten_zeros ten (Err k) → FilesTable s used craft block n t s (Err (refused k 0))
unfolding FilesBlock
files-unmatched s used craft block n t ten k m =
    record { found = Err k; ten = ten; matched = m; filed = record { told = refl; kept = refl } }

-- the two cases of what reading answered
pub files-read : (s : List ℕ) (used craft block : ℕ) (text table after : List ℕ) (cover : Cover) (r : Result ℕ Refused)
    → Reads text table_room table (Ok cover) → FilesTable s used craft block cover.n (take cover.used table) after r
    → FilesCover s used craft block text after r
unfolding FilesRead
files-read s used craft block text table after cover r read f =
    record { cover = Ok cover; table = table; read = read; filed = f }

pub files-unread : (s : List ℕ) (used craft block : ℕ) (text table : List ℕ) (k : Refusal)
    → Reads text table_room table (Err k) → FilesCover s used craft block text s (Err (refused k 0))
unfolding FilesRead
files-unread s used craft block text table k read =
    record { cover = Err k; table = table; read = read; filed = record { told = refl; kept = refl } }

-- one answer and one sheet
unfiled-unique : (number : ℕ) (before after after' : List ℕ) (r q : Result ℕ Refused) → Unfiled number before after r
    → Unfiled number before after' q → (r ≡ q) × (after ≡ after')
unfiled-unique number before after after' r q p p' =
    (told-unique r q _ p.told p'.told, p.kept ∙ sym p'.kept)

block-unique : (found : Result ℕ Refusal) (s : List ℕ) (used craft block n : ℕ) (ten after after' : List ℕ) (r q : Result ℕ Refused)
    → FilesBlock found s used craft block n ten after r
    → FilesBlock found s used craft block n ten after' q → (r ≡ q) × (after ≡ after')
unfolding FilesBlock
block-unique (Ok long) s used craft block n ten after after' r q p p' =
    append-unique s used (offered craft block n ten) after after' r q p p'
block-unique (Err k) s used craft block n ten after after' r q p p' =
    unfiled-unique (number_of k) s after after' r q p p'

pub files-table-unique : (s : List ℕ) (used craft block n : ℕ) (t after after' : List ℕ) (r q : Result ℕ Refused)
    → FilesTable s used craft block n t after r → FilesTable s used craft block n t after' q
    → (r ≡ q) × (after ≡ after')
files-table-unique s used craft block n t after after' r q p p' =
    let same = match-unique n t ten_zeros p.ten p'.ten p.found p'.found p.matched p'.matched in
    block-unique p.found s used craft block n p.ten after after' r q p.filed
    (rw (same.0, same.1) p'.filed)

read-unique : (cover : Result Cover Refusal) (table s : List ℕ) (used craft block : ℕ) (after after' : List ℕ) (r q : Result ℕ Refused)
    → FilesRead cover table s used craft block after r → FilesRead cover table s used craft block after' q
    → (r ≡ q) × (after ≡ after')
unfolding FilesRead
read-unique (Ok cover) table s used craft block after after' r q p p' =
    files-table-unique s used craft block cover.n (take cover.used table) after after' r q p p'
read-unique (Err k) table s used craft block after after' r q p p' =
    unfiled-unique (number_of k) s after after' r q p p'

pub files-cover-unique : (s : List ℕ) (used craft block : ℕ) (text after after' : List ℕ) (r q : Result ℕ Refused)
    → FilesCover s used craft block text after r → FilesCover s used craft block text after' q
    → (r ≡ q) × (after ≡ after')
files-cover-unique s used craft block text after after' r q p p' =
    let same = reads-unique text table_room p.table p'.table p.cover p'.cover p.read p'.read in
    read-unique p.cover p.table s used craft block after after' r q p.filed
    (rw (same.0, same.1) p'.filed)

-- a refusal changes no byte
block_refused : (found : Result ℕ Refusal) (s : List ℕ) (used craft block n : ℕ) (ten after : List ℕ) (k : Refused)
    → FilesBlock found s used craft block n ten after (Err k) → after ≡ s
unfolding FilesBlock
block_refused (Ok long) s used craft block n ten after k f =
    append-refused s used (offered craft block n ten) after k f
block_refused (Err m) s used craft block n ten after k f = f.kept

pub files-table-refused : (s : List ℕ) (used craft block n : ℕ) (t after : List ℕ) (k : Refused)
    → FilesTable s used craft block n t after (Err k) → after ≡ s
files-table-refused s used craft block n t after k f =
    block_refused f.found s used craft block n f.ten after k f.filed

read-refused : (cover : Result Cover Refusal) (table s : List ℕ) (used craft block : ℕ) (after : List ℕ) (k : Refused)
    → FilesRead cover table s used craft block after (Err k) → after ≡ s
unfolding FilesRead
read-refused (Ok cover) table s used craft block after k f =
    files-table-refused s used craft block cover.n (take cover.used table) after k f
read-refused (Err m) table s used craft block after k f = f.kept

pub files-cover-refused : (s : List ℕ) (used craft block : ℕ) (text after : List ℕ) (k : Refused)
    → FilesCover s used craft block text after (Err k) → after ≡ s
files-cover-refused s used craft block text after k f =
    read-refused f.cover f.table s used craft block after k f.filed

never-unfiled : (k : Refusal) (before after : List ℕ) (longer : ℕ)
    → Unfiled (number_of k) before after (Ok longer) → ⊥
never-unfiled k before after longer u = never-refused (placed 0 longer) (placed 0 0) k u.told

-- a length is told of a block that was matched and appended
pub record Appended (s : List ℕ) (used craft block n : ℕ) (t after : List ℕ) (longer : ℕ) : Type 0 where
  pub long : ℕ
  pub ten : List ℕ
  pub matched : Matched n t ten_zeros ten (Ok long)
  pub appends : Appends s used (offered craft block n ten) after (Ok longer)

block-appended : (found : Result ℕ Refusal) (s : List ℕ) (used craft block n : ℕ) (t ten after : List ℕ) (longer : ℕ)
    → Matched n t ten_zeros ten found → FilesBlock found s used craft block n ten after (Ok longer)
    → Appended s used craft block n t after longer
unfolding FilesBlock
block-appended (Ok long) s used craft block n t ten after longer m f =
    record { long = long; ten = ten; matched = m; appends = f }
block-appended (Err k) s used craft block n t ten after longer m f =
    absurd (never-unfiled k s after longer f)

pub files-appended : (s : List ℕ) (used craft block n : ℕ) (t after : List ℕ) (longer : ℕ)
    → FilesTable s used craft block n t after (Ok longer) → Appended s used craft block n t after longer
files-appended s used craft block n t after longer f =
    block-appended f.found s used craft block n t f.ten after longer f.matched f.filed

-- and of a cover whose table was filed
read-filed : (cover : Result Cover Refusal) (text table s : List ℕ) (used craft block : ℕ) (after : List ℕ) (longer : ℕ)
    → Reads text table_room table cover → FilesRead cover table s used craft block after (Ok longer)
    → FilesTable s used craft block (inputs_of (content_of text)) (cover_table (content_of text)) after
    (Ok longer)
unfolding FilesRead
read-filed (Ok cover) text table s used craft block after longer read f =
    let found = read_table (content_of text) table_room table cover read in
    rw (← found.inputs, ← found.table) f
read-filed (Err k) text table s used craft block after longer read f =
    absurd (never-unfiled k s after longer f)

pub cover-table : (s : List ℕ) (used craft block : ℕ) (text after : List ℕ) (longer : ℕ)
    → FilesCover s used craft block text after (Ok longer)
    → FilesTable s used craft block (inputs_of (content_of text)) (cover_table (content_of text)) after
    (Ok longer)
cover-table s used craft block text after longer f =
    read-filed f.cover text f.table s used craft block after longer f.read f.filed
