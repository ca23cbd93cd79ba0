-- The bytes of a sheet cut into its records, and put together again. Assumes nothing.
use mathlib.Core.Path.{◌≡◌, refl, sym, ap, ◌∙◌}
use mathlib.Core.List.{List, [], ◌∷◌, ◌++◌, append_assoc}
use Prim.Native.Nat.{ℕ, zero, suc, ◌+◌, ◌*◌, ◌<◌, ◌≤◌}
use native.Mathlib.Nat.{not-suc-le-zero, le_of_suc-le-suc}
use native.Mathlib.Omega.{arith}
use lib.ListN.{length, get_or, take, drop, length-append, length-drop, take-append-drop}
use lib.Seq.{length-take-le, get_or-drop, take_at, drop_at, drop-drop, drop-cons}
use Rattle.bits.specs.Bits.{bytes_of, Bytes}
use Rattle.bits.proofs.FieldLaws.{same_byte}
use Rattle.record.specs.Record.{Record, header_bytes, record_bytes, header_of, lay_out, record_of}
use Rattle.record.specs.Record.{key_of, zero_record}
use Rattle.record.proofs.LayoutLaws.{header-fields}
use Rattle.records.specs.Sheet.{records_in, records_of, sheet_of, bytes_at}
use Rattle.records.proofs.SheetLaws.{records-length, records-at}
use Rattle.chain.proofs.NextLaws.{ruled-length, ruled-again}
use Rattle.chain.proofs.FollowsLaws.{Follows}

-- parts of bytes are bytes
pub bytes_take : (n : ℕ) (s : List ℕ) → Bytes s → Bytes (take n s)
bytes_take zero s bytes k = omega arith
bytes_take (suc n) [] bytes k = omega arith
bytes_take (suc n) (x ∷ s) bytes zero = bytes 0
bytes_take (suc n) (x ∷ s) bytes (suc k) = bytes_take n s (λ i. bytes (suc i)) k

pub bytes_drop : (n : ℕ) (s : List ℕ) → Bytes s → Bytes (drop n s)
bytes_drop n s bytes k = rw (get_or-drop n s k 0) (bytes _)

-- as many bytes as a record has are those of the record in them
module _ (s : List ℕ) where
  four-then : header_bytes ≤ length s
      → get_or s 0 0 ∷ get_or s 1 0 ∷ get_or s 2 0 ∷ get_or s 3 0 ∷ drop header_bytes s ≡ s
  four-then l =
      cc (
        drop-cons s 0 0 (omega arith),
        drop-cons s 1 0 (omega arith),
        drop-cons s 2 0 (omega arith),
        drop-cons s 3 0 (omega arith),
      )

  pub lay_out-record_of : length s ≡ record_bytes → Bytes s → lay_out (record_of s) ≡ s
  unfolding record_of header_of
  lay_out-record_of long bytes =
      ap (λ (fields : List ℕ). bytes_of fields ++ drop header_bytes s) (header-fields s)
      ∙ rw (
        same_byte (get_or s 0 0) (bytes 0),
        same_byte (get_or s 1 0) (bytes 1),
        same_byte (get_or s 2 0) (bytes 2),
        same_byte (get_or s 3 0) (bytes 3),
      )
      (four-then (omega arith))

pub records-bytes : (s : List ℕ) → Bytes s → (i : ℕ) → i < length (records_of s)
    → Bytes (get_or (records_of s) i zero_record).ten
unfolding record_of
records-bytes s bytes i l =
    let cut = drop (i * record_bytes) s in
    rw (records-at s i zero_record (rw (records-length s) at l))
    (bytes_drop header_bytes (take record_bytes cut)
    (bytes_take record_bytes cut (bytes_drop (i * record_bytes) s bytes)))

pub sheet_of-in : (count : ℕ) (s : List ℕ) → length s ≡ count * record_bytes → Bytes s
    → sheet_of (records_in count s) ≡ s
sheet_of-in zero [] e bytes = refl
sheet_of-in zero (x ∷ s) e bytes = absurd (omega arith)
sheet_of-in (suc count) s e bytes =
    let shorter : length (drop record_bytes s) ≡ count * record_bytes =
    rw (length-drop record_bytes s) (omega arith) in
    let first : length (take record_bytes s) ≡ record_bytes = length-take-le record_bytes s (omega arith) in
    rw (
      lay_out-record_of (take record_bytes s) first (bytes_take record_bytes s bytes),
      sheet_of-in count (drop record_bytes s) shorter (bytes_drop record_bytes s bytes),
    )
    (take-append-drop record_bytes s)

pub sheet_of-length : (last : List ℕ) (rs : List Record) → Follows last rs
    → length (sheet_of rs) ≡ length rs * record_bytes
sheet_of-length last [] h = refl
sheet_of-length last (r ∷ rs) h =
    rw (
      length-append (lay_out r) (sheet_of rs),
      ruled-length r h.0.ruled,
      sheet_of-length (key_of r) rs h.1,
    )
    (omega arith)

pub in-sheet_of : (last : List ℕ) (rs : List Record) → Follows last rs
    → records_in (length rs) (sheet_of rs) ≡ rs
in-sheet_of last [] h = refl
in-sheet_of last (r ∷ rs) h =
    let long = ruled-length r h.0.ruled in
    rw (
      take_at (lay_out r) (sheet_of rs) record_bytes long,
      drop_at (lay_out r) (sheet_of rs) record_bytes long,
      ruled-again r h.0.ruled,
      in-sheet_of (key_of r) rs h.1,
    )

-- the bytes at a place are those of the record there
pub sheet_of-at : (last : List ℕ) (rs : List Record) → Follows last rs → (i : ℕ) → i < length rs
    → bytes_at (sheet_of rs) i ≡ lay_out (get_or rs i zero_record)
sheet_of-at last [] h i l = absurd (not-suc-le-zero l)
sheet_of-at last (r ∷ rs) h zero l =
    take_at (lay_out r) (sheet_of rs) record_bytes (ruled-length r h.0.ruled)
sheet_of-at last (r ∷ rs) h (suc i) l =
    let further : record_bytes + i * record_bytes ≡ suc i * record_bytes = omega arith in
    rw (
      ← further,
      ← drop-drop (i * record_bytes) record_bytes (sheet_of (r ∷ rs)),
      drop_at (lay_out r) (sheet_of rs) record_bytes (ruled-length r h.0.ruled),
    )
    (sheet_of-at (key_of r) rs h.1 i (le_of_suc-le-suc l))

pub sheet_of-append : (rs qs : List Record) → sheet_of (rs ++ qs) ≡ sheet_of rs ++ sheet_of qs
sheet_of-append [] qs = refl
sheet_of-append (r ∷ rs) qs =
    rw (sheet_of-append rs qs) (sym (append_assoc (lay_out r) (sheet_of rs) (sheet_of qs)))
