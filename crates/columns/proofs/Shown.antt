-- The line of that record is these bytes, and they are read back, by computing. Assumes nothing.
use mathlib.Core.Path.{refl}
use Rattle.block.specs.Kind.{carries, letter_of, digit_of, type_of}
use Rattle.codec.specs.Ten.{unpack_of}
use Rattle.words.specs.Text.{lines_of, uncommented, runs_of, words_of, content_of}
use Rattle.digits.specs.Digits.{digit_code, hexadecimal, decimal_in, decimal, column}
use Rattle.digits.specs.Spelled.{number_after, digit_value, bytes_in}
use Rattle.text.specs.Line.{block_line}
use Rattle.columns.specs.Columns.{number_cells, record_line}
use Rattle.columns.specs.Back.{record_in}
use Rattle.columns.specs.Worked.{Worked}

pub worked : Worked
unfolding record_line number_cells block_line column decimal decimal_in hexadecimal digit_code type_of letter_of
    digit_of carries unpack_of content_of lines_of words_of uncommented runs_of record_in number_after bytes_in
    digit_value
worked = record { written = refl; records = refl; places = refl }
