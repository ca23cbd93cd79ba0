-- A four-pin table's tidy choice is a set of at most four variables. There are 256 such sets for nine
-- variables (document 01, "Ten bytes"). A set is a mask here: variable v is in mask m when bit v of m
-- is 1. Assumes nothing.
use Rattle.std.specs.Prelude.{ℕ, zero, suc, ◌<◌, ◌≤◌, ◌^◌, ◌≡◌, Bool, true, false, List, [], ◌∷◌, ◌++◌, length, get_or, take, replicate}
use Rattle.bits.specs.Bits.{has, joined}
use Rattle.bits.specs.Tests.{every}
use Rattle.block.specs.Block.{open_field}
use Rattle.block.specs.Table.{most_inputs}
use Rattle.block.specs.Tidy.{field_fits, ordered}

-- v before the others if the test holds
abbrev pub cons_if : Bool → ℕ → List ℕ → List ℕ
cons_if true v others = v ∷ others
cons_if false v others = others

-- of the variables from v on, count of them, those in the mask m, ascending
unfoldable pub variables_from : ℕ → ℕ → ℕ → List ℕ
variables_from zero v m = []
variables_from (suc count) v m = cons_if (has m v) v (variables_from count (suc v) m)

-- the variables of a mask, ascending
unfoldable pub variables_in : ℕ → List ℕ
variables_in m = variables_from most_inputs 0 m

-- the four pins of a mask: its variables, ascending, then open pins
unfoldable pub pins_of_mask : ℕ → List ℕ
pins_of_mask m = take 4 (variables_in m ++ replicate 4 open_field)

-- the four fields as one number, so that byte order is the order of numbers
unfoldable pub key_of : ℕ → ℕ
key_of m = joined 0 (pins_of_mask m)

-- a set of at most four of the nine variables
pub record Small (m : ℕ) : Type 0 where
  pub nine : m < 2 ^ most_inputs
  pub four : length (variables_in m) ≤ 4

-- this list, each set once, in byte order of the four fields
pub record Rule (t : List ℕ) : Type 0 where
  pub count : length t ≡ 256
  pub sound : (k : ℕ) → k < 256 → Small (get_or t k 0)
  pub order : (i j : ℕ) → i < j → j < 256 → key_of (get_or t i 0) < key_of (get_or t j 0)
  pub complete : (m : ℕ) → Small m → (k : ℕ) × (k < 256) × (get_or t k 0 ≡ m)

-- a tidy choice of the pins of one table: four, each carried or open, in order
pub record TidyChoice (pins : List ℕ) : Type 0 where
  pub four : length pins ≡ 4
  pub fields : every (field_fits most_inputs) pins ≡ true
  pub order : ordered pins ≡ true

-- the table
unfoldable pub masks : List ℕ
masks =
    15 ∷ 23 ∷ 39 ∷ 71 ∷ 135 ∷ 263 ∷ 7 ∷ 27 ∷ 43 ∷ 75 ∷ 139 ∷ 267 ∷ 11 ∷ 51 ∷ 83 ∷ 147
    ∷ 275 ∷ 19 ∷ 99 ∷ 163 ∷ 291 ∷ 35 ∷ 195 ∷ 323 ∷ 67 ∷ 387 ∷ 131 ∷ 259 ∷ 3 ∷ 29 ∷ 45 ∷ 77
    ∷ 141 ∷ 269 ∷ 13 ∷ 53 ∷ 85 ∷ 149 ∷ 277 ∷ 21 ∷ 101 ∷ 165 ∷ 293 ∷ 37 ∷ 197 ∷ 325 ∷ 69 ∷ 389
    ∷ 133 ∷ 261 ∷ 5 ∷ 57 ∷ 89 ∷ 153 ∷ 281 ∷ 25 ∷ 105 ∷ 169 ∷ 297 ∷ 41 ∷ 201 ∷ 329 ∷ 73 ∷ 393
    ∷ 137 ∷ 265 ∷ 9 ∷ 113 ∷ 177 ∷ 305 ∷ 49 ∷ 209 ∷ 337 ∷ 81 ∷ 401 ∷ 145 ∷ 273 ∷ 17 ∷ 225 ∷ 353
    ∷ 97 ∷ 417 ∷ 161 ∷ 289 ∷ 33 ∷ 449 ∷ 193 ∷ 321 ∷ 65 ∷ 385 ∷ 129 ∷ 257 ∷ 1 ∷ 30 ∷ 46 ∷ 78
    ∷ 142 ∷ 270 ∷ 14 ∷ 54 ∷ 86 ∷ 150 ∷ 278 ∷ 22 ∷ 102 ∷ 166 ∷ 294 ∷ 38 ∷ 198 ∷ 326 ∷ 70 ∷ 390
    ∷ 134 ∷ 262 ∷ 6 ∷ 58 ∷ 90 ∷ 154 ∷ 282 ∷ 26 ∷ 106 ∷ 170 ∷ 298 ∷ 42 ∷ 202 ∷ 330 ∷ 74 ∷ 394
    ∷ 138 ∷ 266 ∷ 10 ∷ 114 ∷ 178 ∷ 306 ∷ 50 ∷ 210 ∷ 338 ∷ 82 ∷ 402 ∷ 146 ∷ 274 ∷ 18 ∷ 226 ∷ 354
    ∷ 98 ∷ 418 ∷ 162 ∷ 290 ∷ 34 ∷ 450 ∷ 194 ∷ 322 ∷ 66 ∷ 386 ∷ 130 ∷ 258 ∷ 2 ∷ 60 ∷ 92 ∷ 156
    ∷ 284 ∷ 28 ∷ 108 ∷ 172 ∷ 300 ∷ 44 ∷ 204 ∷ 332 ∷ 76 ∷ 396 ∷ 140 ∷ 268 ∷ 12 ∷ 116 ∷ 180 ∷ 308
    ∷ 52 ∷ 212 ∷ 340 ∷ 84 ∷ 404 ∷ 148 ∷ 276 ∷ 20 ∷ 228 ∷ 356 ∷ 100 ∷ 420 ∷ 164 ∷ 292 ∷ 36 ∷ 452
    ∷ 196 ∷ 324 ∷ 68 ∷ 388 ∷ 132 ∷ 260 ∷ 4 ∷ 120 ∷ 184 ∷ 312 ∷ 56 ∷ 216 ∷ 344 ∷ 88 ∷ 408 ∷ 152
    ∷ 280 ∷ 24 ∷ 232 ∷ 360 ∷ 104 ∷ 424 ∷ 168 ∷ 296 ∷ 40 ∷ 456 ∷ 200 ∷ 328 ∷ 72 ∷ 392 ∷ 136 ∷ 264
    ∷ 8 ∷ 240 ∷ 368 ∷ 112 ∷ 432 ∷ 176 ∷ 304 ∷ 48 ∷ 464 ∷ 208 ∷ 336 ∷ 80 ∷ 400 ∷ 144 ∷ 272 ∷ 16
    ∷ 480 ∷ 224 ∷ 352 ∷ 96 ∷ 416 ∷ 160 ∷ 288 ∷ 32 ∷ 448 ∷ 192 ∷ 320 ∷ 64 ∷ 384 ∷ 128 ∷ 256 ∷ 0
    ∷ []
