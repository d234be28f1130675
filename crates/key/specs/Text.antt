-- A key as text: the word, its first eight bytes in hexadecimal digits, and two dots for the bytes that are not shown.
use Rattle.std.specs.Prelude.{List, [], ◌∷◌, ◌++◌, ℕ, ◌/◌, ◌%◌, false, codes, take}
use Rattle.std.specs.Fmt.{digit_glyph}
use Rattle.std.specs.List.{flat_map}

-- a byte in two hexadecimal digits, `0` to `9` and `a` to `f`, the higher first
abbrev pub two_digits : ℕ → List ℕ
two_digits byte = digit_glyph false (byte / 16) ∷ digit_glyph false (byte % 16) ∷ []

-- the bytes that a key is printed as
abbrev pub key_text : List ℕ → List ℕ
key_text key = codes "key " ++ flat_map two_digits (take 8 key) ++ codes ".."
