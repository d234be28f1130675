-- A connection number as text: the word, and the number in decimal digits.
use Rattle.std.specs.Prelude.{List, ◌++◌, ℕ, codes, decimal}

-- the bytes that a connection number is printed as
abbrev pub number_text : ℕ → List ℕ
number_text number = codes "number " ++ decimal number
