-- A seat as text: the word, and the seat's number in decimal digits.
use Rattle.std.specs.Prelude.{List, ◌++◌, ℕ, codes, decimal}

-- the bytes that a seat is printed as
abbrev pub seat_text : ℕ → List ℕ
seat_text seat = codes "seat " ++ decimal seat
