-- Document 01, "Relay packets": the table of kinds, and each check as a test of its own.
use Rattle.std.specs.Prelude.{Bool, true, ◌&&◌, ◌||◌, not, cond, List, ℕ, eqb, leb, length, get_or, take, drop}
use Rattle.wire.specs.Numbers.{number_of}
use Rattle.refusal.specs.declared.Refusal.TheVariants.{PacketSize, UnexpectedKind, WrongLength, ZeroPing}
use Rattle.packet_laws.specs.Read.{Read, check}

-- the lowest connection number, and so the lowest kind of a data packet
abbrev pub first_number : ℕ
first_number = 16

-- the bytes of a kind and a key: a routing request has these alone, and an out-of-band payload begins behind them
abbrev pub kind_and_key : ℕ
kind_and_key = 33

-- with one byte more: those of a routing response, and the fewest of an out-of-band packet
abbrev pub kind_key_and_byte : ℕ
kind_key_and_byte = 34

-- the first byte of a packet, and the bytes after it
unfoldable pub kind_of : List ℕ → ℕ
kind_of bytes = get_or bytes 0 0

unfoldable pub body_of : List ℕ → List ℕ
body_of bytes = drop 1 bytes

-- 4: "A packet has 1 to 2,032 bytes"
unfoldable pub size_right : ℕ → Bool
size_right n = leb 1 n && leb n 2032

-- 5: "The relay's reader gives 5 for kinds 1, 2, 7 to 9 and 10 to 15": it takes what the table's second column has the client send
unfoldable pub relay_takes : ℕ → Bool
relay_takes kind = eqb kind 0 || (eqb kind 3 || (eqb kind 4 || (eqb kind 5 || (eqb kind 6 || leb first_number kind))))

-- 5: "The laptop's reader gives 5 for kinds 0, 6, 8, 9 and 10 to 15": it takes what the second column has the relay send
unfoldable pub client_takes : ℕ → Bool
client_takes kind = eqb kind 1 || (eqb kind 2 || (eqb kind 3 || (eqb kind 4 || (eqb kind 5 || (eqb kind 7 || leb first_number kind)))))

-- 6: the table's last column; a data packet's upper bound is 4's. Kinds 8 to 15 fall to the last row, and no end takes them
unfoldable pub length_right : ℕ → ℕ → Bool
length_right kind n =
    cond (eqb kind 0) (eqb n kind_and_key)
    (cond (eqb kind 1) (eqb n kind_key_and_byte)
    (cond (eqb kind 2 || eqb kind 3) (eqb n 2)
    (cond (eqb kind 4 || eqb kind 5) (eqb n 9)
    (cond (eqb kind 6 || eqb kind 7) (leb kind_key_and_byte n && leb n 1057)
    (leb 2 n)))))

-- 7: "8-byte ping number, not 0"
unfoldable pub ping_right : ℕ → List ℕ → Bool
ping_right kind body = cond (eqb kind 4 || eqb kind 5) (not (eqb (number_of (take 8 body)) 0)) true

-- 8: "It gives 8 for an answer with number 1 to 15 and for kinds 2 and 3 with a number below 16."
unfoldable pub number_right : ℕ → ℕ → Bool
number_right kind number =
    cond (eqb kind 1) (eqb number 0 || leb first_number number)
    (cond (eqb kind 2 || eqb kind 3) (leb first_number number) true)

-- "Checks go in the order 4, 5, 6, 7, 8": those that both ends make, of a packet at the end that takes such kinds, and then what comes after
unfoldable pub checked : {A : Type 0} → (ℕ → Bool) → List ℕ → Read A → Read A
checked takes bytes after =
    check (size_right (length bytes)) PacketSize
    (check (takes (kind_of bytes)) UnexpectedKind
    (check (length_right (kind_of bytes) (length bytes)) WrongLength
    (check (ping_right (kind_of bytes) (body_of bytes)) ZeroPing after)))
