-- `wire::read_number` meets its contract. The invariant: the number so far, and the bytes left to read. Assumes nothing.
use lib.ListN.{take}
use Rattle.wire.specs.Numbers.{number_of}
use Rattle.wire.proofs.Numbers.{Left}
use Rattle.wire.proofs.read_number.Given as goal

abbrev pub invariant-loop-byte : goal.invariant-loop-byte
invariant-loop-byte l = Left l.number (take l.byte-iterator.n l.byte-iterator.iter.rest.now) (number_of (take 8 l.bytes))
