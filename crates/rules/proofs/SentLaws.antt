-- How many bytes records take in the output: three before each packet, and those of a run of records are the sum. Assumes nothing.
use mathlib.Core.Path.{◌≡◌, sym, ap, ◌∙◌}
use mathlib.Core.List.{List, [], ◌∷◌, ◌++◌}
use Prim.Native.Nat.{ℕ, ◌+◌}
use native.Mathlib.Nat.{zero-add}
use native.Mathlib.Omega.{arith}
use lib.ListN.{length, length-append}
use Rattle.wire.specs.Numbers.{bytes_of}
use Rattle.wire.proofs.Numbers.{length_bytes_of}
use Rattle.rules.specs.Call.{Sent}
use Rattle.rules.specs.Outcome.{record_bytes, sent_bytes}

pub count_record : (s : Sent) → length (record_bytes s) ≡ 3 + length s.bytes
unfolding record_bytes
count_record s = rw (length-append (bytes_of 2 (length s.bytes)) s.bytes, length_bytes_of 2 (length s.bytes)) (omega arith)

pub count_more : (s : Sent) (rest : List Sent) → length (sent_bytes (s ∷ rest)) ≡ 3 + length s.bytes + length (sent_bytes rest)
unfolding sent_bytes
count_more s rest = length-append (record_bytes s) (sent_bytes rest) ∙ ap (λ (n : ℕ). n + length (sent_bytes rest)) (count_record s)

-- one record
pub count_one : (s : Sent) → length (sent_bytes (s ∷ [])) ≡ 3 + length s.bytes
unfolding sent_bytes
count_one s = count_more s [] ∙ omega arith

-- lists of records as long as each other
pub count_same : (s s' : Sent) (rest rest' : List Sent) → length s.bytes ≡ length s'.bytes → length (sent_bytes rest) ≡ length (sent_bytes rest')
    → length (sent_bytes (s ∷ rest)) ≡ length (sent_bytes (s' ∷ rest'))
count_same s s' rest rest' e e' = count_more s rest ∙ rw (e, e') (sym (count_more s' rest'))

pub count_append : (a b : List Sent) → length (sent_bytes (a ++ b)) ≡ length (sent_bytes a) + length (sent_bytes b)
unfolding sent_bytes
count_append [] b = sym (zero-add (length (sent_bytes b)))
count_append (s ∷ a) b = count_more s (a ++ b) ∙ rw (count_append a b, count_more s a) (omega arith)
