-- What the test of a list in lent bytes answers: of memory too short no more than its first byte is judged. Cited by private functions alone.
use Rattle.std.specs.Prelude.{cond, List, ℕ, leb, length, Result, Err}
use Rattle.refusal.specs.declared.Refusal.{Refusal}
use Rattle.nearest.specs.Calls.{checked}
use Rattle.lent_list_laws.specs.Layout.{list_length, list_at}
use Rattle.lent_list_laws.specs.Calls.{short_refusal}

unfoldable pub standing : List ℕ → Result (Unit {0}) Refusal
standing memory = cond (leb list_length (length memory)) (checked (list_at memory)) (Err (short_refusal memory))
