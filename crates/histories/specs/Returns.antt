-- What is said of an arrival of a key that is seated, next to a Leave and an Arrive made as two calls in its place: document 02, "an arrival of a seated key
-- has the outcome of the two calls in that order, notices and all".
use Rattle.std.specs.Prelude.{List, ◌++◌, ◌≡◌, ℕ, ◌+◌}
use Rattle.rules.specs.Call.{accepted}
use Rattle.rules.specs.History.{Event}

-- an arrival, seen as e, leaves b'; a Leave of `seat`, seen as e₁, and then an Arrive, seen as e₂, leave b''. The bytes of the room are the same, and so are
-- the records, in order, and the seat; the byte count is that of both
pub record AsTwoCalls (seat : ℕ) (e e₁ e₂ : Event) (b' b'' : List ℕ) : Type 0 where
  pub room : b' ≡ b''
  pub records : e.sent ≡ e₁.sent ++ e₂.sent
  pub taken : ℕ
  pub count₁ : ℕ
  pub count₂ : ℕ
  pub left : e₁.answer ≡ accepted seat count₁
  pub arrived : e₂.answer ≡ accepted taken count₂
  pub returned : e.answer ≡ accepted taken (count₁ + count₂)
