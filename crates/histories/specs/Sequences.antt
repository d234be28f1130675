-- Calls that the host wants to make, and the chains and histories that are of exactly these calls.
use Rattle.std.specs.Prelude.{List, [], ◌∷◌, ◌≡◌, ℕ}
use Rattle.rules.specs.Call.{Call, FieldsFit}
use Rattle.rules.specs.History.{Event}
use Rattle.histories.specs.Lent.{Lent, lent_with}
use Rattle.histories.specs.History.{AnyChain, Chain, AnyCalls, History, calls_of}

-- ---- the calls

-- each arrival is by a key of 32 bytes, and each tick brings a time and a number of 8 bytes
abbrev pub AllFieldsFit : List Call → Type 0
AllFieldsFit [] = Unit {0}
AllFieldsFit (call ∷ calls) = FieldsFit call × AllFieldsFit calls

-- a call, and the output that the host has for it
pub record CallMade : Type 0 where
  pub call : Call
  pub out : List ℕ

unfoldable pub lents_to : List CallMade → List Lent
lents_to [] = []
lents_to (m ∷ made) = lent_with m.call m.out ∷ lents_to made

unfoldable pub calls_made : List CallMade → List Call
calls_made [] = []
calls_made (m ∷ made) = m.call ∷ calls_made made

-- ---- chains and histories of these calls

-- a chain with these calls and outputs
pub record AnyChainOf (s n : ℕ) (b : List ℕ) (made : List CallMade) : Type 0 where
  pub events : List Event
  pub left : List ℕ
  pub chain : AnyChain s n b (lents_to made) events left
  pub are : calls_of events ≡ calls_made made

-- a chain with these calls
pub record ChainOf (s n : ℕ) (b : List ℕ) (calls : List Call) : Type 0 where
  pub events : List Event
  pub left : List ℕ
  pub chain : Chain s n b events left
  pub are : calls_of events ≡ calls

-- any calls from the empty room, these with these outputs
pub record AnyCallsOf (s n : ℕ) (made : List CallMade) : Type 0 where
  pub events : List Event
  pub left : List ℕ
  pub calls : AnyCalls s n (lents_to made) events left
  pub are : calls_of events ≡ calls_made made

-- a history with these calls
pub record HistoryOf (s n : ℕ) (calls : List Call) : Type 0 where
  pub events : List Event
  pub left : List ℕ
  pub history : History s n events left
  pub are : calls_of events ≡ calls
