-- Nearest lists as the host keeps them: what `banavoge_nearest_begin` leaves of any memory, then calls of `banavoge_nearest_offer`, `banavoge_nearest_remove` and
-- `banavoge_nearest_node`, each given the memory that the last one left. A step is the relation that the contract of the export states, and is seen by the number
-- that it answers; a held node that is read is seen by what the caller's places hold then.
use Rattle.std.specs.Prelude.{List, [], ◌∷◌, ◌++◌, ◌≡◌, ℕ, ◌≤◌, ◌<◌, ℤ, pos, negsuc, length, get_or}
use Rattle.refusal.specs.declared.Refusal.TheVariants.{ListSize, ListNotWhole}
use Rattle.key.specs.declared.Key.{Key}
use Rattle.node.specs.declared.Node.{Node}
use Rattle.node.specs.Values.{blank_node}
use Rattle.nearest.specs.declared.NearestList.{NearestList}
use Rattle.nearest.specs.Lists.{default_size, empty_of}
use Rattle.nearest.specs.Calls.{checked, offered, removed}
use Rattle.nearest.specs.Sequence.{Nearest}
use Rattle.lent_list_laws.specs.Layout.{list_length, list_at, Fits}
use Rattle.lent_list_laws.specs.Calls.{Begins, Offers, Removes}
use Rattle.lent_list.specs.Held.{held_at}
use Rattle.lent_list.specs.Held as lent
use Rattle.banavoge_laws.specs.Answers.{refusal_code, ToldAs}
use Rattle.banavoge_laws.specs.Nodes.{node_given}
use Rattle.banavoge_laws.specs.Nearest.{done_code, kept_code, held_code, HeldPlaces, held_places, ShowsHeld}
use Rattle.banavoge_laws.specs.Nearest as told

-- ---- one call

-- a node is read at an index, with what stands in the caller's places
pub data ListCall : Type 0 where
  offering : Node → ListCall
  removing : Key → ListCall
  reading : ℕ → HeldPlaces → ListCall

-- the call, the number answered, and the caller's places afterwards; a call that is handed none has `no_held`
pub record ListEvent : Type 0 where
  pub call : ListCall
  pub number : ℤ
  pub places : HeldPlaces

abbrev pub list_event : ListCall → ℤ → HeldPlaces → ListEvent
list_event call number places = record { call = call; number = number; places = places }

abbrev pub no_held : HeldPlaces
no_held = held_places 0 [] 0 []

-- on the memory m: it leaves m' and is seen as e
pub data ListStep (m : List ℕ) (e : ListEvent) (m' : List ℕ) : Type 0 where
  offers : (n : Node) (number : ℤ) → ToldAs kept_code (Offers n m m') number → e ≡ list_event (offering n) number no_held → ListStep m e m'
  removes : (key : Key) (number : ℤ) → ToldAs done_code (Removes key m m') number → e ≡ list_event (removing key) number no_held → ListStep m e m'
  reads : (index : ℕ) (number : ℤ) (before after : HeldPlaces) → ShowsHeld (held_at m index) number before after → m' ≡ m
      → e ≡ list_event (reading index before) number after → ListStep m e m'

-- ---- one after the other

pub data ListChain : List ℕ → List ListEvent → List ℕ → Type 0 where
  none : {m : List ℕ} → ListChain m [] m
  next : {m m₁ m' : List ℕ} {e : ListEvent} {events : List ListEvent} → ListStep m e m₁ → ListChain m₁ events m' → ListChain m (e ∷ events) m'

-- what `banavoge_nearest_begin` leaves of some memory: a list of the size asked for where it answers 0. "A list begun with a bad size is refused, and what comes
-- back is the empty list of size 8 for that target", in memory long enough
pub data ListBegun (target : Key) : ℕ → List ℕ → Type 0 where
  of_size : {size : ℕ} {m : List ℕ} (memory : List ℕ) → ToldAs done_code (Begins target size memory m) (pos 0) → ListBegun target size m
  of_bad_size : {m : List ℕ} (asked : ℕ) (memory : List ℕ) → list_length ≤ length memory → ToldAs done_code (Begins target asked memory m) (refusal_code ListSize)
      → ListBegun target default_size m

-- any calls on a list from its beginning on
pub record ListHistory (target : Key) (size : ℕ) (events : List ListEvent) (m' : List ℕ) : Type 0 where
  pub memory : List ℕ
  pub begun : ListBegun target size memory
  pub chain : ListChain memory events m'

unfoldable pub list_calls : List ListEvent → List ListCall
list_calls [] = []
list_calls (e ∷ events) = e.call ∷ list_calls events

-- nodes with fields as the types of the parameters have them
abbrev pub FitsCalls : List ListCall → Type 0
FitsCalls [] = Unit {0}
FitsCalls (offering n ∷ calls) = Fits n × FitsCalls calls
FitsCalls (removing key ∷ calls) = FitsCalls calls
FitsCalls (reading index before ∷ calls) = FitsCalls calls

-- a list's history of given calls
pub record ListHistoryOf (target : Key) (size : ℕ) (calls : List ListCall) : Type 0 where
  pub seen_as : List ListEvent
  pub left : List ℕ
  pub history : ListHistory target size seen_as left
  pub are : list_calls seen_as ≡ calls

-- ---- document 01's steps for these calls, on a list by value

unfoldable pub list_after : NearestList → ListCall → NearestList
list_after l (offering n) = (offered l n).list
list_after l (removing key) = (removed l key).list
list_after l (reading index before) = l

unfoldable pub event_of : NearestList → ListCall → ListEvent
event_of l (offering n) = list_event (offering n) (kept_code (offered l n).answer) no_held
event_of l (removing key) = list_event (removing key) (done_code (removed l key).answer) no_held
event_of l (reading index before) =
    let shown = lent.held_after (checked l) l index in list_event (reading index before) (held_code shown) (told.held_after shown before)

unfoldable pub list_events : NearestList → List ListCall → List ListEvent
list_events l [] = []
list_events l (call ∷ calls) = event_of l call ∷ list_events (list_after l call) calls

unfoldable pub list_after_all : NearestList → List ListCall → NearestList
list_after_all l [] = l
list_after_all l (call ∷ calls) = list_after_all (list_after l call) calls

-- what the host sees is these steps from the empty list, and the memory holds the list that they leave
pub record ListSteps (target : Key) (size : ℕ) (events : List ListEvent) (m' : List ℕ) : Type 0 where
  pub events_are : events ≡ list_events (empty_of target size) (list_calls events)
  pub list_is : list_at m' ≡ list_after_all (empty_of target size) (list_calls events)

-- ---- a list that was begun keeps its rules: no call on it gets 12 or 14

abbrev pub NeverBroken : List ListEvent → Type 0
NeverBroken [] = Unit {0}
NeverBroken (e ∷ events) = (e.number ≡ refusal_code ListSize → ⊥) × (e.number ≡ refusal_code ListNotWhole → ⊥) × NeverBroken events

-- ---- the k nearest: "Begun empty and with nothing removed, a list of size k holds the k XOR-nearest keys offered without refusal, each with its last node so offered,
-- or all when fewer."

-- "with nothing removed", by the numbers answered: a removal that is refused takes nothing out
abbrev pub TakesNothingOut : ListCall → ℤ → Type 0
TakesNothingOut (offering n) number = Unit {0}
TakesNothingOut (removing key) (pos done) = ⊥
TakesNothingOut (removing key) (negsuc less) = Unit {0}
TakesNothingOut (reading index before) number = Unit {0}

abbrev pub NothingRemoved : List ListEvent → Type 0
NothingRemoved [] = Unit {0}
NothingRemoved (e ∷ events) = TakesNothingOut e.call e.number × NothingRemoved events

-- "offered without refusal", by the number that the offer was answered with
unfoldable pub offered_by : ListCall → ℤ → List Node
offered_by (offering n) (pos answer) = n ∷ []
offered_by (offering n) (negsuc less) = []
offered_by (removing key) number = []
offered_by (reading index before) number = []

unfoldable pub offered_in : List ListEvent → List Node
offered_in [] = []
offered_in (e ∷ events) = offered_by e.call e.number ++ offered_in events

-- what `banavoge_nearest_node` reads back of the memory: at each index one of these nodes, in their order, as the fields that an offer is given make it; and 0
-- behind the last
pub record ReadsBack (m : List ℕ) (nodes : List Node) : Type 0 where
  pub shown : (index : ℕ) (number : ℤ) (before after : HeldPlaces) → ShowsHeld (held_at m index) number before after → index < length nodes
      → (number ≡ pos 1) × (node_given after.family after.address after.port after.key ≡ get_or nodes index blank_node)
  pub ended : (index : ℕ) (number : ℤ) (before after : HeldPlaces) → ShowsHeld (held_at m index) number before after → length nodes ≤ index
      → (number ≡ pos 0) × (after ≡ before)

-- what is read back is the k nearest of the nodes offered
pub record HoldsNearest (target : Key) (k : ℕ) (news : List Node) (m : List ℕ) : Type 0 where
  pub nodes : List Node
  pub nearest : Nearest target.0 k news nodes
  pub back : ReadsBack m nodes
