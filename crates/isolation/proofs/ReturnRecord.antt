-- A client that comes back, as others see it: document 02, "The departure and arrival both stand in the record for C." For every client but the one that comes back,
-- the record of a history is that of the history with Leave and Arrive in its place; and so are the packets that it is handed and the answers to its calls. From
-- any whole room with a past that says what its tables say, and from the empty room. Assumes nothing.
use mathlib.Core.Path.{◌≡◌, ap, subst, ◌∙◌}
use mathlib.Core.Bool.{false}
use mathlib.Core.List.{List, [], ◌∷◌, ◌++◌}
use Prim.Native.Nat.{ℕ}
use Rattle.key.specs.Keys.{same_key}
use Rattle.rules.specs.Room.{Sizes, Key, vacant, Room, empty_room, set_seat, none, at, find, seat_of}
use Rattle.rules.specs.Whole.{Whole}
use Rattle.rules.specs.Call.{Call, arrive, leave, Answer, Sent}
use Rattle.rules.specs.Outcome.{Outcome, outcome, room_after, apply, apply_all, accept, tell_peers, seat_emptied, seat_taken}
use Rattle.rules.specs.History.{event, transcript, happens}
use Rattle.rules.specs.Transcript.{Past, client_of, is_client, Start, from_empty, maker, sitter}
use Rattle.rules.specs.After.{past_after, client_in, Tied}
use Rattle.isolation.specs.Record.{Entry, arrived, departed, entry_if, by_key, other_call, if_accepted, made_by, entries_by, entries, record_for, handed, packets_for, answer_if, answers_for, SameFor}
use Rattle.rules.proofs.Whole.{key_found, left_nowhere, whole_after, whole_empty}
use Rattle.rules.proofs.ComesBack.{held, sits_there, some_empty, comes_back_to, left_whole, leaves_first, takes_then}
use Rattle.rules.proofs.SeatedLaws.{is_found, seated_found}
use Rattle.rules.proofs.Tied.{tied_after, tied_empty, seat_holds}
use Rattle.isolation.proofs.OneCall.{made}
use Rattle.isolation.proofs.ByTables.{same_by_tables}

module _ (sizes : Sizes) (start : Start) (past : Past) (room : Room) (whole : Whole sizes room) (tie : Tied start past room) (key : Key) (seat : ℕ)
    (found : find (seat_of key) room.seats ≡ at seat) where
  -- the room once the client has left, its lowest empty seat, and what the peers are told
  abbrev left : Room
  left = set_seat room seat vacant

  abbrev place : ℕ
  place = (some_empty room key seat found).place

  abbrev tells : List Sent
  tells = tell_peers room seat key (held room key seat found).routes

  -- the arrival, and the Leave and the Arrive in its place
  abbrev back : Outcome
  back = accept place (seat_emptied seat ∷ seat_taken place key ∷ []) tells

  abbrev leaves : Outcome
  leaves = accept seat (seat_emptied seat ∷ []) tells

  abbrev takes : Outcome
  takes = accept place (seat_taken place key ∷ []) []

  is_back : outcome room (arrive key) ≡ back
  is_back = comes_back_to room key seat found place (some_empty room key seat found).lowest

  is_leaves : outcome room (leave seat) ≡ leaves
  is_leaves = leaves_first room key seat found

  nowhere : find (seat_of key) left.seats ≡ none
  nowhere = left_nowhere sizes room whole key seat found

  is_takes : outcome left (arrive key) ≡ takes
  is_takes = takes_then room key seat found sizes whole place (some_empty room key seat found).lowest

  -- both end in one room
  abbrev next : Room
  next = room_after sizes left takes

  tied_back : Tied start (made (arrive key) back ∷ past) next
  unfolding event accept room_after apply_all apply
  tied_back = subst (λ (o : Outcome). Tied start (made (arrive key) o ∷ past) (room_after sizes room o)) is_back (tied_after sizes start past room whole tie (arrive key))

  tied_left : Tied start (made (leave seat) leaves ∷ past) left
  unfolding event accept room_after apply_all apply
  tied_left = subst (λ (o : Outcome). Tied start (made (leave seat) o ∷ past) (room_after sizes room o)) is_leaves (tied_after sizes start past room whole tie (leave seat))

  whole_left : Whole sizes left
  whole_left = left_whole room key seat found sizes whole

  tied_taken : Tied start (made (arrive key) takes ∷ made (leave seat) leaves ∷ past) next
  unfolding event
  tied_taken =
      subst (λ (o : Outcome). Tied start (made (arrive key) o ∷ made (leave seat) leaves ∷ past) (room_after sizes left o)) is_takes (tied_after sizes start (made (leave seat) leaves ∷ past) left whole_left tied_left (arrive key))

  whole_next : Whole sizes next
  whole_next = subst (λ (o : Outcome). Whole sizes (room_after sizes left o)) is_takes (whole_after sizes left whole_left (arrive key))

  sits_here : sitter start past seat ≡ client_of key
  unfolding client_in
  sits_here = tie.sits seat ∙ ap client_in (sits_there room key seat found)

  -- what each adds to the record for another client
  module _ (c : Key) (else : same_key key c ≡ false) where
    back_adds : entries start past c (made (arrive key) back) ≡ departed key ∷ arrived key ∷ []
    unfolding entries entries_by maker made_by by_key entry_if if_accepted other_call accept is_found
    back_adds = rw (else, seated_found start past room tie key, found)

    leave_adds : entries start past c (made (leave seat) leaves) ≡ departed key ∷ []
    unfolding entries entries_by maker made_by by_key if_accepted other_call accept
    leave_adds = rw (sits_here, else)

    take_adds : entries start (made (leave seat) leaves ∷ past) c (made (arrive key) takes) ≡ arrived key ∷ []
    unfolding entries entries_by maker made_by by_key entry_if if_accepted other_call accept is_found
    take_adds = rw (else, seated_found start (made (leave seat) leaves ∷ past) left tied_left key, nowhere)

    -- so do the two in turn what the one does, whatever comes later
    two_for_one : (calls : List Call)
        → SameFor c start past (made (arrive key) back ∷ transcript sizes next calls) start past (made (leave seat) leaves ∷ made (arrive key) takes ∷ transcript sizes next calls)
    unfolding record_for packets_for answers_for handed maker is_client answer_if accept
    two_for_one calls = record {
      records = rw (back_adds, leave_adds, take_adds) (ap (λ (l : List Entry). departed key ∷ arrived key ∷ l) later.records);
      packets = ap (λ (l : List (List ℕ)). handed start past c tells ++ l) later.packets;
      answers = rw (sits_here, else) later.answers;
    }
      where
        later : SameFor c start (made (arrive key) back ∷ past) (transcript sizes next calls) start (made (arrive key) takes ∷ made (leave seat) leaves ∷ past) (transcript sizes next calls)
        later = same_by_tables sizes c start start (made (arrive key) back ∷ past) (made (arrive key) takes ∷ made (leave seat) leaves ∷ past) next whole_next tied_back tied_taken calls

    -- THE LAW, from a whole room on
    pub returns_same : (calls : List Call)
        → SameFor c start past (transcript sizes room (arrive key ∷ calls)) start past (transcript sizes room (leave seat ∷ arrive key ∷ calls))
    returns_same calls = rw (once, twice) (two_for_one calls)
      where
        once : transcript sizes room (arrive key ∷ calls) ≡ made (arrive key) back ∷ transcript sizes next calls
        once = unfold transcript event accept room_after apply_all apply in ap (λ (o : Outcome). made (arrive key) o ∷ transcript sizes (room_after sizes room o) calls) is_back

        twice : transcript sizes room (leave seat ∷ arrive key ∷ calls) ≡ made (leave seat) leaves ∷ made (arrive key) takes ∷ transcript sizes next calls
        twice = unfold transcript event accept room_after apply_all apply in
            (ap (λ (o : Outcome). made (leave seat) o ∷ transcript sizes (room_after sizes room o) (arrive key ∷ calls)) is_leaves
            ∙ ap (λ (o : Outcome). made (leave seat) leaves ∷ made (arrive key) o ∷ transcript sizes (room_after sizes left o) calls) is_takes)

-- ---- at any moment of a history: `before` are the calls before it, and the client sits in `seat` then

pub returns_same_from : (sizes : Sizes) (c key : Key) → same_key key c ≡ false → (start : Start) (past : Past) (room : Room) → Whole sizes room → Tied start past room
    → (before later : List Call) (seat : ℕ) → sitter start (past_after past (transcript sizes room before)) seat ≡ client_of key
    → SameFor c start past (transcript sizes room (before ++ (arrive key ∷ later))) start past (transcript sizes room (before ++ (leave seat ∷ arrive key ∷ later)))
unfolding transcript past_after record_for packets_for answers_for
returns_same_from sizes c key else start past room whole tie [] later seat sits =
    returns_same sizes start past room whole tie key seat (key_found sizes room whole seat _ (seat_holds sizes start past room whole tie seat key sits)) c else later
returns_same_from sizes c key else start past room whole tie (call ∷ before) later seat sits =
    let e = event room call in
    let same =
    returns_same_from sizes c key else start (e ∷ past) (room_after sizes room (outcome room call)) (whole_after sizes room whole call) (tied_after sizes start past room whole tie call) before later seat sits in
    record {
      records = ap (λ (l : List Entry). entries start past c e ++ l) same.records;
      packets = ap (λ (l : List (List ℕ)). handed start past c e.sent ++ l) same.packets;
      answers = ap (λ (l : List Answer). answer_if (is_client c (maker start past e.call)) e.answer ++ l) same.answers;
    }

-- from the empty room
pub returns_same_from_empty : (sizes : Sizes) (c key : Key) → same_key key c ≡ false → (before later : List Call) (seat : ℕ)
    → sitter (from_empty sizes) (past_after [] (happens sizes before)) seat ≡ client_of key
    → SameFor c (from_empty sizes) [] (happens sizes (before ++ (arrive key ∷ later))) (from_empty sizes) [] (happens sizes (before ++ (leave seat ∷ arrive key ∷ later)))
returns_same_from_empty sizes c key else = returns_same_from sizes c key else (from_empty sizes) [] (empty_room sizes) (whole_empty sizes) (tied_empty sizes)
