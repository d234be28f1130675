-- For every history: each record of an accepted tick goes to a seat in which a client sits when the record is written, and that client sat there before the call.
-- So nobody is handed a record by the seat of another, though the same tick may empty the seat afterwards. Assumes nothing.
use mathlib.Core.Path.{◌≡◌, refl, sym, subst, ◌∙◌}
use mathlib.Core.Bool.{Bool, true, false, cond}
use mathlib.Core.List.{List, [], ◌∷◌, ◌++◌}
use mathlib.Core.Logic.{◌≢◌}
use Prim.Native.Nat.{ℕ, zero, suc}
use lib.Dec.{eqb}
use borrow.Author.Tests.{ne_eqb}
use Rattle.packet_laws.specs.FromRelay as relay
use Rattle.rules.specs.Room.{Sizes, Key, first_number}
use Rattle.rules.specs.Call.{Call, tick, Sent}
use Rattle.rules.specs.Outcome.{to}
use Rattle.rules.specs.History.{Event, happens}
use Rattle.rules.specs.Transcript.{Past, nobody, client_of, Start, from_empty, is_accepted, sits_after, sitter}
use Rattle.rules.specs.After.{past_after}
use Rattle.after_calls.specs.Told.{PeerOrNone, peer_is, no_peer, Disconnects, InTurn}
use Rattle.after_calls.specs.Ticks.{Overdue, Due, leave_event, LeavesFrom, PingsFrom, done, leaves, stays, pings, passes, TickDoes}
use Rattle.after_calls.specs.Handed.{SameSitter, SatBefore, EachSent, EachWritten, after_leaves, TickHanded}
use Rattle.after_calls.proofs.TickTells.{tick_does_from_empty}

-- ---- lists of records

each_append : (P : Sent → Type 0) (a b : List Sent) → EachSent P a → EachSent P b → EachSent P (a ++ b)
unfolding EachSent
each_append P [] b ha hb = hb
each_append P (s ∷ a) b ha hb = (ha.0, each_append P a b ha.1 hb)

pub each_map : (P Q : Sent → Type 0) → ((s : Sent) → P s → Q s) → (l : List Sent) → EachSent P l → EachSent Q l
unfolding EachSent
each_map P Q f [] h = h
each_map P Q f (s ∷ l) h = (f s h.0, each_map P Q f l h.1)

-- ---- what a Leave of `seat` tells goes to clients that sit in other seats

module _ (start : Start) (past now : Past) (seat : ℕ)
    (kept : (i : ℕ) (key : Key) → seat ≢ i → sitter start now i ≡ client_of key → sitter start past i ≡ client_of key) where
  told_seated : (number : ℕ) (sent : List Sent) → Disconnects start now seat number sent → EachSent (SameSitter start past now) sent
  told_seated number sent d = go d.decided
    where
      go : PeerOrNone start now seat number → EachSent (SameSitter start past now) sent
      go (peer_is other number' c) =
          subst (EachSent (SameSitter start past now)) (sym ((d.told other number').1 c))
          (unfold EachSent to in (record { key = c.wanted; written = c.there.sits; before = kept other c.wanted c.apart c.there.sits }, tt))
      go (no_peer none) = subst (EachSent (SameSitter start past now)) (sym (d.otherwise none)) (unfold EachSent in tt)

  pub turn_seated : (number many : ℕ) (sent : List Sent) → InTurn start now seat number many sent → EachSent (SameSitter start past now) sent
  unfolding InTurn
  turn_seated number zero sent h = subst (EachSent (SameSitter start past now)) (sym h) (unfold EachSent in tt)
  turn_seated number (suc many) sent h =
      subst (EachSent (SameSitter start past now)) (sym h.both)
      (each_append (SameSitter start past now) h.front h.back (told_seated number h.front h.first) (turn_seated (suc number) many h.back h.rest))

-- ---- the departures

-- who sits after a Leave sat there before it
left_kept : (start : Start) (now : Past) (seat : ℕ) (sent : List Sent) (i : ℕ) (key : Key) → sitter start (leave_event seat sent ∷ now) i ≡ client_of key
    → sitter start now i ≡ client_of key
unfolding sitter sits_after is_accepted
left_kept start now seat sent i key h = go (eqb seat i) h
  where
    go : (t : Bool) → cond t nobody (sitter start now i) ≡ client_of key → sitter start now i ≡ client_of key
    go true q = absurd (cc)
    go false q = q

-- and the others stay
left_others : (start : Start) (now : Past) (seat : ℕ) (sent : List Sent) (i : ℕ) → seat ≢ i
    → sitter start (leave_event seat sent ∷ now) i ≡ sitter start now i
unfolding sitter sits_after is_accepted
left_others start now seat sent i apart = rw (ne_eqb seat i apart)

module _ (sizes : Sizes) (start : Start) (past : Past) (time : ℕ) where
  departures_written : (now : Past) → ((i : ℕ) (key : Key) → sitter start now i ≡ client_of key → sitter start past i ≡ client_of key)
      → (seat many : ℕ) (sent : List Sent) (l : LeavesFrom sizes start past time now seat many sent) → EachWritten l
  unfolding EachWritten
  departures_written now kept seat many sent done = tt
  departures_written now kept seat many sent (leaves {many = m} {back = back} front o tells rest) = (
    turn_seated start past now seat (λ i key apart. kept i key) first_number sizes.numbers front tells.in_turn,
    departures_written (leave_event seat front ∷ now) (λ i key h. kept i key (left_kept start now seat front i key h)) (suc seat) m back rest,
  )
  departures_written now kept seat many sent (stays {many = m} remains rest) = departures_written now kept (suc seat) m sent rest

  -- a seat that is not overdue is after them as it was before
  departures_keep : (i : ℕ) → (Overdue start past time i → ⊥)
      → (now : Past) (seat many : ℕ) (sent : List Sent) (l : LeavesFrom sizes start past time now seat many sent)
      → sitter start (after_leaves l) i ≡ sitter start now i
  unfolding after_leaves
  departures_keep i not now seat many sent done = refl
  departures_keep i not now seat many sent (leaves {many = m} {back = back} front o tells rest) =
      departures_keep i not (leave_event seat front ∷ now) (suc seat) m back rest
      ∙ left_others start now seat front i (λ q. not (subst (Overdue start past time) q o))
  departures_keep i not now seat many sent (stays {many = m} remains rest) = departures_keep i not now (suc seat) m sent rest

  -- ---- the pings

  module _ (number : ℕ) (now : Past) (kept : (i : ℕ) → (Overdue start past time i → ⊥) → sitter start now i ≡ sitter start past i) where
    due_seated : (seat : ℕ) → Due start past time seat → (p : relay.FromRelay) → SameSitter start past now (to seat p)
    unfolding to
    due_seated seat d p = record { key = d.key; written = kept seat (λ o. o.outstanding d.none_outstanding) ∙ d.sits; before = d.sits }

    pings_seated : (seat many : ℕ) (sent : List Sent) → PingsFrom start past time number seat many sent → EachSent (SameSitter start past now) sent
    unfolding EachSent
    pings_seated seat many sent done = tt
    pings_seated seat many sent (pings {many = m} {back = back} d rest) = (due_seated seat d (relay.ping number), pings_seated (suc seat) m back rest)
    pings_seated seat many sent (passes {many = m} remains rest) = pings_seated (suc seat) m sent rest

-- ---- all of them

sat_before : (start : Start) (past now : Past) (l : List Sent) → EachSent (SameSitter start past now) l → EachSent (SatBefore start past) l
sat_before start past now = each_map (SameSitter start past now) (SatBefore start past) (λ s h. record { key = h.key; sits = h.before })

written_before : (sizes : Sizes) (start : Start) (past : Past) (time : ℕ) (now : Past) (seat many : ℕ) (sent : List Sent)
    (l : LeavesFrom sizes start past time now seat many sent) → EachWritten l → EachSent (SatBefore start past) sent
unfolding EachWritten
written_before sizes start past time now seat many sent done w = unfold EachSent in tt
written_before sizes start past time now seat many sent (leaves {many = m} {back = back} front o tells rest) w =
    each_append (SatBefore start past) front back (sat_before start past now front w.0)
    (written_before sizes start past time (leave_event seat front ∷ now) (suc seat) m back rest w.1)
written_before sizes start past time now seat many sent (stays {many = m} remains rest) w = written_before sizes start past time now (suc seat) m sent rest w

-- ---- THE THEOREM, of one tick

module _ (sizes : Sizes) (start : Start) (past : Past) (time number : ℕ) (e : Event) (does : TickDoes sizes start past time number e) where
  -- the records of the departures, and the pings
  abbrev told : LeavesFrom sizes start past time past 0 sizes.seats does.sent.front
  told = does.sent.first

  told_written : EachWritten told
  told_written = departures_written sizes start past time past (λ i key h. h) 0 sizes.seats does.sent.front told

  pinged_seated : EachSent (SameSitter start past (after_leaves told)) does.sent.back
  pinged_seated =
      pings_seated sizes start past time number (after_leaves told)
      (λ i not. departures_keep sizes start past time i not past 0 sizes.seats does.sent.front told) 0 sizes.seats does.sent.back does.sent.rest

  pub tick_handed : TickHanded does
  tick_handed = record {
    departures = told_written;
    pings = pinged_seated;
    all =
        subst (EachSent (SatBefore start past)) (sym does.sent.both)
        (each_append (SatBefore start past) does.sent.front does.sent.back
        (written_before sizes start past time past 0 sizes.seats does.sent.front told told_written)
        (sat_before start past (after_leaves told) does.sent.back pinged_seated));
  }

-- ---- every history, from the empty room

module _ (sizes : Sizes) (calls : List Call) (before : List Event) (e : Event) (later : List Event) (t : happens sizes calls ≡ before ++ (e ∷ later))
    (time number : ℕ) (c : e.call ≡ tick time number) (h : is_accepted e.answer ≡ true) where
  pub tick_handed_from_empty : TickHanded (tick_does_from_empty sizes calls before e later t time number c h)
  tick_handed_from_empty =
      tick_handed sizes (from_empty sizes) (past_after [] before) time number e (tick_does_from_empty sizes calls before e later t time number c h)
