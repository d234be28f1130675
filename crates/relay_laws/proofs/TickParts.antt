-- The parts of a tick on the bytes of a whole room: one departure after the other, then one ping after the other, and both with the clock are the tick. Assumes
-- nothing.
use mathlib.Core.Path.{◌≡◌, refl, sym, ap, ap₂, ◌∙◌, subst}
use mathlib.Core.Bool.{Bool, true, false, not, cond, false≢true}
use mathlib.Core.List.{List, [], ◌∷◌, ◌++◌, map}
use Prim.Native.Nat.{ℕ, suc, ◌+◌, ◌^◌, ◌≤◌, ◌<◌}
use native.Mathlib.Omega.{arith}
use lib.ListN.{get_or, length, drop, drop_of_length-le}
use lib.Seq.{drop-cons, drop-set-lt}
use Rattle.packet_laws.specs.FromRelay.{ping}
use Rattle.rules.specs.Room.{sizes_of, Held, Seat, vacant, holds, Room, set_clock, set_seats, set_seat, is_vacant, ping_in, seat_at, place_when, places_from}
use Rattle.rules.specs.Call.{accepted}
use Rattle.rules.specs.Outcome.{Change, seat_emptied, ping_sent, clock_set, with_ping, apply, apply_all, Outcome, accept, both, refuse, to, sent_bytes, leave_from, overdue, is_overdue, is_due, leave_each, ping_each, leavers, tick_from}
use Rattle.rules.specs.Outcome as rules
use Rattle.rules.proofs.TickLaws.{set_each, remaining, leaves_room, room_after_departures}
use Rattle.rules.proofs.TickInTurn.{remaining_places}
use Rattle.rules.proofs.TickWithin.{pings_size, departures_within}
use Rattle.room_laws.specs.View.{view_room}
use Rattle.room_laws.specs.Whole.{room_whole}
use Rattle.room_laws.specs.Store.{store, store_all}
use Rattle.room_laws.specs.Fits.{empties, sets, pings}
use Rattle.room_laws.specs.Lookup.{taken}
use Rattle.room_laws.proofs.LookupLaws.{taken_is}
use Rattle.rules.proofs.WithinOutput.{leave_within}
use Rattle.room_laws.proofs.StoreLaws.{store_is_apply, store_all_is_apply_all}
use Rattle.room_laws.proofs.TickFits.{leaves_fit}
use Rattle.room_laws.proofs.WholeLaws.{whole_view, whole_few_seats, whole_few}
use Rattle.records.specs.Output.{Appends}
use Rattle.relay_laws.specs.Calls.{Leaves}
use Rattle.relay_laws.specs.Steps.{Made, departure, LeaveFits, nothing, put_out_one, ping_one, PutsOut, PingsDue}
use Rattle.relay_laws.proofs.PartLaws.{store_all_append, SoFar, onward}
use Rattle.records.proofs.AppendLaws.{appended_none, appends_none, appends_more, appends_front, appends_front_answer}

-- ---- the places from one on

places_next : (test : Seat → Bool) (l : List Seat) (place : ℕ) → place < length l → (t : Bool) → test (get_or l place vacant) ≡ t
    → places_from test place (drop place l) ≡ place_when t place (places_from test (suc place) (drop (suc place) l))
unfolding places_from
places_next test l place h t e =
    ap (places_from test place) (drop-cons l place vacant h) ∙ ap (λ (x : Bool). place_when x place (places_from test (suc place) (drop (suc place) l))) e

places_end : (test : Seat → Bool) (l : List Seat) (place : ℕ) → length l ≤ place → places_from test place (drop place l) ≡ []
unfolding places_from
places_end test l place h = ap (places_from test place) (drop_of_length-le l h)

-- ---- departures

-- what is left of them from a place on
abbrev pub leaves_from : ℕ → ℕ → List ℕ → ℕ → ℕ → Outcome
leaves_from s n b time place = leave_each (view_room s n b) (places_from (is_overdue time) place (drop place (view_room s n b).seats))

module _ (s n : ℕ) (b : List ℕ) (whole : room_whole s n b ≡ true) (time place : ℕ) where
  -- a seat that is not overdue
  pub leaves_passed : place < s → is_overdue time (seat_at (view_room s n b) place) ≡ false → leaves_from s n b time place ≡ leaves_from s n b time (place + 1)
  unfolding seat_at place_when
  leaves_passed h e =
      let l : length (view_room s n b).seats ≡ s = (whole_view s n b whole).seats in
      let q : place + 1 ≡ suc place = omega arith in
      ap (leave_each (view_room s n b)) (places_next (is_overdue time) (view_room s n b).seats place (omega arith) false e)
      ∙ ap (leaves_from s n b time) (sym q)

  -- no seat is left
  pub leaves_ended : s ≤ place → ((leaves_from s n b time place).changes ≡ []) × ((leaves_from s n b time place).sent ≡ [])
  unfolding leave_each accept
  leaves_ended h =
      let l : length (view_room s n b).seats ≡ s = (whole_view s n b whole).seats in
      let e = places_end (is_overdue time) (view_room s n b).seats place (omega arith) in
      (rw e, rw e)

-- what is left of the pings from a place on
abbrev pub pings_from : ℕ → ℕ → List ℕ → ℕ → ℕ → ℕ → Outcome
pings_from s n b time number place = ping_each time number (places_from (is_due time) place (drop place (view_room s n b).seats))

module _ (s n : ℕ) (b : List ℕ) (whole : room_whole s n b ≡ true) (time number place : ℕ) where
  pub pings_passed : place < s → is_due time (seat_at (view_room s n b) place) ≡ false → pings_from s n b time number place ≡ pings_from s n b time number (place + 1)
  unfolding seat_at place_when
  pings_passed h e =
      let l : length (view_room s n b).seats ≡ s = (whole_view s n b whole).seats in
      let q : place + 1 ≡ suc place = omega arith in
      ap (ping_each time number) (places_next (is_due time) (view_room s n b).seats place (omega arith) false e)
      ∙ ap (pings_from s n b time number) (sym q)

  pub pings_ended : s ≤ place → ((pings_from s n b time number place).changes ≡ []) × ((pings_from s n b time number place).sent ≡ [])
  unfolding ping_each accept
  pings_ended h =
      let l : length (view_room s n b).seats ≡ s = (whole_view s n b whole).seats in
      let e = places_end (is_due time) (view_room s n b).seats place (omega arith) in
      (rw e, rw e)

-- a seat that is overdue, or due, holds a client
overdue_holds : (time : ℕ) (x : Seat) → is_overdue time x ≡ true → (P : Type 0) → ((held : Held) → x ≡ holds held → P) → P
unfolding is_overdue overdue ping_in
overdue_holds time vacant e P k = absurd (false≢true e)
overdue_holds time (holds held) e P k = k held refl

due_holds : (time : ℕ) (x : Seat) → is_due time x ≡ true → (P : Type 0) → ((held : Held) → x ≡ holds held → P) → P
unfolding is_due
due_holds time vacant e P k = absurd (false≢true e)
due_holds time (holds held) e P k = k held refl

-- what a change of one seat leaves: the room with that seat replaced, whole, in a memory as long
pub record Left (s n : ℕ) (b b' : List ℕ) (place : ℕ) (x : Seat) : Type 0 where
  pub view : view_room s n b' ≡ set_seat (view_room s n b) place x
  pub whole : room_whole s n b' ≡ true
  pub long : length b' ≡ length b

-- ---- one departure

module _ (s n : ℕ) (o : Outcome) (b₀ out₀ : List ℕ) (at₀ : ℕ) (start : at₀ ≤ length out₀) (b : List ℕ) (whole : room_whole s n b ≡ true) (time place : ℕ)
    (late : is_overdue time (seat_at (view_room s n b) place) ≡ true) where
  -- the departure, and what is left behind it
  pub leaves_first : place < s → leaves_from s n b time place
      ≡ both (leave_from (seat_at (view_room s n b) place) (view_room s n b) place)
      (leave_each (set_seat (view_room s n b) place vacant) (places_from (is_overdue time) (suc place) (drop (suc place) (view_room s n b).seats)))
  unfolding seat_at place_when leave_each
  leaves_first h =
      let l : length (view_room s n b).seats ≡ s = (whole_view s n b whole).seats in
      ap (leave_each (view_room s n b)) (places_next (is_overdue time) (view_room s n b).seats place (omega arith) true late)

  -- the room that it leaves
  pub leaves_left : (b' : List ℕ) → b' ≡ store_all s n b (leave_from (seat_at (view_room s n b) place) (view_room s n b) place).changes → Left s n b b' place vacant
  leaves_left b' e = overdue_holds time (seat_at (view_room s n b) place) late _ (λ held q. go held q)
    where
      go : (held : Held) → seat_at (view_room s n b) place ≡ holds held → Left s n b b' place vacant
      go held q =
          let f : b' ≡ store s n b (seat_emptied place) = e ∙ (unfold store_all leave_from accept in rw q) in
          let law = store_is_apply s n b whole (seat_emptied place) (empties q) in
          subst (λ (x : List ℕ). Left s n b x place vacant) (sym f) (record { view = unfold apply in law.0; whole = law.1; long = law.2 })

  -- what is left from the next place on
  pub leaves_onward : place < s → (out : List ℕ) (at : ℕ) → SoFar s n o b₀ out₀ at₀ (leaves_from s n b time place) b out at
      → (b' : List ℕ) (next : ℕ) (out' : List ℕ) → Made s n (leave_from (seat_at (view_room s n b) place) (view_room s n b) place) b out at b' next out'
      → SoFar s n o b₀ out₀ at₀ (leaves_from s n b' time (place + 1)) b' out' next
  leaves_onward h out at so b' next out' made =
      let left = leaves_left b' made.stores in
      let q : place + 1 ≡ suc place = omega arith in
      let same : leaves_from s n b' time (place + 1) ≡ leave_each (set_seat (view_room s n b) place vacant) (places_from (is_overdue time) (suc place) (drop (suc place) (view_room s n b).seats)) =
      ap (leaves_from s n b' time) q
      ∙ ap (λ (r : Room). leave_each r (places_from (is_overdue time) (suc place) (drop (suc place) r.seats))) left.view
      ∙ ap (λ (l : List Seat). leave_each (set_seat (view_room s n b) place vacant) (places_from (is_overdue time) (suc place) l)) (drop-set-lt (suc place) (view_room s n b).seats place vacant (omega arith)) in
      subst (λ (r : Outcome). SoFar s n o b₀ out₀ at₀ r b' out' next) (sym same)
      (onward s n o b₀ out₀ at₀ start _ _ b out at (subst (λ (r : Outcome). SoFar s n o b₀ out₀ at₀ r b out at) (leaves_first h) so) b' next out' made)

-- ---- one ping

module _ (s n : ℕ) (o : Outcome) (b₀ out₀ : List ℕ) (at₀ : ℕ) (start : at₀ ≤ length out₀) (b : List ℕ) (whole : room_whole s n b ≡ true) (time number place : ℕ)
    (due : is_due time (seat_at (view_room s n b) place) ≡ true) where
  pub pings_first : place < s → pings_from s n b time number place ≡ both (ping_each time number (place ∷ [])) (ping_each time number (places_from (is_due time) (suc place) (drop (suc place) (view_room s n b).seats)))
  unfolding seat_at place_when ping_each accept
  pings_first h =
      let l : length (view_room s n b).seats ≡ s = (whole_view s n b whole).seats in
      ap (ping_each time number) (places_next (is_due time) (view_room s n b).seats place (omega arith) true due)

  pub pings_left : time ≤ (view_room s n b).clock → time < 2 ^ 64 → number < 2 ^ 64 → (b' : List ℕ) → b' ≡ store s n b (ping_sent place time number)
      → Left s n b b' place (with_ping (seat_at (view_room s n b) place) time number)
  pings_left now small few b' e = due_holds time (seat_at (view_room s n b) place) due _ (λ held q. go held q)
    where
      go : (held : Held) → seat_at (view_room s n b) place ≡ holds held → Left s n b b' place (with_ping (seat_at (view_room s n b) place) time number)
      go held q =
          let law = store_is_apply s n b whole (ping_sent place time number) (pings q now small few) in
          subst (λ (x : List ℕ). Left s n b x place (with_ping (seat_at (view_room s n b) place) time number)) (sym e) (record { view = unfold apply in law.0; whole = law.1; long = law.2 })

  pub pings_onward : place < s → (out : List ℕ) (at : ℕ) → SoFar s n o b₀ out₀ at₀ (pings_from s n b time number place) b out at
      → (b' : List ℕ) (next : ℕ) (out' : List ℕ) → Left s n b b' place (with_ping (seat_at (view_room s n b) place) time number)
      → Made s n (ping_each time number (place ∷ [])) b out at b' next out'
      → SoFar s n o b₀ out₀ at₀ (pings_from s n b' time number (place + 1)) b' out' next
  pings_onward h out at so b' next out' left made =
      let x = with_ping (seat_at (view_room s n b) place) time number in
      let q : place + 1 ≡ suc place = omega arith in
      let same : pings_from s n b' time number (place + 1) ≡ ping_each time number (places_from (is_due time) (suc place) (drop (suc place) (view_room s n b).seats)) =
      ap (pings_from s n b' time number) q
      ∙ ap (λ (r : Room). ping_each time number (places_from (is_due time) (suc place) (drop (suc place) r.seats))) left.view
      ∙ ap (λ (l : List Seat). ping_each time number (places_from (is_due time) (suc place) l)) (drop-set-lt (suc place) (view_room s n b).seats place x (omega arith)) in
      subst (λ (r : Outcome). SoFar s n o b₀ out₀ at₀ r b' out' next) (sym same)
      (onward s n o b₀ out₀ at₀ start _ _ b out at (subst (λ (r : Outcome). SoFar s n o b₀ out₀ at₀ r b out at) (pings_first h) so) b' next out' made)

-- ---- one seat, whichever it is

module _ (s n : ℕ) (b : List ℕ) (whole : room_whole s n b ≡ true) (time i : ℕ) (out : List ℕ) (at : ℕ) where
  -- its client stays, or leaves
  pub not_put_out : is_overdue time (seat_at (view_room s n b) i) ≡ false → Made s n (put_out_one s n time b i) b out at b at out
  unfolding put_out_one accept store_all
  not_put_out e = rw e (record { stores = refl; writes = appends_none out at })

  pub is_put_out : is_overdue time (seat_at (view_room s n b) i) ≡ true → (b' : List ℕ) (next : ℕ) (out' : List ℕ)
      → Made s n (departure s n b i) b out at b' next out' → Made s n (put_out_one s n time b i) b out at b' next out'
  unfolding put_out_one
  is_put_out e b' next out' made = rw e made

  pub late_taken : is_overdue time (seat_at (view_room s n b) i) ≡ true → taken s n b i ≡ true
  unfolding is_vacant
  late_taken e = overdue_holds time (seat_at (view_room s n b) i) e _ (λ held q. taken_is s n b whole i ∙ ap (λ (x : Seat). not (is_vacant x)) q)

  -- its departure takes 1,200 bytes at most
  pub late_fits : at + 1205 ≤ length out → LeaveFits s n b i out at
  late_fits h = omega (arith, leave_within (sizes_of s n) (whole_few s n b whole) (view_room s n b) (whole_view s n b whole) i (seat_at (view_room s n b) i) refl)

  -- it is pinged, or not
  module _ (number : ℕ) where
    pub not_pinged : is_due time (seat_at (view_room s n b) i) ≡ false → Made s n (ping_one s n time number b i) b out at b at out
    unfolding ping_one accept store_all
    not_pinged e = rw e (record { stores = refl; writes = appends_none out at })

    pub is_pinged : is_due time (seat_at (view_room s n b) i) ≡ true → (b' : List ℕ) (next : ℕ) (out' : List ℕ)
        → b' ≡ store s n b (ping_sent i time number) → Appends (to i (ping number) ∷ []) out at next out' → Made s n (ping_one s n time number b i) b out at b' next out'
    unfolding ping_one ping_each accept store_all
    is_pinged e b' next out' stored wrote = rw e (record { stores = stored; writes = wrote })

-- nothing is done
made_nothing : (s n : ℕ) (b out : List ℕ) (at : ℕ) (b' : List ℕ) (next : ℕ) (out' : List ℕ) → Made s n nothing b out at b' next out'
    → (b ≡ b') × (at ≡ next) × (out ≡ out')
unfolding accept store_all sent_bytes
made_nothing s n b out at b' next out' made =
    (sym made.stores, (let q = made.writes.answers in omega arith), sym (made.writes.leaves ∙ appended_none out at))

-- a ping takes 12 bytes
pub one_within : (s n time number : ℕ) (b : List ℕ) (i : ℕ) (out : List ℕ) (at : ℕ) (b' : List ℕ) (next : ℕ) (out' : List ℕ)
    → Made s n (ping_one s n time number b i) b out at b' next out' → next ≤ at + 12
unfolding ping_one
one_within s n time number b i out at b' next out' made = go (is_due time (seat_at (view_room s n b) i)) made
  where
    go : (t : Bool) → Made s n (cond t (ping_each time number (i ∷ [])) nothing) b out at b' next out' → next ≤ at + 12
    go true m = omega (arith, m.writes.answers, pings_size time number (i ∷ []))
    go false m = omega (arith, (made_nothing s n b out at b' next out' m).1)

-- ---- and what is left then

-- what a step leaves: a whole room with the same clock, in a memory as long, and what is then left to do
pub record Goes (s n : ℕ) (o : Outcome) (b₀ out₀ : List ℕ) (at₀ : ℕ) (b b' out' : List ℕ) (next : ℕ) (rest : Outcome) : Type 0 where
  pub whole : room_whole s n b' ≡ true
  pub clock : (view_room s n b').clock ≡ (view_room s n b).clock
  pub long : length b' ≡ length b
  pub so_far : SoFar s n o b₀ out₀ at₀ rest b' out' next

module _ (s n : ℕ) (o : Outcome) (b₀ out₀ : List ℕ) (at₀ : ℕ) (start : at₀ ≤ length out₀) (b : List ℕ) (whole : room_whole s n b ≡ true) (place : ℕ) (below : place < s)
    (out : List ℕ) (at : ℕ) (b' : List ℕ) (next : ℕ) (out' : List ℕ) where
  stays : (rest : Outcome) → Made s n nothing b out at b' next out' → SoFar s n o b₀ out₀ at₀ rest b out at → Goes s n o b₀ out₀ at₀ b b out next rest
  stays rest made so =
      let q = made_nothing s n b out at b' next out' made in
      record { whole = whole; clock = refl; long = refl; so_far = subst (λ (k : ℕ). SoFar s n o b₀ out₀ at₀ rest b out k) q.1 so }

  pub leaves_goes : (time : ℕ) → SoFar s n o b₀ out₀ at₀ (leaves_from s n b time place) b out at → Made s n (put_out_one s n time b place) b out at b' next out'
      → Goes s n o b₀ out₀ at₀ b b' out' next (leaves_from s n b' time (place + 1))
  unfolding put_out_one
  leaves_goes time so made = go (is_overdue time (seat_at (view_room s n b) place)) refl made
    where
      go : (t : Bool) → is_overdue time (seat_at (view_room s n b) place) ≡ t → Made s n (cond t (leave_from (seat_at (view_room s n b) place) (view_room s n b) place) nothing) b out at b' next out'
          → Goes s n o b₀ out₀ at₀ b b' out' next (leaves_from s n b' time (place + 1))
      go true e m =
          let left = leaves_left s n o b₀ out₀ at₀ start b whole time place e b' m.stores in
          record {
            whole = left.whole;
            clock = ap (λ (r : Room). r.clock) left.view;
            long = left.long;
            so_far = leaves_onward s n o b₀ out₀ at₀ start b whole time place e below out at so b' next out' m;
          }
      go false e m =
          let q = made_nothing s n b out at b' next out' m in
          let g = stays (leaves_from s n b time (place + 1)) m (subst (λ (r : Outcome). SoFar s n o b₀ out₀ at₀ r b out at) (leaves_passed s n b whole time place below e) so) in
          subst (λ (x : List ℕ). Goes s n o b₀ out₀ at₀ b b' x next (leaves_from s n b' time (place + 1))) q.2
          (subst (λ (x : List ℕ). Goes s n o b₀ out₀ at₀ b x out next (leaves_from s n x time (place + 1))) q.0 g)

  pub pings_goes : (time number : ℕ) → time ≤ (view_room s n b).clock → time < 2 ^ 64 → number < 2 ^ 64
      → SoFar s n o b₀ out₀ at₀ (pings_from s n b time number place) b out at → Made s n (ping_one s n time number b place) b out at b' next out'
      → Goes s n o b₀ out₀ at₀ b b' out' next (pings_from s n b' time number (place + 1))
  unfolding ping_one
  pings_goes time number now small few so made = go (is_due time (seat_at (view_room s n b) place)) refl made
    where
      stored : Made s n (ping_each time number (place ∷ [])) b out at b' next out' → b' ≡ store s n b (ping_sent place time number)
      stored m = m.stores ∙ (unfold ping_each accept store_all in refl)

      go : (t : Bool) → is_due time (seat_at (view_room s n b) place) ≡ t → Made s n (cond t (ping_each time number (place ∷ [])) nothing) b out at b' next out'
          → Goes s n o b₀ out₀ at₀ b b' out' next (pings_from s n b' time number (place + 1))
      go true e m =
          let left = pings_left s n o b₀ out₀ at₀ start b whole time number place e now small few b' (stored m) in
          record {
            whole = left.whole;
            clock = ap (λ (r : Room). r.clock) left.view;
            long = left.long;
            so_far = pings_onward s n o b₀ out₀ at₀ start b whole time number place e below out at so b' next out' left m;
          }
      go false e m =
          let q = made_nothing s n b out at b' next out' m in
          let g = stays (pings_from s n b time number (place + 1)) m (subst (λ (r : Outcome). SoFar s n o b₀ out₀ at₀ r b out at) (pings_passed s n b whole time number place below e) so) in
          subst (λ (x : List ℕ). Goes s n o b₀ out₀ at₀ b b' x next (pings_from s n b' time number (place + 1))) q.2
          (subst (λ (x : List ℕ). Goes s n o b₀ out₀ at₀ b x out next (pings_from s n x time number (place + 1))) q.0 g)

-- ---- the whole tick

module _ (s n : ℕ) (b : List ℕ) (whole : room_whole s n b ≡ true) (time number : ℕ) (small : time < 2 ^ 64) where
  -- the clock is set
  pub clock_left : (view_room s n b).clock ≤ time → (b' : List ℕ) → b' ≡ store s n b (clock_set time)
      → (view_room s n b' ≡ set_clock (view_room s n b) time) × (room_whole s n b' ≡ true) × (length b' ≡ length b)
  clock_left later b' e =
      let law = store_is_apply s n b whole (clock_set time) (sets later small) in
      rw e (unfold apply in law.0, law.1, law.2)

-- emptied seats leave the clock
same_clock : (seats : List ℕ) (r : Room) → (set_each (λ x. vacant) r seats).clock ≡ r.clock
unfolding set_each
same_clock [] r = refl
same_clock (seat ∷ seats) r = same_clock seats (set_seat r seat vacant)

-- the clients are put out
module _ (s n : ℕ) (b : List ℕ) (whole : room_whole s n b ≡ true) (time : ℕ) (out b' : List ℕ) (next : ℕ) (out' : List ℕ) (made : PutsOut s n time b out b' next out') where
  law : (view_room s n (store_all s n b (leave_each (view_room s n b) (leavers time (view_room s n b))).changes)
      ≡ apply_all (sizes_of s n) (view_room s n b) (leave_each (view_room s n b) (leavers time (view_room s n b))).changes)
      × (room_whole s n (store_all s n b (leave_each (view_room s n b) (leavers time (view_room s n b))).changes) ≡ true)
      × (length (store_all s n b (leave_each (view_room s n b) (leavers time (view_room s n b))).changes) ≡ length b)
  law = store_all_is_apply_all s n b whole _ (leaves_fit s n (view_room s n b) (leavers time (view_room s n b)))

  pub out_whole : room_whole s n b' ≡ true
  out_whole = rw made.stores law.1

  -- the clock stays
  pub out_clock : (view_room s n b').clock ≡ (view_room s n b).clock
  out_clock =
      ap (λ (x : List ℕ). (view_room s n x).clock) made.stores
      ∙ ap (λ (r : Room). r.clock) (law.0 ∙ leaves_room (sizes_of s n) (view_room s n b) (leavers time (view_room s n b)))
      ∙ same_clock (leavers time (view_room s n b)) (view_room s n b)

  -- 3,900 bytes at most
  pub out_within : next ≤ 3900
  out_within =
      omega (arith, made.writes.answers, departures_within (sizes_of s n) (whole_few_seats s n b whole) (view_room s n b) (whole_view s n b whole) (leavers time (view_room s n b)))

-- THE LAW: the clock, the departures and the pings are the tick
module _ (s n : ℕ) (b : List ℕ) (whole : room_whole s n b ≡ true) (time number : ℕ) (small : time < 2 ^ 64) (out : List ℕ) (long : 5120 ≤ length out)
    (later : (view_room s n b).clock ≤ time) (b₁ : List ℕ) (set : b₁ ≡ store s n b (clock_set time))
    (b₂ : List ℕ) (at : ℕ) (out₂ : List ℕ) (gone : PutsOut s n time b₁ out b₂ at out₂)
    (b₃ : List ℕ) (bytes : ℕ) (out₃ : List ℕ) (pinged : PingsDue s n time number b₂ out₂ at b₃ bytes out₃) where
  first : (view_room s n b₁ ≡ set_clock (view_room s n b) time) × (room_whole s n b₁ ≡ true) × (length b₁ ≡ length b)
  first = clock_left s n b whole time number small later b₁ set

  -- the departures are those from the room before
  gone_from : leave_each (view_room s n b₁) (leavers time (view_room s n b₁)) ≡ leave_each (set_clock (view_room s n b) time) (leavers time (view_room s n b))
  unfolding leavers
  gone_from = ap (λ (r : Room). leave_each r (leavers time r)) first.0

  -- the room that they leave
  gone_room : view_room s n b₂ ≡ set_seats (set_clock (view_room s n b) time) (map (remaining time) (view_room s n b).seats)
  unfolding leavers
  gone_room =
      ap (view_room s n) gone.stores
      ∙ (law s n b₁ first.1 time out b₂ at out₂ gone).0
      ∙ leaves_room (sizes_of s n) (view_room s n b₁) (leavers time (view_room s n b₁))
      ∙ ap (λ (r : Room). set_each (λ x. vacant) r (leavers time r)) first.0
      ∙ room_after_departures (sizes_of s n) (view_room s n b) time number

  -- so those that are pinged are the ones that were due before
  pinged_from : rules.due_seats time (view_room s n b₂) ≡ rules.due_seats time (view_room s n b)
  unfolding rules.due_seats
  pinged_from = ap (λ (r : Room). places_from (is_due time) 0 r.seats) gone_room ∙ remaining_places time 0 (view_room s n b).seats

  abbrev leaving : Outcome
  leaving = leave_each (set_clock (view_room s n b) time) (leavers time (view_room s n b))

  abbrev pinging : Outcome
  pinging = ping_each time number (rules.due_seats time (view_room s n b))

  all : Appends (leaving.sent ++ pinging.sent) out 0 bytes out₃
  all =
      appends_more leaving.sent pinging.sent out 0 at bytes out₂ out₃ (omega arith)
      (subst (λ (o : Outcome). Appends o.sent out 0 at out₂) gone_from gone.writes)
      (subst (λ (l : List ℕ). Appends (ping_each time number l).sent out₂ at bytes out₃) pinged_from pinged.writes)

  all_stored : b₃ ≡ store_all s n b (clock_set time ∷ (leaving.changes ++ pinging.changes))
  unfolding store_all
  all_stored =
      pinged.stores
      ∙ ap₂ (λ (x : List ℕ) (l : List ℕ). store_all s n x (ping_each time number l).changes)
      (gone.stores ∙ ap₂ (λ (x : List ℕ) (o : Outcome). store_all s n x o.changes) set gone_from) pinged_from
      ∙ sym (store_all_append s n (store s n b (clock_set time)) leaving.changes pinging.changes)

  pub tick_left : Leaves s n (tick_from (view_room s n b) time number) b out (accepted 0 bytes) b₃ out₃
  unfolding tick_from accept
  tick_left = record {
    answers = ap (accepted 0) (appends_front_answer _ out bytes out₃ all);
    stores = all_stored;
    writes = appends_front _ out bytes out₃ all;
  }
