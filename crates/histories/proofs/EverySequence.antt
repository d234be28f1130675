-- The theorems on histories are about something. Any calls, with keys of 32 bytes and with times and ping numbers of 8, and with any outputs lent to them, are those
-- of a chain of exported calls from whatever bytes (`every_call_made`), and so of calls from the empty room in whatever memory fits a room (`every_calls`); and every sequence of calls is
-- that of a history, with whatever output of 5,120 bytes or more, lent to each call anew (`every_sequence`). Assumes nothing.
use mathlib.Core.Path.{◌≡◌, refl, sym, ap, ap₂, subst, ◌∙◌}
use mathlib.Core.Bool.{true}
use mathlib.Core.List.{List, [], ◌∷◌, ◌++◌}
use Prim.Native.Nat.{ℕ, ◌≤◌}
use native.Mathlib.Omega.{arith}
use lib.ListN.{length, drop}
use Rattle.rules.specs.Call.{Call, arrive, leave, packet_call, tick, FieldsFit, most_needed, needed}
use Rattle.rules.specs.Outcome.{Outcome, sent_bytes}
use Rattle.rules.specs.History.{Event}
use Rattle.room_laws.specs.Layout.{fits_room}
use Rattle.room_laws.specs.Store.{store_all, emptied}
use Rattle.relay_laws.specs.Calls.{Leaves, with_output}
use Rattle.banavoge_laws.specs.Rooms.{done_or}
use Rattle.banavoge_laws.specs.RelayCalls.{count_code, seat_after, arrival_told}
use Rattle.histories.specs.Seen.{seen_as, seen}
use Rattle.histories.specs.Lent.{lent_with, AllLong}
use Rattle.histories.specs.Sequences.{AllFieldsFit, CallMade, lents_to, calls_made, AnyChainOf, ChainOf, AnyCallsOf, HistoryOf}
use Rattle.histories.specs.History.{Step, arrives, departs, sends, ticks, none, next, BeginsEmpty, calls_of}

-- ---- one call

-- one call has a step
record Steps (s n : ℕ) (b : List ℕ) (call : Call) (out : List ℕ) : Type 0 where
  pub seen_as : Event
  pub left : List ℕ
  pub step : Step s n b (lent_with call out) seen_as left
  pub is : seen_as.call ≡ call

module _ (s n : ℕ) where
  -- what any outcome leaves
  abbrev stored : List ℕ → Outcome → List ℕ
  stored b o = store_all s n b o.changes

  abbrev output : List ℕ → Outcome → List ℕ
  output out o = sent_bytes o.sent ++ drop (length (sent_bytes o.sent)) out

  leaves : (b out : List ℕ) (o : Outcome) → Leaves s n o b out o.answer (stored b o) (output out o)
  leaves b out o = record { answers = refl; stores = refl; writes = refl }

  every_call : (b : List ℕ) (call : Call) (out : List ℕ) → FieldsFit call → Steps s n b call out
  unfolding seen seen_as arrival_told
  every_call b (arrive key) out k =
      let o = with_output s n b out (arrive key) in
      record {
        seen_as = seen (arrive key) (seat_after o.answer 0) (count_code o.answer) (output out o);
        left = stored b o;
        step = arrives key out (output out o) 0 (seat_after o.answer 0) (count_code o.answer)
            (record { given = o.answer; relates = record { long = k; leaves = leaves b out o }; codes = refl }) refl refl;
        is = refl;
      }
  every_call b (leave seat) out k =
      let o = with_output s n b out (leave seat) in
      record {
        seen_as = seen (leave seat) seat (count_code o.answer) (output out o);
        left = stored b o;
        step = departs seat out (output out o) (count_code o.answer) (record { given = o.answer; relates = leaves b out o; codes = refl }) refl refl;
        is = refl;
      }
  every_call b (packet_call seat bytes) out k =
      let o = with_output s n b out (packet_call seat bytes) in
      record {
        seen_as = seen (packet_call seat bytes) seat (count_code o.answer) (output out o);
        left = stored b o;
        step = sends seat bytes out (output out o) (count_code o.answer) (record { given = o.answer; relates = leaves b out o; codes = refl }) refl refl;
        is = refl;
      }
  every_call b (tick time ping) out k =
      let o = with_output s n b out (tick time ping) in
      record {
        seen_as = seen (tick time ping) 0 (count_code o.answer) (output out o);
        left = stored b o;
        step = ticks time ping out (output out o) (count_code o.answer)
            (record { given = o.answer; relates = record { fits = k; leaves = leaves b out o }; codes = refl }) refl refl;
        is = refl;
      }

-- ---- calls one after the other

pub every_call_made : (s n : ℕ) (b : List ℕ) (made : List CallMade) → AllFieldsFit (calls_made made) → AnyChainOf s n b made
unfolding calls_of calls_made lents_to
every_call_made s n b [] k = record { events = []; left = b; chain = none; are = refl }
every_call_made s n b (m ∷ made) k =
    let one = every_call s n b m.call m.out k.0 in
    let rest = every_call_made s n one.left made k.1 in
    record {
      events = one.seen_as ∷ rest.events;
      left = rest.left;
      chain = next one.step rest.chain;
      are = ap₂ (λ c l. c ∷ l) one.is rest.are;
    }

-- ---- with one output for all

module _ (out : List ℕ) where
  unfoldable pub with_outputs : List Call → List CallMade
  with_outputs [] = []
  with_outputs (call ∷ calls) = record { call = call; out = out } ∷ with_outputs calls

  calls_with : (calls : List Call) → calls_made (with_outputs calls) ≡ calls
  unfolding with_outputs calls_made
  calls_with [] = refl
  calls_with (call ∷ calls) = ap (λ (l : List Call). call ∷ l) (calls_with calls)

  module _ (long : most_needed ≤ length out) where
    long_lent : (call : Call) → needed call ≤ length out
    long_lent (arrive key) = omega arith
    long_lent (leave seat) = omega arith
    long_lent (packet_call seat bytes) = omega arith
    long_lent (tick time ping) = long

    all_long : (calls : List Call) → AllLong (lents_to (with_outputs calls))
    unfolding with_outputs lents_to
    all_long [] = tt
    all_long (call ∷ calls) = (long_lent call, all_long calls)

    pub every_chain : (s n : ℕ) (b : List ℕ) (calls : List Call) → AllFieldsFit calls → ChainOf s n b calls
    every_chain s n b calls k =
        let c = every_call_made s n b (with_outputs calls) (subst AllFieldsFit (sym (calls_with calls)) k) in
        record {
          events = c.events;
          left = c.left;
          chain = record { lents = lents_to (with_outputs calls); calls = c.chain; long = all_long calls };
          are = c.are ∙ calls_with calls;
        }

-- ---- from the empty room

-- memory that fits a room begins one
pub fits_begins : (s n : ℕ) (memory : List ℕ) → fits_room s n memory ≡ true → BeginsEmpty s n (emptied s n memory)
unfolding done_or
fits_begins s n memory fits =
    record {
      memory = memory;
      empties = record { given = true; relates = record { answers = sym fits; leaves = rw fits }; codes = refl };
    }

pub every_calls : (s n : ℕ) (memory : List ℕ) → fits_room s n memory ≡ true → (made : List CallMade) → AllFieldsFit (calls_made made) → AnyCallsOf s n made
every_calls s n memory fits made k =
    let c = every_call_made s n (emptied s n memory) made k in
    record { events = c.events; left = c.left; calls = record { room = emptied s n memory; begun = fits_begins s n memory fits; chain = c.chain }; are = c.are }

pub every_sequence : (s n : ℕ) (memory : List ℕ) → fits_room s n memory ≡ true → (out : List ℕ) → most_needed ≤ length out
    → (calls : List Call) → AllFieldsFit calls → HistoryOf s n calls
every_sequence s n memory fits out long calls k =
    let c = every_chain out long s n (emptied s n memory) calls k in
    record { events = c.events; left = c.left; history = record { room = emptied s n memory; begun = fits_begins s n memory fits; chain = c.chain }; are = c.are }
