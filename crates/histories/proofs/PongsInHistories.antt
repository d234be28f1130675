-- Pongs that the host passes on, and where a key sits. After any calls from the empty room in lent memory, whatever outputs it lent, `banavoge_packet` with a pong of
-- a seated client, and an output that is long enough, is accepted and does what the paper says, by what the host has seen before; and so does every pong inside a
-- history: "A pong with the outstanding number clears it; other pongs do nothing." (`pong_after_calls`, `pong_in_histories`). That the room after it says the same is
-- `any_calls_tied` (`Histories`). And after any calls `banavoge_seat_of` tells where a key sits (`seat_told_after_calls`). Assumes nothing.
use mathlib.Core.Path.{◌≡◌, refl, sym, subst, ◌∙◌}
use mathlib.Core.List.{List, [], ◌∷◌, ◌++◌}
use mathlib.Core.Logic.{◌↔◌, ◌≢◌}
use Prim.Native.Nat.{ℕ, ◌≤◌}
use lib.IntN.{ℤ, pos}
use lib.ListN.{length}
use Rattle.refusal.specs.declared.Refusal.TheVariants.{NotSeated}
use Rattle.packet_laws.specs.Read as read
use Rattle.packet_laws.specs.FromClient as client
use Rattle.rules.specs.Room.{sizes_of, Key, Held, set_key, holds, Room, seat_at}
use Rattle.rules.specs.Whole.{Whole}
use Rattle.rules.specs.Call.{Call, packet_call, needed}
use Rattle.rules.specs.History.{Event, event}
use Rattle.rules.specs.Transcript.{Past, client_of, from_empty, sitter}
use Rattle.rules.specs.After.{past_after, Tied}
use Rattle.rules.proofs.FindLaws.{held_of}
use Rattle.rules.proofs.Tied.{seat_holds}
use Rattle.after_calls.specs.PingAndOutOfBand.{Accepted, PongDoes}
use Rattle.after_calls.proofs.PingAndOutOfBand.{pong_sends, pong_does, pong_sends_from_empty, pong_does_from_empty}
use Rattle.relay_laws.specs.Calls.{Sends}
use Rattle.banavoge_laws.specs.Answers.{refusal_code, ToldAs}
use Rattle.banavoge_laws.specs.RelayCalls.{count_code}
use Rattle.banavoge_laws.specs.Sitting.{seat_of_key}
use Rattle.banavoge_laws.proofs.SittingLaws.{key_found, found_key, nowhere_found, found_nowhere}
use Rattle.histories.specs.Seen.{seen_as, seen}
use Rattle.histories.specs.Lent.{Lent, lent_with}
use Rattle.histories.specs.History.{sends, AnyCalls, History, calls_of}
use Rattle.histories.proofs.Histories.{any_calls_run, any_calls_tied, after_calls_lem, history_event}

-- ---- after any calls

module _ (s n : ℕ) (lents : List Lent) (events : List Event) (b : List ℕ) (h : AnyCalls s n lents events b)
    (seat : ℕ) (key : Key) (by : sitter (from_empty (sizes_of s n)) (past_after [] events) seat ≡ client_of key)
    (bytes out b' out' : List ℕ) (answer : ℤ) (long : needed (packet_call seat bytes) ≤ length out)
    (told : ToldAs count_code (Sends s n seat bytes b out b' out') answer) where
  -- what holds of each packet of a seated client
  of_each : (P : Past → Event → Type 0)
      → ((past : Past) (room : Room) → Whole (sizes_of s n) room → Tied (from_empty (sizes_of s n)) past room
      → (held : Held) → seat_at room seat ≡ holds (set_key held key) → P past (event room (packet_call seat bytes)))
      → P (past_after [] events) (seen (packet_call seat bytes) seat answer out')
  unfolding seen seen_as event
  of_each P each =
      after_calls_lem s n (λ past e. e.call ≡ packet_call seat bytes → sitter (from_empty (sizes_of s n)) past seat ≡ client_of key → P past e)
      (λ past room whole tie call c sits.
      subst (λ (x : Call). P past (event room x)) (sym c)
      (each past room whole tie (held_of (seat_at room seat)) (seat_holds (sizes_of s n) (from_empty (sizes_of s n)) past room whole tie seat key sits)))
      lents events b h (lent_with (packet_call seat bytes) out) (seen (packet_call seat bytes) seat answer out') b' (sends seat bytes out out' answer told refl refl) long
      refl by

  pub pong_sends_after_calls : (number : ℕ) → client.relay_read bytes ≡ read.packet (client.pong number)
      → Accepted (λ sent. sent ≡ []) (seen (packet_call seat bytes) seat answer out')
  pong_sends_after_calls number r =
      of_each (λ past e. Accepted (λ sent. sent ≡ []) e)
      (λ past room whole tie held sits. pong_sends (sizes_of s n) (from_empty (sizes_of s n)) past room whole tie seat (set_key held key) sits bytes number r)

  pub pong_after_calls : (number : ℕ) → client.relay_read bytes ≡ read.packet (client.pong number)
      → PongDoes (from_empty (sizes_of s n)) (past_after [] events) seat number (seen (packet_call seat bytes) seat answer out')
  pong_after_calls number r =
      of_each (λ past e. PongDoes (from_empty (sizes_of s n)) past seat number e)
      (λ past room whole tie held sits. pong_does (sizes_of s n) (from_empty (sizes_of s n)) past room whole tie seat (set_key held key) sits bytes number r)

-- ---- inside a history

module _ (s n : ℕ) (events : List Event) (b' : List ℕ) (h : History s n events b') (before : List Event) (e : Event) (later : List Event)
    (t : events ≡ before ++ (e ∷ later)) (seat : ℕ) (bytes : List ℕ) (c : e.call ≡ packet_call seat bytes)
    (key : Key) (by : sitter (from_empty (sizes_of s n)) (past_after [] before) seat ≡ client_of key) where
  pub pong_sends_in_histories : (number : ℕ) → client.relay_read bytes ≡ read.packet (client.pong number) → Accepted (λ sent. sent ≡ []) e
  pong_sends_in_histories = pong_sends_from_empty (sizes_of s n) (calls_of events) before e later (history_event s n events b' h before e later t) seat bytes c key by

  pub pong_in_histories : (number : ℕ) → client.relay_read bytes ≡ read.packet (client.pong number)
      → PongDoes (from_empty (sizes_of s n)) (past_after [] before) seat number e
  pong_in_histories = pong_does_from_empty (sizes_of s n) (calls_of events) before e later (history_event s n events b' h before e later t) seat bytes c key by

-- ---- where a key sits: after any calls, `banavoge_seat_of` tells a seat exactly if the client of the key sits there by what the host has seen, and refuses with
-- 3 exactly if it sits in none

module _ (s n : ℕ) (lents : List Lent) (events : List Event) (b : List ℕ) (h : AnyCalls s n lents events b) (key : Key) where
  pub seat_told_after_calls : (answer : ℤ) → answer ≡ seat_of_key s n b key
      → ((seat : ℕ) → (answer ≡ pos seat) ↔ (sitter (from_empty (sizes_of s n)) (past_after [] events) seat ≡ client_of key))
      × ((answer ≡ refusal_code NotSeated) ↔ ((seat : ℕ) → sitter (from_empty (sizes_of s n)) (past_after [] events) seat ≢ client_of key))
  seat_told_after_calls answer a =
      let start = from_empty (sizes_of s n) in
      let past = past_after [] events in
      let whole = (any_calls_run s n lents events b h).whole in
      let tie = any_calls_tied s n lents events b h in (
        λ seat. (λ q. found_key s n b whole start past tie key seat (sym a ∙ q), λ q. a ∙ key_found s n b whole start past tie key seat q),
        (λ q. found_nowhere s n b whole start past tie key (sym a ∙ q), λ q. a ∙ nowhere_found s n b whole start past tie key q),
      )
