-- What happens from a room on is the same for C by any two pasts that say what the room's tables say: its record, what it is handed and what its calls are answered.
-- Assumes nothing.
use mathlib.Core.Path.{◌≡◌, refl, sym, ap, ap₂, fun_ext, ◌∙◌}
use mathlib.Core.Bool.{Bool, true, false}
use mathlib.Core.List.{List, [], ◌∷◌, ◌++◌}
use Prim.Native.Nat.{ℕ}
use Rattle.key.specs.Keys.{same_key}
use Rattle.rules.specs.Room.{Sizes, Key, Room}
use Rattle.rules.specs.Whole.{Whole}
use Rattle.rules.specs.Call.{Call, arrive, leave, packet_call, tick, Answer, Sent}
use Rattle.rules.specs.Outcome.{outcome, room_after}
use Rattle.rules.specs.History.{Event, event, transcript}
use Rattle.rules.specs.Transcript.{Past, Maker, nobody, client_of, is_client, Start, is_accepted, put_out_if, put_out, maker, sitter}
use Rattle.rules.specs.After.{Tied}
use Rattle.isolation.specs.Record.{Entry, made_by, of_tick, entries_by, entries, record_for, handed, packets_for, answer_if, answers_for, SameFor}
use Rattle.rules.proofs.Whole.{whole_after}
use Rattle.rules.proofs.SeatedLaws.{seated_found}
use Rattle.rules.proofs.Tied.{tied_after}
use Rattle.rules.proofs.TiedTick.{put_out_lem}
use Rattle.isolation.proofs.ViewLaws.{handed_law}

module _ (c : Key) (start₁ start₂ : Start) (past₁ past₂ : Past) (room : Room) (tie₁ : Tied start₁ past₁ room) (tie₂ : Tied start₂ past₂ room) where
  same_sitter : (seat : ℕ) → sitter start₁ past₁ seat ≡ sitter start₂ past₂ seat
  same_sitter seat = tie₁.sits seat ∙ sym (tie₂.sits seat)

  pub same_maker : (call : Call) → maker start₁ past₁ call ≡ maker start₂ past₂ call
  unfolding maker
  same_maker (arrive key) = refl
  same_maker (leave seat) = same_sitter seat
  same_maker (packet_call seat bytes) = same_sitter seat
  same_maker (tick time number) = refl

  same_put_out : (call : Call) (answer : Answer) → put_out start₁ past₁ call answer ≡ put_out start₂ past₂ call answer
  unfolding put_out
  same_put_out (arrive key) answer = refl
  same_put_out (leave seat) answer = refl
  same_put_out (packet_call seat bytes) answer = refl
  same_put_out (tick time number) answer = go (is_accepted answer)
    where
      go : (t : Bool) → put_out_if t start₁ past₁ time ≡ put_out_if t start₂ past₂ time
      go true = put_out_lem start₁ past₁ room tie₁ time ∙ sym (put_out_lem start₂ past₂ room tie₂ time)
      go false = unfold put_out_if in refl

  same_by : (m : Maker) (e : Event) → entries_by m start₁ past₁ c e ≡ entries_by m start₂ past₂ c e
  unfolding entries_by
  same_by nobody e = ap (of_tick e.call) (same_put_out e.call e.answer)
  same_by (client_of key) e =
      ap₂ (λ (seated : Bool) (names : ℕ → Bool). made_by (same_key key c) seated c key e names)
      (seated_found start₁ past₁ room tie₁ key ∙ sym (seated_found start₂ past₂ room tie₂ key))
      (fun_ext (λ number. tie₁.requests key number c ∙ sym (tie₂.requests key number c)))

  pub same_entries : (e : Event) → entries start₁ past₁ c e ≡ entries start₂ past₂ c e
  unfolding entries
  same_entries e = ap (λ (m : Maker). entries_by m start₁ past₁ c e) (same_maker e.call) ∙ same_by (maker start₂ past₂ e.call) e

  pub same_handed : (sent : List Sent) → handed start₁ past₁ c sent ≡ handed start₂ past₂ c sent
  same_handed sent = handed_law start₁ past₁ room tie₁ c sent ∙ sym (handed_law start₂ past₂ room tie₂ c sent)

pub same_by_tables : (sizes : Sizes) (c : Key) (start₁ start₂ : Start) (past₁ past₂ : Past) (room : Room) → Whole sizes room → Tied start₁ past₁ room → Tied start₂ past₂ room
    → (calls : List Call) → SameFor c start₁ past₁ (transcript sizes room calls) start₂ past₂ (transcript sizes room calls)
unfolding transcript event record_for packets_for answers_for
same_by_tables sizes c start₁ start₂ past₁ past₂ room whole tie₁ tie₂ [] = record { records = refl; packets = refl; answers = refl }
same_by_tables sizes c start₁ start₂ past₁ past₂ room whole tie₁ tie₂ (call ∷ calls) =
    let e = event room call in
    let later =
    same_by_tables sizes c start₁ start₂ (e ∷ past₁) (e ∷ past₂) (room_after sizes room (outcome room call)) (whole_after sizes room whole call) (tied_after sizes start₁ past₁ room whole tie₁ call) (tied_after sizes start₂ past₂ room whole tie₂ call) calls in
    record {
      records = ap₂ (λ (a b : List Entry). a ++ b) (same_entries c start₁ start₂ past₁ past₂ room tie₁ tie₂ e) later.records;
      packets = ap₂ (λ (a b : List (List ℕ)). a ++ b) (same_handed c start₁ start₂ past₁ past₂ room tie₁ tie₂ e.sent) later.packets;
      answers = ap₂ (λ (m : Maker) (b : List Answer). answer_if (is_client c m) e.answer ++ b) (same_maker c start₁ start₂ past₁ past₂ room tie₁ tie₂ call) later.answers;
    }
