-- `banavoge_arrive` meets its contract: that of `relay`, with its answer as one number and a seat. Assumes nothing.
use mathlib.Core.Path.{◌≡◌, ◌∙◌, sym, ap, ap₂}
use mir.Syntax.{w32}
use mir.ValLaws.{to_z-of_z}
use Rattle.std.proofs.Common.{Result}
use Rattle.refusal.specs.declared.Refusal.{Refusal}
use Rattle.records.specs.declared.Accepted.{Accepted}
use Rattle.relay_laws.specs.Calls.{answer_of}
use Rattle.banavoge_laws.specs.RelayCalls.{count_code, seat_after, told, arrival_told}
use Rattle.banavoge_laws.proofs.RelayCounts.{call_counted}
use Rattle.banavoge.proofs.relay_calls.banavoge_arrive.Goals as goal
use Rattle.banavoge.proofs.relay_calls.banavoge_arrive.Goals.{in-Ok, in_default}

pub count_of-requires : goal.count_of-requires
count_of-requires c =
    let same : c.match-given.given ≡ c.arrive-given.result = elim c.match-given.branch [ in-Ok w ↦ w.given-is ∙ sym w.in-Ok.is | in_default w ↦ w.given-is ] in
    rw same (call_counted _ _ _ _ _ _ c.arrive-given.ensures.leaves)

pub returns : goal.returns
unfolding arrival_told seat_after answer_of
returns c =
    let same : c.match-given.given ≡ c.arrive-given.result = elim c.match-given.branch [ in-Ok w ↦ w.given-is ∙ sym w.in-Ok.is | in_default w ↦ w.given-is ] in
    let before = c.args.seat.now in
    let seat : c.match-given.seat ≡ seat_after (answer_of c.arrive-given.result) before =
    elim c.match-given.branch [
      | in-Ok w ↦ w.seat-is ∙ sym (ap (λ (x : Result Accepted Refusal). seat_after (answer_of x) before) w.in-Ok.is)
      | in_default w ↦ w.seat-is ∙ sym (ap (λ (x : Result Accepted Refusal). seat_after (answer_of x) before) w.in_default.is)
    ] in
    record {
      given = answer_of c.arrive-given.result;
      relates = c.arrive-given.ensures;
      codes =
          ap₂ told
          (to_z-of_z w32 c.count_of.result (record { sfits = c.count_of.type_inv }) ∙ c.count_of.ensures
          ∙ ap (λ (x : Result Accepted Refusal). count_code (answer_of x)) same)
          seat;
    }
