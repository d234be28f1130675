-- `play::make` meets its contract: the call that was read tells the step. Assumes nothing.
use borrow.Author.Rules.{rules}
use mathlib.Core.Path.{sym, ap, subst, ◌∙◌}
use mathlib.Core.List.{List}
use Prim.Native.Nat.{ℕ, ◌+◌, ◌-◌}
use native.Mathlib.Nat.{add-sub_cancel_left}
use native.Mathlib.Omega.{arith}
use lib.ListN.{take, drop}
use Rattle.rules.specs.Call.{arrive, leave, packet_call}
use Rattle.stored.specs.Stored.{call}
use Rattle.relay.specs.PlaySteps.{Reads}
use Rattle.relay.proofs.MakeCases.{arrive_read, leave_read, packet_read, makes, key_read}
use Rattle.relay.proofs.play.make.Goals as goal

pub slice_bounds-read-end : goal.slice_bounds-read-end
slice_bounds-read-end c =
    let r = arrive_read c.args.calls.now (subst (Reads c.args.calls.now) c.in-Arrive.is c.requires.1) in
    omega (arith, r.there)

pub overflow_add-end : goal.overflow_add-end
overflow_add-end c =
    let r = packet_read c.args.calls.now _ _ (subst (Reads c.args.calls.now) c.in-Packet.is c.requires.1) in
    search (rules, r.there)

pub slice_bounds-step-end : goal.slice_bounds-step-end
slice_bounds-step-end c =
    let r = packet_read c.args.calls.now _ _ (subst (Reads c.args.calls.now) c.in-Packet.is c.requires.1) in
    omega (arith, r.there)

pub returns-in-Arrive : goal.returns-in-Arrive
returns-in-Arrive c =
    let a = c.args in
    let stored = a.calls.now in
    let r = arrive_read stored (subst (Reads stored) c.in-Arrive.is c.requires.1) in
    let key = c.read-key in
    let same = key_read stored key.result.0 r.long key.ensures in
    makes a.sizes.seats a.sizes.numbers stored a.memory.now a.out.now _ _ _ (arrive key.result.0) (r.first ∙ ap (λ (x : List ℕ). call (arrive x)) (sym same))
    c.step.ensures

pub returns-in-Leave : goal.returns-in-Leave
returns-in-Leave c =
    let a = c.args in
    let stored = a.calls.now in
    let seat = c.in-Leave.seat in
    makes a.sizes.seats a.sizes.numbers stored a.memory.now a.out.now _ _ _ (leave seat.0)
    (leave_read stored seat (subst (Reads stored) c.in-Leave.is c.requires.1)) c.step-in-Leave.ensures

pub returns-in-Packet : goal.returns-in-Packet
returns-in-Packet c =
    let a = c.args in
    let stored = a.calls.now in
    let seat = c.in-Packet.seat in
    let size = c.in-Packet.size in
    let r = packet_read stored seat size (subst (Reads stored) c.in-Packet.is c.requires.1) in
    makes a.sizes.seats a.sizes.numbers stored a.memory.now a.out.now _ _ _ (packet_call seat.0 (take (4 + size - 4) (drop 4 stored)))
    (r.first ∙ ap (λ (n : ℕ). call (packet_call seat.0 (take n (drop 4 stored)))) (sym (add-sub_cancel_left 4 size))) c.step-in-Packet.ensures
