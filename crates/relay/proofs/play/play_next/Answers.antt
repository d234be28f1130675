-- `play::play_next` meets its contract: the grounds to stop in their order, then the call and its head. Assumes nothing.
use Rattle.std.proofs.Common.{◌≤◌, refl, sym, ap₂, ◌∙◌}
use native.Mathlib.Omega.{arith}
use borrow.Author.Tests.{eqb-true, eqb-false}
use lib.ListN.{length}
use Rattle.rules.specs.History.{event}
use Rattle.room_laws.specs.View.{view_room}
use Rattle.records.proofs.EntryLaws.{entry_within}
use Rattle.std.proofs.Common.{◌≡◌, None, Err}
use Rattle.relay.proofs.TurnCases.{took}
use Rattle.relay.specs.declared.play.Stop.TheVariants.{End, NoCall, Allowance, Output}
use Rattle.relay_laws.specs.Calls.{answer_of}
use Rattle.relay.specs.Play.{entry_bytes}
use Rattle.relay.specs.PlaySteps.{stopped, played}
use Rattle.relay.proofs.PlayLaws.{least_space_lem, next_end, next_allowance, next_no_call, next_output, next_plays}
use Rattle.relay.proofs.MakeCases.{read_as, call_read, none_read}
use Rattle.relay.proofs.NextCases.{length_back, entry_fits, length_entry, entry_written}
use Rattle.relay.proofs.play.play_next.Goals as goal

pub returns-then-is_empty : goal.returns-then-is_empty
returns-then-is_empty c =
    let a = c.args in
    stopped End (next_end a.allowance a.calls.now (length a.out.now) (eqb-true _ _ (sym c.is_empty.ensures ∙ c.if-is_empty.true))) refl refl refl

pub returns-then-allowance-eq0 : goal.returns-then-allowance-eq0
returns-then-allowance-eq0 c =
    let a = c.args in
    stopped Allowance (next_allowance a.allowance a.calls.now (length a.out.now) (eqb-false _ _ (sym c.is_empty.ensures ∙ c.if-is_empty.false)) c.if-allowance-eq0.true) refl refl refl

pub returns-in_err-call : goal.returns-in_err-call
returns-in_err-call c =
    let a = c.args in
    let none : c.read.result ≡ None = grind arith in
    let why : c.from_residual.result ≡ Err NoCall = grind arith in
    let e = none_read a.calls.now (sym none ∙ c.read.ensures) in
    stopped NoCall (next_no_call a.allowance a.calls.now (length a.out.now) (eqb-false _ _ (sym c.is_empty.ensures ∙ c.if-is_empty.false)) c.if-allowance-eq0.false e) why refl refl

pub returns-then-out-lt-LEAST_SPACE : goal.returns-then-out-lt-LEAST_SPACE
returns-then-out-lt-LEAST_SPACE c =
    let a = c.args in
    let some : c.read.result ≡ read_as c.in_ok-call.call c.in_ok-call.read = grind arith in
    let q = call_read a.calls.now _ _ (sym some ∙ c.read.ensures) in
    stopped Output (next_output a.allowance a.calls.now (length a.out.now) (eqb-false _ _ (sym c.is_empty.ensures ∙ c.if-is_empty.false)) c.if-allowance-eq0.false q.made q.first (omega (arith, c.if-out-lt-LEAST_SPACE.true, least_space_lem q.made))) refl refl refl

pub returns : goal.returns
returns c =
    let a = c.args in
    let make = c.make-answer in
    let some : c.read.result ≡ read_as c.in_ok-call.call c.in_ok-call.read = grind arith in
    let q = call_read a.calls.now _ _ (sym some ∙ c.read.ensures) in
    let long : 4 ≤ length a.out.now = omega arith in
    let left = make.ensures q.made q.first in
    let kept = make.auto.out in
    let new = make.new.out in
    let given = answer_of make.result in
    let size = length_entry a.sizes.seats a.sizes.numbers a.memory.now q.made given a.out.now new make.new.memory long left kept in
    let fits = entry_fits a.sizes.seats a.sizes.numbers a.memory.now q.made given a.out.now new make.new.memory long left kept in
    let write = entry_within given fits c.write-written.ensures in
    let back = length_back a.sizes.seats a.sizes.numbers a.memory.now q.made given a.out.now new make.new.memory long left kept in
    played q.made (entry_bytes (event (view_room a.sizes.seats a.sizes.numbers a.memory.now) q.made)) refl
    (next_plays a.allowance a.calls.now (length a.out.now) (eqb-false _ _ (sym c.is_empty.ensures ∙ c.if-is_empty.false)) c.if-allowance-eq0.false q.made q.first (omega (arith, c.if-out-lt-LEAST_SPACE.false, least_space_lem q.made)))
    (ap₂ took q.takes (write.0 ∙ sym size)) left.stores (omega arith)
    (write.1 ∙ entry_written a.sizes.seats a.sizes.numbers a.memory.now q.made given a.out.now new make.new.memory long left kept)
