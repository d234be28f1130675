-- `request::answer_only` meets its contract. Assumes nothing.
use native.Mathlib.Omega.{arith}
use Rattle.records.proofs.Fits.{response_fits}
use Rattle.relay_laws.specs.Calls.{answer_of}
use Rattle.relay.proofs.RequestCases.{carries_answer}
use Rattle.relay.proofs.request.answer_only.Goals as goal

pub returns : goal.returns
unfolding answer_of
returns c =
    let a = c.args in
    let w = c.response-bytes in
    carries_answer a.seat.0 a.number.0 a.wanted.0 a.out.now w.result w.new.out
    (response_fits a.number.0 a.wanted.0 c.requires.1 (let long = c.requires.0 in omega arith) w.ensures)
