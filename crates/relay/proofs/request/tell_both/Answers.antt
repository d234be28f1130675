-- `request::tell_both` meets its contract: one notification behind the other. Assumes nothing.
use native.Mathlib.Omega.{arith}
use Rattle.records.proofs.AppendLaws.{appends_length}
use Rattle.records.proofs.Fits.{connected_fits}
use Rattle.relay.proofs.RequestCases.{connected_next, tells_nobody, tells_both}
use Rattle.room.proofs.PeersFound.{joined_right}
use Rattle.relay.proofs.request.tell_both.Goals as goal

pub returns-in_default : goal.returns-in_default
returns-in_default c =
    let a = c.args in
    tells_nobody a.seat.0 a.number.0 a.peer c.in_default.is a.out.now a.at

pub returns : goal.returns
returns c =
    let a = c.args in
    let w = c.connected-next in
    let other = c.in-Some.peer in
    let theirs = joined_right a.peer other c.in-Some.is c.requires.2 in
    let first = connected_fits a.number.0 c.requires.1 (let long = c.requires.0 in omega arith) w.ensures in
    let next = connected_next a.seat.0 a.number.0 a.out.now a.at w.result w.new.out first in
    let same = appends_length _ a.out.now a.at w.result w.new.out first (let long = c.requires.0 in omega arith) in
    tells_both a.seat.0 a.number.0 a.peer other c.in-Some.is theirs a.out.now a.at w.result c.connected.result w.new.out c.connected.new.out
    (let long = c.requires.0 in omega arith) first (connected_fits other.number.0 theirs (let long = c.requires.0 in omega arith) c.connected.ensures)
