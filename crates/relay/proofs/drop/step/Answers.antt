-- `drop::step` meets its contract: no route, or the peer told and the route freed. Assumes nothing.
use Rattle.std.proofs.Common.{◌≡◌, Some, None, Err, arith}
use Rattle.refusal.specs.declared.Refusal.TheVariants.{NoSuchRoute}
use Rattle.relay_laws.specs.Calls.{answer_of}
use Rattle.relay.proofs.DropCases.{drop_none, drop_high, drop_route_lem}
use Rattle.relay.proofs.drop.step.Goals as goal

pub returns-in_err-ok_or : goal.returns-in_err-ok_or
unfolding answer_of
returns-in_err-ok_or c =
    let a = c.args in
    let none : c.wanted_by.result ≡ None = grind arith in
    let why : c.from_residual.result ≡ Err NoSuchRoute = grind arith in
    rw why (drop_none a.sizes.seats a.sizes.numbers a.memory.now c.requires.0 a.client.seat.0 a.client.key.0 c.requires.1 a.number.0
    c.wanted_by.result c.wanted_by.ensures none a.out.now)

pub tell_peer-bytes-requires : goal.tell_peer-bytes-requires
tell_peer-bytes-requires c =
    let a = c.args in
    let some : c.wanted_by.result ≡ Some c.in_ok-ok_or.field-0 = grind arith in (
      c.requires.0,
      c.requires.1,
      (let long = c.requires.2 in omega arith),
      drop_high a.sizes.seats a.sizes.numbers a.memory.now c.requires.0 a.client.seat.0 a.client.key.0 c.requires.1 a.number.0
          c.wanted_by.result c.wanted_by.ensures _ some,
    )

pub returns : goal.returns
unfolding answer_of
returns c =
    let a = c.args in
    let some : c.wanted_by.result ≡ Some c.in_ok-ok_or.field-0 = grind arith in
    drop_route_lem a.sizes.seats a.sizes.numbers a.memory.now c.requires.0 a.client.seat.0 a.client.key.0 c.requires.1 a.number.0
    c.wanted_by.result c.wanted_by.ensures _ some a.out.now _ _ _ c.tell_peer-bytes.ensures c.free_route.ensures
