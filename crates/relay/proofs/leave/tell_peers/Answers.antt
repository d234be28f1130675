-- `leave::tell_peers` meets its contract. The invariant: the peers of the numbers passed are told. Assumes nothing.
use mathlib.Core.Path.{refl, ◌∙◌}
use Prim.Native.Nat.{◌+◌, ◌-◌, ◌≤◌}
use native.Mathlib.Omega.{arith}
use lib.ListN.{length, get_or}
use Rattle.rules.specs.Room.{free}
use Rattle.rules.specs.Outcome.{tell_peer}
use Rattle.room_laws.specs.Layout.{routes_table}
use Rattle.room_laws.specs.View.{view_room, view_routes}
use Rattle.room_laws.proofs.ViewLaws.{view_routes_length}
use Rattle.room_laws.proofs.WholeLaws.{whole_few}
use Rattle.records.proofs.AppendLaws.{appends_length}
use Rattle.relay.proofs.LeaveCases.{tells_begun, tells_more, tells_all, tells_some, tell_next}
use Rattle.relay.proofs.leave.tell_peers.Goals as goal

pub loop-place-init : goal.loop-place-init
loop-place-init c =
    let a = c.args in (
      whole_few a.sizes.seats a.sizes.numbers a.memory.now c.requires.0,
      refl,
      tells_begun (view_room a.sizes.seats a.sizes.numbers a.memory.now) a.client.seat.0 a.client.key.0
          (view_routes a.sizes.numbers (routes_table a.sizes.seats a.sizes.numbers a.memory.now a.client.seat.0)) a.out.now a.at,
    )

pub tell_peer-next-requires : goal.tell_peer-next-requires
tell_peer-next-requires c =
    let a = c.args in
    let l = c.loop-place in
    let room = view_room a.sizes.seats a.sizes.numbers a.memory.now in
    let routes = view_routes a.sizes.numbers (routes_table a.sizes.seats a.sizes.numbers a.memory.now a.client.seat.0) in
    (c.requires.0, c.requires.1, omega (arith, c.requires.2, l.invariant.1, l.invariant.2.answers, tells_some room a.client.seat.0 a.client.key.0 routes l.place), omega arith)

pub loop-place-preserved : goal.loop-place-preserved
loop-place-preserved c =
    let a = c.args in
    let l = c.loop-place in
    let t = c.tell_peer-next in
    let room = view_room a.sizes.seats a.sizes.numbers a.memory.now in
    let routes = view_routes a.sizes.numbers (routes_table a.sizes.seats a.sizes.numbers a.memory.now a.client.seat.0) in
    let long = view_routes_length a.sizes.numbers (routes_table a.sizes.seats a.sizes.numbers a.memory.now a.client.seat.0) in
    let route = get_or routes (16 + l.place - 16) free in
    let next = tell_next room a.client.seat.0 a.client.key.0 route l.out l.next t.result _ t.ensures in
    let within : t.result ≤ length l.out = omega (arith, c.requires.2, l.invariant.1, l.invariant.2.answers, tells_some room a.client.seat.0 a.client.key.0 routes l.place) in (
      l.invariant.0,
      appends_length (tell_peer room a.client.seat.0 a.client.key.0 route) l.out l.next t.result _ t.ensures within ∙ l.invariant.1,
      tells_more room a.client.seat.0 a.client.key.0 routes l.place (omega arith) a.out.now a.at (let h = c.requires.2 in omega arith) l.next t.result l.out _ l.invariant.2 t.ensures,
    )

pub returns : goal.returns
returns c =
    let a = c.args in
    let l = c.loop-place in
    let long = view_routes_length a.sizes.numbers (routes_table a.sizes.seats a.sizes.numbers a.memory.now a.client.seat.0) in
    tells_all (view_room a.sizes.seats a.sizes.numbers a.memory.now) a.client.seat.0 a.client.key.0
    (view_routes a.sizes.numbers (routes_table a.sizes.seats a.sizes.numbers a.memory.now a.client.seat.0)) l.place (omega arith) a.out.now a.at l.next l.out l.invariant.2
