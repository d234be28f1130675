-- `request::step` meets its contract: the comparison with the client's own key, and then the two lookups, decide as the rules do. Assumes nothing.
use Rattle.room_laws.specs.Lookup.{route_wanting, lowest_route}
use Rattle.records.specs.Output.{none, given}
use Rattle.relay_laws.specs.Calls.{answer_of}
use Rattle.relay.proofs.RequestCases.{request_own, request_old, request_full, request_given, number_right_lem}
use Rattle.relay.proofs.request.step.Goals as goal

pub answer_only-requires : goal.answer_only-requires
answer_only-requires c = (c.requires.2, none)

pub returns-then-equals : goal.returns-then-equals
unfolding answer_of
returns-then-equals c =
    let a = c.args in
    let same = c.equals in
    let w = c.answer_only in
    request_own a.sizes.seats a.sizes.numbers a.memory.now a.client.seat.0 a.client.key.0 a.wanted.0 same.result same.ensures c.if-equals.true
    a.out.now (answer_of w.result) w.new.out w.ensures

pub answer_only-requires-in-Some : goal.answer_only-requires-in-Some
answer_only-requires-in-Some c =
    let a = c.args in
    let look = c.number_of in
    let old = c.in-Some in
    (c.requires.2, given old.old.0 (number_right_lem (route_wanting a.sizes.seats a.sizes.numbers a.memory.now a.client.seat.0 a.wanted.0) look.result look.ensures old.old old.is))

pub returns-in-Some : goal.returns-in-Some
unfolding answer_of
returns-in-Some c =
    let a = c.args in
    let same = c.equals in
    let look = c.number_of in
    let old = c.in-Some in
    let w = c.answer_only-in-Some in
    request_old a.sizes.seats a.sizes.numbers a.memory.now a.client.seat.0 a.client.key.0 a.wanted.0 c.requires.0 c.requires.1
    same.result same.ensures c.if-equals.false a.out.now w.new.out look.result look.ensures
    old.old old.is (answer_of w.result) w.ensures

pub answer_only-requires-in_default-lowest_free : goal.answer_only-requires-in_default-lowest_free
answer_only-requires-in_default-lowest_free c = (c.requires.2, none)

pub returns-in_default-lowest_free : goal.returns-in_default-lowest_free
unfolding answer_of
returns-in_default-lowest_free c =
    let a = c.args in
    let same = c.equals in
    let look = c.number_of in
    let look-free = c.lowest_free in
    let w = c.answer_only-in_default-lowest_free in
    request_full a.sizes.seats a.sizes.numbers a.memory.now a.client.seat.0 a.client.key.0 a.wanted.0 c.requires.0 c.requires.1
    same.result same.ensures c.if-equals.false a.out.now w.new.out look.result look.ensures c.in_default.is
    look-free.result look-free.ensures c.in_default-lowest_free.is (answer_of w.result) w.ensures

pub give-bytes-requires : goal.give-bytes-requires
give-bytes-requires c =
    let a = c.args in
    let look = c.lowest_free in
    let number = c.in-Some-lowest_free in
    ((c.requires.0, c.requires.2), number_right_lem (lowest_route a.sizes.seats a.sizes.numbers a.memory.now a.client.seat.0) look.result look.ensures number.number number.is)

pub returns : goal.returns
unfolding answer_of
returns c =
    let a = c.args in
    let same = c.equals in
    let look = c.number_of in
    let look-free = c.lowest_free in
    let number = c.in-Some-lowest_free in
    let g = c.give-bytes in
    request_given a.sizes.seats a.sizes.numbers a.memory.now a.client.seat.0 a.client.key.0 a.wanted.0 c.requires.0 c.requires.1
    same.result same.ensures c.if-equals.false a.out.now g.new.out look.result look.ensures
    c.in_default.is look-free.result look-free.ensures g.result number.number number.is g.new.memory g.ensures
