-- `play::play_all` meets its contract. The invariant: what is left to play, with the counts so far, leads to what the whole run comes to. Assumes nothing.
use borrow.Author.Rules.{rules}
use mathlib.Core.Path.{◌∙◌}
use native.Mathlib.Omega.{arith}
use Rattle.relay.proofs.RunCases.{rests_all}
use Rattle.relay.proofs.TurnCases.{turn_last, turn_more}
use Rattle.relay.proofs.play.play_all.Goals as goal

pub returns-in-Err : goal.returns-in-Err
returns-in-Err c =
    let a = c.args in
    let l = c.loop-call in
    let next = c.play_next in
    let why = c.in-Err.why in
    let end = turn_last a.sizes.seats a.sizes.numbers a.allowance a.calls.now l.played l.read l.written l.memory l.out l.invariant.5
    l.invariant.0 l.invariant.1 l.invariant.2 next.result why _ _ next.ensures c.in-Err.is in
    rests_all a.sizes.seats a.sizes.numbers _ a.memory.now a.out.now _ _ _ (l.invariant.6 _ _ _ end)

pub overflow_add-played : goal.overflow_add-played
overflow_add-played c =
    let a = c.args in
    let l = c.loop-call in
    let next = c.play_next in
    let m = turn_more a.sizes.seats a.sizes.numbers a.allowance a.calls.now l.played l.read l.written l.memory l.out l.invariant.5
    l.invariant.0 l.invariant.1 l.invariant.2 next.result _ _ _ _ next.ensures c.in-Ok.is in
    search (rules, m.allowed)

pub overflow_add-read : goal.overflow_add-read
overflow_add-read c =
    let a = c.args in
    let l = c.loop-call in
    let next = c.play_next in
    let m = turn_more a.sizes.seats a.sizes.numbers a.allowance a.calls.now l.played l.read l.written l.memory l.out l.invariant.5
    l.invariant.0 l.invariant.1 l.invariant.2 next.result _ _ _ _ next.ensures c.in-Ok.is in
    search (rules, m.read)

pub loop-call-smaller : goal.loop-call-smaller
loop-call-smaller c =
    let a = c.args in
    let l = c.loop-call in
    let next = c.play_next in
    let m = turn_more a.sizes.seats a.sizes.numbers a.allowance a.calls.now l.played l.read l.written l.memory l.out l.invariant.5
    l.invariant.0 l.invariant.1 l.invariant.2 next.result _ _ _ _ next.ensures c.in-Ok.is in
    omega (arith, m.allowed)

pub loop-call-preserved : goal.loop-call-preserved
loop-call-preserved c =
    let a = c.args in
    let l = c.loop-call in
    let next = c.play_next in
    let m = turn_more a.sizes.seats a.sizes.numbers a.allowance a.calls.now l.played l.read l.written l.memory l.out l.invariant.5
    l.invariant.0 l.invariant.1 l.invariant.2 next.result _ _ _ _ next.ensures c.in-Ok.is in (
      m.allowed,
      omega (arith, m.read),
      (let e = m.long in let f = m.wrote in omega arith),
      m.long ∙ l.invariant.3,
      next.auto.memory ∙ l.invariant.4,
      m.still,
      λ given b' out' r. l.invariant.6 given b' out' (m.goes_on given b' out' r),
    )
