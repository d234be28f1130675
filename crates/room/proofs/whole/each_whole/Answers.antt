-- `whole::each_whole` meets its contract. Assumes nothing.
use Rattle.std.proofs.Common.{rules, tests, ltb, ◌&&◌, ◌∙◌}
use Rattle.std.proofs.lemmas.Iterator.{YieldsList-from_slice}
use Rattle.std.proofs.lemmas.Iterator.Search.{all_from_yields_List}
use Rattle.room_laws.specs.Whole.{seat_whole}
use Rattle.room.proofs.WholeSteps.{seats_listed}
use Rattle.room.proofs.whole.each_whole.Goals as goal

pub returns : goal.returns
returns c =
    let r = c.args.room in
    all_from_yields_List (λ i. ltb i r.sizes.seats && seat_whole r.sizes.seats r.sizes.numbers r.memory.now i) _ _ _ c.all.ensures.ran
    (YieldsList-from_slice c.used.result.now cc) (λ x b q k. search (rules, tests))
    ∙ rw (c.used.ensures, c.seats.ensures) (seats_listed _ _ _ r.long c.requires)
