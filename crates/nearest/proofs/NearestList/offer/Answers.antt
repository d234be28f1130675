-- `NearestList::offer` meets its contract: it holds the list by value. Assumes nothing.
use Rattle.nearest.proofs.Owned.{is_list}
use Rattle.nearest.proofs.NearestList.offer.Goals as goal

pub keep-answer-requires : goal.keep-answer-requires
keep-answer-requires c = is_list c.args.self c.well_formed.0.0 c.well_formed.0.1.1
