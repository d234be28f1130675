-- `NearestList::remove` meets its contract: it holds the list by value. Assumes nothing.
use Rattle.nearest.proofs.Owned.{is_list}
use Rattle.nearest.proofs.NearestList.remove.Goals as goal

pub take_out-answer-requires : goal.take_out-answer-requires
take_out-answer-requires c = is_list c.args.self c.well_formed.0.0 c.well_formed.0.1.1
