-- `Key::shown` meets its contract: a key by value is 32 bytes. Assumes nothing.
use Rattle.key.proofs.Owned.{is_key}
use Rattle.key.proofs.Key.shown.Goals as goal

pub returns-clause-fits : goal.returns-clause-fits
returns-clause-fits c = is_key c.args.self c.well_formed.0.0 c.well_formed.0.1.1
