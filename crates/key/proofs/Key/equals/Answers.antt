-- `Key::equals` meets its contract. Assumes nothing.
use mathlib.Core.Path.{◌∙◌}
use Rattle.key.proofs.Same.{same_pointwise}
use Rattle.key.proofs.Key.equals.Goals as goal

pub returns : goal.returns
returns c = c.eq.ensures ∙ same_pointwise c.args.self.0 c.args.other.0
