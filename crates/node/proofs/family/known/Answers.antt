-- `node::family::known` meets its contract. Assumes nothing.
use mathlib.Core.Path.{◌∙◌}
use Rattle.node.proofs.FamilyLaws.{known_named}
use Rattle.node.proofs.family.known.Goals as goal

pub returns : goal.returns
returns c = c.is_ok.ensures.value ∙ known_named c.args.family c.try_from.result c.try_from.ensures
