-- `in_place::equals` meets its contract. Assumes nothing.
use mathlib.Core.Path.{◌∙◌, ap₂}
use Rattle.key.specs.Keys.{same_key}
use Rattle.key.proofs.Same.{same_pointwise}
use Rattle.key.proofs.in_place.equals.Goals as goal

pub returns : goal.returns
returns c = c.eq.ensures ∙ same_pointwise c.front.result.now c.front-2.result.now ∙ ap₂ same_key c.front.ensures c.front-2.ensures
