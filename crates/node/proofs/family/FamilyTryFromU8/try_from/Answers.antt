-- `Family::try_from` meets its contract: a byte of no row is unknown. Assumes nothing.
use mathlib.Core.Path.{refl}
use borrow.Author.Rules.{rules}
use Rattle.node.proofs.FamilyLaws.{unknown_family}
use Rattle.node.proofs.family.FamilyTryFromU8.try_from.Goals as goal

pub returns-in_default : goal.returns-in_default
returns-in_default c = (refl, unknown_family c.args.byte (search rules) (search rules) (search rules) (search rules))
