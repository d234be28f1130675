-- `node::family::address_length` meets its contract. Assumes nothing.
use Rattle.std.proofs.lemmas.Result.{MatchResult-weaker}
use Rattle.node.proofs.FamilyLaws.{length_named}
use Rattle.node.proofs.family.address_length.Goals as goal

pub returns-clause-value : goal.returns-clause-value
returns-clause-value c =
    length_named c.args.family c.map_or.result c.try_from.result c.try_from.ensures
    (MatchResult-weaker c.try_from.result c.map_or.ensures (λ family is. is.0) (λ why is. is))
