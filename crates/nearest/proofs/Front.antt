-- What a place past the end of a list of nodes counts as.
use mathlib.Core.List.{[]}
use Rattle.node.specs.declared.Node.{Node}

abbrev pub no_node : Node
no_node = record { family = 0; address = []; port = 0; key = record { 0 = [] } }
