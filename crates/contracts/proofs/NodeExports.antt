-- The exports on nodes. Each contract is what stands here, and asks nothing of the caller. Assumes nothing.
use lib.ListN.{drop}
use Rattle.node.specs.Nodes.{read_node}
use Rattle.node.specs.Steps.{step_of}
use Rattle.node.specs.Written.{WritesNode}
use Rattle.banavoge_laws.specs.Answers.{OfBytes, ToldAs}
use Rattle.banavoge_laws.specs.Nodes.{node_places, node_given, ReadsNode, StepsNode, node_written_code}
use Rattle.banavoge.proofs.nodes.banavoge_node_read.Kinds as node-read-kinds
use Rattle.banavoge.proofs.nodes.banavoge_node_read.Reads as node-read-reads
use Rattle.banavoge.proofs.nodes.banavoge_nodes_step.Kinds as nodes-step-kinds
use Rattle.banavoge.proofs.nodes.banavoge_nodes_step.Reads as nodes-step-reads
use Rattle.banavoge.proofs.nodes.banavoge_node_write.Kinds as node-write-kinds
use Rattle.banavoge.proofs.nodes.banavoge_node_write.Reads as node-write-reads
use Rattle.contracts.specs.Promises.{Promises}

pub banavoge_node_read_lem : Promises 6 node-read-kinds.ps node-read-kinds.r node-read-reads.Asked node-read-reads.Post
    (λ κs (bytes, (at, (family, (address, (port, (key, (next, _))))))) answer (_, (_, (family', (address', (port', (key', (next', _))))))).
    OfBytes bytes.now (ReadsNode at (read_node (drop at bytes.now)) answer (node_places family.now address.now port.now key.now next.now) (node_places family'.now address'.now port'.now key'.now next'.now)))
banavoge_node_read_lem = record { asks_nothing = λ κs args. tt; gives = λ κs args answer left p. p }

pub banavoge_nodes_step_lem : Promises 6 nodes-step-kinds.ps nodes-step-kinds.r nodes-step-reads.Asked nodes-step-reads.Post
    (λ κs (list, (place, (count, (family, (address, (port, (key, (next, _)))))))) answer (_, (_, (_, (family', (address', (port', (key', (next', _)))))))).
    OfBytes list.now (StepsNode place (step_of list.now place count) answer (node_places family.now address.now port.now key.now next.now) (node_places family'.now address'.now port'.now key'.now next'.now)))
banavoge_nodes_step_lem = record { asks_nothing = λ κs args. tt; gives = λ κs args answer left p. p }

pub banavoge_node_write_lem : Promises 3 node-write-kinds.ps node-write-kinds.r node-write-reads.Asked node-write-reads.Post
    (λ κs (family, (address, (port, (key, (out, _))))) answer (_, (_, (_, (_, (out', _))))).
    ToldAs node_written_code (WritesNode (node_given family address.now port key.now) out.now out'.now) answer)
banavoge_node_write_lem = record { asks_nothing = λ κs args. tt; gives = λ κs args answer left p. p }
