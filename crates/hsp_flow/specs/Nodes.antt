-- How many nodes the network of an instance has, and that a frontier may be asked for them.
use Rattle.std.specs.Prelude.{ℕ, ◌+◌, length}
use Rattle.hsp_instance.specs.Instance.{Instance}
use Rattle.hsp_network.specs.Nodes.{MayHaveUpTo}

-- the rows, the servers, the hosts and the sink
abbrev pub nodes_of : Instance → ℕ
nodes_of it = length it.rows + length it.servers + length it.hosts + 1

-- so many nodes may be asked for
abbrev pub MayHaveNodesOf : (ℕ → Type 0) → Instance → Type 0
MayHaveNodesOf may_have it = MayHaveUpTo may_have (nodes_of it)
