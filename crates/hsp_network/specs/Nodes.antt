-- How many nodes a network has, and how many a frontier may be asked for.
use Rattle.std.specs.Prelude.{ℕ, ◌+◌, ◌≤◌, length}
use Rattle.hsp_network.specs.Network.{Transport}
use Rattle.hsp_network.specs.Layout.{first_of}

-- the sink, the hosts, the servers and the sources
abbrev pub nodes_of : Transport → ℕ
nodes_of net = first_of net + length net.demands

-- `greatest_cost` nodes may be asked for, and fewer
abbrev pub MayHaveUpTo : (ℕ → Type 0) → ℕ → Type 0
MayHaveUpTo may_have greatest_cost = (nodes : ℕ) → nodes ≤ greatest_cost → may_have nodes
