-- The network of an instance is within the limits of the instance.
use Rattle.std.proofs.Common.{◌≡◌, ℕ, ◌+◌, ◌<◌, ◌≤◌, ◌∙◌, List, [], ◌∷◌, length, map, All, slice_index_or, Some, None}
use Rattle.std.proofs.Common.{refl, subst, sym, arith}
use Rattle.std.specs.List.{AllByRecursion}
use Rattle.std.proofs.lemmas.List.{get_or-map, length-map}
use Rattle.std.proofs.lemmas.List.Elements.{All-append, All-map, All-nil, All-from_recursion}
use Rattle.std.proofs.lemmas.Option.{slice_get_within}
use Rattle.hsp_instance.specs.declared.arc.Arc.{Arc}
use Rattle.hsp_instance.specs.Instance.{Instance, Row, Server, Host, IsInstance, IsServer, IsHostOf, AreArcs, IsArc}
use Rattle.hsp_check.specs.declared.arc.NetworkArc.{NetworkArc}
use Rattle.hsp_check.specs.declared.numbers.NetworkNumbers.{NetworkNumbers}
use Rattle.hsp_check.specs.declared.sums.ArcFlow.{ArcFlow}
use Rattle.hsp_check.specs.Network.{IsNetwork}
use Rattle.hsp_check.specs.Reach.{network_with}
use Rattle.hsp_check.specs.Instance.{arc_of, arcs_from, network_of}

-- a row and a server that are there, and no greater cost than the limit
pub record IsWithin (rows servers : ℕ) (a : NetworkArc) : Type 0 where
  pub row : a.row < rows
  pub server : a.server < servers
  pub cost : a.cost ≤ 1000000

-- arcs lead from rows to servers that are there
arcs_within : (servers : List Server) (i rows : ℕ) (lists : List (List Arc)) → AllByRecursion (AreArcs servers) lists
    → i + length lists ≤ rows → All (IsWithin rows (length servers)) (arcs_from i lists)
arcs_within servers i rows [] each few = All-nil (IsWithin rows (length servers))
arcs_within servers i rows (arcs ∷ lists) each few =
    All-append (IsWithin rows (length servers)) (map (arc_of i) arcs) (arcs_from (i + 1) lists)
    (All-map (IsWithin rows (length servers)) (arc_of i) arcs (λ k d l.
    let is = All-from_recursion (IsArc servers) arcs each.0.each k d l in
    record {
      row = omega arith;
      server = slice_get_within servers (slice_index_or arcs k d).server is.server is.is_server;
      cost = is.cost;
    }))
    (arcs_within servers (i + 1) rows lists each.1 (omega arith))

-- each arc of an instance's network does
pub all_within : (it : Instance) → IsInstance it
    → All (IsWithin (length (network_of it).demands) (length (network_of it).capacities)) (network_of it).arcs
all_within it is =
    rw (length-map it.rows (λ (r : Row). r.count), length-map it.servers (λ (s : Server). s.capacity))
    (arcs_within it.servers 0 (length it.rows) it.arcs is.arcs (omega (arith, is.one_list_a_row)))

-- each host of a server is a listed one
hosts_there : (it : Instance) → IsInstance it → (j h : ℕ) → j < length (network_of it).capacities
    → (network_of it).host_of j ≡ Some h → h < length (network_of it).limits
hosts_there it is j h l on =
    let no_server : Server = record { site = 0; place = 0; id = 0; capacity = 0; host = None } in
    let inside : j < length it.servers = rw (length-map it.servers (λ (s : Server). s.capacity)) at l in
    let host : (slice_index_or it.servers j no_server).host ≡ Some h =
    sym (get_or-map (λ (s : Server). s.host) it.servers j no_server None inside) ∙ on in
    let server =
    All-from_recursion (IsServer it.sites (length it.hosts)) it.servers is.servers.each j no_server inside in
    rw (length-map it.hosts (λ (h : Host). h.limit)) (subst (λ o. IsHostOf (length it.hosts) o) host server.host)

-- an instance has a network whose numbers fit
pub is_network : (it : Instance) → IsInstance it → IsNetwork (network_of it)
is_network it is =
    let arcs = all_within it is in
    record { sources = λ k d l. (arcs k d l).row; servers = λ k d l. (arcs k d l).server; hosts = hosts_there it is }

-- no arc costs more than a million
pub are_cheap : (it : Instance) → IsInstance it → All (λ a. a.cost ≤ 1000000) (network_of it).arcs
are_cheap it is k d l = (all_within it is k d l).cost

-- the numbers and the arcs of an instance are its network
pub network : (it : Instance) (numbers : NetworkNumbers) (arc_flows : List ArcFlow)
    → numbers.demands.items ≡ map (λ r. r.count) it.rows → numbers.capacities.items ≡ map (λ s. s.capacity) it.servers →
    numbers.limits.items ≡ map (λ h. h.limit) it.hosts → numbers.server_hosts.items ≡ map (λ s. s.host) it.servers
    → map (λ l. l.arc) arc_flows ≡ arcs_from 0 it.arcs → network_with numbers arc_flows ≡ network_of it
network it numbers arc_flows demands capacities limits server_hosts arcs =
    rw (demands, capacities, limits, server_hosts, arcs) refl
