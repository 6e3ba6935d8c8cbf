use Rattle.hsp_check.proofs.InstanceNetwork.{is_network}
use Rattle.hsp_check.proofs.laws.instances_are_networks.Goals as goal

pub returns : goal.returns
returns c = is_network
