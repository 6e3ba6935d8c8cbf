use Rattle.hsp_runs.proofs.Always.{reads_named}
use Rattle.hsp_runs.proofs.checking.certificate_in.Goals as goal

pub returns-clause-always : goal.returns-clause-always
returns-clause-always c =
    reads_named c.args.octets.now _ c.read_cert.result c.named.result c.named.ensures c.read_cert.ensures.only
