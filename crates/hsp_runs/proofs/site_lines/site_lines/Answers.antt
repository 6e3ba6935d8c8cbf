use Rattle.hsp_names.specs.Lent.{octets_of}
use Rattle.hsp_runs.specs.Locate.{site_lines}
use Rattle.hsp_runs.proofs.Printing.{site_more}
use Rattle.hsp_runs.proofs.site_lines.site_lines.Goals as goal

pub loop-number-preserved : goal.loop-number-preserved
loop-number-preserved c =
    site_more c.loop-number.text.items c.push_site.new.out.items (site_lines (octets_of c.args.handle) c.args.sites.now)
    (octets_of c.args.handle) c.loop-number.number c.args.sites.now c.in_ok-push_site.ensures
    c.loop-number.invariant
