use Rattle.std.proofs.Common.{◌<◌, ◌≤◌, [], length, arith}
use Rattle.std.proofs.lemmas.List.{take_all}
use Rattle.hsp_instance.specs.Instance.{regions_of}
use Rattle.hsp_price_text.specs.declared.certificate.PriceCertificate.TheVariants.{Plan}
use Rattle.hsp_price_report.specs.RegionReport.{region_line}
use Rattle.hsp_price_report.proofs.Lines.{line_next}
use Rattle.hsp_price_report.proofs.regions.push_regions.Goals as goal

pub loop-number-preserved : goal.loop-number-preserved
loop-number-preserved c = λ at plan rows is.
    let many = c.regions-number-end.ensures.rows at (Plan plan) rows is.passed in
    let inside : c.loop-number.number < length (regions_of rows) = omega (arith, many, c.loop-number-test.true) in
    line_next (region_line at plan rows) c.args.out.now.items c.loop-number.out.items _ (regions_of rows)
    c.loop-number.number [] inside (c.loop-number.invariant at plan rows is)
    (c.in_ok-push_region.ensures at plan rows is)

pub returns : goal.returns
returns c = λ at plan rows is.
    let many = c.regions-number-end.ensures.rows at (Plan plan) rows is.passed in
    let all : length (regions_of rows) ≤ c.loop-number.number = omega (arith, many, c.loop-number-test.false) in
    rw (take_all c.loop-number.number (regions_of rows) all) at (c.loop-number.invariant at plan rows is)
