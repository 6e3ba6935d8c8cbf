use Rattle.hsp_plan_tests.proofs.judging.pass.Goals as goal

pub returns : goal.returns
returns c =
    let at = c.requires.0 in
    let certificate = c.requires.1 in
    let rows = c.requires.2 in
    (at, certificate, _, c.in_ok-add.ensures.passed at certificate rows c.requires.3)
