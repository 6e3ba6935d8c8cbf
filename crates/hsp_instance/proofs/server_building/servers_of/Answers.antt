use Rattle.std.proofs.Common.{◌<◌, arith, length, refl}
use Rattle.std.proofs.lemmas.Option.{slice_get_read}
use Rattle.hsp_instance.proofs.SiteSums.{servers_within}
use Rattle.std.proofs.lemmas.Grind.{common_steps}
use Rattle.hsp_instance.proofs.server_building.servers_of.Goals as goal

pub push_servers-requires-clause-few : goal.push_servers-requires-clause-few
push_servers-requires-clause-few c =
    let within : c.loop-number.number < length c.args.sites.now = omega arith in
    let at =
    slice_get_read c.args.sites.now _ c.loop-number.number c.index-sites-number.result refl within
    c.index-sites-number.is in
    let less = servers_within c.args.sites.now c.loop-number.number c.index-sites-number.result at in
    let most = c.requires.sites.servers in
    omega arith

pub returns-in_err-push_servers-clause-err : goal.returns-in_err-push_servers-clause-err
returns-in_err-push_servers-clause-err c = grind (arith, common_steps)

pub loop-number-preserved : goal.loop-number-preserved
loop-number-preserved c = grind (arith, common_steps)

pub returns-clause-ok : goal.returns-clause-ok
returns-clause-ok c = grind (arith, common_steps)
