use Rattle.std.proofs.Common.{◌∙◌, ◌++◌, ◌∷◌, ap, sym, take}
use Rattle.hsp_csv.proofs.Commas.{all_after, not_parted, parted_at}
use Rattle.hsp_csv.proofs.splitting.split_at_comma.Goals as goal

pub returns-in-Some : goal.returns-in-Some
returns-in-Some c =
    let line = c.args.line.now in
    let place = c.in-Some.place in
    let found = parted_at line place (sym c.in-Some.ensures) in
    (found.0 ∙ ap (λ rest. take place line ++ 44 ∷ rest) (sym (all_after line place)), found.1)

pub returns-in-None : goal.returns-in-None
returns-in-None c = not_parted c.args.line.now (sym c.in-None.ensures)
