use Rattle.std.proofs.Common.{◌∙◌, arith, refl}
use Rattle.std.proofs.lemmas.List.{length-map}
use Rattle.hsp_tables.specs.Keyed.{demand_entry}
use Rattle.hsp_tables.proofs.demand.demand_of.Goals as goal

pub numbers_of-requires : goal.numbers_of-requires
numbers_of-requires c =
    omega (arith, c.requires.keyed.few, length-map c.args.rows.entries demand_entry)

pub invariant_of-result : goal.invariant_of-result
invariant_of-result c =
    rw c.in_ok-rows.ensures.ok (c.requires, c.in_ok-numbers.ensures.ok ∙ c.in_ok-numbers_of.ensures)

pub returns : goal.returns
returns c = rw c.in_ok-rows.ensures.ok refl
