-- Each row joins the groups of those before it; all rows have arcs that the regions and servers of a service give.
use Rattle.std.proofs.Common.{◌≡◌, ◌∙◌, ◌+◌, ◌<◌, ◌∷◌, ◌++◌, [], ap, length, subst, sym, take, arith}
use Rattle.std.proofs.lemmas.List.{take_more}
use Rattle.std.proofs.lemmas.List.Sums.{sum_by_more, sum_by_more_le}
use Rattle.hsp_instance.proofs.Lists.{take_whole}
use Rattle.hsp_prices.specs.Groups.{AreGroupsOf}
use Rattle.hsp_prices.specs.KeptRows.{KeptRow}
use Rattle.hsp_price_plan.specs.Held.{no_row, row_at}
use Rattle.hsp_price_plan.specs.Grouping.{AreArcsBy, IsGrouping, IsOfRow, asked_in}
use Rattle.hsp_price_plan.proofs.OwnArcs.{services_give}
use Rattle.hsp_price_plan.proofs.row_groups.groups_of.Goals as goal

pub add-requires : goal.add-requires
add-requires c =
    let rows = c.args.rows.now.rows in
    let k = c.loop-row.row in
    let within : k < length rows = omega arith in
    let sum = sum_by_more_le (λ (row : KeptRow). row.count) rows k no_row within in
    omega (arith, sum, c.loop-row.invariant.demand, c.count.ensures, c.requires)

pub loop-row-preserved : goal.loop-row-preserved
loop-row-preserved c =
    let rows = c.args.rows.now.rows in
    let k = c.loop-row.row in
    let row = row_at c.args.rows.now k in
    let within : k < length rows = omega arith in
    let next : take (k + 1) rows ≡ take k rows ++ row ∷ [] = take_more rows k no_row within in
    let region = c.region_of.ensures.named ∙ sym c.region_name-region.ensures in
    let kept = sym (c.deref.ensures.value ∙ c.in_ok-fill_kept.ensures) in
    let is : IsOfRow row c.region_name-region.result.now c.deref.result.now c.count.result =
    record { region_is = region; kept_is = kept; count_is = sym c.count.ensures } in
    record {
      grouped = λ arc_by all.
          subst (λ more. IsGrouping arc_by more c.add.new.self) (sym next)
          (c.in_ok-add.ensures.grouped arc_by (take k rows) row (c.loop-row.invariant.grouped arc_by all) is
          (subst (λ r. AreArcsBy arc_by r c.deref.result.now) region
          (subst (AreArcsBy arc_by row.region) kept (all k no_row within))));
      demand =
          c.in_ok-add.ensures.demand ∙ ap (λ n. n + c.count.result) c.loop-row.invariant.demand
          ∙ ap (λ n. asked_in (take k rows) + n) c.count.ensures
          ∙ sym (sum_by_more (λ (r : KeptRow). r.count) rows k no_row within);
      few = omega (arith, c.in_ok-add.ensures.few, c.loop-row.invariant.few);
    }

pub returns-clause-grouped : goal.returns-clause-grouped
returns-clause-grouped c = λ at of is are.
    let rows = c.args.rows.now.rows in
    let given = services_give at is in
    let was = c.loop-row.invariant.grouped given.0 (given.1 of rows are) in
    let end : c.loop-row.row ≡ length rows = omega (arith, c.len-row-end.ensures.count) in
    let whole : take c.loop-row.row rows ≡ rows = ap (λ n. take n rows) end ∙ take_whole rows in
    subst (λ groups. AreGroupsOf rows groups) (sym c.into_groups.ensures)
    (subst (λ more. AreGroupsOf more c.loop-row.table) whole was.of_rows)
