-- The costs that inputs state by the page are those that are read.
use Rattle.std.proofs.Common.{◌≡◌, ◌∙◌, ◌≤◌, ℕ, List, [], ◌∷◌, Result, Ok, decimal, map, refl, ap, sym, arith}
use Rattle.std.specs.List.{AllByRecursion}
use Rattle.hsp_csv.specs.Records.{records_of}
use Rattle.hsp_text.specs.Whole.{whole_within}
use Rattle.hsp_text.specs.declared.limits.TheConstants.{GREATEST_COST}
use Rattle.hsp_text.specs.declared.whole.WholeFault.{WholeFault}
use Rattle.hsp_tables.specs.Costs.{CostEntry, IsCostEntry}
use Rattle.hsp_tables.specs.declared.limits.Limits.{Limits}
use Rattle.hsp_tables.proofs.TableRows as table_rows
use Rattle.hsp_tables.proofs.TableRows.{cost_fields, whole_is_read}
use Rattle.hsp_instance.specs.Instance.{Instance, Site}
use Rattle.hsp_inputs.specs.declared.fault.Fault.TheVariants.{Costs}
use Rattle.hsp_inputs.specs.Headline.{AreCosts, Defines, IsCost}
use Rattle.hsp_inputs.specs.declared.inputs.Inputs.{Inputs}
use Rattle.hsp_inputs.proofs.PageRead.{stated_well}
use Rattle.hsp_inputs.specs.Instance.{ReadsCosts}
use Rattle.hsp_inputs.specs.Limits.{limits_of}

-- two costs of the same decimal are the same
one_number : (a b : ℕ) → a ≤ GREATEST_COST → b ≤ GREATEST_COST → decimal a ≡ decimal b → a ≡ b
one_number a b few_a few_b e =
    let one = whole_is_read GREATEST_COST a (omega arith) few_a in
    let other = whole_is_read GREATEST_COST b (omega arith) few_b in
    let both : ◌≡◌ {A = Result ℕ WholeFault} (Ok a) (Ok b) =
    sym one ∙ ap (λ w. whole_within GREATEST_COST w) e ∙ other in
    cc (both)

-- two costs of the same fields are the same
one_cost : (a b : CostEntry) → a.cost ≤ GREATEST_COST → b.cost ≤ GREATEST_COST → cost_fields a ≡ cost_fields b → a ≡ b
one_cost a b few_a few_b e =
    let region : a.region ≡ b.region = cc (e) in
    let site : a.site ≡ b.site = cc (e) in
    let digits : decimal a.cost ≡ decimal b.cost = cc (e) in
    let cost = one_number a.cost b.cost few_a few_b digits in
    let same : ◌≡◌ {A = CostEntry} (record { region = a.region; site = a.site; cost = a.cost })
    (record { region = b.region; site = b.site; cost = b.cost }) = cc (region, site, cost) in
    same

-- two tables of the same fields are the same
one_table : (sites : List Site) (a b : List CostEntry) → AllByRecursion IsCostEntry a → AllByRecursion (IsCost sites) b
    → map cost_fields a ≡ map cost_fields b → a ≡ b
one_table sites [] [] all_a all_b e = refl
one_table sites [] (d ∷ b) all_a all_b e = cc (e)
one_table sites (c ∷ a) [] all_a all_b e = cc (e)
one_table sites (c ∷ a) (d ∷ b) all_a all_b e =
    let both : cost_fields c ∷ map cost_fields a ≡ cost_fields d ∷ map cost_fields b = e in
    let here : cost_fields c ≡ cost_fields d = cc (both) in
    let there : map cost_fields a ≡ map cost_fields b = cc (both) in
    let first = one_cost c d all_a.0.cost all_b.0.2 here in
    let rest = one_table sites a b all_a.1 all_b.1 there in
    cc (first, rest)

-- costs that are read are those that the text states by the page
pub costs_are_one : (limits : Limits) (sites : List Site) (text : List ℕ) (read costs : List CostEntry)
    → ReadsCosts limits text (Ok read) → AreCosts limits sites text costs → read ≡ costs
costs_are_one limits sites text read costs is are =
    let own = (table_rows.costs_are limits (records_of text) read).0 (stated_well Costs _ read is) in
    let both = sym own.0 ∙ are.0.records in
    let fields : map cost_fields read ≡ map cost_fields costs = cc (both) in
    one_table sites read costs own.1.keyed.each are.0.each fields

-- so the costs of inputs are those of their page
pub costs_of_page : (inputs : Inputs) (it : Instance) (costs : List CostEntry) → Defines inputs it
    → ReadsCosts (limits_of inputs) inputs.costs.items (Ok costs)
    → AreCosts (limits_of inputs) it.sites inputs.costs.items costs
costs_of_page inputs it costs page is =
    rw (costs_are_one (limits_of inputs) it.sites inputs.costs.items costs page.costs is page.are_costs) page.are_costs
