-- How a reader takes a certificate, item after item. What a certificate is stands in Text.antt.
use Rattle.std.specs.Prelude.{◌==◌, ◌||◌, ℕ, Bool, true, false, List, [], nat_le, Option, Some, None, option_map}
use Rattle.hsp_text.specs.declared.limits.TheConstants.{GREATEST_SUM}
use Rattle.hsp_cert.specs.declared.stage.Stage.{Stage}
use Rattle.hsp_cert.specs.declared.stage.Stage.TheVariants as stage
use Rattle.hsp_cert.specs.declared.item.Word.TheVariants as word
use Rattle.hsp_cert.specs.declared.item.Item.{Item}
use Rattle.hsp_cert.specs.declared.item.Item.TheVariants as item
use Rattle.hsp_cert.specs.Certificate.{Best, Short, Claim}
use Rattle.hsp_cert.specs.Certificate.Claim.{best, short}
use Rattle.hsp_cert.specs.Text.{version_of}
use Rattle.hsp_cert.specs.Lexing.{item_in}
use Rattle.hsp_cert.specs.Drafts.{Drafted, when, body_step, rows_step}

abbrev pub staged : Stage → Drafted → Drafted
staged s d = record { stage = s; version = d.version; plan = d.plan; set = d.set }

abbrev pub with_plan : Stage → Drafted → Best → Drafted
with_plan s d b = record { stage = s; version = d.version; plan = b; set = d.set }

abbrev pub with_set : Stage → Drafted → Short → Drafted
with_set st d s = record { stage = st; version = d.version; plan = d.plan; set = s }

abbrev pub cost_set : Best → ℕ → Best
cost_set b cost =
    record {
      cost = cost;
      uses = b.uses;
      row_prices = b.row_prices;
      server_prices = b.server_prices;
      host_prices = b.host_prices;
    }

-- a cost, a demand or a capacity is at most 10^16
abbrev pub is_sum : ℕ → Bool
is_sum n = nat_le n GREATEST_SUM

abbrev pub version_step : Drafted → ℕ → Option Drafted
version_step d v = when (v == 1 || v == 2) (record { stage = stage.Kind; version = v; plan = d.plan; set = d.set })

-- a shortage is of version 1
abbrev pub kind_step : Drafted → Option Drafted
kind_step d = when (d.version == 1) (staged stage.Demand d)

abbrev pub cost_step : Drafted → ℕ → Option Drafted
cost_step d cost = when (is_sum cost) (with_plan stage.Body d (cost_set d.plan cost))

abbrev pub demand_step : Drafted → ℕ → Option Drafted
demand_step d n =
    when (is_sum n) (with_set stage.Capacity d (record { rows = d.set.rows; demand = n; capacity = d.set.capacity }))

abbrev pub capacity_step : Drafted → ℕ → Option Drafted
capacity_step d n =
    when (is_sum n) (with_set stage.Rows d (record { rows = d.set.rows; demand = d.set.demand; capacity = n }))

-- the lines above the lists
abbrev pub head_at : Stage → Drafted → Item → Option Drafted
head_at stage.Version d (item.One word.Version v) = version_step d v
head_at stage.Kind d (item.Alone word.Plan) = Some (staged stage.Cost d)
head_at stage.Kind d (item.Alone word.Shortage) = kind_step d
head_at stage.Cost d (item.One word.Cost cost) = cost_step d cost
head_at stage.Demand d (item.One word.Demand n) = demand_step d n
head_at stage.Capacity d (item.One word.Capacity n) = capacity_step d n
head_at s d i = None

abbrev pub head_step : Drafted → Item → Option Drafted
head_step d i = head_at d.stage d i

abbrev pub plan_step : Drafted → Item → Option Drafted
plan_step d (item.Alone word.End) = when (d.version == version_of d.plan.host_prices) (staged stage.PlanEnded d)
plan_step d i = option_map (with_plan stage.Body d) (body_step d.version d.plan i)

abbrev pub shortage_step : Drafted → Item → Option Drafted
shortage_step d (item.Alone word.End) = Some (staged stage.ShortageEnded d)
shortage_step d i = option_map (with_set stage.Rows d) (rows_step d.set i)

abbrev pub step_at : Stage → Drafted → Item → Option Drafted
step_at stage.Body d i = plan_step d i
step_at stage.Rows d i = shortage_step d i
step_at s d i = head_at s d i

-- the draft with one item more, where it can stand
abbrev pub step : Drafted → Item → Option Drafted
step d i = step_at d.stage d i

abbrev pub said_step : Drafted → Option Item → Option Drafted
said_step d None = None
said_step d (Some i) = step d i

-- the draft with one line more, where it can stand
abbrev pub step_line : Drafted → List ℕ → Option Drafted
step_line d line = said_step d (item_in line)

abbrev pub no_plan : Best
no_plan = record { cost = 0; uses = []; row_prices = []; server_prices = []; host_prices = [] }

abbrev pub no_set : Short
no_set = record { rows = []; demand = 0; capacity = 0 }

-- before the first line
abbrev pub start : Drafted
start = record { stage = stage.Version; version = 0; plan = no_plan; set = no_set }

-- whether the line END was read
abbrev pub has_ended : Stage → Bool
has_ended stage.PlanEnded = true
has_ended stage.ShortageEnded = true
has_ended s = false

-- what a draft claims once END was read
abbrev pub claimed_at : Stage → Drafted → Claim
claimed_at stage.PlanEnded d = best d.plan
claimed_at s d = short d.set

abbrev pub claimed : Drafted → Claim
claimed d = claimed_at d.stage d
