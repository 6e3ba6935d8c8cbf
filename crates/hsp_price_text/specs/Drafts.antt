-- How a reader takes a certificate, line after line. What a certificate is stands in Claim.antt and Text.antt.
use Rattle.std.specs.Prelude.{◌&&◌, ℕ, Bool, true, false, List, [], ◌∷◌, ◌++◌, length, nat_lt, codes}
use Rattle.std.specs.Prelude.{Option, Some, None, option_map, if◌then◌else◌}
use Rattle.std.specs.Str.{bytes_eq}
use Rattle.hsp_text.specs.declared.limits.TheConstants.{MOST_HOSTS, MOST_SERVERS}
use Rattle.hsp_cert.specs.Certificate.{goes_on_from}
use Rattle.hsp_cert.specs.Drafts.{is_next, is_none, last, when}
use Rattle.hsp_cert.specs.Steps.{is_sum}
use Rattle.hsp_price_text.specs.declared.ranges.TheConstants.{MOST_CLASSES}
use Rattle.hsp_price_text.specs.declared.stage.Stage.{Stage}
use Rattle.hsp_price_text.specs.declared.stage.Stage.TheVariants as stage
use Rattle.hsp_price_text.specs.Claim.{Best, Class, Short, is_before, is_class, is_server}
use Rattle.hsp_price_text.specs.declared.certificate.PriceCertificate.{PriceCertificate}
use Rattle.hsp_price_text.specs.declared.certificate.PriceCertificate.TheVariants.{Plan, Shortage}
use Rattle.hsp_cert.specs.Language.{Machine}
use Rattle.hsp_price_text.specs.Lines.{class_in, numbers_behind, only_one, only_two}
use Rattle.hsp_price_text.specs.Text.{version}

pub record Drafted : Type 0 where
  pub stage : Stage
  pub plan : Best
  pub set : Short

abbrev pub at_stage : Stage → Drafted → Drafted
at_stage s d = record { stage = s; plan = d.plan; set = d.set }

-- the draft with another plan, in the stage that it has
abbrev pub priced : Drafted → Best → Drafted
priced d b = record { stage = d.stage; plan = b; set = d.set }

-- the draft with another set, in the stage that it has
abbrev pub listed : Drafted → Short → Drafted
listed d set = record { stage = d.stage; plan = d.plan; set = set }

-- a line that has to be this one
abbrev pub fixed_step : Drafted → List ℕ → List ℕ → Stage → Option Drafted
fixed_step d line wanted next = when (bytes_eq line wanted) (at_stage next d)

abbrev pub kind_step : Drafted → List ℕ → Option Drafted
kind_step d line =
    if bytes_eq line (codes "PLAN") then Some (at_stage stage.Cost d)
    else when (bytes_eq line (codes "SHORT")) (at_stage stage.Servers d)

-- ---- a plan

abbrev pub cost_step : Drafted → Option ℕ → Option Drafted
cost_step d None = None
cost_step d (Some cost) = when (is_sum cost) (at_stage stage.Body (priced d (record d.plan { cost = cost })))

-- the price of a server stands before those of hosts and before classes
abbrev pub server_price_step : Best → Option (ℕ × ℕ) → Option Best
server_price_step b None = None
server_price_step b (Some said) =
    when ((is_none b.host_prices && is_none b.classes) && is_next MOST_SERVERS b.server_prices said.0 said.1)
    (record b { server_prices = b.server_prices ++ said.1 ∷ [] })

-- that of a host before classes
abbrev pub host_price_step : Best → Option (ℕ × ℕ) → Option Best
host_price_step b None = None
host_price_step b (Some said) =
    when (is_none b.classes && is_next MOST_HOSTS b.host_prices said.0 said.1)
    (record b { host_prices = b.host_prices ++ said.1 ∷ [] })

abbrev pub class_step : Best → Option Class → Option Best
class_step b None = None
class_step b (Some c) =
    when (nat_lt (length b.classes) MOST_CLASSES && (is_class c && goes_on_from is_before (last b.classes) c))
    (record b { classes = b.classes ++ c ∷ [] })

-- the first that is there
abbrev pub or_else : {A : Type 0} → Option A → Option A → Option A
or_else None other = other
or_else (Some x) other = Some x

abbrev pub behind_servers_step : Best → List ℕ → Option Best
behind_servers_step b line =
    or_else (host_price_step b (only_two (numbers_behind (codes "host") line))) (class_step b (class_in line))

abbrev pub body_step : Best → List ℕ → Option Best
body_step b line =
    or_else (server_price_step b (only_two (numbers_behind (codes "server") line))) (behind_servers_step b line)

abbrev pub plan_step : Drafted → List ℕ → Option Drafted
plan_step d line =
    if bytes_eq line (codes "END") then Some (at_stage stage.PlanEnded d)
    else option_map (priced d) (body_step d.plan line)

-- ---- a short set of servers

abbrev pub server_step : Drafted → Option ℕ → Option Drafted
server_step d None = None
server_step d (Some server) =
    when (is_server server && goes_on_from nat_lt (last d.set.servers) server)
    (listed d (record d.set { servers = d.set.servers ++ server ∷ [] }))

abbrev pub demand_step : Drafted → Option ℕ → Option Drafted
demand_step d None = None
demand_step d (Some n) = when (is_sum n) (at_stage stage.Capacity (listed d (record d.set { demand = n })))

abbrev pub servers_step : Drafted → List ℕ → Option Drafted
servers_step d line =
    or_else (server_step d (only_one (numbers_behind (codes "server") line)))
    (demand_step d (only_one (numbers_behind (codes "demand") line)))

abbrev pub capacity_step : Drafted → Option ℕ → Option Drafted
capacity_step d None = None
capacity_step d (Some n) = when (is_sum n) (at_stage stage.ShortageEnd (listed d (record d.set { capacity = n })))

-- ---- any line

abbrev pub step_at : Stage → Drafted → List ℕ → Option Drafted
step_at stage.Version d line = fixed_step d line version stage.Kind
step_at stage.Kind d line = kind_step d line
step_at stage.Cost d line = cost_step d (only_one (numbers_behind (codes "cost") line))
step_at stage.Body d line = plan_step d line
step_at stage.Servers d line = servers_step d line
step_at stage.Capacity d line = capacity_step d (only_one (numbers_behind (codes "capacity") line))
step_at stage.ShortageEnd d line = fixed_step d line (codes "END") stage.ShortageEnded
step_at stage.PlanEnded d line = None
step_at stage.ShortageEnded d line = None

-- the draft with one line more, where it can stand
abbrev pub step : Drafted → List ℕ → Option Drafted
step d line = step_at d.stage d line

abbrev pub no_plan : Best
no_plan = record { cost = 0; server_prices = []; host_prices = []; classes = [] }

abbrev pub no_set : Short
no_set = record { servers = []; demand = 0; capacity = 0 }

abbrev pub start : Drafted
start = record { stage = stage.Version; plan = no_plan; set = no_set }

abbrev pub has_ended_at : Stage → Bool
has_ended_at stage.PlanEnded = true
has_ended_at stage.ShortageEnded = true
has_ended_at s = false

-- whether END was read
abbrev pub has_ended : Drafted → Bool
has_ended d = has_ended_at d.stage

abbrev pub claimed_at : Stage → Drafted → PriceCertificate
claimed_at stage.PlanEnded d = Plan d.plan
claimed_at s d = Shortage d.set

-- what the draft claims then
abbrev pub claimed : Drafted → PriceCertificate
claimed d = claimed_at d.stage d

abbrev pub reader : Machine Drafted PriceCertificate
reader = record { start = start; step = step; has_ended = has_ended; claimed = claimed }
