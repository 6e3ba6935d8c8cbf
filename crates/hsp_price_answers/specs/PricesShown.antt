-- What a run that answers by prices shows of a certificate.
use Rattle.std.specs.Prelude.{◌≡◌, ◌<◌, ◌≤◌, ◌⊎◌, ℕ, IfErr, List, Result, length, option_map}
use Rattle.std.specs.List.{Contains}
use Rattle.hsp_text.specs.declared.limits.TheConstants.{MOST_FRONTS}
use Rattle.hsp_tables.specs.Costs.{CostEntry}
use Rattle.hsp_instance.specs.Instance.{Instance}
use Rattle.hsp_instance.specs.declared.arc.Arc.{Arc}
use Rattle.hsp_price_text.specs.Certificate.{IsCertificate}
use Rattle.hsp_price_text.specs.Claim.{Best}
use Rattle.hsp_price_text.specs.Text.{text_of}
use Rattle.hsp_price_text.specs.declared.certificate.PriceCertificate.TheVariants as certificate
use Rattle.hsp_prices.specs.Least.{arcs_of, least_of}
use Rattle.hsp_log.specs.Entries.{Entry}
use Rattle.hsp_log.specs.declared.front_share.Front.{Front}
use Rattle.hsp_price_dispatch.specs.Choosing.{answer_by, row_of}
use Rattle.hsp_price_dispatch.specs.Holding.{Held}
use Rattle.hsp_price_dispatch.specs.Laws.{answers_to, count_at, count_on, left_after}
use Rattle.hsp_price_dispatch.specs.Starting.{Fits, IsBegun, capacity_at, limit_at}
use Rattle.hsp_price_dispatch.specs.declared.answer.PriceAnswer.TheVariants.{Assigned, Diverted}
use Rattle.hsp_inputs.specs.Headline.{AreCosts, Defines}
use Rattle.hsp_inputs.specs.declared.inputs.Inputs.{Inputs}
use Rattle.hsp_price_check.specs.Classes.{service_of}
use Rattle.hsp_price_answers.specs.AnswersShown.{IsOfTalk, IsRefused, SpellsOr}
use Rattle.hsp_price_answers.specs.AnswerTalk.{EndsBy}
use Rattle.hsp_price_answers.specs.Asking.{Asked, queries_in}
use Rattle.hsp_inputs.specs.declared.stream_fault.StreamFault.{StreamFault}
use Rattle.hsp_talk.specs.Known.{Went}
use Rattle.hsp_price_answers.specs.PriceAnswerRun.{PriceRun}
use Rattle.hsp_price_answers.specs.PriceAnswers.{ByPrices}
use Rattle.hsp_price_answers.specs.declared.front_words.FrontChoice.{FrontChoice}
use Rattle.hsp_price_answers.specs.declared.sums.PriceSums.{PriceSums}
use Rattle.hsp_inputs.specs.Limits.{limits_of}

-- The words spell a front: one of one, and its number 0, where they don't spell others.
pub record SpellsFront (words : FrontChoice) (front : Front) : Type 0 where
  pub fronts : SpellsOr (option_map (λ v. v.items) words.fronts) 1 front.fronts
  pub number : SpellsOr (option_map (λ v. v.items) words.front) 0 front.number
  pub is : front.number < front.fronts
  pub few : front.fronts ≤ MOST_FRONTS

-- The front answered the rows of the log, or the first of them, by what it began with. Whatever rows ask, no server
-- gets more queries than it takes, and no host. Each query goes over one of its arcs, an assigned one over one of least
-- pay: to a site where its region has a cost, and to the server there that its handle's hash fixes.
pub record IsPriceTalk (inputs : Inputs) (front : Front) (run : PriceRun) (it : Instance) (plan : Best) : Type 0 where
  pub costs : List CostEntry
  pub are_costs : AreCosts (limits_of inputs) it.sites inputs.costs.items costs
  pub fits : Fits (service_of costs it) plan
  pub own : Held
  pub begun : IsBegun (service_of costs it) plan front.fronts front.number own
  pub answered : Went run.before run.after (λ events. EndsBy (ByPrices it own) events run.answer)
  pub within : (asked : List Asked) (j : ℕ) → j < length it.servers
      → count_at j (answers_to own (queries_in asked)) ≤ capacity_at (service_of costs it) j
  pub hosts_within : (asked : List Asked) (h : ℕ) → h < length it.hosts
      → count_on (service_of costs it) h (answers_to own (queries_in asked)) ≤ limit_at (service_of costs it) h
  pub assigned : (earlier : List Entry) (entry : Entry) (arc : Arc)
      → answer_by (left_after own earlier) entry ≡ Assigned arc
      → Contains (least_of (service_of costs it) plan (row_of entry)) arc
  pub diverted : (earlier : List Entry) (entry : Entry) (arc : Arc)
      → answer_by (left_after own earlier) entry ≡ Diverted arc
      → Contains (arcs_of (service_of costs it) (row_of entry)) arc

-- The run is refused. Or the inputs define an instance, the octets are the text of a plan by prices, and such a front
-- of it answers the log.
abbrev pub ShowsPricesBy : Front → Inputs → List ℕ → PriceRun → Type 0
ShowsPricesBy front inputs octets run =
    IsRefused run
    ⊎ ((it : Instance) × Defines inputs it × (plan : Best) × IsCertificate (certificate.Plan plan)
    × (octets ≡ text_of (certificate.Plan plan)) × IsPriceTalk inputs front run it plan)

-- the same by the front that words spell
abbrev pub ShowsPrices : FrontChoice → Inputs → List ℕ → PriceRun → Type 0
ShowsPrices words inputs octets run =
    IsRefused run ⊎ ((front : Front) × SpellsFront words front × ShowsPricesBy front inputs octets run)

-- ---- what the run always answers

-- Where the inputs define an instance, and the octets are the text of a plan by prices that fits its service, memory
-- runs out, a read or a write fails, or the log has no header; there are no other faults.
abbrev pub AnswersAlways : Inputs → List ℕ → Result PriceSums StreamFault → Type 0
AnswersAlways inputs octets answer =
    (it : Instance) (plan : Best) → Defines inputs it → IsCertificate (certificate.Plan plan)
    → octets ≡ text_of (certificate.Plan plan)
    → ((costs : List CostEntry) → AreCosts (limits_of inputs) it.sites inputs.costs.items costs
    → Fits (service_of costs it) plan)
    → IfErr answer IsOfTalk

-- the same where moreover words spell a front
abbrev pub AnswersAlwaysAt : FrontChoice → Inputs → List ℕ → Result PriceSums StreamFault → Type 0
AnswersAlwaysAt words inputs octets answer =
    (front : Front) → SpellsFront words front → AnswersAlways inputs octets answer
