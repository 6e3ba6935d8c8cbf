-- A plan of rows that were taken from a log, up to its text.
use Rattle.std.proofs.Common.{◌≡◌, ◌∙◌, ◌≤◌, ◌<◌, ◌^◌, ◌⊎◌, inl, inr, ℕ, List, [], ◌∷◌, Option, Result, Ok, Err, ap}
use Rattle.std.proofs.Common.{arith, refl, subst, sum_by, sym, length}
use Rattle.std.specs.List.{AllZip}
use Rattle.std.proofs.lemmas.List.Sums.{sum_by-cons}
use Rattle.hsp_csv.specs.Records.{Fields}
use Rattle.hsp_text.specs.declared.limits.TheConstants.{LARGEST_FILE}
use Rattle.hsp_tables.specs.Costs.{CostEntry}
use Rattle.hsp_instance.specs.Instance.{Instance, Row}
use Rattle.hsp_check.specs.Instance.{capacities_in, limits_in, server_hosts_in}
use Rattle.hsp_prices.specs.Rows.{Service}
use Rattle.hsp_prices.specs.KeptRows.{IsRow, KeptRow}
use Rattle.hsp_price_plan.specs.Grouping.{asked_in}
use Rattle.hsp_price_check.specs.Classes.{service_of}
use Rattle.hsp_price_check.specs.Passed.{capped}
use Rattle.hsp_price_check.specs.PlanPass.{AreNumbersOf}
use Rattle.hsp_price_check.specs.declared.numbers.ServiceNumbers.{ServiceNumbers}
use Rattle.hsp_price_text.specs.Certificate.{IsCertificate}
use Rattle.hsp_price_text.specs.Text.{text_of}
use Rattle.hsp_price_text.specs.declared.certificate.PriceCertificate.{PriceCertificate}
use Rattle.hsp_price_plan.specs.Limits.{AreTooLarge}
use Rattle.hsp_price_plan.specs.Planning.{AreHeld, IsFaultOf, Outlasts}
use Rattle.hsp_price_plan.specs.declared.fault.PlanFault.{PlanFault}
use Rattle.hsp_price_plan.specs.declared.fault.PlanFault.TheVariants as plan_fault
use Rattle.hsp_price_runs.specs.LogRows.{log_rows}
use Rattle.hsp_price_runs.specs.Passing.{TakesRows}
use Rattle.hsp_price_runs.specs.PriceRun.{AnswersRecords}
use Rattle.hsp_log.specs.LogRows.{OfLog}
use Rattle.hsp_inputs.specs.declared.stream_fault.StreamFault.{StreamFault}
use Rattle.hsp_inputs.specs.declared.stream_fault.StreamFault.TheVariants.{OutOfMemory, TooLarge}
use Rattle.hsp_price_runs.specs.Holding.{HasHeld, IsFresh, IsHolder}
use Rattle.hsp_price_runs.specs.PlanRun.{AskTooMuch, IsPlanBy}
use Rattle.hsp_price_runs.specs.PricesText.{IsTextOf}
use Rattle.hsp_price_runs.specs.Taken.{AreTaken, AreTakenOfSome, IsTakenFault, IsValidForAll, fault_of_plan}
use Rattle.hsp_price_runs.specs.declared.holder.RowHolder.{RowHolder}
use Rattle.hsp_price_runs.specs.declared.prices_text.PricesText.{PricesText}

-- rows in memory ask for what the rows do
same_asked : (at : Service) (rows : List Row) (kept : List KeptRow) → AllZip (IsRow at) rows kept
    → asked_in kept ≡ sum_by (λ (row : Row). row.count) rows
same_asked at [] [] all = refl
same_asked at [] (own ∷ kept) all = absurd all
same_asked at (row ∷ rows) [] all = absurd all
same_asked at (row ∷ rows) (own ∷ kept) all =
    omega (
      arith,
      all.0.count,
      same_asked at rows kept all.1,
      sum_by-cons (λ (r : KeptRow). r.count) own kept,
      sum_by-cons (λ (r : Row). r.count) row rows,
    )

-- a sum that is kept up to the greatest one, below 2^63
below : (n asked : ℕ) → asked ≡ capped n → asked < 2 ^ 63 → n < 2 ^ 63
below n asked is less = omega arith

-- and one that isn't below it
above : (n asked : ℕ) → asked ≡ capped n → 2 ^ 63 ≤ asked → 2 ^ 63 ≤ n
above n asked is more = omega arith

module _ (numbers : ServiceNumbers) (kept : List KeptRow) (asked : ℕ) (is : asked ≡ capped (asked_in kept)) where
  -- rows that were taken and don't ask for too much are those of the service
  pub are_held : asked < 2 ^ 63 → (at : Service) (rows : List Row) → AreTaken numbers at rows kept
      → AreHeld numbers at rows kept
  are_held less at rows taken = record {
    service = taken.service;
    costs = taken.costs;
    numbers_are = taken.numbers_are;
    rows_are = taken.rows_are;
    demand = below (asked_in kept) asked is less;
  }

  -- or they ask for too much
  pub too_much : 2 ^ 63 ≤ asked → IsTakenFault numbers kept TooLarge
  too_much more =
      let most = above (asked_in kept) asked is more in
      inr (refl, (λ at rows taken. inl (subst (λ n. 2 ^ 63 ≤ n) (same_asked at rows kept taken.rows_are) most)))

  -- rows that keep more arcs outlast those that were taken
  module _ (after : List KeptRow) (outlasts : Outlasts numbers kept after) (less : asked < 2 ^ 63) where
    -- and so is the fault of their plan
    pub plan_stops : (fault : PlanFault) → IsFaultOf numbers after fault
        → IsTakenFault numbers kept (fault_of_plan fault)
    plan_stops plan_fault.OutOfMemory past = inl refl
    plan_stops plan_fault.TooLarge past =
        inr (
          refl,
          (λ at rows taken. inr (past at rows (outlasts at rows (are_held less at rows taken)))),
        )

-- ---- the log

-- the numbers of an instance are those of its service
pub are_numbers : (costs : List CostEntry) (it : Instance) (numbers : ServiceNumbers)
    → numbers.capacities.items ≡ capacities_in it → numbers.limits.items ≡ limits_in it
    → numbers.server_hosts.items ≡ server_hosts_in it → AreNumbersOf (service_of costs it) numbers
are_numbers costs it numbers capacities limits hosts =
    record { capacities = capacities; limits = limits; server_hosts = hosts }

module _ {P : Type 0} (at : Service) (first now : RowHolder P) (fresh : IsFresh at first) (numbers : ServiceNumbers)
    (are : AreNumbersOf at numbers) where
  -- the rows of a holder were taken
  taken_of : (rows : List Row) → IsHolder at rows now → AreTaken numbers at rows now.rows.rows
  taken_of rows held = record {
    service = held.service;
    costs = held.costs;
    numbers_are = are;
    rows_are = held.rows_are;
  }

  -- a holder that has taken a log holds some rows
  pub some_held : (log : Option (List ℕ)) → OfLog log (λ records. TakesRows HasHeld (log_rows records) first now)
      → (rows : List Row) × IsHolder at rows now
  some_held log (records, known, takes) = (takes.rows, takes.taken.held at fresh)

  -- and they are rows that were taken
  pub some_taken : (rows : List Row) → IsHolder at rows now → AreTakenOfSome numbers now.rows.rows
  some_taken rows held = (at, rows, taken_of rows held)

  module _ (records : List Fields) (takes : TakesRows HasHeld (log_rows records) first now) where
    -- what is answered of its rows is answered of the log
    answered : (answer : Result PricesText StreamFault)
        → ((rows : List Row) → AreTaken numbers at rows now.rows.rows → IsPlanBy at rows answer)
        → AnswersRecords (IsPlanBy at) answer records
    answered answer answers = (
      Ok takes.rows,
      sym takes.are,
      answers takes.rows (taken_of takes.rows (takes.taken.held at fresh)),
    )

    -- the text of a certificate that is valid for them
    pub text_given : (certificate : PriceCertificate) (text : PricesText)
        → IsValidForAll numbers now.rows.rows certificate → IsTextOf certificate text
        → AnswersRecords (IsPlanBy at) (Ok text) records
    text_given certificate text valid is =
        answered (Ok text) (λ rows taken. record {
          certificate = certificate;
          is = is;
          valid = valid at rows taken;
        })

    -- that text is too long
    pub text_long : (certificate : PriceCertificate) → IsValidForAll numbers now.rows.rows certificate
        → IsCertificate certificate → LARGEST_FILE < length (text_of certificate)
        → AnswersRecords (IsPlanBy at) (Err TooLarge) records
    text_long certificate valid within long =
        answered (Err TooLarge) (λ rows taken. (refl, inr (inl (certificate, valid at rows taken, within, long))))

    -- there is no certificate that a text may say
    pub rows_stop : ((own : Service) (rows : List Row) → AreTaken numbers own rows now.rows.rows
        → AskTooMuch rows ⊎ AreTooLarge own rows)
        → AnswersRecords (IsPlanBy at) (Err TooLarge) records
    rows_stop past =
        answered (Err TooLarge) (λ rows taken. (
          refl,
          (elim (past at rows taken) [ inl much ↦ inl much | inr large ↦ inr (inr large) ]),
        ))
