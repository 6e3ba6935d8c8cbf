-- What a run that answers by prices shows.
use Rattle.std.proofs.Common.{◌≡◌, ◌≢◌, ◌<◌, ◌≤◌, ◌∙◌, ◌⊎◌, ℕ, List, [], ◌∷◌, Ok, Err, IfErr, arith, inl, inr, refl}
use Rattle.std.proofs.Common.{subst}
use Rattle.std.specs.List.{Contains}
use Rattle.hsp_tables.specs.Costs.{CostEntry}
use Rattle.hsp_instance.specs.Instance.{Instance}
use Rattle.hsp_prices.specs.Rows.{Service}
use Rattle.hsp_price_text.specs.Claim.{Best}
use Rattle.hsp_price_text.specs.declared.certificate.PriceCertificate.{PriceCertificate}
use Rattle.hsp_price_text.specs.declared.certificate.PriceCertificate.TheVariants.{Plan, Shortage}
use Rattle.hsp_prices.specs.Least.{arcs_of, least_of}
use Rattle.hsp_log.specs.Entries.{Entry}
use Rattle.hsp_log.specs.declared.front_share.Front.{Front}
use Rattle.hsp_price_dispatch.specs.Choosing.{left_by, row_of}
use Rattle.hsp_price_dispatch.specs.Holding.{Held, host_room_at}
use Rattle.hsp_price_dispatch.specs.Laws.{answers_to, count_on, left_after}
use Rattle.hsp_price_dispatch.specs.Starting.{Fits, IsBegun}
use Rattle.hsp_price_dispatch.specs.declared.fault.StartFault.{StartFault}
use Rattle.hsp_price_dispatch.specs.declared.fault.StartFault.TheVariants as start
use Rattle.hsp_price_dispatch.proofs.Arcs.{goes_over}
use Rattle.hsp_price_dispatch.proofs.Planned.{plan_stays}
use Rattle.hsp_price_dispatch.proofs.RoomTaken.{never_exceeds, same_service}
use Rattle.hsp_inputs.specs.declared.fault.Fault.TheVariants.{WrongKind}
use Rattle.hsp_inputs.specs.Headline.{Defines}
use Rattle.hsp_inputs.specs.Instance.{ReadsCosts}
use Rattle.hsp_inputs.specs.declared.inputs.Inputs.{Inputs}
use Rattle.hsp_price_check.specs.Classes.{service_of}
use Rattle.hsp_inputs.specs.Readings.{IsCertificateIn}
use Rattle.hsp_inputs.proofs.CertificateRead.{certificate_means}
use Rattle.hsp_price_answers.specs.AnswerRun.{EndsTalk, Refuses}
use Rattle.hsp_price_answers.specs.AnswersShown.{IsRefused}
use Rattle.hsp_price_answers.specs.Asking.{queries_in}
use Rattle.hsp_log.specs.declared.fault.RowFault.{RowFault}
use Rattle.hsp_inputs.specs.declared.stream_fault.StreamFault.{StreamFault}
use Rattle.hsp_inputs.specs.declared.stream_fault.StreamFault.TheVariants.{Input, Log, OutOfMemory}
use Rattle.hsp_price_answers.proofs.AnswersShown.{input_refused, refused}
use Rattle.hsp_inputs.proofs.PageCosts.{costs_of_page}
use Rattle.hsp_price_answers.specs.FrontWords.{front_spelled}
use Rattle.hsp_price_answers.specs.PriceAnswerRun.{AnswersClaim, AnswersText, PriceRun, fault_of_start}
use Rattle.hsp_price_answers.specs.PriceAnswers.{ByPrices}
use Rattle.hsp_price_answers.specs.PricesShown.{IsPriceTalk, ShowsPrices, ShowsPricesBy}
use Rattle.hsp_price_answers.specs.declared.front_words.FrontChoice.{FrontChoice}
use Rattle.hsp_price_answers.proofs.FrontWords.{front_is_spelled, words_none}
use Rattle.hsp_price_answers.proofs.Rooms.{host_room_low, room_low}
use Rattle.hsp_inputs.specs.Limits.{limits_of}

-- ---- what stays

-- whatever is asked, the service of a front stays
left_service : (own : Held) (entries : List Entry) → (left_after own entries).service ≡ own.service
left_service own [] = refl
left_service own (entry ∷ entries) = left_service (left_by own entry) entries ∙ same_service own entry

-- ---- what is shown

-- memory ran out before the log
no_memory : (run : PriceRun) → Refuses OutOfMemory run → IsRefused run
no_memory run none = refused run OutOfMemory (λ of e. cc (e)) none

-- the fault of a dispatcher that can't start is not the log's
start_none : (fault : StartFault) (of : RowFault) → fault_of_start fault ≢ Log of
start_none start.Shape of e = cc (e)
start_none start.NoSuchServer of e = cc (e)
start_none start.Load of e = cc (e)
start_none start.OutOfMemory of e = cc (e)

module _ (front : Front) (inside : front.number < front.fronts) (inputs : Inputs) (octets : List ℕ) (run : PriceRun)
    (it : Instance) (costs : List CostEntry) (page : Defines inputs it)
    (read : ReadsCosts (limits_of inputs) inputs.costs.items (Ok costs)) where
  -- the service
  abbrev at : Service
  at = service_of costs it

  -- a front that answered the log shows its talk, or it was refused
  talk_is : (plan : Best) (own : Held) → Fits at plan → IsBegun at plan front.fronts front.number own
      → EndsTalk (ByPrices it own) run → IsRefused run ⊎ IsPriceTalk inputs front run it plan
  talk_is plan own fits begun (inl none) = inl (no_memory run none)
  talk_is plan own fits begun (inr went) =
      let some : 0 < front.fronts = omega (arith, inside) in
      inr (record {
        costs = costs;
        are_costs = costs_of_page inputs it costs page read;
        fits = fits;
        own = own;
        begun = begun;
        answered = went;
        within = λ asked j l.
            omega (
              arith,
              (never_exceeds own (queries_in asked)).0 j,
              room_low at plan front.fronts front.number own some fits begun j l,
            );
        hosts_within = λ asked h l.
            let few =
            subst (λ (s : Service). count_on s h (answers_to own (queries_in asked)) ≤ host_room_at own h) begun.service
            ((never_exceeds own (queries_in asked)).1 h) in
            omega (arith, few, host_room_low at plan front.fronts front.number own some fits begun h l);
        assigned = λ earlier entry arc e.
            let last = left_after own earlier in
            let here = (goes_over last entry arc).0 e in
            subst (λ (s : Service). Contains (least_of s plan (row_of entry)) arc) (service earlier)
            (subst (λ (p : Best). Contains (least_of last.service p (row_of entry)) arc) (plan_of earlier) here);
        diverted = λ earlier entry arc e.
            subst (λ (s : Service). Contains (arcs_of s (row_of entry)) arc) (service earlier)
            ((goes_over (left_after own earlier) entry arc).1 e);
      })
    where
      -- the service and the plan are those at first
      service : (earlier : List Entry) → (left_after own earlier).service ≡ at
      service earlier = left_service own earlier ∙ begun.service

      plan_of : (earlier : List Entry) → (left_after own earlier).plan ≡ plan
      plan_of earlier = plan_stays own earlier ∙ begun.plan_is

  -- so it is by a certificate
  by_claim : (certificate : PriceCertificate) → IsCertificateIn octets (Ok certificate)
      → AnswersClaim front it at certificate run → ShowsPricesBy front inputs octets run
  by_claim (Shortage set) is none = inl (refused run (Input WrongKind) (λ of e. cc (e)) none)
  by_claim (Plan plan) is (inr (fault, stands, none)) =
      inl (refused run (fault_of_start fault) (start_none fault) none)
  by_claim (Plan plan) is (inl (own, fits, begun, ends)) = elim (talk_is plan own fits begun ends) [
    | inl none ↦ inl none
    | inr talk ↦
        let means = certificate_means octets (Plan plan) is in inr (it, page, plan, means.0, means.1, talk)
  ]

  -- so it is by the octets of one
  pub by_text : AnswersText front it at octets run → ShowsPricesBy front inputs octets run
  by_text (inl none) = inl (no_memory run none)
  by_text (inr (Ok certificate, is, answered)) = by_claim certificate is answered
  by_text (inr (Err fault, is, none)) = inl (input_refused run fault none)

-- the front is that of words
pub shown_by_words : (words : FrontChoice) (front : Front) (inputs : Inputs) (octets : List ℕ) (run : PriceRun)
    → front_spelled words ≡ Ok front → ShowsPricesBy front inputs octets run → ShowsPrices words inputs octets run
shown_by_words words front inputs octets run read (inl none) = inl none
shown_by_words words front inputs octets run read shows = inr (front, front_is_spelled words front read, shows)

-- words that spell no front refuse the run
pub words_refused : (words : FrontChoice) (fault : StreamFault) (run : PriceRun) → front_spelled words ≡ Err fault
    → Refuses fault run → IsRefused run
words_refused words fault run read is =
    refused run fault (subst (λ r. IfErr r (λ e. (of : RowFault) → e ≢ Log of)) read (words_none words)) is
