-- By a plan that fits, a run ends by a fault of its talk at most.
use Rattle.std.proofs.Common.{◌≡◌, ◌≢◌, ℕ, List, Ok, Err, IfErr, Result, ap, inl, inr, refl, subst, sym}
use Rattle.hsp_cert.specs.declared.fault.CertFault.{CertFault}
use Rattle.hsp_cert.specs.declared.fault.CertFault.TheVariants as cert_fault
use Rattle.hsp_instance.specs.Instance.{Instance}
use Rattle.hsp_prices.specs.Rows.{Service}
use Rattle.hsp_price_text.specs.Certificate.{IsCertificate}
use Rattle.hsp_price_text.specs.Claim.{Best}
use Rattle.hsp_price_text.specs.Drafts.{reader}
use Rattle.hsp_price_text.specs.Reading.{Means}
use Rattle.hsp_price_text.specs.Text.{prices, text_of}
use Rattle.hsp_price_text.specs.declared.certificate.PriceCertificate.{PriceCertificate}
use Rattle.hsp_price_text.specs.declared.certificate.PriceCertificate.TheVariants.{Plan, Shortage}
use Rattle.hsp_cert.proofs.LineReading.{one_answer}
use Rattle.hsp_price_text.proofs.Whole.{takes}
use Rattle.hsp_log.specs.declared.front_share.Front.{Front}
use Rattle.hsp_price_dispatch.specs.Starting.{Fits, Stands}
use Rattle.hsp_price_dispatch.specs.declared.fault.StartFault.{StartFault}
use Rattle.hsp_price_dispatch.specs.declared.fault.StartFault.TheVariants as start
use Rattle.hsp_inputs.proofs.CertificateRead.{certificate_means}
use Rattle.hsp_price_answers.specs.AnswersShown.{IsOfTalk}
use Rattle.hsp_price_answers.specs.AnswerRun.{EndsTalk, Refuses}
use Rattle.hsp_inputs.specs.declared.stream_fault.StreamFault.TheVariants.{OutOfMemory}
use Rattle.hsp_price_answers.proofs.TalkEnds.{ends_always}
use Rattle.hsp_price_answers.specs.PriceAnswerRun.{AnswersClaim, AnswersText, PriceRun, fault_of_start}
use Rattle.hsp_price_answers.specs.PriceAnswers.{ByPrices}

-- a run that ran out of memory ended by a fault of a talk
memory_always : (run : PriceRun) → Refuses OutOfMemory run → IfErr run.answer IsOfTalk
memory_always run none = subst (λ r. IfErr r IsOfTalk) (sym none.1) tt

module _ (front : Front) (it : Instance) (at : Service) (octets : List ℕ) (run : PriceRun) (plan : Best)
    (fits : Fits at plan) (is : IsCertificate (Plan plan)) (text : octets ≡ text_of (Plan plan)) where
  -- a talk ends so
  log_always : (own : _) → EndsTalk (ByPrices it own) run → IfErr run.answer IsOfTalk
  log_always own (inl none) = memory_always run none
  log_always own (inr (events, goes, ends)) = ends_always (ByPrices it own) events run.answer ends

  -- no other fault stands at the start than that memory ran out
  start_always : (fault : StartFault) → Stands at plan fault → Refuses (fault_of_start fault) run
      → IfErr run.answer IsOfTalk
  start_always start.Shape stands none = absurd (stands fits.shape)
  start_always start.NoSuchServer stands none = absurd (stands.1 fits.there)
  start_always start.Load stands none = absurd (stands.2 fits.load)
  start_always start.OutOfMemory stands none = memory_always run none

  -- so it ends by the plan
  claim_always : (certificate : PriceCertificate) → certificate ≡ Plan plan → AnswersClaim front it at certificate run
      → IfErr run.answer IsOfTalk
  claim_always (Shortage set) same none = absurd (cc same)
  claim_always (Plan own) same (inl (held, own_fits, begun, ends)) = log_always held ends
  claim_always (Plan own) same (inr (fault, stands, none)) =
      let one : own ≡ plan = cc same in start_always fault (rw one at stands) none

  -- the octets mean the plan
  means : Means octets (Ok (Plan plan))
  means = (is, text)

  -- they have no fault
  no_fault : (e : CertFault) → e ≢ cert_fault.OutOfMemory → Means octets (Err e) → ⊥
  no_fault cert_fault.OutOfMemory other meant = other refl
  no_fault (cert_fault.BadLine n) other meant =
      cc (one_answer prices reader takes octets (Ok (Plan plan)) (Err (cert_fault.BadLine n)) means meant)
  no_fault cert_fault.Ended other meant =
      cc (one_answer prices reader takes octets (Ok (Plan plan)) (Err cert_fault.Ended) means meant)
  no_fault (cert_fault.AfterEnd n) other meant =
      cc (one_answer prices reader takes octets (Ok (Plan plan)) (Err (cert_fault.AfterEnd n)) means meant)

  -- so it ends by the octets
  pub text_always : AnswersText front it at octets run → IfErr run.answer IsOfTalk
  text_always (inl none) = memory_always run none
  text_always (inr (Ok certificate, read, answered)) =
      let both : ◌≡◌ {A = Result PriceCertificate CertFault} (Ok certificate) (Ok (Plan plan)) =
      one_answer prices reader takes octets (Ok certificate) (Ok (Plan plan))
      (certificate_means octets certificate read) means in
      claim_always certificate (cc both) answered
  text_always (inr (Err fault, (Ok certificate, meant, memory, e), none)) = absurd (cc e)
  text_always (inr (Err fault, (Err bad, meant, memory, e), none)) =
      absurd (no_fault bad (λ same. memory (ap Err same)) meant)
