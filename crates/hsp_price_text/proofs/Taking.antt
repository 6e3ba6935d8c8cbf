-- The reader takes exactly the lines of certificates.
use Rattle.std.proofs.Common.{◌≡◌, ℕ, true, false, List, [], ◌∷◌, ◌++◌, map, Option, Some}
use Rattle.std.proofs.Common.{None, refl, sym, ap, subst, ◌∙◌, append_assoc, append-nil}
use Rattle.std.specs.Prelude.{codes}
use Rattle.hsp_price_text.specs.declared.stage.Stage.{Stage}
use Rattle.hsp_price_text.specs.declared.stage.Stage.TheVariants as stage
use Rattle.hsp_price_text.specs.declared.certificate.PriceCertificate.{PriceCertificate}
use Rattle.hsp_price_text.specs.declared.certificate.PriceCertificate.TheVariants.{Plan, Shortage}
use Rattle.hsp_price_text.specs.Certificate.{IsCertificate}
use Rattle.hsp_price_text.specs.Drafts.{Drafted, claimed_at, has_ended, has_ended_at, no_plan, reader}
use Rattle.hsp_price_text.specs.Drafts.{start, step, step_at}
use Rattle.hsp_cert.specs.Language.{HasNoEnd, IsEnd, LinesStand, run}
use Rattle.hsp_price_text.specs.Text.{body_lines, lines_of, numbered, prices, server_line}
use Rattle.hsp_price_text.specs.Text.{version}
use Rattle.hsp_price_text.proofs.DraftSteps.{Lines, Valid, Valid_at, so_far, so_far_at, step_next}
use Rattle.hsp_cert.proofs.LineReading.{run-none}

abbrev pub begun : Option Drafted
begun = Some start

-- ---- lines that were taken are those of a draft

-- a run that gave a draft began with one
first_step : (o : Option Drafted) (xs : Lines) (e : Drafted) → run reader o xs ≡ Some e → (d : Drafted) × (o ≡ Some d)
first_step None xs e h = let n = run-none reader xs in absurd cc
first_step (Some d) xs e h = (d, refl)

-- lines that a draft takes stand behind those that it has read
run_next : (xs : Lines) (d e : Drafted) → Valid d → run reader (Some d) xs ≡ Some e
    → Valid e × (so_far e ≡ so_far d ++ xs)
run_next [] d e v h =
    let same : d ≡ e = cc in (subst Valid same v, ap so_far (sym same) ∙ sym (append-nil (so_far d)))
run_next (x ∷ xs) d e v h =
    let f = first_step (step d x) xs e h in
    let n = step_next d x f.0 v f.1 in
    let r = run_next xs f.0 e n.is (rw f.1 at h) in
    (r.0, r.1 ∙ ap (λ (l : Lines). l ++ xs) n.lines ∙ append_assoc (so_far d) (x ∷ []) xs)

-- from the start on they are all that was read
pub run_so_far : (xs : Lines) (e : Drafted) → run reader begun xs ≡ Some e → Valid e × (so_far e ≡ xs)
run_so_far xs e h = run_next xs start e (refl, refl) h

-- ---- a draft that has ended is of a certificate, and each draft goes on to one

-- a draft in a last stage is of a certificate of the lines that it has read
pub ended_at : (s : Stage) (d : Drafted) → has_ended_at s ≡ true → Valid_at s d
    → IsCertificate (claimed_at s d) × (lines_of (claimed_at s d) ≡ so_far_at s d)
ended_at stage.PlanEnded d over v = (v, refl)
ended_at stage.ShortageEnded d over v = (v, refl)
ended_at s d over v = absurd cc

-- an empty plan is a certificate
plan_is : IsCertificate (Plan no_plan)
plan_is = refl

-- the lines that a draft has read stand, whatever its stage
pub stands_at : (s : Stage) (d : Drafted) → Valid_at s d → LinesStand prices (so_far_at s d)
stands_at stage.Version d v = (Plan no_plan, plan_is, lines_of (Plan no_plan), refl)
stands_at stage.Kind d v =
    (Plan no_plan, plan_is, codes "PLAN" ∷ numbered (codes "cost") (0 ∷ []) ∷ codes "END" ∷ [], refl)
stands_at stage.Cost d v = (Plan no_plan, plan_is, numbered (codes "cost") (0 ∷ []) ∷ codes "END" ∷ [], refl)
stands_at stage.Body d v = (Plan d.plan, v, codes "END" ∷ [], refl)
stands_at stage.PlanEnded d v = (Plan d.plan, v, [], sym (append-nil (lines_of (Plan d.plan))))
stands_at stage.Servers d v = (
  Shortage d.set,
  v,
  numbered (codes "demand") (d.set.demand ∷ []) ∷ numbered (codes "capacity") (d.set.capacity ∷ []) ∷ codes "END" ∷ [],
  refl,
)
stands_at stage.Capacity d v = (
  Shortage d.set,
  v,
  numbered (codes "capacity") (d.set.capacity ∷ []) ∷ codes "END" ∷ [],
  ap (λ (l : Lines). version ∷ codes "SHORT" ∷ l)
      (sym (append_assoc (map server_line d.set.servers) (numbered (codes "demand") (d.set.demand ∷ []) ∷ [])
      (numbered (codes "capacity") (d.set.capacity ∷ []) ∷ codes "END" ∷ []))),
)
stands_at stage.ShortageEnd d v = (
  Shortage d.set,
  v,
  codes "END" ∷ [],
  ap (λ (l : Lines). version ∷ codes "SHORT" ∷ l)
      (sym (append_assoc (map server_line d.set.servers)
      (numbered (codes "demand") (d.set.demand ∷ []) ∷ numbered (codes "capacity") (d.set.capacity ∷ []) ∷ [])
      (codes "END" ∷ []))),
)
stands_at stage.ShortageEnded d v = (Shortage d.set, v, [], sym (append-nil (lines_of (Shortage d.set))))

-- ---- END

-- a draft takes nothing behind its end
pub stops_at : (s : Stage) (d : Drafted) (line : List ℕ) → has_ended_at s ≡ true → step_at s d line ≡ None
stops_at stage.PlanEnded d line h = refl
stops_at stage.ShortageEnded d line h = refl
stops_at s d line h = absurd cc

-- where END is taken, the draft has ended
end_at : (s : Stage) (d e : Drafted) → step_at s d (codes "END") ≡ Some e → has_ended e ≡ true
end_at stage.Body d e h =
    let same : record { stage = stage.PlanEnded; plan = d.plan; set = d.set } ≡ e = cc in
    subst (λ (x : Drafted). has_ended x ≡ true) same refl
end_at stage.ShortageEnd d e h =
    let same : record { stage = stage.ShortageEnded; plan = d.plan; set = d.set } ≡ e = cc in
    subst (λ (x : Drafted). has_ended x ≡ true) same refl
end_at s d e h = absurd cc

-- a line that leaves a draft open is not END
pub open_by : (d e : Drafted) (line : List ℕ) → step d line ≡ Some e → has_ended e ≡ false → IsEnd line → ⊥
open_by d e line h still same = let over = end_at d.stage d e (subst (λ l. step d l ≡ Some e) same h) in cc

-- lines with END have it
end_in : (ls : Lines) → HasNoEnd (ls ++ codes "END" ∷ []) → ⊥
end_in [] h = h.0 refl
end_in (l ∷ ls) h = end_in ls h.1

-- as a certificate's have
pub has_end : (c : PriceCertificate) → HasNoEnd (lines_of c) → ⊥
has_end (Plan b) h = end_in (version ∷ codes "PLAN" ∷ numbered (codes "cost") (b.cost ∷ []) ∷ body_lines b) h
has_end (Shortage s) h =
    end_in
    (version ∷ codes "SHORT"
    ∷ (map server_line s.servers
    ++ numbered (codes "demand") (s.demand ∷ []) ∷ numbered (codes "capacity") (s.capacity ∷ []) ∷ []))
    (subst HasNoEnd
    (ap (λ (l : Lines). version ∷ codes "SHORT" ∷ l)
    (sym (append_assoc (map server_line s.servers)
    (numbered (codes "demand") (s.demand ∷ []) ∷ numbered (codes "capacity") (s.capacity ∷ []) ∷ [])
    (codes "END" ∷ [])))) h)
