-- What holds of every plan and every log.
use Rattle.std.proofs.Common.{◌≡◌, ◌≤◌, ◌∙◌, ◌++◌, ℕ, List, [], ◌∷◌, length, take, Option, Some, None, arith, refl, sym}
use Rattle.std.proofs.Common.{ap}
use Rattle.std.specs.List.{slice_get}
use Rattle.std.proofs.lemmas.List.{append-nil, append_assoc, take_all}
use Rattle.std.proofs.lemmas.List.Sums.{sum_by-take-le}
use Rattle.hsp_instance.specs.Instance.{Instance, Server}
use Rattle.hsp_check.specs.Plan.{Plan}
use Rattle.hsp_log.specs.Entries.{Entry}
use Rattle.hsp_dispatch.specs.Dispatch.{answer_at, answer_in, answer_to, answers, answers_after, assigned_in}
use Rattle.hsp_dispatch.specs.Dispatch.{assigned_to, count_for, rest, server_to, spread}
use Rattle.hsp_dispatch.specs.Laws.{GoesOnWithTheRest, IsSpentAfterAll, NeverExceeds}
use Rattle.hsp_dispatch.specs.declared.answer.Answer.{Answer}
use Rattle.hsp_dispatch.specs.declared.answer.Answer.TheVariants.{Spent}
use Rattle.hsp_log.proofs.Each.{each_goes_on}
use Rattle.hsp_dispatch.proofs.Lists.{none_from}
use Rattle.hsp_dispatch.proofs.Resting.{answer_parts, assigned_is}
use Rattle.hsp_dispatch.proofs.Spreads.{is_site, times, times_in, times_within}

-- no site is assigned more than the plan gives it
pub never_exceeds : NeverExceeds
never_exceeds it x entries row site =
    let own = spread it x row in
    let k = count_for it row entries in
    let front : times site (take k own) ≤ times site own = sum_by-take-le (is_site site) own k in
    let all : times site own ≤ x row site = times_within (length it.sites) 0 site (x row) in
    omega (arith, assigned_is it x entries row site)

-- an answer by an element of the spread is not Spent
not_spent : (site : ℕ) (server : Option Server) → assigned_to site server ≡ Spent → ⊥
not_spent site None e = cc
not_spent site (Some server) e = cc

-- a row is spent once all its queries were answered
pub is_spent_after_all : IsSpentAfterAll
is_spent_after_all it x earlier entry row site found spent inside =
    by_element (slice_get own k) refl (sym (ap (λ (own_row : Option ℕ). answer_in it x earlier own_row) found) ∙ spent)
  where
    own : List ℕ
    own = spread it x row

    k : ℕ
    k = count_for it row earlier

    by_element : (given : Option ℕ) → given ≡ slice_get (spread it x row) (count_for it row earlier)
        → answer_at it row given ≡ Spent → assigned_in it x earlier row site ≡ x row site
    by_element None e spent =
        let long : length (spread it x row) ≤ count_for it row earlier =
        none_from (spread it x row) (count_for it row earlier) (sym e) in
        assigned_is it x earlier row site
        ∙ ap (λ (front : List ℕ). times site front) (take_all (count_for it row earlier) (spread it x row) long)
        ∙ times_in (length it.sites) 0 site (x row) (omega arith) (omega arith)
    by_element (Some element) e spent = absurd (not_spent element (server_to it row element) spent)

-- what comes later is answered by what is left
pub goes_on : GoesOnWithTheRest
unfolding answers_after
goes_on it x a b =
    each_goes_on (answer_to it x) (answer_to it (rest it x a)) a
    (λ earlier entry. sym (answer_parts it x a earlier entry)) b
