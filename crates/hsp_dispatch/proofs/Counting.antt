-- The sums of answers.
use Rattle.std.proofs.Common.{◌≡◌, ◌≢◌, ◌<◌, ◌+◌, ◌∙◌, ◌++◌, ℕ, zero, suc, Bool, List, [], ◌∷◌, length, map, Option}
use Rattle.std.proofs.Common.{Some, None, count_by, arith, refl, ap, sym, cond, add-zero}
use Rattle.std.proofs.lemmas.List.{map_push}
use Rattle.std.proofs.lemmas.List.Sums.{sum_by-cons, sum_by_push}
use Rattle.std.specs.List.{slice_get}
use Rattle.hsp_instance.specs.Instance.{Instance, Server}
use Rattle.hsp_dispatch.specs.Dispatch.{all_of, is_assigned, is_spent, is_unknown, sums_of}
use Rattle.hsp_dispatch.specs.Fronts.{front_sums_of, is_kind, is_no_front}
use Rattle.hsp_dispatch.specs.Lines.{IsAmong, answer_of, counted, served_by}
use Rattle.hsp_dispatch.proofs.Lists.{none_from}
use Rattle.hsp_dispatch.specs.declared.answer.Answer.{Answer}
use Rattle.hsp_dispatch.specs.declared.answer.FrontAnswer.{FrontAnswer}
use Rattle.hsp_dispatch.specs.declared.answer.FrontAnswer.TheVariants.{Answered}
use Rattle.hsp_dispatch.specs.declared.answer.FrontSums.{FrontSums}
use Rattle.hsp_dispatch.specs.declared.answer.Given.{Given}
use Rattle.hsp_dispatch.specs.declared.answer.Given.TheVariants.{NoFront as IsNoFront, Server as ByServer}
use Rattle.hsp_dispatch.specs.declared.answer.Given.TheVariants.{Spent as IsSpent, Unknown as IsUnknown}

-- an answer more counts where it is of the kind
one_more : (kind : FrontAnswer → Bool) (given : List FrontAnswer) (answer : FrontAnswer)
    → count_by kind (given ++ answer ∷ []) ≡ count_by kind given + cond (kind answer) 1 0
one_more kind given answer = sum_by_push (λ (a : FrontAnswer). cond (kind a) 1 0) given answer

-- sums with one answer more
abbrev with_one : FrontSums → FrontAnswer → FrontSums
with_one sums answer = record {
  assigned = sums.assigned + cond (is_kind is_assigned answer) 1 0;
  spent = sums.spent + cond (is_kind is_spent answer) 1 0;
  unknown = sums.unknown + cond (is_kind is_unknown answer) 1 0;
  no_front = sums.no_front + cond (is_no_front answer) 1 0;
}

-- the sums of one answer more
all_more : (given : List FrontAnswer) (answer : FrontAnswer)
    → front_sums_of (given ++ answer ∷ []) ≡ with_one (front_sums_of given) answer
all_more given answer =
    rw (
      one_more (is_kind is_assigned) given answer,
      one_more (is_kind is_spent) given answer,
      one_more (is_kind is_unknown) given answer,
      one_more is_no_front given answer,
    ) refl

-- an answer by a server that is there
served : (sums : FrontSums) (server : Option Server) (number : ℕ) → server ≢ None
    → counted sums (ByServer number) ≡ with_one sums (Answered (served_by server))
served sums None number there = absurd (there refl)
served sums (Some server) number there = rw (add-zero, add-zero, add-zero) refl

-- counting how an answer was given counts the answer
counted_one : (it : Instance) (how : Given) (sums : FrontSums) → IsAmong (length it.servers) how
    → counted sums how ≡ with_one sums (answer_of it how)
counted_one it (ByServer number) sums among =
    served sums (slice_get it.servers number) number
    (λ none. absurd (omega (arith, none_from it.servers number none, among)))
counted_one it IsSpent sums among = rw (add-zero, add-zero, add-zero) refl
counted_one it IsUnknown sums among = rw (add-zero, add-zero, add-zero) refl
counted_one it IsNoFront sums among = rw (add-zero, add-zero, add-zero) refl

-- the sums with one answer more, as they are counted
pub counted_more : (it : Instance) (how : Given) (given : List FrontAnswer) (sums : FrontSums)
    → IsAmong (length it.servers) how → sums ≡ front_sums_of given
    → counted sums how ≡ front_sums_of (given ++ answer_of it how ∷ [])
counted_more it how given sums among are =
    counted_one it how sums among ∙ ap (λ (s : FrontSums). with_one s (answer_of it how)) are
    ∙ sym (all_more given (answer_of it how))

-- ---- answers of a dispatcher

-- answers of a dispatcher are counted as those of fronts
count_answered : (kind : Answer → Bool) (given : List Answer)
    → count_by (is_kind kind) (map Answered given) ≡ count_by kind given
count_answered kind [] = refl
count_answered kind (answer ∷ given) =
    sum_by-cons (λ (a : FrontAnswer). cond (is_kind kind a) 1 0) (Answered answer) (map Answered given)
    ∙ ap (λ (n : ℕ). cond (kind answer) 1 0 + n) (count_answered kind given)
    ∙ sym (sum_by-cons (λ (a : Answer). cond (kind a) 1 0) answer given)

-- a dispatcher never answers that there is no such front
no_fronts : (given : List Answer) → count_by is_no_front (map Answered given) ≡ 0
no_fronts [] = refl
no_fronts (answer ∷ given) =
    sum_by-cons (λ (a : FrontAnswer). cond (is_no_front a) 1 0) (Answered answer) (map Answered given)
    ∙ ap (λ (n : ℕ). 0 + n) (no_fronts given)

-- the sums of a dispatcher's answers are those of fronts
all_sums : (given : List Answer) → front_sums_of (map Answered given) ≡ all_of (sums_of given)
all_sums given =
    rw
    (count_answered is_assigned given, count_answered is_spent given, count_answered is_unknown given, no_fronts given)
    refl

-- the same of a dispatcher's answers
pub counted_answer : (it : Instance) (how : Given) (given : List Answer) (answer : Answer) (sums : FrontSums)
    → IsAmong (length it.servers) how
    → sums ≡ all_of (sums_of given) → answer_of it how ≡ Answered answer
    → counted sums how ≡ all_of (sums_of (given ++ answer ∷ []))
counted_answer it how given answer sums among are is =
    counted_more it how (map Answered given) sums among (are ∙ sym (all_sums given))
    ∙ ap (λ (last : FrontAnswer). front_sums_of (map Answered given ++ last ∷ [])) is
    ∙ ap (λ (all : List FrontAnswer). front_sums_of all) (sym (map_push Answered given answer))
    ∙ all_sums (given ++ answer ∷ [])
