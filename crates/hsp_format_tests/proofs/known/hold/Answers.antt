use Rattle.std.proofs.Common.{◌≡◌, ◌++◌, List, [], Some, Result, Ok, Err, OnOk, ap, refl, subst, sym, ◌∙◌}
use Rattle.hsp_talk.specs.Known.{AreMore, Known, Went}
use Rattle.hsp_talk.specs.Talk.{Event}
use Rattle.hsp_format_tests.specs.Known.{events_of}
use Rattle.hsp_format_tests.proofs.known.hold.Goals as goal

-- what holds of the events that happened holds of all, where there were none before
held : {X E : Type 0} (result : Result X E) (old new : Known) (before after : List Event) (Holds : List Event → Type 0)
    → old.events ≡ Some before → new.events ≡ Some after →
    before ≡ [] → OnOk result (Went old new Holds) → OnOk result (Holds after)
held (Err e) old new before after Holds is_before is_after none so = tt
held (Ok x) old new before after Holds is_before is_after none (events, goes, so) =
    let more : AreMore (Some before) (Some after) events =
    subst (λ n. AreMore (Some before) n events) is_after
    (subst (λ o. AreMore o new.events events) is_before goes.added) in
    subst Holds (sym (more ∙ ap (λ e. e ++ events) none)) so

pub returns : goal.returns
returns g c =
    held c.talk.result _ _ (events_of c.args.peer.now.turns.items) (events_of c.talk.new.peer.turns.items) _ refl refl
    (ap events_of c.requires) c.talk.ensures.whole
