use Rattle.std.proofs.Common.{◌≡◌, ◌<◌, ◌≤◌, ◌==◌, ◌∙◌, ℕ, false, true≢false, List, [], ◌∷◌, Option, None, Some, Result}
use Rattle.std.proofs.Common.{Ok, Err, IfOk, length, take, refl, sym, ap, arith, length-take-le}
use Rattle.std.specs.Io.KnownBytes.{Consumes, IsAtEnd}
use Rattle.hsp_talk.specs.Known.{AreMore, GoesOn, HasNoMore, Known}
use Rattle.hsp_talk.specs.Talk.Event.{received}
use Rattle.hsp_talk.proofs.Talks.{octets_come}
use Rattle.hsp_talk.proofs.peer.JoinedPeer.receive.Goals as goal

has_room : (octets : List ℕ) → (length octets == 0) ≡ false → 0 < length octets
has_room [] e = absurd (true≢false e)
has_room (x ∷ octets) e = omega arith

no_more_so : (old new : Option (List ℕ)) → IsAtEnd new → HasNoMore old new
no_more_so None new end = tt
no_more_so (Some old) new end = end

-- what a read brings is received
reads : {E : Type 0} (result : Result ℕ E) (old new : Known) (before after : List ℕ) → old.events ≡ None
    → new.written ≡ old.written → new.lent ≡ old.lent →
    0 < length before → IfOk result (λ count. count ≤ length after)
    → IfOk result (λ count. AreMore old.reads new.reads (take count after ∷ []))
    → IfOk result (λ count. Consumes old.coming new.coming (take count after)) →
    IfOk result (λ count. count ≡ 0 → 0 < length before → IsAtEnd new.coming)
    → IfOk result (λ count. GoesOn old new (received (take count after) ∷ []))
reads (Err e) old new before after unknown kept same room within once came at_end = tt
reads (Ok count) old new before after unknown kept same room within once came at_end =
    octets_come old new (take count after) unknown once came
    (λ none. no_more_so old.coming new.coming (at_end (sym (length-take-le count after within) ∙ ap length none) room))
    kept same

pub returns-clause-receives : goal.returns-clause-receives
returns-clause-receives g c =
    reads c.read_piece.result _ _ c.args.piece.now c.read_piece.new.piece refl refl refl
    (has_room c.args.piece.now (sym c.is_empty.ensures ∙ c.if-is_empty.false))
    c.read_piece.ensures.within c.read_piece.ensures.once c.read_piece.ensures.bytes c.read_piece.ensures.at_end
