use Rattle.std.proofs.Common.{◌≡◌, ℕ, List, None, Result, Ok, Err, OnErr, refl, take}
use Rattle.hsp_talk.specs.Known.{Known, SendsSome}
use Rattle.hsp_talk.specs.Writing.{Puts}
use Rattle.hsp_talk.proofs.Talks.{octets_go}
use Rattle.hsp_talk.proofs.peer.JoinedPeer.send.Goals as goal

-- octets of which a beginning was written are sent in part
in_part : {E : Type 0} (MayFail : Type 0) (result : Result (Unit {0}) E) (old new : Known) (octets : List ℕ)
    → old.events ≡ None → new.reads ≡ old.reads → new.coming ≡ old.coming → new.lent ≡ old.lent →
    Puts MayFail octets old.written new.written result → OnErr result (SendsSome old new octets)
in_part MayFail (Ok done) old new octets unknown read kept same puts = tt
in_part MayFail (Err failed) old new octets unknown read kept same (may, (count, went)) =
    (count, octets_go old new (take count octets) unknown read kept went same)

pub returns-clause-fails : goal.returns-clause-fails
returns-clause-fails g c =
    in_part g.W.Sink.may_fail c.deliver.result _ _ c.args.octets.now refl refl refl refl c.deliver.ensures.puts
