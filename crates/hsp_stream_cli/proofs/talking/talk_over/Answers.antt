use Rattle.std.proofs.Common.{rules}
use Rattle.hsp_stream_cli.specs.Printing.{IsHandedOn}
use Rattle.hsp_stream_cli.specs.Talking.{TalksOver}
use Rattle.hsp_stream_cli.proofs.Lent.{given_back}
use Rattle.hsp_stream_cli.proofs.talking.talk_over.Goals as goal

pub returns-clause-talks : goal.returns-clause-talks
returns-clause-talks g c =
    given_back
    (λ w.
    TalksOver (g.F.Source.may_read_fail c.args.log) g.O.Sink.may_fail (g.F.Read.remaining c.args.log)
    (g.O.Write.contents c.args.out.now) (g.O.Write.contents w) c.talk_joined-ended.result
    (g.T.Talk.Ends c.args.talk.now c.talk_joined-ended.result)) _ _ _ _ (search rules)
    c.talk_joined-ended.ensures.same_reference c.talk_joined-ended.ensures.ends

pub returns-clause-handed : goal.returns-clause-handed
returns-clause-handed g c =
    given_back
    (λ w.
    IsHandedOn (g.O.Write.contents c.args.out.now) (g.O.Sink.handed c.args.out.now) (g.O.Write.contents w)
    (g.O.Sink.handed w) c.talk_joined-ended.result)
    _ _ _ _ (search rules) c.talk_joined-ended.ensures.same_reference c.talk_joined-ended.ensures.handed
