use Rattle.std.proofs.Common.{refl}
use Rattle.hsp_stream_cli.proofs.Lent.{hands, same_name}
use Rattle.hsp_stream_cli.proofs.talking.talk_joined.Goals as goal

pub returns-clause-same_reference : goal.returns-clause-same_reference
returns-clause-same_reference g c = same_name _ _ c.talk.ensures.lent

pub returns-clause-ends : goal.returns-clause-ends
returns-clause-ends g c =
    record {
      before = _;
      after = _;
      coming = refl;
      held = refl;
      written = refl;
      holds = c.talk.ensures.ends;
      may_end = c.talk.ensures.may_end;
    }

pub returns-clause-handed : goal.returns-clause-handed
returns-clause-handed g c = hands _ _ c.talk.result c.talk.ensures.handed
