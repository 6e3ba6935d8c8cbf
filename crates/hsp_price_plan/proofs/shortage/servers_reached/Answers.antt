use Rattle.std.proofs.Common.{◌≡◌, ◌||◌, ◌∙◌, Bool, List, ap, ap₂, take_all, length, slice_index_or}
use Rattle.std.specs.Prelude.{Vec}
use Rattle.std.specs.declared.alloc.Global.{Global}
use Rattle.std.specs.List.{list_any}
use Rattle.std.proofs.lemmas.List.{with_items_is}
use Rattle.hsp_transport.specs.Lists.{flag_at}
use Rattle.hsp_instance.specs.declared.arc.Arc.{Arc}
use Rattle.hsp_prices.specs.Groups.{Group}
use Rattle.hsp_prices.proofs.ShortArcs.{leads, reaches_is}
use Rattle.hsp_price_plan.specs.Grouping.{no_group}
use Rattle.hsp_price_plan.specs.Columns.{arcs_of_groups}
use Rattle.hsp_price_plan.proofs.ReachedServers.{flagged_more, some_to, unflagged_more}
use Rattle.hsp_price_plan.proofs.shortage.servers_reached.Goals as goal
use Rattle.hsp_price_plan.proofs.shortage.servers_reached.Goals.{then-set-number, else-set-number}

pub loop-number-preserved : goal.loop-number-preserved
loop-number-preserved c =
    let groups = c.args.groups.now in
    let flag = flag_at c.args.set.now in
    let k = c.loop-number.number in
    elim c.if-set-number.branch [
      | then-set-number w ↦
          let d = w.index-groups-number.result in
          let arcs : w.deref.result.now ≡ (slice_index_or groups k d).arcs =
          w.deref.ensures.value ∙ ap (λ (g : Group). g.arcs) (w.group.view_is ∙ w.index-groups-number.is) in
          let items : c.if-set-number.reached.items ≡ w.flag_servers.new.reached =
          ap (λ (v : Vec Bool Global). v.items) w.reached-is
          ∙ with_items_is c.loop-number.reached w.flag_servers.new.reached
          (w.flag_servers.auto.reached ∙ w.deref_mut.ensures.len) in
          rw items
          (record {
            many =
                w.flag_servers.auto.reached ∙ ap (λ (flags : List Bool). length flags) w.deref_mut.ensures.value
                ∙ c.loop-number.invariant.many;
            reached =
                λ j.
                w.flag_servers.ensures j
                ∙ ap₂ (λ b (arcs : List Arc). b || some_to flag j arcs)
                (ap (λ (flags : List Bool). flag_at flags j) w.deref_mut.ensures.value
                ∙ c.loop-number.invariant.reached j) arcs
                ∙ flagged_more flag j groups k d c.loop-number-test.true w.if-set-number.true;
          })
      | else-set-number w ↦
          rw w.reached-is
          (record {
            many = c.loop-number.invariant.many;
            reached =
                λ j.
                c.loop-number.invariant.reached j
                ∙ unflagged_more flag j groups k no_group c.loop-number-test.true w.if-set-number.false;
          })
    ]

pub returns-clause-reached : goal.returns-clause-reached
returns-clause-reached c at j =
    c.loop-number.invariant.reached j
    ∙ ap (λ (groups : List Group). list_any (leads (flag_at c.args.set.now) j) (arcs_of_groups groups))
    (take_all c.loop-number.number c.args.groups.now c.loop-number-test.false)
    ∙ reaches_is at c.args.groups.now (flag_at c.args.set.now) j
