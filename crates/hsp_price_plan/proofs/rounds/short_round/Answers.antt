use Rattle.std.proofs.Common.{◌≡◌, ◌∙◌, All, Bool, IfSome, List, ap, arith, length, map, subst, sym}
use Rattle.hsp_transport.specs.Lists.{flag_at}
use Rattle.hsp_prices.specs.KeptRows.{with_leaving}
use Rattle.hsp_price_plan.specs.Held.{AreWithin, HeldRows}
use Rattle.hsp_price_plan.proofs.StillRows.{leaving_leaves}
use Rattle.hsp_price_plan.specs.Shortage.{IsShortageFor, IsShortagePast}
use Rattle.hsp_price_plan.proofs.HeldRows.{held_still, rows_within, same_many}
use Rattle.hsp_price_plan.proofs.PlanShown.{all_settled}
use Rattle.hsp_price_plan.proofs.ShortShown.{short_too_large, short_valid}
use Rattle.hsp_price_plan.proofs.rounds.short_round.Goals as goal

pub keep_leaving-leaving-requires : goal.keep_leaving-leaving-requires
keep_leaving-leaving-requires c =
    let numbers = c.args.numbers.now in
    let many : length numbers.server_hosts.items ≡ length c.deref.result.now =
    omega (arith, c.in_ok-reached.ensures.many, c.deref.ensures.len) in
    subst (λ n. AreWithin n c.args.rows.now.rows) many (rows_within numbers c.args.rows.now.rows c.requires.rows)

pub short_certificate-requires-clause-few : goal.short_certificate-requires-clause-few
short_certificate-requires-clause-few c =
    let held = c.requires.rows.2 in
    omega (
      arith,
      c.in_ok-reached.ensures.many,
      c.deref-2.ensures.len,
      same_many c.args.numbers.now c.requires.rows.0 held.numbers_are,
      held.service.servers.few,
    )

pub returns-then-leaving-gt0-clause-lasts : goal.returns-then-leaving-gt0-clause-lasts
returns-then-leaving-gt0-clause-lasts c =
    let set = flag_at c.deref.result.now in
    rw c.keep_leaving-leaving.ensures.kept
    (held_still (with_leaving set) (leaving_leaves set) c.args.numbers.now c.args.rows.now.rows)

pub returns-in-Some-clause-end : goal.returns-in-Some-clause-end
returns-in-Some-clause-end c =
    let numbers = c.args.numbers.now in
    let groups = c.args.groups.now in
    let kept = c.args.rows.now.rows in
    let reached = c.in_ok-reached.reached.items in
    let same : c.keep_leaving-leaving.new.self ≡ c.args.rows.now =
    c.keep_leaving-leaving.ensures.settled (omega (arith, c.if-leaving-gt0.false)) in
    let settled : map (with_leaving (flag_at c.deref.result.now)) kept ≡ kept =
    ap (λ (held : HeldRows). held.rows) (sym c.keep_leaving-leaving.ensures.kept ∙ same) in
    let leaving : All (λ row. with_leaving (flag_at reached) row ≡ row) kept =
    subst (λ (flags : List Bool). All (λ row. with_leaving (flag_at flags) row ≡ row) kept) c.deref.ensures.value
    (all_settled (with_leaving (flag_at c.deref.result.now)) kept settled) in
    let found : IfSome c.in_ok-short.field-0 (IsShortageFor numbers groups reached) =
    subst (λ (flags : List Bool). IfSome c.in_ok-short.field-0 (IsShortageFor numbers groups flags))
    c.deref-2.ensures.value c.in_ok-short.ensures.short in
    short_valid numbers kept groups c.args.set.now reached c.in-Some.short c.requires.groups c.requires.short
    c.in_ok-reached.ensures.reached leaving (rw c.in-Some.is at found)

pub returns-clause-fault : goal.returns-clause-fault
returns-clause-fault c =
    let numbers = c.args.numbers.now in
    let groups = c.args.groups.now in
    let kept = c.args.rows.now.rows in
    let reached = c.in_ok-reached.reached.items in
    let same : c.keep_leaving-leaving.new.self ≡ c.args.rows.now =
    c.keep_leaving-leaving.ensures.settled (omega (arith, c.if-leaving-gt0.false)) in
    let settled : map (with_leaving (flag_at c.deref.result.now)) kept ≡ kept =
    ap (λ (held : HeldRows). held.rows) (sym c.keep_leaving-leaving.ensures.kept ∙ same) in
    let leaving : All (λ row. with_leaving (flag_at reached) row ≡ row) kept =
    subst (λ (flags : List Bool). All (λ row. with_leaving (flag_at flags) row ≡ row) kept) c.deref.ensures.value
    (all_settled (with_leaving (flag_at c.deref.result.now)) kept settled) in
    let past : IsShortagePast numbers groups reached =
    subst (λ (flags : List Bool). IsShortagePast numbers groups flags) c.deref-2.ensures.value
    (rw c.in-None.is at c.in_ok-short.ensures.none) in
    short_too_large numbers kept groups c.args.set.now reached c.requires.groups c.requires.short
    c.in_ok-reached.ensures.reached leaving past
