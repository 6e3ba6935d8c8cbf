use Rattle.std.proofs.Common.{◌≡◌, ◌∷◌, []}
use Rattle.hsp_csv.proofs.PassedMarks.{keeps_on, passes, stops_first, stops_second, stops_third}
use Rattle.hsp_csv.proofs.places.Octets.pass_mark.Goals as goal

pub returns-then-not-branch : goal.returns-then-not-branch
returns-then-not-branch g c =
    stops_first _ _ c.args.self.now.ahead.items _ c.requires c.in_ok-look.ensures.keeps
    (rw c.if-not-branch.true at c.in_ok-look.ensures.looks)

pub returns-then-not-branch-2 : goal.returns-then-not-branch-2
returns-then-not-branch-2 g c =
    let first : c.look.new.self.ahead.items ≡ 0xEF ∷ [] =
    rw c.requires at (rw c.if-not-branch.false at c.in_ok-look.ensures.looks) in
    let kept = keeps_on _ _ _ c.in_ok-look.ensures.keeps c.in_ok-look-2.ensures.keeps in
    stops_second _ _ c.look.new.self.ahead.items _ first kept
    (rw c.if-not-branch-2.true at c.in_ok-look-2.ensures.looks)

pub returns-then-not-branch-3 : goal.returns-then-not-branch-3
returns-then-not-branch-3 g c =
    let first : c.look.new.self.ahead.items ≡ 0xEF ∷ [] =
    rw c.requires at (rw c.if-not-branch.false at c.in_ok-look.ensures.looks) in
    let second : c.look-2.new.self.ahead.items ≡ 0xEF ∷ 0xBB ∷ [] =
    rw first at (rw c.if-not-branch-2.false at c.in_ok-look-2.ensures.looks) in
    let kept =
    keeps_on _ _ _ (keeps_on _ _ _ c.in_ok-look.ensures.keeps c.in_ok-look-2.ensures.keeps)
    c.in_ok-look-3.ensures.keeps in
    stops_third _ _ c.look-2.new.self.ahead.items _ second kept
    (rw c.if-not-branch-3.true at c.in_ok-look-3.ensures.looks)

pub returns : goal.returns
returns g c =
    let first : c.look.new.self.ahead.items ≡ 0xEF ∷ [] =
    rw c.requires at (rw c.if-not-branch.false at c.in_ok-look.ensures.looks) in
    let second : c.look-2.new.self.ahead.items ≡ 0xEF ∷ 0xBB ∷ [] =
    rw first at (rw c.if-not-branch-2.false at c.in_ok-look-2.ensures.looks) in
    let third : c.look-3.new.self.ahead.items ≡ 0xEF ∷ 0xBB ∷ 0xBF ∷ [] =
    rw second at (rw c.if-not-branch-3.false at c.in_ok-look-3.ensures.looks) in
    let kept =
    keeps_on _ _ _ (keeps_on _ _ _ c.in_ok-look.ensures.keeps c.in_ok-look-2.ensures.keeps)
    c.in_ok-look-3.ensures.keeps in
    passes _ _ c.look-3.new.self.ahead.items _ third c.clear.ensures.items kept
