-- Every draft goes on to a certificate.
use Rattle.std.proofs.Common.{◌≡◌, ℕ, true, List, [], ◌∷◌, ◌++◌, refl, sym, ap, ◌∙◌, arith, inl, inr, ◌⊎◌, append_assoc}
use Rattle.std.proofs.lemmas.List.{append-nil}
use Rattle.hsp_cert.specs.declared.use_line.UseLine.{UseLine}
use Rattle.hsp_cert.specs.declared.stage.Stage.{Stage}
use Rattle.hsp_cert.specs.declared.stage.Stage.TheVariants as stage
use Rattle.hsp_cert.specs.declared.item.Word.TheVariants as word
use Rattle.hsp_cert.specs.declared.item.Item.{Item}
use Rattle.hsp_cert.specs.declared.item.Item.TheVariants as item
use Rattle.hsp_cert.specs.Certificate.{Best, Short, Claim, IsBest, IsCertificate}
use Rattle.hsp_cert.specs.Certificate.Claim.{best, short}
use Rattle.hsp_cert.specs.Text.{row_items, body_items, items_of, version_of}
use Rattle.hsp_cert.specs.Drafts.{Drafted}
use Rattle.hsp_cert.specs.Steps.{no_plan, no_set, has_ended, claimed, claimed_at}
use Rattle.hsp_cert.proofs.GrammarSteps.{Valid, Valid_at, so_far, so_far_at, plan_head, body_host}

-- a plan with the version's host prices that begins as this one does
record Completes (v : ℕ) (b : Best) : Type 0 where
  plan : Best
  is : IsBest plan
  version : version_of plan.host_prices ≡ v
  cost : plan.cost ≡ b.cost
  more : List Item
  items : body_items plan ≡ body_items b ++ more

-- a body of its own version is complete as it is
as_it_is : (v : ℕ) (b : Best) → IsBest b → version_of b.host_prices ≡ v → Completes v b
as_it_is v b h e =
    record { plan = b; is = h; version = e; cost = refl; more = []; items = sym (append-nil (body_items b)) }

-- a body of the second version is complete with a price of a host
with_hosts : (cost : ℕ) (us : List UseLine) (rs ss hs : List ℕ)
    → IsBest (record { cost = cost; uses = us; row_prices = rs; server_prices = ss; host_prices = hs }) →
    Completes 2 (record { cost = cost; uses = us; row_prices = rs; server_prices = ss; host_prices = hs })
with_hosts cost us rs ss [] h =
    let b : Best = record { cost = cost; uses = us; row_prices = rs; server_prices = ss; host_prices = [] } in
    let n = body_host 2 b 0 0 h refl in
    record {
      plan = record { cost = cost; uses = us; row_prices = rs; server_prices = ss; host_prices = 0 ∷ [] };
      is = n.0;
      version = refl;
      cost = refl;
      more = item.Two word.Host 0 0 ∷ [];
      items = n.1;
    }
with_hosts cost us rs ss (q ∷ hs) h =
    as_it_is 2 (record { cost = cost; uses = us; row_prices = rs; server_prices = ss; host_prices = q ∷ hs }) h refl

-- a body of version two goes on as one of that version
completes_two : (v : ℕ) (b : Best) → 2 ≡ v → Completes 2 b → Completes v b
completes_two v b e c =
    record { plan = c.plan; is = c.is; version = c.version ∙ e; cost = c.cost; more = c.more; items = c.items }

-- a body of either version goes on to a complete one
completes : (v : ℕ) (b : Best) → (v ≡ 1) ⊎ (v ≡ 2) → (v ≡ 1 → b.host_prices ≡ []) → IsBest b → Completes v b
completes v b (inl one) none h = as_it_is v b h (ap version_of (none one) ∙ sym one)
completes v b (inr two) none h =
    completes_two v b (sym two) (with_hosts b.cost b.uses b.row_prices b.server_prices b.host_prices h)

-- some certificate begins with these items
abbrev pub CanStand : List Item → Type 0
CanStand items = (claim : Claim) × IsCertificate claim × (more : List Item) × (items_of claim ≡ items ++ more)

-- the plan without uses and prices keeps every rule
no_plan_is : IsBest no_plan
no_plan_is =
    record {
      cost = omega arith;
      uses = refl;
      order = refl;
      row_count = omega arith;
      row_prices = refl;
      server_count = omega arith;
      server_prices = refl;
      host_count = omega arith;
      host_prices = refl;
    }

-- the item that ends a certificate
end : List Item
end = item.Alone word.End ∷ []

-- a draft that was read to its end is of a certificate's items
claim_ended_at : (s : Stage) (d : Drafted) → has_ended s ≡ true → Valid_at s d
    → IsCertificate (claimed_at s d) × (items_of (claimed_at s d) ≡ so_far_at s d)
unfolding end
claim_ended_at stage.PlanEnded d over h = (
  h.0,
  ap
      (λ (v : ℕ). item.One word.Version v ∷ item.Alone word.Plan ∷ item.One word.Cost d.plan.cost
      ∷ (body_items d.plan ++ end)) (sym h.2),
)
claim_ended_at stage.ShortageEnded d over h = (
  h.1,
  ap
      (λ (v : ℕ). item.One word.Version v ∷ item.Alone word.Shortage ∷ item.One word.Demand d.set.demand
      ∷ item.One word.Capacity d.set.capacity ∷ (row_items d.set.rows ++ end)) (sym h.2),
)
claim_ended_at s d over h = absurd cc

-- a draft that has ended is a certificate with the items that were read
pub claim_ended : (d : Drafted) → has_ended d.stage ≡ true → Valid d
    → IsCertificate (claimed d) × (items_of (claimed d) ≡ so_far d)
claim_ended d over h = claim_ended_at d.stage d over h

-- a draft of any stage goes on to a certificate
stands_at : (s : Stage) (d : Drafted) → Valid_at s d → CanStand (so_far_at s d)
unfolding end
stands_at stage.Version d h = (best no_plan, no_plan_is, items_of (best no_plan), refl)
stands_at stage.Kind d h =
    let c = completes d.version no_plan h.2.2 (λ _. refl) no_plan_is in
    let rest : List Item = item.Alone word.Plan ∷ item.One word.Cost c.plan.cost ∷ (body_items c.plan ++ end) in
    (best c.plan, c.is, rest, ap (λ (v : ℕ). item.One word.Version v ∷ rest) c.version)
stands_at stage.Cost d h =
    let c = completes d.version no_plan h.2.2 (λ _. refl) no_plan_is in
    let rest : List Item = item.One word.Cost c.plan.cost ∷ (body_items c.plan ++ end) in
    (best c.plan, c.is, rest, ap (λ (v : ℕ). item.One word.Version v ∷ item.Alone word.Plan ∷ rest) c.version)
stands_at stage.Body d h =
    let c = completes d.version d.plan h.2.0 h.2.1 h.0 in (
      best c.plan,
      c.is,
      c.more ++ end,
      ap
          (λ (v : ℕ). item.One word.Version v ∷ item.Alone word.Plan ∷ item.One word.Cost c.plan.cost
          ∷ (body_items c.plan ++ end)) c.version
          ∙ ap
          (λ (k : ℕ). item.One word.Version d.version ∷ item.Alone word.Plan ∷ item.One word.Cost k
          ∷ (body_items c.plan ++ end)) c.cost
          ∙ ap (λ (x : List Item). plan_head d ++ x)
          (ap (λ (x : List Item). x ++ end) c.items ∙ append_assoc (body_items d.plan) c.more end),
    )
stands_at stage.Demand d h =
    let s : Short = no_set in
    let rest : List Item = item.One word.Demand 0 ∷ item.One word.Capacity 0 ∷ end in (
      short s,
      record { rows = refl; order = refl; demand = omega arith; capacity = omega arith },
      rest,
      ap (λ (v : ℕ). item.One word.Version v ∷ item.Alone word.Shortage ∷ rest) (sym h.2.0),
    )
stands_at stage.Capacity d h =
    let s : Short = record { rows = []; demand = d.set.demand; capacity = 0 } in
    let rest : List Item = item.One word.Capacity 0 ∷ end in (
      short s,
      record { rows = refl; order = refl; demand = h.1.demand; capacity = omega arith },
      rest,
      ap (λ (v : ℕ). item.One word.Version v ∷ item.Alone word.Shortage ∷ item.One word.Demand d.set.demand ∷ rest)
          (sym h.2.0),
    )
stands_at stage.Rows d h = (
  short d.set,
  h.1,
  end,
  ap
      (λ (v : ℕ). item.One word.Version v ∷ item.Alone word.Shortage ∷ item.One word.Demand d.set.demand
      ∷ item.One word.Capacity d.set.capacity ∷ (row_items d.set.rows ++ end)) (sym h.2),
)
stands_at stage.PlanEnded d h =
    let c = claim_ended_at stage.PlanEnded d refl h in
    (best d.plan, c.0, [], c.1 ∙ sym (append-nil (so_far_at stage.PlanEnded d)))
stands_at stage.ShortageEnded d h =
    let c = claim_ended_at stage.ShortageEnded d refl h in
    (short d.set, c.0, [], c.1 ∙ sym (append-nil (so_far_at stage.ShortageEnded d)))

-- the items of a draft begin those of some certificate
pub draft_stands : (d : Drafted) → Valid d → CanStand (so_far d)
draft_stands d h = stands_at d.stage d h
