-- An item can stand exactly where the step takes it.
use Rattle.std.proofs.Common.{◌≡◌, ◌≤◌, ◌+◌, ℕ, Bool, true, false, List, [], ◌∷◌, ◌++◌, length, Option}
use Rattle.std.proofs.Common.{Some, None, refl, ap, subst, ◌∙◌, arith, ◌⊎◌, append_assoc, length-append}
use Rattle.std.specs.Prelude.{◌==◌, ◌&&◌, ◌||◌, nat_le, nat_lt, option_map}
use Rattle.std.proofs.lemmas.Bool.{and_parts, eqb-true}
use Rattle.std.proofs.lemmas.Bool.Decides.{nat_tests}
use Rattle.std.proofs.lemmas.List.{append-nil}
use Rattle.hsp_cert.specs.declared.use_line.UseLine.{UseLine}
use Rattle.hsp_cert.specs.declared.stage.Stage.{Stage}
use Rattle.hsp_cert.specs.declared.stage.Stage.TheVariants as stage
use Rattle.hsp_cert.specs.declared.item.Word.{Word}
use Rattle.hsp_cert.specs.declared.item.Word.TheVariants as word
use Rattle.hsp_cert.specs.declared.item.Item.{Item}
use Rattle.hsp_cert.specs.declared.item.Item.TheVariants as item
use Rattle.hsp_cert.specs.Certificate.{Best, Short, is_use, is_row, is_price, is_before, goes_on_from}
use Rattle.hsp_cert.specs.Certificate.{IsBest, IsShort}
use Rattle.hsp_cert.specs.Text.{use_items, price_items, row_items, body_items, version_of}
use Rattle.hsp_cert.specs.Drafts.{Drafted, when, last, is_next, is_none, may_use, may_row_price, may_server_price}
use Rattle.hsp_cert.specs.Drafts.{may_host_price, may_row, use_step, row_step, body_step, rows_step}
use Rattle.hsp_cert.specs.Steps.{staged, with_plan, with_set, cost_set, is_sum, head_at, plan_step, shortage_step}
use Rattle.hsp_cert.specs.Steps.{step_at, step, no_plan, no_set}
use Rattle.hsp_cert.proofs.ListSteps.{none_is, all_push, ascends_push, when_taken, next_facts}

-- what is there behind a function came from something that is there
mapped_taken : {A B : Type 0} (f : A → B) (o : Option A) (y : B) → option_map f o ≡ Some y
    → (x : A) × (o ≡ Some x) × (f x ≡ y)
mapped_taken f None y h = absurd cc
mapped_taken f (Some x) y h = (x, refl, cc)

-- ---- items of lists that grow

-- one use more is one item more
use_items-push : (us : List UseLine) (u : UseLine)
    → use_items (us ++ u ∷ []) ≡ use_items us ++ item.Three word.Use u.row u.site u.count ∷ []
use_items-push [] u = refl
use_items-push (v ∷ us) u = ap (λ (x : List Item). item.Three word.Use v.row v.site v.count ∷ x) (use_items-push us u)

-- one row more is one item more
row_items-push : (rs : List ℕ) (r : ℕ) → row_items (rs ++ r ∷ []) ≡ row_items rs ++ item.One word.Row r ∷ []
row_items-push [] r = refl
row_items-push (s ∷ rs) r = ap (λ (x : List Item). item.One word.Row s ∷ x) (row_items-push rs r)

-- one price more is one item more, of the next number
price_items-push : (w : Word) (n : ℕ) (ps : List ℕ) (k p : ℕ) → k ≡ n + length ps
    → price_items w n (ps ++ p ∷ []) ≡ price_items w n ps ++ item.Two w k p ∷ []
price_items-push w n [] k p e = let at : n ≡ k = omega arith in ap (λ (m : ℕ). item.Two w m p ∷ []) at
price_items-push w n (q ∷ ps) k p e =
    ap (λ (x : List Item). item.Two w n q ∷ x) (price_items-push w (n + 1) ps k p (omega arith))

-- ---- a body with one line more

abbrev Next_body : ℕ → Best → Item → Best → Type 0
Next_body v b i c =
    IsBest c × (body_items c ≡ body_items b ++ i ∷ []) × (v ≡ 1 → c.host_prices ≡ []) × (c.cost ≡ b.cost)

abbrev plan_of : ℕ → List UseLine → List ℕ → List ℕ → List ℕ → Best
plan_of cost us rs ss hs = record { cost = cost; uses = us; row_prices = rs; server_prices = ss; host_prices = hs }

-- a price of a row leaves a body that may go on
body_row : (v : ℕ) (b : Best) (n p : ℕ) → IsBest b → (v ≡ 1 → b.host_prices ≡ []) → may_row_price b n p ≡ true →
    Next_body v b (item.Two word.Row n p) (plan_of b.cost b.uses (b.row_prices ++ p ∷ []) b.server_prices b.host_prices)
body_row v b n p h one t =
    let a = and_parts (is_none b.server_prices && is_none b.host_prices) (is_next 8192 b.row_prices n p) t in
    let none = and_parts (is_none b.server_prices) (is_none b.host_prices) a.0 in
    let f = next_facts 8192 b.row_prices n p a.1 in
    let pushed = price_items-push word.Row 0 b.row_prices n p (omega (arith, f.0)) in (
      record {
        cost = h.cost;
        uses = h.uses;
        order = h.order;
        row_count = omega (arith, length-append b.row_prices (p ∷ []), f.0, f.1);
        row_prices = all_push is_price b.row_prices p h.row_prices f.2;
        server_count = h.server_count;
        server_prices = h.server_prices;
        host_count = h.host_count;
        host_prices = h.host_prices;
      },
      rw (none_is b.server_prices none.0, none_is b.host_prices none.1) (simp (append-nil, pushed, append_assoc)),
      one,
      refl,
    )

-- a use leaves a body that may go on
body_use : (v : ℕ) (b : Best) (u : UseLine) → IsBest b → (v ≡ 1 → b.host_prices ≡ []) → may_use b u ≡ true →
    Next_body v b (item.Three word.Use u.row u.site u.count)
    (plan_of b.cost (b.uses ++ u ∷ []) b.row_prices b.server_prices b.host_prices)
body_use v b u h one t =
    let a =
    and_parts ((is_none b.row_prices && is_none b.server_prices) && is_none b.host_prices)
    (is_use u && goes_on_from is_before (last b.uses) u) t in
    let none = and_parts (is_none b.row_prices && is_none b.server_prices) (is_none b.host_prices) a.0 in
    let two = and_parts (is_none b.row_prices) (is_none b.server_prices) none.0 in
    let may = and_parts (is_use u) (goes_on_from is_before (last b.uses) u) a.1 in (
      record {
        cost = h.cost;
        uses = all_push is_use b.uses u h.uses may.0;
        order = ascends_push is_before b.uses u h.order may.1;
        row_count = h.row_count;
        row_prices = h.row_prices;
        server_count = h.server_count;
        server_prices = h.server_prices;
        host_count = h.host_count;
        host_prices = h.host_prices;
      },
      rw (none_is b.row_prices two.0, none_is b.server_prices two.1, none_is b.host_prices none.1)
          (simp (append-nil, use_items-push)),
      one,
      refl,
    )

-- a price of a server leaves a body that may go on
body_server : (v : ℕ) (b : Best) (n p : ℕ) → IsBest b → (v ≡ 1 → b.host_prices ≡ []) → may_server_price b n p ≡ true →
    Next_body v b (item.Two word.Server n p)
    (plan_of b.cost b.uses b.row_prices (b.server_prices ++ p ∷ []) b.host_prices)
body_server v b n p h one t =
    let a = and_parts (is_none b.host_prices) (is_next 1024 b.server_prices n p) t in
    let f = next_facts 1024 b.server_prices n p a.1 in
    let pushed = price_items-push word.Server 0 b.server_prices n p (omega (arith, f.0)) in (
      record {
        cost = h.cost;
        uses = h.uses;
        order = h.order;
        row_count = h.row_count;
        row_prices = h.row_prices;
        server_count = omega (arith, length-append b.server_prices (p ∷ []), f.0, f.1);
        server_prices = all_push is_price b.server_prices p h.server_prices f.2;
        host_count = h.host_count;
        host_prices = h.host_prices;
      },
      rw (none_is b.host_prices a.0) (simp (append-nil, pushed, append_assoc)),
      one,
      refl,
    )

-- a price of a host leaves a body that may go on
pub body_host : (v : ℕ) (b : Best) (n p : ℕ) → IsBest b → may_host_price v b n p ≡ true →
    Next_body v b (item.Two word.Host n p)
    (plan_of b.cost b.uses b.row_prices b.server_prices (b.host_prices ++ p ∷ []))
body_host v b n p h t =
    let a = and_parts (v == 2) (is_next 1024 b.host_prices n p) t in
    let f = next_facts 1024 b.host_prices n p a.1 in
    let two : v ≡ 2 = eqb-true v 2 a.0 in
    let pushed = price_items-push word.Host 0 b.host_prices n p (omega (arith, f.0)) in (
      record {
        cost = h.cost;
        uses = h.uses;
        order = h.order;
        row_count = h.row_count;
        row_prices = h.row_prices;
        server_count = h.server_count;
        server_prices = h.server_prices;
        host_count = omega (arith, length-append b.host_prices (p ∷ []), f.0, f.1);
        host_prices = all_push is_price b.host_prices p h.host_prices f.2;
      },
      simp (pushed, append_assoc),
      λ one. absurd (omega arith),
      refl,
    )

-- a use that was taken may stand there, and is put last
use_in_taken : (b c : Best) (t : Bool) (u : UseLine) → use_step b (when t u) ≡ Some c
    → (may_use b u ≡ true) × (plan_of b.cost (b.uses ++ u ∷ []) b.row_prices b.server_prices b.host_prices ≡ c)
use_in_taken b c true u h =
    when_taken (may_use b u) (plan_of b.cost (b.uses ++ u ∷ []) b.row_prices b.server_prices b.host_prices) c h
use_in_taken b c false u h = absurd cc

-- each item that a body takes leaves one that may go on
body_next : (v : ℕ) (b : Best) (i : Item) (c : Best) → IsBest b → (v ≡ 1 → b.host_prices ≡ [])
    → body_step v b i ≡ Some c → Next_body v b i c
body_next v b (item.Three word.Use r s n) c h one e =
    let u : UseLine = record { row = r; site = s; count = n } in
    let t = use_in_taken b c (nat_le r 8191 && nat_le s 31) u e in
    subst (Next_body v b (item.Three word.Use r s n)) t.1 (body_use v b u h one t.0)
body_next v b (item.Two word.Row n p) c h one e =
    let t =
    when_taken (may_row_price b n p) (plan_of b.cost b.uses (b.row_prices ++ p ∷ []) b.server_prices b.host_prices)
    c e in
    subst (Next_body v b (item.Two word.Row n p)) t.1 (body_row v b n p h one t.0)
body_next v b (item.Two word.Server n p) c h one e =
    let t =
    when_taken (may_server_price b n p)
    (plan_of b.cost b.uses b.row_prices (b.server_prices ++ p ∷ []) b.host_prices) c e in
    subst (Next_body v b (item.Two word.Server n p)) t.1 (body_server v b n p h one t.0)
body_next v b (item.Two word.Host n p) c h one e =
    let t =
    when_taken (may_host_price v b n p)
    (plan_of b.cost b.uses b.row_prices b.server_prices (b.host_prices ++ p ∷ [])) c e in
    subst (Next_body v b (item.Two word.Host n p)) t.1 (body_host v b n p h t.0)
body_next v b i c h one e = absurd cc

-- ---- what was read so far

abbrev pub StageFacts : Stage → Drafted → Type 0
StageFacts stage.Version d = (d.plan ≡ no_plan) × (d.set ≡ no_set)
StageFacts stage.Kind d = (d.plan ≡ no_plan) × (d.set ≡ no_set) × ((d.version ≡ 1) ⊎ (d.version ≡ 2))
StageFacts stage.Cost d = (d.plan ≡ no_plan) × (d.set ≡ no_set) × ((d.version ≡ 1) ⊎ (d.version ≡ 2))
StageFacts stage.Body d = ((d.version ≡ 1) ⊎ (d.version ≡ 2)) × (d.version ≡ 1 → d.plan.host_prices ≡ [])
StageFacts stage.Demand d = (d.version ≡ 1) × (d.set ≡ no_set)
StageFacts stage.Capacity d = (d.version ≡ 1) × (d.set.rows ≡ [])
StageFacts stage.Rows d = d.version ≡ 1
StageFacts stage.PlanEnded d = d.version ≡ version_of d.plan.host_prices
StageFacts stage.ShortageEnded d = d.version ≡ 1

abbrev pub Valid_at : Stage → Drafted → Type 0
Valid_at s d = IsBest d.plan × IsShort d.set × StageFacts s d

-- a draft is within the orders and ranges
abbrev pub Valid : Drafted → Type 0
Valid d = Valid_at d.stage d

abbrev pub plan_head : Drafted → List Item
plan_head d = item.One word.Version d.version ∷ item.Alone word.Plan ∷ item.One word.Cost d.plan.cost ∷ []

abbrev pub shortage_head : Drafted → List Item
shortage_head d =
    item.One word.Version d.version ∷ item.Alone word.Shortage ∷ item.One word.Demand d.set.demand
    ∷ item.One word.Capacity d.set.capacity ∷ []

abbrev pub so_far_at : Stage → Drafted → List Item
so_far_at stage.Version d = []
so_far_at stage.Kind d = item.One word.Version d.version ∷ []
so_far_at stage.Cost d = item.One word.Version d.version ∷ item.Alone word.Plan ∷ []
so_far_at stage.Body d = plan_head d ++ body_items d.plan
so_far_at stage.Demand d = item.One word.Version d.version ∷ item.Alone word.Shortage ∷ []
so_far_at stage.Capacity d =
    item.One word.Version d.version ∷ item.Alone word.Shortage ∷ item.One word.Demand d.set.demand ∷ []
so_far_at stage.Rows d = shortage_head d ++ row_items d.set.rows
so_far_at stage.PlanEnded d = plan_head d ++ (body_items d.plan ++ item.Alone word.End ∷ [])
so_far_at stage.ShortageEnded d = shortage_head d ++ (row_items d.set.rows ++ item.Alone word.End ∷ [])

-- the items that a draft was made of
abbrev pub so_far : Drafted → List Item
so_far d = so_far_at d.stage d

abbrev Next : Stage → Drafted → Item → Drafted → Type 0
Next s d i e = Valid e × (so_far e ≡ so_far_at s d ++ i ∷ [])

-- a version that is known is one or two
one_or_two : (v : ℕ) → (v == 1 || v == 2) ≡ true → (v ≡ 1) ⊎ (v ≡ 2)
one_or_two v h = grind (arith, nat_tests)

-- a sum keeps to its limit
sum_within : (n : ℕ) → is_sum n ≡ true → n ≤ 10000000000000000
sum_within n h = grind (arith, nat_tests)

-- each item of the head that is taken leads on
head_next : (s : Stage) (d : Drafted) (i : Item) (e : Drafted) → Valid_at s d → head_at s d i ≡ Some e → Next s d i e
head_next stage.Version d (item.One word.Version v) e h eq =
    let made : Drafted = record { stage = stage.Kind; version = v; plan = d.plan; set = d.set } in
    let t = when_taken (v == 1 || v == 2) made e eq in
    subst (Next stage.Version d (item.One word.Version v)) t.1 ((h.0, h.1, (h.2.0, h.2.1, one_or_two v t.0)), refl)
head_next stage.Kind d (item.Alone word.Plan) e h eq =
    let same : staged stage.Cost d ≡ e = cc in
    subst (Next stage.Kind d (item.Alone word.Plan)) same ((h.0, h.1, h.2), refl)
head_next stage.Kind d (item.Alone word.Shortage) e h eq =
    let t = when_taken (d.version == 1) (staged stage.Demand d) e eq in
    subst (Next stage.Kind d (item.Alone word.Shortage)) t.1 ((h.0, h.1, (eqb-true d.version 1 t.0, h.2.1)), refl)
head_next stage.Cost d (item.One word.Cost n) e h eq =
    let made : Drafted = with_plan stage.Body d (cost_set d.plan n) in
    let t = when_taken (is_sum n) made e eq in
    let p = h.0 in
    let bare : body_items (cost_set d.plan n) ≡ [] = ap (λ (b : Best). body_items (cost_set b n)) h.2.0 in
    let hosts : d.plan.host_prices ≡ [] = ap (λ (b : Best). b.host_prices) h.2.0 in
    subst (Next stage.Cost d (item.One word.Cost n)) t.1 (
      (
        record {
          cost = sum_within n t.0;
          uses = p.uses;
          order = p.order;
          row_count = p.row_count;
          row_prices = p.row_prices;
          server_count = p.server_count;
          server_prices = p.server_prices;
          host_count = p.host_count;
          host_prices = p.host_prices;
        },
        h.1,
        (h.2.2, λ _. hosts),
      ),
      ap (λ (x : List Item). item.One word.Version d.version ∷ item.Alone word.Plan ∷ item.One word.Cost n ∷ x) bare,
    )
head_next stage.Demand d (item.One word.Demand n) e h eq =
    let made : Drafted =
    with_set stage.Capacity d (record { rows = d.set.rows; demand = n; capacity = d.set.capacity }) in
    let t = when_taken (is_sum n) made e eq in
    let rows : d.set.rows ≡ [] = ap (λ (s : Short). s.rows) h.2.1 in
    subst (Next stage.Demand d (item.One word.Demand n)) t.1 (
      (
        h.0,
        record { rows = h.1.rows; order = h.1.order; demand = sum_within n t.0; capacity = h.1.capacity },
        (h.2.0, rows),
      ),
      refl,
    )
head_next stage.Capacity d (item.One word.Capacity n) e h eq =
    let made : Drafted = with_set stage.Rows d (record { rows = d.set.rows; demand = d.set.demand; capacity = n }) in
    let t = when_taken (is_sum n) made e eq in
    subst (Next stage.Capacity d (item.One word.Capacity n)) t.1 (
      (h.0, record { rows = h.1.rows; order = h.1.order; demand = h.1.demand; capacity = sum_within n t.0 }, h.2.0),
      ap
          (λ (rs : List ℕ). item.One word.Version d.version ∷ item.Alone word.Shortage
          ∷ item.One word.Demand d.set.demand ∷ item.One word.Capacity n ∷ row_items rs) h.2.1,
    )
head_next s d i e h eq = absurd cc

-- what a body takes leads on from the draft
body_taken : (d : Drafted) (i : Item) (e : Drafted) → Valid_at stage.Body d
    → option_map (with_plan stage.Body d) (body_step d.version d.plan i) ≡ Some e → Next stage.Body d i e
body_taken d i e h eq =
    let m = mapped_taken (with_plan stage.Body d) (body_step d.version d.plan i) e eq in
    let n = body_next d.version d.plan i m.0 h.0 h.2.1 m.1 in
    subst (Next stage.Body d i) m.2 (
      (n.0, h.1, (h.2.0, n.2)),
      ap (λ (k : ℕ). item.One word.Version d.version ∷ item.Alone word.Plan ∷ item.One word.Cost k ∷ body_items m.0) n.3
          ∙ ap (λ (x : List Item). plan_head d ++ x) n.1,
    )

-- each item that a plan takes leads on
plan_next : (d : Drafted) (i : Item) (e : Drafted) → Valid_at stage.Body d → plan_step d i ≡ Some e
    → Next stage.Body d i e
plan_next d (item.Alone word.End) e h eq =
    let t = when_taken (d.version == version_of d.plan.host_prices) (staged stage.PlanEnded d) e eq in
    subst (Next stage.Body d (item.Alone word.End)) t.1
    ((h.0, h.1, eqb-true d.version (version_of d.plan.host_prices) t.0), refl)
plan_next d i e h eq = body_taken d i e h eq

-- a row that was taken may stand there, and is put last
row_in_taken : (s c : Short) (t : Bool) (r : ℕ) → row_step s (when t r) ≡ Some c
    → (may_row s r ≡ true) × (record { rows = s.rows ++ r ∷ []; demand = s.demand; capacity = s.capacity } ≡ c)
row_in_taken s c true r h =
    when_taken (may_row s r) (record { rows = s.rows ++ r ∷ []; demand = s.demand; capacity = s.capacity }) c h
row_in_taken s c false r h = absurd cc

abbrev Next_rows : Short → Item → Short → Type 0
Next_rows s i t =
    IsShort t × (row_items t.rows ≡ row_items s.rows ++ i ∷ []) × (t.demand ≡ s.demand) × (t.capacity ≡ s.capacity)

-- each item that a short set takes leaves one that may go on
rows_next : (s : Short) (i : Item) (c : Short) → IsShort s → rows_step s i ≡ Some c → Next_rows s i c
rows_next s (item.One word.Row r) c h e =
    let t = row_in_taken s c (nat_le r 8191) r e in
    let may = and_parts (is_row r) (goes_on_from nat_lt (last s.rows) r) t.0 in
    subst (Next_rows s (item.One word.Row r)) t.1 (
      record {
        rows = all_push is_row s.rows r h.rows may.0;
        order = ascends_push nat_lt s.rows r h.order may.1;
        demand = h.demand;
        capacity = h.capacity;
      },
      row_items-push s.rows r,
      refl,
      refl,
    )
rows_next s i c h e = absurd cc

-- what the rows take leads on from the draft
rows_taken : (d : Drafted) (i : Item) (e : Drafted) → Valid_at stage.Rows d
    → option_map (with_set stage.Rows d) (rows_step d.set i) ≡ Some e → Next stage.Rows d i e
rows_taken d i e h eq =
    let m = mapped_taken (with_set stage.Rows d) (rows_step d.set i) e eq in
    let n = rows_next d.set i m.0 h.1 m.1 in
    subst (Next stage.Rows d i) m.2 (
      (h.0, n.0, h.2),
      ap
          (λ (k : ℕ). item.One word.Version d.version ∷ item.Alone word.Shortage ∷ item.One word.Demand k
          ∷ item.One word.Capacity m.0.capacity ∷ row_items m.0.rows) n.2
          ∙ ap
          (λ (k : ℕ). item.One word.Version d.version ∷ item.Alone word.Shortage ∷ item.One word.Demand d.set.demand
          ∷ item.One word.Capacity k ∷ row_items m.0.rows) n.3
          ∙ ap (λ (x : List Item). shortage_head d ++ x) n.1,
    )

-- each item that a short set takes leads on, its end too
shortage_next : (d : Drafted) (i : Item) (e : Drafted) → Valid_at stage.Rows d → shortage_step d i ≡ Some e
    → Next stage.Rows d i e
shortage_next d (item.Alone word.End) e h eq =
    let same : staged stage.ShortageEnded d ≡ e = cc in
    subst (Next stage.Rows d (item.Alone word.End)) same ((h.0, h.1, h.2), refl)
shortage_next d i e h eq = rows_taken d i e h eq

-- at each stage, an item that is taken leads on
next_at : (s : Stage) (d : Drafted) (i : Item) (e : Drafted) → Valid_at s d → step_at s d i ≡ Some e → Next s d i e
next_at stage.Body d i e h eq = plan_next d i e h eq
next_at stage.Rows d i e h eq = shortage_next d i e h eq
next_at s d i e h eq = head_next s d i e h eq

-- an item that is taken makes a draft of one item more
pub step_next : (d : Drafted) (i : Item) (e : Drafted) → Valid d → step d i ≡ Some e
    → Valid e × (so_far e ≡ so_far d ++ i ∷ [])
step_next d i e h eq = next_at d.stage d i e h eq
