-- What a draft has read so far, and what a line adds to it.
use Rattle.std.proofs.Common.{◌≡◌, ◌<◌, ◌≤◌, ◌+◌, ℕ, Bool, true, false, List, [], ◌∷◌, ◌++◌, length, map}
use Rattle.std.proofs.Common.{Option, Some}
use Rattle.std.proofs.Common.{None, inl, inr, ◌⊎◌, refl, sym, ap, subst, ◌∙◌, arith, append_assoc, append-nil}
use Rattle.std.proofs.Common.{length-append}
use Rattle.std.specs.Prelude.{◌&&◌, codes, if◌then◌else◌, nat_le, nat_lt, option_map}
use Rattle.std.specs.List.{list_all}
use Rattle.std.specs.Str.{bytes_eq}
use Rattle.std.proofs.lemmas.Bool.{and_parts, and_from}
use Rattle.std.proofs.lemmas.Bool.Decides.{nat_tests}
use Rattle.std.proofs.lemmas.List.{map-append}
use Rattle.std.proofs.lemmas.Slice.Eq.{bytes_eq-Decides}
use Rattle.hsp_cert.specs.Certificate.{are_prices_within, ascends, is_price}
use Rattle.hsp_cert.specs.Drafts.{is_next, is_none, when}
use Rattle.hsp_cert.specs.Steps.{is_sum}
use Rattle.hsp_cert.proofs.ListSteps.{all_push, ascends_push, next_facts, none_is, when_taken}
use Rattle.hsp_text.proofs.Steps.{le_true}
use Rattle.hsp_price_text.specs.declared.stage.Stage.{Stage}
use Rattle.hsp_price_text.specs.declared.stage.Stage.TheVariants as stage
use Rattle.hsp_price_text.specs.declared.certificate.PriceCertificate.TheVariants.{Plan, Shortage}
use Rattle.hsp_price_text.specs.Claim.{Best, Class, Short, are_servers, is_before, is_best, is_class, is_server}
use Rattle.hsp_price_text.specs.Claim.{is_short}
use Rattle.hsp_price_text.specs.Drafts.{Drafted, behind_servers_step, body_step, capacity_step, class_step}
use Rattle.hsp_price_text.specs.Drafts.{cost_step, demand_step, fixed_step, host_price_step, kind_step}
use Rattle.hsp_price_text.specs.Drafts.{no_plan, no_set, or_else, plan_step, priced, server_price_step, server_step}
use Rattle.hsp_price_text.specs.Drafts.{servers_step, step, step_at}
use Rattle.hsp_price_text.specs.Lines.{class_in, numbers_behind, only_one, only_two}
use Rattle.hsp_price_text.specs.Text.{body_lines, class_line, lines_of, numbered, price_lines, server_line, version}
use Rattle.hsp_price_text.proofs.Grammar.{class_named, one_named, two_named}

abbrev pub Lines : Type 0
Lines = List (List ℕ)

-- ---- lists that grow

-- one price more is one line more, of the next number
price_lines-push : (word : List ℕ) (n : ℕ) (ps : List ℕ) (k p : ℕ) → k ≡ n + length ps
    → price_lines word n (ps ++ p ∷ []) ≡ price_lines word n ps ++ numbered word (k ∷ p ∷ []) ∷ []
price_lines-push word n [] k p e =
    let at : n ≡ k = omega arith in ap (λ (m : ℕ). numbered word (m ∷ p ∷ []) ∷ []) at
price_lines-push word n (q ∷ ps) k p e =
    ap (λ l. numbered word (n ∷ q ∷ []) ∷ l) (price_lines-push word (n + 1) ps k p (omega arith))

-- a price that may come next stays within the limits, and has the next number
prices_push : (most : ℕ) (ps : List ℕ) (n p : ℕ) → are_prices_within most ps ≡ true → is_next most ps n p ≡ true
    → (are_prices_within most (ps ++ p ∷ []) ≡ true) × (n ≡ length ps)
prices_push most ps n p h k =
    let f = next_facts most ps n p k in
    let few : length (ps ++ p ∷ []) ≤ most = omega (arith, length-append ps (p ∷ []), f.0, f.1) in
    let within = and_parts (nat_le (length ps) most) (list_all is_price ps) h in
    (and_from (nat_le (length (ps ++ p ∷ [])) most) _ (le_true _ most few) (all_push is_price ps p within.1 f.2), f.0)

-- ---- a plan with one line more

pub record BestParts (b : Best) : Type 0 where
  pub cost : is_sum b.cost ≡ true
  pub servers : are_prices_within 1024 b.server_prices ≡ true
  pub hosts : are_prices_within 1024 b.host_prices ≡ true
  pub few : nat_le (length b.classes) 1048576 ≡ true
  pub classes : list_all is_class b.classes ≡ true
  pub order : ascends is_before b.classes ≡ true

-- a plan within the orders and ranges has them
pub best_parts : (b : Best) → is_best b ≡ true → BestParts b
best_parts b h =
    let a = and_parts (is_sum b.cost) _ h in
    let c = and_parts (are_prices_within 1024 b.server_prices) _ a.1 in
    let d = and_parts (are_prices_within 1024 b.host_prices) _ c.1 in
    let e = and_parts (nat_le (length b.classes) 1048576) _ d.1 in
    let f = and_parts (list_all is_class b.classes) _ e.1 in
    record { cost = a.0; servers = c.0; hosts = d.0; few = e.0; classes = f.0; order = f.1 }

-- and a plan that has them is within
best_from : (b : Best) → BestParts b → is_best b ≡ true
best_from b h =
    and_from (is_sum b.cost) _ h.cost
    (and_from (are_prices_within 1024 b.server_prices) _ h.servers
    (and_from (are_prices_within 1024 b.host_prices) _ h.hosts
    (and_from (nat_le (length b.classes) 1048576) _ h.few
    (and_from (list_all is_class b.classes) _ h.classes h.order))))

-- the plan e is the plan b with a line more
record Grown (b : Best) (line : List ℕ) (e : Best) : Type 0 where
  is : is_best e ≡ true
  lines : body_lines e ≡ body_lines b ++ line ∷ []
  cost : e.cost ≡ b.cost

abbrev pub plan_of : ℕ → List ℕ → List ℕ → List Class → Best
plan_of cost ps qs cs = record { cost = cost; server_prices = ps; host_prices = qs; classes = cs }

-- the price of a server is a line more
server_grown : (b : Best) (said : ℕ × ℕ) (e : Best) → is_best b ≡ true → server_price_step b (Some said) ≡ Some e
    → Grown b (numbered (codes "server") (said.0 ∷ said.1 ∷ [])) e
server_grown b said e h taken =
    let grown = plan_of b.cost (b.server_prices ++ said.1 ∷ []) b.host_prices b.classes in
    let t = when_taken _ grown e taken in
    let a = and_parts (is_none b.host_prices && is_none b.classes) _ t.0 in
    let none = and_parts (is_none b.host_prices) (is_none b.classes) a.0 in
    let p = best_parts b h in
    let pushed = prices_push 1024 b.server_prices said.0 said.1 p.servers a.1 in
    subst (Grown b (numbered (codes "server") (said.0 ∷ said.1 ∷ []))) t.1 (record {
      is =
          best_from grown
          (record {
            cost = p.cost;
            servers = pushed.0;
            hosts = p.hosts;
            few = p.few;
            classes = p.classes;
            order = p.order;
          });
      lines =
          rw (none_is b.host_prices none.0, none_is b.classes none.1)
          (ap (λ l. l ++ [])
          (price_lines-push (codes "server") 0 b.server_prices said.0 said.1 (omega (arith, pushed.1)))
          ∙ append-nil _ ∙ ap (λ l. l ++ numbered (codes "server") (said.0 ∷ said.1 ∷ []) ∷ [])
          (sym (append-nil (price_lines (codes "server") 0 b.server_prices))));
      cost = refl;
    })

-- the price of a host is a line more
host_grown : (b : Best) (said : ℕ × ℕ) (e : Best) → is_best b ≡ true → host_price_step b (Some said) ≡ Some e
    → Grown b (numbered (codes "host") (said.0 ∷ said.1 ∷ [])) e
host_grown b said e h taken =
    let grown = plan_of b.cost b.server_prices (b.host_prices ++ said.1 ∷ []) b.classes in
    let t = when_taken _ grown e taken in
    let a = and_parts (is_none b.classes) _ t.0 in
    let p = best_parts b h in
    let pushed = prices_push 1024 b.host_prices said.0 said.1 p.hosts a.1 in
    let servers = price_lines (codes "server") 0 b.server_prices in
    let hosts = price_lines (codes "host") 0 b.host_prices in
    subst (Grown b (numbered (codes "host") (said.0 ∷ said.1 ∷ []))) t.1 (record {
      is =
          best_from grown
          (record {
            cost = p.cost;
            servers = p.servers;
            hosts = pushed.0;
            few = p.few;
            classes = p.classes;
            order = p.order;
          });
      lines =
          rw (none_is b.classes a.0)
          (ap (λ l. servers ++ (l ++ []))
          (price_lines-push (codes "host") 0 b.host_prices said.0 said.1 (omega (arith, pushed.1)))
          ∙ simp (append-nil, append_assoc));
      cost = refl;
    })

-- a class is a line more
class_grown : (b : Best) (c : Class) (e : Best) → is_best b ≡ true → class_step b (Some c) ≡ Some e
    → Grown b (class_line c) e
class_grown b c e h taken =
    let grown = plan_of b.cost b.server_prices b.host_prices (b.classes ++ c ∷ []) in
    let t = when_taken _ grown e taken in
    let a = and_parts (nat_lt (length b.classes) 1048576) _ t.0 in
    let next = and_parts (is_class c) _ a.1 in
    let p = best_parts b h in
    let less : length b.classes < 1048576 = let t = a.0 in grind (arith, nat_tests) in
    let few : length (b.classes ++ c ∷ []) ≤ 1048576 = omega (arith, length-append b.classes (c ∷ [])) in
    let servers = price_lines (codes "server") 0 b.server_prices in
    let hosts = price_lines (codes "host") 0 b.host_prices in
    subst (Grown b (class_line c)) t.1 (record {
      is =
          best_from grown
          (record {
            cost = p.cost;
            servers = p.servers;
            hosts = p.hosts;
            few = grind (arith, nat_tests, few);
            classes = all_push is_class b.classes c p.classes next.0;
            order = ascends_push is_before b.classes c p.order next.1;
          });
      lines =
          ap (λ l. servers ++ (hosts ++ l)) (map-append class_line b.classes (c ∷ [])) ∙ simp (append_assoc);
      cost = refl;
    })

-- of two the first that is there
either : {A : Type 0} (o p : Option A) (x : A) → or_else o p ≡ Some x → (o ≡ Some x) ⊎ (p ≡ Some x)
either None p x h = inr h
either (Some y) p x h = inl h

-- a line between the cost and the end
body_grown : (b : Best) (line : List ℕ) (e : Best) → is_best b ≡ true → body_step b line ≡ Some e → Grown b line e
body_grown b line e h taken =
    elim (either (server_price_step b (only_two (numbers_behind (codes "server") line)))
    (behind_servers_step b line) e taken) [
      | inl one ↦ server (only_two (numbers_behind (codes "server") line)) (two_named (codes "server") line) one
      | inr other ↦ elim (either (host_price_step b (only_two (numbers_behind (codes "host") line)))
          (class_step b (class_in line)) e other) [
            | inl two ↦ host (only_two (numbers_behind (codes "host") line)) (two_named (codes "host") line) two
            | inr three ↦ class (class_in line) (class_named line) three
          ]
    ]
  where
    server : (o : Option (ℕ × ℕ))
        → ((a : ℕ × ℕ) → o ≡ Some a → line ≡ numbered (codes "server") (a.0 ∷ a.1 ∷ []))
        → server_price_step b o ≡ Some e → Grown b line e
    server None named f = absurd cc
    server (Some a) named f = subst (λ l. Grown b l e) (sym (named a refl)) (server_grown b a e h f)

    host : (o : Option (ℕ × ℕ))
        → ((a : ℕ × ℕ) → o ≡ Some a → line ≡ numbered (codes "host") (a.0 ∷ a.1 ∷ []))
        → host_price_step b o ≡ Some e → Grown b line e
    host None named f = absurd cc
    host (Some a) named f = subst (λ l. Grown b l e) (sym (named a refl)) (host_grown b a e h f)

    class : (o : Option Class) → ((c : Class) → o ≡ Some c → line ≡ class_line c)
        → class_step b o ≡ Some e → Grown b line e
    class None named f = absurd cc
    class (Some c) named f = subst (λ l. Grown b l e) (sym (named c refl)) (class_grown b c e h f)

-- ---- a draft with one line more

abbrev pub draft : Stage → Best → Short → Drafted
draft s b t = record { stage = s; plan = b; set = t }

-- what holds of a draft in a stage
abbrev pub Valid_at : Stage → Drafted → Type 0
Valid_at stage.Body d = is_best d.plan ≡ true
Valid_at stage.PlanEnded d = is_best d.plan ≡ true
Valid_at stage.Servers d = is_short d.set ≡ true
Valid_at stage.Capacity d = is_short d.set ≡ true
Valid_at stage.ShortageEnd d = is_short d.set ≡ true
Valid_at stage.ShortageEnded d = is_short d.set ≡ true
Valid_at s d = (d.plan ≡ no_plan) × (d.set ≡ no_set)

abbrev pub Valid : Drafted → Type 0
Valid d = Valid_at d.stage d

abbrev cost_line : ℕ → List ℕ
cost_line cost = numbered (codes "cost") (cost ∷ [])

abbrev demand_line : ℕ → List ℕ
demand_line demand = numbered (codes "demand") (demand ∷ [])

abbrev capacity_line : ℕ → List ℕ
capacity_line capacity = numbered (codes "capacity") (capacity ∷ [])

-- the lines that were read
abbrev pub so_far_at : Stage → Drafted → Lines
so_far_at stage.Version d = []
so_far_at stage.Kind d = version ∷ []
so_far_at stage.Cost d = version ∷ codes "PLAN" ∷ []
so_far_at stage.Body d = version ∷ codes "PLAN" ∷ cost_line d.plan.cost ∷ body_lines d.plan
so_far_at stage.PlanEnded d = lines_of (Plan d.plan)
so_far_at stage.Servers d = version ∷ codes "SHORT" ∷ map server_line d.set.servers
so_far_at stage.Capacity d =
    version ∷ codes "SHORT" ∷ (map server_line d.set.servers ++ demand_line d.set.demand ∷ [])
so_far_at stage.ShortageEnd d =
    version ∷ codes "SHORT"
    ∷ (map server_line d.set.servers ++ demand_line d.set.demand ∷ capacity_line d.set.capacity ∷ [])
so_far_at stage.ShortageEnded d = lines_of (Shortage d.set)

abbrev pub so_far : Drafted → Lines
so_far d = so_far_at d.stage d

-- the draft e has a line more
pub record Next (before : Lines) (line : List ℕ) (e : Drafted) : Type 0 where
  pub is : Valid e
  pub lines : so_far e ≡ before ++ line ∷ []

-- the octets of a line that passes the test are these
same_line : (line wanted : List ℕ) → bytes_eq line wanted ≡ true → line ≡ wanted
same_line line wanted h = (bytes_eq-Decides line wanted).0 h

-- a short set has these
pub record ShortParts (t : Short) : Type 0 where
  pub within : list_all is_server t.servers ≡ true
  pub order : ascends nat_lt t.servers ≡ true
  pub demand : is_sum t.demand ≡ true
  pub capacity : is_sum t.capacity ≡ true

-- a set within the orders and ranges has them
pub short_parts : (t : Short) → is_short t ≡ true → ShortParts t
short_parts t h =
    let a = and_parts (are_servers t.servers) _ h in
    let b = and_parts (list_all is_server t.servers) _ a.0 in
    let c = and_parts (is_sum t.demand) _ a.1 in
    record { within = b.0; order = b.1; demand = c.0; capacity = c.1 }

-- and a set that has them is within
short_from : (t : Short) → ShortParts t → is_short t ≡ true
short_from t h =
    and_from (are_servers t.servers) _ (and_from (list_all is_server t.servers) _ h.within h.order)
    (and_from (is_sum t.demand) _ h.demand h.capacity)

-- the plan of a draft that has read no cost
no_plan_cost : (cost : ℕ) → is_sum cost ≡ true → is_best (plan_of cost [] [] []) ≡ true
no_plan_cost cost h = best_from (plan_of cost [] [] [])
    (record { cost = h; servers = refl; hosts = refl; few = refl; classes = refl; order = refl })

-- the first line
version_next : (b : Best) (t : Short) (line : List ℕ) (e : Drafted) → Valid_at stage.Version (draft stage.Version b t)
    → fixed_step (draft stage.Version b t) line version stage.Kind ≡ Some e → Next [] line e
version_next b t line e v h =
    let w = when_taken _ (draft stage.Kind b t) e h in
    subst (Next [] line) w.1
    (record { is = v; lines = ap (λ l. l ∷ []) (sym (same_line line version w.0)) })

-- the line that says what follows
kind_next : (b : Best) (t : Short) (line : List ℕ) (e : Drafted) → Valid_at stage.Kind (draft stage.Kind b t)
    → kind_step (draft stage.Kind b t) line ≡ Some e → Next (version ∷ []) line e
kind_next b t line e v h = by (bytes_eq line (codes "PLAN")) refl h
  where
    by : (p : Bool) → bytes_eq line (codes "PLAN") ≡ p
        → (if p then Some (draft stage.Cost b t)
        else when (bytes_eq line (codes "SHORT")) (draft stage.Servers b t)) ≡ Some e → Next (version ∷ []) line e
    by true f g =
        let same : draft stage.Cost b t ≡ e = cc in
        subst (Next (version ∷ []) line) same
        (record { is = v; lines = ap (λ l. version ∷ l ∷ []) (sym (same_line line (codes "PLAN") f)) })
    by false f g =
        let w = when_taken _ (draft stage.Servers b t) e g in
        subst (Next (version ∷ []) line) w.1
        (record {
          is = ap is_short v.1;
          lines =
              ap (λ (u : Short). version ∷ codes "SHORT" ∷ map server_line u.servers) v.1
              ∙ ap (λ l. version ∷ l ∷ []) (sym (same_line line (codes "SHORT") w.0));
        })

-- the cost of a plan
cost_next : (b : Best) (t : Short) (line : List ℕ) (e : Drafted) → Valid_at stage.Cost (draft stage.Cost b t)
    → cost_step (draft stage.Cost b t) (only_one (numbers_behind (codes "cost") line)) ≡ Some e
    → Next (version ∷ codes "PLAN" ∷ []) line e
cost_next b t line e v h =
    by (only_one (numbers_behind (codes "cost") line)) (one_named (codes "cost") line) h
  where
    by : (o : Option ℕ) → ((a : ℕ) → o ≡ Some a → line ≡ cost_line a)
        → cost_step (draft stage.Cost b t) o ≡ Some e → Next (version ∷ codes "PLAN" ∷ []) line e
    by None named g = absurd cc
    by (Some cost) named g =
        let next : Best → Drafted = λ (c : Best). draft stage.Body (record c { cost = cost }) t in
        let w = when_taken (is_sum cost) (next b) e g in
        subst (Next (version ∷ codes "PLAN" ∷ []) line) (ap next (sym v.0) ∙ w.1)
        (record {
          is = no_plan_cost cost w.0;
          lines = ap (λ l. version ∷ codes "PLAN" ∷ l ∷ []) (sym (named cost refl));
        })

-- a line behind the cost
plan_next : (b : Best) (t : Short) (line : List ℕ) (e : Drafted) → is_best b ≡ true
    → plan_step (draft stage.Body b t) line ≡ Some e → Next (so_far_at stage.Body (draft stage.Body b t)) line e
plan_next b t line e v h = by (bytes_eq line (codes "END")) refl (body_step b line) (body_grown b line) h
  where
    by : (p : Bool) → bytes_eq line (codes "END") ≡ p → (o : Option Best)
        → ((c : Best) → is_best b ≡ true → o ≡ Some c → Grown b line c)
        → (if p then Some (draft stage.PlanEnded b t) else option_map (priced (draft stage.Body b t)) o) ≡ Some e
        → Next (version ∷ codes "PLAN" ∷ cost_line b.cost ∷ body_lines b) line e
    by true f o grown g =
        let same : draft stage.PlanEnded b t ≡ e = cc in
        subst (Next (version ∷ codes "PLAN" ∷ cost_line b.cost ∷ body_lines b) line) same
        (record {
          is = v;
          lines =
              ap (λ l. version ∷ codes "PLAN" ∷ cost_line b.cost ∷ (body_lines b ++ l ∷ []))
              (sym (same_line line (codes "END") f));
        })
    by false f None grown g = absurd cc
    by false f (Some c) grown g =
        let same : draft stage.Body c t ≡ e = cc in
        let more = grown c v refl in
        subst (Next (version ∷ codes "PLAN" ∷ cost_line b.cost ∷ body_lines b) line) same
        (record {
          is = more.is;
          lines =
              ap (λ cost. version ∷ codes "PLAN" ∷ cost_line cost ∷ body_lines c) more.cost
              ∙ ap (λ l. version ∷ codes "PLAN" ∷ cost_line b.cost ∷ l) more.lines;
        })

-- a server of a short set, or what it catches
set_next : (b : Best) (t : Short) (line : List ℕ) (e : Drafted) → is_short t ≡ true
    → servers_step (draft stage.Servers b t) line ≡ Some e
    → Next (version ∷ codes "SHORT" ∷ map server_line t.servers) line e
set_next b t line e v h =
    elim (either (server_step (draft stage.Servers b t) (only_one (numbers_behind (codes "server") line)))
    (demand_step (draft stage.Servers b t) (only_one (numbers_behind (codes "demand") line))) e h) [
      | inl one ↦ server (only_one (numbers_behind (codes "server") line)) (one_named (codes "server") line) one
      | inr two ↦ demand (only_one (numbers_behind (codes "demand") line)) (one_named (codes "demand") line) two
    ]
  where
    server : (o : Option ℕ) → ((a : ℕ) → o ≡ Some a → line ≡ server_line a)
        → server_step (draft stage.Servers b t) o ≡ Some e
        → Next (version ∷ codes "SHORT" ∷ map server_line t.servers) line e
    server None named g = absurd cc
    server (Some j) named g =
        let grown : Short = record t { servers = t.servers ++ j ∷ [] } in
        let w = when_taken _ (draft stage.Servers b grown) e g in
        let a = and_parts (is_server j) _ w.0 in
        let p = short_parts t v in
        subst (Next (version ∷ codes "SHORT" ∷ map server_line t.servers) line) w.1
        (record {
          is =
              short_from grown
              (record {
                within = all_push is_server t.servers j p.within a.0;
                order = ascends_push nat_lt t.servers j p.order a.1;
                demand = p.demand;
                capacity = p.capacity;
              });
          lines =
              ap (λ l. version ∷ codes "SHORT" ∷ l) (map-append server_line t.servers (j ∷ []))
              ∙ ap (λ l. version ∷ codes "SHORT" ∷ (map server_line t.servers ++ l ∷ [])) (sym (named j refl));
        })

    demand : (o : Option ℕ) → ((a : ℕ) → o ≡ Some a → line ≡ demand_line a)
        → demand_step (draft stage.Servers b t) o ≡ Some e
        → Next (version ∷ codes "SHORT" ∷ map server_line t.servers) line e
    demand None named g = absurd cc
    demand (Some n) named g =
        let grown : Short = record t { demand = n } in
        let w = when_taken (is_sum n) (draft stage.Capacity b grown) e g in
        let p = short_parts t v in
        subst (Next (version ∷ codes "SHORT" ∷ map server_line t.servers) line) w.1
        (record {
          is =
              short_from grown
              (record { within = p.within; order = p.order; demand = w.0; capacity = p.capacity });
          lines =
              ap (λ l. version ∷ codes "SHORT" ∷ (map server_line t.servers ++ l ∷ [])) (sym (named n refl));
        })

-- what a short set takes
capacity_next : (b : Best) (t : Short) (line : List ℕ) (e : Drafted) → is_short t ≡ true
    → capacity_step (draft stage.Capacity b t) (only_one (numbers_behind (codes "capacity") line)) ≡ Some e
    → Next (so_far_at stage.Capacity (draft stage.Capacity b t)) line e
capacity_next b t line e v h =
    by (only_one (numbers_behind (codes "capacity") line)) (one_named (codes "capacity") line) h
  where
    by : (o : Option ℕ) → ((a : ℕ) → o ≡ Some a → line ≡ capacity_line a)
        → capacity_step (draft stage.Capacity b t) o ≡ Some e
        → Next (version ∷ codes "SHORT" ∷ (map server_line t.servers ++ demand_line t.demand ∷ [])) line e
    by None named g = absurd cc
    by (Some n) named g =
        let grown : Short = record t { capacity = n } in
        let w = when_taken (is_sum n) (draft stage.ShortageEnd b grown) e g in
        let p = short_parts t v in
        let servers = map server_line t.servers in
        subst (Next (version ∷ codes "SHORT" ∷ (servers ++ demand_line t.demand ∷ [])) line) w.1
        (record {
          is =
              short_from grown
              (record { within = p.within; order = p.order; demand = p.demand; capacity = w.0 });
          lines =
              ap (λ l. version ∷ codes "SHORT" ∷ (servers ++ demand_line t.demand ∷ l ∷ [])) (sym (named n refl))
              ∙ ap (λ l. version ∷ codes "SHORT" ∷ l)
              (sym (append_assoc servers (demand_line t.demand ∷ []) (line ∷ [])));
        })

-- the end of a short set
end_next : (b : Best) (t : Short) (line : List ℕ) (e : Drafted) → is_short t ≡ true
    → fixed_step (draft stage.ShortageEnd b t) line (codes "END") stage.ShortageEnded ≡ Some e
    → Next (so_far_at stage.ShortageEnd (draft stage.ShortageEnd b t)) line e
end_next b t line e v h =
    let w = when_taken _ (draft stage.ShortageEnded b t) e h in
    let servers = map server_line t.servers in
    subst (Next (so_far_at stage.ShortageEnd (draft stage.ShortageEnd b t)) line) w.1
    (record {
      is = v;
      lines =
          ap (λ l. version ∷ codes "SHORT" ∷ (servers ++ demand_line t.demand ∷ capacity_line t.capacity ∷ l ∷ []))
          (sym (same_line line (codes "END") w.0))
          ∙ ap (λ l. version ∷ codes "SHORT" ∷ l)
          (sym (append_assoc servers (demand_line t.demand ∷ capacity_line t.capacity ∷ []) (line ∷ [])));
    })

-- a line in any stage
next_at : (s : Stage) (b : Best) (t : Short) (line : List ℕ) (e : Drafted) → Valid_at s (draft s b t)
    → step_at s (draft s b t) line ≡ Some e → Next (so_far_at s (draft s b t)) line e
next_at stage.Version b t line e v h = version_next b t line e v h
next_at stage.Kind b t line e v h = kind_next b t line e v h
next_at stage.Cost b t line e v h = cost_next b t line e v h
next_at stage.Body b t line e v h = plan_next b t line e v h
next_at stage.Servers b t line e v h = set_next b t line e v h
next_at stage.Capacity b t line e v h = capacity_next b t line e v h
next_at stage.ShortageEnd b t line e v h = end_next b t line e v h
next_at stage.PlanEnded b t line e v h = absurd cc
next_at stage.ShortageEnded b t line e v h = absurd cc

-- a line that is taken is one more
pub step_next : (d : Drafted) (line : List ℕ) (e : Drafted) → Valid d → step d line ≡ Some e → Next (so_far d) line e
step_next d line e v h = next_at d.stage d.plan d.set line e v h
