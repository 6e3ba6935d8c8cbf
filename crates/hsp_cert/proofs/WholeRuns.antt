-- Reading all items of a certificate, and going on from any draft to one.
use Rattle.std.proofs.Common.{◌≡◌, ◌≤◌, ◌+◌, ℕ, Bool, true, false, List, [], ◌∷◌, ◌++◌, length, Option, Some, None}
use Rattle.std.proofs.Common.{refl, sym, ap, subst, ◌∙◌, arith, append_assoc, length-append, eq-eqb}
use Rattle.std.specs.Prelude.{◌==◌, ◌&&◌, ◌||◌, nat_le, nat_lt, option_map}
use Rattle.std.specs.List.{list_all}
use Rattle.std.proofs.lemmas.Bool.{and_parts, and_from}
use Rattle.std.proofs.lemmas.List.{append-nil}
use Rattle.std.proofs.lemmas.Option.{same_Some}
use Rattle.hsp_cert.specs.declared.use_line.UseLine.{UseLine}
use Rattle.hsp_cert.specs.declared.stage.Stage.TheVariants as stage
use Rattle.hsp_cert.specs.declared.item.Word.{Word}
use Rattle.hsp_cert.specs.declared.item.Word.TheVariants as word
use Rattle.hsp_cert.specs.declared.item.Item.{Item}
use Rattle.hsp_cert.specs.declared.item.Item.TheVariants as item
use Rattle.hsp_cert.specs.Certificate.{Best, Claim, is_use, is_row, is_price, is_before, goes_on_from, ascends_from}
use Rattle.hsp_cert.specs.Certificate.{IsBest, IsCertificate}
use Rattle.hsp_cert.specs.Certificate.Claim.{best, short}
use Rattle.hsp_cert.specs.Text.{use_items, price_items, row_items, body_items, items_of, version_of}
use Rattle.hsp_cert.specs.Drafts.{Drafted, when, last, is_next}
use Rattle.hsp_cert.specs.Steps.{with_plan, step, no_plan, no_set, start}
use Rattle.hsp_cert.proofs.GrammarSteps.{Valid, so_far, step_next}
use Rattle.hsp_cert.proofs.ListSteps.{last_push, next_is}
use Rattle.hsp_text.proofs.Steps.{le_true}

abbrev pub stepped : Option Drafted → Item → Option Drafted
stepped None i = None
stepped (Some d) i = step d i

-- the draft after these items, where each is taken
abbrev pub run : Option Drafted → List Item → Option Drafted
run o [] = o
run o (i ∷ is) = run (stepped o i) is

-- nothing is taken once an item was refused
pub run-none : (xs : List Item) → run None xs ≡ None
run-none [] = refl
run-none (x ∷ xs) = run-none xs

-- a run that gave a draft began with one
pub first_step : (o : Option Drafted) (xs : List Item) (e : Drafted) → run o xs ≡ Some e → (d : Drafted) × (o ≡ Some d)
first_step None xs e h = let n = run-none xs in absurd cc
first_step (Some d) xs e h = (d, refl)

-- what a run of items makes is a draft of those items more
run_next : (xs : List Item) (d e : Drafted) → Valid d → run (Some d) xs ≡ Some e → Valid e × (so_far e ≡ so_far d ++ xs)
run_next [] d e h eq =
    let same = same_Some d e eq in (subst Valid same h, ap so_far (sym same) ∙ sym (append-nil (so_far d)))
run_next (x ∷ xs) d e h eq =
    let f = first_step (step d x) xs e eq in
    let n = step_next d x f.0 h f.1 in
    let r = run_next xs f.0 e n.0 (rw f.1 at eq) in
    (r.0, r.1 ∙ ap (λ (l : List Item). l ++ xs) n.1 ∙ append_assoc (so_far d) (x ∷ []) xs)

-- the first draft keeps every rule
start_valid : Valid start
start_valid = (
  record {
    cost = omega arith;
    uses = refl;
    order = refl;
    row_count = omega arith;
    row_prices = refl;
    server_count = omega arith;
    server_prices = refl;
    host_count = omega arith;
    host_prices = refl;
  },
  record { rows = refl; order = refl; demand = omega arith; capacity = omega arith },
  (refl, refl),
)

-- items that are taken from the start on are those of a draft
pub run_so_far : (xs : List Item) (e : Drafted) → run (Some start) xs ≡ Some e → Valid e × (so_far e ≡ xs)
run_so_far xs e h = run_next xs start e start_valid h

-- ---- all items of a certificate are taken

abbrev in_body : ℕ → ℕ → List UseLine → List ℕ → List ℕ → List ℕ → Drafted
in_body v cost us rs ss hs =
    record {
      stage = stage.Body;
      version = v;
      plan = record { cost = cost; uses = us; row_prices = rs; server_prices = ss; host_prices = hs };
      set = no_set;
    }

-- a use has a row and a site within their limits
use_parts : (u : UseLine) → is_use u ≡ true → (nat_le u.row 8191 && nat_le u.site 31) ≡ true
use_parts u h = (and_parts (nat_le u.row 8191 && nat_le u.site 31) (nat_le 1 u.count && nat_le u.count 1000000) h).0

-- a use that may stand there is taken
use_stepped : (v cost : ℕ) (us : List UseLine) (u : UseLine) → is_use u ≡ true
    → goes_on_from is_before (last us) u ≡ true →
    step (in_body v cost us [] [] []) (item.Three word.Use u.row u.site u.count)
    ≡ Some (in_body v cost (us ++ u ∷ []) [] [] [])
use_stepped v cost us u h k =
    rw (use_parts u h) (rw (and_from (is_use u) (goes_on_from is_before (last us) u) h k) refl)

-- all uses are taken, in their order
run_uses : (v cost : ℕ) (us vs : List UseLine) (rest : List Item) → list_all is_use vs ≡ true
    → ascends_from is_before (last us) vs ≡ true →
    run (Some (in_body v cost us [] [] [])) (use_items vs ++ rest)
    ≡ run (Some (in_body v cost (us ++ vs) [] [] [])) rest
run_uses v cost us [] rest h k =
    ap (λ (l : List UseLine). run (Some (in_body v cost l [] [] [])) rest) (sym (append-nil us))
run_uses v cost us (u ∷ vs) rest h k =
    let one = and_parts (is_use u) (list_all is_use vs) h in
    let two = and_parts (goes_on_from is_before (last us) u) (ascends_from is_before (Some u) vs) k in
    ap (λ (o : Option Drafted). run o (use_items vs ++ rest)) (use_stepped v cost us u one.0 two.0)
    ∙ run_uses v cost (us ++ u ∷ []) vs rest one.1 (rw (last_push us u) two.1)
    ∙ ap (λ (l : List UseLine). run (Some (in_body v cost l [] [] [])) rest) (append_assoc us (u ∷ []) vs)

-- a function of what stands under a condition stands under it
map_when : {A B : Type 0} (f : A → B) (t : Bool) (x : A) → option_map f (when t x) ≡ when t (f x)
map_when f true x = refl
map_when f false x = refl

-- all prices of a kind are taken, in their order
run_prices : (w : Word) (most : ℕ) (state : List ℕ → Drafted)
    → ((qs : List ℕ) (n p : ℕ) → step (state qs) (item.Two w n p) ≡ when (is_next most qs n p) (state (qs ++ p ∷ []))) →
    (qs ps : List ℕ) (rest : List Item) → length qs + length ps ≤ most → list_all is_price ps ≡ true →
    run (Some (state qs)) (price_items w (length qs) ps ++ rest) ≡ run (Some (state (qs ++ ps))) rest
run_prices w most state takes qs [] rest le h = ap (λ (l : List ℕ). run (Some (state l)) rest) (sym (append-nil qs))
run_prices w most state takes qs (p ∷ ps) rest le h =
    let one = and_parts (is_price p) (list_all is_price ps) h in
    let ok = next_is most qs p (omega arith) one.0 in
    let longer : length qs + 1 ≡ length (qs ++ p ∷ []) = omega (arith, length-append qs (p ∷ [])) in
    let within : length (qs ++ p ∷ []) + length ps ≤ most = omega (arith, longer) in
    ap (λ (o : Option Drafted). run o (price_items w (length qs + 1) ps ++ rest))
    (takes qs (length qs) p ∙ ap (λ (t : Bool). when t (state (qs ++ p ∷ []))) ok)
    ∙ ap (λ (n : ℕ). run (Some (state (qs ++ p ∷ []))) (price_items w n ps ++ rest)) longer
    ∙ run_prices w most state takes (qs ++ p ∷ []) ps rest within one.1
    ∙ ap (λ (l : List ℕ). run (Some (state l)) rest) (append_assoc qs (p ∷ []) ps)

-- all prices of rows are taken
run_row_prices : (v cost : ℕ) (us : List UseLine) (ps : List ℕ) (rest : List Item) → length ps ≤ 8192
    → list_all is_price ps ≡ true →
    run (Some (in_body v cost us [] [] [])) (price_items word.Row 0 ps ++ rest)
    ≡ run (Some (in_body v cost us ps [] [])) rest
run_row_prices v cost us ps rest le h =
    run_prices word.Row 8192 (λ qs. in_body v cost us qs [] [])
    (λ qs n p.
    map_when (with_plan stage.Body (in_body v cost us qs [] [])) (is_next 8192 qs n p)
    (record { cost = cost; uses = us; row_prices = qs ++ p ∷ []; server_prices = []; host_prices = [] })) [] ps rest
    (omega arith) h

-- all prices of servers are taken
run_server_prices : (v cost : ℕ) (us : List UseLine) (rs ps : List ℕ) (rest : List Item) → length ps ≤ 1024
    → list_all is_price ps ≡ true →
    run (Some (in_body v cost us rs [] [])) (price_items word.Server 0 ps ++ rest)
    ≡ run (Some (in_body v cost us rs ps [])) rest
run_server_prices v cost us rs ps rest le h =
    run_prices word.Server 1024 (λ qs. in_body v cost us rs qs [])
    (λ qs n p.
    map_when (with_plan stage.Body (in_body v cost us rs qs [])) (is_next 1024 qs n p)
    (record { cost = cost; uses = us; row_prices = rs; server_prices = qs ++ p ∷ []; host_prices = [] })) [] ps rest
    (omega arith) h

-- all prices of hosts are taken
run_host_prices : (cost : ℕ) (us : List UseLine) (rs ss ps : List ℕ) (rest : List Item) → length ps ≤ 1024
    → list_all is_price ps ≡ true →
    run (Some (in_body (version_of ps) cost us rs ss [])) (price_items word.Host 0 ps ++ rest)
    ≡ run (Some (in_body (version_of ps) cost us rs ss ps)) rest
run_host_prices cost us rs ss [] rest le h = refl
run_host_prices cost us rs ss (q ∷ ps) rest le h =
    run_prices word.Host 1024 (λ qs. in_body 2 cost us rs ss qs)
    (λ qs n p.
    map_when (with_plan stage.Body (in_body 2 cost us rs ss qs)) (is_next 1024 qs n p)
    (record { cost = cost; uses = us; row_prices = rs; server_prices = ss; host_prices = qs ++ p ∷ [] })) []
    (q ∷ ps) rest (omega arith) h

abbrev pub ended : Claim → Drafted
ended (best b) = record { stage = stage.PlanEnded; version = version_of b.host_prices; plan = b; set = no_set }
ended (short s) = record { stage = stage.ShortageEnded; version = 1; plan = no_plan; set = s }

-- the version of a plan is one or two
version_known : (ps : List ℕ) → (version_of ps == 1 || version_of ps == 2) ≡ true
version_known [] = refl
version_known (p ∷ ps) = refl

abbrev at_rows : ℕ → ℕ → List ℕ → Drafted
at_rows demand capacity rows =
    record {
      stage = stage.Rows;
      version = 1;
      plan = no_plan;
      set = record { rows = rows; demand = demand; capacity = capacity };
    }

-- a row that may stand there is taken
row_stepped : (demand capacity : ℕ) (rs : List ℕ) (r : ℕ) → is_row r ≡ true → goes_on_from nat_lt (last rs) r ≡ true →
    step (at_rows demand capacity rs) (item.One word.Row r) ≡ Some (at_rows demand capacity (rs ++ r ∷ []))
row_stepped demand capacity rs r h k = rw h (rw (and_from (is_row r) (goes_on_from nat_lt (last rs) r) h k) refl)

-- all rows of a short set are taken, in their order
run_rows : (demand capacity : ℕ) (rs ts : List ℕ) (rest : List Item) → list_all is_row ts ≡ true
    → ascends_from nat_lt (last rs) ts ≡ true →
    run (Some (at_rows demand capacity rs)) (row_items ts ++ rest)
    ≡ run (Some (at_rows demand capacity (rs ++ ts))) rest
run_rows demand capacity rs [] rest h k =
    ap (λ (l : List ℕ). run (Some (at_rows demand capacity l)) rest) (sym (append-nil rs))
run_rows demand capacity rs (r ∷ ts) rest h k =
    let one = and_parts (is_row r) (list_all is_row ts) h in
    let two = and_parts (goes_on_from nat_lt (last rs) r) (ascends_from nat_lt (Some r) ts) k in
    ap (λ (o : Option Drafted). run o (row_items ts ++ rest)) (row_stepped demand capacity rs r one.0 two.0)
    ∙ run_rows demand capacity (rs ++ r ∷ []) ts rest one.1 (rw (last_push rs r) two.1)
    ∙ ap (λ (l : List ℕ). run (Some (at_rows demand capacity l)) rest) (append_assoc rs (r ∷ []) ts)

-- the body of a plan is taken whole
run_body : (b : Best) (rest : List Item) → IsBest b
    → run (Some (in_body (version_of b.host_prices) b.cost [] [] [] [])) (body_items b ++ rest)
    ≡ run (Some (in_body (version_of b.host_prices) b.cost b.uses b.row_prices b.server_prices b.host_prices)) rest
run_body b rest h =
    let v = version_of b.host_prices in
    let uses = use_items b.uses in
    let rows = price_items word.Row 0 b.row_prices in
    let servers = price_items word.Server 0 b.server_prices in
    let hosts = price_items word.Host 0 b.host_prices in
    ap (run (Some (in_body v b.cost [] [] [] [])))
    (append_assoc uses (rows ++ (servers ++ hosts)) rest
    ∙ ap (λ (x : List Item). uses ++ x)
    (append_assoc rows (servers ++ hosts) rest
    ∙ ap (λ (x : List Item). rows ++ x) (append_assoc servers hosts rest)))
    ∙ run_uses v b.cost [] b.uses (rows ++ (servers ++ (hosts ++ rest))) h.uses h.order
    ∙ run_row_prices v b.cost b.uses b.row_prices (servers ++ (hosts ++ rest)) h.row_count h.row_prices
    ∙ run_server_prices v b.cost b.uses b.row_prices b.server_prices (hosts ++ rest) h.server_count h.server_prices
    ∙ run_host_prices b.cost b.uses b.row_prices b.server_prices b.host_prices rest h.host_count h.host_prices

-- all items of a certificate are taken
pub run_whole : (claim : Claim) → IsCertificate claim → run (Some start) (items_of claim) ≡ Some (ended claim)
run_whole (best b) h =
    let v : ℕ = version_of b.host_prices in
    let end : List Item = item.Alone word.End ∷ [] in
    let kind : Drafted = record { stage = stage.Kind; version = v; plan = no_plan; set = no_set } in
    let body : Drafted = in_body v b.cost [] [] [] [] in
    ap (λ (t : Bool). run (when t kind) (item.Alone word.Plan ∷ item.One word.Cost b.cost ∷ (body_items b ++ end)))
    (version_known b.host_prices)
    ∙ ap (λ (t : Bool). run (when t body) (body_items b ++ end)) (le_true b.cost 10000000000000000 h.cost)
    ∙ run_body b end h ∙ ap (λ (t : Bool). when t (ended (best b))) (eq-eqb v v refl)
run_whole (short s) h =
    let end : List Item = item.Alone word.End ∷ [] in
    let demanded : Drafted =
    record {
      stage = stage.Capacity;
      version = 1;
      plan = no_plan;
      set = record { rows = []; demand = s.demand; capacity = 0 };
    } in
    ap (λ (t : Bool). run (when t demanded) (item.One word.Capacity s.capacity ∷ (row_items s.rows ++ end)))
    (le_true s.demand 10000000000000000 h.demand)
    ∙ ap (λ (t : Bool). run (when t (at_rows s.demand s.capacity [])) (row_items s.rows ++ end))
    (le_true s.capacity 10000000000000000 h.capacity)
    ∙ run_rows s.demand s.capacity [] s.rows end h.rows h.order
