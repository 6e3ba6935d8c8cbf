-- All lines of a certificate are taken, and none holds a line feed.
use Rattle.std.proofs.Common.{◌≡◌, ◌<◌, ◌≤◌, ◌+◌, ℕ, Bool, true, List, [], ◌∷◌, ◌++◌, length, map, Some}
use Rattle.std.proofs.Common.{refl, sym, ap, subst, ◌∙◌, arith, append_assoc, append-nil, length-append}
use Rattle.std.specs.Prelude.{◌&&◌, codes, nat_le, nat_lt, option_map}
use Rattle.std.specs.List.{AllByRecursion, list_all}
use Rattle.std.proofs.lemmas.Bool.{and_from, and_parts}
use Rattle.std.proofs.lemmas.Bool.Decides.{nat_tests}
use Rattle.hsp_text.proofs.Lists.{all_append}
use Rattle.hsp_cert.specs.Certificate.{are_prices_within, ascends_from, goes_on_from, is_price}
use Rattle.hsp_cert.specs.Drafts.{last, when}
use Rattle.hsp_cert.specs.Steps.{is_sum}
use Rattle.hsp_cert.proofs.ListSteps.{last_push, next_is}
use Rattle.hsp_cert.proofs.LineCuts.{Unbroken}
use Rattle.hsp_price_text.specs.declared.stage.Stage.TheVariants as stage
use Rattle.hsp_price_text.specs.declared.certificate.PriceCertificate.{PriceCertificate}
use Rattle.hsp_price_text.specs.declared.certificate.PriceCertificate.TheVariants.{Plan, Shortage}
use Rattle.hsp_price_text.specs.Certificate.{IsCertificate}
use Rattle.hsp_price_text.specs.Claim.{Best, Class, Short, is_before, is_class, is_server}
use Rattle.hsp_price_text.specs.Drafts.{Drafted, behind_servers_step, capacity_step, class_step, claimed}
use Rattle.hsp_price_text.specs.Drafts.{cost_step, demand_step, has_ended, host_price_step, no_plan}
use Rattle.hsp_price_text.specs.Drafts.{no_set, or_else, priced, reader, server_price_step, server_step, step}
use Rattle.hsp_cert.specs.Language.{LinesStand, run}
use Rattle.hsp_price_text.specs.Lines.{class_in, numbers_behind, only_one}
use Rattle.hsp_price_text.specs.Text.{body_lines, class_line, lines_of, numbered, price_lines, prices, server_line}
use Rattle.hsp_price_text.specs.Text.{version}
use Rattle.hsp_price_text.proofs.DraftSteps.{Lines, best_parts, draft, plan_of, short_parts}
use Rattle.hsp_price_text.proofs.Grammar.{class_back, class_unbroken, letters, numbered_unbroken, one_back, two_back}
use Rattle.hsp_price_text.proofs.Grammar.{unbroken_by}
use Rattle.hsp_cert.proofs.LineReading.{Takes}
use Rattle.hsp_price_text.proofs.Parts.{Fits}
use Rattle.hsp_price_text.proofs.Taking.{begun, ended_at, has_end, open_by, run_so_far, stands_at, stops_at}

abbrev in_body : ℕ → List ℕ → List ℕ → List Class → Drafted
in_body cost ps qs cs = draft stage.Body (plan_of cost ps qs cs) no_set

-- a price fits in 64 bits
price_fits : (p : ℕ) → is_price p ≡ true → Fits p
price_fits p h = let small : p ≤ 1000000000000 = grind (arith, nat_tests, h) in omega arith

-- a sum does
sum_fits : (n : ℕ) → is_sum n ≡ true → Fits n
sum_fits n h = let small : n ≤ 10000000000000000 = grind (arith, nat_tests, h) in omega arith

-- a server does
server_fits : (j : ℕ) → is_server j ≡ true → Fits j
server_fits j h = let small : j ≤ 1023 = grind (arith, nat_tests, h) in omega arith

-- ---- a plan

-- the next price of a server is taken
server_stepped : (cost : ℕ) (ps : List ℕ) (p : ℕ) → is_price p ≡ true → length ps < 1024
    → step (in_body cost ps [] []) (numbered (codes "server") (length ps ∷ p ∷ []))
    ≡ Some (in_body cost (ps ++ p ∷ []) [] [])
server_stepped cost ps p h l =
    let b = plan_of cost ps [] [] in
    let line = numbered (codes "server") (length ps ∷ p ∷ []) in
    ap
    (λ o. option_map (priced (in_body cost ps [] [])) (or_else (server_price_step b o) (behind_servers_step b line)))
    (two_back (codes "server") (length ps) p (letters (codes "server") refl) (omega arith) (price_fits p h))
    ∙ rw (next_is 1024 ps p l h) refl

-- so are all of them
run_servers : (cost : ℕ) (done more : List ℕ) (rest : Lines) → list_all is_price more ≡ true
    → length done + length more ≤ 1024
    → run reader (Some (in_body cost done [] [])) (price_lines (codes "server") (length done) more ++ rest)
    ≡ run reader (Some (in_body cost (done ++ more) [] [])) rest
run_servers cost done [] rest h l = ap (λ ps. run reader (Some (in_body cost ps [] [])) rest) (sym (append-nil done))
run_servers cost done (p ∷ more) rest h l =
    let q = and_parts (is_price p) (list_all is_price more) h in
    let one : List ℕ = p ∷ [] in
    let longer : length done + 1 ≡ length (done ++ one) = omega (arith, length-append done one) in
    ap (λ o. run reader o (price_lines (codes "server") (length done + 1) more ++ rest))
    (server_stepped cost done p q.0 (omega arith))
    ∙ ap
    (λ n. run reader (Some (in_body cost (done ++ one) [] [])) (price_lines (codes "server") n more ++ rest)) longer
    ∙ run_servers cost (done ++ one) more rest q.1 (omega (arith, longer))
    ∙ ap (λ ps. run reader (Some (in_body cost ps [] [])) rest) (append_assoc done one more)

-- the next price of a host is taken
host_stepped : (cost : ℕ) (ps qs : List ℕ) (q : ℕ) → is_price q ≡ true → length qs < 1024
    → step (in_body cost ps qs []) (numbered (codes "host") (length qs ∷ q ∷ []))
    ≡ Some (in_body cost ps (qs ++ q ∷ []) [])
host_stepped cost ps qs q h l =
    let b = plan_of cost ps qs [] in
    let line = numbered (codes "host") (length qs ∷ q ∷ []) in
    ap
    (λ o. option_map (priced (in_body cost ps qs [])) (or_else (host_price_step b o) (class_step b (class_in line))))
    (two_back (codes "host") (length qs) q (letters (codes "host") refl) (omega arith) (price_fits q h))
    ∙ rw (next_is 1024 qs q l h) refl

-- so are all of them
run_hosts : (cost : ℕ) (ps done more : List ℕ) (rest : Lines) → list_all is_price more ≡ true
    → length done + length more ≤ 1024
    → run reader (Some (in_body cost ps done [])) (price_lines (codes "host") (length done) more ++ rest)
    ≡ run reader (Some (in_body cost ps (done ++ more) [])) rest
run_hosts cost ps done [] rest h l = ap (λ qs. run reader (Some (in_body cost ps qs [])) rest) (sym (append-nil done))
run_hosts cost ps done (q ∷ more) rest h l =
    let r = and_parts (is_price q) (list_all is_price more) h in
    let one : List ℕ = q ∷ [] in
    let longer : length done + 1 ≡ length (done ++ one) = omega (arith, length-append done one) in
    ap (λ o. run reader o (price_lines (codes "host") (length done + 1) more ++ rest))
    (host_stepped cost ps done q r.0 (omega arith))
    ∙ ap (λ n. run reader (Some (in_body cost ps (done ++ one) [])) (price_lines (codes "host") n more ++ rest)) longer
    ∙ run_hosts cost ps (done ++ one) more rest r.1 (omega (arith, longer))
    ∙ ap (λ qs. run reader (Some (in_body cost ps qs [])) rest) (append_assoc done one more)

-- the next class is taken
class_stepped : (cost : ℕ) (ps qs : List ℕ) (cs : List Class) (c : Class) → is_class c ≡ true
    → goes_on_from is_before (last cs) c ≡ true → length cs < 1048576
    → step (in_body cost ps qs cs) (class_line c) ≡ Some (in_body cost ps qs (cs ++ c ∷ []))
class_stepped cost ps qs cs c h k l =
    let less : nat_lt (length cs) 1048576 ≡ true = grind (arith, nat_tests) in
    let next =
    and_from (nat_lt (length cs) 1048576) (is_class c && goes_on_from is_before (last cs) c) less
    (and_from (is_class c) (goes_on_from is_before (last cs) c) h k) in
    ap (λ o. option_map (priced (in_body cost ps qs cs)) (class_step (plan_of cost ps qs cs) o)) (class_back c h)
    ∙ rw next refl

-- so are all of them
run_classes : (cost : ℕ) (ps qs : List ℕ) (done more : List Class) (rest : Lines) → list_all is_class more ≡ true
    → ascends_from is_before (last done) more ≡ true → length done + length more ≤ 1048576
    → run reader (Some (in_body cost ps qs done)) (map class_line more ++ rest)
    ≡ run reader (Some (in_body cost ps qs (done ++ more))) rest
run_classes cost ps qs done [] rest h k l =
    ap (λ cs. run reader (Some (in_body cost ps qs cs)) rest) (sym (append-nil done))
run_classes cost ps qs done (c ∷ more) rest h k l =
    let r = and_parts (is_class c) (list_all is_class more) h in
    let t = and_parts (goes_on_from is_before (last done) c) (ascends_from is_before (Some c) more) k in
    let one : List Class = c ∷ [] in
    let later : ascends_from is_before (last (done ++ one)) more ≡ true = rw (last_push done c) t.1 in
    ap (λ o. run reader o (map class_line more ++ rest)) (class_stepped cost ps qs done c r.0 t.0 (omega arith))
    ∙ run_classes cost ps qs (done ++ one) more rest r.1 later (omega (arith, length-append done one))
    ∙ ap (λ cs. run reader (Some (in_body cost ps qs cs)) rest) (append_assoc done one more)

-- a list of prices is short enough, and its prices are within their range
prices_parts : (ps : List ℕ) → are_prices_within 1024 ps ≡ true → (length ps ≤ 1024) × (list_all is_price ps ≡ true)
prices_parts ps h =
    let a = and_parts (nat_le (length ps) 1024) (list_all is_price ps) h in
    ((let t = a.0 in grind (arith, nat_tests)), a.1)

-- all lines of a plan are taken
run_plan : (b : Best) → IsCertificate (Plan b)
    → run reader begun (lines_of (Plan b)) ≡ Some (draft stage.PlanEnded b no_set)
run_plan b h =
    let p = best_parts b h in
    let few : length b.classes ≤ 1048576 = let t = p.few in grind (arith, nat_tests) in
    let servers = prices_parts b.server_prices p.servers in
    let hosts = prices_parts b.host_prices p.hosts in
    let end : Lines = codes "END" ∷ [] in
    let class_lines = map class_line b.classes in
    let host_lines = price_lines (codes "host") 0 b.host_prices in
    ap (λ o. run reader (cost_step (draft stage.Cost no_plan no_set) o) (body_lines b ++ end))
    (one_back (codes "cost") b.cost (letters (codes "cost") refl) (sum_fits b.cost p.cost))
    ∙ ap (λ (t : Bool). run reader (when t (in_body b.cost [] [] [])) (body_lines b ++ end)) p.cost
    ∙ ap (run reader (Some (in_body b.cost [] [] [])))
    (append_assoc (price_lines (codes "server") 0 b.server_prices) (host_lines ++ class_lines) end
    ∙ ap (λ (l : Lines). price_lines (codes "server") 0 b.server_prices ++ l) (append_assoc host_lines class_lines end))
    ∙ run_servers b.cost [] b.server_prices (host_lines ++ (class_lines ++ end)) servers.1 (omega (arith, servers.0))
    ∙ run_hosts b.cost b.server_prices [] b.host_prices (class_lines ++ end) hosts.1 (omega (arith, hosts.0))
    ∙ run_classes b.cost b.server_prices b.host_prices [] b.classes end p.classes p.order (omega (arith, few))

-- ---- a short set

abbrev in_set : List ℕ → Drafted
in_set servers = draft stage.Servers no_plan (record { servers = servers; demand = 0; capacity = 0 })

-- the next server is taken
set_stepped : (js : List ℕ) (j : ℕ) → is_server j ≡ true → goes_on_from nat_lt (last js) j ≡ true
    → step (in_set js) (server_line j) ≡ Some (in_set (js ++ j ∷ []))
set_stepped js j h k =
    ap
    (λ o. or_else (server_step (in_set js) o)
    (demand_step (in_set js) (only_one (numbers_behind (codes "demand") (server_line j)))))
    (one_back (codes "server") j (letters (codes "server") refl) (server_fits j h))
    ∙ rw (and_from (is_server j) (goes_on_from nat_lt (last js) j) h k) refl

-- so are all of them
run_set : (done more : List ℕ) (rest : Lines) → list_all is_server more ≡ true
    → ascends_from nat_lt (last done) more ≡ true
    → run reader (Some (in_set done)) (map server_line more ++ rest) ≡ run reader (Some (in_set (done ++ more))) rest
run_set done [] rest h k = ap (λ js. run reader (Some (in_set js)) rest) (sym (append-nil done))
run_set done (j ∷ more) rest h k =
    let r = and_parts (is_server j) (list_all is_server more) h in
    let t = and_parts (goes_on_from nat_lt (last done) j) (ascends_from nat_lt (Some j) more) k in
    let one : List ℕ = j ∷ [] in
    let later : ascends_from nat_lt (last (done ++ one)) more ≡ true = rw (last_push done j) t.1 in
    ap (λ o. run reader o (map server_line more ++ rest)) (set_stepped done j r.0 t.0)
    ∙ run_set (done ++ one) more rest r.1 later
    ∙ ap (λ js. run reader (Some (in_set js)) rest) (append_assoc done one more)

-- all lines of a short set are taken
run_shortage : (t : Short) → IsCertificate (Shortage t)
    → run reader begun (lines_of (Shortage t)) ≡ Some (draft stage.ShortageEnded no_plan t)
run_shortage t h =
    let p = short_parts t h in
    let end : Lines = codes "END" ∷ [] in
    let capacity : Lines = numbered (codes "capacity") (t.capacity ∷ []) ∷ end in
    let demand : Lines = numbered (codes "demand") (t.demand ∷ []) ∷ capacity in
    let asked : Short = record { servers = t.servers; demand = t.demand; capacity = 0 } in
    run_set [] t.servers demand p.within p.order
    ∙ ap (λ o. run reader (demand_step (in_set t.servers) o) capacity)
    (one_back (codes "demand") t.demand (letters (codes "demand") refl) (sum_fits t.demand p.demand))
    ∙ ap (λ (s : Bool). run reader (when s (draft stage.Capacity no_plan asked)) capacity) p.demand
    ∙ ap (λ o. run reader (capacity_step (draft stage.Capacity no_plan asked) o) end)
    (one_back (codes "capacity") t.capacity (letters (codes "capacity") refl) (sum_fits t.capacity p.capacity))
    ∙ ap (λ (s : Bool). run reader (when s (draft stage.ShortageEnd no_plan t)) end) p.capacity

-- ---- no line feed

-- no line of a price holds a line feed
price_lines_unbroken : (word : List ℕ) (n : ℕ) (ps : List ℕ) → Unbroken word → n + length ps ≤ 1024
    → list_all is_price ps ≡ true → AllByRecursion Unbroken (price_lines word n ps)
price_lines_unbroken word n [] w l h = tt
price_lines_unbroken word n (p ∷ ps) w l h =
    let a = and_parts (is_price p) (list_all is_price ps) h in (
      numbered_unbroken word (n ∷ p ∷ []) w (omega arith, (price_fits p a.0, tt)),
      price_lines_unbroken word (n + 1) ps w (omega arith) a.1,
    )

-- no line of a class does
classes_unbroken : (cs : List Class) → list_all is_class cs ≡ true → AllByRecursion Unbroken (map class_line cs)
classes_unbroken [] h = tt
classes_unbroken (c ∷ cs) h =
    let a = and_parts (is_class c) (list_all is_class cs) h in (class_unbroken c a.0, classes_unbroken cs a.1)

-- no line of a server does
servers_unbroken : (js : List ℕ) → list_all is_server js ≡ true → AllByRecursion Unbroken (map server_line js)
servers_unbroken [] h = tt
servers_unbroken (j ∷ js) h =
    let a = and_parts (is_server j) (list_all is_server js) h in (
      numbered_unbroken (codes "server") (j ∷ []) (unbroken_by (codes "server") refl) (server_fits j a.0, tt),
      servers_unbroken js a.1,
    )

-- no line of a certificate holds one
lines_unbroken : (c : PriceCertificate) → IsCertificate c → AllByRecursion Unbroken (lines_of c)
lines_unbroken (Plan b) h =
    let p = best_parts b h in
    let servers = prices_parts b.server_prices p.servers in
    let hosts = prices_parts b.host_prices p.hosts in
    let end : Lines = codes "END" ∷ [] in
    let host_lines = price_lines (codes "host") 0 b.host_prices in (
      unbroken_by version refl,
      (
        unbroken_by (codes "PLAN") refl,
        (
          numbered_unbroken (codes "cost") (b.cost ∷ []) (unbroken_by (codes "cost") refl) (sum_fits b.cost p.cost, tt),
          all_append Unbroken (body_lines b) end
              (all_append Unbroken (price_lines (codes "server") 0 b.server_prices)
              (host_lines ++ map class_line b.classes)
              (price_lines_unbroken (codes "server") 0 b.server_prices (unbroken_by (codes "server") refl)
              (omega (arith, servers.0)) servers.1)
              (all_append Unbroken host_lines (map class_line b.classes)
              (price_lines_unbroken (codes "host") 0 b.host_prices (unbroken_by (codes "host") refl)
              (omega (arith, hosts.0)) hosts.1)
              (classes_unbroken b.classes p.classes)))
              (unbroken_by (codes "END") refl, tt),
        ),
      ),
    )
lines_unbroken (Shortage t) h =
    let p = short_parts t h in (
      unbroken_by version refl,
      (
        unbroken_by (codes "SHORT") refl,
        all_append Unbroken (map server_line t.servers)
            (numbered (codes "demand") (t.demand ∷ []) ∷ numbered (codes "capacity") (t.capacity ∷ [])
            ∷ codes "END" ∷ [])
            (servers_unbroken t.servers p.within) (
              numbered_unbroken (codes "demand") (t.demand ∷ []) (unbroken_by (codes "demand") refl)
                  (sum_fits t.demand p.demand, tt),
              (
                numbered_unbroken (codes "capacity") (t.capacity ∷ []) (unbroken_by (codes "capacity") refl)
                    (sum_fits t.capacity p.capacity, tt),
                (unbroken_by (codes "END") refl, tt),
              ),
            ),
      ),
    )

-- ---- the reader takes exactly the lines of certificates

-- all lines of a certificate are taken, and the draft claims it
whole : (c : PriceCertificate) → IsCertificate c
    → (d : Drafted) × (run reader begun (lines_of c) ≡ Some d) × (has_ended d ≡ true) × (claimed d ≡ c)
whole (Plan b) h = (draft stage.PlanEnded b no_set, run_plan b h, refl, refl)
whole (Shortage t) h = (draft stage.ShortageEnded no_plan t, run_shortage t h, refl, refl)

-- the reader and the language are one
pub takes : Takes prices reader
takes = record {
  unbroken = lines_unbroken;
  whole = whole;
  stand = λ ls d made. let v = run_so_far ls d made in subst (LinesStand prices) v.1 (stands_at d.stage d v.0);
  ended = λ ls d made over.
      let v = run_so_far ls d made in
      let c = ended_at d.stage d over v.0 in
      (c.0, c.1 ∙ v.1);
  stops = λ d line over. stops_at d.stage d line over;
  only_end = λ d e line taken still. open_by d e line taken still;
  end = λ c h none. has_end c none;
}
