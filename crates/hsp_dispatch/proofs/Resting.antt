-- What the entries of a log leave of a plan, and that later entries are answered by it.
use Rattle.std.proofs.Common.{◌≡◌, ◌≢◌, ◌<◌, ◌≤◌, ◌+◌, ◌-◌, ◌∙◌, ◌++◌, ◌==◌, ℕ, zero, suc, List, [], ◌∷◌, length, take}
use Rattle.std.proofs.Common.{drop, cond, if◌then◌else◌, Option, Some, None, arith, refl, sym, ap, eq-eqb, zero-add}
use Rattle.std.proofs.lemmas.Bool.{ne_eqb}
use Rattle.std.proofs.lemmas.List.{append-nil, append_assoc, drop-take, take-append-drop, take-take, take_all}
use Rattle.std.proofs.lemmas.List.{take_more}
use Rattle.std.proofs.lemmas.List.Sums.{sum_by-append, sum_by_push}
use Rattle.std.proofs.lemmas.Option.{get_or_from_slice_get, slice_get_within}
use Rattle.std.proofs.Math.Nat.{suc-add}
use Rattle.std.specs.List.{slice_get}
use Rattle.hsp_instance.specs.Instance.{Instance, Server}
use Rattle.hsp_check.specs.Plan.{Plan}
use Rattle.hsp_log.specs.Entries.{Entry}
use Rattle.hsp_dispatch.specs.Dispatch.{IsSame, answer_at, answer_in, answer_to, answers_after, assigned_in}
use Rattle.hsp_dispatch.specs.Dispatch.{assigned_to, count_for, count_in, is_at, is_for, is_in, rest, row_of, server_to}
use Rattle.hsp_dispatch.specs.Dispatch.{spread}
use Rattle.hsp_log.proofs.Each.{each_parts}
use Rattle.hsp_dispatch.proofs.Lists.{none_from}
use Rattle.hsp_dispatch.proofs.Spreads.{same_spread, spread_left, times, times_append}

-- ---- how many entries are for a row

-- an entry of the row counts once
count_more : (it : Instance) (row : ℕ) (before : List Entry) (entry : Entry)
    → count_for it row (before ++ entry ∷ []) ≡ count_for it row before + cond (is_for it row entry) 1 0
count_more it row before entry = sum_by_push (λ (e : Entry). cond (is_for it row e) 1 0) before entry

-- the entries of a row in two lists add up
count_append : (it : Instance) (row : ℕ) (a b : List Entry)
    → count_for it row (a ++ b) ≡ count_for it row a + count_for it row b
count_append it row a b = sum_by-append (λ (e : Entry). cond (is_for it row e) 1 0) a b

-- ---- the entries that are assigned to a site: those of the front of the spread

-- an assigned query is at its site
at_site : (own site : ℕ) (server : Option Server) → is_at site (assigned_to own server) ≡ (own == site)
at_site own site None = refl
at_site own site (Some server) = refl

-- the next of a row's sites counts for its own site only
hit : (it : Instance) (row site k : ℕ) (own : List ℕ) (given : Option ℕ) → given ≡ slice_get own k
    → (if is_at site (answer_at it row given) then 1 else 0) + times site (take k own) ≡ times site (take (k + 1) own)
hit it row site k own None is =
    let long : length own ≤ k = none_from own k (sym is) in
    rw (take_all k own long, take_all (k + 1) own (omega arith)) (omega arith)
hit it row site k own (Some element) is =
    let there : k < length own = slice_get_within own k element (sym is) in
    let more : take (k + 1) own ≡ take k own ++ element ∷ [] =
    take_more own k element there
    ∙ ap (λ (e : ℕ). take k own ++ e ∷ []) (get_or_from_slice_get own k element element (sym is)) in
    rw (more, at_site element site (server_to it row element))
    (omega (arith, sum_by_push (λ (e : ℕ). cond (e == site) 1 0) (take k own) element))

-- one entry more is one element of its row's spread more
hits : (it : Instance) (x : Plan) (row site : ℕ) (earlier : List Entry) (entry : Entry)
    → (if is_in it row site entry (answer_to it x earlier entry) then 1 else 0)
    + times site (take (count_for it row earlier) (spread it x row))
    ≡ times site (take (count_for it row (earlier ++ entry ∷ [])) (spread it x row))
hits it x row site earlier entry =
    let own = spread it x row in
    let one = hit it row site (count_for it row earlier) own (slice_get own (count_for it row earlier)) refl in
    grind (arith, one, count_more it row earlier entry)

-- what was answered, and what came before, is the beginning of the spread
counted : (it : Instance) (x : Plan) (row site : ℕ) (earlier entries : List Entry)
    → count_in it row site entries (answers_after it x earlier entries)
    + times site (take (count_for it row earlier) (spread it x row))
    ≡ times site (take (count_for it row (earlier ++ entries)) (spread it x row))
unfolding answers_after
counted it x row site earlier [] = rw (append-nil earlier) (omega arith)
counted it x row site earlier (entry ∷ more) =
    let here = hits it x row site earlier entry in
    let later = counted it x row site (earlier ++ entry ∷ []) more in
    let whole : count_for it row ((earlier ++ entry ∷ []) ++ more) ≡ count_for it row (earlier ++ entry ∷ more) =
    ap (λ (entries : List Entry). count_for it row entries) (append_assoc earlier (entry ∷ []) more) in
    omega (arith, here, rw whole at later)

-- of the entries of a row, as many are assigned to a site as the site is in the front of the row's spread
pub assigned_is : (it : Instance) (x : Plan) (entries : List Entry) (row site : ℕ)
    → assigned_in it x entries row site ≡ times site (take (count_for it row entries) (spread it x row))
assigned_is it x entries row site = omega (arith, counted it x row site [] entries)

-- what is left of a site is what the plan gives less what was taken
rest_is : (it : Instance) (x : Plan) (entries : List Entry) (row site : ℕ)
    → rest it x entries row site ≡ x row site - times site (take (count_for it row entries) (spread it x row))
rest_is it x entries row site = ap (λ (n : ℕ). x row site - n) (assigned_is it x entries row site)

-- ---- the spread of what is left

-- the same plans are spread in the same way
pub spread_same : (it : Instance) (x y : Plan) (row : ℕ) → IsSame x y → spread it x row ≡ spread it y row
spread_same it x y row same = same_spread (length it.sites) 0 (x row) (y row) (λ t h. same row t)

-- the spread of what entries leave is the spread without its front
pub spread_rest : (it : Instance) (x : Plan) (entries : List Entry) (row : ℕ)
    → spread it (rest it x entries) row ≡ drop (count_for it row entries) (spread it x row)
spread_rest it x entries row =
    same_spread (length it.sites) 0 (rest it x entries row)
    (λ t. x row t - times t (take (count_for it row entries) (spread it x row))) (λ t h. rest_is it x entries row t)
    ∙ spread_left (length it.sites) 0 (count_for it row entries) (x row)

-- an element of what is left stands later in the whole
get_left : (k m : ℕ) (xs : List ℕ) → slice_get (drop k xs) m ≡ slice_get xs (k + m)
get_left zero m xs = rw (zero-add m) refl
get_left (suc k) m [] = refl
get_left (suc k) m (x ∷ xs) = rw (suc-add k m) (get_left k m xs)

-- a longer beginning is a shorter one and some of the rest
take_over : (k m : ℕ) (xs : List ℕ) → take (k + m) xs ≡ take k xs ++ take m (drop k xs)
take_over k m xs =
    sym (take-append-drop k (take (k + m) xs))
    ∙ ap (λ (front : List ℕ). front ++ drop k (take (k + m) xs)) (take-take k (k + m) xs (omega arith))
    ∙ ap (λ (back : List ℕ). take k xs ++ back) (drop-take k m xs)

-- ---- answers by what is left

-- the same plans give the same answers
pub answer_same : (it : Instance) (x y : Plan) (earlier : List Entry) (entry : Entry) → IsSame x y
    → answer_to it x earlier entry ≡ answer_to it y earlier entry
answer_same it x y earlier entry same = by_row (row_of it entry)
  where
    by_row : (found : Option ℕ) → answer_in it x earlier found ≡ answer_in it y earlier found
    by_row None = refl
    by_row (Some row) =
        ap (λ (own : List ℕ). answer_at it row (slice_get own (count_for it row earlier))) (spread_same it x y row same)

-- an entry is answered by what the first entries leave as it is answered after them
pub answer_parts : (it : Instance) (x : Plan) (before earlier : List Entry) (entry : Entry)
    → answer_to it (rest it x before) earlier entry ≡ answer_to it x (before ++ earlier) entry
answer_parts it x before earlier entry = by_row (row_of it entry)
  where
    by_row : (found : Option ℕ)
        → answer_in it (rest it x before) earlier found ≡ answer_in it x (before ++ earlier) found
    by_row None = refl
    by_row (Some row) =
        ap (λ (own : List ℕ). answer_at it row (slice_get own (count_for it row earlier))) (spread_rest it x before row)
        ∙ ap (λ (given : Option ℕ). answer_at it row given)
        (get_left (count_for it row before) (count_for it row earlier) (spread it x row))
        ∙ ap (λ (k : ℕ). answer_at it row (slice_get (spread it x row) k)) (sym (count_append it row before earlier))

-- an entry is answered by what is left as it is after those before
pub answer_after : (it : Instance) (x y : Plan) (before : List Entry) (entry : Entry) → IsSame y (rest it x before)
    → answer_to it y [] entry ≡ answer_to it x before entry
answer_after it x y before entry same =
    answer_same it y (rest it x before) [] entry same ∙ answer_parts it x before [] entry
    ∙ ap (λ (earlier : List Entry). answer_to it x earlier entry) (append-nil before)

-- ---- what is left after more entries

-- no entries leave the whole plan
pub rest_none : (it : Instance) (x : Plan) → IsSame x (rest it x [])
rest_none it x row site = omega arith

-- the same plans leave the same
pub rest_same : (it : Instance) (x y : Plan) (entries : List Entry) → IsSame x y
    → IsSame (rest it x entries) (rest it y entries)
rest_same it x y entries same row site =
    rest_is it x entries row site
    ∙ ap (λ (own : List ℕ). x row site - times site (take (count_for it row entries) own)) (spread_same it x y row same)
    ∙ ap (λ (n : ℕ). n - times site (take (count_for it row entries) (spread it y row))) (same row site)
    ∙ sym (rest_is it y entries row site)

-- how often a site is in the front that the entries of both parts of a log take of a spread
pub times_parts : (it : Instance) (x : Plan) (a b : List Entry) (row site : ℕ)
    → times site (take (count_for it row (a ++ b)) (spread it x row))
    ≡ times site (take (count_for it row a) (spread it x row))
    + times site (take (count_for it row b) (drop (count_for it row a) (spread it x row)))
times_parts it x a b row site =
    let own = spread it x row in
    let first = count_for it row a in
    let second = count_for it row b in
    ap (λ (k : ℕ). times site (take k own)) (count_append it row a b)
    ∙ ap (λ (front : List ℕ). times site front) (take_over first second own)
    ∙ times_append site (take first own) (take second (drop first own))

-- what is left after the second part of a log, of what the first leaves
pub rest_parts : (it : Instance) (x : Plan) (a b : List Entry) → IsSame (rest it (rest it x a) b) (rest it x (a ++ b))
rest_parts it x a b row site =
    minus _ _ _ _ _ _ (x row site)
    (rest_is it (rest it x a) b row site
    ∙ ap (λ (own : List ℕ). rest it x a row site - times site (take (count_for it row b) own))
    (spread_rest it x a row))
    (rest_is it x a row site) (rest_is it x (a ++ b) row site) (times_parts it x a b row site)
  where
    minus : (all left whole a b c : ℕ) (n : ℕ) → all ≡ left - b → left ≡ n - a → whole ≡ n - c → c ≡ a + b → all ≡ whole
    minus all left whole a b c n e f g h = omega arith

-- one entry more leaves what it leaves of the rest
pub rest_more : (it : Instance) (x y z : Plan) (before : List Entry) (entry : Entry) → IsSame y (rest it x before)
    → IsSame z (rest it y (entry ∷ [])) → IsSame z (rest it x (before ++ entry ∷ []))
rest_more it x y z before entry same next row site =
    next row site ∙ rest_same it y (rest it x before) (entry ∷ []) same row site
    ∙ rest_parts it x before (entry ∷ []) row site

-- one query leaves its row without the first element of its spread, and the other rows as they are
pub rest_here : (it : Instance) (x : Plan) (row site : ℕ) (entry : Entry) → row_of it entry ≡ Some row
    → rest it x (entry ∷ []) row site ≡ x row site - times site (take 1 (spread it x row))
rest_here it x row site entry found =
    let one : count_for it row (entry ∷ []) ≡ 1 = count_more it row [] entry ∙ rw (found, eq-eqb row row refl) refl in
    rest_is it x (entry ∷ []) row site ∙ ap (λ (k : ℕ). x row site - times site (take k (spread it x row))) one

-- an entry of one row leaves the other rows
pub rest_other : (it : Instance) (x : Plan) (row other site : ℕ) (entry : Entry) → row_of it entry ≡ Some row
    → row ≢ other
    → rest it x (entry ∷ []) other site ≡ x other site
rest_other it x row other site entry found apart =
    let none : count_for it other (entry ∷ []) ≡ 0 =
    count_more it other [] entry ∙ rw (found, ne_eqb row other apart) refl in
    let taken : times site (take (count_for it other (entry ∷ [])) (spread it x other)) ≡ 0 =
    ap (λ (k : ℕ). times site (take k (spread it x other))) none in
    omega (arith, rest_is it x (entry ∷ []) other site, taken)

-- ---- answers to one entry more

-- one entry more has one answer more
pub answers_more : (it : Instance) (x : Plan) (before entries : List Entry) (entry : Entry)
    → answers_after it x before (entries ++ entry ∷ []) ≡ answers_after it x before entries
    ++ answer_to it x (before ++ entries) entry ∷ []
unfolding answers_after
answers_more it x before entries entry = each_parts (answer_to it x) before entries (entry ∷ [])
