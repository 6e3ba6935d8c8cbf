-- The text as far as it was read.
use Rattle.std.proofs.Common.{◌≡◌, ◌<◌, ◌≤◌, ◌^◌, ◌+◌, ℕ, true, List, [], ◌∷◌, ◌++◌, length, map, Some}
use Rattle.std.proofs.Common.{ap, ◌∙◌, arith}
use Rattle.std.specs.Prelude.{nat_le, decimal}
use Rattle.std.specs.List.{AllByRecursion, list_all}
use Rattle.std.proofs.lemmas.Bool.{and_parts}
use Rattle.std.proofs.lemmas.List.{map-append}
use Rattle.std.proofs.lemmas.Bool.Decides.{nat_tests}
use Rattle.hsp_cert.specs.declared.use_line.UseLine.{UseLine}
use Rattle.hsp_cert.specs.declared.item.Word.{Word}
use Rattle.hsp_cert.specs.declared.item.Word.TheVariants as word
use Rattle.hsp_cert.specs.declared.item.Item.{Item}
use Rattle.hsp_cert.specs.declared.item.Item.TheVariants as item
use Rattle.hsp_cert.specs.Certificate.{Claim, is_use, is_row, is_price, IsCertificate}
use Rattle.hsp_cert.specs.Certificate.Claim.{best, short}
use Rattle.hsp_cert.specs.Text.{line_of, use_items, price_items, row_items, body_items, items_of, lines_of, version_of}
use Rattle.hsp_cert.specs.Lexing.{item_in}
use Rattle.hsp_cert.specs.Drafts.{Drafted}
use Rattle.hsp_cert.specs.Steps.{start}
use Rattle.hsp_cert.specs.Language.{LinesStand}
use Rattle.hsp_cert.specs.Reading.{certificates}
use Rattle.hsp_cert.specs.Words.{spelled}
use Rattle.hsp_cert.proofs.LineCuts.{Unbroken}
use Rattle.hsp_cert.proofs.ReadItems.{word_printed, Fits, reads_back}
use Rattle.hsp_cert.proofs.SpelledNumbers.{Printed, printed_apart, decimal_printed, decimal_unbroken}
use Rattle.hsp_cert.proofs.WholeRuns.{run, run_so_far}
use Rattle.hsp_cert.proofs.Standing.{draft_stands}
use Rattle.hsp_text.proofs.Lists.{all_append}

abbrev pub ReadsBack : Item → Type 0
ReadsBack i = item_in (line_of i) ≡ Some i

-- ---- the lines of a certificate say its items

-- a number that passes the test is no greater
le_of : (a b : ℕ) → nat_le a b ≡ true → a ≤ b
le_of a b h = grind (arith, nat_tests)

-- the numbers of a use fit in 64 bits
use_fits : (u : UseLine) → is_use u ≡ true → (u.row < 2 ^ 64) × (u.site < 2 ^ 64) × (u.count < 2 ^ 64)
use_fits u h = grind (arith, nat_tests)

-- the numbers of all uses fit
uses_fit : (us : List UseLine) → list_all is_use us ≡ true → AllByRecursion Fits (use_items us)
uses_fit [] h = tt
uses_fit (u ∷ us) h = let a = and_parts (is_use u) (list_all is_use us) h in (use_fits u a.0, uses_fit us a.1)

-- the numbers of prices fit
prices_fit : (w : Word) (n : ℕ) (ps : List ℕ) → n + length ps ≤ 8192 → list_all is_price ps ≡ true
    → AllByRecursion Fits (price_items w n ps)
prices_fit w n [] le h = tt
prices_fit w n (p ∷ ps) le h =
    let a = and_parts (is_price p) (list_all is_price ps) h in
    let price = le_of p 1000000000000 a.0 in
    ((omega arith, omega arith), prices_fit w (n + 1) ps (omega arith) a.1)

-- the numbers of rows fit
rows_fit : (rs : List ℕ) → list_all is_row rs ≡ true → AllByRecursion Fits (row_items rs)
rows_fit [] h = tt
rows_fit (r ∷ rs) h =
    let a = and_parts (is_row r) (list_all is_row rs) h in
    let row = le_of r 8191 a.0 in
    (omega arith, rows_fit rs a.1)

-- a version fits
version_small : (ps : List ℕ) → version_of ps < 2 ^ 64
version_small [] = omega arith
version_small (p ∷ ps) = omega arith

-- all numbers of a certificate fit
claim_fits : (claim : Claim) → IsCertificate claim → AllByRecursion Fits (items_of claim)
claim_fits (best b) h =
    let cost = h.cost in
    let end : List Item = item.Alone word.End ∷ [] in
    let rows = price_items word.Row 0 b.row_prices in
    let servers = price_items word.Server 0 b.server_prices in
    let hosts = price_items word.Host 0 b.host_prices in
    let rows_do = prices_fit word.Row 0 b.row_prices (omega (arith, h.row_count)) h.row_prices in
    let servers_do = prices_fit word.Server 0 b.server_prices (omega (arith, h.server_count)) h.server_prices in
    let hosts_do = prices_fit word.Host 0 b.host_prices (omega (arith, h.host_count)) h.host_prices in
    let body =
    all_append Fits (use_items b.uses) (rows ++ (servers ++ hosts)) (uses_fit b.uses h.uses)
    (all_append Fits rows (servers ++ hosts) rows_do (all_append Fits servers hosts servers_do hosts_do)) in
    (version_small b.host_prices, (tt, (omega arith, all_append Fits (body_items b) end body (tt, tt))))
claim_fits (short s) h =
    let demand = h.demand in
    let capacity = h.capacity in
    let end : List Item = item.Alone word.End ∷ [] in (
      omega arith,
      (tt, (omega arith, (omega arith, all_append Fits (row_items s.rows) end (rows_fit s.rows h.rows) (tt, tt)))),
    )

-- items whose numbers fit are read back from their lines
read_back : (is : List Item) → AllByRecursion Fits is → AllByRecursion ReadsBack is
read_back [] h = tt
read_back (i ∷ is) h = (reads_back i h.0, read_back is h.1)

-- the items of a certificate are read back from their lines
pub claim_back : (claim : Claim) → IsCertificate claim → AllByRecursion ReadsBack (items_of claim)
claim_back claim h = read_back (items_of claim) (claim_fits claim h)

-- ---- no line of a certificate holds an LF

-- printed octets have no line feed
unbroken : (xs : List ℕ) → Printed xs → Unbroken xs
unbroken xs h = printed_apart 10 (omega arith) xs h

-- parts without a line feed, with a space between them, have none
spaced : (xs ys : List ℕ) → Printed xs → Unbroken ys → Unbroken (xs ++ 32 ∷ ys)
spaced xs ys h k = all_append (λ x. x ≡ 10 → ⊥) xs (32 ∷ ys) (unbroken xs h) ((λ e. omega (arith, e)), k)

-- the line of an item has no line feed
line_unbroken : (i : Item) → Fits i → Unbroken (line_of i)
line_unbroken (item.Alone w) h = unbroken (spelled w) (word_printed w)
line_unbroken (item.One w a) h = spaced (spelled w) (decimal a) (word_printed w) (decimal_unbroken a h)
line_unbroken (item.Two w a b) h =
    spaced (spelled w) (decimal a ++ 32 ∷ decimal b) (word_printed w)
    (spaced (decimal a) (decimal b) (decimal_printed a h.0) (decimal_unbroken b h.1))
line_unbroken (item.Three w a b c) h =
    spaced (spelled w) (decimal a ++ 32 ∷ (decimal b ++ 32 ∷ decimal c)) (word_printed w)
    (spaced (decimal a) (decimal b ++ 32 ∷ decimal c) (decimal_printed a h.0)
    (spaced (decimal b) (decimal c) (decimal_printed b h.1) (decimal_unbroken c h.2)))

-- the lines of items have none
lines_unbroken : (is : List Item) → AllByRecursion Fits is → AllByRecursion Unbroken (map line_of is)
lines_unbroken [] h = tt
lines_unbroken (i ∷ is) h = (line_unbroken i h.0, lines_unbroken is h.1)

-- the lines of a certificate have none
pub claim_unbroken : (claim : Claim) → IsCertificate claim → AllByRecursion Unbroken (lines_of claim)
claim_unbroken claim h = lines_unbroken (items_of claim) (claim_fits claim h)

-- ---- lines that stand

-- the lines that were read stand
pub read_stand : (is : List Item) (d : Drafted) → run (Some start) is ≡ Some d
    → LinesStand certificates (map line_of is)
read_stand is d made =
    let v = run_so_far is d made in
    let s = draft_stands d v.0 in
    let same = s.3 ∙ ap (λ (l : List Item). l ++ s.2) v.1 in
    (s.0, s.1, map line_of s.2, ap (map line_of) same ∙ map-append line_of is s.2)
