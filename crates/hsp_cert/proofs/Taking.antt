-- The reader takes exactly the lines of certificates.
use Rattle.std.proofs.Common.{◌≡◌, ℕ, true, false, List, [], ◌∷◌, ◌++◌, map, Option, Some, None}
use Rattle.std.proofs.Common.{refl, sym, ap, ap₂, subst, ◌∙◌}
use Rattle.std.specs.Prelude.{codes}
use Rattle.std.specs.List.{AllByRecursion}
use Rattle.std.proofs.lemmas.Option.{same_Some}
use Rattle.hsp_cert.specs.declared.stage.Stage.{Stage}
use Rattle.hsp_cert.specs.declared.stage.Stage.TheVariants as stage
use Rattle.hsp_cert.specs.declared.item.Word.TheVariants as word
use Rattle.hsp_cert.specs.declared.item.Item.{Item}
use Rattle.hsp_cert.specs.declared.item.Item.TheVariants as item
use Rattle.hsp_cert.specs.Certificate.{Claim, IsCertificate}
use Rattle.hsp_cert.specs.Certificate.Claim.{best, short}
use Rattle.hsp_cert.specs.Text.{body_items, items_of, line_of, lines_of, row_items, version_of}
use Rattle.hsp_cert.specs.Lexing.{item_in}
use Rattle.hsp_cert.specs.Drafts.{Drafted, Took}
use Rattle.hsp_cert.specs.Steps.{claimed, has_ended, said_step, staged, start, step, step_at, step_line}
use Rattle.hsp_cert.specs.Language.{HasNoEnd, IsEnd, LinesStand, Machine, run, stepped}
use Rattle.hsp_cert.specs.Reading.{certificates}
use Rattle.hsp_cert.proofs.LineReading.{Takes, first_step, some_of}
use Rattle.hsp_cert.proofs.LinesRead.{ReadsBack, claim_back, claim_unbroken, read_stand}
use Rattle.hsp_cert.proofs.ListSteps.{when_taken}
use Rattle.hsp_cert.proofs.ReadItems.{item_spelled}
use Rattle.hsp_cert.proofs.Standing.{claim_ended}
use Rattle.hsp_cert.proofs.WholeRuns.{ended, run as run_items, run_so_far, run_whole, stepped as stepped_item}

-- the reader, which takes lines
abbrev pub reader : Machine Drafted Claim
reader = record { start = start; step = step_line; has_ended = λ d. has_ended d.stage; claimed = claimed }

-- ---- a line taken, and a line refused

-- a step that was taken gave this
pub took : {A : Type 0} (o : Option A) (x : A) → Took o true x → o ≡ Some x
took None x h = absurd h
took (Some y) x h = ap some_of (sym h)

-- a step that was not taken gave nothing
pub refused : {A : Type 0} (o : Option A) (x : A) → Took o false x → o ≡ None
refused None x h = refl
refused (Some y) x h = absurd h

-- a line that was taken says an item, which was taken
said_parts : (d e : Drafted) (o : Option Item) → said_step d o ≡ Some e
    → (i : Item) × (o ≡ Some i) × (step d i ≡ Some e)
said_parts d e None h = absurd cc
said_parts d e (Some i) h = (i, refl, h)

-- the line END ends a draft
end_ends_at : (s : Stage) (d e : Drafted) → step_at s d (item.Alone word.End) ≡ Some e → has_ended e.stage ≡ true
end_ends_at stage.Body d e h =
    let t = when_taken _ (staged stage.PlanEnded d) e h in subst (λ (x : Drafted). has_ended x.stage ≡ true) t.1 refl
end_ends_at stage.Rows d e h =
    let same : staged stage.ShortageEnded d ≡ e = cc in subst (λ (x : Drafted). has_ended x.stage ≡ true) same refl
end_ends_at s d e h = absurd cc

-- while the certificate goes on, no line is its end
no_end_yet : (d e : Drafted) (i : Item) → ReadsBack i → step d i ≡ Some e → has_ended e.stage ≡ false
    → line_of i ≡ codes "END" → ⊥
no_end_yet d e i back taken still named =
    let said : item_in (codes "END") ≡ Some (item.Alone word.End) = refl in
    let same = same_Some i (item.Alone word.End) (sym back ∙ ap item_in named ∙ said) in
    let ends = end_ends_at d.stage d e (subst (λ (j : Item). step d j ≡ Some e) same taken) in
    cc (ends, still)

-- ---- lines are taken as their items are

-- the line of an item that is read back is taken as the item is
one_by : (o : Option Drafted) (i : Item) → ReadsBack i → stepped reader o (line_of i) ≡ stepped_item o i
one_by None i back = refl
one_by (Some d) i back = ap (said_step d) back

-- so are the lines of such items
by_items : (is : List Item) (o : Option Drafted) → AllByRecursion ReadsBack is
    → run reader o (map line_of is) ≡ run_items o is
by_items [] o back = refl
by_items (i ∷ is) o back =
    by_items is (stepped reader o (line_of i)) back.1 ∙ ap (λ (q : Option Drafted). run_items q is) (one_by o i back.0)

-- lines that are taken are those of items that are taken
record AreOfItems (d e : Drafted) (ls : List (List ℕ)) : Type 0 where
  items : List Item
  lines : map line_of items ≡ ls
  made : run_items (Some d) items ≡ Some e

-- there are such items
items_read : (ls : List (List ℕ)) (d e : Drafted) → run reader (Some d) ls ≡ Some e → AreOfItems d e ls
items_read [] d e h = record { items = []; lines = refl; made = h }
items_read (l ∷ ls) d e h =
    let f = first_step reader (step_line d l) ls e h in
    let p = said_parts d f.0 (item_in l) f.1 in
    let rest = items_read ls f.0 e (rw f.1 at h) in
    record {
      items = p.0 ∷ rest.items;
      lines = ap₂ (λ line more. line ∷ more) (sym (item_spelled l p.0 p.1)) rest.lines;
      made = ap (λ (o : Option Drafted). run_items o rest.items) p.2 ∙ rest.made;
    }

-- ---- ends

-- a certificate holds the line END
end_in : (is : List Item) → HasNoEnd (map line_of (is ++ item.Alone word.End ∷ [])) → ⊥
end_in [] h = h.0 refl
end_in (i ∷ is) h = end_in is h.1

-- a certificate's lines have an end
claim_end : (c : Claim) → HasNoEnd (lines_of c) → ⊥
claim_end (best b) h =
    end_in
    (item.One word.Version (version_of b.host_prices) ∷ item.Alone word.Plan ∷ item.One word.Cost b.cost ∷ body_items b)
    h
claim_end (short s) h =
    end_in
    (item.One word.Version 1 ∷ item.Alone word.Shortage ∷ item.One word.Demand s.demand
    ∷ item.One word.Capacity s.capacity ∷ row_items s.rows) h

-- a draft that has ended takes nothing
stops_at : (s : Stage) (d : Drafted) (i : Item) → has_ended s ≡ true → step_at s d i ≡ None
stops_at stage.PlanEnded d i over = refl
stops_at stage.ShortageEnded d i over = refl
stops_at s d i over = absurd cc

-- whatever a line says
stops_said : (d : Drafted) (o : Option Item) → has_ended d.stage ≡ true → said_step d o ≡ None
stops_said d None over = refl
stops_said d (Some i) over = stops_at d.stage d i over

-- a line that leaves a draft open isn't END
only_end : (d e : Drafted) (line : List ℕ) → step_line d line ≡ Some e → has_ended e.stage ≡ false → IsEnd line → ⊥
only_end d e line taken still named =
    let p = said_parts d e (item_in line) taken in
    let spelled : line ≡ line_of p.0 = item_spelled line p.0 p.1 in
    let back : ReadsBack p.0 = ap item_in (sym spelled) ∙ p.1 in
    no_end_yet d e p.0 back p.2 still (sym spelled ∙ named)

-- ---- the reader and the language are one

-- all lines of a certificate are taken, and the draft claims it
whole_by : (c : Claim) → (run reader (Some start) (lines_of c) ≡ Some (ended c))
    → (d : Drafted) × (run reader (Some start) (lines_of c) ≡ Some d) × (has_ended d.stage ≡ true) × (claimed d ≡ c)
whole_by (best b) made = (ended (best b), made, refl, refl)
whole_by (short s) made = (ended (short s), made, refl, refl)

-- lines that were taken stand
stand : (ls : List (List ℕ)) (d : Drafted) → run reader (Some start) ls ≡ Some d → LinesStand certificates ls
stand ls d made =
    let r = items_read ls start d made in subst (LinesStand certificates) r.lines (read_stand r.items d r.made)

-- where they have ended they are those of the certificate
whole_read : (ls : List (List ℕ)) (d : Drafted) → run reader (Some start) ls ≡ Some d → has_ended d.stage ≡ true
    → IsCertificate (claimed d) × (lines_of (claimed d) ≡ ls)
whole_read ls d made over =
    let r = items_read ls start d made in
    let v = run_so_far r.items d r.made in
    let c = claim_ended d over v.0 in
    (c.0, ap (map line_of) (c.1 ∙ v.1) ∙ r.lines)

-- the seven facts
pub takes : Takes certificates reader
takes = record {
  unbroken = claim_unbroken;
  whole = λ c h. whole_by c (by_items (items_of c) (Some start) (claim_back c h) ∙ run_whole c h);
  stand = stand;
  ended = whole_read;
  stops = λ d line over. stops_said d (item_in line) over;
  only_end = only_end;
  end = λ c h none. claim_end c none;
}
