-- What a machine that takes a language's lines shows of a text. Seven facts tie it to the language.
use Rattle.std.proofs.Common.{◌≡◌, ◌≤◌, ◌+◌, ℕ, true, false, List, [], ◌∷◌, ◌++◌, length, Option, Some, None}
use Rattle.std.proofs.Common.{Ok, Err, refl, sym, ap, subst, ◌∙◌, arith, inl, inr, append_assoc, length-append}
use Rattle.std.specs.Prelude.{◌==◌}
use Rattle.std.specs.List.{AllByRecursion}
use Rattle.std.proofs.lemmas.List.{append-nil, nil_from_length}
use Rattle.std.proofs.lemmas.Bool.{eqb-true}
use Rattle.std.proofs.lemmas.Option.{same_Some}
use Rattle.hsp_text.specs.Lines.{IsUnbroken}
use Rattle.hsp_text.proofs.Lists.{all_append, all_front, all_back}
use Rattle.hsp_cert.specs.Text.{unlines}
use Rattle.hsp_cert.specs.declared.fault.CertFault.TheVariants as fault
use Rattle.hsp_cert.proofs.LineCuts.{GoesOn, Unbroken, by_recursion, first_line, fronts, no_line, same_line}
use Rattle.hsp_cert.proofs.LineCuts.{unlines-append}
use Rattle.hsp_cert.proofs.ListSteps.{some_left}
use Rattle.hsp_cert.specs.Language.{Agrees, HasEnded, HasNoEnd, IsAfterEnd, IsBadLine, IsEnd, Language}
use Rattle.hsp_cert.specs.Language.{LinesStand, Machine, MeansIn, Stepped, run, stepped, text_in}

-- The machine takes exactly the lines of claims.
pub record Takes {Draft Claim : Type 0} (language : Language Claim) (machine : Machine Draft Claim) : Type 0 where
  -- no line of a claim holds an LF
  pub unbroken : (c : Claim) → language.Is c → AllByRecursion Unbroken (language.lines_of c)
  -- all lines of a claim are taken, and then the draft claims it
  pub whole : (c : Claim) → language.Is c
      → (d : Draft) × (run machine (Some machine.start) (language.lines_of c) ≡ Some d)
      × (machine.has_ended d ≡ true) × (machine.claimed d ≡ c)
  -- lines that were taken stand
  pub stand : (ls : List (List ℕ)) (d : Draft) → run machine (Some machine.start) ls ≡ Some d → LinesStand language ls
  -- where they have ended they are those of the claim
  pub ended : (ls : List (List ℕ)) (d : Draft) → run machine (Some machine.start) ls ≡ Some d
      → machine.has_ended d ≡ true → language.Is (machine.claimed d) × (language.lines_of (machine.claimed d) ≡ ls)
  -- nothing is taken behind the end
  pub stops : (d : Draft) (line : List ℕ) → machine.has_ended d ≡ true → machine.step d line ≡ None
  -- END ends a draft, and nothing else does
  pub only_end : (d e : Draft) (line : List ℕ) → machine.step d line ≡ Some e → machine.has_ended e ≡ false
      → IsEnd line → ⊥
  pub end : (c : Claim) → language.Is c → HasNoEnd (language.lines_of c) → ⊥

-- ---- runs

module _ {Draft Claim : Type 0} (machine : Machine Draft Claim) where
  -- lines in two runs are taken one after the other
  pub run-append : (o : Option Draft) (xs ys : List (List ℕ))
      → run machine o (xs ++ ys) ≡ run machine (run machine o xs) ys
  run-append o [] ys = refl
  run-append o (x ∷ xs) ys = run-append (stepped machine o x) xs ys

  -- nothing is taken once a line was refused
  pub run-none : (xs : List (List ℕ)) → run machine None xs ≡ None
  run-none [] = refl
  run-none (x ∷ xs) = run-none xs

  -- a run that gave a draft began with one
  pub first_step : (o : Option Draft) (xs : List (List ℕ)) (e : Draft) → run machine o xs ≡ Some e
      → (d : Draft) × (o ≡ Some d)
  first_step None xs e h = let n = run-none xs in absurd cc
  first_step (Some d) xs e h = (d, refl)

abbrev pub some_of : {A : Type 0} → A → Option A
some_of x = Some x

-- a step that was taken gave this
pub took : {A : Type 0} (old : A) (o : Option A) (x : A) → Stepped old o true x → o ≡ Some x
took old None x h = absurd h
took old (Some y) x h = ap some_of (sym h)

-- a step that was not taken gave nothing
pub refused : {A : Type 0} (old : A) (o : Option A) (x : A) → Stepped old o false x → o ≡ None
refused old None x h = refl
refused old (Some y) x h = absurd h

module _ {Draft Claim : Type 0} (language : Language Claim) (machine : Machine Draft Claim)
    (takes : Takes language machine) where
  abbrev begun : Option Draft
  begun = Some machine.start

  -- a line that is not taken can't stand
  untaken : (ls : List (List ℕ)) (d : Draft) (line : List ℕ) → run machine begun ls ≡ Some d
      → machine.step d line ≡ None → LinesStand language (ls ++ line ∷ []) → ⊥
  untaken ls d line made none st =
      let w = takes.whole st.0 st.1 in
      let gone : run machine begun (language.lines_of st.0) ≡ None =
      ap (run machine begun) st.3
      ∙ ap (run machine begun) (append_assoc ls (line ∷ []) st.2)
      ∙ run-append machine begun ls (line ∷ st.2)
      ∙ ap (λ (o : Option Draft). run machine o (line ∷ st.2)) made
      ∙ ap (λ (o : Option Draft). run machine o st.2) none
      ∙ run-none machine st.2 in
      let both : some_of w.0 ≡ None = sym w.1 ∙ gone in
      absurd cc

  -- ---- as far as the text was read

  -- the lines that were read, which made the draft, and what is left of the text
  pub record Progress (text rest : List ℕ) (lines : ℕ) (d : Draft) : Type 0 where
    pub taken : List (List ℕ)
    pub made : run machine begun taken ≡ Some d
    pub read : text ≡ unlines taken ++ rest
    pub count : lines ≡ length taken
    pub within : lines + length rest ≤ length text
    pub no_end : machine.has_ended d ≡ false → HasNoEnd taken

  -- at first nothing was read
  pub begins : (text : List ℕ) → Progress text text 0 machine.start
  begins text =
      record { taken = []; made = refl; read = refl; count = refl; within = omega arith; no_end = λ _. tt }

  -- a line more
  pub adds : (text rest line after : List ℕ) (lines : ℕ) (d e : Draft) → Progress text rest lines d
      → machine.has_ended d ≡ false → rest ≡ line ++ 10 ∷ after → machine.step d line ≡ Some e
      → Progress text after (lines + 1) e
  adds text rest line after lines d e g still cut step =
      let new : List (List ℕ) = line ∷ [] in
      record {
        taken = g.taken ++ new;
        made =
            run-append machine begun g.taken new ∙ ap (λ (o : Option Draft). run machine o new) g.made ∙ step;
        read =
            g.read
            ∙ ap (λ (x : List ℕ). unlines g.taken ++ x) (cut ∙ sym (append_assoc line (10 ∷ []) after))
            ∙ sym (append_assoc (unlines g.taken) (unlines new) after)
            ∙ ap (λ (x : List ℕ). x ++ after) (sym (unlines-append g.taken new));
        count = omega (arith, g.count, length-append g.taken new);
        within = omega (arith, g.within, ap length cut, length-append line (10 ∷ after));
        no_end =
            λ goes. all_append (λ l. IsEnd l → ⊥) g.taken new (g.no_end still) (takes.only_end d e line step goes, tt);
      }

  -- a line that is refused is a bad one
  pub bad_line : (text rest line after : List ℕ) (lines : ℕ) (d : Draft) → Progress text rest lines d
      → machine.has_ended d ≡ false → rest ≡ line ++ 10 ∷ after → IsUnbroken line → machine.step d line ≡ None
      → IsBadLine language text (lines + 1)
  bad_line text rest line after lines d g still cut unbroken none = record {
    before = g.taken;
    line = line;
    rest = after;
    cut = g.read ∙ ap (λ (x : List ℕ). unlines g.taken ++ x) cut;
    unbroken = unbroken;
    stand = takes.stand g.taken d g.made;
    no_end = g.no_end still;
    bad = untaken g.taken d line g.made none;
    number = omega (arith, g.count);
  }

  -- a text that ends before its claim does ends early
  pub ended_early : (text rest : List ℕ) (lines : ℕ) (d : Draft) → Progress text rest lines d
      → machine.has_ended d ≡ false → IsUnbroken rest → HasEnded language text
  ended_early text rest lines d g still unbroken = record {
    before = g.taken;
    tail = rest;
    cut = g.read;
    unbroken = unbroken;
    stand = takes.stand g.taken d g.made;
    no_end = g.no_end still;
  }

  -- at END the lines are those of a claim
  pub whole : (text rest : List ℕ) (lines : ℕ) (d : Draft) → Progress text rest lines d → machine.has_ended d ≡ true
      → language.Is (machine.claimed d) × (text ≡ text_in language (machine.claimed d) ++ rest)
      × (lines ≡ length (language.lines_of (machine.claimed d)))
  whole text rest lines d g over =
      let c = takes.ended g.taken d g.made over in
      (c.0, g.read ∙ ap (λ ls. unlines ls ++ rest) (sym c.1), omega (arith, g.count, ap length c.1))

  -- a claim with nothing behind its end is the whole text
  pub whole_alone : (text rest : List ℕ) (lines : ℕ) (d : Draft) (c : Claim) → Progress text rest lines d
      → machine.has_ended d ≡ true → (length rest == 0) ≡ true → c ≡ machine.claimed d
      → language.Is c × (text ≡ text_in language c)
  whole_alone text rest lines d c g over none same =
      let w = whole text rest lines d g over in
      let nothing = nil_from_length rest (eqb-true (length rest) 0 none) in (
        subst language.Is (sym same) w.0,
        w.1 ∙ ap (λ (x : List ℕ). text_in language (machine.claimed d) ++ x) nothing
            ∙ append-nil (text_in language (machine.claimed d)) ∙ ap (text_in language) (sym same),
      )

  -- a claim with something behind its end has a line after the end
  pub after_end : (text rest : List ℕ) (lines : ℕ) (d : Draft) → Progress text rest lines d
      → machine.has_ended d ≡ true → (length rest == 0) ≡ false → IsAfterEnd language text (lines + 1)
  after_end text rest lines d g over some =
      let w = whole text rest lines d g over in
      record {
        claim = machine.claimed d;
        is = w.0;
        rest = rest;
        some = some_left rest some;
        cut = w.1;
        number = omega (arith, w.2);
      }

  -- ---- a text has one answer

  -- claims of the same lines are the same
  claim_same : (c d : Claim) → language.Is c → language.Is d → language.lines_of c ≡ language.lines_of d → c ≡ d
  claim_same c d hc hd e =
      let a = takes.whole c hc in
      let b = takes.whole d hd in
      let one = same_Some a.0 b.0 (sym a.1 ∙ ap (run machine begun) e ∙ b.1) in
      sym a.3 ∙ ap machine.claimed one ∙ b.3

  -- no claim's lines go on to another's
  goes_no_further : (c : Claim) (more : List (List ℕ)) → language.Is c
      → LinesStand language (language.lines_of c ++ more) → more ≡ []
  goes_no_further c [] h st = refl
  goes_no_further c (m ∷ more) h st =
      let w = takes.whole c h in
      let v = takes.whole st.0 st.1 in
      let rest = more ++ st.2 in
      let gone : run machine begun (language.lines_of st.0) ≡ None =
      ap (run machine begun) st.3
      ∙ ap (run machine begun) (append_assoc (language.lines_of c) (m ∷ more) st.2)
      ∙ run-append machine begun (language.lines_of c) (m ∷ rest)
      ∙ ap (λ (o : Option Draft). run machine o (m ∷ rest)) w.1
      ∙ ap (λ (o : Option Draft). run machine o rest) (takes.stops w.0 m w.2)
      ∙ run-none machine rest in
      let both : some_of v.0 ≡ None = sym v.1 ∙ gone in
      absurd cc

  -- lines that can stand have no line feed
  stand_unbroken : (ls : List (List ℕ)) → LinesStand language ls → AllByRecursion Unbroken ls
  stand_unbroken ls st =
      all_front Unbroken ls st.2 (subst (AllByRecursion Unbroken) st.3 (takes.unbroken st.0 st.1))

  -- where lines can stand, so can their beginnings
  stands_shorter : (before : List (List ℕ)) (line : List ℕ) (more : List (List ℕ))
      → LinesStand language (before ++ line ∷ more) → LinesStand language (before ++ line ∷ [])
  stands_shorter before line more st = (
    st.0,
    st.1,
    more ++ st.2,
    st.3 ∙ append_assoc before (line ∷ more) st.2 ∙ sym (append_assoc before (line ∷ []) (more ++ st.2)),
  )

  -- The first lines of a text stand, and no more lines of it do.
  record StandsTo (text : List ℕ) (lines : List (List ℕ)) (rest : List ℕ) : Type 0 where
    cut : text ≡ unlines lines ++ rest
    stand : LinesStand language lines
    no_more : (more : List (List ℕ)) (x : List ℕ) → LinesStand language (lines ++ more) → rest ≡ unlines more ++ x
        → more ≡ []

  -- lines that stand up to a place are all lines up to there
  goes_on_same : (text x y : List ℕ) (ls ms : List (List ℕ)) → StandsTo text ls x → LinesStand language ms
      → GoesOn ls ms x y → (ls ≡ ms) × (x ≡ y)
  goes_on_same text x y ls ms p st (more, on, rest) =
      let over = p.no_more more y (subst (LinesStand language) on st) rest in
      (sym (on ∙ ap (λ l. ls ++ l) over ∙ append-nil ls), rest ∙ ap (λ l. unlines l ++ y) over)

  -- a text is cut so in one way
  cut_once : (text x y : List ℕ) (ls ms : List (List ℕ)) → StandsTo text ls x → StandsTo text ms y
      → (ls ≡ ms) × (x ≡ y)
  cut_once text x y ls ms p q =
      elim (fronts ls ms x y (stand_unbroken ls p.stand) (stand_unbroken ms q.stand) (sym p.cut ∙ q.cut)) [
        | inl g ↦ goes_on_same text x y ls ms p q.stand g
        | inr g ↦ let s = goes_on_same text y x ms ls q p.stand g in (sym s.0, sym s.1)
      ]

  -- the text of a claim stands up to its end
  whole_to : (text : List ℕ) (c : Claim) (x : List ℕ) → language.Is c → text ≡ text_in language c ++ x
      → StandsTo text (language.lines_of c) x
  whole_to text c x h e =
      record {
        cut = e;
        stand = (c, h, [], sym (append-nil (language.lines_of c)));
        no_more = λ more y st over. goes_no_further c more h st;
      }

  -- no line can stand in place of a bad one
  stops_there : (text : List ℕ) (n : ℕ) (b : IsBadLine language text n) (more : List (List ℕ)) (x : List ℕ)
      → LinesStand language (b.before ++ more) → b.line ++ 10 ∷ b.rest ≡ unlines more ++ x → more ≡ []
  stops_there text n b [] x st e = refl
  stops_there text n b (m ∷ more) x st e =
      let whole = all_back Unbroken b.before (m ∷ more) (stand_unbroken (b.before ++ m ∷ more) st) in
      let same =
      same_line b.line m b.rest (unlines more ++ x) (by_recursion b.line b.unbroken) whole.0
      (e ∙ first_line m more x) in
      absurd (b.bad (stands_shorter b.before b.line more
      (subst (λ l. LinesStand language (b.before ++ l ∷ more)) (sym same.0) st)))

  -- a text with a bad line stands up to that line
  bad_to : (text : List ℕ) (n : ℕ) (b : IsBadLine language text n) → StandsTo text b.before (b.line ++ 10 ∷ b.rest)
  bad_to text n b = record { cut = b.cut; stand = b.stand; no_more = stops_there text n b }

  -- a rest without a line feed has no further line
  lines_over : (tail : List ℕ) → Unbroken tail → (more : List (List ℕ)) (x : List ℕ) → tail ≡ unlines more ++ x
      → more ≡ []
  lines_over tail h [] x e = refl
  lines_over tail h (m ∷ more) x e = absurd (no_line m (unlines more ++ x) tail h (sym (e ∙ first_line m more x)))

  -- a text that ends early stands up to its last line feed
  ended_to : (text : List ℕ) (q : HasEnded language text) → StandsTo text q.before q.tail
  ended_to text q =
      record {
        cut = q.cut;
        stand = q.stand;
        no_more = λ more x st e. lines_over q.tail (by_recursion q.tail q.unbroken) more x e;
      }

  -- what follows a claim changes nothing of what is read
  whole_and_whole : (text : List ℕ) (c d : Claim) (x y : List ℕ) → language.Is c → language.Is d
      → text ≡ text_in language c ++ x → text ≡ text_in language d ++ y → (c ≡ d) × (x ≡ y)
  whole_and_whole text c d x y hc hd e f =
      let same =
      cut_once text x y (language.lines_of c) (language.lines_of d) (whole_to text c x hc e)
      (whole_to text d y hd f) in
      (claim_same c d hc hd same.0, same.1)

  -- a text is not a whole claim and open at once
  whole_and_open : (text : List ℕ) (c : Claim) (x y : List ℕ) (ls : List (List ℕ)) → language.Is c
      → text ≡ text_in language c ++ x → StandsTo text ls y → HasNoEnd ls → ⊥
  whole_and_open text c x y ls h e p none =
      takes.end c h
      (subst HasNoEnd (sym (cut_once text x y (language.lines_of c) ls (whole_to text c x h e) p).0) none)

  -- a text has one bad line
  bad_and_bad : (text : List ℕ) (n m : ℕ) → IsBadLine language text n → IsBadLine language text m → n ≡ m
  bad_and_bad text n m p q =
      let same =
      cut_once text (p.line ++ 10 ∷ p.rest) (q.line ++ 10 ∷ q.rest) p.before q.before (bad_to text n p)
      (bad_to text m q) in
      omega (arith, p.number, q.number, ap length same.0)

  -- a text with a bad line does not end early
  bad_and_ended : (text : List ℕ) (n : ℕ) → IsBadLine language text n → HasEnded language text → ⊥
  bad_and_ended text n p q =
      no_line p.line p.rest q.tail (by_recursion q.tail q.unbroken)
      (cut_once text (p.line ++ 10 ∷ p.rest) q.tail p.before q.before (bad_to text n p) (ended_to text q)).1

  -- a whole text is one that nothing follows
  nothing_behind : (text : List ℕ) (c : Claim) → text ≡ text_in language c → text ≡ text_in language c ++ []
  nothing_behind text c e = e ∙ sym (append-nil (text_in language c))

  -- a claim's text has nothing behind its end
  ok_and_after : (text : List ℕ) (c : Claim) (n : ℕ) → language.Is c → text ≡ text_in language c
      → IsAfterEnd language text n → ⊥
  ok_and_after text c n h e p =
      let w = whole_and_whole text c p.claim [] p.rest h p.is (nothing_behind text c e) p.cut in
      omega (arith, p.some, ap length w.1)

  -- a text has one line behind its end
  after_and_after : (text : List ℕ) (n m : ℕ) → IsAfterEnd language text n → IsAfterEnd language text m → n ≡ m
  after_and_after text n m p q =
      p.number
      ∙ ap (λ (c : Claim). length (language.lines_of c) + 1)
      (whole_and_whole text p.claim q.claim p.rest q.rest p.is q.is p.cut q.cut).0
      ∙ sym q.number

  -- a claim, whatever follows it, and a text in which no line is END
  whole_and_bad : (text : List ℕ) (c : Claim) (x : List ℕ) (n : ℕ) → language.Is c
      → text ≡ text_in language c ++ x → IsBadLine language text n → ⊥
  whole_and_bad text c x n h e p =
      whole_and_open text c x (p.line ++ 10 ∷ p.rest) p.before h e (bad_to text n p) p.no_end

  -- a text that begins with a whole claim does not end early
  whole_and_ended : (text : List ℕ) (c : Claim) (x : List ℕ) → language.Is c → text ≡ text_in language c ++ x
      → HasEnded language text → ⊥
  whole_and_ended text c x h e p = whole_and_open text c x p.tail p.before h e (ended_to text p) p.no_end

  -- a claim has one text
  pub one_spelling : (c d : Claim) → language.Is c → language.Is d → text_in language c ≡ text_in language d → c ≡ d
  one_spelling c d hc hd e =
      (whole_and_whole (text_in language c) c d [] [] hc hd (nothing_behind (text_in language c) c refl)
      (nothing_behind (text_in language c) d e)).0

  -- no two answers are true of one text
  pub one_answer : (text : List ℕ) (a b : _) → MeansIn language text a → MeansIn language text b → Agrees a b
  one_answer text (Err fault.OutOfMemory) other m k = tt
  one_answer text other (Err fault.OutOfMemory) m k = tt
  one_answer text (Ok c) (Ok d) m k =
      ap (λ (x : Claim). Ok x)
      (whole_and_whole text c d [] [] m.0 k.0 (nothing_behind text c m.1) (nothing_behind text d k.1)).0
  one_answer text (Ok c) (Err (fault.BadLine n)) m k =
      absurd (whole_and_bad text c [] n m.0 (nothing_behind text c m.1) k)
  one_answer text (Ok c) (Err fault.Ended) m k = absurd (whole_and_ended text c [] m.0 (nothing_behind text c m.1) k)
  one_answer text (Ok c) (Err (fault.AfterEnd n)) m k = absurd (ok_and_after text c n m.0 m.1 k)
  one_answer text (Err (fault.BadLine n)) (Ok c) m k =
      absurd (whole_and_bad text c [] n k.0 (nothing_behind text c k.1) m)
  one_answer text (Err (fault.BadLine n)) (Err (fault.BadLine p)) m k =
      ap (λ (x : ℕ). Err (fault.BadLine x)) (bad_and_bad text n p m k)
  one_answer text (Err (fault.BadLine n)) (Err fault.Ended) m k = absurd (bad_and_ended text n m k)
  one_answer text (Err (fault.BadLine n)) (Err (fault.AfterEnd p)) m k =
      absurd (whole_and_bad text k.claim k.rest n k.is k.cut m)
  one_answer text (Err fault.Ended) (Ok c) m k = absurd (whole_and_ended text c [] k.0 (nothing_behind text c k.1) m)
  one_answer text (Err fault.Ended) (Err (fault.BadLine n)) m k = absurd (bad_and_ended text n k m)
  one_answer text (Err fault.Ended) (Err fault.Ended) m k = refl
  one_answer text (Err fault.Ended) (Err (fault.AfterEnd n)) m k =
      absurd (whole_and_ended text k.claim k.rest k.is k.cut m)
  one_answer text (Err (fault.AfterEnd n)) (Ok c) m k = absurd (ok_and_after text c n k.0 k.1 m)
  one_answer text (Err (fault.AfterEnd n)) (Err (fault.BadLine p)) m k =
      absurd (whole_and_bad text m.claim m.rest p m.is m.cut k)
  one_answer text (Err (fault.AfterEnd n)) (Err fault.Ended) m k =
      absurd (whole_and_ended text m.claim m.rest m.is m.cut k)
  one_answer text (Err (fault.AfterEnd n)) (Err (fault.AfterEnd p)) m k =
      ap (λ (x : ℕ). Err (fault.AfterEnd x)) (after_and_after text n p m k)
