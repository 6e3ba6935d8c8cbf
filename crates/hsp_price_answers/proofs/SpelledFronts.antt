-- Words that spell fronts are read as them, and no others are.
use Rattle.std.proofs.Common.{◌≡◌, ◌≢◌, ◌∙◌, ◌<◌, ◌≤◌, ◌^◌, ℕ, List, Option, None, Some, Result, Ok, Err, IfErr, Bool}
use Rattle.std.proofs.Common.{true, false, decimal, if◌then◌else◌, refl, ap, sym, arith}
use Rattle.std.specs.Prelude.{nat_lt}
use Rattle.std.proofs.lemmas.Bool.{lt-ltb, ne_eqb}
use Rattle.std.proofs.lemmas.Bool.Decides.{nat_tests}
use Rattle.hsp_text.specs.Answers.{◌>>=◌}
use Rattle.hsp_text.specs.Whole.{whole_within}
use Rattle.hsp_text.specs.declared.limits.TheConstants.{MOST_FRONTS}
use Rattle.hsp_text.specs.declared.whole.WholeFault.{WholeFault}
use Rattle.hsp_tables.proofs.TableRows.{whole_is, whole_is_read}
use Rattle.hsp_inputs.specs.declared.fault.Fault.TheVariants.{BadFronts}
use Rattle.hsp_inputs.specs.Counts.{above_none, count_at}
use Rattle.hsp_price_answers.specs.AnswersShown.{SpellsOr}
use Rattle.hsp_price_answers.specs.Words.{below, front_at, fronts_at, or_else_fault, word_or}
use Rattle.hsp_log.specs.declared.fault.RowFault.{RowFault}
use Rattle.hsp_inputs.specs.declared.stream_fault.StreamFault.{StreamFault}
use Rattle.hsp_inputs.specs.declared.stream_fault.StreamFault.TheVariants.{BadFront, Input, Log}

-- ---- numbers

-- a value is one whatever the fault would be
given_as : {X E F : Type 0} (fault : F) (r : Result X E) (x : X) → or_else_fault fault r ≡ Ok x → r ≡ Ok x
given_as fault r x e = grind arith

-- a word that is read as a count is its decimal
count_is : (most : ℕ) (word : List ℕ) (n : ℕ) → most < 2 ^ 64 → count_at BadFronts most word ≡ Ok n
    → (word ≡ decimal n) × (1 ≤ n) × (n ≤ most)
count_is most word n small e =
    let read : (1 ≤ n) × (whole_within most word ≡ Ok n) = grind (arith, nat_tests) in
    let whole = whole_is most word n small read.1 in
    (whole.0, read.0, whole.1)

-- the decimal of a count is read as it
count_is_read : (most n : ℕ) → most < 2 ^ 64 → 1 ≤ n → n ≤ most → count_at BadFronts most (decimal n) ≡ Ok n
count_is_read most n small some few =
    let above : above_none BadFronts (Ok n) ≡ Ok n = rw (ne_eqb n 0 (λ e. omega (arith, e))) refl in
    ap (λ r. above_none BadFronts r) (whole_is_read most n small few) ∙ above

-- ---- the number of fronts

-- a word that is read as a number of fronts is its decimal, or there is none
pub many_is : (word : Option (List ℕ)) (n : ℕ) → word_or word 1 fronts_at ≡ Ok n
    → SpellsOr word 1 n × (1 ≤ n) × (n ≤ MOST_FRONTS)
many_is None n e = let one : 1 ≡ n = cc (e) in rw (← one) (refl, omega arith, omega arith)
many_is (Some word) n e =
    count_is MOST_FRONTS word n (omega arith) (given_as (Input BadFronts) (count_at BadFronts MOST_FRONTS word) n e)

-- the decimal of a number of fronts is read as it
pub many_is_read : (word : Option (List ℕ)) (n : ℕ) → SpellsOr word 1 n → 1 ≤ n → n ≤ MOST_FRONTS
    → word_or word 1 fronts_at ≡ Ok n
many_is_read None n is some few = ap (λ k. Ok k) (sym is)
many_is_read (Some word) n is some few =
    ap (λ w. fronts_at w) is
    ∙ ap (λ r. or_else_fault (Input BadFronts) r) (count_is_read MOST_FRONTS n (omega arith) some few)

-- ---- the front

-- a word that is read as a front is its decimal, or there is none
pub front_is : (fronts : ℕ) (word : Option (List ℕ)) (n : ℕ) → 1 ≤ fronts → word_or word 0 (front_at fronts) ≡ Ok n
    → SpellsOr word 0 n × (n < fronts)
front_is fronts None n some e = let none : 0 ≡ n = cc (e) in rw (← none) (refl, omega (arith, some))
front_is fronts (Some word) n some e =
    let read : (n < fronts) × (whole_within MOST_FRONTS word ≡ Ok n) = grind (arith, nat_tests) in
    ((whole_is MOST_FRONTS word n (omega arith) read.1).0, read.0)

-- the decimal of a front is read as it
pub front_is_read : (fronts : ℕ) (word : Option (List ℕ)) (n : ℕ) → SpellsOr word 0 n → n < fronts
    → fronts ≤ MOST_FRONTS → word_or word 0 (front_at fronts) ≡ Ok n
front_is_read fronts None n is inside few = ap (λ k. Ok k) (sym is)
front_is_read fronts (Some word) n is inside few =
    let there : below fronts (Ok n) ≡ Ok n = rw (lt-ltb n fronts inside) refl in
    ap (λ w. front_at fronts w) is ∙ ap (λ r. below fronts r) (whole_is_read MOST_FRONTS n (omega arith) (omega arith))
    ∙ there

-- ---- faults

-- no fault is the log's
abbrev pub HasNoLog : {X : Type 0} → Result X StreamFault → Type 0
HasNoLog r = IfErr r (λ fault. (of : RowFault) → fault ≢ Log of)

-- two steps without a fault of the log have none together
pub then_none : {X Y : Type 0} (r : Result X StreamFault) (f : X → Result Y StreamFault) → HasNoLog r
    → ((x : X) → HasNoLog (f x)) → HasNoLog (r >>= f)
then_none (Ok x) f first next = next x
then_none (Err e) f first next = first

-- another fault in place of one is not the log's
pub else_none : {X E : Type 0} (fault : StreamFault) (r : Result X E) → ((of : RowFault) → fault ≢ Log of)
    → HasNoLog (or_else_fault fault r)
else_none fault (Ok x) apart = tt
else_none fault (Err e) apart = apart

-- a word has no fault of the log
pub word_none : (word : Option (List ℕ)) (usual : ℕ) (spelled : List ℕ → Result ℕ StreamFault)
    → ((octets : List ℕ) → HasNoLog (spelled octets)) → HasNoLog (word_or word usual spelled)
word_none None usual spelled none = tt
word_none (Some octets) usual spelled none = none octets

-- a number that is too great has no fault of the log
pub below_none : (fronts : ℕ) (r : Result ℕ WholeFault) → HasNoLog (below fronts r)
below_none fronts (Err e) = λ of same. cc (same)
below_none fronts (Ok n) = by (nat_lt n fronts)
  where
    by : (test : Bool) → HasNoLog (if test then Ok n else Err BadFront)
    by true = tt
    by false = λ of same. cc (same)
