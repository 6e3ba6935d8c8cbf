-- A reader that keeps to a limit, beside one that reads any value: what it answers is the one thing that is true of the
-- octets.
use Rattle.std.proofs.Common.{◌≡◌, ◌≢◌, ℕ, ◌-◌, ◌<◌, ◌≤◌, Bool, true, false, List, [], ◌∷◌, ◌++◌, length, Result, Ok}
use Rattle.std.proofs.Common.{Err, refl, sym, ap, subst, ◌∙◌, arith, inl, inr, ◌⊎◌, length-append}
use Rattle.std.proofs.lemmas.List.{append-nil}
use Rattle.hsp_record.specs.declared.fault.Stop.{Stop}
use Rattle.hsp_record.specs.declared.fault.Stop.TheVariants.{Short, TooMany, Twice}
use Rattle.hsp_record.specs.declared.fault.ReadError.{ReadError}
use Rattle.hsp_record.specs.declared.fault.ReadError.TheVariants.{Stopped}
use Rattle.hsp_record.specs.declared.fault.RecordFault.{RecordFault}
use Rattle.hsp_record.specs.declared.fault.RecordFault.TheVariants.{Truncated, Trailing, TooManyServers, IndexTwice}
use Rattle.hsp_record.specs.declared.fault.RecordFault.TheVariants.{OutOfMemory}
use Rattle.hsp_record.specs.Fields.{IsOctets, Format, spelling, Means, Agrees, HasOneAnswer, HasOneSpelling}
use Rattle.hsp_record.specs.Fields.{HasNothingAfter}
use Rattle.hsp_record.specs.Reading.{Read, Reader, FailsAs, LeavesWithin, answer_of}
use Rattle.hsp_text.specs.Answers.{GivesUnless}
use Rattle.hsp_record.proofs.Cuts.{Cuts, cuts_within, ends_from_cuts, cuts_from_ends}
use Rattle.hsp_record.proofs.Codec.{Codec, IsOctets-front, ok_is}

-- the limit that a stop tells of is passed in the octets
abbrev pub Passes : {A : Type 0} → Format A → List ℕ → Stop → Type 0
Passes format octets (Short left) = ⊥
Passes format octets TooMany = format.HasTooManyServers octets
Passes format octets (Twice index) = format.HasIndexTwice octets index

-- what a format's values are within its limits, and without them
abbrev pub held : {A : Type 0} → Format A → Bool → A → Type 0
held format true = format.Fits
held format false = format.Wide

-- a reader of a format, which stops at those limits that are passed in the octets
pub record Limited (Limit : Stop → Type 0) (A : Type 0) (read : Reader A) (format : Format A) : Type 0 where
  pub codec : Codec Limit A read (held format) format.fields
  pub stops : (octets : List ℕ) (stop : Stop) → Passes format octets stop → read octets ≡ Err stop
  pub passed : (octets : List ℕ) (stop : Stop) → IsOctets octets → Limit stop → read octets ≡ Err stop
      → Passes format octets stop

abbrev err_of : {A : Type 0} → Stop → Result A Stop
err_of stop = Err stop

-- a result has one fault
err_is : {A : Type 0} (a b : Stop) → err_of {A = A} a ≡ Err b → a ≡ b
err_is a b e = cc

-- a record that is too short breaks no limit and has no index twice
not_short : (stop : Stop) (left : ℕ) → stop ≡ Short left → (stop ≡ TooMany → ⊥) × ((index : ℕ) → stop ≡ Twice index → ⊥)
not_short stop left e = (λ h. cc, λ index h. cc)

-- an answer agrees with out of memory
pub agrees_with_none : {A : Type 0} (r : Result A RecordFault) → Agrees r (Err OutOfMemory)
agrees_with_none (Err OutOfMemory) = tt
agrees_with_none r = tt

-- answers that agree are the same, where memory ran out at neither
agreed : {A : Type 0} (r other : Result A RecordFault) → r ≢ Err OutOfMemory → other ≢ Err OutOfMemory → Agrees r other
    → r ≡ other
agreed (Err OutOfMemory) other had has h = absurd (had refl)
agreed r (Err OutOfMemory) had has h = absurd (has refl)
agreed r other had has h = h

-- reading takes no memory
not_memory : {A : Type 0} (octets : List ℕ) (r : Read A) → answer_of octets r ≢ Err OutOfMemory
not_memory octets (Ok (x, [])) e = cc (e)
not_memory octets (Err (Short left)) e = cc (e)
not_memory octets r e = cc (e)

module _ {L : Stop → Type 0} {A : Type 0} {read : Reader A} {format : Format A} (limited : Limited L A read format)
  where
    pub takes : (octets : List ℕ) (x : A) (rest : List ℕ) → IsOctets octets → read octets ≡ Ok (x, rest)
        → format.Fits x × (octets ≡ spelling format x ++ rest)
    takes octets x rest fits e = limited.codec.takes octets x rest fits e

    stopped : (octets : List ℕ) (stop : Stop) → IsOctets octets → read octets ≡ Err stop
        → Passes format octets stop
        ⊎ ((left : ℕ) × (stop ≡ Short left) × (x : A) × format.Wide x × Cuts (format.fields x) octets left)
    stopped octets stop fits e =
        elim (limited.codec.fails octets stop fits e) [
          | inl l ↦ inl (limited.passed octets stop fits l e)
          | inr f ↦
              inr f
        ]

    short : (octets : List ℕ) (left : ℕ) → IsOctets octets → read octets ≡ Err (Short left)
        → (x : A) × format.Wide x × Cuts (format.fields x) octets left
    short octets left fits e =
        elim (stopped octets (Short left) fits e) [
          | inl p ↦ absurd p
          | inr f ↦ let same : f.0 ≡ left = cc in (f.2, f.3, subst (λ k. Cuts (format.fields f.2) octets k) same f.4)
        ]

    passes : (octets : List ℕ) (stop : Stop) → IsOctets octets → ((left : ℕ) → stop ≡ Short left → ⊥)
        → read octets ≡ Err stop → Passes format octets stop
    passes octets stop fits other e = elim (stopped octets stop fits e) [ inl p ↦ p | inr f ↦ absurd (other f.0 f.1) ]

    short_again : (octets : List ℕ) (left : ℕ) (x : A) → IsOctets octets → format.Wide x
        → Cuts (format.fields x) octets left → ((stop : Stop) → Passes format octets stop → ⊥)
        → read octets ≡ Err (Short left)
    short_again octets left x fits is_wide cut none =
        let s = limited.codec.cut x octets left is_wide cut in
        elim s.1 [
          | inl is ↦ s.2 ∙ ap (λ e. Err e) is
          | inr l ↦
              absurd (none s.0 (limited.passed octets s.0 fits l s.2))
        ]

    -- no more is left than there was
    pub rest_within : (octets : List ℕ) (x : A) (rest : List ℕ) → IsOctets octets → read octets ≡ Ok (x, rest)
        → length rest ≤ length octets
    rest_within octets x rest fits e =
        omega (arith, ap length (takes octets x rest fits e).1, length-append (spelling format x) rest)

    left_within : (octets : List ℕ) (left : ℕ) → IsOctets octets → read octets ≡ Err (Short left) → left ≤ length octets
    left_within octets left fits e =
        let t = short octets left fits e in
        cuts_within (format.fields t.0) octets left t.2

    pub error_within : (octets : List ℕ) (e : ReadError) → IsOctets octets → FailsAs e (read octets)
        → LeavesWithin (length octets) e
    error_within octets (Stopped (Short left)) fits f = left_within octets left fits f
    error_within octets e fits f = tt

    -- ---- the answer

    read_means : (octets : List ℕ) (r : Read A) → IsOctets octets → read octets ≡ r
        → Means format octets (answer_of octets r)
    read_means octets (Ok (x, [])) fits e =
        let t = takes octets x [] fits e in
        (t.0, t.1 ∙ append-nil (spelling format x))
    read_means octets (Ok (x, y ∷ rest)) fits e =
        let t = takes octets x (y ∷ rest) fits e in
        (x, t.0, y ∷ rest, omega arith, t.1, omega (arith, ap length t.1, length-append (spelling format x) (y ∷ rest)))
    read_means octets (Err (Short left)) fits e =
        let t = short octets left fits e in
        let apart : (stop : Stop) → Passes format octets stop → stop ≡ Short left =
        λ stop p. err_is stop (Short left) (sym (limited.stops octets stop p) ∙ e) in (
          λ p. (not_short TooMany left (apart TooMany p)).0 refl,
          λ index p. (not_short (Twice index) left (apart (Twice index) p)).1 index refl,
          (t.0, t.1, ends_from_cuts (format.fields t.0) octets left t.2),
        )
    read_means octets (Err TooMany) fits e = passes octets TooMany fits (λ left h. cc) e
    read_means octets (Err (Twice index)) fits e = passes octets (Twice index) fits (λ left h. cc) e

    pub answer_means : (octets : List ℕ) → IsOctets octets → Means format octets (answer_of octets (read octets))
    answer_means octets fits = read_means octets (read octets) fits refl

    trailing_answer : (octets : List ℕ) (x : A) (rest : List ℕ) → 0 < length rest
        → answer_of octets (Ok (x, rest)) ≡ Err (Trailing (length octets - length rest))
    trailing_answer octets x [] h = absurd (omega arith)
    trailing_answer octets x (y ∷ rest) h = refl

    none_passed : (octets : List ℕ) → (format.HasTooManyServers octets → ⊥)
        → ((index : ℕ) → format.HasIndexTwice octets index → ⊥) → (stop : Stop) → Passes format octets stop → ⊥
    none_passed octets few once (Short left) p = p
    none_passed octets few once TooMany p = few p
    none_passed octets few once (Twice index) p = once index p

    -- what is true of the octets is the answer
    pub means_answer : (octets : List ℕ) (other : Result A RecordFault) → Means format octets other
        → Agrees (answer_of octets (read octets)) other
    means_answer octets (Ok x) m =
        let e : answer_of octets (read octets) ≡ Ok x =
        ap (answer_of octets) (ap read (m.1 ∙ sym (append-nil (spelling format x))) ∙ limited.codec.again x [] m.0) in
        rw e refl
    means_answer octets (Err (Truncated at)) m =
        let x = m.2 in
        let fits : IsOctets octets =
        IsOctets-front octets x.2.more (subst IsOctets x.2.prefix (limited.codec.octets x.0 x.1)) in
        let back : length octets - (length octets - at) ≡ at = omega (arith, x.2.there) in
        let e : answer_of octets (read octets) ≡ Err (Truncated at) =
        ap (answer_of octets)
        (short_again octets (length octets - at) x.0 fits x.1 (cuts_from_ends (format.fields x.0) octets at x.2)
        (none_passed octets m.0 m.1)) ∙ ap (λ (k : ℕ). Err (Truncated k)) back in
        rw e refl
    means_answer octets (Err (Trailing at)) m =
        let back : length octets - length m.2 ≡ at =
        omega (arith, ap length m.4, length-append (spelling format m.0) m.2, m.5) in
        let e : answer_of octets (read octets) ≡ Err (Trailing at) =
        ap (answer_of octets) (ap read m.4 ∙ limited.codec.again m.0 m.2 m.1) ∙ trailing_answer octets m.0 m.2 m.3
        ∙ ap (λ (k : ℕ). Err (Trailing k)) back in
        rw e refl
    means_answer octets (Err TooManyServers) m =
        let e : answer_of octets (read octets) ≡ Err TooManyServers =
        ap (answer_of octets) (limited.stops octets TooMany m) in
        rw e refl
    means_answer octets (Err (IndexTwice index)) m =
        let e : answer_of octets (read octets) ≡ Err (IndexTwice index) =
        ap (answer_of octets) (limited.stops octets (Twice index) m) in
        rw e refl
    means_answer octets (Err OutOfMemory) m = agrees_with_none (answer_of octets (read octets))

    -- ---- from what a call answered

    pub means : (octets : List ℕ) (r : Result A RecordFault) → IsOctets octets
        → GivesUnless OutOfMemory (λ x. x) r (answer_of octets (read octets)) → Means format octets r
    means octets (Ok x) fits a = subst (Means format octets) a (answer_means octets fits)
    means octets (Err e) fits (inl ran_out) = rw ran_out tt
    means octets (Err e) fits (inr a) = subst (Means format octets) a (answer_means octets fits)

    agrees : (r answer other : Result A RecordFault) → GivesUnless OutOfMemory (λ x. x) r answer → Agrees answer other
        → Agrees r other
    agrees (Ok x) answer other a h = subst (λ (q : Result A RecordFault). Agrees q other) a h
    agrees (Err e) answer other (inl ran_out) h = rw ran_out tt
    agrees (Err e) answer other (inr a) h = subst (λ (q : Result A RecordFault). Agrees q other) a h

    pub only : (octets : List ℕ) (r other : Result A RecordFault)
        → GivesUnless OutOfMemory (λ x. x) r (answer_of octets (read octets)) → Means format octets other
        → Agrees r other
    only octets r other a m = agrees r (answer_of octets (read octets)) other a (means_answer octets other m)

    -- ---- laws

    pub nothing_after : HasNothingAfter format
    nothing_after x y after other hx hy e =
        let p : A × List ℕ = (x, after) in
        let q : A × List ℕ = (y, other) in
        let same : p ≡ q =
        ok_is p q (sym (limited.codec.again x after hx) ∙ ap read e ∙ limited.codec.again y other hy) in
        (ap (λ (k : A × List ℕ). k.0) same, ap (λ (k : A × List ℕ). k.1) same)

    pub one_spelling : HasOneSpelling format
    one_spelling x y hx hy e = (nothing_after x y [] [] hx hy (ap (λ (o : List ℕ). o ++ []) e)).0

    pub one_answer : HasOneAnswer format
    one_answer octets a b had has m k =
        let never = not_memory octets (read octets) in
        sym (agreed (answer_of octets (read octets)) a never had (means_answer octets a m))
        ∙ agreed (answer_of octets (read octets)) b never has (means_answer octets b k)
