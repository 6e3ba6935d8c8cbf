-- A talk that goes on, turn by turn.
use Rattle.std.proofs.Common.{◌≡◌, ◌+◌, inl, inr, ℕ, Bool, true, false, true≢false, List, [], ◌∷◌, ◌++◌, length, take}
use Rattle.std.proofs.Common.{Option, Some, None, Result, Ok, Err, OnOk, IfErr, refl, ap, sym, ◌∙◌, subst, append_assoc}
use Rattle.std.proofs.Common.{append-nil, take-append-drop, drop}
use Rattle.std.proofs.Math.Seq.{take-append_seam}
use Rattle.std.specs.List.{concat}
use Rattle.std.proofs.lemmas.List.{length-append}
use Rattle.std.proofs.lemmas.List.Folds.{concat-append}
use Rattle.std.proofs.KnownBytes.{Appends-nil, Appends-trans, Consumes-nil, Consumes-trans}
use Rattle.std.specs.Io.KnownBytes.{Appends, Consumes}
use Rattle.hsp_talk.specs.Known.{AreMore, GoesOn, HasNoMore, IsHandedOn, Known, SendsSome, Went, sending}
use Rattle.hsp_talk.specs.Talk.{AreTaken, Event, HeldToTheEnd, IsPrompt, RefusesRow, StoppedBy, TakesRow, Took, cut}
use Rattle.hsp_talk.specs.Talk.{has_ended, last_line, reads_in, received_in, rows_in, rows_of, sent_in, whole_lines}
use Rattle.hsp_talk.specs.Talk.Event.{received, sent}
use Rattle.hsp_talk.specs.Turns.{AreCut, AreOwed, IsAt, IsRefused, StandsSo, rows_ended_by}
use Rattle.hsp_talk.specs.Refusals.{stop_by}
use Rattle.hsp_talk.specs.declared.stop.Refusal.{Refusal}
use Rattle.hsp_talk.specs.declared.stop.Refusal.TheVariants as refusal
use Rattle.hsp_talk.specs.declared.stop.Stop.TheVariants as stop
use Rattle.hsp_talk.proofs.Rows.{as_many, cut_none, cut_twice, ended_so, last_so, last_then, lines_then, rows_of-append}
use Rattle.hsp_talk.proofs.Rows.{taken_then}

-- ---- events

-- no element stands in an empty list
not_within : {X : Type 0} (x : X) (xs ys : List X) → [] ≡ xs ++ x ∷ ys → ⊥
not_within x [] ys e = cc
not_within x (y ∷ xs) ys e = cc

abbrev is_sent : Event → Bool
is_sent (received octets) = false
is_sent (sent octets) = true

-- what is received in two runs of events stands one after the other
pub received_then : (events more : List Event) → received_in (events ++ more) ≡ received_in events ++ received_in more
received_then [] more = refl
received_then (received octets ∷ events) more =
    ap (λ r. octets ++ r) (received_then events more)
    ∙ sym (append_assoc octets (received_in events) (received_in more))
received_then (sent octets ∷ events) more = received_then events more

-- what is sent in two runs of events stands one after the other
pub sent_then : (events more : List Event) → sent_in (events ++ more) ≡ sent_in events ++ sent_in more
sent_then [] more = refl
sent_then (received octets ∷ events) more = sent_then events more
sent_then (sent octets ∷ events) more =
    ap (λ r. octets ++ r) (sent_then events more) ∙ sym (append_assoc octets (sent_in events) (sent_in more))

-- the reads of two runs of events stand one after the other
reads_then : (events more : List Event) → reads_in (events ++ more) ≡ reads_in events ++ reads_in more
reads_then [] more = refl
reads_then (received octets ∷ events) more = ap (λ r. octets ∷ r) (reads_then events more)
reads_then (sent octets ∷ events) more = reads_then events more

-- whether a talk has ended by what comes after it
pub ended_then : (events more : List Event) → has_ended events ≡ false → has_ended (events ++ more) ≡ has_ended more
ended_then [] more e = refl
ended_then (received [] ∷ events) more e = absurd (true≢false e)
ended_then (received (octet ∷ octets) ∷ events) more e = ended_then events more e
ended_then (sent octets ∷ events) more e = ended_then events more e

-- sending does not end a talk
ended_as : (events : List Event) (octets : List ℕ) → has_ended (events ++ sent octets ∷ []) ≡ has_ended events
ended_as [] octets = refl
ended_as (received [] ∷ events) octets = refl
ended_as (received (octet ∷ more) ∷ events) octets = ended_as events octets
ended_as (sent more ∷ events) octets = ended_as events octets

-- ---- what is known of a peer

-- two additions make one
more_then : {X : Type 0} (a b c : Option (List X)) (xs ys : List X) → AreMore a b xs → AreMore b c ys
    → AreMore a c (xs ++ ys)
more_then (Some a) (Some b) (Some c) xs ys f g = g ∙ ap (λ e. e ++ ys) f ∙ append_assoc a xs ys
more_then a b c xs ys f g = search

-- only a read of nothing ends a talk
none_received : (octets : List ℕ) → has_ended (received octets ∷ []) ≡ true → octets ≡ []
none_received [] e = refl
none_received (x ∷ octets) e = absurd (true≢false (sym e))

-- sending receives nothing
received_by : (octets : List ℕ) → received_in (sending octets) ≡ []
received_by [] = refl
received_by (x ∷ octets) = refl

-- sending reads nothing
read_by : (octets : List ℕ) → reads_in (sending octets) ≡ []
read_by [] = refl
read_by (x ∷ octets) = refl

-- sending ends no talk
never_ended : (octets : List ℕ) → has_ended (sending octets) ≡ false
never_ended [] = refl
never_ended (x ∷ octets) = refl

-- the octets that are handed on are sent
sent_by : (octets : List ℕ) → sent_in (sending octets) ≡ octets
sent_by [] = refl
sent_by (x ∷ octets) = append-nil (x ∷ octets)

-- nothing was added yet
none_added : {X : Type 0} (a : Option (List X)) → AreMore a a []
none_added None = tt
none_added (Some a) = sym (append-nil a)

-- nothing is left of nothing
none_left : (xs ys : List ℕ) → [] ≡ xs ++ ys → ys ≡ []
none_left [] ys e = sym e
none_left (x ∷ xs) ys e = absurd cc

-- octets that do not come behind an end do not come later
none_later : (a b c : Option (List ℕ)) (xs ys : List ℕ) → Consumes a b xs → Consumes b c ys → HasNoMore a b
    → HasNoMore a c
none_later (Some a) (Some b) (Some c) xs ys f g end = none_left ys c (sym end ∙ g)
none_later a b c xs ys f g end = search

-- what has no more later had no more octets to come
none_then : (a b c : Option (List ℕ)) (xs : List ℕ) → Consumes a b xs → HasNoMore b c → HasNoMore a c
none_then (Some a) (Some b) c xs f end = end
none_then a b c xs f end = search

-- a peer of which only the octets are known
pub octets_come : (old new : Known) (octets : List ℕ) → old.events ≡ None → AreMore old.reads new.reads (octets ∷ [])
    → Consumes old.coming new.coming octets → (octets ≡ [] → HasNoMore old.coming new.coming) →
    new.written ≡ old.written → new.lent ≡ old.lent → GoesOn old new (received octets ∷ [])
octets_come old new octets unknown read came at_end kept same = record {
  added = rw unknown tt;
  read = read;
  came = subst (Consumes old.coming new.coming) (sym (append-nil octets)) came;
  at_end = λ ended. at_end (none_received octets ended);
  went = rw kept (Appends-nil old.written);
  same = same;
}

-- a peer of which only the octets are known goes on by sending them
pub octets_go : (old new : Known) (octets : List ℕ) → old.events ≡ None → new.reads ≡ old.reads
    → new.coming ≡ old.coming → Appends old.written new.written octets →
    new.lent ≡ old.lent → GoesOn old new (sending octets)
octets_go old new octets unknown read kept went same = record {
  added = rw unknown tt;
  read = rw (read, read_by octets) (none_added old.reads);
  came = rw kept (subst (Consumes old.coming old.coming) (sym (received_by octets)) (Consumes-nil old.coming));
  at_end = λ ended. absurd (true≢false (sym ended ∙ never_ended octets));
  went = subst (Appends old.written new.written) (sym (sent_by octets)) went;
  same = same;
}

-- where nothing happens, the peer stays
pub none_goes : (at : Known) → GoesOn at at []
none_goes at = record {
  added = none_added at.events;
  read = none_added at.reads;
  came = Consumes-nil at.coming;
  at_end = λ ended. absurd (true≢false (sym ended));
  went = Appends-nil at.written;
  same = refl;
}

-- events happen after events
pub goes_then : (a b c : Known) (xs ys : List Event) → GoesOn a b xs → GoesOn b c ys → GoesOn a c (xs ++ ys)
goes_then a b c xs ys f g = record {
  added = more_then a.events b.events c.events xs ys f.added g.added;
  read =
      subst (AreMore a.reads c.reads) (sym (reads_then xs ys))
      (more_then a.reads b.reads c.reads (reads_in xs) (reads_in ys) f.read g.read);
  came =
      subst (Consumes a.coming c.coming) (sym (received_then xs ys))
      (Consumes-trans a.coming b.coming c.coming (received_in xs) (received_in ys) f.came g.came);
  at_end = λ ended. elim (has_ended xs) as (λ h. has_ended xs ≡ h → HasNoMore a.coming c.coming) [
    | true ↦ λ t. none_later a.coming b.coming c.coming (received_in xs) (received_in ys) f.came g.came (f.at_end t)
    | false ↦
        λ n. none_then a.coming b.coming c.coming (received_in xs) f.came (g.at_end (sym (ended_then xs ys n) ∙ ended))
  ] refl;
  went =
      subst (Appends a.written c.written) (sym (sent_then xs ys))
      (Appends-trans a.written b.written c.written (sent_in xs) (sent_in ys) f.went g.went);
  same = g.same ∙ f.same;
}

-- so many reads were made
abbrev pub HasRead : ℕ → List Event → Type 0
HasRead count events = length (reads_in events) ≡ count

-- nothing was read yet
pub none_read : (at : Known) → Went at at (HasRead 0)
none_read at = ([], none_goes at, refl)

-- a turn has one read
pub one_more_read : (start old now new : Known) (count : ℕ) (piece owed : List ℕ) → Went start old (HasRead count)
    → GoesOn old now (received piece ∷ []) → GoesOn now new (sending owed) →
    Went start new (HasRead (count + 1))
one_more_read start old now new count piece owed (events, goes, so) read sends =
    let one = received piece ∷ [] in (
      events ++ one ++ sending owed,
      goes_then start now new (events ++ one) (sending owed) (goes_then start old now events one goes read) sends,
      ap length (reads_then (events ++ one) (sending owed) ∙ ap (λ r. reads_in (events ++ one) ++ r) (read_by owed)
          ∙ append-nil (reads_in (events ++ one)) ∙ reads_then events one)
          ∙ length-append (reads_in events) (piece ∷ []) ∙ ap (λ n. n + 1) so,
    )

-- ---- what is handed on

-- with nothing written, all is handed on
pub none_written : (at : Known) → IsHandedOn at at
none_written at = inl (record { written = refl; handed = refl })

-- what is handed on twice is handed on
pub handed_then : (start old new : Known) → IsHandedOn start old → IsHandedOn old new → IsHandedOn start new
handed_then start old new so (inr all) = inr all
handed_then start old new (inl none) (inl kept) =
    inl (record { written = kept.written ∙ none.written; handed = kept.handed ∙ none.handed })
handed_then start old new (inr all) (inl kept) = inr (kept.handed ∙ all ∙ sym kept.written)

-- ---- rows

-- the rows that have come in, by whether a talk has ended and what it received
abbrev rows_by : Bool → List ℕ → List (List ℕ)
rows_by false octets = rows_of (whole_lines [] octets ++ [])
rows_by true octets = rows_of (whole_lines [] octets ++ last_line [] octets ∷ [])

-- the rows of events go by what was received and by whether it ended
rows_are : (events : List Event) (ended : Bool) → has_ended events ≡ ended
    → rows_in events ≡ rows_by ended (received_in events)
rows_are events false e = rw e refl
rows_are events true e = rw e refl

-- before the end, rows are the lines that ended
rows_before_end : (events : List Event) → has_ended events ≡ false
    → rows_in events ≡ rows_of (whole_lines [] (received_in events))
rows_before_end events e = rows_are events false e ∙ ap rows_of (append-nil (whole_lines [] (received_in events)))

-- the rows that a piece ends come in
pub rows_then : (events : List Event) (piece : List ℕ) → has_ended events ≡ false →
    rows_in (events ++ received piece ∷ []) ≡ rows_in events ++ rows_ended_by (last_line [] (received_in events)) piece
rows_then events [] e =
    let octets = received_in events in
    let same : received_in (events ++ received [] ∷ []) ≡ octets =
    received_then events (received [] ∷ []) ∙ append-nil octets in
    rows_are (events ++ received [] ∷ []) true (ended_then events (received [] ∷ []) e) ∙ ap (rows_by true) same
    ∙ rows_of-append (whole_lines [] octets) (last_line [] octets ∷ [])
    ∙ ap (λ r. r ++ rows_of (last_line [] octets ∷ [])) (sym (rows_before_end events e))
rows_then events (c ∷ piece) e =
    let octets = received_in events in
    let all : received_in (events ++ received (c ∷ piece) ∷ []) ≡ octets ++ c ∷ piece =
    received_then events (received (c ∷ piece) ∷ []) ∙ ap (λ p. octets ++ p) (append-nil (c ∷ piece)) in
    rows_before_end (events ++ received (c ∷ piece) ∷ []) (ended_then events (received (c ∷ piece) ∷ []) e)
    ∙ ap (λ o. rows_of (whole_lines [] o)) all
    ∙ ap rows_of (lines_then [] octets (c ∷ piece))
    ∙ rows_of-append (whole_lines [] octets) (whole_lines (last_line [] octets) (c ∷ piece))
    ∙ ap (λ r. r ++ rows_of (whole_lines (last_line [] octets) (c ∷ piece))) (sym (rows_before_end events e))

-- sending adds nothing to what was received
received_as : (events : List Event) (octets : List ℕ) → received_in (events ++ sent octets ∷ []) ≡ received_in events
received_as events octets = received_then events (sent octets ∷ []) ∙ append-nil (received_in events)

-- a send brings no rows
rows_as : (events : List Event) (octets : List ℕ) → rows_in (events ++ sent octets ∷ []) ≡ rows_in events
rows_as events octets =
    rows_are (events ++ sent octets ∷ []) (has_ended events) (ended_as events octets)
    ∙ ap (rows_by (has_ended events)) (received_as events octets)
    ∙ sym (rows_are events (has_ended events) refl)

-- sending adds its octets to what was sent
sent_as : (events : List Event) (octets : List ℕ) → sent_in (events ++ sent octets ∷ []) ≡ sent_in events ++ octets
sent_as events octets = sent_then events (sent octets ∷ []) ∙ ap (λ s. sent_in events ++ s) (append-nil octets)

-- a read sends nothing
sent_by_read : (events : List Event) (octets : List ℕ) → sent_in (events ++ received octets ∷ []) ≡ sent_in events
sent_by_read events octets = sent_then events (received octets ∷ []) ∙ append-nil (sent_in events)

-- ---- promptness

-- what holds before each read, when one event more has come
reads_more : (P : List Event → Type 0) (events : List Event) (event : Event) →
    ((before after : List Event) (octets : List ℕ) → events ≡ before ++ received octets ∷ after → P before)
    → ((octets : List ℕ) → event ≡ received octets → P events) →
    (before after : List Event) (octets : List ℕ) → events ++ event ∷ [] ≡ before ++ received octets ∷ after → P before
reads_more P [] event each last [] after octets e = last octets cc
reads_more P [] event each last (b ∷ before) after octets e =
    let rest : [] ≡ before ++ received octets ∷ after = cc in absurd (not_within (received octets) before after rest)
reads_more P (x ∷ events) event each last [] after octets e =
    let same : x ≡ received octets = cc in each [] events octets (ap (λ y. y ∷ events) same)
reads_more P (x ∷ events) event each last (b ∷ before) after octets e =
    let same : x ≡ b = cc in
    let rest : events ++ event ∷ [] ≡ before ++ received octets ∷ after = cc in
    subst (λ y. P (y ∷ before)) same
    (reads_more (λ l. P (x ∷ l)) events event
    (λ before after octets so. each (x ∷ before) after octets (ap (λ l. x ∷ l) so)) last before after octets rest)

-- a talk that owes nothing stays prompt by a read
pub prompt_read : (answers : List (List ℕ)) (events : List Event) (piece : List ℕ) → IsPrompt answers events →
    (sent_in events ≡ concat (take (length (rows_in events)) answers)) × (has_ended events ≡ false)
    → IsPrompt answers (events ++ received piece ∷ [])
prompt_read answers events piece each due =
    reads_more
    (λ before. (sent_in before ≡ concat (take (length (rows_in before)) answers)) × (has_ended before ≡ false))
    events (received piece) each (λ octets e. due)

-- a talk stays prompt by sending
pub prompt_sent : (answers : List (List ℕ)) (events : List Event) (octets : List ℕ) → IsPrompt answers events
    → IsPrompt answers (events ++ sent octets ∷ [])
prompt_sent answers events octets each =
    reads_more
    (λ before. (sent_in before ≡ concat (take (length (rows_in before)) answers)) × (has_ended before ≡ false))
    events (sent octets) each
    (λ piece e. absurd (true≢false (ap is_sent e)))

-- ---- turns

module _ {D : Type 0} (Takes : TakesRow D) (first : D) where
  -- the first rows that came in were taken, and `owed` is what of their answers was not sent
  record Owing (at : D) (events : List Event) (owed : List ℕ) (later : List (List ℕ)) : Type 0 where
    pub rows : List (List ℕ)
    pub answers : List (List ℕ)
    pub came : rows_in events ≡ rows ++ later
    pub taken : AreTaken Takes first rows at answers
    pub prompt : (more : List (List ℕ)) → IsPrompt (answers ++ more) events
    pub owing : concat answers ≡ sent_in events ++ owed

  abbrev took : (at : D) (events : List Event) (owed : List ℕ) (later : List (List ℕ)) → Owing at events owed later
      → Took Takes first at events
  took at events owed later so = record {
    rows = so.rows;
    answers = so.answers;
    later = later;
    came = so.came;
    taken = so.taken;
    prompt = subst (λ a. IsPrompt a events) (append-nil so.answers) (so.prompt []);
  }

  -- a piece came in, and rows that it ended were taken
  after_read : (responder at : D) (line piece : List ℕ) (events : List Event) (owed : List ℕ)
      (rows later : List (List ℕ)) →
      StandsSo Takes first responder line events → rows_ended_by line piece ≡ rows ++ later
      → AreOwed Takes responder at rows [] owed →
      Owing at (events ++ received piece ∷ []) owed later
  after_read responder at line piece events owed rows later so parted more =
      let due = λ (also : List (List ℕ)).
      so.all_sent ∙ ap concat (sym (take-append_seam so.answers also))
      ∙ ap (λ n. concat (take n (so.answers ++ also)))
      (sym (as_many Takes first (rows_in events) responder so.answers so.taken)) in
      record {
        rows = rows_in events ++ rows;
        answers = so.answers ++ more.0;
        came =
            rows_then events piece so.not_ended
            ∙ ap (λ r. rows_in events ++ r)
            (ended_so (last_line [] (received_in events)) line piece
            (sym (cut_twice (last_line [] (received_in events))) ∙ ap cut (sym so.begun)))
            ∙ ap (λ r. rows_in events ++ r) parted
            ∙ sym (append_assoc (rows_in events) rows later);
        taken = taken_then Takes first (rows_in events) responder so.answers rows at more.0 so.taken more.1;
        prompt = λ also.
            subst (λ a. IsPrompt a (events ++ received piece ∷ [])) (sym (append_assoc so.answers more.0 also))
            (prompt_read (so.answers ++ (more.0 ++ also)) events piece (so.prompt (more.0 ++ also))
            (due (more.0 ++ also), so.not_ended));
        owing =
            concat-append so.answers more.0 ∙ ap (λ s. s ++ concat more.0) (sym so.all_sent)
            ∙ ap (λ s. s ++ concat more.0) (sym (sent_by_read events piece))
            ∙ ap (λ o. sent_in (events ++ received piece ∷ []) ++ o) (sym more.2);
      }

  -- some of what is owed is sent
  abbrev after_send : (at : D) (events : List Event) (octets left : List ℕ) (later : List (List ℕ))
      → Owing at events (octets ++ left) later →
      Owing at (events ++ sent octets ∷ []) left later
  after_send at events octets left later so = record {
    rows = so.rows;
    answers = so.answers;
    came = rows_as events octets ∙ so.came;
    taken = so.taken;
    prompt = λ more. prompt_sent (so.answers ++ more) events octets (so.prompt more);
    owing =
        so.owing ∙ sym (append_assoc (sent_in events) octets left) ∙ ap (λ s. s ++ left) (sym (sent_as events octets));
  }

  -- the same, where nothing may have to be sent
  abbrev after_sending : (at : D) (events : List Event) (octets left : List ℕ) (later : List (List ℕ))
      → Owing at events (octets ++ left) later →
      Owing at (events ++ sending octets) left later
  after_sending at events [] left later so = subst (λ e. Owing at e left later) (sym (append-nil events)) so
  after_sending at events (c ∷ octets) left later so = after_send at events (c ∷ octets) left later so

  -- all that is owed is sent
  after_all : (at : D) (events : List Event) (owed : List ℕ) (later : List (List ℕ)) → Owing at events owed later
      → Owing at (events ++ sending owed) [] later
  after_all at events owed later so =
      after_sending at events owed [] later (subst (λ o. Owing at events o later) (sym (append-nil owed)) so)

  -- where no octets are owed, all answers were sent
  none_owing : (at : D) (events : List Event) (later : List (List ℕ)) (so : Owing at events [] later)
      → sent_in events ≡ concat so.answers
  none_owing at events later so = sym (so.owing ∙ append-nil (sent_in events))

  -- sending what is owed does not end a talk
  ended_by_all : (events : List Event) (owed : List ℕ) → has_ended (events ++ sending owed) ≡ has_ended events
  ended_by_all events [] = ap has_ended (append-nil events)
  ended_by_all events (c ∷ owed) = ended_as events (c ∷ owed)

  -- sending what is owed receives nothing
  received_by_all : (events : List Event) (owed : List ℕ) → received_in (events ++ sending owed) ≡ received_in events
  received_by_all events [] = ap received_in (append-nil events)
  received_by_all events (c ∷ owed) = received_as events (c ∷ owed)

  -- ---- talks, from what is known before them

  -- no more octets come, and nothing was owed
  pub talk_ends : (responder at : D) (line piece before owed : List ℕ) (start old now new : Known) → piece ≡ []
      → before ≡ []
      → IsAt Takes first responder line start old →
      GoesOn old now (received piece ∷ []) → AreOwed Takes responder at (rows_ended_by line piece) before owed
      → GoesOn now new (sending owed) → Went start new (HeldToTheEnd Takes first at)
  talk_ends responder at line [] [] owed start old now new is_end none (events, goes, so) read more sends =
      let piece = received [] ∷ [] in
      let owing =
      after_all at (events ++ piece) owed []
      (after_read responder at line [] events owed (rows_ended_by line []) [] so
      (sym (append-nil (rows_ended_by line []))) more) in (
        events ++ piece ++ sending owed,
        goes_then start now new (events ++ piece) (sending owed) (goes_then start old now events piece goes read) sends,
        (
          took at (events ++ piece ++ sending owed) [] [] owing,
          refl,
          none_owing at (events ++ piece ++ sending owed) [] owing,
          ended_by_all (events ++ piece) owed ∙ ended_then events piece so.not_ended,
        ),
      )
  talk_ends responder at line piece before owed start old now new is_end none so read more sends = absurd cc

  -- a turn ends, and the next read may come
  pub talk_goes_on : (responder at : D) (line piece next owed : List ℕ) (start old now new : Known)
      → (length piece ≡ 0 → ⊥)
      → IsAt Takes first responder line start old →
      GoesOn old now (received piece ∷ []) → AreOwed Takes responder at (rows_ended_by line piece) [] owed
      → next ≡ cut (last_line line piece) → GoesOn now new (sending owed) →
      IsAt Takes first at next start new
  talk_goes_on responder at line [] next owed start old now new some so read more begun sends = absurd (some refl)
  talk_goes_on responder at line (c ∷ octets) next owed start old now new some (events, goes, so) read more begun
      sends =
      let piece = received (c ∷ octets) ∷ [] in
      let rows = rows_ended_by line (c ∷ octets) in
      let owing =
      after_all at (events ++ piece) owed []
      (after_read responder at line (c ∷ octets) events owed rows [] so (sym (append-nil rows)) more) in (
        events ++ piece ++ sending owed,
        goes_then start now new (events ++ piece) (sending owed) (goes_then start old now events piece goes read) sends,
        record {
          answers = owing.answers;
          taken =
              subst (λ r. AreTaken Takes first r at owing.answers) (sym (owing.came ∙ append-nil owing.rows))
              owing.taken;
          all_sent = none_owing at (events ++ piece ++ sending owed) [] owing;
          prompt = owing.prompt;
          not_ended = ended_by_all (events ++ piece) owed ∙ ended_then events piece so.not_ended;
          begun =
              begun
              ∙ last_so line (last_line [] (received_in events)) (c ∷ octets)
              (ap cut so.begun ∙ cut_twice (last_line [] (received_in events)))
              ∙ ap cut (sym (last_then [] (received_in events) (c ∷ octets)))
              ∙ ap (λ o. cut (last_line [] o))
              (ap (λ o. received_in events ++ o) (sym (append-nil (c ∷ octets))) ∙ sym (received_then events piece))
              ∙ ap (λ o. cut (last_line [] o)) (sym (received_by_all (events ++ piece) owed));
        },
      )

  -- a talk begins with nothing received and nothing owed
  pub talk_begins : (start : Known) → IsAt Takes first first [] start start
  talk_begins start = (
    [],
    none_goes start,
    record {
      answers = [];
      taken = refl;
      all_sent = refl;
      prompt = λ more before after octets so. absurd (not_within (received octets) before after so);
      not_ended = refl;
      begun = sym cut_none;
    },
  )

  module _ {F : Type 0} (Refuses : RefusesRow D F) where
    -- no further read gives octets
    pub no_more_turns : (responder : D) (line : List ℕ) (start old : Known) → IsAt Takes first responder line start old
        →
        Went start old (λ events. StoppedBy Takes Refuses first responder events stop.ReadFailed)
    no_more_turns responder line start old (events, goes, so) = (
      events,
      goes,
      (
        record {
          rows = rows_in events;
          answers = so.answers;
          later = [];
          came = sym (append-nil (rows_in events));
          taken = so.taken;
          prompt = subst (λ a. IsPrompt a events) (append-nil so.answers) (so.prompt []);
        },
        refl,
        so.all_sent,
      ),
    )

    -- a read fails
    pub read_fails : (responder : D) (line : List ℕ) (start old new : Known) → IsAt Takes first responder line start old
        → GoesOn old new [] →
        Went start new (λ events. StoppedBy Takes Refuses first responder events stop.ReadFailed)
    read_fails responder line start old new (events, goes, so) read =
        no_more_turns responder line start new
        (events, subst (GoesOn start new) (append-nil events) (goes_then start old new events [] goes read), so)

    -- a write fails after some rows were taken
    pub write_fails : (responder at last : D) (line piece owed : List ℕ) (rows later : List (List ℕ))
        (start old now new : Known) → IsAt Takes first responder line start old →
        GoesOn old now (received piece ∷ []) → rows_ended_by line piece ≡ rows ++ later
        → AreOwed Takes responder at rows [] owed → SendsSome now new owed →
        Went start new (λ events. StoppedBy Takes Refuses first last events stop.WriteFailed)
    write_fails responder at last line piece owed rows later start old now new (events, goes, so) read parted more
        sends =
        let came = events ++ received piece ∷ [] in
        let gone = take sends.0 owed in
        let left = drop sends.0 owed in
        let owing : Owing at (came ++ sending gone) left later = after_sending at came gone left later
        (subst (λ o. Owing at came o later) (sym (take-append-drop sends.0 owed))
        (after_read responder at line piece events owed rows later so parted more)) in (
          came ++ sending gone,
          goes_then start now new came (sending gone) (goes_then start old now events (received piece ∷ []) goes read)
              sends.1,
          (at, took at (came ++ sending gone) left later owing, left, owing.owing),
        )

    -- the same, whether a row was refused or not
    pub write_fails_after : (responder last : D) (line piece before owed : List ℕ)
        (taken : Result (Unit {0}) (Refusal F))
        (start old now new : Known) → before ≡ [] →
        IsAt Takes first responder line start old → GoesOn old now (received piece ∷ [])
        → OnOk taken (AreOwed Takes responder last (rows_ended_by line piece) before owed) →
        IfErr taken (AreCut Takes Refuses responder last (rows_ended_by line piece) before owed)
        → SendsSome now new owed →
        Went start new (λ events. StoppedBy Takes Refuses first last events stop.WriteFailed)
    write_fails_after responder last line piece before owed (Ok u) start old now new none so read more cut sends =
        let rows = rows_ended_by line piece in
        write_fails responder last last line piece owed rows [] start old now new so read (sym (append-nil rows))
        (subst (λ o. AreOwed Takes responder last rows o owed) none more) sends
    write_fails_after responder last line piece before owed (Err by) start old now new none so read more cut sends =
        let is = subst (λ o. AreCut Takes Refuses responder last (rows_ended_by line piece) o owed by) none cut in
        write_fails responder is.at last line piece owed is.rows is.later start old now new so read is.parted is.taken
        sends

    -- a row is refused, or memory runs out
    stopped : (at last : D) (events : List Event) (later : List (List ℕ)) (by : Refusal F)
        → IsRefused Refuses at later last by → Owing at events [] later →
        StoppedBy Takes Refuses first last events (stop_by by)
    stopped at last events later (refusal.Fault fault) refused owing = (
      at,
      took at events [] later owing,
      refused.0,
      refused.1,
      refused.2,
      refused.3,
      none_owing at events later owing,
    )
    stopped at last events later refusal.OutOfMemory refused owing =
        (at, took at events [] later owing, none_owing at events later owing)

    -- a row that is refused stops the talk, with the answers before it sent
    pub row_refused : (responder last : D) (line piece before owed : List ℕ) (by : Refusal F)
        (start old now new : Known)
        → before ≡ [] → IsAt Takes first responder line start old →
        GoesOn old now (received piece ∷ [])
        → AreCut Takes Refuses responder last (rows_ended_by line piece) before owed by
        → GoesOn now new (sending owed) →
        Went start new (λ events. StoppedBy Takes Refuses first last events (stop_by by))
    row_refused responder last line piece [] owed by start old now new none (events, goes, so) read cut sends =
        let came = events ++ received piece ∷ [] in (
          came ++ sending owed,
          goes_then start now new came (sending owed) (goes_then start old now events (received piece ∷ []) goes read)
              sends,
          stopped cut.at last (came ++ sending owed) cut.later by cut.refused
              (after_all cut.at came owed cut.later
              (after_read responder cut.at line piece events owed cut.rows cut.later so cut.parted cut.taken)),
        )
    row_refused responder last line piece (c ∷ before) owed by start old now new none so read cut sends = absurd cc
