-- What is known of a peer, and what events make of it.
use Rattle.std.specs.Prelude.{◌≡◌, ◌⊎◌, ⊤, ℕ, true, List, [], ◌∷◌, ◌++◌, Option, None, Some, take}
use Rattle.std.specs.Borrow.{GName}
use Rattle.std.specs.Io.KnownBytes.{Appends, Consumes, IsAtEnd}
use Rattle.hsp_talk.specs.Talk.{Event, has_ended, reads_in, received_in, sent_in}
use Rattle.hsp_talk.specs.Talk.Event.{sent}

-- What is known of a peer, as far as it is: the events so far; what each read gave; the octets that are still to come;
-- all octets that were written, and those that were handed on; and the name of a writer that is lent.
pub record Known : Type 0 where
  pub events : Option (List Event)
  pub reads : Option (List (List ℕ))
  pub coming : Option (List ℕ)
  pub written : Option (List ℕ)
  pub handed : Option (List ℕ)
  pub lent : Option GName

-- nothing is known
abbrev pub unknown : Known
unknown = record { events = None; reads = None; coming = None; written = None; handed = None; lent = None }

-- a list that is known goes on by some more
abbrev pub AreMore : {X : Type 0} → Option (List X) → Option (List X) → List X → Type 0
AreMore None new more = ⊤
AreMore (Some old) None more = ⊥
AreMore (Some old) (Some new) more = new ≡ old ++ more

-- no octets come behind an end, where it was known which come
abbrev pub HasNoMore : Option (List ℕ) → Option (List ℕ) → Type 0
HasNoMore None new = ⊤
HasNoMore (Some old) new = IsAtEnd new

-- Some events happened at a peer: they are added to those that are known, each of their reads is one read, the octets
-- that they received had still to come, none come behind an end, and the octets that they sent were written.
pub record GoesOn (old new : Known) (more : List Event) : Type 0 where
  pub added : AreMore old.events new.events more
  pub read : AreMore old.reads new.reads (reads_in more)
  pub came : Consumes old.coming new.coming (received_in more)
  pub at_end : has_ended more ≡ true → HasNoMore old.coming new.coming
  pub went : Appends old.written new.written (sent_in more)
  pub same : new.lent ≡ old.lent

-- the events by which octets are sent: none where there are no octets
abbrev pub sending : List ℕ → List Event
sending [] = []
sending (octet ∷ octets) = sent (octet ∷ octets) ∷ []

-- a send that failed: some of the first octets may be sent
abbrev pub SendsSome : Known → Known → List ℕ → Type 0
SendsSome old new octets = (count : ℕ) × GoesOn old new (sending (take count octets))

-- events of which this holds happened at a peer
abbrev pub Went : Known → Known → (List Event → Type 0) → Type 0
Went old new Holds = (events : List Event) × GoesOn old new events × Holds events

-- nothing was written, and nothing handed on
pub record IsUnwritten (old new : Known) : Type 0 where
  pub written : new.written ≡ old.written
  pub handed : new.handed ≡ old.handed

-- nothing was written, or all that was written is handed on
abbrev pub IsHandedOn : Known → Known → Type 0
IsHandedOn old new = IsUnwritten old new ⊎ (new.handed ≡ new.written)
