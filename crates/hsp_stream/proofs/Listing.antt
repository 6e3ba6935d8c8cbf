-- Lists of faults as they are written.
use Rattle.std.proofs.Common.{◌≡◌, ◌∙◌, ◌+◌, ℕ, zero, suc, Bool, true, false, List, [], ◌∷◌, ◌++◌, length, take, Option}
use Rattle.std.proofs.Common.{Some, None, append_assoc, map, refl, sym, ap, arith, Result, Ok, Err, OnErr, IfOk}
use Rattle.std.proofs.Common.{OnOk}
use Rattle.std.specs.Prelude.{⊤}
use Rattle.std.proofs.lemmas.List.{append-nil}
use Rattle.std.specs.Io.KnownBytes.{Appends}
use Rattle.hsp_csv.specs.Places.{Placed, TakesPlaced}
use Rattle.hsp_csv.specs.declared.found.Checked.TheVariants.{Faulty, Good, Last}
use Rattle.hsp_csv.specs.declared.found.Found.{Found}
use Rattle.hsp_tables.specs.Faulty.{faulty_rows}
use Rattle.hsp_tables.specs.TableChecks.{faulty_behind}
use Rattle.hsp_tables.specs.declared.table_check.Held.{Held}
use Rattle.hsp_tables.specs.declared.table_check.Held.TheVariants as held
use Rattle.hsp_inputs.specs.declared.stream_fault.StreamFault.{StreamFault}
use Rattle.hsp_stream.specs.Checkers.{Lists, LooksAt}
use Rattle.hsp_stream.specs.Faulty.{named}
use Rattle.hsp_stream.specs.FaultLines.{line_of, lines_of}
use Rattle.hsp_stream.specs.Runs.{AreAll, AreFirst, Faults, IsBegun, RowsAreBegun, RowsAreListed, has_some}
use Rattle.hsp_stream.specs.declared.checker.Checker.{Checker}
use Rattle.hsp_stream.specs.declared.checker.Checker.TheVariants as checker

-- ---- lines

-- the lines of two parts of a list
lines_in_parts : (a b : Faults) → lines_of (a ++ b) ≡ lines_of a ++ lines_of b
lines_in_parts [] b = refl
lines_in_parts (found ∷ a) b =
    ap (λ (t : List ℕ). line_of found ++ t) (lines_in_parts a b)
    ∙ sym (append_assoc (line_of found) (lines_of a) (lines_of b))

-- the line of one more
lines_and_one : (a : Faults) (found : Found StreamFault) → lines_of (a ++ found ∷ []) ≡ lines_of a ++ line_of found
lines_and_one a found =
    lines_in_parts a (found ∷ []) ∙ ap (λ (t : List ℕ). lines_of a ++ t) (append-nil (line_of found))

-- a list with one more has some
some_with : (a : Faults) (found : Found StreamFault) → true ≡ has_some (a ++ found ∷ [])
some_with [] found = refl
some_with (first ∷ a) found = refl

-- ---- writing

-- nothing more was written
pub appends_none : (now : Option (List ℕ)) → Appends now now []
appends_none None = tt
appends_none (Some held) = sym (append-nil held)

-- one text was written behind another
pub appends_both : (old middle new : Option (List ℕ)) (a b : List ℕ) → Appends old middle a → Appends middle new b
    → Appends old new (a ++ b)
appends_both None middle new a b one two = tt
appends_both (Some x) None new a b one two = absurd one
appends_both (Some x) (Some y) None a b one two = absurd two
appends_both (Some x) (Some y) (Some z) a b one two = two ∙ rw one (append_assoc x a b)

-- a text and a beginning of what follows it are a beginning of both
take_both : (a b : List ℕ) (count : ℕ) → take (length a + count) (a ++ b) ≡ a ++ take count b
take_both [] b count = rw (zero_and count) refl
  where
    zero_and : (n : ℕ) → 0 + n ≡ n
    zero_and n = omega arith
take_both (x ∷ a) b count = rw (one_more (length a) count) (ap (λ (t : List ℕ). x ∷ t) (take_both a b count))
  where
    one_more : (n m : ℕ) → suc n + m ≡ suc (n + m)
    one_more n m = omega arith

-- a beginning behind a whole text is a beginning of both
pub begun_behind : (old middle new : Option (List ℕ)) (a b : List ℕ) → Appends old middle a → IsBegun middle new b
    → IsBegun old new (a ++ b)
begun_behind old middle new a b one (count, two) =
    (length a + count, rw (take_both a b count) (appends_both old middle new a (take count b) one two))

-- what was written whole is a beginning
pub begun_whole : (old new : Option (List ℕ)) (a : List ℕ) → Appends old new a → IsBegun old new a
begun_whole old new a wrote = (length a, rw (whole a) wrote)
  where
    whole : (t : List ℕ) → take (length t) t ≡ t
    whole [] = refl
    whole (x ∷ t) = ap (λ (s : List ℕ). x ∷ s) (whole t)

-- ---- lists

-- no records have no faults
none_listed : (now : Checker) → Lists now [] []
unfolding faulty_rows
none_listed (checker.Table kind rows) = none_of rows.held
  where
    none_of : (rest : Held) → [] ≡ map (named kind) (faulty_behind rest [])
    none_of (held.Demand kept) = refl
    none_of (held.Costs kept) = refl
    none_of (held.Capacity kept) = refl
none_listed (checker.Dispatched form row) = refl
none_listed (checker.Counted row regions) = refl
none_listed (checker.Handles row) = refl

-- some first records were taken, and others are left
abbrev pub AreTaken : Option (List Placed) → Option (List Placed) → List Placed → Type 0
AreTaken None left taken = ⊤
AreTaken (Some all) None taken = ⊥
AreTaken (Some all) (Some left) taken = all ≡ taken ++ left

-- the records that are left, where they are known
abbrev rest_of : Option (List Placed) → List Placed
rest_of None = []
rest_of (Some rest) = rest

-- a list as far as it has come
pub record SoFar (start now : Checker) (all left : Option (List Placed)) (old new : Option (List ℕ)) (some : Bool) :
    Type 0 where
  pub taken : List Placed
  pub found : Faults
  pub took : AreTaken all left taken
  pub leads : (more : List Placed) (rest : Faults) → Lists now more rest → Lists start (taken ++ more) (found ++ rest)
  pub wrote : Appends old new (lines_of found)
  pub tells : some ≡ has_some found

-- before the first row nothing is taken and nothing is written
pub begins : (start : Checker) (all : Option (List Placed)) (old : Option (List ℕ))
    → SoFar start start all all old old false
begins start all old =
    record {
      taken = [];
      found = [];
      took = none_taken all;
      leads = λ more rest lists. lists;
      wrote = appends_none old;
      tells = refl;
    }
  where
    none_taken : (all : Option (List Placed)) → AreTaken all all []
    none_taken None = tt
    none_taken (Some all) = refl

module _ (start now next : Checker) (all left after : Option (List Placed)) (old new : Option (List ℕ)) (some : Bool)
    (far : SoFar start now all left old new some) where
  -- what was taken are some first records
  first_of : (all left : Option (List Placed)) (taken : List Placed) → AreTaken all left taken → AreFirst all taken
  first_of None left taken took = tt
  first_of (Some all) None taken took = absurd took
  first_of (Some all) (Some left) taken took = (left, took)

  -- with what was taken the list stands so far
  lists_so_far : Lists start far.taken far.found
  lists_so_far =
      let whole = far.leads [] [] (none_listed now) in
      rw (append-nil far.taken, append-nil far.found) at whole

  -- it stops before the next record
  pub stops_here : RowsAreBegun start all old new
  stops_here =
      (far.taken, first_of all left far.taken far.took, far.found, lists_so_far, begun_whole old new _ far.wrote)

  -- no record was left
  pub ends_here : (one : Placed) → TakesPlaced left after false one → RowsAreListed start all old new some
  ends_here one none =
      (far.taken, whole_of all left after one far.taken far.took none, far.found, lists_so_far, far.wrote, far.tells)
    where
      whole_of : (all left after : Option (List Placed)) (one : Placed) (taken : List Placed) → AreTaken all left taken
          → TakesPlaced left after false one → AreAll all taken
      whole_of None left after one taken took none = tt
      whole_of (Some all) None after one taken took none = absurd took
      whole_of (Some all) (Some left) after one taken took none = took ∙ rw none (append-nil taken)

  module _ (one : Placed) (takes : TakesPlaced left after true one) where
    -- a further record was taken
    took_one : (all left after : Option (List Placed)) (one : Placed) (taken : List Placed) → AreTaken all left taken
        → TakesPlaced left after true one → AreTaken all after (taken ++ one ∷ [])
    took_one None left after one taken took takes = tt
    took_one (Some all) None after one taken took takes = absurd took
    took_one (Some all) (Some left) None one taken took takes = absurd takes
    took_one (Some all) (Some left) (Some after) one taken took takes =
        took ∙ rw takes (sym (append_assoc taken (one ∷ []) after))

    -- it has no fault
    pub goes_on : LooksAt now one next Good → SoFar start next all after old new some
    goes_on looks =
        record {
          taken = far.taken ++ one ∷ [];
          found = far.found;
          took = took_one all left after one far.taken far.took takes;
          leads = λ more rest lists.
              rw (append_assoc far.taken (one ∷ []) more) (far.leads (one ∷ more) rest (looks more rest lists));
          wrote = far.wrote;
          tells = far.tells;
        }

    module _ (found : Found StreamFault) (written : Option (List ℕ)) where
      -- the line of its fault was written
      wrote_one : Appends new written (line_of found) → Appends old written (lines_of (far.found ++ found ∷ []))
      wrote_one line = rw (lines_and_one far.found found) (appends_both old new written _ _ far.wrote line)

      -- a faulty row that is listed adds its line
      pub adds_line : LooksAt now one next (Faulty found) → Appends new written (line_of found)
          → SoFar start next all after old written true
      adds_line looks line =
          record {
            taken = far.taken ++ one ∷ [];
            found = far.found ++ found ∷ [];
            took = took_one all left after one far.taken far.took takes;
            leads = λ more rest lists.
                rw (append_assoc far.taken (one ∷ []) more, append_assoc far.found (found ∷ []) rest)
                (far.leads (one ∷ more) (found ∷ rest) (looks more (found ∷ rest) (rest, lists, refl)));
            wrote = wrote_one line;
            tells = some_with far.found found;
          }

      -- a beginning of its line was written
      begun_one : IsBegun new written (line_of found) → IsBegun old written (lines_of (far.found ++ found ∷ []))
      begun_one line = rw (lines_and_one far.found found) (begun_behind old new written _ _ far.wrote line)

      -- the rows up to this one are some first rows
      first_one : AreFirst all (far.taken ++ one ∷ [])
      first_one = first_of all after (far.taken ++ one ∷ []) (took_one all left after one far.taken far.took takes)

      -- a faulty row whose line was cut leaves a beginning of the list
      pub cuts_line : LooksAt now one next (Faulty found) → IsBegun new written (line_of found)
          → RowsAreBegun start all old written
      cuts_line looks line = (
        far.taken ++ one ∷ [],
        first_one,
        far.found ++ found ∷ [],
        far.leads (one ∷ []) (found ∷ []) (looks [] (found ∷ []) ([], none_listed next, refl)),
        begun_one line,
      )

      -- so does a last row whose line was cut
      pub cuts_last : LooksAt now one next (Last found) → IsBegun new written (line_of found)
          → RowsAreBegun start all old written
      cuts_last looks line = (
        far.taken ++ one ∷ [],
        first_one,
        far.found ++ found ∷ [],
        far.leads (one ∷ []) (found ∷ []) (looks [] (found ∷ []) refl),
        begun_one line,
      )

      -- a last fault ends the list, whatever is left
      pub ends_last : LooksAt now one next (Last found) → Appends new written (line_of found)
          → RowsAreListed start all old written true
      ends_last looks line =
          let rest = rest_of after in (
            far.taken ++ one ∷ rest,
            all_of all left after one far.taken far.took takes,
            far.found ++ found ∷ [],
            far.leads (one ∷ rest) (found ∷ []) (looks rest (found ∷ []) refl),
            wrote_one line,
            some_with far.found found,
          )
        where
          all_of : (all left after : Option (List Placed)) (one : Placed) (taken : List Placed)
              → AreTaken all left taken
              → TakesPlaced left after true one → AreAll all (taken ++ one ∷ rest_of after)
          all_of None left after one taken took takes = tt
          all_of (Some all) None after one taken took takes = absurd took
          all_of (Some all) (Some left) None one taken took takes = absurd takes
          all_of (Some all) (Some left) (Some after) one taken took takes = took ∙ rw takes refl

-- what holds at each stop holds at an answer that stops
pub at_stop : {A E : Type 0} {P : Type 0} (answer : Result A E) → P → OnErr answer P
at_stop (Ok x) holds = tt
at_stop (Err e) holds = holds

-- what holds at an answer that stops is so of more
pub stop_as : {A E : Type 0} {P Q : Type 0} (answer : Result A E) → (P → Q) → OnErr answer P → OnErr answer Q
stop_as (Ok x) so holds = tt
stop_as (Err e) so holds = so holds

-- what two clauses say of an answer that is whole
pub both_whole : {A E : Type 0} (P Q : A → Type 0) (W : Type 0) (answer : Result A E)
    → ((x : A) → P x → W → Q x) → IfOk answer P → OnOk answer W → IfOk answer Q
both_whole P Q W (Ok x) so one other = so x one other
both_whole P Q W (Err e) so one other = tt

-- a beginning of a text is one of it and of what follows
pub begun_of_more : (old new : Option (List ℕ)) (a b : List ℕ) → IsBegun old new a → IsBegun old new (a ++ b)
begun_of_more old new a b (count, wrote) = let first = take_first a b count in (first.0, rw first.1 wrote)
  where
    take_first : (a b : List ℕ) (count : ℕ) → (least : ℕ) × (take least (a ++ b) ≡ take count a)
    take_first [] b count = (0, take_none count)
      where
        take_none : (count : ℕ) → take 0 b ≡ take count []
        take_none zero = refl
        take_none (suc count) = refl
    take_first (x ∷ a) b zero = (0, refl)
    take_first (x ∷ a) b (suc count) =
        let rest = take_first a b count in (suc rest.0, ap (λ (t : List ℕ). x ∷ t) rest.1)
