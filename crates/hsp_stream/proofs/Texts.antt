-- The faults of a text: those below its header, or that it has none.
use Rattle.std.proofs.Common.{◌≡◌, ◌∙◌, inl, inr, ℕ, Bool, true, List, [], ◌∷◌, Option, Some, None, refl}
use Rattle.std.proofs.Common.{ap}
use Rattle.std.proofs.lemmas.List.{append-nil}
use Rattle.std.specs.Io.KnownBytes.{Appends}
use Rattle.std.proofs.Common.{IfSome, option_map}
use Rattle.hsp_csv.specs.Places.{Placed, TakesPlaced, placed_of}
use Rattle.hsp_stream.specs.Faulty.{IsHeadedBy, IsUnheaded, found_header}
use Rattle.hsp_stream.specs.FaultLines.{header_line, line_of, lines_of}
use Rattle.hsp_stream.specs.Runs.{AreAll, AreBegun, AreFirst, AreListed, BelowIsBegun, BelowIsListed, Faults, IsBegun}
use Rattle.hsp_stream.specs.Runs.{IsListBegun}
use Rattle.hsp_stream.specs.Runs.{IsListed, LinesAreBegun, LinesAreListed}
use Rattle.hsp_stream.specs.declared.checker.Asked.{Asked}
use Rattle.hsp_stream.specs.declared.checker.Headed.{Headed}
use Rattle.hsp_stream.proofs.Listing.{appends_both, appends_none, begun_behind, begun_of_more}

-- lists that hold of less hold of more
pub listed_as : (Are Are2 : List Placed → Faults → Type 0)
    → ((records : List Placed) (all : Faults) → Are records all → Are2 records all)
    → (left : Option (List Placed)) (old new : Option (List ℕ)) (some : Bool) → AreListed Are left old new some
    → AreListed Are2 left old new some
listed_as Are Are2 so left old new some (records, whole, all, are, wrote, tells) =
    (records, whole, all, so records all are, wrote, tells)

-- lists that begin with less begin with more
pub begun_as : (Are Are2 : List Placed → Faults → Type 0)
    → ((records : List Placed) (all : Faults) → Are records all → Are2 records all)
    → (left : Option (List Placed)) (old new : Option (List ℕ)) → AreBegun Are left old new → AreBegun Are2 left old new
begun_as Are Are2 so left old new (records, first, all, are, wrote) = (records, first, all, so records all are, wrote)

-- a record stands before all, and before some first ones
all_with : (old new : Option (List Placed)) (one : Placed) (records : List Placed) → TakesPlaced old new true one
    → AreAll new records → AreAll old (one ∷ records)
all_with None new one records takes whole = tt
all_with (Some old) None one records takes whole = absurd takes
all_with (Some old) (Some new) one records takes whole = takes ∙ ap (λ (t : List Placed). one ∷ t) whole

-- one record before some first ones
first_with : (old new : Option (List Placed)) (one : Placed) (records : List Placed) → TakesPlaced old new true one
    → AreFirst new records → AreFirst old (one ∷ records)
first_with None new one records takes first = tt
first_with (Some old) None one records takes first = absurd takes
first_with (Some old) (Some new) one records takes (rest, first) =
    (rest, takes ∙ ap (λ (t : List Placed). one ∷ t) first)

-- the records are one and those behind it, where these are known
behind_of : (old new : Option (List Placed)) (one : Placed) → TakesPlaced old new true one
    → (records : List Placed) × AreAll old (one ∷ records)
behind_of None new one takes = ([], tt)
behind_of (Some old) None one takes = absurd takes
behind_of (Some old) (Some new) one takes = (new, takes)

-- no record is some first ones of any
none_first : (old : Option (List Placed)) → AreFirst old []
none_first None = tt
none_first (Some old) = (old, refl)

-- the one line of a text without its header
header_lines : (asked : Asked) → lines_of (found_header asked ∷ []) ≡ line_of (found_header asked)
header_lines asked = append-nil (line_of (found_header asked))

module _ (asked : Asked) (left after : Option (List Placed)) (one : Placed) (old new : Option (List ℕ)) where
  -- below a header
  pub below_listed : TakesPlaced left after true one → (headed : Headed) → IsHeadedBy asked one.fields headed
      → (some : Bool)
      → BelowIsListed headed after old new some → LinesAreListed asked left old new some
  below_listed takes headed is some (records, whole, all, are, wrote, tells) =
      (one ∷ records, all_with left after one records takes whole, all, inl (headed, is, are), wrote, tells)

  -- a beginning of the list below a header
  pub below_begun : TakesPlaced left after true one → (headed : Headed) → IsHeadedBy asked one.fields headed
      → BelowIsBegun headed after old new → LinesAreBegun asked left old new
  below_begun takes headed is (records, first, all, are, wrote) =
      (one ∷ records, first_with left after one records takes first, all, inl (headed, is, are), wrote)

  -- without a header
  pub unheaded_listed : TakesPlaced left after true one → IsUnheaded asked one.fields
      → Appends old new (line_of (found_header asked)) → (some : Bool) → some ≡ true
      → LinesAreListed asked left old new some
  unheaded_listed takes is wrote some tells =
      let behind = behind_of left after one takes in (
        one ∷ behind.0,
        behind.1,
        found_header asked ∷ [],
        inr (is, refl),
        rw (header_lines asked) wrote,
        tells,
      )

  -- a beginning of that line, or nothing
  pub header_begun : IsBegun old new (line_of (found_header asked)) → LinesAreBegun asked left old new
  header_begun begun = ([], none_first left, found_header asked ∷ [], refl, rw (header_lines asked) begun)

-- where nothing is written nothing is begun
pub nothing_begun : (asked : Asked) (left : Option (List Placed)) (old : Option (List ℕ))
    → LinesAreBegun asked left old old
nothing_begun asked left old = ([], none_first left, found_header asked ∷ [], refl, (0, appends_none old))

-- the records that a reader begins with are those of its text, where that is known
abbrev BeginsWith : Option (List ℕ) → Option (List Placed) → Type 0
BeginsWith text left = IfSome text (λ octets. left ≡ Some (placed_of octets))

-- all records of a reader are those of its text
all_of_text : (text : Option (List ℕ)) (left : Option (List Placed)) (records : List Placed) → BeginsWith text left
    → AreAll left records → AreAll (option_map placed_of text) records
all_of_text None left records begins whole = tt
all_of_text (Some octets) left records begins whole = rw begins at whole

-- some first records of a reader are some of its text
first_of_text : (text : Option (List ℕ)) (left : Option (List Placed)) (records : List Placed) → BeginsWith text left
    → AreFirst left records → AreFirst (option_map placed_of text) records
first_of_text None left records begins first = tt
first_of_text (Some octets) left records begins first = rw begins at first

-- the list is the lines below the first one
pub whole_listed : (asked : Asked) (text : Option (List ℕ)) (left : Option (List Placed))
    (old middle new : Option (List ℕ))
    (some : Bool) → BeginsWith text left → Appends old middle header_line → LinesAreListed asked left middle new some
    → IsListed asked (option_map placed_of text) old new some
whole_listed asked text left old middle new some begins head (records, whole, all, are, wrote, tells) = (
  records,
  all_of_text text left records begins whole,
  all,
  are,
  appends_both old middle new header_line (lines_of all) head wrote,
  tells,
)

-- a beginning of the lines below the first one is a beginning of the list
pub whole_begun : (asked : Asked) (text : Option (List ℕ)) (left : Option (List Placed))
    (old middle new : Option (List ℕ))
    → BeginsWith text left → Appends old middle header_line → LinesAreBegun asked left middle new
    → IsListBegun asked (option_map placed_of text) old new
whole_begun asked text left old middle new begins head (records, first, all, are, wrote) = (
  records,
  first_of_text text left records begins first,
  all,
  are,
  begun_behind old middle new header_line (lines_of all) head wrote,
)

-- a beginning of the first line was written
pub head_begun : (asked : Asked) (left : Option (List Placed)) (old new : Option (List ℕ)) → IsBegun old new header_line
    → IsListBegun asked left old new
head_begun asked left old new begun =
    ([], none_first left, found_header asked ∷ [], refl, begun_of_more old new header_line _ begun)
