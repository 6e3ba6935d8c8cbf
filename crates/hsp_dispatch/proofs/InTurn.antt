-- The records of a log, as they are read one after the other.
use Rattle.std.proofs.Common.{◌≡◌, ◌++◌, ℕ, true, false, List, [], ◌∷◌, Option, Some, None, IsSome, IfNone, IfSome}
use Rattle.std.proofs.Common.{option_map, append_assoc, refl, ap}
use Rattle.csv.specs.Reading.{reader_state, source_of}
use Rattle.csv.specs.declared.parser.State.{State}
use Rattle.csv.specs.declared.reader.Reader.{Reader}
use Rattle.hsp_csv.specs.Records.{Fields, IsKnown, TakesRecord, records_from_state, records_left, records_of}
use Rattle.hsp_dispatch.specs.Runs.{Begins, IsUnheaded}
use Rattle.hsp_dispatch.specs.Steps.{FailsHeader, IsRead, TakesHeader, log_left, records_in}
use Rattle.hsp_log.specs.declared.fault.LogFault.TheVariants as fault
use Rattle.hsp_log.specs.declared.form.Form.{Form}

-- ---- the header

-- the header was read, and the rows are left
header_read_in : (header : Fields) (s t : State) (o p : Option (List ℕ))
    → (IsSome o → (records_from_state s o ≡ header ∷ records_from_state t p) × IsSome p)
    → IsRead header (records_in s o) [] (records_in t p)
header_read_in header s t None p takes = tt
header_read_in header s t (Some octets) None takes = cc ((takes refl).1)
header_read_in header s t (Some octets) (Some left) takes = (takes refl).0

-- so it is where the octets are known
pub header_read : {R : Type 0} (remaining : R → Option (List ℕ)) (old new : Reader R) (header : Fields)
    → TakesHeader remaining old new header
    → IsRead header (log_left remaining old) [] (log_left remaining new)
header_read remaining old new header takes =
    header_read_in header (reader_state old) (reader_state new) (source_of remaining old) (source_of remaining new)
    takes

-- without a header nothing is read
unheaded_in : (header : Form → Fields) (s : State) (o : Option (List ℕ))
    → (IsSome o → IsUnheaded header (Some (records_from_state s o)))
    → IsUnheaded header (records_in s o)
unheaded_in header s None fails = tt
unheaded_in header s (Some octets) fails = fails refl

-- so it is where the octets are known
pub unheaded : {R : Type 0} (remaining : R → Option (List ℕ)) (old : Reader R) (header : Form → Fields)
    → FailsHeader remaining old header fault.Header
    → IsUnheaded header (log_left remaining old)
unheaded remaining old header fails = unheaded_in header (reader_state old) (source_of remaining old) fails

-- ---- the rows

-- one row more of the records was read
one_more : (header : Fields) (records : List Fields) (rows : List Fields) (row : Fields) (now left : List Fields)
    → Begins header (Some records) rows now
    → now ≡ row ∷ left → Begins header (Some records) (rows ++ row ∷ []) left
one_more header records rows row now left begins next = rw (append_assoc rows (row ∷ []) left) (rw next at begins)

-- the next row was read
row_read_in : (header : Fields) (log : Option (List Fields)) (rows : List Fields) (row : Fields) (s t : State)
    (o p : Option (List ℕ))
    → IsRead header log rows (records_in s o)
    → (IsSome o → (records_from_state s o ≡ row ∷ records_from_state t p) × IsSome p)
    → IsRead header log (rows ++ row ∷ []) (records_in t p)
row_read_in header None rows row s t o p read takes = tt
row_read_in header (Some records) rows row s t None p read takes = absurd read
row_read_in header (Some records) rows row s t (Some octets) None read takes = cc ((takes refl).1)
row_read_in header (Some records) rows row s t (Some octets) (Some left) read takes =
    one_more header records rows row _ _ read (takes refl).0

-- one row more was read
pub row_read : {R : Type 0} (remaining : R → Option (List ℕ)) (old new : Reader R) (header : Fields)
    (log : Option (List Fields)) (rows : List Fields)
    (row : Fields) → IsRead header log rows (log_left remaining old) → TakesRecord remaining old new true row
    → IsRead header log (rows ++ row ∷ []) (log_left remaining new)
row_read remaining old new header log rows row read takes =
    row_read_in header log rows row (reader_state old) (reader_state new) (source_of remaining old)
    (source_of remaining new) read takes

-- the log was read to its end
all_read_in : (header : Fields) (log : Option (List Fields)) (rows : List Fields) (s : State) (o : Option (List ℕ))
    → IsRead header log rows (records_in s o)
    → (IsSome o → records_from_state s o ≡ []) → Begins header log rows []
all_read_in header None rows s o read ends = tt
all_read_in header (Some records) rows s None read ends = absurd read
all_read_in header (Some records) rows s (Some octets) read ends = rw (ends refl) at read

-- no row was left
pub all_read : {R : Type 0} (remaining : R → Option (List ℕ)) (old new : Reader R) (header : Fields)
    (log : Option (List Fields)) (rows : List Fields)
    (row : Fields) → IsRead header log rows (log_left remaining old) → TakesRecord remaining old new false row
    → Begins header log rows []
all_read remaining old new header log rows row read ends =
    all_read_in header log rows (reader_state old) (source_of remaining old) read ends

-- ---- what is read begins the log

-- what was read is how the log begins
pub begins : (header : Fields) (log now : Option (List Fields)) (rows : List Fields) → IsRead header log rows now
    → (more : List Fields) × Begins header log rows more
begins header None now rows read = ([], tt)
begins header (Some records) None rows read = absurd read
begins header (Some records) (Some now) rows read = (now, read)

-- the last row that was read
pub begins_before : (header : Fields) (log : Option (List Fields)) (rows : List Fields) (row : Fields)
    (more : List Fields)
    → Begins header log (rows ++ row ∷ []) more → Begins header log rows (row ∷ more)
begins_before header None rows row more is = tt
begins_before header (Some records) rows row more is = rw (append_assoc rows (row ∷ []) more) at is

-- ---- the records before the first read

-- the records that are left are those of the octets that are
left_in : (s : State) (text octets : Option (List ℕ)) → IfSome text (λ t. IsSome octets)
    → IfSome text (λ t. records_from_state s octets ≡ records_of t)
    → IfNone text (octets ≡ None) → records_in s octets ≡ option_map records_of text
left_in s None octets known records unknown = rw unknown refl
left_in s (Some text) None known records unknown = cc known
left_in s (Some text) (Some octets) known records unknown = ap Some records

-- a reader at the start of a text has its records left
pub all_left : {R : Type 0} (remaining : R → Option (List ℕ)) (text : Option (List ℕ)) (reader : Reader R)
    → IfSome text (λ octets. IsKnown remaining reader)
    → IfSome text (λ octets. records_left remaining reader ≡ records_of octets)
    → IfNone text (source_of remaining reader ≡ None)
    → log_left remaining reader ≡ option_map records_of text
all_left remaining text reader known records unknown =
    left_in (reader_state reader) text (source_of remaining reader) known records unknown
