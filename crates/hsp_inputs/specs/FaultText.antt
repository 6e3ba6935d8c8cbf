-- Faults in words, and the program's statuses.
use Rattle.std.specs.Prelude.{◌++◌, ◌∷◌, [], ℕ, List, codes, decimal}
use Rattle.hsp_names.specs.declared.fault.HandleFault.{HandleFault}
use Rattle.hsp_names.specs.declared.fault.HandleFault.TheVariants.{TooLong, NotUtf8, NoSlash, EmptySegment}
use Rattle.hsp_record.specs.declared.fault.RecordFault.{RecordFault}
use Rattle.hsp_record.specs.declared.fault.RecordFault.TheVariants as record_fault
use Rattle.hsp_tables.specs.declared.fault.TableFault.{TableFault}
use Rattle.hsp_tables.specs.declared.fault.TableFault.TheVariants as table_fault
use Rattle.hsp_instance.specs.declared.fault.Table.{Table}
use Rattle.hsp_instance.specs.declared.fault.Table.TheVariants as table
use Rattle.hsp_instance.specs.declared.fault.BuildFault.{BuildFault}
use Rattle.hsp_instance.specs.declared.fault.BuildFault.TheVariants as build_fault
use Rattle.hsp_cert.specs.declared.fault.CertFault.{CertFault}
use Rattle.hsp_cert.specs.declared.fault.CertFault.TheVariants as cert_fault
use Rattle.hsp_log.specs.declared.fault.LogFault.{LogFault}
use Rattle.hsp_log.specs.declared.fault.LogFault.TheVariants as log_fault
use Rattle.hsp_inputs.specs.declared.fault.Fault.{Fault}
use Rattle.hsp_inputs.specs.declared.fault.Fault.TheVariants.{BadOption, BadServers, BadIndex, Handle, Site, Settings}
use Rattle.hsp_inputs.specs.declared.fault.Fault.TheVariants.{Values, NoValue, NotSiteValue, Demand, Costs, Capacity}
use Rattle.hsp_inputs.specs.declared.fault.Fault.TheVariants.{Build, Cert, Refused, WrongKind, OutOfMemory, Log}
use Rattle.hsp_inputs.specs.declared.fault.Fault.TheVariants.{BadFronts}
use Rattle.hsp_check.specs.declared.verdict.Reason.{Reason}
use Rattle.hsp_check.specs.declared.verdict.Reason.TheVariants.{Shape, NoSuchUse, RowSum, Load, Cost, ArcPrice}
use Rattle.hsp_check.specs.declared.verdict.Reason.TheVariants.{UsedArcPrice, IdlePrice, DemandSum, CapacitySum}
use Rattle.hsp_check.specs.declared.verdict.Reason.TheVariants.{NotShort}

abbrev pub handle_words : HandleFault → List ℕ
handle_words TooLong = codes "TooLong"
handle_words NotUtf8 = codes "NotUtf8"
handle_words NoSlash = codes "NoSlash"
handle_words EmptySegment = codes "EmptySegment"

abbrev pub record_words : RecordFault → List ℕ
record_words (record_fault.Truncated at) = codes "Truncated at " ++ decimal at
record_words (record_fault.Trailing at) = codes "Trailing at " ++ decimal at
record_words record_fault.TooManyServers = codes "TooManyServers"
record_words (record_fault.IndexTwice index) = codes "IndexTwice index " ++ decimal index
record_words record_fault.OutOfMemory = codes "OutOfMemory"

-- a word, and a space and the name and the number of a row, a site or a host
abbrev pub row_words : List ℕ → ℕ → List ℕ
row_words word row = word ++ (codes " row " ++ decimal row)

abbrev pub site_words : List ℕ → ℕ → List ℕ
site_words word site = word ++ (codes " site " ++ decimal site)

abbrev pub host_words : List ℕ → ℕ → List ℕ
host_words word host = word ++ (codes " host " ++ decimal host)

abbrev pub table_words : TableFault → List ℕ
table_words table_fault.NotToml = codes "NotToml"
table_words table_fault.UnknownKey = codes "UnknownKey"
table_words (table_fault.BadSite site) = site_words (codes "BadSite") site
table_words (table_fault.SiteTwice site) = site_words (codes "SiteTwice") site
table_words table_fault.Header = codes "Header"
table_words (table_fault.Fields row) = row_words (codes "Fields") row
table_words (table_fault.BadName row) = row_words (codes "BadName") row
table_words (table_fault.BadHandle row fault) = row_words (codes "BadHandle") row ++ (32 ∷ handle_words fault)
table_words (table_fault.BadNumber row) = row_words (codes "BadNumber") row
table_words (table_fault.RowTwice row) = row_words (codes "RowTwice") row
table_words table_fault.TooManyRows = codes "TooManyRows"
table_words table_fault.TooManySites = codes "TooManySites"
table_words table_fault.TooManyRegions = codes "TooManyRegions"
table_words table_fault.OutOfMemory = codes "OutOfMemory"
table_words (table_fault.BadHost host) = host_words (codes "BadHost") host
table_words (table_fault.HostTwice host) = host_words (codes "HostTwice") host
table_words table_fault.TooManyHosts = codes "TooManyHosts"

abbrev pub table_name : Table → List ℕ
table_name table.Costs = codes "costs"
table_name table.Capacity = codes "capacity"

abbrev pub build_words : BuildFault → List ℕ
build_words (build_fault.NoValue site) = site_words (codes "NoValue") site
build_words (build_fault.NotSiteValue site) = site_words (codes "NotSiteValue") site
build_words (build_fault.BadRecord site fault) = site_words (codes "BadRecord") site ++ (32 ∷ record_words fault)
build_words (build_fault.BadHashOption site) = site_words (codes "BadHashOption") site
build_words (build_fault.NoServer site) = site_words (codes "NoServer") site
build_words (build_fault.ServerIdTwice site) = site_words (codes "ServerIdTwice") site
build_words build_fault.TooManyServers = codes "TooManyServers"
build_words (build_fault.UnknownSite named row) = row_words (codes "UnknownSite table " ++ table_name named) row
build_words (build_fault.UnknownServer row) = row_words (codes "UnknownServer") row
build_words (build_fault.NoCapacity site id) =
    site_words (codes "NoCapacity") site ++ (codes " server_id " ++ decimal id)
build_words build_fault.OutOfMemory = codes "OutOfMemory"

abbrev pub cert_words : CertFault → List ℕ
cert_words (cert_fault.BadLine line) = codes "BadLine line " ++ decimal line
cert_words cert_fault.Ended = codes "Ended"
cert_words (cert_fault.AfterEnd line) = codes "AfterEnd line " ++ decimal line
cert_words cert_fault.OutOfMemory = codes "OutOfMemory"

abbrev pub log_words : LogFault → List ℕ
log_words log_fault.ReadFailed = codes "ReadFailed"
log_words log_fault.WriteFailed = codes "WriteFailed"
log_words log_fault.Header = codes "Header"
log_words (log_fault.Fields row) = row_words (codes "Fields") row
log_words (log_fault.BadHandle row) = row_words (codes "BadHandle") row
log_words log_fault.LogTooLong = codes "LogTooLong"
log_words log_fault.OutOfMemory = codes "OutOfMemory"
log_words (log_fault.BadBody row) = row_words (codes "BadBody") row
log_words (log_fault.BadFront row) = row_words (codes "BadFront") row

-- a fault of a run over a log; that memory ran out is reported without a part
abbrev pub fault_of_log : LogFault → Fault
fault_of_log log_fault.OutOfMemory = OutOfMemory
fault_of_log e = Log e

abbrev pub reason_word : Reason → List ℕ
reason_word Shape = codes "Shape"
reason_word NoSuchUse = codes "NoSuchUse"
reason_word RowSum = codes "RowSum"
reason_word Load = codes "Load"
reason_word Cost = codes "Cost"
reason_word ArcPrice = codes "ArcPrice"
reason_word UsedArcPrice = codes "UsedArcPrice"
reason_word IdlePrice = codes "IdlePrice"
reason_word DemandSum = codes "DemandSum"
reason_word CapacitySum = codes "CapacitySum"
reason_word NotShort = codes "NotShort"

-- a fault without a part, or the part with the fault in it
abbrev pub fault_words : Fault → List ℕ
fault_words BadOption = codes "BadOption"
fault_words BadServers = codes "BadServers"
fault_words BadIndex = codes "BadIndex"
fault_words (Handle e) = codes "handle: " ++ handle_words e
fault_words (Site e) = codes "site: " ++ record_words e
fault_words (Settings e) = codes "settings: " ++ table_words e
fault_words (Values e) = codes "values: " ++ record_words e
fault_words NoValue = codes "NoValue"
fault_words NotSiteValue = codes "NotSiteValue"
fault_words (Demand e) = codes "demand: " ++ table_words e
fault_words (Costs e) = codes "costs: " ++ table_words e
fault_words (Capacity e) = codes "capacity: " ++ table_words e
fault_words (Build e) = codes "build: " ++ build_words e
fault_words (Cert e) = codes "certificate: " ++ cert_words e
fault_words (Refused reason) = codes "check: " ++ reason_word reason
fault_words WrongKind = codes "WrongKind"
fault_words OutOfMemory = codes "OutOfMemory"
fault_words (Log e) = codes "log: " ++ log_words e
fault_words BadFronts = codes "BadFronts"

abbrev pub fault_text : Fault → List ℕ
fault_text fault = codes "hsplan: " ++ (fault_words fault ++ 10 ∷ [])

-- 5 for a log that isn't read to its end and for answers that aren't written, 4 where memory runs out, 1 for a refused
-- log
abbrev pub log_status : LogFault → ℕ
log_status log_fault.ReadFailed = 5
log_status log_fault.WriteFailed = 5
log_status log_fault.Header = 1
log_status (log_fault.Fields row) = 1
log_status (log_fault.BadHandle row) = 1
log_status log_fault.LogTooLong = 1
log_status log_fault.OutOfMemory = 4
log_status (log_fault.BadBody row) = 1
log_status (log_fault.BadFront row) = 1

-- 4 where memory runs out, 3 for a certificate that is refused or of the wrong kind, that of a log's fault, 1 for any
-- other refused input
abbrev pub status_in : Fault → ℕ
status_in BadOption = 1
status_in BadServers = 1
status_in BadIndex = 1
status_in (Handle e) = 1
status_in (Site e) = 1
status_in (Settings e) = 1
status_in (Values e) = 1
status_in NoValue = 1
status_in NotSiteValue = 1
status_in (Demand e) = 1
status_in (Costs e) = 1
status_in (Capacity e) = 1
status_in (Build e) = 1
status_in (Cert e) = 1
status_in (Refused reason) = 3
status_in WrongKind = 3
status_in OutOfMemory = 4
status_in (Log e) = log_status e
status_in BadFronts = 1
