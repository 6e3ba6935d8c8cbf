-- What runs read from their inputs, one after the other, up to the first fault.
use Rattle.std.specs.Prelude.{◌≡◌, ◌≢◌, ℕ, List, Option, Some, None, Result, Ok, Err}
use Rattle.hsp_text.specs.Answers.{Then, fault_as}
use Rattle.hsp_cert.specs.declared.fault.CertFault.{CertFault}
use Rattle.hsp_cert.specs.declared.fault.CertFault.TheVariants as cert_fault
use Rattle.hsp_price_text.specs.Reading as prices
use Rattle.hsp_price_text.specs.declared.certificate.PriceCertificate.{PriceCertificate}
use Rattle.hsp_record.specs.Fields.{Means}
use Rattle.hsp_record.specs.Values.{HandleValue, values_format}
use Rattle.hsp_record.specs.declared.fault.RecordFault.{RecordFault}
use Rattle.hsp_record.specs.declared.fault.RecordFault.TheVariants as record_fault
use Rattle.hsp_tables.specs.Settings.{SettingsEntries, settings_of}
use Rattle.hsp_instance.specs.Instance.{Site}
use Rattle.hsp_instance.specs.Building.{AreSitesOf}
use Rattle.hsp_instance.specs.declared.fault.BuildFault.{BuildFault}
use Rattle.hsp_inputs.specs.declared.fault.Fault.{Fault}
use Rattle.hsp_inputs.specs.declared.fault.Fault.TheVariants.{Settings, Values, Build, Cert}

-- the settings that octets spell
abbrev pub ReadsSettings : List ℕ → Result SettingsEntries Fault → Type 0
ReadsSettings octets answer = answer ≡ fault_as Settings (settings_of octets)

-- the value list that octets spell
abbrev pub AreListed : List ℕ → Result (List HandleValue) Fault → Type 0
AreListed octets answer =
    (reading : Result (List HandleValue) RecordFault) × Means values_format octets reading
    × (reading ≢ Err record_fault.OutOfMemory) × (answer ≡ fault_as Values reading)

-- the same where a list is given
abbrev pub some_list : Result (List HandleValue) Fault → Result (Option (List HandleValue)) Fault
some_list (Ok values) = Ok (Some values)
some_list (Err e) = Err e

abbrev pub ReadsValues : Option (List ℕ) → Result (Option (List HandleValue)) Fault → Type 0
ReadsValues None answer = answer ≡ Ok None
ReadsValues (Some octets) answer =
    (reading : Result (List HandleValue) Fault) × AreListed octets reading × (answer ≡ some_list reading)

-- the sites of settings and values
abbrev pub AreSites : SettingsEntries → Option (List HandleValue) → Result (List Site) Fault → Type 0
AreSites settings values answer =
    (sites : Result (List Site) BuildFault) × AreSitesOf settings values sites × (answer ≡ fault_as Build sites)

-- the sites that the octets of settings and of values define
abbrev pub AreSitesIn : List ℕ → Option (List ℕ) → Result (List Site) Fault → Type 0
AreSitesIn settings values = Then (ReadsSettings settings) (λ s. Then (ReadsValues values) (AreSites s))

-- the certificate by prices that octets spell
abbrev pub IsCertificateIn : List ℕ → Result PriceCertificate Fault → Type 0
IsCertificateIn octets answer =
    (reading : Result PriceCertificate CertFault) × prices.Means octets reading × (reading ≢ Err cert_fault.OutOfMemory)
    × (answer ≡ fault_as Cert reading)
