-- The texts that state where a handle is served.
use Rattle.std.specs.Prelude.{◌≡◌, ◌++◌, ◌∷◌, [], ℕ, List, length, codes, decimal, option_map, slice_get, Option, Some}
use Rattle.std.specs.Prelude.{None, Result, Ok, Err, if◌then◌else◌}
use Rattle.std.specs.Str.{bytes_eq}
use Rattle.hsp_text.specs.declared.limits.TheConstants.{MOST_SERVERS}
use Rattle.hsp_names.specs.Handle.{handle_in}
use Rattle.hsp_names.specs.declared.fault.HandleFault.{HandleFault}
use Rattle.hsp_hash.specs.declared.option.HashOption.{HashOption}
use Rattle.hsp_hash.specs.declared.option.HashOption.TheVariants.{ByNa, ByLocal, ByHandle}
use Rattle.hsp_hash.specs.Place.{server_place}
use Rattle.hsp_instance.specs.Instance.{Site, SiteServer}
use Rattle.hsp_inputs.specs.Counts.{count_at}
use Rattle.hsp_inputs.specs.declared.fault.Fault.{Fault}
use Rattle.hsp_inputs.specs.declared.fault.Fault.TheVariants.{BadOption, BadServers, Handle}
use Rattle.hsp_runs.specs.declared.locate.Locate.{Locate}
use Rattle.hsp_runs.specs.declared.locate.Locate.TheVariants.{Place, Sites}
use Rattle.hsp_text.specs.Answers.{◌>>=◌, Then}
use Rattle.hsp_text.specs.Writing.{numbered}
use Rattle.hsp_inputs.specs.Readings.{AreSitesIn}

-- the hash option of a word
abbrev pub option_at : List ℕ → Result HashOption Fault
option_at word =
    if bytes_eq word (codes "na") then Ok ByNa
    else if bytes_eq word (codes "local") then Ok ByLocal
    else if bytes_eq word (codes "handle") then Ok ByHandle
    else Err BadOption

-- a number of servers, from 1 to 1,024
abbrev pub servers_at : List ℕ → Result ℕ Fault
servers_at word = count_at BadServers MOST_SERVERS word

-- a handle's octets
abbrev pub handle_or : Result (List ℕ) HandleFault → Result (List ℕ) Fault
handle_or (Ok h) = Ok h
handle_or (Err e) = Err (Handle e)

abbrev pub handle_at : List ℕ → Result (List ℕ) Fault
handle_at octets = handle_or (handle_in octets)

-- a number on a line
abbrev pub number_line : ℕ → List ℕ
number_line n = decimal n ++ 10 ∷ []

-- the place of the server, or the first fault
abbrev pub placed : List ℕ → List ℕ → List ℕ → Result (List ℕ) Fault
placed option servers octets =
    option_at option >>= λ o. servers_at servers >>= λ n. handle_at octets >>= λ h.
    Ok (number_line (server_place o h n))

-- a site's line: its name, and the place and the identifier of the handle's server
abbrev pub line_at : Site → ℕ → Option SiteServer → List ℕ
line_at site place None = []
line_at site place (Some own) = numbered site.name (place ∷ own.id ∷ [])

abbrev pub site_line : List ℕ → Site → List ℕ
site_line handle site =
    let place = server_place site.option handle (length site.servers) in
    line_at site place (slice_get site.servers place)

abbrev pub site_lines : List ℕ → List Site → List ℕ
site_lines handle [] = []
site_lines handle (site ∷ sites) = site_line handle site ++ site_lines handle sites

abbrev pub IsHandle : List ℕ → Result (List ℕ) Fault → Type 0
IsHandle octets answer = answer ≡ handle_at octets

-- the lines of the sites that settings and values define, or the first fault
abbrev pub AreLocated : List ℕ → Option (List ℕ) → List ℕ → Result (List ℕ) Fault → Type 0
AreLocated settings values octets =
    Then (IsHandle octets) (λ h. Then (AreSitesIn settings values) (λ sites answer. answer ≡ Ok (site_lines h sites)))

-- the text, or the first fault
abbrev pub IsLocated : Locate → List ℕ → Result (List ℕ) Fault → Type 0
IsLocated (Place option servers) octets answer = answer ≡ placed option.items servers.items octets
IsLocated (Sites settings values) octets answer =
    AreLocated settings.items (option_map (λ v. v.items) values) octets answer
