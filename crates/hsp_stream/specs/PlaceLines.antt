-- The lines that state the servers of a handle, as comma-separated values.
use Rattle.std.specs.Prelude.{◌++◌, ◌∷◌, [], ℕ, List, codes, decimal, length, slice_get, Option, None, Some}
use Rattle.csv.specs.Writing.{default_writer, field_text}
use Rattle.hsp_hash.specs.Place.{server_place}
use Rattle.hsp_instance.specs.Instance.{Site, SiteServer}

abbrev pub header_line : List ℕ
header_line = codes "handle,site,place,server_id" ++ 10 ∷ []

-- a handle, a site's name, and the place and the identifier of the handle's server there; texts are quoted where they
-- need it
abbrev pub place_line_at : List ℕ → List ℕ → ℕ → Option SiteServer → List ℕ
place_line_at handle name place None = []
place_line_at handle name place (Some own) =
    field_text default_writer handle
    ++ (44 ∷ (field_text default_writer name ++ (44 ∷ (decimal place ++ (44 ∷ (decimal own.id ++ 10 ∷ []))))))

abbrev pub place_line : List ℕ → Site → List ℕ
place_line handle site =
    let place = server_place site.option handle (length site.servers) in
    place_line_at handle site.name place (slice_get site.servers place)

-- the lines of all sites, in their order
abbrev pub place_lines : List ℕ → List Site → List ℕ
place_lines handle [] = []
place_lines handle (site ∷ sites) = place_line handle site ++ place_lines handle sites
