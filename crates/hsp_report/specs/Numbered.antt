-- The rows, the servers and the sites of an instance, by their numbers.
use Rattle.std.specs.Prelude.{ℕ, List, [], None, map, slice_index_or}
use Rattle.hsp_instance.specs.Instance.{Instance, Row, Server}

-- what stands past the end of the rows
abbrev pub no_row : Row
no_row = record { region = []; handle = []; count = 0 }

abbrev pub row_at : Instance → ℕ → Row
row_at it i = slice_index_or it.rows i no_row

-- what stands past the end of the servers
abbrev pub no_server : Server
no_server = record { site = 0; place = 0; id = 0; capacity = 0; host = None }

abbrev pub server_at : Instance → ℕ → Server
server_at it j = slice_index_or it.servers j no_server

abbrev pub site_name : Instance → ℕ → List ℕ
site_name it site = slice_index_or (map (λ s. s.name) it.sites) site []
