-- The report of a short set, piece by piece.
use Rattle.std.proofs.Common.{◌≡◌, ℕ, ◌-◌, ◌<◌, List, [], ◌++◌, length, All, arith}
use Rattle.std.specs.Prelude.{codes}
use Rattle.std.specs.List.{flat_map, range_with_len}
use Rattle.std.proofs.lemmas.List.{length-map}
use Rattle.std.proofs.lemmas.List.Elements.{All-filter}
use Rattle.std.proofs.lemmas.List.FromFn.{length-range_with_len, get_or-range_with_len}
use Rattle.hsp_cert.specs.Certificate.{Short}
use Rattle.hsp_instance.specs.Instance.{Instance, Server}
use Rattle.hsp_check.specs.Instance.{network_of}
use Rattle.hsp_check.specs.Short.{reached, reaches}
use Rattle.hsp_check.specs.Valid.{IsValidSet}
use Rattle.hsp_check.specs.Verdict.{is_one_of}
use Rattle.hsp_report.specs.Columns.{difference_line}
use Rattle.hsp_report.specs.ShortageReport.{reached_line, row_line, rows_header, servers_header, short_line}
use Rattle.hsp_report.specs.ShortageReport.{shortage_report}
use Rattle.hsp_report.proofs.Pieces.{five_pieces}

-- the servers that a set may use are there
pub reached_there : (it : Instance) (set : Short) (servers : List ℕ)
    → servers ≡ reached (network_of it) (is_one_of set.rows) → All (λ j. j < length it.servers) servers
reached_there it set servers are =
    rw (are, length-map it.servers (λ (s : Server). s.capacity))
    (All-filter (reaches (network_of it) (is_one_of set.rows)) (λ j. j < length it.servers)
    (range_with_len 0 (length it.servers)) (λ k d l.
    let inside : k < length it.servers = rw length-range_with_len at l in
    let is = get_or-range_with_len 0 (length it.servers) k d inside in
    omega arith))

-- the pieces are the report
pub shortage_appended : (it : Instance) (set : Short) (start one two three four five : List ℕ) (demand capacity : ℕ)
    (rows servers : List ℕ) → IsValidSet (network_of it) set → start ≡ [] →
    demand ≡ set.demand → capacity ≡ set.capacity → rows ≡ set.rows
    → servers ≡ reached (network_of it) (is_one_of set.rows) →
    one ≡ start ++ difference_line (codes "short") demand capacity (demand - capacity) → two ≡ one ++ rows_header
    → three ≡ two ++ flat_map (row_line it) rows →
    four ≡ three ++ servers_header → five ≡ four ++ flat_map (reached_line it) servers → five ≡ shortage_report it set
shortage_appended it set start one two three four five demand capacity rows servers valid empty asked taken listed found
    p q r s t =
    let first : one ≡ short_line it set = rw (← valid.demand, ← valid.capacity) (rw (empty, asked, taken) at p) in
    five_pieces [] one two three four five (short_line it set) _ _ _ _ first q (rw listed at r) s (rw found at t)
