-- Rows that are written one after the other.
use Rattle.std.proofs.Common.{◌≡◌, ◌++◌, ◌+◌, ◌∙◌, ℕ, List, drop, ap, append_assoc, Some}
use Rattle.std.specs.Prelude.{slice_get}
use Rattle.hsp_record.specs.Site.{Interface, Server}
use Rattle.hsp_instance.proofs.Lists.{drop_at}
use Rattle.hsp_stream.specs.Interfaces.{interface_fields, interface_rows, server_fields, server_rows}

-- the row of one interface more
pub interface_more : (out out' all fields : List ℕ) (i : ℕ) (xs : List Interface) (x : Interface)
    → slice_get xs i ≡ Some x → out' ≡ (out ++ fields) ++ interface_fields x
    → out ++ interface_rows fields (drop i xs) ≡ all → out' ++ interface_rows fields (drop (i + 1) xs) ≡ all
interface_more out out' all fields i xs x at e so_far =
    let rest = interface_rows fields (drop (i + 1) xs) in
    rw e
    (ap (λ (y : List ℕ). y ++ rest) (append_assoc out fields (interface_fields x))
    ∙ append_assoc out (fields ++ interface_fields x) rest ∙ rw (drop_at xs i x at) at so_far)

-- the rows of one server more
pub server_more : (out out' all name : List ℕ) (i : ℕ) (ss : List Server) (s : Server) → slice_get ss i ≡ Some s
    → out' ≡ out ++ interface_rows (server_fields name i s) s.interfaces
    → out ++ server_rows name i (drop i ss) ≡ all → out' ++ server_rows name (i + 1) (drop (i + 1) ss) ≡ all
server_more out out' all name i ss s at e so_far =
    rw e
    (append_assoc out (interface_rows (server_fields name i s) s.interfaces)
    (server_rows name (i + 1) (drop (i + 1) ss)) ∙ rw (drop_at ss i s at) at so_far)
