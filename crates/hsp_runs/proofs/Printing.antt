-- Lists printed element by element, and answers that are passed on.
use Rattle.std.proofs.Common.{◌≡◌, ◌++◌, ◌+◌, ◌∙◌, ℕ, List, drop, sym, true, Option, Some, None, Result, Ok, Err}
use Rattle.std.proofs.Common.{append_assoc, refl}
use Rattle.std.specs.Prelude.{slice_get, option_map, Vec}
use Rattle.std.specs.declared.alloc.Global.{Global}
use Rattle.hsp_record.specs.Site.{Server}
use Rattle.hsp_record.specs.Values.{HandleValue}
use Rattle.hsp_instance.specs.Instance.{Site}
use Rattle.hsp_instance.proofs.Lists.{drop_at}
use Rattle.hsp_runs.specs.Locate.{site_line, site_lines}
use Rattle.hsp_inputs.specs.declared.fault.Fault.{Fault}
use Rattle.hsp_inputs.specs.declared.fault.Fault.TheVariants as fault
use Rattle.hsp_runs.specs.SiteText.{server_line, server_lines, is_site_value, IsFound, IsRecordRun, IsValueRun}

-- one server more is printed
pub server_more : (out out' all : List ℕ) (i : ℕ) (ss : List Server) (s : Server) → slice_get ss i ≡ Some s
    → out' ≡ out ++ server_line i s →
    out ++ server_lines i (drop i ss) ≡ all → out' ++ server_lines (i + 1) (drop (i + 1) ss) ≡ all
server_more out out' all i ss s at e told =
    rw e (append_assoc out (server_line i s) (server_lines (i + 1) (drop (i + 1) ss)) ∙ rw (drop_at ss i s at) at told)

-- the line of one site more is printed
site_more_at : (out out' all handle : List ℕ) (i : ℕ) (ss : List Site) (found : Option Site) → slice_get ss i ≡ found →
    option_map (λ site. out ++ site_line handle site) found ≡ Some out' → out ++ site_lines handle (drop i ss) ≡ all
    → out' ++ site_lines handle (drop (i + 1) ss) ≡ all
site_more_at out out' all handle i ss None at e told = absurd cc
site_more_at out out' all handle i ss (Some s) at e told =
    let same : out ++ site_line handle s ≡ out' = cc in
    rw (sym same)
    (append_assoc out (site_line handle s) (site_lines handle (drop (i + 1) ss)) ∙ rw (drop_at ss i s at) at told)

-- one line more is printed
pub site_more : (out out' all handle : List ℕ) (i : ℕ) (ss : List Site)
    → option_map (λ site. out ++ site_line handle site) (slice_get ss i) ≡ Some out' →
    out ++ site_lines handle (drop i ss) ≡ all → out' ++ site_lines handle (drop (i + 1) ss) ≡ all
site_more out out' all handle i ss e told = site_more_at out out' all handle i ss (slice_get ss i) refl e told

-- the answer on a value's record is the answer on the value
pub in_value : (octets : List ℕ) (index : ℕ) (v : HandleValue) (answer : Result (Vec ℕ Global) Fault)
    → IsFound octets index (Some v) → is_site_value v ≡ true →
    IsRecordRun v.octets answer → IsValueRun octets index answer
in_value octets index v (Ok text) found is run = (v, found, is, run)
in_value octets index v (Err fault.OutOfMemory) found is run = tt
in_value octets index v (Err (fault.Site e)) found is run = (v, found, is, run)
in_value octets index v (Err e) found is run = absurd run
