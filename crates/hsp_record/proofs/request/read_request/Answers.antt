use Rattle.std.proofs.Common.{◌≡◌, ℕ, List, Ok, refl, ap, ◌∙◌}
use Rattle.std.specs.Int.{w32}
use Rattle.hsp_record.specs.Reading.{times_at, number_at, run_at, list_at, request_at}
use Rattle.hsp_record.proofs.Codec.{gave}
use Rattle.hsp_record.proofs.request.read_request.Goals as goal

pub returns : goal.returns
unfolding request_at list_at
returns c =
    let i = c.in_ok-rest.ensures in
    let t = c.in_ok-rest-2.ensures in
    let indices : times_at (number_at w32) c.in_ok-index_count.index_count c.in_ok-index_count.rest.now
    ≡ Ok (i.0.0, c.in_ok-rest.rest.now) = i.2 ∙ ap (λ (rest : List ℕ). gave i.0.0 rest) i.1 in
    let types : times_at run_at c.in_ok-type_count.type_count c.in_ok-type_count.rest.now
    ≡ Ok (t.0.0, c.in_ok-rest-2.rest.now) = t.2 ∙ ap (λ (rest : List ℕ). gave t.0.0 rest) t.1 in (
      (record { handle = c.in_ok-handle.handle.now; indices = i.0.0; types = t.0.0 }, c.in_ok-rest-2.rest.now),
      (refl, refl),
      rw (c.in_ok-handle.ensures, c.in_ok-index_count.ensures, indices, c.in_ok-type_count.ensures, types) refl,
    )
