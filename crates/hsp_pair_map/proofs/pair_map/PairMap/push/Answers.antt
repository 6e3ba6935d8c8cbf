use Rattle.std.proofs.Common.{◌≡◌, ◌∙◌, ◌+◌, ◌<◌, ◌^◌, ◌++◌, ◌∷◌, [], length, map, append_assoc, ap, arith}
use Rattle.std.proofs.lemmas.Result.{err_from_is_err_and}
use Rattle.std.proofs.lemmas.List.{get_or_default, length-append, length-map, length_push}
use Rattle.std.specs.Prelude.{IfErr, OnOk, slice_set}
use Rattle.hsp_pair_map.specs.Held.{AreHeld, pair_in}
use Rattle.hsp_pair_map.specs.declared.pair_map.Entry.{Entry}
use Rattle.hsp_pair_map.proofs.Adding.{held_still, held_added, pairs_still, pairs_added, last_inside, last_short}
use Rattle.hsp_pair_map.proofs.Adding.{held_either, kept_either, pairs_either}
use Rattle.hsp_pair_map.proofs.pair_map.PairMap.push.Goals as goal

pub invariant_of-self-in_err-extend_from_slice-2 : goal.invariant_of-self-in_err-extend_from_slice-2
invariant_of-self-in_err-extend_from_slice-2 c =
    let m = c.self.inside in
    rw (c.in_err-extend_from_slice-2.ensures.items, c.in_ok-extend_from_slice.ensures.items)
    (held_still m.octets.items c.args.first.now m.entries.items m.lasts.items m.rest.entries c.self.invariant)

pub returns-in_err-extend_from_slice-2-clause-kept : goal.returns-in_err-extend_from_slice-2-clause-kept
returns-in_err-extend_from_slice-2-clause-kept c =
    let m = c.self.inside in
    let p =
    err_from_is_err_and c.from_residual-in_err-extend_from_slice-2.result
    c.from_residual-in_err-extend_from_slice-2.ensures.1 in
    rw (p.1, c.in_err-extend_from_slice-2.ensures.items, c.in_ok-extend_from_slice.ensures.items)
    (pairs_still m.octets.items c.args.first.now m.entries.items m.lasts.items m.rest.entries c.self.invariant
    ∙ c.self.view_is)

pub invariant_of-self-in_err-push : goal.invariant_of-self-in_err-push
invariant_of-self-in_err-push c =
    let m = c.self.inside in
    let whole : c.extend_from_slice-2.new.self.items ≡ m.octets.items ++ (c.args.first.now ++ c.args.second.now) =
    c.in_ok-extend_from_slice-2.ensures.items ∙ ap (λ t. t ++ c.args.second.now) c.in_ok-extend_from_slice.ensures.items
    ∙ append_assoc m.octets.items c.args.first.now c.args.second.now in
    rw (whole, c.in_err-push.ensures.items)
    (held_still m.octets.items (c.args.first.now ++ c.args.second.now) m.entries.items m.lasts.items m.rest.entries
    c.self.invariant)

pub invariant_of-self-in_default : goal.invariant_of-self-in_default
invariant_of-self-in_default c =
    let m = c.self.inside in
    let whole : c.extend_from_slice-2.new.self.items ≡ m.octets.items ++ (c.args.first.now ++ c.args.second.now) =
    c.in_ok-extend_from_slice-2.ensures.items ∙ ap (λ t. t ++ c.args.second.now) c.in_ok-extend_from_slice.ensures.items
    ∙ append_assoc m.octets.items c.args.first.now c.args.second.now in
    rw whole
    (held_still m.octets.items (c.args.first.now ++ c.args.second.now) m.entries.items m.lasts.items m.rest.entries
    c.self.invariant)

pub returns-in_default-clause-kept : goal.returns-in_default-clause-kept
returns-in_default-clause-kept c =
    let m = c.self.inside in
    let whole : c.extend_from_slice-2.new.self.items ≡ m.octets.items ++ (c.args.first.now ++ c.args.second.now) =
    c.in_ok-extend_from_slice-2.ensures.items ∙ ap (λ t. t ++ c.args.second.now) c.in_ok-extend_from_slice.ensures.items
    ∙ append_assoc m.octets.items c.args.first.now c.args.second.now in
    rw whole
    (pairs_still m.octets.items (c.args.first.now ++ c.args.second.now) m.entries.items m.lasts.items m.rest.entries
    c.self.invariant ∙ c.self.view_is)

pub returns-in_err-push-clause-kept : goal.returns-in_err-push-clause-kept
returns-in_err-push-clause-kept c =
    let m = c.self.inside in
    let p = err_from_is_err_and c.from_residual-in_err-push.result c.from_residual-in_err-push.ensures.1 in
    let whole : c.extend_from_slice-2.new.self.items ≡ m.octets.items ++ (c.args.first.now ++ c.args.second.now) =
    c.in_ok-extend_from_slice-2.ensures.items ∙ ap (λ t. t ++ c.args.second.now) c.in_ok-extend_from_slice.ensures.items
    ∙ append_assoc m.octets.items c.args.first.now c.args.second.now in
    rw (p.1, whole, c.in_err-push.ensures.items)
    (pairs_still m.octets.items
    (c.args.first.now ++ c.args.second.now) m.entries.items m.lasts.items m.rest.entries c.self.invariant
    ∙ c.self.view_is)

pub chain_length-length-requires-clause-last : goal.chain_length-length-requires-clause-last
chain_length-length-requires-clause-last c =
    let m = c.self.inside in
    rw c.deref.ensures.value
    (last_inside m.octets.items m.entries.items m.lasts.items m.rest.entries c.self.invariant c.bucket_of-bucket.result
    (rw (c.len-2.ensures, m.lasts.ok.0) at c.bucket_of-bucket.ensures.within) c.index-last.result.now
    (c.index-last.ensures ∙ get_or_default m.lasts.items c.bucket_of-bucket.result c.index-last.result.now 0
    (rw (c.len-2.ensures, m.lasts.ok.0) at c.bucket_of-bucket.ensures.within)))

pub chain_length-length-requires-clause-short : goal.chain_length-length-requires-clause-short
chain_length-length-requires-clause-short c =
    let m = c.self.inside in
    rw c.deref.ensures.value
    (last_short m.octets.items m.entries.items m.lasts.items m.rest.entries c.self.invariant c.bucket_of-bucket.result
    (rw (c.len-2.ensures, m.lasts.ok.0) at c.bucket_of-bucket.ensures.within) c.index-last.result.now
    (c.index-last.ensures ∙ get_or_default m.lasts.items c.bucket_of-bucket.result c.index-last.result.now 0
    (rw (c.len-2.ensures, m.lasts.ok.0) at c.bucket_of-bucket.ensures.within)))

-- the pair's octets, its entry and its number, where its bucket is full
beside : (c : goal.After-push_apart) →
    AreHeld c.extend_from_slice-2.new.self.items c.push_apart.new.entries.items c.self.inside.lasts.items
    c.push_apart.new.rest.entries
    × OnOk c.push_apart.result (map (pair_in c.extend_from_slice-2.new.self.items) c.push_apart.new.entries.items
    ≡ c.args.self.now ++ record { first = c.args.first.now; second = c.args.second.now } ∷ [])
    × IfErr c.push_apart.result (λ _.
    map (pair_in c.extend_from_slice-2.new.self.items) c.push_apart.new.entries.items ≡ c.args.self.now)
beside c =
    let m = c.self.inside in
    let whole : c.extend_from_slice-2.new.self.items ≡ (m.octets.items ++ c.args.first.now) ++ c.args.second.now =
    c.in_ok-extend_from_slice-2.ensures.items
    ∙ ap (λ t. t ++ c.args.second.now) c.in_ok-extend_from_slice.ensures.items in
    let start : c.len-start.result ≡ length m.octets.items = c.len-start.ensures ∙ m.octets.ok.0 in
    let cut : c.len-cut.result ≡ length m.octets.items + length c.args.first.now =
    c.len-cut.ensures ∙ c.extend_from_slice.new.self.ok.0
    ∙ rw c.in_ok-extend_from_slice.ensures.items (length-append m.octets.items c.args.first.now) in
    let end : c.in-Ok.end ≡ length m.octets.items + length c.args.first.now + length c.args.second.now =
    c.in-Ok.ensures.1 ∙ c.len.ensures ∙ c.extend_from_slice-2.new.self.ok.0 ∙ rw whole
    (length-append (m.octets.items ++ c.args.first.now) c.args.second.now
    ∙ ap (λ n. n + length c.args.second.now) (length-append m.octets.items c.args.first.now)) in
    let few : length m.entries.items + 1 < 2 ^ 32 =
    rw (← c.self.view_is, length-map m.entries.items (pair_in m.octets.items)) at c.requires in
    let new = c.push_apart.new.rest.entries in
    let entry : Entry =
    record {
      mark = c.mark_of.result;
      depth = 0;
      before = 0;
      start = c.len-start.result;
      cut = c.len-cut.result;
      end = c.in-Ok.end;
    } in
    rw (whole, ← c.self.view_is) (
      held_either m.octets.items c.args.first.now c.args.second.now m.entries.items m.lasts.items m.rest.entries
          c.self.invariant entry start cut end _ new c.hash_of-hash.result c.hash_of-hash.ensures c.mark_of.ensures
          (omega arith) few c.push_apart.result c.push_apart.ensures.added c.push_apart.ensures.own
          c.push_apart.ensures.others c.push_apart.ensures.same c.push_apart.ensures.kept,
      pairs_either m.octets.items c.args.first.now c.args.second.now m.entries.items m.lasts.items m.rest.entries
          c.self.invariant entry start cut end _ new c.push_apart.result c.push_apart.ensures.added,
      kept_either m.octets.items c.args.first.now c.args.second.now m.entries.items m.lasts.items m.rest.entries
          c.self.invariant entry start cut end _ new c.push_apart.result c.push_apart.ensures.same,
    )

pub invariant_of-self-then-length-ge-LONGEST_CHAIN : goal.invariant_of-self-then-length-ge-LONGEST_CHAIN
invariant_of-self-then-length-ge-LONGEST_CHAIN c = (beside c).0

pub returns-then-length-ge-LONGEST_CHAIN-clause-added : goal.returns-then-length-ge-LONGEST_CHAIN-clause-added
returns-then-length-ge-LONGEST_CHAIN-clause-added c = (beside c).1

pub returns-then-length-ge-LONGEST_CHAIN-clause-kept : goal.returns-then-length-ge-LONGEST_CHAIN-clause-kept
returns-then-length-ge-LONGEST_CHAIN-clause-kept c = (beside c).2

-- the pair's octets, its entry and the last entry of its bucket
added : (c : goal.After-self-1) →
    AreHeld c.extend_from_slice-2.new.self.items c.push.new.self.items
    (slice_set c.self.inside.lasts.items c.bucket_of-bucket.result c.len-3.result) c.self.inside.rest.entries
    × (map (pair_in c.extend_from_slice-2.new.self.items) c.push.new.self.items
    ≡ c.args.self.now ++ record { first = c.args.first.now; second = c.args.second.now } ∷ [])
added c =
    let m = c.self.inside in
    let whole : c.extend_from_slice-2.new.self.items ≡ (m.octets.items ++ c.args.first.now) ++ c.args.second.now =
    c.in_ok-extend_from_slice-2.ensures.items
    ∙ ap (λ t. t ++ c.args.second.now) c.in_ok-extend_from_slice.ensures.items in
    let start : c.len-start.result ≡ length m.octets.items = c.len-start.ensures ∙ m.octets.ok.0 in
    let cut : c.len-cut.result ≡ length m.octets.items + length c.args.first.now =
    c.len-cut.ensures ∙ c.extend_from_slice.new.self.ok.0
    ∙ rw c.in_ok-extend_from_slice.ensures.items (length-append m.octets.items c.args.first.now) in
    let end : c.in-Ok.end ≡ length m.octets.items + length c.args.first.now + length c.args.second.now =
    c.in-Ok.ensures.1 ∙ c.len.ensures ∙ c.extend_from_slice-2.new.self.ok.0 ∙ rw whole
    (length-append (m.octets.items ++ c.args.first.now) c.args.second.now
    ∙ ap (λ n. n + length c.args.second.now) (length-append m.octets.items c.args.first.now)) in
    let many : c.len-3.result ≡ length m.entries.items + 1 =
    c.len-3.ensures ∙ c.push.new.self.ok.0 ∙ rw c.in_ok-push.ensures.items (length_push m.entries.items _) in
    let few : length m.entries.items + 1 < 2 ^ 32 =
    rw (← c.self.view_is, length-map m.entries.items (pair_in m.octets.items)) at c.requires in
    rw (whole, c.in_ok-push.ensures.items, many, ← c.self.view_is) (
      held_added m.octets.items c.args.first.now c.args.second.now m.entries.items m.lasts.items m.rest.entries
          c.self.invariant _
          start cut end
          c.hash_of-hash.result c.hash_of-hash.ensures c.mark_of.ensures c.bucket_of-bucket.result
          (rw (c.len-2.ensures, m.lasts.ok.0) at c.bucket_of-bucket.ensures.bucket)
          (rw (c.len-2.ensures, m.lasts.ok.0) at c.bucket_of-bucket.ensures.within)
          (c.index-last.ensures ∙ get_or_default m.lasts.items c.bucket_of-bucket.result c.index-last.result.now 0
          (rw (c.len-2.ensures, m.lasts.ok.0) at c.bucket_of-bucket.ensures.within))
          c.chain_length-length.ensures.none
          (rw c.deref.ensures.value at c.chain_length-length.ensures.some)
          (omega (arith, c.if-length-ge-LONGEST_CHAIN.false)) few,
      pairs_added m.octets.items c.args.first.now c.args.second.now m.entries.items m.lasts.items m.rest.entries
          c.self.invariant _
          start cut end,
    )

pub invariant_of-self-2 : goal.invariant_of-self-2
invariant_of-self-2 c = (added c).0

pub returns-clause-added : goal.returns-clause-added
returns-clause-added c = (added c).1
