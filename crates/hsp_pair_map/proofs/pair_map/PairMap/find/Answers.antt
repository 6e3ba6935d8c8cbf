use Rattle.std.proofs.Common.{◌≡◌, ◌-◌, arith}
use Rattle.hsp_pair_map.proofs.Finding.{entry_read, searched_first, searched_next, before_less, found_there}
use Rattle.hsp_pair_map.proofs.Finding.{found_nowhere, found_ordered}
use Rattle.hsp_pair_map.proofs.pair_map.PairMap.find.Goals as goal

pub chain-init : goal.chain-init
chain-init c =
    let m = c.self.inside in
    λ held.
    searched_first m.octets.items m.entries.items m.lasts.items m.rest.entries held _ c.bucket_of-bucket.result
    (rw (c.len.ensures, m.lasts.ok.0) at c.bucket_of-bucket.ensures.within) c.index-number.result.now
    c.index-number.ensures

pub index-entry-requires : goal.index-entry-requires
index-entry-requires c = omega (arith, (c.chain.invariant c.self.invariant).within, c.chain-test.true)

pub is_pair-requires-clause-span : goal.is_pair-requires-clause-span
is_pair-requires-clause-span c =
    let m = c.self.inside in
    let searched = c.chain.invariant c.self.invariant in
    let entry =
    entry_read m.entries.items c.chain.number c.index-entry.result.now searched.within c.chain-test.true
    c.index-entry.ensures in
    rw (c.deref.ensures.value, entry.2) (c.self.invariant.each (c.chain.number - 1) entry.1).span

pub is_pair-requires-clause-held : goal.is_pair-requires-clause-held
is_pair-requires-clause-held c =
    let m = c.self.inside in
    let searched = c.chain.invariant c.self.invariant in
    let entry =
    entry_read m.entries.items c.chain.number c.index-entry.result.now searched.within c.chain-test.true
    c.index-entry.ensures in
    rw (c.deref.ensures.value, entry.2) (c.self.invariant.each (c.chain.number - 1) entry.1).mark

pub returns-then-is_pair-clause-found : goal.returns-then-is_pair-clause-found
returns-then-is_pair-clause-found c =
    let m = c.self.inside in
    let searched = c.chain.invariant c.self.invariant in
    let entry =
    entry_read m.entries.items c.chain.number c.index-entry.result.now searched.within c.chain-test.true
    c.index-entry.ensures in
    rw (← c.self.view_is)
    (found_there m.octets.items m.entries.items m.lasts.items m.rest.entries c.self.invariant _ _
    (rw (c.len.ensures, m.lasts.ok.0) at c.bucket_of-bucket.ensures.within) (c.chain.number - 1) entry.1
    (rw (c.deref.ensures.value, entry.2) at c.is_pair.ensures.0 c.if-is_pair.true))

pub chain-smaller : goal.chain-smaller
chain-smaller c =
    let m = c.self.inside in
    let searched = c.chain.invariant c.self.invariant in
    let entry =
    entry_read m.entries.items c.chain.number c.index-entry.result.now searched.within c.chain-test.true
    c.index-entry.ensures in
    let less =
    before_less m.octets.items m.entries.items m.lasts.items m.rest.entries c.self.invariant _ _
    (rw (c.len.ensures, m.lasts.ok.0) at c.bucket_of-bucket.ensures.within) c.chain.number (c.chain.number - 1) entry.0
    searched in
    rw entry.2 (omega (arith, less, entry.0))

pub chain-preserved : goal.chain-preserved
chain-preserved c =
    let m = c.self.inside in
    let searched = c.chain.invariant c.self.invariant in
    let entry =
    entry_read m.entries.items c.chain.number c.index-entry.result.now searched.within c.chain-test.true
    c.index-entry.ensures in
    rw entry.2 (λ held.
    searched_next m.octets.items m.entries.items m.lasts.items m.rest.entries held _ _
    (rw (c.len.ensures, m.lasts.ok.0) at c.bucket_of-bucket.ensures.within) c.chain.number
    (c.chain.number - 1) entry.0 (c.chain.invariant held)
    (λ same. let is = rw (c.deref.ensures.value, entry.2) at c.is_pair.ensures.1 same in absurd cc))

pub returns-clause-found : goal.returns-clause-found
returns-clause-found c =
    let m = c.self.inside in
    rw (← c.self.view_is)
    (found_ordered m.octets.items m.entries.items m.lasts.items m.rest.entries c.self.invariant _ _
    (rw (c.len.ensures, m.lasts.ok.0) at c.bucket_of-bucket.ensures.within) _ c.find_ordered.ensures)

pub returns-clause-none : goal.returns-clause-none
returns-clause-none c =
    let m = c.self.inside in
    let zero : c.chain.number ≡ 0 = omega (arith, c.chain-test.false) in
    rw (← c.self.view_is)
    (found_nowhere m.octets.items m.entries.items m.lasts.items m.rest.entries c.self.invariant _ _
    (rw (c.len.ensures, m.lasts.ok.0) at c.bucket_of-bucket.ensures.within)
    (rw (c.len.ensures, m.lasts.ok.0, c.hash_of-hash.ensures) at c.bucket_of-bucket.ensures.bucket)
    (rw zero at (c.chain.invariant c.self.invariant)) _ c.find_ordered.ensures)
