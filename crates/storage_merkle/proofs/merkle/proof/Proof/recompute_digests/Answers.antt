use Rattle.std.proofs.Common.{rules, ap, sym, subst, map, length, Some, option_map, ◌+◌, ◌≡◌}
use Rattle.std.proofs.lemmas.List.Sorted.{IsNonDecreasingBy-from_sort_by_key}
use Rattle.storage_merkle.specs.Checks.{IsRecomputed}
use Rattle.storage_merkle.specs.Shape.{Laws}
use Rattle.storage_merkle.specs.Extracted.{checked_sites, digest_at, extracted, by_bytes}
use Rattle.storage_merkle.specs.RangeProofs.{apart, check_values}
use Rattle.storage_merkle.proofs.Extracted.{aligned_checked}
use Rattle.storage_merkle.proofs.ExtractedEntries.{sorted_entries, taken, on_proof}
use Rattle.storage_merkle.proofs.merkle.proof.Proof.recompute_digests.Goals as goal

pub returns-clause-root : goal.returns-clause-root
returns-clause-root g c =
    let r = subst (λ o. IsRecomputed g.H.Hasher.hash_of (g.H.Hasher.layout c.args.hasher.now)
    (g.H.Hasher.bagging c.args.hasher.now) (record {
      leaves = c.lent.result.leaves;
      inactive = c.lent.result.inactive_peaks;
      digests = map g.D.Digest.text c.lent.result.digests.now;
    }) c.args.start
    (record { elements = map g.E.AsSlice.items c.args.elements.now; chunk = g.H.Hasher.chunk c.args.hasher.now })
    (option_map g.D.Digest.text o)) c.in-Some-Some.is-0 c.in_ok-root.ensures.root in
    on_proof (λ p. IsRecomputed g.H.Hasher.hash_of (g.H.Hasher.layout c.args.hasher.now)
    (g.H.Hasher.bagging c.args.hasher.now) p c.args.start (record {
      elements = map g.E.AsSlice.items
          c.args.elements.now;
      chunk = g.H.Hasher.chunk c.args.hasher.now;
    }) (Some (g.D.Digest.text c.in-Some-Some.root)))
    c.lent.result.leaves c.args.self.now.leaves c.lent.result.inactive_peaks c.args.self.now.inactive_peaks
    (map g.D.Digest.text c.lent.result.digests.now) (map g.D.Digest.text c.args.self.now.digests.items)
    c.lent.ensures.leaves c.lent.ensures.inactive (ap (map g.D.Digest.text) c.lent.ensures.digests) r

pub returns-clause-digests : goal.returns-clause-digests
returns-clause-digests g c =
    let same = g.met.H.Hasher.over c.args.hasher.now in
    let h = g.H.Hasher.hash_of in
    let T = g.H.Hasher.layout c.args.hasher.now in
    let high = c.args.start + length (map g.E.AsSlice.items c.args.elements.now) in
    let values = check_values g.H.Hasher.hash_of (g.H.Hasher.layout c.args.hasher.now)
    (g.H.Hasher.bagging c.args.hasher.now) (record {
      leaves = c.lent.result.leaves;
      inactive = c.lent.result.inactive_peaks;
      digests = map g.D.Digest.text c.lent.result.digests.now;
    }) c.args.start
    (record { elements = map g.E.AsSlice.items c.args.elements.now; chunk = g.H.Hasher.chunk c.args.hasher.now }) in
    let L = subst Laws (sym same) g.met.F.Family.laws in
    let sites = checked_sites T c.lent.result.leaves c.args.start high in
    let found = taken _ c.new.result c.in-Some-Some.digests c.recompute.new.found c.in_ok-root.root c.in-Some-Some.root
    _ c.in-Some-Some.is-0 c.in-Some-Some.is-1 (ap (by_bytes g.D.Digest.text) c.new.ensures.items)
    c.in_ok-root.ensures.found in
    let up = IsNonDecreasingBy-from_sort_by_key (λ e. e.0) c.sort_unstable_by_key.new.self.items
    c.sort_unstable_by_key.ensures.sorted (λ a r q' k. search rules) in
    let all = sorted_entries T L (digest_at h values T (apart c.args.start high)) g.D.Digest.text sites
    (aligned_checked T L c.lent.result.leaves c.args.start high) c.in-Some-Some.digests.items
    c.sort_unstable_by_key.new.self.items found c.sort_unstable_by_key.ensures.permutation up in
    on_proof (λ p. by_bytes g.D.Digest.text c.sort_unstable_by_key.new.self.items ≡ extracted g.H.Hasher.hash_of
    (g.H.Hasher.layout c.args.hasher.now) (g.H.Hasher.bagging c.args.hasher.now) p c.args.start
    (record { elements = map g.E.AsSlice.items c.args.elements.now; chunk = g.H.Hasher.chunk c.args.hasher.now }))
    c.lent.result.leaves c.args.self.now.leaves c.lent.result.inactive_peaks c.args.self.now.inactive_peaks
    (map g.D.Digest.text c.lent.result.digests.now) (map g.D.Digest.text c.args.self.now.digests.items)
    c.lent.ensures.leaves c.lent.ensures.inactive (ap (map g.D.Digest.text) c.lent.ensures.digests) all
