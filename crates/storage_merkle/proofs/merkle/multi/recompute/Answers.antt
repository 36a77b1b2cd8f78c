use Rattle.std.proofs.Common.{arith, true, ◌≡◌, ◌<◌, ◌≤◌, ◌^◌, length, map, sym, ap, ◌∙◌, subst}
use Rattle.storage_merkle.specs.CheckParts.{Serves}
use Rattle.storage_merkle.specs.Multi.{Ascend, claims_of, locations, needed_sites, multi_values}
use Rattle.storage_merkle.specs.Rests.{peaks_from}
use Rattle.storage_merkle.specs.Trees.{ungrafted}
use Rattle.storage_merkle.proofs.Siblings.{positions, not_both}
use Rattle.storage_merkle.proofs.Multi.Checks.{too_many_leaves, not_ascending, other_count, served, fit, root_is, rising_claims, needed_present, needed_rise}
use Rattle.storage_merkle.proofs.Multi.Claims.{locations-claims}
use Rattle.storage_merkle.proofs.Multi.Nodes.{values_in}
use Rattle.storage_merkle.proofs.merkle.multi.recompute.Goals as goal
use Rattle.storage_merkle.proofs.merkle.multi.recompute.Goals.{then-leaves-gt-MAX_LEAVES-via-then-leaves-gt-MAX_LEAVES, then-leaves-gt-MAX_LEAVES-via-else-leaves-gt-MAX_LEAVES+then-not-ascend}

pub returns-then-leaves-gt-MAX_LEAVES : goal.returns-then-leaves-gt-MAX_LEAVES
returns-then-leaves-gt-MAX_LEAVES g c =
    let same = g.met.H.Hasher.over c.args.hasher.now in
    elim c.then-leaves-gt-MAX_LEAVES.branch [
      | then-leaves-gt-MAX_LEAVES-via-then-leaves-gt-MAX_LEAVES w ↦
          let over : 2 ^ 62 < c.as_u64-leaves.result = w.if-leaves-gt-MAX_LEAVES.true in
          too_many_leaves g.F.Family.shape g.met.F.Family.laws g.H.Hasher.hash_of
          (g.H.Hasher.layout c.args.hasher.now) same (g.H.Hasher.bagging c.args.hasher.now) c.args.proof.now.leaves
          c.args.proof.now.inactive_peaks g.E.AsSlice.items c.args.claims.now (g.H.Hasher.chunk c.args.hasher.now)
          g.H.Digest.Digest.text c.args.proof.now.digests.items (omega (arith, c.as_u64-leaves.ensures))
      | then-leaves-gt-MAX_LEAVES-via-else-leaves-gt-MAX_LEAVES+then-not-ascend w ↦
          not_ascending g.F.Family.shape g.met.F.Family.laws g.H.Hasher.hash_of
          (g.H.Hasher.layout c.args.hasher.now) same (g.H.Hasher.bagging c.args.hasher.now) c.args.proof.now.leaves
          c.args.proof.now.inactive_peaks g.E.AsSlice.items c.args.claims.now
          (g.H.Hasher.chunk c.args.hasher.now) g.H.Digest.Digest.text c.args.proof.now.digests.items
          (λ up. let t : w.ascend.result ≡ true = w.ascend.ensures.1
          (subst (λ n. Ascend 0 n (map (λ c. c.1) c.args.claims.now)) (sym c.as_u64-leaves.ensures) up) in
          not_both w.ascend.result t w.if-not-ascend.true)
    ]

pub returns-then-len : goal.returns-then-len
returns-then-len g c =
    let same = g.met.H.Hasher.over c.args.hasher.now in
    let S = g.F.Family.shape in
    let U = ungrafted S in
    let ls = map (λ c. c.1) c.args.claims.now in
    let found = c.in_ok-positions.ensures ∙ ap (λ n. positions U (needed_sites U ls n)) c.as_u64-leaves.ensures in
    other_count S g.met.F.Family.laws g.H.Hasher.hash_of (g.H.Hasher.layout c.args.hasher.now) same
    (g.H.Hasher.bagging c.args.hasher.now) c.args.proof.now.leaves c.args.proof.now.inactive_peaks g.E.AsSlice.items
    c.args.claims.now (g.H.Hasher.chunk c.args.hasher.now) g.H.Digest.Digest.text c.args.proof.now.digests.items
    c.in_ok-positions.positions.items found
    (λ e. c.if-len.true (omega (arith, c.len.ensures, c.len-2.ensures)))

pub peaks-requires-clause-given : goal.peaks-requires-clause-given
peaks-requires-clause-given g c =
    let ls = map (λ c. c.1) c.args.claims.now in
    record {
      few = c.if-leaves-gt-MAX_LEAVES.false;
      rising = needed_rise g.F.Family.shape g.met.F.Family.laws ls c.as_u64-leaves.result c.deref.result.now
          (c.deref.ensures.value ∙ c.in_ok-positions.ensures);
      enough = let as_many : c.len.result ≡ c.len-2.result = c.if-len.false in
          omega (arith, c.deref.ensures.len, c.deref-2.ensures.len, c.len.ensures, c.len-2.ensures);
    }

pub peaks-requires-clause-rising : goal.peaks-requires-clause-rising
peaks-requires-clause-rising g c = rising_claims g.E.AsSlice.items c.args.claims.now c.as_u64-leaves.result
    c.as_u64-leaves.result (omega arith) (c.ascend.ensures.0 c.if-not-ascend.false)

pub peaks-requires-clause-present : goal.peaks-requires-clause-present
peaks-requires-clause-present g c =
    let S = g.F.Family.shape in
    let cs = c.args.claims.now in
    let found = c.deref.ensures.value ∙ c.in_ok-positions.ensures ∙ ap (λ ls. positions (ungrafted S)
    (needed_sites (ungrafted S) ls c.as_u64-leaves.result)) (sym (locations-claims g.E.AsSlice.items cs)) in
    needed_present S g.met.F.Family.laws
    (locations (claims_of g.E.AsSlice.items cs)) c.as_u64-leaves.result c.deref.result.now found

pub returns : goal.returns
returns g c =
    let same = g.met.H.Hasher.over c.args.hasher.now in
    let S = g.F.Family.shape in
    let U = ungrafted S in
    let text = g.H.Digest.Digest.text in
    let ls = map (λ c. c.1) c.args.claims.now in
    let digests = c.args.proof.now.digests.items in
    let values = multi_values g.H.Hasher.hash_of (g.H.Hasher.layout c.args.hasher.now)
    (g.H.Hasher.bagging c.args.hasher.now) (record {
      leaves = c.args.proof.now.leaves;
      inactive = c.args.proof.now.inactive_peaks;
      digests = map text digests;
    })
    (claims_of g.E.AsSlice.items c.args.claims.now) (g.H.Hasher.chunk c.args.hasher.now) in
    let found = c.in_ok-positions.ensures ∙ ap (λ n. positions U (needed_sites U ls n)) c.as_u64-leaves.ensures in
    let as_many : length c.in_ok-positions.positions.items ≡ length digests =
    (let same_count : c.len.result ≡ c.len-2.result = c.if-len.false in omega (arith, c.len.ensures, c.len-2.ensures)) in
    let serves = served S g.met.F.Family.laws g.H.Hasher.hash_of (g.H.Hasher.layout c.args.hasher.now) same
    (g.H.Hasher.bagging c.args.hasher.now) c.args.proof.now.leaves c.args.proof.now.inactive_peaks g.E.AsSlice.items
    c.args.claims.now (g.H.Hasher.chunk c.args.hasher.now) g.H.Digest.Digest.text c.args.proof.now.digests.items
    c.in_ok-positions.positions.items found as_many in
    let serves' : Serves S values.digest c.deref.result.now (map text c.deref-2.result.now) =
    rw (c.deref.ensures.value, c.deref-2.ensures.value) serves in
    let peaks = ap (map text) c.deref-3.ensures.value ∙ c.in_ok-peaks.ensures.exact values.digest serves'
    ∙ ap (λ n. values_in g.E.AsSlice.items g.H.Hasher.hash_of (g.H.Hasher.layout c.args.hasher.now) values.digest
    (g.H.Hasher.chunk c.args.hasher.now) c.args.claims.now (peaks_from S 0 n)) c.as_u64-leaves.ensures in
    let few : c.args.proof.now.leaves ≤ 2 ^ 62 = (let few_leaves = c.if-leaves-gt-MAX_LEAVES.false in
    omega (arith, c.as_u64-leaves.ensures)) in
    let up = subst (λ n. Ascend 0 n ls) c.as_u64-leaves.ensures (c.ascend.ensures.0 c.if-not-ascend.false) in
    let inactive : c.args.proof.now.inactive_peaks ≤ length (S.peaks c.args.proof.now.leaves) =
    (let most = c.if-proof-peak_count.false in
    omega (arith, c.peak_count.ensures, ap (λ n. length (S.peaks n)) c.as_u64-leaves.ensures)) in (
      fit S g.met.F.Family.laws g.H.Hasher.hash_of (g.H.Hasher.layout c.args.hasher.now) same
          (g.H.Hasher.bagging c.args.hasher.now) c.args.proof.now.leaves c.args.proof.now.inactive_peaks
          g.E.AsSlice.items c.args.claims.now (g.H.Hasher.chunk c.args.hasher.now) g.H.Digest.Digest.text
          c.args.proof.now.digests.items c.in_ok-positions.positions.items found as_many few up inactive,
      root_is S g.met.F.Family.laws g.H.Hasher.hash_of (g.H.Hasher.layout c.args.hasher.now) same
          (g.H.Hasher.bagging c.args.hasher.now) c.args.proof.now.leaves c.args.proof.now.inactive_peaks
          g.E.AsSlice.items c.args.claims.now (g.H.Hasher.chunk c.args.hasher.now) g.H.Digest.Digest.text
          c.args.proof.now.digests.items c.in_ok-positions.positions.items found as_many (text c.root.result)
          (map text c.deref-3.result.now) peaks c.root.ensures,
    )
