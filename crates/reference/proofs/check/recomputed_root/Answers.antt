use Rattle.std.proofs.Common.{arith, ◌≡◌, ℕ, ◌+◌, ◌≤◌, length, map, ap, sym, subst, ◌∙◌}
use Rattle.std.proofs.lemmas.List.{length-map}
use Rattle.storage_merkle.specs.RangeProofs.{Proof, sites}
use Rattle.storage_merkle.specs.Trees.{Layout, Content}
use Rattle.reference.specs.Layouts.{laid_out}
use Rattle.reference.specs.Sites.{site_of}
use Rattle.reference.proofs.Nodes.{length-places}
use Rattle.reference.proofs.Claims.{recomputed_from, some_elements}
use Rattle.std.proofs.lemmas.Grind.{common_steps}
use Rattle.reference.proofs.check.recomputed_root.Goals as goal

pub returns-then-proof-len : goal.returns-then-proof-len
returns-then-proof-len g c = λ fits.
    let peaks : length c.in_ok-peaks.peaks.items ≡ length (g.F.Family.shape.peaks c.args.proof.now.leaves) =
    ap length c.in_ok-peaks.ensures ∙ length-places 0 (g.F.Family.shape.peaks c.as_u64-leaves.result)
    ∙ ap (λ (n : ℕ). length (g.F.Family.shape.peaks n)) c.as_u64-leaves.ensures in
    absurd (omega (arith, fits.peaks, peaks, c.len.ensures, c.if-proof-len.true))

pub sites-requires-clause-inactive : goal.sites-requires-clause-inactive
sites-requires-clause-inactive g c =
    let peaks : length c.in_ok-peaks.peaks.items ≡ length (g.F.Family.shape.peaks c.as_u64-leaves.result) =
    ap length c.in_ok-peaks.ensures ∙ length-places 0 (g.F.Family.shape.peaks c.as_u64-leaves.result) in
    omega (arith, peaks, c.len.ensures, c.if-proof-len.false)

pub returns : goal.returns
returns g c =
    let h = g.H.Hasher.hash_of in
    let text = g.H.Digest.Digest.text in
    let T : Layout = laid_out g.F.Family.shape (g.G.Grafts.grafted c.args.grafts.now) in
    let b = c.args.bagging in
    let n = c.as_u64-leaves.result in
    let proof : Proof = record {
      leaves = c.args.proof.now.leaves;
      inactive = c.args.proof.now.inactive_peaks;
      digests = map text c.args.proof.now.digests.items;
    } in
    let claim : Content =
    record { elements = map g.E.AsSlice.items c.args.elements.now; chunk = g.G.Grafts.chunk c.args.grafts.now } in
    let elements : length claim.elements ≡ length c.args.elements.now =
    length-map c.args.elements.now g.E.AsSlice.items in
    let end : c.in-Some.end ≡ c.args.start + length claim.elements = omega (arith, c.in-Some.ensures, elements) in
    let leaves : n ≡ proof.leaves = c.as_u64-leaves.ensures in
    let peaks : length c.in_ok-peaks.peaks.items ≡ length (T.shape.peaks n) =
    ap length c.in_ok-peaks.ensures ∙ length-places 0 (T.shape.peaks n) in
    let few_here : proof.inactive ≤ length (T.shape.peaks n) =
    omega (arith, peaks, c.len.ensures, c.if-proof-len.false) in
    let fewer : proof.inactive ≤ length (T.shape.peaks proof.leaves) =
    subst (λ (m : ℕ). proof.inactive ≤ length (T.shape.peaks m)) leaves few_here in
    let at : map site_of c.in_ok-sites.sites.items ≡ sites T c.args.start c.in-Some.end b n proof.inactive =
    c.in_ok-sites.ensures (g.G.Grafts.grafted c.args.grafts.now) in
    let digests : length proof.digests ≡ length c.args.proof.now.digests.items =
    length-map c.args.proof.now.digests.items text in
    let placed : length c.in_ok-sites.sites.items ≡ length (sites T c.args.start c.in-Some.end b n proof.inactive) =
    sym (length-map c.in_ok-sites.sites.items site_of) ∙ ap length at in
    let count : length proof.digests ≡ length (sites T c.args.start c.in-Some.end b n proof.inactive) =
    omega (arith, digests, placed, c.len-2.ensures, c.len-3.ensures, c.if-len.false) in (
      record {
        few = omega (arith, leaves, c.if-leaves-gt-MAX_LEAVES.false);
        peaks = fewer;
        some = some_elements g.E.AsSlice.items c.args.elements.now c.if-is_empty.ensures;
        within = omega (arith, end, leaves, c.if-end-leaves.false);
        count = count ∙ ap (λ (m : ℕ). length (sites T c.args.start m b n proof.inactive)) end ∙ ap
            (λ (m : ℕ). length (sites T c.args.start (c.args.start + length claim.elements) b m proof.inactive)) leaves;
      },
      recomputed_from h T b proof c.args.start claim n c.in-Some.end (map site_of c.deref.result.now)
          (map text c.deref-2.result.now) c.deref-3.result.now c.split_folded.result.0.now c.split_folded.result.1.now _
          (text c.root_over.result)
          leaves end (c.deref-3.ensures.value
          ∙ c.in_ok-peaks.ensures) c.split_folded.ensures.left c.split_folded.ensures.right
          (ap (map site_of) c.deref.ensures.value ∙ at)
          (ap (map text) c.deref-2.ensures.value) c.in_ok-bag.ensures c.root_over.ensures,
    )

pub returns-in_default : goal.returns-in_default
returns-in_default g c = grind (arith, common_steps)

pub returns-then-is_empty : goal.returns-then-is_empty
returns-then-is_empty g c = grind (arith, common_steps)

pub returns-then-len : goal.returns-then-len
returns-then-len g c = grind (arith, common_steps)
