use Rattle.std.proofs.Common.{◌≡◌, ℕ, ◌≤◌, ◌++◌, List, length, map, ap, sym, subst, ◌∙◌, arith, rules}
use Rattle.std.proofs.lemmas.List.{length-map}
use Rattle.storage_merkle.specs.Multi.{Ascend, claims_of, locations, needed_sites}
use Rattle.storage_merkle.specs.RangeProofs.{Proof}
use Rattle.storage_merkle.specs.Trees.{Layout}
use Rattle.reference.specs.Layouts.{laid_out}
use Rattle.reference.specs.Sites.{site_of}
use Rattle.reference.proofs.Nodes.{length-places}
use Rattle.reference.proofs.MultiParts.{multi_from}
use Rattle.reference.proofs.multi.recomputed_root.Goals as goal

pub returns-then-proof-len : goal.returns-then-proof-len
returns-then-proof-len g c = λ fits.
    let peaks : length c.in_ok-peaks.peaks.items ≡ length (g.F.Family.shape.peaks c.args.proof.now.leaves) =
    ap length c.in_ok-peaks.ensures ∙ length-places 0 (g.F.Family.shape.peaks c.as_u64-leaves.result)
    ∙ ap (λ (n : ℕ). length (g.F.Family.shape.peaks n)) c.as_u64-leaves.ensures in
    absurd (omega (arith, fits.peaks, peaks, c.len.ensures, c.if-proof-len.true))

pub returns : goal.returns
returns g c =
    let h = g.H.Hasher.hash_of in
    let text = g.H.Digest.Digest.text in
    let T : Layout = laid_out g.F.Family.shape (g.G.Grafts.grafted c.args.grafts.now) in
    let b = c.args.bagging in
    let n = c.as_u64-leaves.result in
    let proof : Proof = record {
      leaves = c.args.proof.now.leaves;
      inactive = c.args.proof.now.inactive_peaks;
      digests = map text c.args.proof.now.digests.items;
    } in
    let claims = claims_of g.E.AsSlice.items c.args.claims.now in
    let leaves : n ≡ proof.leaves = c.as_u64-leaves.ensures in
    let places : c.push_locations.new.places.items ≡ locations claims =
    c.in_ok-push_locations.ensures ∙ ap (λ (xs : List ℕ). xs ++ locations claims) c.new-locations.ensures.items in
    let up : Ascend 0 n c.deref.result.now = search rules in
    let rising : Ascend 0 proof.leaves (locations claims) = subst (λ (m : ℕ). Ascend 0 m (locations claims)) leaves
    (subst (λ (ls : List ℕ). Ascend 0 n ls) (c.deref.ensures.value ∙ places) up) in
    let peaks : length c.in_ok-peaks.peaks.items ≡ length (T.shape.peaks n) =
    ap length c.in_ok-peaks.ensures ∙ length-places 0 (T.shape.peaks n) in
    let few_here : proof.inactive ≤ length (T.shape.peaks n) =
    omega (arith, peaks, c.len.ensures, c.if-proof-len.false) in
    let fewer : proof.inactive ≤ length (T.shape.peaks proof.leaves) =
    subst (λ (m : ℕ). proof.inactive ≤ length (T.shape.peaks m)) leaves few_here in
    let at : map site_of c.in_ok-sites.sites.items ≡ needed_sites T (locations claims) n =
    c.in_ok-sites.ensures (g.G.Grafts.grafted c.args.grafts.now)
    ∙ ap (λ (ls : List ℕ). needed_sites T ls n) (c.deref-2.ensures.value ∙ places) in
    let digests : length proof.digests ≡ length c.args.proof.now.digests.items =
    length-map c.args.proof.now.digests.items text in
    let placed : length c.in_ok-sites.sites.items ≡ length (needed_sites T (locations claims) n) =
    sym (length-map c.in_ok-sites.sites.items site_of) ∙ ap length at in
    let count : length proof.digests ≡ length (needed_sites T (locations claims) n) =
    omega (arith, digests, placed, c.len-2.ensures, c.len-3.ensures, c.if-len.false) in
    let listed : c.deref-5.result.now ≡ locations claims = c.deref-5.ensures.value ∙ places in (
      record {
        few = omega (arith, leaves, c.if-leaves-gt-MAX_LEAVES.false);
        peaks = fewer;
        ascending = rising;
        count = count ∙ ap (λ (m : ℕ). length (needed_sites T (locations claims) m)) leaves;
      },
      multi_from h T b proof claims (g.G.Grafts.chunk c.args.grafts.now) n c.deref-5.result.now
          (map site_of c.deref-3.result.now) (map text c.deref-4.result.now) c.deref-6.result.now
          c.split_folded.result.0.now c.split_folded.result.1.now _ (text c.root_over.result)
          leaves listed (c.deref-6.ensures.value ∙ c.in_ok-peaks.ensures)
          c.split_folded.ensures.left c.split_folded.ensures.right
          (ap (map site_of) c.deref-3.ensures.value ∙ at
          ∙ ap (λ (ls : List ℕ). needed_sites T ls n) (sym listed))
          (ap (map text) c.deref-4.ensures.value) c.in_ok-bag.ensures c.root_over.ensures,
    )
