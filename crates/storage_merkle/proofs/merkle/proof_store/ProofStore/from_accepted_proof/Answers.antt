use Rattle.std.proofs.Common.{◌≡◌, ℕ, ◌+◌, [], ◌≤◌, ◌++◌, List, length, map, drop, option_map, refl, sym, ap, ◌∙◌, arith, rules, subst}
use Rattle.std.proofs.lemmas.List.Sorted.{IsNonDecreasingBy-from_sort_by_key}
use Rattle.storage_merkle.specs.Calc.{Site, front}
use Rattle.storage_merkle.specs.CheckParts.{top_sites}
use Rattle.storage_merkle.specs.Extracted.{entries, by_bytes}
use Rattle.storage_merkle.specs.Rests.{AreFolded, AreAfterLeading, peaks_from}
use Rattle.storage_merkle.specs.StoreParts.{back_among, nodes_among}
use Rattle.storage_merkle.specs.Trees.{Content, Layout, ungrafted}
use Rattle.storage_merkle.proofs.Check.Roots.{Walk, proof_over, after_all}
use Rattle.storage_merkle.proofs.Store.Reads.{all_but_first, enough_some, enough_none, front_some, front_none, rest_digests, rest_some, rest_none, back_is, values}
use Rattle.storage_merkle.proofs.Store.Steps.{positions_rise}
use Rattle.storage_merkle.proofs.Store.Kept.{kept_sorted}
use Rattle.storage_merkle.proofs.Store.Accepted.{store_is, unwrapped}
use Rattle.storage_merkle.proofs.merkle.proof_store.ProofStore.from_accepted_proof.Goals.{After-after_leading-rest, then-rest-gt0, else-rest-gt0}
use Rattle.std.proofs.lemmas.Grind.{common_steps}
use Rattle.storage_merkle.proofs.merkle.proof_store.ProofStore.from_accepted_proof.Given.{Over}
use Rattle.storage_merkle.proofs.merkle.proof_store.ProofStore.from_accepted_proof.Goals as goal

-- the walk past the peaks that lead, for a claim over a range
abbrev walk : (g : Over) (c : After-after_leading-rest g) (T : Layout) → T.shape ≡ g.F.Family.shape → (claim : Content)
    (high : ℕ) → high ≡ c.args.start + length claim.elements → Walk g.F.Family.shape g.D.Digest.text
walk g c T same claim high range =
    let n = c.args.proof.now.leaves in
    let i = c.args.proof.now.inactive_peaks in
    let b = g.H.Hasher.bagging c.args.hasher.now in
    let all = c.all-all.result in
    let r = c.after_leading-rest.result in
    record {
      h = g.H.Hasher.hash_of;
      T = T;
      same = same;
      b = b;
      n = n;
      i = i;
      low = c.args.start;
      elements = claim.elements;
      chunk = claim.chunk;
      items = c.args.proof.now.digests.items;
      high = high;
      f = all.folded;
      a = r.first;
      r = r.left;
      g = r.folded;
      range = range;
      parts = subst (λ m. AreFolded g.F.Family.shape b i m all.folded) c.as_u64.ensures c.all-all.ensures.folded;
      after = subst (λ z. AreAfterLeading g.F.Family.shape z 0 n all.folded r.first r.left r.folded) c.as_u64-2.ensures
          (after_all g.F.Family.shape c.as_u64-2.result n all.folded all.first all.left r.first r.left r.folded
          c.all-all.ensures.first (c.all-all.ensures.left ∙ c.as_u64.ensures) c.after_leading-rest.ensures.after);
    }

pub keep_peaks-requires-clause-enough : goal.keep_peaks-requires-clause-enough
keep_peaks-requires-clause-enough g c =
    let S = g.F.Family.shape in
    let r = c.after_leading-rest.result in
    let start = c.args.start in
    let given = c.requires.fits.0 in
    let w = walk g (goal.at.keep_peaks-requires-clause-enough g c).After-after_leading-rest (ungrafted S) refl given
    c.args.past c.requires.fits.1 in
    let Enough : ℕ → ℕ → Type 0 =
    λ z w. length (top_sites z w (peaks_from S r.first r.left) r.folded) ≤ length c.if-rest-gt0.front_fold.1.now in
    let enough : Enough start c.args.past = elim c.if-rest-gt0.branch [
      | then-rest-gt0 v ↦
          enough_some w given c.requires.fits.1 c.requires.fits.2 v.if-rest-gt0.true c.if-rest-gt0.front_fold.1.now
          (all_but_first v.deref.result.now c.if-rest-gt0.front_fold.1.now _ (ap (λ q. q.1.now) v.front_fold-is)
          (omega arith) ∙ ap (drop 1) v.deref.ensures.value)
      | else-rest-gt0 v ↦
          enough_none w given c.requires.fits.1 c.requires.fits.2 v.if-rest-gt0.false c.if-rest-gt0.front_fold.1.now
          (ap (λ q. q.1.now) v.front_fold-is ∙ v.deref-else-rest-gt0.ensures.value)
    ] in
    subst (λ z. Enough z c.as_u64-4.result) (sym c.as_u64-3.ensures)
    (subst (Enough start) (sym c.as_u64-4.ensures) enough)

pub invariant_of-result : goal.invariant_of-result
invariant_of-result g c =
    let items = c.sort_unstable_by_key.new.self.items in
    let up = IsNonDecreasingBy-from_sort_by_key (λ e. e.0) items c.sort_unstable_by_key.ensures.sorted
    (λ a r q' k. search rules) in
    (c.requires.fits.2.few, positions_rise items up)

pub returns : goal.returns
returns g c = λ T claim same range found.
    let S = g.F.Family.shape in
    let h = g.H.Hasher.hash_of in
    let text = g.D.Digest.text in
    let r = c.after_leading-rest.result in
    let start = c.args.start in
    let high = start + length claim.elements in
    let w = walk g (goal.at.returns g c).After-after_leading-rest T same claim high refl in
    let v = values w in
    let tops_at : ℕ → ℕ → List Site = λ z w. top_sites z w (peaks_from S r.first r.left) r.folded in
    let kept = c.keep_peaks.new.kept.items in
    let Read : ℕ → ℕ → Type 0 = λ z w. (digest : Site → List ℕ) (later : List (List ℕ))
    → map text c.if-rest-gt0.front_fold.1.now ≡ map digest (tops_at z w) ++ later
    → (by_bytes text kept ≡ by_bytes text c.args.found.items ++ entries (ungrafted S) digest (nodes_among (tops_at z w)))
    × (option_map text c.in_ok-back_fold.back_fold ≡ back_among digest (tops_at z w)) in
    let read : Read start high = subst (Read start) range (subst (λ z. Read z c.args.past) c.as_u64-3.ensures (subst
    (Read c.as_u64-3.result) c.as_u64-4.ensures (λ digest later e. c.in_ok-back_fold.ensures digest later e))) in
    let given = c.requires.fits.0 in
    let given_range = sym range ∙ c.requires.fits.1 in
    let fit = c.requires.fits.2 in
    let here : map text c.if-rest-gt0.front_fold.1.now ≡ map v.digest (tops_at start high) ++ rest_digests w =
    elim c.if-rest-gt0.branch [
      | then-rest-gt0 u ↦
          rest_some w given given_range fit u.if-rest-gt0.true c.if-rest-gt0.front_fold.1.now (all_but_first
          u.deref.result.now c.if-rest-gt0.front_fold.1.now _ (ap (λ q. q.1.now) u.front_fold-is) (omega arith)
          ∙ ap (drop 1) u.deref.ensures.value)
      | else-rest-gt0 u ↦
          rest_none w given given_range fit u.if-rest-gt0.false c.if-rest-gt0.front_fold.1.now
          (ap (λ q. q.1.now) u.front_fold-is ∙ u.deref-else-rest-gt0.ensures.value)
    ] in
    let front_is : text c.if-rest-gt0.front_fold.0 ≡ v.digest front = elim c.if-rest-gt0.branch [
      | then-rest-gt0 u ↦ ap (λ q. text q.0) u.front_fold-is
          ∙ front_some w given given_range fit u.if-rest-gt0.true u.index.result.now u.index.ensures
      | else-rest-gt0 u ↦ ap (λ q. text q.0) u.front_fold-is ∙ c.hash-nothing.ensures
          ∙ front_none w given given_range fit u.if-rest-gt0.false
    ] in
    let found_is = read v.digest (rest_digests w) here in
    let back_fold = unwrapped text c.in_ok-back_fold.back_fold c.hash-nothing.result c.unwrap_or.result (h [])
    c.unwrap_or.ensures c.hash-nothing.ensures
    ∙ back_is w given given_range fit (option_map text c.in_ok-back_fold.back_fold) found_is.1 in
    let up = IsNonDecreasingBy-from_sort_by_key (λ e. e.0) c.sort_unstable_by_key.new.self.items
    c.sort_unstable_by_key.ensures.sorted (λ a r q' k. search rules) in
    let all = kept_sorted S g.met.F.Family.laws h w.b w.n w.i start high w.f r.first r.left r.folded w.parts w.after T
    same v text c.args.found.items kept c.sort_unstable_by_key.new.self.items found found_is.0
    c.sort_unstable_by_key.ensures.permutation up in
    store_is h T w.b (proof_over w w.n) start claim c.root_bagging.result c.args.past
    (text c.if-rest-gt0.front_fold.0) (text c.unwrap_or.result) (by_bytes text c.sort_unstable_by_key.new.self.items)
    c.root_bagging.ensures range front_is back_fold all

pub index-requires : goal.index-requires
index-requires g c = grind (arith, common_steps)

pub scale_in_slice-front_fold : goal.scale_in_slice-front_fold
scale_in_slice-front_fold g c = grind (arith, common_steps)

pub slice_bounds-front_fold-count : goal.slice_bounds-front_fold-count
slice_bounds-front_fold-count g c = grind (arith, common_steps)

pub slice_bounds-front_fold-start : goal.slice_bounds-front_fold-start
slice_bounds-front_fold-start g c = grind (arith, common_steps)
