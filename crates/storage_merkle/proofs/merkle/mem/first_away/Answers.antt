use Rattle.std.proofs.Common.{arith, ◌≡◌, ◌≤◌, ◌<◌, ℕ, List, map, length, get_or, slice_index, sym, ap, ◌∙◌, inl, inr, ⊎_elim, subst}
use Rattle.std.proofs.lemmas.List.{get_or-map, length-map}
use Rattle.std.proofs.lemmas.Bool.{cases_lt}
use Rattle.storage_merkle.proofs.merkle.mem.first_away.Goals as goal

-- the leaf of an update
leaf_at : {D : Type 0} (us : List (ℕ × D)) (i : ℕ) (u : ℕ × D) → i < length us → u ≡ get_or us i u
    → u.0 ≡ slice_index (map (λ v. v.0) us) i
leaf_at us i u l e = ap (λ v. v.0) e ∙ sym (get_or-map (λ v. v.0) us i u 0 l)

leaf_of : {D : Type 0} (us : List (ℕ × D)) (i : ℕ) (d : ℕ × D) → i < length us
    → slice_index (map (λ v. v.0) us) i ≡ (get_or us i d).0
leaf_of us i d l = get_or-map (λ v. v.0) us i d 0 l

pub loop-location-init : goal.loop-location-init
loop-location-init g c i l = absurd (omega arith)

pub returns-then-place-leaves : goal.returns-then-place-leaves
returns-then-place-leaves g c = (
  record {
    index = c.loop-location.location-index;
    within = rw length-map (c.loop-location-test.true);
    is = sym (c.as_u64-place.ensures ∙ leaf_at c.args.updates.now c.loop-location.location-index
        c.loop-location-item.result c.loop-location-test.true c.loop-location-item.is);
    before = c.loop-location.invariant;
  },
  ⊎_elim (λ l. inl l) (λ r. inr r.1) c.then-place-leaves.either,
)

pub loop-location-preserved : goal.loop-location-preserved
loop-location-preserved g c i l = ⊎_elim
    (λ (m : i < c.loop-location.location-index). c.loop-location.invariant i m)
    (λ (m : c.loop-location.location-index ≤ i).
    let e : c.loop-location.location-index ≡ i = omega arith in
    let p : c.as_u64-place.result ≡ slice_index (map (λ u. u.0) c.args.updates.now) c.loop-location.location-index =
    c.as_u64-place.ensures ∙ leaf_at c.args.updates.now c.loop-location.location-index c.loop-location-item.result
    c.loop-location-test.true c.loop-location-item.is in
    subst (λ (j : ℕ). (c.args.boundary ≤ slice_index (map (λ u. u.0) c.args.updates.now) j)
    × (slice_index (map (λ u. u.0) c.args.updates.now) j < c.args.leaves)) e (omega (arith, p), omega (arith, p)))
    (cases_lt i c.loop-location.location-index)

pub returns : goal.returns
returns g c i d l =
    let e = leaf_of c.args.updates.now i d l in
    let h = c.loop-location.invariant i (omega arith) in
    (omega (arith, e, h.0), omega (arith, e, h.1))
