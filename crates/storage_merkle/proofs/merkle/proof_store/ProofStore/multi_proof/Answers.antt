use Rattle.std.proofs.Common.{None, ap, sym, ◌≡◌, ◌∙◌, subst, inl, inr, map}
use Rattle.storage_merkle.specs.Multi.{Ascend}
use Rattle.storage_merkle.specs.Extracted.{by_bytes}
use Rattle.storage_merkle.specs.Stores.{Store, location_refusal}
use Rattle.storage_merkle.proofs.Store.Steps.{ascends, map_itself, multi_is, multi_digests}
use Rattle.storage_merkle.proofs.merkle.proof_store.ProofStore.multi_proof.Goals as goal

pub needed-requires-clause-rising : goal.needed-requires-clause-rising
needed-requires-clause-rising g c =
    let e : c.as_u64.result ≡ c.as_u64-2.result = c.as_u64.ensures ∙ sym c.as_u64-2.ensures in
    subst (Ascend 0 c.as_u64-2.result) (sym (map_itself c.args.locations.now))
    (subst (λ n. Ascend 0 n c.args.locations.now) e
    (ascends g.row.F.Denot c.as_u64.result 0 c.args.locations.now c.in_default.ensures))

pub returns-in-Ok-clause-given : goal.returns-in-Ok-clause-given
returns-in-Ok-clause-given g c =
    let F = g.row.F.Denot in
    let S = g.F.Family.shape in
    let store = c.args.self.now in
    let peaks = by_bytes g.D.Digest.text c.args.peaks.now in
    let ls = c.args.locations.now in
    let n = c.as_u64-2.result in
    let leaves : n ≡ store.leaves = c.as_u64-2.ensures ∙ ap (λ (v : Store). v.leaves) c.self.view_is in
    let e : c.as_u64.result ≡ n = c.as_u64.ensures ∙ sym c.as_u64-2.ensures in
    let located : location_refusal F 0 n ls ≡ None =
    subst (λ m. location_refusal F 0 m ls ≡ None) e c.in_default.ensures in
    let found = c.deref.ensures.value ∙ c.in_ok-positions.ensures in
    let ds = multi_digests F S store peaks ls c.deref.result.now c.if-is_empty.ensures n leaves located found
    g.D.Digest.text c.in-Ok.digests.items c.in-Ok.ensures.all.1 in (
      multi_is F S store peaks ls c.deref.result.now c.if-is_empty.ensures n leaves located found
          ∙ c.in-Ok.ensures.all.0,
      ap (λ x. record {
        leaves = x;
        inactive = c.self.inside.inactive_peaks;
        digests = map g.D.Digest.text c.in-Ok.digests.items;
      }) (ap (λ (v : Store). v.leaves) c.self.view_is)
          ∙ ap (λ x. record { leaves = store.leaves; inactive = x; digests = map g.D.Digest.text c.in-Ok.digests.items })
          (ap (λ (v : Store). v.inactive) c.self.view_is)
          ∙ ap (λ x. record { leaves = store.leaves; inactive = store.inactive; digests = x }) ds,
    )

pub returns-clause-why : goal.returns-clause-why
returns-clause-why g c =
    let F = g.row.F.Denot in
    let S = g.F.Family.shape in
    let store = c.args.self.now in
    let peaks = by_bytes g.D.Digest.text c.args.peaks.now in
    let ls = c.args.locations.now in
    let n = c.as_u64-2.result in
    let leaves : n ≡ store.leaves = c.as_u64-2.ensures ∙ ap (λ (v : Store). v.leaves) c.self.view_is in
    let e : c.as_u64.result ≡ n = c.as_u64.ensures ∙ sym c.as_u64-2.ensures in
    let located : location_refusal F 0 n ls ≡ None =
    subst (λ m. location_refusal F 0 m ls ≡ None) e c.in_default.ensures in
    let found = c.deref.ensures.value ∙ c.in_ok-positions.ensures in
    elim c.in-Err-digests_at.ensures.why [
      | inl refused ↦
          inl (multi_is F S store peaks ls c.deref.result.now c.if-is_empty.ensures n leaves located found ∙ refused)
      | inr memory ↦ inr memory
    ]
