-- What the answers of a check of a multi proof mean.
use Rattle.std.proofs.Common.{◌≡◌, ◌≢◌, ℕ, ◌↔◌, List, [], ◌∷◌, length, true, false, ◌==◌, refl, sym, ap, ◌∙◌, subst, Option, Some, None}
use Rattle.storage_codec.specs.Digests.{HashFunction}
use Rattle.storage_merkle.specs.declared.merkle.bagging.Bagging.{Bagging}
use Rattle.storage_merkle.specs.Trees.{Layout, listed, empty_root}
use Rattle.storage_merkle.specs.RangeProofs.{Proof, IsEmptyProof}
use Rattle.storage_merkle.specs.Multi.{Claim, claims_of, default_proof, IsMultiAccepted}
use Rattle.storage_merkle.specs.MultiParts.{IsMultiRecomputed}
use Rattle.storage_merkle.proofs.Multi.Needed.{is_empty, not_empty}

default_is : (proof : Proof) → proof.leaves ≡ 0 → proof.inactive ≡ 0 → proof.digests ≡ [] → proof ≡ default_proof
default_is proof en ei ed =
    ap (λ n. record { leaves = n; inactive = proof.inactive; digests = proof.digests }) en
    ∙ ap (λ i. record { leaves = 0; inactive = i; digests = proof.digests }) ei
    ∙ ap (λ ds. record { leaves = 0; inactive = 0; digests = ds }) ed

module _ (h : HashFunction) (T : Layout) (b : Bagging) (proof : Proof) (chunk : ℕ → List ℕ) (root : List ℕ) where
  -- no claims
  nothing_accepted : (start : ℕ) → start ≡ 0 → (IsEmptyProof h T b proof start (listed []) × (empty_root h T b ≡ root))
      ↔ IsMultiAccepted h T b proof [] chunk root
  nothing_accepted start zero = (
    λ x. (default_is proof x.0.no_leaves x.0.no_inactive x.0.no_digests, x.1),
    λ a. (
      record {
        none = refl;
        no_leaves = ap (λ (p : Proof). p.leaves) a.0;
        no_inactive = ap (λ (p : Proof). p.inactive) a.0;
        no_start = zero;
        no_digests = ap (λ (p : Proof). p.digests) a.0;
      },
      a.1,
    ),
  )

  -- some claims: the root is the one that the check recomputes
  some_accepted : (claims : List Claim) → claims ≢ [] → (computed : Option (List ℕ))
      → IsMultiRecomputed h T b proof claims chunk computed
      → (computed ≡ Some root) ↔ IsMultiAccepted h T b proof claims chunk root
  some_accepted [] some computed r = absurd (some refl)
  some_accepted (c ∷ cs) some None r = (λ e. cc, λ a. absurd (r a.0))
  some_accepted (c ∷ cs) some (Some y) r = (
    λ e. let same : y ≡ root = cc in (r.0, sym r.1 ∙ same),
    λ a. ap (λ z. Some z) (r.1 ∙ a.1),
  )

  module _ {E : Type 0} (items : E → List ℕ) (cs : List (E × ℕ)) where
    pub accepted_none : (start : ℕ) → start ≡ 0 → true ≡ (length cs == 0) → (IsEmptyProof h T b proof start (listed [])
        × (empty_root h T b ≡ root)) ↔ IsMultiAccepted h T b proof (claims_of items cs) chunk root
    accepted_none start zero none =
        subst (λ ds. (IsEmptyProof h T b proof start (listed []) × (empty_root h T b ≡ root)) ↔ IsMultiAccepted h T b
        proof (claims_of items ds) chunk root) (sym (is_empty cs none)) (nothing_accepted start zero)

    pub accepted_claims : false ≡ (length cs == 0) → (computed : Option (List ℕ))
        → IsMultiRecomputed h T b proof (claims_of items cs) chunk computed
        → (computed ≡ Some root) ↔ IsMultiAccepted h T b proof (claims_of items cs) chunk root
    accepted_claims some = some_accepted (claims_of items cs) (go cs (not_empty cs some))
      where
        go : (ds : List (E × ℕ)) → ds ≢ [] → claims_of items ds ≢ []
        go [] ne = absurd (ne refl)
        go (d ∷ ds) ne = λ e. absurd (cc)
