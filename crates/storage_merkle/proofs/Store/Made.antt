-- A store made from an accepted proof is one of the tree.
use Rattle.std.proofs.Common.{◌≡◌, ℕ, ◌+◌, ◌<◌, List, [], ◌∷◌, ◌++◌, length, map, ◌⊎◌, inl, inr, refl, sym, ap, ap₂, ◌∙◌, arith, subst}
use Rattle.std.proofs.lemmas.List.{map-append}
use Rattle.storage_codec.specs.Digests.{HashFunction, Cross}
use Rattle.storage_merkle.specs.Shape.{Laws}
use Rattle.storage_merkle.specs.Laws.Shape.{no_peaks}
use Rattle.storage_merkle.specs.Calc.{Site, front, back, Values, given}
use Rattle.storage_merkle.specs.declared.merkle.bagging.Bagging.{Bagging}
use Rattle.storage_merkle.specs.declared.merkle.bagging.Bagging.TheVariants.{ForwardFold, BackwardFold}
use Rattle.storage_merkle.specs.Trees.{Layout, Content, Peak, places, peaks_of, folded, unfolded, part, tree_root, tree_strings}
use Rattle.storage_merkle.specs.Chunked.{AreChunks}
use Rattle.storage_merkle.specs.RangeProofs.{Proof, apart, leading, not_leading, up_to, trailing, one_for, check_bag, check_values, check_strings, own_proof, IsAccepted, IsOwn}
use Rattle.storage_merkle.specs.Multi.{tree_digest}
use Rattle.storage_merkle.specs.Extracted.{nodes_in, entries, digest_at}
use Rattle.storage_merkle.specs.Stores.{kept_sites, store_of, IsStoreOf, StoresOfAcceptedProofsAreTrue}
use Rattle.storage_merkle.proofs.Agreeing.{AgreeAll, AgreeBag, agree_bag, agree_append, agree_by_position}
use Rattle.storage_merkle.proofs.RangeSound.{own_values, range_agrees, range_sound}
use Rattle.storage_merkle.proofs.RangeOwn.{append_of, own_agrees}
use Rattle.storage_merkle.proofs.Extracted.{bare, entries_agree, same_in}

fold_agrees : (v w : Values) (s : Site) (ps : List Peak) → AgreeAll v w (one_for (given s) ps) → 0 < length ps
    → v.digest s ≡ w.digest s
fold_agrees v w s [] a l = absurd (omega arith)
fold_agrees v w s (p ∷ ps) a l = a.0

made_of : (h : HashFunction) (T : Layout) (b : Bagging) (proof : Proof) (start : ℕ) (claim content : Content)
    (inactive : ℕ) → proof.leaves ≡ length content.elements → proof.inactive ≡ inactive
    → AgreeBag (check_values h T b proof start claim)
    (own_values h T b content proof.leaves proof.inactive start (start + length claim.elements))
    (check_bag T start (start + length claim.elements) b proof.leaves proof.inactive)
    → IsStoreOf h T (store_of h T b proof start claim) content inactive
made_of h T b proof start claim content inactive en ei a =
    let n = proof.leaves in
    let i = proof.inactive in
    let high = start + length claim.elements in
    let v = check_values h T b proof start claim in
    let w = own_values h T b content n i start high in
    let xs = folded b i (peaks_of T n) in
    let ys = unfolded b i (peaks_of T n) in
    let ns = not_leading start xs in
    let us = up_to high ys in
    let cut = apart start high in
    let both = agree_bag v w _ _ a in
    let fore = agree_append v w (one_for (given front) (leading start xs)) _ both.0 in
    let aft = agree_append v w (map (part T cut) us) _ both.1 in
    let joined : AgreeAll v w (map (part T cut) (ns ++ us)) =
    subst (AgreeAll v w) (sym (map-append (part T cut) ns us)) (append_of v w _ _ fore.1 aft.0) in
    let each = same_in h v w T cut content (λ c. refl) (λ j. refl) (λ c k. refl) (ns ++ us) joined in
    record {
      leaves_are = en;
      inactive_are = ei;
      front_is = λ l. fold_agrees v w front (leading start xs) fore.0 l;
      back_is = λ l. fold_agrees v w back (trailing high ys) aft.1 l;
      kept_are = entries_agree T (digest_at h v T cut) (tree_digest h T content) (kept_sites T b n i start high)
          (agree_by_position (bare (digest_at h v T cut)) (bare (tree_digest h T content)) T
          (nodes_in cut (ns ++ us)) each);
    }

-- no leaves, nothing kept
pub no_kept : (T : Layout) (b : Bagging) (f : Site → List ℕ) (n i low high : ℕ) → T.shape.peaks 0 ≡ [] → n ≡ 0 → i ≡ 0
    → entries T f (kept_sites T b n i low high) ≡ []
no_kept T ForwardFold f n i low high none en ei =
    ap₂ (λ m j. entries T f (kept_sites T ForwardFold m j low high)) en ei ∙ rw none refl
no_kept T BackwardFold f n i low high none en ei =
    ap₂ (λ m j. entries T f (kept_sites T BackwardFold m j low high)) en ei ∙ rw none refl

no_leading : (T : Layout) (b : Bagging) (n i low : ℕ) → T.shape.peaks 0 ≡ [] → n ≡ 0 → i ≡ 0
    → length (leading low (folded b i (peaks_of T n))) ≡ 0
no_leading T ForwardFold n i low none en ei =
    ap₂ (λ m j. length (leading low (folded ForwardFold j (peaks_of T m)))) en ei
    ∙ ap (λ ks. length (leading low (folded ForwardFold 0 (places 0 ks)))) none
no_leading T BackwardFold n i low none en ei =
    ap₂ (λ m j. length (leading low (folded BackwardFold j (peaks_of T m)))) en ei
    ∙ ap (λ ks. length (leading low (folded BackwardFold 0 (places 0 ks)))) none

no_trailing : (T : Layout) (b : Bagging) (n i high : ℕ) → T.shape.peaks 0 ≡ [] → n ≡ 0 → i ≡ 0
    → length (trailing high (unfolded b i (peaks_of T n))) ≡ 0
no_trailing T ForwardFold n i high none en ei = refl
no_trailing T BackwardFold n i high none en ei =
    ap₂ (λ m j. length (trailing high (unfolded BackwardFold j (peaks_of T m)))) en ei
    ∙ ap (λ ks. length (trailing high (unfolded BackwardFold 0 (places 0 ks)))) none

made_of_nothing : (h : HashFunction) (T : Layout) → Laws T.shape
    → (b : Bagging) (proof : Proof) (start : ℕ) (claim content : Content) (inactive : ℕ) → proof.leaves ≡ 0
    → proof.inactive ≡ 0 → proof.leaves ≡ length content.elements → proof.inactive ≡ inactive
    → IsStoreOf h T (store_of h T b proof start claim) content inactive
made_of_nothing h T L b proof start claim content inactive zn zi en ei =
    let none = no_peaks T.shape L in
    let high = start + length claim.elements in
    let n = proof.leaves in
    let i = proof.inactive in
    record {
      leaves_are = en;
      inactive_are = ei;
      front_is = λ l. absurd (omega (arith, no_leading T b n i start none zn zi));
      back_is = λ l. absurd (omega (arith, no_trailing T b n i high none zn zi));
      kept_are = no_kept T b _ n i start high none zn zi
          ∙ sym (no_kept T b (tree_digest h T content) n i start high none zn zi);
    }

-- a store made from a tree's own proof
module _ (h : HashFunction) (T : Layout) (L : Laws T.shape) (b : Bagging) (proof : Proof) (start : ℕ)
    (claim content : Content) (inactive : ℕ) (is : IsOwn h T b proof start claim content inactive) where
  pub made_of_own : 0 < length claim.elements → IsStoreOf h T (store_of h T b proof start claim) content inactive
  made_of_own some =
      let own : Proof = own_proof h T b content inactive start (start + length claim.elements) in
      subst (λ p. IsStoreOf h T (store_of h T b p start claim) content inactive) (sym is.proof_is)
      (made_of h T b own start claim content inactive refl refl
      (own_agrees h T L b start claim content inactive some proof is))

  pub made_of_accepted : (root : List ℕ) → IsAccepted h T b proof start claim root
      → IsStoreOf h T (store_of h T b proof start claim) content inactive
  made_of_accepted root (inl ok) = made_of_own ok.0.some
  made_of_accepted root (inr ok) = made_of_nothing h T L b proof start claim content inactive ok.0.no_leaves
      ok.0.no_inactive (ap (λ (p : Proof). p.leaves) is.proof_is) (ap (λ (p : Proof). p.inactive) is.proof_is)

pub stores_true : StoresOfAcceptedProofsAreTrue
stores_true d h T b proof start claim root sized L wide accepted N grafted same other chunked content inactive chunks
    few peaks at =
    let over : ℕ → Layout = λ n. record { shape = T.shape; position = T.position; grafted = grafted n } in
    let m = length content.elements in
    let chunked' : AreChunks N (over proof.leaves) proof.leaves (apart start (start + length claim.elements)) claim.chunk =
    subst (λ U. AreChunks N U proof.leaves (apart start (start + length claim.elements)) claim.chunk) same chunked in
    let Outcome : Layout → Type 0 = λ U. IsStoreOf h (over m) (store_of h U b proof start claim) content inactive
    ⊎ Cross h (check_strings h U b proof start claim) (tree_strings h (over m) b content inactive) in
    let here : IsAccepted h (over proof.leaves) b proof start claim (tree_root h (over m) b content inactive) =
    subst (λ U. IsAccepted h U b proof start claim (tree_root h (over m) b content inactive)) same
    (subst (IsAccepted h T b proof start claim) (sym at) accepted) in
    let U = over proof.leaves in
    let Made : ℕ → Type 0 = λ n. IsStoreOf h (over n) (store_of h U b proof start claim) content inactive in
    let answer : Outcome U = elim here [
      | inl ok ↦ elim (range_agrees d N h sized other T.shape L T.position grafted b proof start claim wide chunked' content chunks
          inactive few peaks ok.0 ok.1) [
            | inr c ↦ inr c
            | inl r ↦ inl (subst Made r.leaves_are
                (made_of h U b proof start claim content inactive r.leaves_are r.inactive_are r.agree))
          ]
      | inr ok ↦ elim (range_sound d N h sized other T.shape L T.position grafted b proof start claim wide chunked' content chunks
          inactive few peaks (inr ok)) [
            | inr c ↦ inr c
            | inl own ↦
                let en : proof.leaves ≡ m = ap (λ (p : Proof). p.leaves) own.proof_is in
                let ei : proof.inactive ≡ inactive = ap (λ (p : Proof). p.inactive) own.proof_is in
                inl (subst Made en
                (made_of_nothing h U L b proof start claim content inactive ok.0.no_leaves ok.0.no_inactive en ei))
          ]
    ] in
    subst Outcome (sym same) answer
