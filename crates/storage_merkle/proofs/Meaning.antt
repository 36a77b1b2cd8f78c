-- What the answers of a check mean.
use Rattle.std.proofs.Common.{◌≡◌, ℕ, ◌+◌, ◌<◌, ◌↔◌, ◌⊎◌, inl, inr, List, [], ◌∷◌, length, map, option_map, ◌==◌, eqb-true, Bool, true, false, refl, sym, ap, ◌∙◌, arith, subst, Option, Some, None}
use Rattle.std.specs.Option.{option_eq}
use Rattle.storage_codec.specs.Digests.{HashFunction, IsSized, Cross}
use Rattle.storage_merkle.specs.Shape.{Laws}
use Rattle.storage_merkle.specs.declared.merkle.bagging.Bagging.{Bagging}
use Rattle.storage_merkle.specs.Trees.{Layout, Content, empty_root, tree_root, tree_strings}
use Rattle.storage_merkle.specs.Chunked.{AreChunks}
use Rattle.storage_merkle.specs.RangeProofs.{Proof, apart, AreDigests, IsEmptyProof, IsAccepted, IsOwn, check_strings}
use Rattle.storage_merkle.specs.Checks.{IsRecomputed, IsProved}
use Rattle.storage_merkle.proofs.RangeSound.{range_sound}
use Rattle.storage_merkle.proofs.Siblings.{not_both}

module _ (h : HashFunction) (T : Layout) (b : Bagging) (proof : Proof) (start : ℕ) (claim : Content)
    (root : List ℕ) where
  -- an accepted proof is one of each tree with that root
  pub accepted_proved : (d : ℕ) → IsSized d h → Laws T.shape → AreDigests d proof.digests
      → IsAccepted h T b proof start claim root → IsProved d h T b proof start claim root
  accepted_proved d sized L wide accepted N grafted same other chunked content inactive chunks few peaks at =
      let over : ℕ → Layout = λ n. record { shape = T.shape; position = T.position; grafted = grafted n } in
      let m = length content.elements in
      let here : IsAccepted h (over proof.leaves) b proof start claim (tree_root h (over m) b content inactive) =
      subst (λ U. IsAccepted h U b proof start claim (tree_root h (over m) b content inactive)) same
      (subst (IsAccepted h T b proof start claim) (sym at) accepted) in
      subst (λ U. IsOwn h (over m) b proof start claim content inactive
      ⊎ Cross h (check_strings h U b proof start claim) (tree_strings h (over m) b content inactive)) (sym same)
      (range_sound d N h sized other T.shape L T.position grafted b proof start claim wide (subst (λ U. AreChunks N U proof.leaves
      (apart start (start + length claim.elements)) claim.chunk) same chunked) content chunks inactive few peaks here)

  -- no elements
  pub accepted_nothing : claim.elements ≡ []
      → (IsEmptyProof h T b proof start claim × (empty_root h T b ≡ root)) ↔ IsAccepted h T b proof start claim root
  accepted_nothing e = (
    λ x. inr x,
    λ a. elim a [
      | inl x ↦ let some = x.0.some in absurd (omega (arith, ap length e))
      | inr x ↦ x
    ],
  )

  -- some elements: the root is the one that the check recomputes
  pub accepted_some : 0 < length claim.elements → (computed : Option (List ℕ))
      → IsRecomputed h T b proof start claim computed → (computed ≡ Some root) ↔ IsAccepted h T b proof start claim root
  accepted_some some None r = (
    λ e. cc,
    λ a. elim a [
      | inl x ↦ absurd (r x.0)
      | inr x ↦ absurd (let none = x.0.none in omega (arith, ap length none))
    ],
  )
  accepted_some some (Some y) r = (
    λ e. let same : y ≡ root = cc in inl (r.0, sym r.1 ∙ same),
    λ a. elim a [
      | inl x ↦ ap (λ z. Some z) (r.1 ∙ x.1)
      | inr x ↦ absurd (let none = x.0.none in omega (arith, ap length none))
    ],
  )

pub chained : {A B C : Type 0} → (A ↔ B) → (B ↔ C) → (A ↔ C)
chained f g = (λ a. g.0 (f.0 a), λ c. f.1 (g.1 c))

pub no_elements : {E : Type 0} (items : E → List ℕ) (es : List E) → true ≡ (length es == 0) → map items es ≡ []
no_elements items [] e = refl
no_elements items (x ∷ es) e = absurd (let none = eqb-true (length (x ∷ es)) 0 (sym e) in omega arith)

pub some_elements : {E : Type 0} (items : E → List ℕ) (es : List E) → false ≡ (length es == 0)
    → 0 < length (map items es)
some_elements items [] e = cc
some_elements items (x ∷ es) e = omega arith

-- digests are equal exactly where their bytes are
pub same_option : {D : Type 0} (eq : D → D → Bool) (text : D → List ℕ)
    → ((x y : D) → (eq x y ≡ true) ↔ (text x ≡ text y)) → (o : Option D) (r : D) (b : Bool)
    → b ≡ option_eq eq o (Some r) → (b ≡ true) ↔ (option_map text o ≡ Some (text r))
same_option eq text same None r b e = (λ t. absurd (not_both b t e), λ n. cc)
same_option eq text same (Some x) r b e = (
  λ t. ap (λ y. Some y) ((same x r).0 (sym e ∙ t)),
  λ n. let texts : text x ≡ text r = cc in e ∙ (same x r).1 texts,
)
