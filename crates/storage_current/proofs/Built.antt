-- A built proof is the snapshot's own.
use Rattle.std.proofs.Common.{◌≡◌, ℕ, ◌+◌, ◌-◌, ◌≤◌, List, length, Option, Some, None, if◌then◌else◌, ltb, eqb, min, refl, sym, ap, ◌∙◌, subst, arith}
use Rattle.std.specs.Option.{option_map}
use Rattle.storage_codec.specs.Digests.{HashFunction}
use Rattle.storage_merkle.specs.declared.merkle.bagging.Bagging.{Bagging}
use Rattle.storage_merkle.specs.declared.merkle.bagging.Bagging.TheVariants.{BackwardFold}
use Rattle.storage_merkle.specs.Inactive.{IsAligned}
use Rattle.storage_merkle.specs.Plans.{PlanOf, IsOwnOfEach}
use Rattle.storage_merkle.specs.RangeProofs.{Proof, own_proof}
use Rattle.storage_bitmap.specs.Chunks.{Retained, chunk}
use Rattle.storage_current.specs.BuiltProofs.{ArePartsOf}
use Rattle.storage_current.specs.Snapshots.{Grafting, Snapshot, height, view, content, aligned_of, first_chunk, RangeProof, own_range_proof, own_operation_proof}
use Rattle.storage_current.proofs.Roots.{AreCounts, aligned_count, kept_chunk, pending_kept, partial_kept}

module _ {D : Type 0} (text : D → List ℕ) (answers : ℕ → Option D → Type 0) (h : HashFunction) (g : Grafting)
    (plan : PlanOf) (status : Retained) (floor : ℕ) (ops_root : List ℕ) (s : Snapshot)
    (parts : ArePartsOf text answers h g plan status floor ops_root s) where
  pub built_inactive : (leaves f k r : ℕ) → height g ≡ k → leaves ≡ plan.leaves → f ≡ min floor plan.leaves
      → IsAligned g.shape leaves f k r → r ≡ aligned_of h g s
  built_inactive leaves f k r level count least x =
      aligned_count h g s k r level (subst (λ m. IsAligned g.shape m s.floor k r) (count ∙ sym parts.count)
      (subst (λ m. IsAligned g.shape leaves m k r) (least ∙ sym parts.floor_is) x))

  pub built_range : (b : Bagging) (inactive : ℕ) (range : Proof) → b ≡ BackwardFold → inactive ≡ aligned_of h g s
      → IsOwnOfEach text answers h g.shape b plan inactive range
      → range ≡ own_proof h (view g (length s.operations)) BackwardFold (content h g s)
      (aligned_of h g s) plan.start plan.end
  built_range b inactive range backward same own =
      let T = view g (length s.operations) in
      own T (content h g s) refl parts.count parts.nodes
      ∙ ap (λ c. own_proof h T c (content h g s) inactive plan.start plan.end) backward
      ∙ ap (λ i. own_proof h T BackwardFold (content h g s) i plan.start plan.end) same

  pub built_current : (range : Proof) (pending partial : Option (List ℕ)) (complete graftable next : ℕ)
      → AreCounts g plan.leaves complete graftable next
      → status.pruned ≤ graftable → graftable ≤ complete
      → range ≡ own_proof h (view g (length s.operations)) BackwardFold (content h g s)
      (aligned_of h g s) plan.start plan.end
      → (out : Option (List ℕ)) → pending ≡ option_map h out → out
      ≡ (if ltb graftable complete then Some (chunk g.bytes status.bits (graftable - status.pruned)) else None)
      → (last : Option (List ℕ)) → partial ≡ option_map h last
      → last ≡ (if eqb next 0 then None else Some (chunk g.bytes status.bits (complete - status.pruned)))
      → record { range = range; pending = pending; partial = partial; ops_root = ops_root }
      ≡ own_range_proof h g s plan.start plan.end
  built_current range pending partial complete graftable next counts kept within range_is out pending_is out_is last
      partial_is last_is =
      let here : AreCounts g (length s.operations) complete graftable next =
      subst (λ n. AreCounts g n complete graftable next) (sym parts.count) counts in
      let p = pending_is
      ∙ ap (option_map h) (pending_kept h g s status parts.bits complete graftable next here out kept out_is) in
      let q = partial_is ∙ ap (option_map h) (partial_kept h g s status parts.bits complete graftable next here last
      (omega (arith, kept, within)) last_is) in
      rw (range_is, p, q, parts.ops_root_is) refl

  pub built_operation : (location : ℕ) (bytes : List ℕ) (range : RangeProof) (index : ℕ) → location ≡ plan.start
      → plan.end ≡ plan.start + 1
      → index ≡ first_chunk g plan.start → status.pruned ≤ index
      → bytes ≡ chunk g.bytes status.bits (index - status.pruned)
      → range ≡ own_range_proof h g s plan.start plan.end
      → record { location = location; chunk = bytes; range = range } ≡ own_operation_proof h g s plan.start
  built_operation location bytes range index at one index_is kept bytes_are range_is =
      let c : bytes ≡ chunk g.bytes s.bits (first_chunk g plan.start) =
      bytes_are ∙ kept_chunk g.bytes status s.bits parts.bits index kept ∙ ap (chunk g.bytes s.bits) index_is in
      let r : range ≡ own_range_proof h g s plan.start (plan.start + 1) =
      range_is ∙ ap (own_range_proof h g s plan.start) one in
      rw (at, c, r) refl

-- the same of an equal plan
pub moved_plan : {D : Type 0} (text : D → List ℕ) (answers : ℕ → Option D → Type 0) (h : HashFunction) (g : Grafting)
    (p q : PlanOf) (status : Retained) (floor : ℕ) (ops_root : List ℕ) (range : RangeProof) → q ≡ p
    → ((s : Snapshot) → ArePartsOf text answers h g q status floor ops_root s
    → range ≡ own_range_proof h g s q.start q.end)
    → (s : Snapshot) → ArePartsOf text answers h g p status floor ops_root s
    → range ≡ own_range_proof h g s p.start p.end
moved_plan text answers h g p q status floor ops_root range same own =
    subst (λ r. (s : Snapshot) → ArePartsOf text answers h g r status floor ops_root s
    → range ≡ own_range_proof h g s r.start r.end) same own
