-- What a snapshot in memory hands out are its own parts, and no proof of its operations is refused.
use Rattle.std.proofs.Common.{◌≡◌, ℕ, ◌-◌, ◌*◌, ◌<◌, ◌≤◌, ◌⊎◌, List, [], ◌∷◌, length, Option, Some, None, inl, inr, refl, sym, ap, ◌∙◌, subst, arith, length-drop}
use Rattle.std.specs.Option.{option_map}
use Rattle.std.specs.List.{Contains}
use Rattle.std.proofs.lemmas.List.Elements.{Contains-append_right}
use Rattle.std.proofs.Math.Nat.{min-eq_left}
use Rattle.storage_codec.specs.Digests.{HashFunction}
use Rattle.storage_merkle.specs.Laws.Multiples.{quotient_at_least}
use Rattle.storage_merkle.specs.Shape.{Laws, size}
use Rattle.storage_merkle.specs.Plans.{PlanOf, IsFirstAbsent, GreatestNodesArePlanned}
use Rattle.storage_bitmap.specs.Chunks.{Retained, bit_count}
use Rattle.storage_ops.specs.declared.qmdb.error.Error.{Error}
use Rattle.storage_ops.specs.declared.qmdb.error.Error.TheVariants.{OperationPruned, Memory}
use Rattle.storage_current.specs.BuiltProofs.{ArePartsOf, IsNotBuilt}
use Rattle.storage_current.specs.KeptSnapshots.{KeptSnapshot, StandsForSnapshot, pruned_operations}
use Rattle.storage_current.specs.Laws.Retained.{planned_retained, told_true}
use Rattle.storage_current.specs.NodeLists.{IsRetained, told_by}
use Rattle.storage_current.specs.Snapshots.{Grafting, Snapshot, IsSnapshot, first_chunk, graftable, height, ops_root_of, view_node}

-- a first absent position is one of the list, and absent
absent_one : {D : Type 0} (answers : ℕ → Option D → Type 0) (ps : List ℕ) (p : ℕ) → IsFirstAbsent answers ps p
    → Contains ps p × answers p None
absent_one answers [] p a = absurd a
absent_one answers (q ∷ qs) p (inl here) =
    (subst (Contains (q ∷ qs)) (sym here.1) (0, omega arith, refl), subst (λ x. answers x None) (sym here.1) here.0)
absent_one answers (q ∷ qs) p (inr there) = let r = absent_one answers qs p there.2 in
    (Contains-append_right (q ∷ []) qs p r.0, r.1)

module _ {D : Type 0} (text : D → List ℕ) (answers : ℕ → Option D → Type 0) (h : HashFunction) (g : Grafting)
    (laws : Laws g.shape) (greatest : GreatestNodesArePlanned) (plan : PlanOf) (kept : KeptSnapshot) (s : Snapshot)
    (snapshot : IsSnapshot s) (stands : StandsForSnapshot h g kept s) (count : plan.leaves ≡ length s.operations)
    (served : (p : ℕ) (o : Option D) → answers p o → option_map text o ≡ told_by kept.nodes p) where
  parts_of_kept : (floor : ℕ) (ops_root : List ℕ) → floor ≡ s.floor → ops_root ≡ ops_root_of h g s
      → ArePartsOf text answers h g plan kept.status floor ops_root s
  parts_of_kept floor ops_root floor_is root_is =
      record {
        count = sym count;
        bits = stands.status;
        floor_is = sym (min-eq_left (let l = snapshot.floor_within in
            let t : floor ≤ plan.leaves = omega (arith, l, floor_is, count) in t) ∙ floor_is);
        ops_root_is = root_is;
        nodes = λ p a k d planned_there node given.
            told_true g.shape (height g) (pruned_operations g kept.status) (length s.operations) (view_node h g s)
            (told_by kept.nodes) stands.nodes p a k (text d) node (sym (served p (Some d) given));
      }

  pub own_parts : (status : Retained) (floor : ℕ) (ops_root : List ℕ) → status ≡ kept.status → floor ≡ s.floor
      → ops_root ≡ ops_root_of h g s → ArePartsOf text answers h g plan status floor ops_root s
  own_parts status floor ops_root same floor_is root_is = subst (λ r.
      ArePartsOf text answers h g plan r floor ops_root s) (sym same) (parts_of_kept floor ops_root floor_is root_is)

  -- a proof of planned operations from a chunk that is not pruned on is refused for want of memory alone
  pub never_refused : kept.status.pruned ≤ first_chunk g plan.start → {F : Type 0} (error : Error F)
      → IsNotBuilt answers g plan kept.status error → error ≡ Memory
  never_refused from error (inl (p, absent, e)) =
      let one = absent_one answers _ p absent in
      let node = (greatest g.shape laws plan.leaves plan.start plan.end p).0 one.0 in
      let inside = node.3.tree.inside in
      let at = node.2.at in
      let below : p < size g.shape (length s.operations) = omega (arith, inside, at, ap (size g.shape) count) in
      let few : kept.status.pruned ≤ graftable g plan.leaves = omega (arith, stands.pruned, ap (graftable g) count) in
      let retained : IsRetained g.shape (height g) (pruned_operations g kept.status) p node.1 =
      planned_retained greatest g laws plan.leaves plan.start plan.end kept.status.pruned p node.0 node.1 few
      (quotient_at_least kept.status.pruned plan.start (height g) from) one.0 node.2 in
      let told = served p None one.1 ∙ stands.nodes.are p node.0 node.1 node.2 below retained in
      absurd (cc)
  never_refused from error (inr (inl (answered, no_bits, corrupted))) =
      let long : length kept.status.bits ≡ length s.bits - kept.status.pruned * (8 * g.bytes) =
      ap length stands.status.rest ∙ length-drop (kept.status.pruned * (8 * g.bytes)) s.bits in
      let bits : bit_count g.bytes kept.status ≡ plan.leaves =
      omega (arith, long, stands.status.within, snapshot.bit_each, count) in
      absurd (no_bits (record { all = bits; pruned = omega (arith, stands.pruned, ap (graftable g) count) }))
  never_refused from error (inr (inr memory)) = memory

  pub refused_for_memory : kept.status.pruned ≤ first_chunk g plan.start → {F : Type 0} (error : Error F) (status : Retained)
      → status ≡ kept.status
      → ((first_chunk g plan.start < status.pruned) × (error ≡ OperationPruned plan.start))
      ⊎ ((status.pruned ≤ first_chunk g plan.start) × IsNotBuilt answers g plan status error) → error ≡ Memory
  refused_for_memory from error status same (inl pruned) =
      absurd (omega (arith, ap (λ r. r.pruned) same, from, pruned.0))
  refused_for_memory from {F} error status same (inr unpruned) =
      never_refused from error (subst (λ r. IsNotBuilt answers g plan r error) same unpruned.1)
