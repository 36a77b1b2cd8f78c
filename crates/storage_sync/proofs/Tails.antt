-- A copy with pins, once they have the grafted root of its opening.
use Rattle.std.proofs.Common.{◌≡◌, ◌⊎◌, ◌↔◌, true, ℕ, ◌*◌, ◌/◌, ◌%◌, ◌^◌, ◌<◌, ◌≤◌, Bool, List, drop, length, length-drop, map, refl, inl, inr, sym, ap, subst, ◌∙◌, arith, eqb, eqb-true, eq-eqb}
use Rattle.std.specs.Global.{Vec}
use Rattle.std.proofs.lemmas.List.{length-map}
use Rattle.std.proofs.lemmas.Nat.{shl-shr}
use Rattle.std.proofs.Math.Nat.{mul-div_cancel}
use Rattle.storage_codec.specs.Digests.{HashFunction, IsSized}
use Rattle.storage_merkle.specs.Kept.{Kept, kept_at}
use Rattle.storage_merkle.specs.Laws.Multiples.{is_multiple, quotient}
use Rattle.storage_merkle.specs.Shape.{Laws}
use Rattle.storage_bitmap.specs.Chunks.{IsChunkSize, IsRest, Retained, bit_count}
use Rattle.storage_current.specs.GraftedTrees.{KeptChunks}
use Rattle.storage_current.specs.Laws.Grafting.{chunk_height}
use Rattle.storage_current.specs.Pins.{MeansPins, chunk_pins, operation_pins}
use Rattle.storage_current.specs.Snapshots.{Grafting, IsSnapshot, Snapshot, height}
use Rattle.storage_current.specs.Tails.{AreOwnParts, ArePinned, AreTreesOf}
use Rattle.storage_sync.specs.Beginnings.{IsBeginning}
use Rattle.storage_sync.specs.Floors.{CopiesFromPins, IsCopyFrom}
use Rattle.storage_sync.specs.Openings.{Opening}
use Rattle.storage_sync.specs.Pages.{AreProved, FirstNames, bits_of, operations_of}
use Rattle.storage_sync.specs.Syncs.{place}
use Rattle.storage_sync.specs.Tails.{HasNoSnapshotTail, HasNoTail, IsBehind, MeansCopyFrom, with_floor_of}
use Rattle.storage_sync.specs.declared.sync.unfounded.Unfounded.{Unfounded}
use Rattle.storage_sync.specs.declared.sync.unfounded.Unfounded.TheVariants.{Malformed, FloorPastTheEnd, OtherRoots, Memory}

-- the chunks before an opening are those of the operations before
pub chunks_before : (g : Grafting) → IsChunkSize g.bytes → (o : Opening) (status : Retained)
    → status.pruned * (8 * g.bytes) ≡ o.begin → status.pruned ≡ o.begin / 2 ^ height g
chunks_before g size o status at =
    let wide : status.pruned * 2 ^ height g ≡ status.pruned * (8 * g.bytes) =
    ap (λ (w : ℕ). status.pruned * w) (chunk_height g size).bits in
    sym (shl-shr status.pruned (height g)) ∙ ap (λ (b : ℕ). b / 2 ^ height g) (wide ∙ at)

-- a copy of a snapshot from an opening on has the snapshot's own parts
pub own_parts : (h : HashFunction) (g : Grafting) → IsChunkSize g.bytes → (o : Opening) (operations : List (List ℕ)) (status : Retained)
    → status.pruned * (8 * g.bytes) ≡ o.begin → (s : Snapshot) → IsSnapshot s → IsBeginning g (length s.operations) o.begin
    → IsCopyFrom h g s o.begin operations status.bits o.ops_root o.pins o.over_chunks
    → AreOwnParts h g s o.pins o.over_chunks operations status
own_parts h g size o operations status at s snapshot begins copy =
    let tail = copy.tail in
    record {
      bits_are = record {
        within = omega (arith, at, begins.within, snapshot.bit_each);
        rest = tail.bits_are ∙ ap (λ (b : ℕ). drop b s.bits) (sym at);
      };
      operations_are = tail.operations_are ∙ ap (λ (b : ℕ). drop b s.operations) (sym at);
      pins_are = copy.pins_are ∙ ap (operation_pins h g s) (sym at);
      over_chunks_are = copy.over_chunks_are ∙ ap (chunk_pins h g s) (sym (chunks_before g size o status at));
    }

-- as many operations as byte strings
pub behind_texts : (g : Grafting) (o : Opening) (vs : List (Vec ℕ)) (status : Retained) → IsBehind g o (length vs) status
    → IsBehind g o (length (map (λ v. v.items) vs)) status
behind_texts g o vs status behind =
    subst (λ (n : ℕ). IsBehind g o n status) (sym (length-map vs (λ v. v.items))) behind

-- a place is behind so many chunks of b operations
pub behind_chunks : (p b place : ℕ) → 0 < b → place % b ≡ 0 → (eqb (place / b) p ≡ true) ↔ (p * b ≡ place)
behind_chunks p b place some whole = (
  λ yes. ap (λ (n : ℕ). n * b) (sym (eqb-true (place / b) p yes)) ∙ sym (quotient place b whole),
  λ same. eq-eqb (place / b) p (ap (λ (n : ℕ). n / b) (sym same) ∙ mul-div_cancel p some),
)

pub no_rest : (p b place : ℕ) → 0 < b → p * b ≡ place → place % b ≡ 0
no_rest p b place some same = ap (λ (n : ℕ). n % b) (sym same) ∙ is_multiple p b some

module _ {D : Type 0} (text : D → List ℕ) (law : CopiesFromPins text) (d : ℕ) (h : HashFunction) (width : (d ≡ 32) ⊎ (d ≡ 64))
    (sized : IsSized d h) (g : Grafting) (laws : Laws g.shape) (size : IsChunkSize g.bytes) (o : Opening) (status : Retained)
    (floor : ℕ) (operations : List (List ℕ)) (pins over : List D) (tree : Kept D) (chunks : KeptChunks D)
    (behind : IsBehind g o (length operations) status) (texts : map text over ≡ o.over_chunks)
    (pinned : ArePinned g pins over status tree chunks)
    (bound : MeansPins h text g tree.leaves floor chunks (kept_at g.shape tree.boundary tree.pinned tree.nodes)
    o.witness.grafted_root) where
  pub copy_from : MeansCopyFrom text d h g o operations status.bits floor tree chunks
  copy_from t pages kept whole at same_operations same_bits opened s snapshot same =
      let fit = behind.fit in
      let count : length t.operations ≡ length operations = ap (λ (xs : List (List ℕ)). length xs) same_operations in
      let all : place t ≡ tree.leaves =
      omega (arith, at, count, behind.at, fit.bit_each, pinned.pruned.all) in
      let named : FirstNames tree.leaves pages =
      subst (λ (n : ℕ). FirstNames n pages) all (kept.named (place t) whole) in
      let proved : AreProved h g d t.root o.begin tree.leaves pages =
      subst (λ (n : ℕ). AreProved h g d t.root o.begin n pages) all
      (subst (λ (b : ℕ). AreProved h g d t.root b (place t) pages) at kept.proved) in
      elim (law d h width sized g laws t.root o.begin tree.leaves floor o.ops_root o.witness o.proof o.operations o.pins opened
      pages named proved chunks (kept_at g.shape tree.boundary tree.pinned tree.nodes)
      (pinned.place ∙ chunks_before g size o status behind.at) bound s snapshot same) [
        | inr crossed ↦ inr crossed
        | inl copy ↦ inl (subst (λ (xs : List (List ℕ)). IsCopyFrom h g s o.begin xs status.bits o.ops_root o.pins o.over_chunks)
            (sym kept.operations_are ∙ same_operations)
            (subst (λ (bs : List Bool). IsCopyFrom h g s o.begin (operations_of pages) bs o.ops_root o.pins o.over_chunks)
            (sym kept.bits_are ∙ same_bits)
            (subst (IsCopyFrom h g s o.begin (operations_of pages) (bits_of g.bytes pages) o.ops_root o.pins)
            (ap (map text) pinned.over_chunks_are ∙ texts) copy)))
      ]

-- ---- the snapshot that a copy goes on as

pub own_pinned : {D : Type 0} (g : Grafting) (pins over : List D) (status kept : Retained) (m : Kept D) (t : KeptChunks D)
    → kept ≡ status → ArePinned g pins over status m t → ArePinned g m.pinned t.pinned kept m t
own_pinned g pins over status kept m t same pinned = rw same (record {
  pruned = pinned.pruned;
  pins_are = refl;
  place = pinned.place;
  over_chunks_are = refl;
  all = pinned.all;
})

pub no_snapshot_tail : (h : HashFunction) (g : Grafting) (o : Opening) (operations : List (List ℕ)) (status : Retained) (floor : ℕ)
    (root : List ℕ) (why : Unfounded) → HasNoTail h g o operations status floor why
    → HasNoSnapshotTail h g o operations status floor root why
no_snapshot_tail h g o operations status floor root Malformed none = none
no_snapshot_tail h g o operations status floor root FloorPastTheEnd none = none
no_snapshot_tail h g o operations status floor root OtherRoots none =
    (none.0, none.1, λ s snapshot begins copy same witness root_is. none.2 s snapshot begins copy same witness)
no_snapshot_tail h g o operations status floor root Memory none = tt

-- trees are of operations and bits, whatever the floor
pub trees_of_floor : {D : Type 0} (text : D → List ℕ) (h : HashFunction) (g : Grafting) (s : Snapshot) (floor : ℕ) (m : Kept D)
    (t : KeptChunks D) → AreTreesOf text h g s m t → AreTreesOf text h g (with_floor_of s floor) m t
trees_of_floor text h g s floor m t of = record {
  over = of.over;
  list = of.list;
  grafted = record { count = of.grafted.count; each = of.grafted.each };
  keeps = of.keeps;
}

pub snapshot_of_floor : (g : Grafting) (status : Retained) (s : Snapshot) (floor : ℕ) → IsSnapshot s → IsRest g.bytes status s.bits
    → floor ≤ bit_count g.bytes status → IsSnapshot (with_floor_of s floor)
snapshot_of_floor g status s floor snapshot rest within = record {
  bit_each = snapshot.bit_each;
  floor_within = omega (
    arith,
    within,
    rest.within,
    ap length rest.rest,
    length-drop (status.pruned * (8 * g.bytes)) s.bits,
    snapshot.bit_each,
  );
  few = snapshot.few;
}

pub same_floor : (s : Snapshot) (floor : ℕ) → floor ≡ s.floor → with_floor_of s floor ≡ s
same_floor s floor same = ap (with_floor_of s) same
