-- A snapshot that forgets some of its graftable chunks.
use Rattle.std.proofs.Common.{Bool, ◌≡◌, ℕ, zero, suc, ◌+◌, ◌-◌, ◌*◌, ◌^◌, ◌≤◌, List, length, drop, max, sym, ap, ◌∙◌, subst, arith, inl, inr, length-drop}
use Rattle.std.proofs.lemmas.Bool.{cases_lt}
use Rattle.std.proofs.lemmas.List.{drop-drop}
use Rattle.std.proofs.Math.Nat.{add-mul, mul-le-mul_right, zero-mul}
use Rattle.storage_codec.specs.Digests.{HashFunction}
use Rattle.storage_merkle.specs.Hashing.{leaf_digests}
use Rattle.storage_merkle.specs.Kept.{Kept, NodesOver, StandsFor}
use Rattle.storage_merkle.specs.Pace.{ChunksKeepPace}
use Rattle.storage_merkle.specs.Shape.{Laws}
use Rattle.storage_merkle.specs.Trees.{ungrafted}
use Rattle.storage_bitmap.specs.Chunks.{IsChunkSize, IsRest, Retained, bit_count, pruned_to}
use Rattle.storage_current.specs.KeptSnapshots.{StandsForSnapshot}
use Rattle.storage_current.specs.KeptTrees.{AreKept, ArePruned}
use Rattle.storage_current.specs.Laws.Grafting.{chunk_height}
use Rattle.storage_current.specs.NodeLists.{IsOver, plain_over}
use Rattle.storage_current.specs.Snapshots.{Grafting, IsGrafting, IsSnapshot, Snapshot, Witness, graftable, height}
use Rattle.storage_current.proofs.Growing.{trees_told}
use Rattle.storage_current.proofs.MemViews.{KeepsNodes, chunk_node_at, kept_stands, seen_snapshot}

-- the operations of graftable chunks are there
pub graftable_there : (g : Grafting) → Laws g.shape → (n j : ℕ) → j ≤ graftable g n → j * 2 ^ height g ≤ n
graftable_there g L n zero few = omega (arith, zero-mul (2 ^ height g))
graftable_there g L n (suc i) few =
    let at = chunk_node_at g.shape L n (height g) i (omega arith) in
    let step : suc i * 2 ^ height g ≡ i * 2 ^ height g + 2 ^ height g = grind arith in
    omega (arith, step, at.ends)

-- so are their bits
pub chunks_there : {D : Type 0} (g : Grafting) → Laws g.shape → IsChunkSize g.bytes → (m : Kept D) (r : Retained) (chunks : ℕ)
    → ArePruned g m r → chunks ≤ graftable g m.leaves → chunks * (8 * g.bytes) ≤ bit_count g.bytes r
chunks_there g L sized m r chunks pruned few = omega (
  arith,
  ap (λ (x : ℕ). chunks * x) (chunk_height g sized).bits,
  graftable_there g L m.leaves chunks few,
  pruned.all,
)

module _ (n chunks : ℕ) (r : Retained) (there : chunks * (8 * n) ≤ bit_count n r) where
  more_there : (chunks - r.pruned) * (8 * n) ≤ length r.bits
  more_there = elim (cases_lt r.pruned chunks) [
    | inl more ↦
        let e : r.pruned + (chunks - r.pruned) ≡ chunks = omega arith in
        let f : chunks * (8 * n) ≡ r.pruned * (8 * n) + (chunks - r.pruned) * (8 * n) =
        ap (λ (x : ℕ). x * (8 * n)) (sym e) ∙ add-mul r.pruned (chunks - r.pruned) (8 * n) in
        omega (arith, f, there)
    | inr none ↦
        let e : chunks - r.pruned ≡ 0 = omega arith in
        let f : (chunks - r.pruned) * (8 * n) ≡ 0 = ap (λ (x : ℕ). x * (8 * n)) e ∙ zero-mul (8 * n) in
        omega (arith, f)
  ]

  -- no bit is lost of the count
  pub pruned_count : bit_count n (pruned_to n r chunks) ≡ bit_count n r
  pruned_count =
      omega (
        arith,
        add-mul r.pruned (chunks - r.pruned) (8 * n),
        length-drop ((chunks - r.pruned) * (8 * n)) r.bits,
        more_there,
      )

  pub pruned_rest : (bits : List Bool) → IsRest n r bits → IsRest n (pruned_to n r chunks) bits
  pruned_rest bits rest =
      let split : (r.pruned + (chunks - r.pruned)) * (8 * n) ≡ r.pruned * (8 * n) + (chunks - r.pruned) * (8 * n) =
      add-mul r.pruned (chunks - r.pruned) (8 * n) in
      let some : length r.bits ≡ length bits - r.pruned * (8 * n) =
      ap length rest.rest ∙ length-drop (r.pruned * (8 * n)) bits in
      record {
        within = omega (arith, split, some, more_there, rest.within);
        rest = ap (drop ((chunks - r.pruned) * (8 * n))) rest.rest
            ∙ drop-drop ((chunks - r.pruned) * (8 * n)) (r.pruned * (8 * n)) bits
            ∙ ap (λ (i : ℕ). drop i bits) (sym split);
      }

-- operations and bits are pruned alike
pub pruned_alike : {D : Type 0} (g : Grafting) → Laws g.shape → IsChunkSize g.bytes → (old new : Kept D) (r : Retained)
    (chunks : ℕ) → ArePruned g old r → chunks ≤ graftable g old.leaves → new.leaves ≡ old.leaves
    → new.boundary ≡ max old.boundary (chunks * (8 * g.bytes)) → ArePruned g new (pruned_to g.bytes r chunks)
pruned_alike g L sized old new r chunks pruned few leaves boundary =
    let bits : 2 ^ height g ≡ 8 * g.bytes = (chunk_height g sized).bits in
    let there : chunks * (8 * g.bytes) ≤ bit_count g.bytes r = chunks_there g L sized old r chunks pruned few in
    let same : old.boundary ≡ r.pruned * (8 * g.bytes) = pruned.place ∙ ap (λ (x : ℕ). r.pruned * x) bits in
    let place : max old.boundary (chunks * (8 * g.bytes)) ≡ (r.pruned + (chunks - r.pruned)) * (8 * g.bytes) =
    elim (cases_lt r.pruned chunks) [
      | inl more ↦
          let e : r.pruned + (chunks - r.pruned) ≡ chunks = omega arith in
          let up : r.pruned * (8 * g.bytes) ≤ chunks * (8 * g.bytes) = mul-le-mul_right (8 * g.bytes) (omega arith) in
          let f : (r.pruned + (chunks - r.pruned)) * (8 * g.bytes) ≡ chunks * (8 * g.bytes) =
          ap (λ (x : ℕ). x * (8 * g.bytes)) e in
          omega (arith, f, up, same)
      | inr none ↦
          let e : r.pruned + (chunks - r.pruned) ≡ r.pruned = omega arith in
          let down : chunks * (8 * g.bytes) ≤ r.pruned * (8 * g.bytes) = mul-le-mul_right (8 * g.bytes) none in
          let f : (r.pruned + (chunks - r.pruned)) * (8 * g.bytes) ≡ r.pruned * (8 * g.bytes) =
          ap (λ (x : ℕ). x * (8 * g.bytes)) e in
          omega (arith, f, down, same)
    ] in
    record {
      all = pruned_count g.bytes chunks r there ∙ pruned.all ∙ sym leaves;
      place = boundary ∙ place ∙ ap (λ (x : ℕ). (r.pruned + (chunks - r.pruned)) * x) (sym bits);
      few = elim (cases_lt r.pruned chunks) [
        | inl more ↦ omega (arith, few, ap (graftable g) leaves)
        | inr none ↦ omega (arith, pruned.few, ap (graftable g) leaves)
      ];
    }

-- some graftable chunks are forgotten: by the tree over operations, which stands for what it stood for, and by the bits
pub record HasForgotten {D : Type 0} (text : D → List ℕ) (g : Grafting) (old new : Kept D) (before after : Retained)
    (chunks : ℕ) : Type 0 where
  pub few : chunks ≤ graftable g old.leaves
  pub leaves : new.leaves ≡ old.leaves
  pub boundary : new.boundary ≡ max old.boundary (chunks * (8 * g.bytes))
  pub stands : (N : NodesOver) (list : List (List ℕ)) → StandsFor text g.shape N old list → StandsFor text g.shape N new list
  pub status : after ≡ pruned_to g.bytes before chunks

module _ {D : Type 0} (text : D → List ℕ) (h : HashFunction) (g : Grafting) (grafting : IsGrafting g) (old new c : Kept D)
    (before after : Retained) (chunks : ℕ) (kept : AreKept text h g old c before)
    (has : HasForgotten text g old new before after chunks) where
  pub forgotten_kept : AreKept text h g new c after
  forgotten_kept = record {
    sized = kept.sized;
    grown = record {
      few = omega (arith, has.leaves, kept.grown.few);
      list = kept.grown.list;
      stands = has.stands (plain_over h g.shape) kept.grown.list kept.grown.stands;
    };
    pruned = subst (ArePruned g new) (sym has.status)
        (pruned_alike g grafting.laws kept.sized old new before chunks kept.pruned has.few has.leaves has.boundary);
    unpruned = kept.unpruned;
    unpinned = kept.unpinned;
    count = kept.count ∙ ap (graftable g) (sym has.leaves);
    list = kept.list;
    stands = kept.stands;
  }

  -- the snapshot stands as it did
  pub forgotten_stands : ChunksKeepPace g.shape (height g) → KeepsNodes text g.shape old → KeepsNodes text g.shape c
      → KeepsNodes text g.shape new → (s : Snapshot) → IsSnapshot s → (floor : ℕ) (ops_root root : List ℕ) (witness : Witness)
      → StandsForSnapshot h g (seen_snapshot text g old c before floor ops_root root witness) s
      → StandsForSnapshot h g (seen_snapshot text g new c after floor ops_root root witness) s
  unfolding forgotten_kept
  forgotten_stands pace keeps_old keeps_c keeps_new s snapshot floor ops_root root witness stands =
      let told = trees_told text h g grafting old c before kept keeps_old keeps_c s floor ops_root root witness stands in
      let over : IsOver text h g.shape new s.operations =
      has.stands (plain_over h g.shape) (leaf_digests h (ungrafted g.shape) 0 s.operations) told.0 in
      let there : chunks * (8 * g.bytes) ≤ bit_count g.bytes before =
      chunks_there g grafting.laws kept.sized old before chunks kept.pruned has.few in
      let rest : IsRest g.bytes after s.bits = subst (λ r. IsRest g.bytes r s.bits) (sym has.status)
      (pruned_rest g.bytes chunks before there s.bits stands.status) in
      kept_stands text h g pace grafting s snapshot new c after keeps_new keeps_c forgotten_kept over told.1 rest floor
      ops_root root witness stands.floor
      (λ peaks. record { ops_root = stands.ops_root; root = stands.root; witness = stands.witness })
