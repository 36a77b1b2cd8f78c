use Rattle.std.proofs.Common.{◌≡◌, ◌≤◌, ◌*◌, ◌/◌, ◌^◌, ℕ, ap, ap₂, sym, ◌∙◌, arith, max, min}
use Rattle.std.proofs.lemmas.Nat.{shl-shr}
use Rattle.storage_bitmap.specs.Chunks.{pruned_to}
use Rattle.storage_current.specs.Laws.Grafting.{chunk_height, height_of_power}
use Rattle.storage_current.specs.SnapshotTails.{KeptTail}
use Rattle.storage_current.specs.Snapshots.{Grafting, graftable, height}
use Rattle.storage_current.specs.WitnessWire.{witness_of}
use Rattle.storage_current.proofs.Forgetting.{HasForgotten, chunks_there}
use Rattle.storage_current.proofs.MemViews.{failed, succeeded}
use Rattle.storage_current.proofs.SnapshotTails.{seen_tail, tail_forgotten, tail_forgotten_of, tail_stands, tail_told}
use Rattle.storage_current.proofs.qmdb.current.snapshot_tail.SnapshotTail.prune.Goals as goal

pub overflow_mul-bits-2 : goal.overflow_mul-bits-2
overflow_mul-bits-2 g c =
    let G : Grafting = record { shape = g.F.Family.shape; bytes = g.row.N } in
    let old = c.self.invariant in
    let m0 = c.self.inside.operations in
    let chunks : ℕ = c.min-chunks.result in
    let few : chunks ≤ graftable G m0.leaves =
    omega (arith, c.min-chunks.ensures, c.as_u64-4.ensures, c.leaves.ensures, old.count) in
    omega (
      arith,
      chunks_there G g.met.F.Family.laws old.sized m0 c.self.inside.status chunks old.pruned few,
      old.pruned.all,
      old.few,
    )

pub prune_to_bit-requires : goal.prune_to_bit-requires
prune_to_bit-requires g c =
    let G : Grafting = record { shape = g.F.Family.shape; bytes = g.row.N } in
    let old = c.self.invariant in
    let m0 = c.self.inside.operations in
    let chunks : ℕ = c.min-chunks.result in
    let few : chunks ≤ graftable G m0.leaves =
    omega (arith, c.min-chunks.ensures, c.as_u64-4.ensures, c.leaves.ensures, old.count) in
    (omega (arith, old.sized.1), chunks_there G g.met.F.Family.laws old.sized m0 c.self.inside.status chunks old.pruned few)

pub invariant_of-self : goal.invariant_of-self
invariant_of-self g c =
    rw (failed c.prune.result _ (sym c.if-is_err.ensures.value) c.prune.ensures.same) c.self.invariant

pub returns-then-is_err-clause-same : goal.returns-then-is_err-clause-same
returns-then-is_err-clause-same g c =
    let text = g.H.Digest.Digest.text in
    let G : Grafting = record { shape = g.F.Family.shape; bytes = g.row.N } in
    let it = c.self.inside in
    ap (λ m. seen_tail text m it.chunks it.status it.floor (text it.ops_root) (text it.root) (witness_of text it.witness))
    (failed c.prune.result _ (sym c.if-is_err.ensures.value) c.prune.ensures.same) ∙ c.self.view_is

pub invariant_of-self-2 : goal.invariant_of-self-2
invariant_of-self-2 g c =
    let text = g.H.Digest.Digest.text in
    let G : Grafting = record { shape = g.F.Family.shape; bytes = g.row.N } in
    let old = c.self.invariant in
    let m0 = c.self.inside.operations in
    let m1 = c.prune.new.self in
    let chunks : ℕ = c.min-chunks.result in
    let done = sym c.if-is_err.ensures.value in
    let place = succeeded c.prune.result _ done c.prune.ensures.place in
    let high : 2 ^ height G ≡ 8 * g.row.N = (chunk_height G old.sized).bits in
    let has : HasForgotten text G m0 m1 c.self.inside.status c.prune_to_bit.new.self chunks = record {
      few = omega (arith, c.min-chunks.ensures, c.as_u64-4.ensures, c.leaves.ensures, old.count);
      leaves = place.1;
      boundary = place.0 ∙ ap (λ (b : ℕ). max m0.boundary b) c.new.ensures;
      stands = succeeded c.prune.result _ done c.prune.ensures.stands;
      status = c.prune_to_bit.ensures
          ∙ ap (pruned_to g.row.N c.self.inside.status) (rw high at (shl-shr chunks (height G)));
    } in
    tail_forgotten text G g.met.F.Family.laws m0 m1 c.self.inside.chunks c.self.inside.status c.prune_to_bit.new.self chunks old has

pub returns-clause-status : goal.returns-clause-status
returns-clause-status g c =
    let G : Grafting = record { shape = g.F.Family.shape; bytes = g.row.N } in
    let old = c.self.invariant in
    let m0 = c.self.inside.operations in
    let chunks : ℕ = c.min-chunks.result in
    let level : height G ≡ c.height.result = height_of_power G.shape g.row.N _ c.height.ensures.power in
    let high : 2 ^ height G ≡ 8 * g.row.N = (chunk_height G old.sized).bits in
    let total : chunks ≡ min (c.args.location / 2 ^ height G) (graftable G m0.leaves) =
    c.min-chunks.ensures ∙ ap₂ (λ (x y : ℕ). min x y)
    (ap₂ (λ (l r : ℕ). l / 2 ^ r) c.as_u64-3.ensures (sym level))
    (c.as_u64-4.ensures ∙ c.leaves.ensures ∙ old.count) in
    rw (← c.self.view_is) (c.prune_to_bit.ensures
    ∙ ap (pruned_to g.row.N c.self.inside.status) (rw high at (shl-shr chunks (height G)) ∙ total))

pub returns-clause-kept : goal.returns-clause-kept
returns-clause-kept g c =
    let text = g.H.Digest.Digest.text in
    let it = c.self.inside in
    let new : KeptTail = seen_tail text c.prune.new.self it.chunks c.prune_to_bit.new.self it.floor
    (text it.ops_root) (text it.root) (witness_of text it.witness) in
    ap (λ (v : KeptTail). record v { operations = new.operations; status = new.status }) c.self.view_is

pub returns-clause-count : goal.returns-clause-count
returns-clause-count g c =
    let place = succeeded c.prune.result _ (sym c.if-is_err.ensures.value) c.prune.ensures.place in
    rw (← c.self.view_is) place.1

pub returns-clause-stands : goal.returns-clause-stands
returns-clause-stands g c = λ s stands.
    let text = g.H.Digest.Digest.text in
    let h = g.H.Hasher.hash_of in
    let L = g.met.F.Family.laws in
    let G : Grafting = record { shape = g.F.Family.shape; bytes = g.row.N } in
    let old = c.self.invariant in
    let it = c.self.inside in
    let m0 = it.operations in
    let m1 = c.prune.new.self in
    let chunks : ℕ = c.min-chunks.result in
    let done = sym c.if-is_err.ensures.value in
    let place = succeeded c.prune.result _ done c.prune.ensures.place in
    let high : 2 ^ height G ≡ 8 * g.row.N = (chunk_height G old.sized).bits in
    let has : HasForgotten text G m0 m1 it.status c.prune_to_bit.new.self chunks = record {
      few = omega (arith, c.min-chunks.ensures, c.as_u64-4.ensures, c.leaves.ensures, old.count);
      leaves = place.1;
      boundary = place.0 ∙ ap (λ (b : ℕ). max m0.boundary b) c.new.ensures;
      stands = succeeded c.prune.result _ done c.prune.ensures.stands;
      status = c.prune_to_bit.ensures
          ∙ ap (pruned_to g.row.N it.status) (rw high at (shl-shr chunks (height G)));
    } in
    let before = rw (← c.self.view_is) at stands in
    let told = tail_told text h G L m0 it.chunks it.status old s it.floor (text it.ops_root) (text it.root)
    (witness_of text it.witness) before in
    tail_stands text h G L m1 it.chunks c.prune_to_bit.new.self
    (tail_forgotten text G L m0 m1 it.chunks it.status c.prune_to_bit.new.self chunks old has) s it.floor (text it.ops_root)
    (text it.root) (witness_of text it.witness)
    (tail_forgotten_of text h G L m0 m1 it.chunks it.status c.prune_to_bit.new.self chunks old has s told) before.floor
    (record { ops_root = before.ops_root; root = before.root; witness = before.witness })
