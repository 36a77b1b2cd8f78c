use Rattle.std.proofs.Common.{◌≡◌, ◌*◌, ◌∙◌, ℕ, ap, sym, refl, arith, inl, inr}
use Rattle.storage_merkle.specs.Hashing.{leaf_digests}
use Rattle.storage_merkle.specs.Trees.{ungrafted}
use Rattle.storage_current.specs.KeptSnapshots.{pruned_operations}
use Rattle.storage_current.specs.Laws.Grafting.{chunk_height}
use Rattle.storage_current.specs.NodeLists.{plain_over}
use Rattle.storage_current.specs.Pins.{operation_pins}
use Rattle.storage_current.specs.Snapshots.{Grafting}
use Rattle.storage_current.specs.WitnessWire.{witness_of}
use Rattle.storage_current.proofs.Growing.{trees_told}
use Rattle.storage_current.proofs.Retaining.{boundary_is}
use Rattle.storage_current.proofs.qmdb.current.snapshot.Snapshot.operation_pins.Goals as goal

pub returns-in-Ok-clause-own : goal.returns-in-Ok-clause-own
returns-in-Ok-clause-own g c = λ s stands.
    let S = g.F.Family.shape in
    let h = g.H.Hasher.hash_of in
    let text = g.H.Digest.Digest.text in
    let G : Grafting = record { shape = S; bytes = g.row.N } in
    let it = c.self.inside in
    let kept = rw (← c.self.view_is) at stands in
    let over = (trees_told text h G (record { laws = g.met.F.Family.laws; size = c.self.invariant.sized }) it.operations it.chunks
    it.status c.self.invariant c.trees_keep_the_nodes_of_their_list.ensures c.trees_keep_the_nodes_of_their_list-2.ensures s
    it.floor (text it.ops_root) (text it.root) (witness_of text it.witness) kept).0 in
    c.in-Ok.ensures (plain_over h S) (leaf_digests h (ungrafted S) 0 s.operations) over
    ∙ ap (λ (n : ℕ). operation_pins h G s n) c.as_u64-count.ensures

pub peaks_over-requires-clause-from : goal.peaks_over-requires-clause-from
peaks_over-requires-clause-from g c =
    let G : Grafting = record { shape = g.F.Family.shape; bytes = g.row.N } in
    let at = boundary_is G c.self.inside.operations c.self.inside.status c.self.invariant.sized c.self.invariant.pruned in
    omega (arith, at, c.pruned_bits.ensures, c.if-count-pruned_bits.false)

pub returns-then-count-pruned_bits-clause-why : goal.returns-then-count-pruned_bits-clause-why
returns-then-count-pruned_bits-clause-why g c =
    let G : Grafting = record { shape = g.F.Family.shape; bytes = g.row.N } in
    let pruned : c.pruned_bits.result ≡ pruned_operations G c.args.self.now.status =
    c.pruned_bits.ensures ∙ ap (λ (n : ℕ). c.self.inside.status.pruned * n) (sym (chunk_height G c.self.invariant.sized).bits)
    ∙ ap (λ v. pruned_operations G v.status) c.self.view_is in
    inl (omega (arith, pruned, c.as_u64-count.ensures, c.if-count-pruned_bits.true), refl)

pub returns-then-count-as_u64-clause-why : goal.returns-then-count-as_u64-clause-why
returns-then-count-as_u64-clause-why g c =
    let G : Grafting = record { shape = g.F.Family.shape; bytes = g.row.N } in
    let pruned : c.pruned_bits.result ≡ pruned_operations G c.args.self.now.status =
    c.pruned_bits.ensures ∙ ap (λ (n : ℕ). c.self.inside.status.pruned * n) (sym (chunk_height G c.self.invariant.sized).bits)
    ∙ ap (λ v. pruned_operations G v.status) c.self.view_is in
    let all = ap (λ v. v.leaves) c.self.view_is in
    inr (inl (
      omega (arith, pruned, c.as_u64-count.ensures, c.if-count-pruned_bits.false),
      omega (arith, all, c.leaves.ensures, c.as_u64.ensures, c.as_u64-count.ensures, c.if-count-as_u64.true),
      refl,
    ))

pub returns-in-Err-clause-why : goal.returns-in-Err-clause-why
returns-in-Err-clause-why g c =
    let G : Grafting = record { shape = g.F.Family.shape; bytes = g.row.N } in
    let pruned : c.pruned_bits.result ≡ pruned_operations G c.args.self.now.status =
    c.pruned_bits.ensures ∙ ap (λ (n : ℕ). c.self.inside.status.pruned * n) (sym (chunk_height G c.self.invariant.sized).bits)
    ∙ ap (λ v. pruned_operations G v.status) c.self.view_is in
    let all = ap (λ v. v.leaves) c.self.view_is in
    inr (inr (
      omega (arith, pruned, c.as_u64-count.ensures, c.if-count-pruned_bits.false),
      omega (arith, all, c.leaves.ensures, c.as_u64.ensures, c.as_u64-count.ensures, c.if-count-as_u64.false),
      refl,
    ))
