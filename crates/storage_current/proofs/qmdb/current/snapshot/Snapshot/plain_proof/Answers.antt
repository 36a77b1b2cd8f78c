use Rattle.std.proofs.Common.{◌≡◌, ◌*◌, ◌∙◌, ℕ, ap, ap₂, inl, inr, refl, subst, sym, arith}
use Rattle.std.specs.Prelude.{MatchOption}
use Rattle.storage_merkle.specs.declared.merkle.bagging.Bagging.TheVariants.{BackwardFold}
use Rattle.storage_merkle.specs.Plans.{refusal}
use Rattle.storage_merkle.specs.RangeProofs.{own_proof}
use Rattle.storage_merkle.specs.Trees.{listed, ungrafted}
use Rattle.storage_ops.specs.declared.qmdb.error.Error.TheVariants.{Memory, Merkle}
use Rattle.storage_current.specs.KeptSnapshots.{pruned_operations}
use Rattle.storage_current.specs.Laws.Grafting.{chunk_height}
use Rattle.storage_current.specs.Snapshots.{Grafting, exact}
use Rattle.storage_current.specs.WitnessWire.{witness_of}
use Rattle.storage_current.proofs.Beginnings.{if_err, if_ok}
use Rattle.storage_current.proofs.Growing.{trees_told}
use Rattle.storage_current.proofs.Retaining.{boundary_is}
use Rattle.storage_current.proofs.qmdb.current.snapshot.Snapshot.plain_proof.Goals as goal

pub returns-clause-own : goal.returns-clause-own
returns-clause-own g c =
    let S = g.F.Family.shape in
    let h = g.H.Hasher.hash_of in
    let text = g.H.Digest.Digest.text in
    let G : Grafting = record { shape = S; bytes = g.row.N } in
    let it = c.self.inside in
    if_ok _ _ c.proof_over.result (λ proof own s stands.
    let kept = rw (← c.self.view_is) at stands in
    let over = (trees_told text h G (record { laws = g.met.F.Family.laws; size = c.self.invariant.sized }) it.operations it.chunks
    it.status c.self.invariant c.trees_keep_the_nodes_of_their_list.ensures c.trees_keep_the_nodes_of_their_list-2.ensures s
    it.floor (text it.ops_root) (text it.root) (witness_of text it.witness) kept).0 in
    own s.operations over ∙ ap₂ (λ (n floor : ℕ). own_proof h (ungrafted S) BackwardFold (listed s.operations)
    (exact S n floor) c.args.range.start c.args.range.end) kept.leaves kept.floor) c.proof_over.ensures.own

pub proof_over-requires-clause-kept : goal.proof_over-requires-clause-kept
proof_over-requires-clause-kept g c =
    let G : Grafting = record { shape = g.F.Family.shape; bytes = g.row.N } in
    let at = boundary_is G c.self.inside.operations c.self.inside.status c.self.invariant.sized c.self.invariant.pruned in
    omega (arith, at, c.pruned_bits.ensures, c.as_u64.ensures, c.if-as_u64-pruned_bits.false)

pub returns-then-as_u64-pruned_bits-clause-why : goal.returns-then-as_u64-pruned_bits-clause-why
returns-then-as_u64-pruned_bits-clause-why g c =
    let G : Grafting = record { shape = g.F.Family.shape; bytes = g.row.N } in
    let pruned : c.pruned_bits.result ≡ pruned_operations G c.args.self.now.status =
    c.pruned_bits.ensures ∙ ap (λ (n : ℕ). c.self.inside.status.pruned * n) (sym (chunk_height G c.self.invariant.sized).bits)
    ∙ ap (λ v. pruned_operations G v.status) c.self.view_is in
    inl (omega (arith, pruned, c.as_u64.ensures, c.if-as_u64-pruned_bits.true), refl)

pub returns-clause-why : goal.returns-clause-why
returns-clause-why g c =
    let G : Grafting = record { shape = g.F.Family.shape; bytes = g.row.N } in
    let pruned : c.pruned_bits.result ≡ pruned_operations G c.args.self.now.status =
    c.pruned_bits.ensures ∙ ap (λ (n : ℕ). c.self.inside.status.pruned * n) (sym (chunk_height G c.self.invariant.sized).bits)
    ∙ ap (λ v. pruned_operations G v.status) c.self.view_is in
    if_err _ _ c.proof_over.result (λ error why. inr (
      omega (arith, pruned, c.as_u64.ensures, c.if-as_u64-pruned_bits.false),
      subst (λ (n : ℕ). MatchOption (refusal g.row.F.Denot n c.args.range.start c.args.range.end) (error ≡ Memory)
          (λ refused. error ≡ Merkle refused)) (ap (λ v. v.leaves) c.self.view_is) why,
    )) c.proof_over.ensures.why
