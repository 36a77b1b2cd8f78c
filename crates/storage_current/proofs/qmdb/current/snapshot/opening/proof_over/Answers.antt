use Rattle.std.proofs.Common.{◌≡◌, ◌∙◌, ℕ, ap₂, refl}
use Rattle.storage_merkle.specs.RangeProofs.{own_proof}
use Rattle.storage_merkle.specs.Trees.{listed, ungrafted}
use Rattle.storage_current.specs.Laws.Grafting.{exact_is}
use Rattle.storage_current.specs.Snapshots.{exact}
use Rattle.storage_current.proofs.qmdb.current.snapshot.opening.proof_over.Goals as goal

pub returns-in-Ok-clause-own : goal.returns-in-Ok-clause-own
returns-in-Ok-clause-own g c = λ list over.
    let S = g.F.Family.shape in
    let h = g.H.Hasher.hash_of in
    let inactive : c.exact_inactive-exact.result ≡ exact S c.args.operations.now.leaves c.args.floor =
    exact_is S c.as_u64.result c.as_u64-2.result c.exact_inactive-exact.result c.exact_inactive-exact.ensures
    ∙ ap₂ (λ (n floor : ℕ). exact S n floor) (c.as_u64.ensures ∙ c.leaves.ensures) c.as_u64-2.ensures in
    c.in-Ok.ensures.own (ungrafted S) (listed list) refl over
    ∙ ap₂ (λ b i. own_proof h (ungrafted S) b (listed list) i c.args.range.start c.args.range.end) c.hasher.ensures inactive
