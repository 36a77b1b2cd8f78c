use Rattle.std.proofs.Common.{ℕ, length, subst}
use Rattle.storage_merkle.specs.Held.{proof_of}
use Rattle.storage_current.specs.Beginnings.{IsOwnPlainProof, IsPlainRefused}
use Rattle.storage_current.specs.KeptSnapshots.{pruned_operations}
use Rattle.storage_current.specs.Snapshots.{grafting_of}
use Rattle.storage_sync.proofs.Opened.{plain_memory}
use Rattle.storage_sync.proofs.sync.serve.opening.proof_between.Goals as goal

pub returns-in-Ok-clause-own : goal.returns-in-Ok-clause-own
returns-in-Ok-clause-own g c = λ s stands.
    let G = grafting_of g.F.Family.shape g.row.N in
    let h = g.H.Hasher.hash_of in
    let proof = proof_of g.H.Digest.Digest.text c.in-Ok.proof in
    subst (λ (a : ℕ). IsOwnPlainProof h G s a c.args.end proof) c.new.ensures
    (subst (λ (b : ℕ). IsOwnPlainProof h G s c.new.result b proof) c.new-2.ensures (c.in-Ok.ensures.own s stands))

pub returns-in_default-clause-why : goal.returns-in_default-clause-why
returns-in_default-clause-why g c = λ s snapshot stands some within behind.
    let kept = c.args.snapshot.now in
    let pruned : ℕ = pruned_operations (grafting_of g.F.Family.shape g.row.N) kept.status in
    let n : ℕ = length s.operations in
    let why : IsPlainRefused pruned n c.args.start c.args.end c.in-Err.error =
    subst (λ (m : ℕ). IsPlainRefused pruned m c.args.start c.args.end c.in-Err.error) stands.leaves
    (subst (λ (a : ℕ). IsPlainRefused pruned kept.leaves a c.args.end c.in-Err.error) c.new.ensures
    (subst (λ (b : ℕ). IsPlainRefused pruned kept.leaves c.new.result b c.in-Err.error) c.new-2.ensures c.in-Err.ensures.why)) in
    absurd (c.in_default.not-Memory
    (plain_memory pruned n c.args.start c.args.end c.in-Err.error why behind snapshot.few some within))
