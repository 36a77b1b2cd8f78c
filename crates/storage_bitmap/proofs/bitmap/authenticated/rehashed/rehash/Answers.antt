use Rattle.std.proofs.Common.{ℕ, List, arith, ◌/◌, ◌*◌, ◌≤◌, ◌-◌, ◌++◌, inl, inr}
use Rattle.storage_merkle.specs.Calc.{be8}
use Rattle.storage_merkle.specs.Mmr.{mmr}
use Rattle.storage_merkle.specs.Laws.Mmr.{mmr_laws}
use Rattle.storage_merkle.specs.Shape.{size}
use Rattle.storage_merkle.specs.Laws.Shape.{grows_at_most}
use Rattle.storage_bitmap.specs.Chunks.{bit_count, chunk}
use Rattle.storage_bitmap.proofs.Rehashing.{rewritten, chunks_fit, none_away}
use Rattle.storage_bitmap.proofs.bitmap.authenticated.rehashed.rehash.Goals as goal

pub update_leaves-requires : goal.update_leaves-requires
update_leaves-requires g c there p a k leaf inner below among low high =
    let up : size mmr c.args.tree.now.leaves ≤ size mmr (bit_count g.row.N c.args.bits.now / (8 * g.row.N)) =
    grows_at_most (size mmr) mmr_laws.grows c.args.tree.now.leaves
    (bit_count g.row.N c.args.bits.now / (8 * g.row.N)) c.requires.leaves in
    c.requires.takes p (chunks_fit g.row.N (bit_count g.row.N c.args.bits.now) c.requires.few) (omega arith)

pub returns-clause-stands : goal.returns-clause-stands
returns-clause-stands g c plain list rest s =
    rewritten g.D.Digest.text g.H.Hasher.hash_of (g.H.Hasher.layout c.args.hasher.now)
    (g.H.Hasher.chunk c.args.hasher.now) g.row.N c.args.bits.now c.args.tree.now c.update_leaves.new.self
    c.args.dirty.now.keys c.deref.result.now plain c.in_default.ensures.written
    (rw c.deref.ensures.value c.in_ok-leaves.ensures) c.requires.there list rest s

pub returns-in-Err-clause-why : goal.returns-in-Err-clause-why
returns-in-Err-clause-why g c =
    let w = c.in-Err.ensures.why in
    let digest : ℕ → List ℕ = λ k. g.H.Hasher.hash_of (be8 (size mmr k)
    ++ chunk g.row.N c.args.bits.now.bits (k - c.args.bits.now.pruned)) in
    absurd (none_away g.D.Digest.text digest c.args.dirty.now.keys c.deref.result.now c.args.tree.now.leaves
    c.args.tree.now.boundary c.args.bits.now.pruned w.0
    (rw c.deref.ensures.value c.in_ok-leaves.ensures) c.requires.there c.requires.boundary w.1
    (elim w.2 [
      | inl far ↦ inl far.0
      | inr gone ↦ inr gone.0
    ]))
