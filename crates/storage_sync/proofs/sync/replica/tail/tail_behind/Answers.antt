use Rattle.std.proofs.Common.{◌∙◌, map}
use Rattle.storage_current.specs.Snapshots.{grafting_of}
use Rattle.storage_sync.specs.Held.{opening_of}
use Rattle.storage_sync.proofs.Tails.{own_parts}
use Rattle.storage_sync.proofs.sync.replica.tail.tail_behind.Goals as goal

pub returns-clause-own : goal.returns-clause-own
returns-clause-own g c s snapshot begins copy =
    let G = grafting_of g.F.Family.shape g.row.N in
    let at = c.begins_at.ensures.exact.0 c.if-not-begins_at.false ∙ c.as_u64.ensures in
    let own = rw (c.deref.ensures.value, c.deref-2.ensures.value) at c.new.ensures.own in
    own s snapshot (own_parts g.H.Hasher.hash_of G c.begins_at.ensures.size (opening_of g.H.Digest.Digest.text c.args.opening.now)
    (map (λ v. v.items) c.args.operations.now) c.args.status.now at s snapshot begins copy)
