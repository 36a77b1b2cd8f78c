use Rattle.std.proofs.Common.{rules}
use Rattle.std.proofs.Math.Facts.{Fits-lt-pow}
use Rattle.storage_codec.specs.Parts.{IsBytes}
use Rattle.storage_current.specs.Held.{range_proof_of}
use Rattle.storage_current.specs.Snapshots.{Grafting}
use Rattle.commonware_storage.proofs.RangeAnswers.{range_exactly, range_meaning, range_whole}
use Rattle.commonware_storage.proofs.light.ranges.check_range.Goals as goal

pub returns-in-Ok-clause-exact : goal.returns-in-Ok-clause-exact
returns-in-Ok-clause-exact g c =
    let G : Grafting = record { shape = g.F.Family.shape; bytes = c.args.chunk_size } in
    range_exactly g.H.Hasher.hash_of G g.F.Graftable.has_pending g.H.Digest.Digest.size c.args.max_digests
    c.args.start c.args.proof.now _ _ (g.H.Digest.Digest.text c.args.root.now)
    (range_proof_of g.H.Digest.Digest.text c.in-Ok.proof) c.in-Ok.ensures c.verify_encoded.result
    c.verify_encoded.ensures.exact

pub returns-in-Ok-clause-meaning : goal.returns-in-Ok-clause-meaning
returns-in-Ok-clause-meaning g c = λ wide.
    let G : Grafting = record { shape = g.F.Family.shape; bytes = c.args.chunk_size } in
    let fits : IsBytes c.args.proof.now = λ i. Fits-lt-pow (c.type_inv.proof i) in
    range_meaning g.H.Hasher.hash_of G g.F.Graftable.has_pending g.H.Digest.Digest.size c.args.max_digests
    c.args.start c.args.proof.now _ _ (g.H.Digest.Digest.text c.args.root.now)
    (range_proof_of g.H.Digest.Digest.text c.in-Ok.proof) c.in-Ok.ensures fits c.verify_encoded.result
    (c.verify_encoded.ensures.meaning wide)

pub returns-in-Ok-clause-whole : goal.returns-in-Ok-clause-whole
returns-in-Ok-clause-whole g c =
    range_whole g.F.Graftable.has_pending g.H.Digest.Digest.size c.args.max_digests c.args.proof.now
    (range_proof_of g.H.Digest.Digest.text c.in-Ok.proof) c.in-Ok.ensures c.verify_encoded.result

pub returns-in-Err-Memory-clause-refused : goal.returns-in-Err-Memory-clause-refused
returns-in-Err-Memory-clause-refused g c = search rules

pub returns-then-is_none-clause-refused : goal.returns-then-is_none-clause-refused
returns-then-is_none-clause-refused g c = search rules

pub returns-then-is_none-clause-exact : goal.returns-then-is_none-clause-exact
returns-then-is_none-clause-exact g c = search rules

pub returns-then-is_none-clause-meaning : goal.returns-then-is_none-clause-meaning
returns-then-is_none-clause-meaning g c = search rules

pub returns-then-is_none-clause-whole : goal.returns-then-is_none-clause-whole
returns-then-is_none-clause-whole g c = search rules

pub returns-in-Err : goal.returns-in-Err
returns-in-Err g c = search rules
