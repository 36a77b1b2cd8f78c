use Rattle.std.proofs.Common.{◌∙◌, ap, map, arith}
use Rattle.std.proofs.lemmas.List.{map-id}
use Rattle.storage_merkle.specs.Extracted.{by_bytes}
use Rattle.storage_current.specs.Laws.CurrentWire.{held_digests}
use Rattle.storage_current.specs.Held.{range_proof_of}
use Rattle.storage_current.specs.Snapshots.{Grafting}
use Rattle.storage_current.proofs.Extracting.{handed, means, told}
use Rattle.std.proofs.lemmas.Grind.{common_steps}
use Rattle.storage_current.proofs.qmdb.current.proof.extract.verify_proof_and_extract_digests.Goals as goal

pub returns-clause-handed : goal.returns-clause-handed
returns-clause-handed g c =
    let G : Grafting = record { shape = g.F.Family.shape; bytes = g.row.N } in
    let text = g.H.Digest.Digest.text in
    let all = c.in_ok-elements.ensures in
    handed g.H.Hasher.hash_of G g.met.F.Family.laws (range_proof_of text c.args.proof.now) c.args.start
    (map g.Op.Write.text c.args.operations.now) c.args.chunks.now (text c.args.root.now)
    (λ v. by_bytes text v.items) c.extract_in.result c.extracted_positions_ascend.ensures
    (told g.H.Hasher.hash_of G (range_proof_of text c.args.proof.now) c.args.start (text c.args.root.now)
    (λ v. by_bytes text v.items) c.extract_in.result (ap (map (λ e. e.items)) c.deref.ensures.value
    ∙ all.bytes) (map-id c.args.chunks.now)
    (c.extract_in.ensures g.row.N (rw (c.deref.ensures.value, all.count) c.in-Some.ensures.0) c.in-Some.ensures.1))

pub returns-clause-meaning : goal.returns-clause-meaning
returns-clause-meaning g c = λ wide.
    let G : Grafting = record { shape = g.F.Family.shape; bytes = g.row.N } in
    let text = g.H.Digest.Digest.text in
    let all = c.in_ok-elements.ensures in
    means c.extracted_current_digests_are_true.ensures g.H.Digest.Digest.size g.H.Hasher.hash_of wide
    g.met.H.Hasher.sized G g.met.F.Family.laws (range_proof_of text c.args.proof.now) c.args.start
    (map g.Op.Write.text c.args.operations.now) c.args.chunks.now
    (held_digests text g.H.Digest.Digest.size g.met.H.Digest.Digest.sized c.args.proof.now) (text c.args.root.now)
    (λ v. by_bytes text v.items) c.extract_in.result
    (told g.H.Hasher.hash_of G (range_proof_of text c.args.proof.now) c.args.start (text c.args.root.now)
    (λ v. by_bytes text v.items) c.extract_in.result (ap (map (λ e. e.items)) c.deref.ensures.value
    ∙ all.bytes) (map-id c.args.chunks.now)
    (c.extract_in.ensures g.row.N (rw (c.deref.ensures.value, all.count) c.in-Some.ensures.0) c.in-Some.ensures.1))

pub returns-in_default-clause-why : goal.returns-in_default-clause-why
returns-in_default-clause-why g c = grind (arith, common_steps)

pub returns-clause-why : goal.returns-clause-why
returns-clause-why g c = grind (arith, common_steps)
