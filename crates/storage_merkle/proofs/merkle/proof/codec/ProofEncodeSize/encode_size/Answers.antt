use Rattle.std.proofs.Common.{◌≡◌, length, map, arith, ap, ◌∙◌}
use Rattle.std.proofs.lemmas.List.{length-map}
use Rattle.storage_codec.specs.Parts.{size_of}
use Rattle.storage_merkle.specs.Laws.ProofWire.{all_digests, proof_length}
use Rattle.storage_merkle.proofs.merkle.proof.codec.ProofEncodeSize.encode_size.Goals as goal

pub returns : goal.returns
returns g c =
    let T = g.D.Digest.text in
    let items = c.args.self.now.digests.items in
    let n : c.len-count.result ≡ length (map T items) =
    omega (arith, c.len-count.ensures, length-map c.args.self.now.digests.items g.D.Digest.text) in
    c.sum.ensures _ _ c.encode_size-3.ensures (c.sum-inactive.ensures _ _ c.encode_size-2.ensures
    (c.sum-counted.ensures _ _ c.encode_size.ensures c.digests_size-digests.ensures))
    ∙ ap size_of (proof_length g.D.Digest.size c.len-count.result
    (record { leaves = c.args.self.now.leaves; inactive = c.args.self.now.inactive_peaks; digests = map T items })
    (all_digests T g.D.Digest.size g.met.D.Digest.sized items) n)
