use Rattle.std.proofs.Common.{map, option_map, arith, rules}
use Rattle.storage_merkle.specs.Laws.ProofWire.{all_digests}
use Rattle.storage_bitmap.proofs.Bits.{chunk_positive}
use Rattle.storage_bitmap.proofs.BitChecks.{accepted_computed, chained, same_option}
use Rattle.storage_bitmap.proofs.bitmap.authenticated.BitMap.verify_bit_inclusion.Goals as goal

pub returns-clause-exact : goal.returns-clause-exact
returns-clause-exact g c = λ same.
    chained (same_option g.D.PartialEq.eq g.D.Digest.text g.met.D.Digest.same c.in_ok-computed.computed c.args.root.now
    c.eq.result c.eq.ensures)
    (accepted_computed g.H.Hasher.hash_of (g.H.Hasher.bagging c.args.hasher.now) g.row.N
    (record {
      leaves = c.args.proof.now.leaves;
      inactive = c.args.proof.now.inactive_peaks;
      digests = map g.D.Digest.text c.args.proof.now.digests.items;
    }) c.args.chunk.now c.args.bit (omega arith)
    (omega arith) (g.D.Digest.text c.args.root.now) (option_map g.D.Digest.text c.in_ok-computed.computed)
    (c.in_ok-computed.ensures.root same))

pub returns-clause-meaning : goal.returns-clause-meaning
returns-clause-meaning g c = λ same yes.
    c.bit_proofs_are_sound.ensures g.D.Digest.size g.H.Hasher.hash_of g.met.H.Hasher.sized
    (g.H.Hasher.bagging c.args.hasher.now) g.row.N (chunk_positive g.row.N c.requires.size)
    (record {
      leaves = c.args.proof.now.leaves;
      inactive = c.args.proof.now.inactive_peaks;
      digests = map g.D.Digest.text c.args.proof.now.digests.items;
    }) c.args.chunk.now c.args.bit
    (g.D.Digest.text c.args.root.now) (all_digests g.D.Digest.text g.D.Digest.size g.met.D.Digest.sized
    c.args.proof.now.digests.items) (omega arith)
    ((chained (same_option g.D.PartialEq.eq g.D.Digest.text g.met.D.Digest.same c.in_ok-computed.computed c.args.root.now
    c.eq.result c.eq.ensures)
    (accepted_computed g.H.Hasher.hash_of (g.H.Hasher.bagging c.args.hasher.now) g.row.N
    (record {
      leaves = c.args.proof.now.leaves;
      inactive = c.args.proof.now.inactive_peaks;
      digests = map g.D.Digest.text c.args.proof.now.digests.items;
    }) c.args.chunk.now c.args.bit (omega arith)
    (omega arith) (g.D.Digest.text c.args.root.now) (option_map g.D.Digest.text c.in_ok-computed.computed)
    (c.in_ok-computed.ensures.root same))).0 yes)

pub returns-then-bit-as_u64-clause-past_the_end : goal.returns-then-bit-as_u64-clause-past_the_end
returns-then-bit-as_u64-clause-past_the_end g c = search rules

pub returns-then-bit-as_u64-clause-inactive : goal.returns-then-bit-as_u64-clause-inactive
returns-then-bit-as_u64-clause-inactive g c = search rules

pub returns-then-bit-as_u64-clause-no_digest : goal.returns-then-bit-as_u64-clause-no_digest
returns-then-bit-as_u64-clause-no_digest g c = search rules

pub returns-in_err-computed-clause-inactive : goal.returns-in_err-computed-clause-inactive
returns-in_err-computed-clause-inactive g c = search rules

pub returns-clause-inactive : goal.returns-clause-inactive
returns-clause-inactive g c = search rules

pub returns-clause-no_digest : goal.returns-clause-no_digest
returns-clause-no_digest g c = search rules
