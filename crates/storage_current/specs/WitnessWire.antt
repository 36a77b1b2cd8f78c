-- Witnesses of an operations root: what a yes of their check means, and what they are written as.
use Rattle.std.specs.Prelude.{◌≡◌, ℕ, ◌<◌, ◌^◌, ◌⊎◌, Bool, List, [], ◌∷◌, ◌++◌, Option, option_map, IfSome, Ok}
use Rattle.storage_codec.specs.Codec.{Answer, front_at, option_at, varint_at}
use Rattle.storage_codec.specs.Digests.{HashFunction, Cross}
use Rattle.storage_codec.specs.Faults.{◌>>=◌}
use Rattle.storage_codec.specs.Parts.{option_text, varint_text}
use Rattle.storage_merkle.specs.Wire.{slot_text, slot_at, IsPendingSlot}
use Rattle.storage_current.specs.CurrentProofs.{witness_string}
use Rattle.storage_current.specs.CurrentWire.{as_is}
use Rattle.storage_current.specs.Snapshots.{Grafting, Snapshot, IsSnapshot, canonical_root, snapshot_strings, ops_root_of, Witness, own_witness}
use Rattle.storage_current.specs.declared.qmdb.current.proof.witness.OpsRootWitness.{OpsRootWitness}

-- the witness that a value holds, its digests by their bytes
abbrev pub witness_of : {F D : Type 0} → (D → List ℕ) → OpsRootWitness F D → Witness
witness_of bytes_of w = record {
  grafted_root = bytes_of w.grafted_root;
  pending = option_map bytes_of w.pending_chunk_digest;
  partial = option_map (λ p. (p.0, bytes_of p.1)) w.partial_chunk;
}

-- that of these parts: with the digest of the partial chunk goes how many bits it has
abbrev pub witness_with : List ℕ → Option (List ℕ) → ℕ → Option (List ℕ) → Witness
witness_with grafted_root pending next_bit partial = record {
  grafted_root = grafted_root;
  pending = pending;
  partial = option_map (λ digest. (next_bit, digest)) partial;
}

-- What a yes of its check against a root means: of each snapshot with that root, whatever its chunks' size, the witness is the
-- snapshot's own, field for field, and the operations root is the snapshot's, or two strings cross.
abbrev pub MeansWitness : HashFunction → Witness → List ℕ → List ℕ → Type 0
MeansWitness h w ops_root root =
    (g : Grafting) (s : Snapshot) → IsSnapshot s → canonical_root h g s ≡ root →
    (w ≡ own_witness h g s) × (ops_root ≡ ops_root_of h g s)
    ⊎ Cross h (witness_string w ops_root ∷ []) (snapshot_strings h g s)

-- a number of bits as a varint, then the digest of the chunk that they begin
abbrev pub counted_text : ℕ × List ℕ → List ℕ
counted_text p = varint_text p.0 ++ p.1

-- the same with a digest of d bytes
abbrev pub counted_at : ℕ → List ℕ → Answer (ℕ × List ℕ)
counted_at d bytes = varint_at bytes >>= λ bits. front_at d bits.1 >>= λ digest. Ok ((bits.0, digest.0), digest.1)

-- the grafted root, the slot of the pending chunk's digest, the partial chunk or none
abbrev pub witness_text : Bool → Witness → List ℕ
witness_text has_pending w = w.grafted_root
    ++ (slot_text has_pending as_is w.pending ++ option_text counted_text w.partial)

abbrev pub witness_at : Bool → ℕ → List ℕ → Answer Witness
witness_at has_pending d bytes =
    front_at d bytes >>= λ root. slot_at has_pending (front_at d) root.1 >>= λ pending.
    option_at (counted_at d) pending.1 >>= λ partial.
    Ok (record { grafted_root = root.0; pending = pending.0; partial = partial.0 }, partial.1)

-- a witness that can be read again: a family without pending chunks has none, and the number of bits is a u64
pub record IsAdmittedWitness (has_pending : Bool) (w : Witness) : Type 0 where
  pub pending : IsPendingSlot has_pending w.pending
  pub bits : IfSome w.partial (λ p. p.0 < 2 ^ 64)
