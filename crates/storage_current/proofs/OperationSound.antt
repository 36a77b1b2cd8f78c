-- An accepted operation proof is the snapshot's own, and the operation is active, or two strings cross.
use Rattle.std.proofs.Common.{◌≡◌, ℕ, ◌+◌, ◌-◌, ◌*◌, ◌/◌, ◌%◌, ◌<◌, ◌^◌, List, [], ◌∷◌, get_or, true, false, inl, inr, sym, ap, ◌∙◌, arith, subst, pow_pos}
use Rattle.std.proofs.lemmas.Nat.{div-add-mod'}
use Rattle.std.proofs.Math.Nat.{mod-lt}
use Rattle.storage_codec.specs.Digests.{HashFunction}
use Rattle.storage_bitmap.specs.Chunks.{IsChunkSize, chunk, chunks_from}
use Rattle.storage_bitmap.specs.Packed.{bit_in}
use Rattle.storage_current.specs.Snapshots.{Grafting, IsGrafting, height, Snapshot, IsSnapshot, canonical_root, first_chunk, last_chunk, Holds, IsActive, OperationProof, own_range_proof, own_operation_proof}
use Rattle.storage_current.specs.CurrentProofs.{IsActiveCurrent}
use Rattle.storage_current.specs.CurrentSoundness.{CurrentProofsAreSound, OperationProofsAreSound, OwnCurrentProofsAreAccepted}
use Rattle.storage_current.specs.Laws.Grafting.{chunk_height}
use Rattle.storage_current.proofs.Bits.{bit_in-chunk, one_chunk}

module _ (h : HashFunction) (g : Grafting) (size : IsChunkSize g.bytes) (s : Snapshot) where
  -- the chunk of one location
  lone_chunk : (location : ℕ) → chunks_from g.bytes s.bits (last_chunk g location 1 - first_chunk g location + 1)
      (first_chunk g location) ≡ chunk g.bytes s.bits (first_chunk g location) ∷ []
  lone_chunk location =
      let back : location + 1 - 1 ≡ location = omega arith in
      let same : last_chunk g location 1 ≡ first_chunk g location = ap (λ (x : ℕ). x / 2 ^ height g) back in
      one_chunk g.bytes s.bits (last_chunk g location 1 - first_chunk g location + 1)
      (first_chunk g location) (omega arith)

  -- its bit
  lone_bit : (location : ℕ)
      → bit_in (chunk g.bytes s.bits (first_chunk g location)) (location % 2 ^ height g) ≡ get_or s.bits location false
  lone_bit location =
      let H = chunk_height g size in
      let bits : 2 ^ height g ≡ 8 * g.bytes = H.bits in
      let positive : 0 < 2 ^ height g = pow_pos (height g) in
      let low : location % 2 ^ height g < 2 ^ height g = mod-lt location positive in
      let back : location / 2 ^ height g * 2 ^ height g + location % 2 ^ height g ≡ location =
      div-add-mod' location (2 ^ height g) in
      let whole : location / 2 ^ height g * (8 * g.bytes) ≡ location / 2 ^ height g * 2 ^ height g =
      ap (λ (x : ℕ). location / 2 ^ height g * x) (sym bits) in
      bit_in-chunk g.bytes s.bits (first_chunk g location) (location % 2 ^ height g) (omega arith)
      ∙ ap (λ (x : ℕ). get_or s.bits x false)
      (let e : location / 2 ^ height g * (8 * g.bytes) + location % 2 ^ height g ≡ location = omega arith in e)

  head_is : (x y : List ℕ) → x ∷ [] ≡ y ∷ [] → x ≡ y
  head_is x y e = cc

  pub operation_is : (proof : OperationProof) (operation : List ℕ) → bit_in proof.chunk (proof.location % 2 ^ height g)
      ≡ true → (proof.range ≡ own_range_proof h g s proof.location (proof.location + 1))
      → Holds g s proof.location (operation ∷ []) (proof.chunk ∷ [])
      → (proof ≡ own_operation_proof h g s proof.location) × IsActive s proof.location operation
  operation_is proof operation bit range holds =
      let at = proof.location in
      let chunk_is : proof.chunk ≡ chunk g.bytes s.bits (first_chunk g at) =
      head_is proof.chunk _ (holds.chunks_are ∙ lone_chunk at) in
      let one : proof
      ≡ (record { location = at; chunk = chunk g.bytes s.bits (first_chunk g at); range = proof.range }) =
      ap (λ c. record { location = at; chunk = c; range = proof.range }) chunk_is in
      let within = holds.there.within in
      let there : operation ≡ get_or s.operations (at + 0) [] = holds.there.each 0 (omega arith) in (
        one ∙ ap (λ r. record { location = at; chunk = chunk g.bytes s.bits (first_chunk g at); range = r }) range,
        record {
          within = omega arith;
          there = sym (there ∙ ap (λ (x : ℕ). get_or s.operations x []) (let e : at + 0 ≡ at = omega arith in e));
          bit = sym (lone_bit at) ∙ ap (λ c. bit_in c (at % 2 ^ height g)) (sym chunk_is) ∙ bit;
        },
      )

  pub operation_accepted : OwnCurrentProofsAreAccepted → IsGrafting g → IsSnapshot s
      → (location : ℕ) (operation : List ℕ) → IsActive s location operation
      → IsActiveCurrent h g (own_operation_proof h g s location) operation (canonical_root h g s)
  operation_accepted accepted grafting snapshot location operation active = record {
    bit = lone_bit location ∙ active.bit;
    current = accepted h g grafting s snapshot location (operation ∷ [])
        (chunk g.bytes s.bits (first_chunk g location) ∷ []) (record {
          some = omega arith;
          there = record {
            within = let w = active.within in omega arith;
            each = λ j l.
                let none : j ≡ 0 = omega arith in
                let e : location ≡ location + 0 = omega arith in
                subst (λ i. get_or (operation ∷ []) i [] ≡ get_or s.operations (location + i) []) (sym none)
                (sym active.there ∙ ap (λ (x : ℕ). get_or s.operations x []) e);
          };
          chunks_are = sym (lone_chunk location);
        });
  }

pub operation_sound : CurrentProofsAreSound → OperationProofsAreSound
operation_sound sound d h width sized g laws proof operation digests s snapshot ok =
    elim (sound d h width sized g laws proof.range proof.location (operation ∷ [])
    (proof.chunk ∷ []) digests s snapshot ok.current) [
      | inl own ↦ inl (operation_is h g ok.current.size s proof operation ok.bit own.0 own.1)
      | inr c ↦ inr c
    ]
