-- A snapshot's own proofs of keys, written, are accepted.
use Rattle.std.proofs.Common.{◌≡◌, ◌<◌, ℕ, Bool, List, [], ◌++◌, length, Ok, refl, sym, ap, ◌∙◌, subst, append-nil}
use Rattle.storage_codec.specs.Digests.{HashFunction, IsSized}
use Rattle.storage_codec.specs.Codec.{Answer, whole}
use Rattle.storage_ops.specs.Reading.{IsRead}
use Rattle.storage_ops.specs.Updates.{ordered_at}
use Rattle.storage_ops.specs.Laws.Updates.{ordered_again}
use Rattle.storage_current.specs.Snapshots.{Grafting, IsGrafting, Snapshot, IsSnapshot, OperationProof, canonical_root, own_operation_proof}
use Rattle.storage_current.specs.CurrentProofs.{IsActiveCurrent}
use Rattle.storage_current.specs.CurrentSoundness.{OwnOperationProofsAreAccepted}
use Rattle.storage_current.specs.CurrentWire.{operation_text, sized_operation_at}
use Rattle.storage_current.specs.OwnWire.{IsPrompt, OwnOperationProofsAreReadAgain}
use Rattle.storage_current.specs.Keys.{Keyed, update_text}
use Rattle.storage_current.specs.KeyProofs.{Exclusion, KeyValue, Commit, proof_in, shown_text}
use Rattle.storage_current.specs.KeyWire.{pair_at, exclusion_text, exclusion_at, exclusion_map, IsAdmittedExclusion}
use Rattle.storage_current.specs.Laws.KeyWire.{pair_again, exclusion_again}
use Rattle.commonware_storage.specs.LightKeys.{OwnValuesAreAccepted, OwnExclusionsAreAccepted}

-- the reader of operation proofs reads the snapshot's own one of a location again
own_read : OwnOperationProofsAreReadAgain → (d : ℕ) (h : HashFunction) → IsSized d h → (g : Grafting) → IsGrafting g
    → (has_pending : Bool) → IsPrompt has_pending g.shape
    → (s : Snapshot) → IsSnapshot s → (location : ℕ) → location < length s.operations
    → IsRead (operation_text has_pending) (λ q. q) (sized_operation_at has_pending d g.bytes 128)
    (λ q. q ≡ own_operation_proof h g s location)
own_read again d h sized g grafting has_pending prompt s snapshot location within = record {
  again = λ q rest own.
      subst (λ (y : OperationProof). sized_operation_at has_pending d g.bytes 128 (operation_text has_pending y ++ rest)
      ≡ Ok (y, rest)) (sym own)
      (again d h sized g grafting has_pending prompt s snapshot location within rest);
}

-- an exclusion proof whose operation proof is that one
own_admitted : {U W : Type 0} (own : OperationProof) (update : U → Type 0) (value : W → Type 0) (x : Exclusion U W)
    → proof_in x ≡ own
    → IsAdmittedExclusion (λ _. Unit {0}) update value x → IsAdmittedExclusion (λ q. q ≡ own) update value x
own_admitted own update value (KeyValue p u) same ok = (same, ok.1)
own_admitted own update value (Commit p v) same ok = (same, ok.1)

module _ (accepted : OwnOperationProofsAreAccepted) (again : OwnOperationProofsAreReadAgain) {K V X : Type 0}
    (e : Keyed K V) (kview : K → X) (kparse : List ℕ → Answer X) (kadmits : K → Type 0)
    (kagain : (k : K) (rest : List ℕ) → kadmits k → kparse (e.key k ++ rest) ≡ Ok (kview k, rest)) where
  pub own_values : OwnValuesAreAccepted e kview kparse kadmits
  own_values d h sized g grafting has_pending prompt s snapshot location key value next active admitted =
      let p = own_operation_proof h g s location in
      let parse = sized_operation_at has_pending d g.bytes 128 in
      let none : List ℕ = [] in
      let proof_read = own_read again d h sized g grafting has_pending prompt s snapshot location active.within in
      let next_read : IsRead e.key kview kparse kadmits = record { again = kagain } in
      let pair = pair_again (operation_text has_pending) e.key (λ q. q) kview parse kparse
      (λ q. q ≡ p) kadmits proof_read next_read p next none (refl, admitted) in
      let text = operation_text has_pending p ++ e.key next in
      let read : pair_at parse kparse text ≡ Ok ((p, kview next), none) =
      ap (pair_at parse kparse) (sym (append-nil text)) ∙ pair in
      record {
        proof = p;
        next = next;
        read = ap whole read;
        accepted = accepted h g grafting s snapshot location (update_text e key value next) active;
      }

  module _ {Y : Type 0} (vview : V → Y) (vparse wparse : List ℕ → Answer Y) (vadmits wadmits : V → Type 0)
      (vagain : (v : V) (rest : List ℕ) → vadmits v → vparse (e.value v ++ rest) ≡ Ok (vview v, rest))
      (wagain : (v : V) (rest : List ℕ) → wadmits v → wparse (e.value v ++ rest) ≡ Ok (vview v, rest)) where
    abbrev UpdateAdmits : K × V × K → Type 0
    UpdateAdmits u = kadmits u.0 × vadmits u.1 × kadmits u.2

    abbrev written : K × V × K → List ℕ
    written u = e.key u.0 ++ e.value u.1 ++ e.key u.2

    abbrev seen : K × V × K → X × Y × X
    seen u = (kview u.0, vview u.1, kview u.2)

    key_read : IsRead e.key kview kparse kadmits
    key_read = record { again = kagain }

    value_read : IsRead e.value vview vparse vadmits
    value_read = record { again = vagain }

    update_read : IsRead written seen (ordered_at kparse vparse) UpdateAdmits
    update_read = record {
      again = λ u rest ok.
          ordered_again e.key e.value kview vview kparse vparse kadmits vadmits key_read value_read u.0 u.1 u.2 rest ok;
    }

    commit_read : IsRead e.value vview wparse wadmits
    commit_read = record { again = wagain }

    pub own_exclusions : OwnExclusionsAreAccepted e kview vview (ordered_at kparse vparse) wparse UpdateAdmits wadmits
    own_exclusions d h sized g grafting has_pending prompt s snapshot x key own active allowed admitted =
        let parse = sized_operation_at has_pending d g.bytes 128 in
        let none : List ℕ = [] in
        let p = own_operation_proof h g s (proof_in x).location in
        let proof_read =
        own_read again d h sized g grafting has_pending prompt s snapshot (proof_in x).location active.within in
        let text = exclusion_text has_pending written e.value x in
        let one = exclusion_again has_pending written e.value seen vview parse (ordered_at kparse vparse) wparse
        (λ q. q ≡ p) UpdateAdmits wadmits proof_read update_read commit_read x none
        (own_admitted p UpdateAdmits wadmits x own admitted) in
        let read : exclusion_at parse (ordered_at kparse vparse) wparse text ≡ Ok (exclusion_map seen vview x, none) =
        ap (exclusion_at parse (ordered_at kparse vparse) wparse) (sym (append-nil text)) ∙ one in
        record {
          proof = x;
          read = ap whole read;
          accepted = record {
            allowed = allowed;
            accepted =
                subst (λ (q : OperationProof). IsActiveCurrent h g q (shown_text e x) (canonical_root h g s)) (sym own)
                (accepted h g grafting s snapshot (proof_in x).location (shown_text e x) active);
          };
        }
