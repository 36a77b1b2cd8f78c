-- A snapshot's own operation proof is read again.
use Rattle.std.proofs.Common.{◌≡◌, ℕ, ◌+◌, ◌-◌, ◌/◌, ◌<◌, ◌≤◌, ◌^◌, List, [], ◌++◌, length, map, Bool, true, false, Option, Some, None, Ok, inl, inr, refl, ap, ◌∙◌, arith, pow_pos, lt-ltb, le-ltb}
use Rattle.std.specs.Option.{option_map}
use Rattle.std.proofs.lemmas.List.{length-map}
use Rattle.std.proofs.lemmas.Bool.{cases_lt}
use Rattle.std.proofs.Math.Nat.{div-lt_iff_lt-mul, add-div_right}
use Rattle.storage_codec.specs.Digests.{HashFunction, IsSized}
use Rattle.storage_merkle.specs.declared.merkle.bagging.Bagging.{Bagging}
use Rattle.storage_merkle.specs.declared.merkle.bagging.Bagging.TheVariants.{BackwardFold}
use Rattle.storage_merkle.specs.Shape.{Shape}
use Rattle.storage_merkle.specs.Calc.{Site, front, back, node, Calc}
use Rattle.storage_merkle.specs.Laws.Calc.{eval_length}
use Rattle.storage_merkle.specs.Trees.{Layout, Content, node_calc, never, plain}
use Rattle.storage_merkle.specs.RangeProofs.{fold_digest, own_digest, sites}
use Rattle.storage_merkle.specs.Laws.ProofWire.{all_digests}
use Rattle.storage_merkle.specs.Wire.{IsPendingSlot}
use Rattle.storage_current.specs.Snapshots.{Grafting, IsGrafting, height, graftable, graftable_at, view, Snapshot, IsSnapshot, content, aligned_of, pending_of, own_range_proof, own_operation_proof}
use Rattle.storage_current.specs.CurrentProofs as check
use Rattle.storage_current.specs.CurrentSoundness.{HasDigests}
use Rattle.storage_current.specs.CurrentWire.{range_proof_text, range_proof_at, operation_text, sized_operation_at, IsAdmittedRangeProof}
use Rattle.storage_current.specs.Laws.CurrentWire.{current_again, sized_again}
use Rattle.storage_current.specs.Laws.Grafting.{aligned-le}
use Rattle.storage_current.specs.OwnWire.{IsPrompt}
use Rattle.storage_current.proofs.RangeSound.{chunk-length}
use Rattle.storage_current.proofs.OwnSites.{few_sites}

fold_sized : (d : ℕ) (h : HashFunction) (over : Content) → IsSized d h → (t : Option Calc)
    → length (fold_digest h (plain h over) t) ≡ d
fold_sized d h over sized None = sized []
fold_sized d h over sized (Some t) = eval_length d h (plain h over) sized (λ s. sized []) t

own_sized : (d : ℕ) (h : HashFunction) (T : Layout) (b : Bagging) (over : Content) (n i low high : ℕ) → IsSized d h
    → (s : Site) → length (own_digest h T b over n i low high s) ≡ d
own_sized d h T b over n i low high sized front = fold_sized d h over sized _
own_sized d h T b over n i low high sized back = fold_sized d h over sized _
own_sized d h T b over n i low high sized (node a k) =
    eval_length d h (plain h over) sized (λ s. sized []) (node_calc T never k a)

slot_sized : (d : ℕ) (h : HashFunction) → IsSized d h → (slot : Option (List ℕ)) → check.IsSlot d (option_map h slot)
slot_sized d h sized None = tt
slot_sized d h sized (Some x) = sized x

-- a family whose nodes come with the last of their leaves has no pending chunk
pub none_pending : (S : Shape) → ((a k : ℕ) → S.birth a k ≡ a + 2 ^ k) → (k n : ℕ) → n / 2 ^ k ≡ graftable_at S k n
none_pending S prompt k n =
    let positive : 0 < 2 ^ k = pow_pos k in
    let born : S.birth 0 k ≡ 2 ^ k = omega (arith, prompt 0 k) in
    elim (cases_lt n (S.birth 0 k)) [
      | inl few ↦
          let less : n / 2 ^ k < 1 = (div-lt_iff_lt-mul positive).1 (omega (arith, born)) in
          rw (lt-ltb n (S.birth 0 k) few) (omega arith)
      | inr enough ↦
          let parts : n ≡ (n - S.birth 0 k) + 2 ^ k = omega (arith, born) in
          let e : n / 2 ^ k ≡ (n - S.birth 0 k) / 2 ^ k + 1 =
          ap (λ (x : ℕ). x / 2 ^ k) parts ∙ add-div_right (n - S.birth 0 k) positive in
          rw (le-ltb n (S.birth 0 k) enough) e
    ]

module _ (d : ℕ) (h : HashFunction) (sized : IsSized d h) (g : Grafting) (grafting : IsGrafting g) (has_pending : Bool)
    (prompt : IsPrompt has_pending g.shape) (s : Snapshot) (snapshot : IsSnapshot s) where
  slot_fits : (there : Bool) → IsPrompt there g.shape → IsPendingSlot there (option_map h (pending_of h g s))
  slot_fits true none = tt
  slot_fits false none =
      let n = length s.operations in
      let same : n / 2 ^ height g ≡ graftable g n = none_pending g.shape (none refl) (height g) n in
      rw (le-ltb (graftable g n) (n / 2 ^ height g) (omega arith)) refl

  own_digests : (low high : ℕ) → HasDigests d (own_range_proof h g s low high)
  own_digests low high = record {
    range = all_digests (own_digest h (view g (length s.operations)) BackwardFold (content h g s) (length s.operations)
        (aligned_of h g s) low high) d (own_sized d h (view g (length s.operations)) BackwardFold (content h g s)
        (length s.operations) (aligned_of h g s) low high sized) _;
    ops_root = sized _;
    pending = slot_sized d h sized _;
    partial = slot_sized d h sized _;
  }

  own_admitted : (low high most : ℕ) → length (own_range_proof h g s low high).range.digests ≤ most → most < 2 ^ 64
      → IsAdmittedRangeProof has_pending most (own_range_proof h g s low high)
  own_admitted low high most count small =
      let n = length s.operations in
      let few = snapshot.few in
      let inactive = aligned-le g.shape n s.floor (height g) in
      let peaks = grafting.laws.few n few in
      record {
        range = record {
          leaves = few;
          inactive = omega (arith, inactive, peaks);
          count = omega (arith, count, small);
          few = count;
        };
        pending = slot_fits has_pending prompt;
      }

  pub own_current_again : (low high most : ℕ) → length (own_range_proof h g s low high).range.digests ≤ most
      → most < 2 ^ 64 → (rest : List ℕ) →
      range_proof_at has_pending d most (range_proof_text has_pending (own_range_proof h g s low high) ++ rest)
      ≡ Ok (own_range_proof h g s low high, rest)
  own_current_again low high most count small rest =
      current_again has_pending d most (own_range_proof h g s low high) rest (own_digests low high)
      (own_admitted low high most count small)

  -- the proof of one operation has at most 127 digests
  own_count : (low : ℕ) → length (own_range_proof h g s low (low + 1)).range.digests ≤ 128
  own_count low =
      let n = length s.operations in
      let T = view g n in
      let i = aligned_of h g s in
      let count : length
      (map (own_digest h T BackwardFold (content h g s) n i low (low + 1)) (sites T low (low + 1) BackwardFold n i))
      ≡ length (sites T low (low + 1) BackwardFold n i) = length-map _ _ in
      let most = few_sites T low grafting.laws BackwardFold n i snapshot.few in
      omega (arith, count, most)

  pub own_again : (location : ℕ) → location < length s.operations → (rest : List ℕ) →
      sized_operation_at has_pending d g.bytes 128 (operation_text has_pending (own_operation_proof h g s location)
      ++ rest) ≡ Ok (own_operation_proof h g s location, rest)
  own_again location within rest =
      sized_again has_pending d g.bytes 128 (own_operation_proof h g s location) rest
      (own_digests location (location + 1)) (record {
        array = record {
          proof = record {
            location = omega (arith, snapshot.few, within);
            range = own_admitted location
                (location + 1) 128 (own_count location) (omega arith);
          };
          chunk = chunk-length g.bytes s.bits _;
        };
        size_is = grafting.size;
      })
