-- Proofs about keys: what was written is read again, and what is read was written so.
use Rattle.std.proofs.Common.{◌≡◌, ℕ, Bool, cond, eqb, List, [], ◌∷◌, ◌++◌, length, Option, Ok, ap, inl, inr}
use Rattle.std.specs.Prelude.{IfSome, option_map}
use Rattle.storage_codec.specs.Faults.{EndOfBuffer, InvalidEnum}
use Rattle.storage_codec.specs.Parts.{IsBytes, option_text}
use Rattle.storage_codec.specs.Codec.{Answer, mapped, option_at}
use Rattle.storage_codec.specs.Laws.Reading.{mapped_ok, option_again, option_back}
use Rattle.storage_ops.specs.Reading.{IsRead, IsSpelled}
use Rattle.storage_ops.specs.Laws.Reading.{mapped_again, tail_bytes, tag_is, no_fault, failed}
use Rattle.storage_codec.specs.Laws.Varint.{chosen}
use Rattle.storage_ops.specs.Laws.Updates.{unordered_again, unordered_back}
use Rattle.storage_current.specs.Snapshots.{OperationProof}
use Rattle.storage_current.specs.CurrentSoundness.{HasDigests}
use Rattle.storage_current.specs.CurrentWire.{operation_text, operation_at, sized_operation_at, IsAdmittedArray, IsAdmittedSized}
use Rattle.storage_current.specs.Laws.CurrentWire.{operation_again, operation_back, sized_again, sized_back, held_digests}
use Rattle.storage_current.specs.HeldKeys.{exclusion_of}
use Rattle.storage_current.specs.declared.qmdb.current.ordered.exclusion.ExclusionProof.{ExclusionProof}
use Rattle.storage_current.specs.declared.qmdb.current.ordered.exclusion.ExclusionProof.TheVariants as code
use Rattle.storage_current.specs.KeyProofs.{Exclusion, KeyValue, Commit, proof_in}
use Rattle.storage_current.specs.KeyWire.{pair_at, exclusion_text, exclusion_at, exclusion_map, IsAdmittedExclusion, WithDigests}

-- a pair of parts
pub pair_again : {A B V W : Type 0} (first : A → List ℕ) (second : B → List ℕ) (aview : A → V) (bview : B → W)
    (aparse : List ℕ → Answer V) (bparse : List ℕ → Answer W) (aadm : A → Type 0) (badm : B → Type 0)
    → IsRead first aview aparse aadm → IsRead second bview bparse badm
    → (a : A) (b : B) (rest : List ℕ) → aadm a × badm b
    → pair_at aparse bparse (first a ++ second b ++ rest) ≡ Ok ((aview a, bview b), rest)
pair_again first second aview bview aparse bparse aadm badm ais bis a b rest h =
    unordered_again first second aview bview aparse bparse aadm badm ais bis a b rest h

pub pair_back : {A B V W : Type 0} (first : A → List ℕ) (second : B → List ℕ) (aview : A → V) (bview : B → W)
    (aparse : List ℕ → Answer V) (bparse : List ℕ → Answer W)
    → IsSpelled first aview aparse → IsSpelled second bview bparse
    → (bytes : List ℕ) (a : A) (b : B) (rest : List ℕ) → IsBytes bytes
    → pair_at aparse bparse bytes ≡ Ok ((aview a, bview b), rest) → bytes ≡ first a ++ second b ++ rest
pair_back first second aview bview aparse bparse ais bis bytes a b rest fits e =
    unordered_back first second aview bview aparse bparse ais bis bytes a b rest fits e

abbrev key_value_of : {U V : Type 0} → OperationProof × U → Exclusion U V
key_value_of x = KeyValue x.0 x.1

abbrev commit_of : {U V : Type 0} → OperationProof × Option V → Exclusion U V
commit_of x = Commit x.0 x.1

module _ {U V X Y : Type 0} (there : Bool) (update : U → List ℕ) (value : V → List ℕ) (uview : U → X) (vview : V → Y)
    (pparse : List ℕ → Answer OperationProof) (uparse : List ℕ → Answer X) (vparse : List ℕ → Answer Y) where
  pub exclusion_again : (padm : OperationProof → Type 0) (uadm : U → Type 0) (vadm : V → Type 0)
      → IsRead (operation_text there) (λ p. p) pparse padm → IsRead update uview uparse uadm
      → IsRead value vview vparse vadm
      → (x : Exclusion U V) (rest : List ℕ) → IsAdmittedExclusion padm uadm vadm x
      → exclusion_at pparse uparse vparse (exclusion_text there update value x ++ rest)
      ≡ Ok (exclusion_map uview vview x, rest)
  exclusion_again padm uadm vadm pis uis vis (KeyValue p u) rest h =
      mapped_again (λ (y : OperationProof × X). key_value_of {V = Y} y)
      (pair_at pparse uparse (operation_text there p ++ update u ++ rest)) (p, uview u) rest
      (pair_again (operation_text there) update (λ q. q) uview pparse uparse padm uadm pis uis p u rest h)
  exclusion_again padm uadm vadm pis uis vis (Commit p v) rest h =
      let ois : IsRead (option_text value) (option_map vview) (option_at vparse) (λ o. IfSome o vadm) =
      record { again = option_again value vview vparse vadm (λ y r q. vis.again y r q) } in
      mapped_again (λ (y : OperationProof × Option Y). commit_of {U = X} y) (pair_at pparse (option_at vparse)
      (operation_text there p ++ option_text value v ++ rest)) (p, option_map vview v) rest
      (pair_again (operation_text there) (option_text value) (λ q. q) (option_map vview) pparse (option_at vparse) padm
      (λ o. IfSome o vadm) pis ois p v rest h)

  span_back : IsSpelled (operation_text there) (λ p. p) pparse → IsSpelled update uview uparse
      → (bytes : List ℕ) (x : Exclusion U V) (rest : List ℕ) → IsBytes bytes
      → mapped (λ (y : OperationProof × X). key_value_of {V = Y} y) (pair_at pparse uparse bytes)
      ≡ Ok (exclusion_map uview vview x, rest) → 0 ∷ bytes ≡ exclusion_text there update value x ++ rest
  span_back pis uis bytes (KeyValue p u) rest fits e =
      let m = mapped_ok (λ (y : OperationProof × X). key_value_of {V = Y} y) (pair_at pparse uparse bytes)
      (KeyValue p (uview u)) rest e in
      let same = m.2 in
      let proof_is : m.0.0 ≡ p = cc in
      let update_is : m.0.1 ≡ uview u = cc in
      let read : pair_at pparse uparse bytes ≡ Ok ((m.0.0, m.0.1), rest) = m.1 in
      ap (λ (t : List ℕ). 0 ∷ t) (pair_back (operation_text there) update
      (λ q. q) uview pparse uparse pis uis bytes p u rest fits (rw (proof_is, update_is) at read))
  span_back pis uis bytes (Commit p v) rest fits e =
      let m = mapped_ok (λ (y : OperationProof × X). key_value_of {V = Y} y) (pair_at pparse uparse bytes)
      (Commit p (option_map vview v)) rest e in
      absurd (let same = m.2 in cc)

  empty_back : IsSpelled (operation_text there) (λ p. p) pparse → IsSpelled value vview vparse
      → (bytes : List ℕ) (x : Exclusion U V) (rest : List ℕ) → IsBytes bytes
      → mapped (λ (y : OperationProof × Option Y). commit_of {U = X} y) (pair_at pparse (option_at vparse) bytes)
      ≡ Ok (exclusion_map uview vview x, rest) → 1 ∷ bytes ≡ exclusion_text there update value x ++ rest
  empty_back pis vis bytes (KeyValue p u) rest fits e =
      let m = mapped_ok (λ (y : OperationProof × Option Y). commit_of {U = X} y)
      (pair_at pparse (option_at vparse) bytes) (KeyValue p (uview u)) rest e in
      absurd (let same = m.2 in cc)
  empty_back pis vis bytes (Commit p v) rest fits e =
      let m = mapped_ok (λ (y : OperationProof × Option Y). commit_of {U = X} y)
      (pair_at pparse (option_at vparse) bytes) (Commit p (option_map vview v)) rest e in
      let same = m.2 in
      let proof_is : m.0.0 ≡ p = cc in
      let value_is : m.0.1 ≡ option_map vview v = cc in
      let read : pair_at pparse (option_at vparse) bytes ≡ Ok ((m.0.0, m.0.1), rest) = m.1 in
      let ois : IsSpelled (option_text value) (option_map vview) (option_at vparse) =
      record { back = option_back value vview vparse (λ b y r f q. vis.back b y r f q) } in
      ap (λ (t : List ℕ). 1 ∷ t) (pair_back (operation_text there) (option_text value) (λ q. q)
      (option_map vview) pparse (option_at vparse) pis ois bytes p v rest fits (rw (proof_is, value_is) at read))

  pub exclusion_back : IsSpelled (operation_text there) (λ p. p) pparse → IsSpelled update uview uparse
      → IsSpelled value vview vparse
      → (bytes : List ℕ) (x : Exclusion U V) (rest : List ℕ) → IsBytes bytes
      → exclusion_at pparse uparse vparse bytes ≡ Ok (exclusion_map uview vview x, rest)
      → bytes ≡ exclusion_text there update value x ++ rest
  exclusion_back pis uis vis [] x rest fits e =
      no_fault {A = Exclusion X Y × List ℕ} EndOfBuffer (exclusion_map uview vview x, rest) _ e
  exclusion_back pis uis vis (tag ∷ bytes) x rest fits e =
      let wrong = failed (Exclusion X Y × List ℕ) (InvalidEnum tag) in
      let spans = mapped (λ (y : OperationProof × X). key_value_of {V = Y} y) (pair_at pparse uparse bytes) in
      let commits =
      mapped (λ (y : OperationProof × Option Y). commit_of {U = X} y) (pair_at pparse (option_at vparse) bytes) in
      let after : IsBytes bytes = tail_bytes (tag ∷ []) bytes fits in
      elim (chosen (eqb tag 0) spans (cond (eqb tag 1) commits wrong) (Ok (exclusion_map uview vview x, rest)) e) [
        | inl h ↦ rw (tag_is tag 0 h.0) (span_back pis uis bytes x rest after h.1)
        | inr h ↦ elim (chosen (eqb tag 1) commits wrong (Ok (exclusion_map uview vview x, rest)) h.1) [
          | inl i ↦ rw (tag_is tag 1 i.0) (empty_back pis vis bytes x rest after i.1)
          | inr i ↦ no_fault (InvalidEnum tag) (exclusion_map uview vview x, rest) _ i.1
        ]
      ]

pub array_read : (there : Bool) (d size most : ℕ) → IsRead (operation_text there) (λ p. p)
    (operation_at there d size most) (WithDigests d (IsAdmittedArray there size most))
array_read there d size most =
    record { again = λ p rest ok. operation_again there d size most p rest ok.0 ok.1.chunk ok.1.proof }

pub sized_read : (there : Bool) (d size most : ℕ) → IsRead (operation_text there) (λ p. p)
    (sized_operation_at there d size most) (WithDigests d (IsAdmittedSized there size most))
sized_read there d size most = record { again = λ p rest ok. sized_again there d size most p rest ok.0 ok.1 }

pub array_spelled : (there : Bool) (d size most : ℕ)
    → IsSpelled (operation_text there) (λ p. p) (operation_at there d size most)
array_spelled there d size most =
    record { back = λ bytes p rest fits e. operation_back there d size most bytes p rest fits e }

pub sized_spelled : (there : Bool) (d size most : ℕ)
    → IsSpelled (operation_text there) (λ p. p) (sized_operation_at there d size most)
sized_spelled there d size most =
    record { back = λ bytes p rest fits e. sized_back there d size most bytes p rest fits e }

-- an admitted exclusion proof whose digests have d bytes
pub with_digests : {U V : Type 0} (d : ℕ) (P : OperationProof → Type 0) (update : U → Type 0) (value : V → Type 0)
    (x : Exclusion U V) → HasDigests d (proof_in x).range
    → IsAdmittedExclusion P update value x → IsAdmittedExclusion (WithDigests d P) update value x
with_digests d P update value (KeyValue p u) has ok = ((has, ok.0), ok.1)
with_digests d P update value (Commit p v) has ok = ((has, ok.0), ok.1)

pub excluded_digests : {F K V D C A W B : Type 0} (text : D → List ℕ) (bytes : C → List ℕ) (d : ℕ)
    → ((x : D) → length (text x) ≡ d)
    → (x : ExclusionProof F K V D C A W B) → HasDigests d (proof_in (exclusion_of text bytes x)).range
excluded_digests text bytes d sized (code.KeyValue proof update) = held_digests text d sized proof.range_proof
excluded_digests text bytes d sized (code.Commit proof value) = held_digests text d sized proof.range_proof
