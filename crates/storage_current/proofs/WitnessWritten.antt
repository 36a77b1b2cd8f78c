-- Witnesses that are held: what they are written as, and what a yes of their check means.
use Rattle.std.proofs.Common.{◌≡◌, ℕ, ◌%◌, ◌<◌, ◌^◌, List, length, Option, Some, None, refl, sym, ap, ◌∙◌, subst}
use Rattle.std.specs.Prelude.{IfSome, option_map}
use Rattle.storage_codec.specs.Digests.{HashFunction, IsSized}
use Rattle.storage_codec.specs.Parts.{option_text}
use Rattle.storage_current.specs.CurrentProofs.{witness_string}
use Rattle.storage_current.specs.CurrentSoundness.{WitnessesAreSound}
use Rattle.storage_current.specs.Laws.CurrentWire.{held_slot}
use Rattle.storage_current.specs.Snapshots.{Grafting, Snapshot, Witness, height, grafted_root_of, pending_of, partial_of, own_witness}
use Rattle.storage_current.specs.WitnessWire.{counted_text, witness_of, witness_with, MeansWitness}
use Rattle.storage_current.specs.declared.qmdb.current.proof.witness.OpsRootWitness.{OpsRootWitness}
use Rattle.storage_current.specs.declared.qmdb.current.proof.witness.codec.Counted.{Counted}

abbrev pub held_text : {D : Type 0} → (D → List ℕ) → Counted D → List ℕ
held_text text p = counted_text (p.bits, text p.digest)

abbrev pub held_of : {D : Type 0} → ℕ × D → Counted D
held_of p = record { bits = p.0; digest = p.1 }

held_at : {D : Type 0} (text : D → List ℕ) (partial : Option (ℕ × D)) → option_text (held_text text)
    (option_map held_of partial) ≡ option_text counted_text (option_map (λ p. (p.0, text p.1)) partial)
held_at text None = refl
held_at text (Some p) = refl

pub held_same : {D : Type 0} (text : D → List ℕ) (o : Option (Counted D)) (partial : Option (ℕ × D))
    → o ≡ option_map held_of partial
    → option_text (held_text text) o ≡ option_text counted_text (option_map (λ p. (p.0, text p.1)) partial)
held_same text o partial e = ap (option_text (held_text text)) e ∙ held_at text partial

abbrev held : {D : Type 0} → (D → List ℕ) → Option (ℕ × D) → Option (ℕ × List ℕ)
held text partial = option_map (λ p. (p.0, text p.1)) partial

counted_fits : {D : Type 0} (text : D → List ℕ) (d : ℕ) → ((x : D) → length (text x) ≡ d) → (partial : Option (ℕ × D))
    → IfSome partial (λ p. p.0 < 2 ^ 64)
    → (n : ℕ) (x : List ℕ) → held text partial ≡ Some (n, x) → (n < 2 ^ 64) × (length x ≡ d)
counted_fits text d sized None ok n x e = absurd cc
counted_fits text d sized (Some p) ok n x e =
    let pair : (p.0, text p.1) ≡ (n, x) = cc in
    let number : p.0 ≡ n = ap (λ (q : ℕ × List ℕ). q.0) pair in
    let bytes : text p.1 ≡ x = ap (λ (q : ℕ × List ℕ). q.1) pair in
    (subst (λ m. m < 2 ^ 64) number ok, ap length (sym bytes) ∙ sized p.1)

pub means_witness : {F D : Type 0} → WitnessesAreSound → (text : D → List ℕ) (d : ℕ) → ((x : D) → length (text x) ≡ d)
    → (h : HashFunction) → 0 < d → IsSized d h
    → (w : OpsRootWitness F D) (ops_root : D) (root : List ℕ) → IfSome w.partial_chunk (λ p. p.0 < 2 ^ 64)
    → h (witness_string (witness_of text w) (text ops_root)) ≡ root
    → MeansWitness h (witness_of text w) (text ops_root) root
means_witness sound text d sized h some wide w ops_root root bits accepted g s is same =
    sound d h some wide g (witness_of text w) (text ops_root) (sized w.grafted_root) (sized ops_root)
    (held_slot text d sized w.pending_chunk_digest)
    (counted_fits text d sized w.partial_chunk bits) s is (accepted ∙ sym same)

pair_of_map : {A B : Type 0} (f : A → B) (n : ℕ) (o : Option A)
    → option_map {U = ℕ × B} (λ x. (n, x)) (option_map f o) ≡ option_map {U = ℕ × B} (λ c. (n, f c)) o
pair_of_map f n None = refl
pair_of_map f n (Some x) = refl

module _ (h : HashFunction) (g : Grafting) (s : Snapshot) where
  -- a witness of these parts is the snapshot's own
  pub witness_from : (w : Witness) (grafted : List ℕ) (pending partial : Option (List ℕ)) (next : ℕ)
      → w ≡ witness_with grafted pending next partial
      → grafted ≡ grafted_root_of h g s → pending ≡ option_map h (pending_of h g s)
      → next ≡ length s.operations % 2 ^ height g → partial ≡ option_map h (partial_of h g s)
      → w ≡ own_witness h g s
  witness_from w grafted pending partial next e eg ep en ea =
      e ∙ rw (eg, ep, en, ea, pair_of_map h (length s.operations % 2 ^ height g) (partial_of h g s)) refl
