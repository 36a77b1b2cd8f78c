-- What the check of an operation answers, said of a key.
use Rattle.std.proofs.Common.{◌≡◌, ◌↔◌, ℕ, Bool, List, ◌++◌, length, Option, Result, Ok, Err, inl, inr, subst, ap}
use Rattle.std.specs.Bool.{IsTrue}
use Rattle.std.specs.Result.{IfOk}
use Rattle.storage_codec.specs.Digests.{HashFunction}
use Rattle.storage_merkle.specs.Shape.{Shape}
use Rattle.storage_ops.specs.Operations.{OperationView, Update, CommitFloor}
use Rattle.storage_current.specs.Snapshots.{Grafting, Snapshot, IsSnapshot, IsActive, OperationProof}
use Rattle.storage_current.specs.CurrentProofs.{IsActiveCurrent}
use Rattle.storage_current.specs.CurrentSoundness.{MeansActive}
use Rattle.storage_current.specs.Keys.{Keyed, update_text, IsWellFormed, IsValue, IsAbsent, UpdatesAreValues}
use Rattle.storage_current.specs.KeyProofs.{Means, MeansValue, MeansAbsent, Exclusion, IsExcluded, proof_in, shown_text}

module _ (h : HashFunction) (g : Grafting) (proof : OperationProof) (root : List ℕ) {E : Type 0}
    (answer : Result Bool E) where
  -- the same of the same bytes
  pub same_exactly : (a b : List ℕ) → a ≡ b → IfOk answer (λ yes. IsTrue yes ↔ IsActiveCurrent h g proof a root)
      → IfOk answer (λ yes. IsTrue yes ↔ IsActiveCurrent h g proof b root)
  same_exactly a b e exact =
      subst (λ (t : List ℕ). IfOk answer (λ yes. IsTrue yes ↔ IsActiveCurrent h g proof t root)) e exact

  same_meaning : (a b : List ℕ) → a ≡ b → IfOk answer (λ yes. IsTrue yes → MeansActive h g proof a root)
      → IfOk answer (λ yes. IsTrue yes → MeansActive h g proof b root)
  same_meaning a b e means =
      subst (λ (t : List ℕ). IfOk answer (λ yes. IsTrue yes → MeansActive h g proof t root)) e means

means_more : (h : HashFunction) (g : Grafting) (proof : OperationProof) (operation root : List ℕ)
    (Claim : Snapshot → Type 0)
    → ((s : Snapshot) → IsSnapshot s → IsActive s proof.location operation → Claim s)
    → MeansActive h g proof operation root → Means h g proof operation root Claim
means_more h g proof operation root Claim holds means s snapshot same =
    elim (means s snapshot same) [
      | inl both ↦ inl (both.0, both.1, holds s snapshot both.1)
      | inr crossed ↦ inr crossed
    ]

yes_more : {E : Type 0} (h : HashFunction) (g : Grafting) (proof : OperationProof) (root : List ℕ)
    (answer : Result Bool E) (operation : List ℕ) (Claim : Snapshot → Type 0)
    → ((s : Snapshot) → IsSnapshot s → IsActive s proof.location operation → Claim s)
    → IfOk answer (λ yes. IsTrue yes → MeansActive h g proof operation root)
    → IfOk answer (λ yes. IsTrue yes → Means h g proof operation root Claim)
yes_more h g proof root (Err x) operation Claim holds means = tt
yes_more h g proof root (Ok b) operation Claim holds means =
    λ t. means_more h g proof operation root Claim holds (means t)

-- and what follows where the operation is active
pub means_claim : {E : Type 0} (h : HashFunction) (g : Grafting) (proof : OperationProof) (root : List ℕ)
    (answer : Result Bool E) (a b : List ℕ) → a ≡ b
    → (Claim : Snapshot → Type 0) → ((s : Snapshot) → IsSnapshot s → IsActive s proof.location b → Claim s)
    → IfOk answer (λ yes. IsTrue yes → MeansActive h g proof a root)
    → IfOk answer (λ yes. IsTrue yes → Means h g proof b root Claim)
means_claim h g proof root answer a b e Claim holds means =
    yes_more h g proof root answer b Claim holds (same_meaning h g proof root answer a b e means)

pub means_value : {E K V : Type 0} (h : HashFunction) (g : Grafting) (proof : OperationProof) (root : List ℕ)
    (answer : Result Bool E) (e : Keyed K V) (key : K) (value : V) (next : K) (a : List ℕ)
    → a ≡ update_text e key value next → UpdatesAreValues e
    → IfOk answer (λ yes. IsTrue yes → MeansActive h g proof a root)
    → IfOk answer (λ yes. IsTrue yes → MeansValue e h g proof key value next root)
means_value h g proof root answer e key value next a same law means =
    means_claim h g proof root answer a (update_text e key value next) same (λ s. IsWellFormed e s
    → IsValue e s key value)
    (λ s snapshot active well. law s well proof.location key value next active) means

pub means_absent : {E K V : Type 0} (h : HashFunction) (g : Grafting) (root : List ℕ) (answer : Result Bool E)
    (e : Keyed K V) (x : Exclusion (K × V × K) V) (key : K) (a : List ℕ)
    → a ≡ shown_text e x → ((s : Snapshot) → IsSnapshot s → IsWellFormed e s
    → IsActive s (proof_in x).location (shown_text e x) → IsAbsent e s key)
    → IfOk answer (λ yes. IsTrue yes → MeansActive h g (proof_in x) a root)
    → IfOk answer (λ yes. IsTrue yes → MeansAbsent e h g x key root)
means_absent h g root answer e x key a same law means =
    means_claim h g (proof_in x) root answer a (shown_text e x) same (λ s. IsWellFormed e s → IsAbsent e s key)
    (λ s snapshot active well. law s snapshot well active) means

-- an update with the same next key, an update with the same parts, a commit with the same value
pub next_same : (operation : OperationView (List ℕ) (List ℕ) (List ℕ) → List ℕ) (key value m n : List ℕ) → m ≡ n
    → operation (Update (key ++ value ++ m)) ≡ operation (Update (key ++ value ++ n))
next_same operation key value m n e = ap (λ (t : List ℕ). operation (Update (key ++ value ++ t))) e

pub update_same : (operation : OperationView (List ℕ) (List ℕ) (List ℕ) → List ℕ) (m n : List ℕ) → m ≡ n
    → operation (Update m) ≡ operation (Update n)
update_same operation m n e = ap (λ (t : List ℕ). operation (Update t)) e

pub commit_same : (operation : OperationView (List ℕ) (List ℕ) (List ℕ) → List ℕ) (floor : ℕ) (m n : Option (List ℕ))
    → m ≡ n → operation (CommitFloor m floor) ≡ operation (CommitFloor n floor)
commit_same operation floor m n e = ap (λ (t : Option (List ℕ)). operation (CommitFloor t floor)) e

module _ {E K V : Type 0} (h : HashFunction) (S : Shape) (e : Keyed K V) (key : K) (root : List ℕ)
    (answer : Result Bool E) (x y : Exclusion (K × V × K) V) (same : x ≡ y) where
  abbrev over : Exclusion (K × V × K) V → Grafting
  over z = record { shape = S; bytes = length (proof_in z).chunk }

  -- the same of the same exclusion
  pub excluded_exactly : IfOk answer (λ yes. IsTrue yes ↔ IsExcluded e h (over x) x key root)
      → IfOk answer (λ yes. IsTrue yes ↔ IsExcluded e h (over y) y key root)
  excluded_exactly exact = subst
      (λ (z : Exclusion (K × V × K) V). IfOk answer (λ yes. IsTrue yes ↔ IsExcluded e h (over z) z key root)) same exact

  pub excluded_meaning : IfOk answer (λ yes. IsTrue yes → MeansAbsent e h (over x) x key root)
      → IfOk answer (λ yes. IsTrue yes → MeansAbsent e h (over y) y key root)
  excluded_meaning means = subst (λ (z : Exclusion (K × V × K) V).
      IfOk answer (λ yes. IsTrue yes → MeansAbsent e h (over z) z key root)) same means
