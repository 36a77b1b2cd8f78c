-- The check of a current range proof, from what its steps answer.
use Rattle.std.proofs.Common.{◌≡◌, ℕ, ◌/◌, ◌%◌, ◌^◌, List, length, map, Bool, true, false, not, ltb, eqb, sym, ◌∙◌, ◌⊎◌, [], ◌∷◌, Some, None, Result, Ok, Err, subst}
use Rattle.std.proofs.lemmas.List.{length-map}
use Rattle.std.specs.Bool.{IsTrue}
use Rattle.std.specs.Result.{IfOk}
use Rattle.storage_codec.specs.Digests.{HashFunction, IsSized}
use Rattle.storage_merkle.specs.Shape.{Laws}
use Rattle.storage_bitmap.specs.Packed.{bit_in}
use Rattle.storage_merkle.specs.declared.merkle.bagging.Bagging.TheVariants.{BackwardFold}
use Rattle.storage_merkle.specs.Trees.{Layout, Content}
use Rattle.storage_merkle.specs.RangeProofs.{AreDigests, CountsFit, recomputed_root}
use Rattle.storage_merkle.specs.Checks.{IsRecomputed}
use Rattle.storage_current.specs.declared.qmdb.current.proof.window.Window.{Window}
use Rattle.storage_current.specs.Grafted.{grafted_over, supplied}
use Rattle.storage_current.specs.Snapshots.{Grafting, height, graftable, view, canonical_string, first_chunk, RangeProof, OperationProof}
use Rattle.storage_current.specs.CurrentProofs.{claim, IsCurrent, IsActiveCurrent}
use Rattle.storage_current.specs.CurrentSoundness.{CurrentProofsAreSound, OperationProofsAreSound, HasDigests, MeansCurrent, MeansActive}
use Rattle.storage_current.specs.Windows.{IsWindowOf, IsMatched}
use Rattle.storage_current.proofs.Windows.{Pending, Partial, current_from, current_slots}

-- the lengths of lists that are seen
pub seen_lengths : {X Y : Type 0} (f : X → List ℕ) (k : Y → List ℕ) (xs : List X) (ys : List Y) (g : Grafting)
    (leaves start : ℕ) (w : Window)
    → IsWindowOf g leaves start (length xs) (length ys) w
    → IsWindowOf g leaves start (length (map f xs)) (length (map k ys)) w
seen_lengths f k xs ys g leaves start w of = rw (length-map xs f, length-map ys k) of

module _ (h : HashFunction) (g : Grafting) (proof : RangeProof) (start : ℕ) (operations chunks : List (List ℕ))
    (w : Window) (of : IsWindowOf g proof.range.leaves start (length operations) (length chunks) w) where
  -- the slots as the window has them
  abbrev pub Slots : Type 0
  Slots =
      IsMatched h proof.partial (not (eqb w.counts.next_bit 0)) w.first_chunk w.last_chunk w.counts.complete chunks
      × IsMatched h proof.pending
      (ltb w.counts.graftable w.counts.complete) w.first_chunk w.last_chunk w.counts.graftable chunks

  slots_to : Slots → Partial h g proof start operations chunks × Pending h g proof start operations chunks
  slots_to s = rw (of.next_is, of.first_is, of.last_is, of.complete_is, of.graftable_is) at s

  slots_from : Partial h g proof start operations chunks × Pending h g proof start operations chunks → Slots
  slots_from s = rw (of.next_is, of.first_is, of.last_is, of.complete_is, of.graftable_is) s

  -- a check that finds a slot which does not match says no
  pub unmatched : (b : Bool) → (Slots → b ≡ true) → b ≡ false → {root : List ℕ}
      → IsCurrent h g proof start operations chunks root → IsTrue false
  unmatched b test found {root} c =
      sym found ∙ test (slots_from (current_slots h g proof start operations chunks root c))

  -- what the tree's check is given, as the verifier has it
  module _ (k first r : ℕ) (lent : List (List ℕ)) (k_is : k ≡ w.height) (first_is : first ≡ w.first_chunk)
      (r_is : r ≡ w.counts.graftable) (lent_is : lent ≡ chunks) where
    abbrev pub layout : Layout
    layout = record { shape = g.shape; position = g.shape.position; grafted = grafted_over k r }

    abbrev pub content : Content
    content = record { elements = operations; chunk = λ a. supplied first lent (a / 2 ^ k) }

    pub to_claim : (P : Layout → Content → Type 0) → P layout content
        → P (view g proof.range.leaves) (claim h g proof start operations chunks)
    to_claim P p = moved (k_is ∙ of.height_is) (first_is ∙ of.first_is) (r_is ∙ of.graftable_is) lent_is
      where
        moved : k ≡ height g → first ≡ first_chunk g start → r ≡ graftable g proof.range.leaves → lent ≡ chunks
            → P (view g proof.range.leaves) (claim h g proof start operations chunks)
        moved a b c d = rw (a, b, c, d) at p

    -- no root: the counts do not fit
    pub unfit : IsRecomputed h layout BackwardFold proof.range start content None → {root : List ℕ}
        → IsCurrent h g proof start operations chunks root → IsTrue false
    unfit none c = absurd (to_claim (λ T e. CountsFit h T BackwardFold proof.range start e → ⊥) none c.counts)

    -- a root: the check says yes exactly where the canonical root is the one given
    pub decided : (grafted_root : List ℕ) → IsRecomputed h layout BackwardFold proof.range start content
        (Some grafted_root) → AreDigests g.bytes chunks → Slots
        → (computed root : List ℕ)
        → computed ≡ h (canonical_string proof.ops_root grafted_root proof.pending w.counts.next_bit proof.partial)
        → (b : Bool) → (b ≡ true → computed ≡ root) × (computed ≡ root → b ≡ true)
        → (IsTrue b → IsCurrent h g proof start operations chunks root)
        × (IsCurrent h g proof start operations chunks root → IsTrue b)
    decided grafted_root some sized slots computed root computed_is b same =
        let p = to_claim (λ T e. CountsFit h T BackwardFold proof.range start e
        × (grafted_root ≡ recomputed_root h T BackwardFold proof.range start e)) some in
        let e : computed ≡ h (canonical_string proof.ops_root (recomputed_root h (view g proof.range.leaves)
        BackwardFold proof.range start (claim h g proof start operations chunks)) proof.pending
        (proof.range.leaves % 2 ^ height g) proof.partial) =
        rw (p.1, of.next_is) at computed_is in (
          λ yes. current_from h g proof start operations chunks of.fits sized (slots_to slots) p.0 (sym e ∙ same.0 yes),
          λ c. same.1 (e ∙ c.root_is),
        )

-- ---- what a yes means

-- from where a check says yes, what its yes means
pub current_means : CurrentProofsAreSound → (d : ℕ) (h : HashFunction) → (d ≡ 32) ⊎ (d ≡ 64) → IsSized d h
    → (g : Grafting) → Laws g.shape
    → (proof : RangeProof) (start : ℕ) (operations chunks : List (List ℕ)) → HasDigests d proof
    → {E : Type 0} (root : List ℕ) (answer : Result Bool E)
    → IfOk answer (λ yes. (IsTrue yes → IsCurrent h g proof start operations chunks root)
    × (IsCurrent h g proof start operations chunks root → IsTrue yes))
    → IfOk answer (λ yes. IsTrue yes → MeansCurrent h g proof start operations chunks root)
current_means law d h wide sized g laws proof start operations chunks has root (Ok b) exact =
    λ true_. λ s snapshot same.
    law d h wide sized g laws proof start operations chunks has s snapshot
    (subst (λ (r : List ℕ). IsCurrent h g proof start operations chunks r) (sym same) (exact.0 true_))
current_means law d h wide sized g laws proof start operations chunks has root (Err e) exact = tt

pub active_means : OperationProofsAreSound → (d : ℕ) (h : HashFunction) → (d ≡ 32) ⊎ (d ≡ 64) → IsSized d h
    → (g : Grafting) → Laws g.shape
    → (proof : OperationProof) (operation : List ℕ) → HasDigests d proof.range
    → {E : Type 0} (root : List ℕ) (answer : Result Bool E)
    → IfOk answer (λ yes. (IsTrue yes → IsActiveCurrent h g proof operation root)
    × (IsActiveCurrent h g proof operation root → IsTrue yes))
    → IfOk answer (λ yes. IsTrue yes → MeansActive h g proof operation root)
active_means law d h wide sized g laws proof operation has root (Ok b) exact = λ true_. λ s snapshot same.
    law d h wide sized g laws proof operation has s snapshot
    (subst (λ (r : List ℕ). IsActiveCurrent h g proof operation r) (sym same) (exact.0 true_))
active_means law d h wide sized g laws proof operation has root (Err e) exact = tt

-- an operation's check from the check of the range of it alone
pub active_exact : (h : HashFunction) (g : Grafting) (proof : OperationProof) (operation root : List ℕ) {E : Type 0}
    (answer : Result Bool E)
    → bit_in proof.chunk (proof.location % 2 ^ height g) ≡ true
    → IfOk answer
    (λ yes. (IsTrue yes → IsCurrent h g proof.range proof.location (operation ∷ []) (proof.chunk ∷ []) root)
    × (IsCurrent h g proof.range proof.location (operation ∷ []) (proof.chunk ∷ []) root → IsTrue yes))
    → IfOk answer (λ yes. (IsTrue yes → IsActiveCurrent h g proof operation root)
    × (IsActiveCurrent h g proof operation root → IsTrue yes))
active_exact h g proof operation root (Ok b) bit exact =
    (λ t. record { bit = bit; current = exact.0 t }, λ a. exact.1 a.current)
active_exact h g proof operation root (Err e) bit exact = tt
