-- What the check of the bytes of a snapshot's own range proof answers, and why none is built.
use Rattle.std.proofs.Common.{◌≡◌, ℕ, ◌+◌, ◌<◌, ◌≤◌, ◌^◌, Bool, true, List, length, map, Option, sym, ap, ◌∙◌, subst, ◌↔◌}
use Rattle.std.specs.Bool.{IsTrue}
use Rattle.std.specs.Option.{option_map}
use Rattle.std.proofs.lemmas.List.{length-map}
use Rattle.storage_codec.specs.Digests.{HashFunction, IsSized}
use Rattle.storage_merkle.specs.Shape.{Laws}
use Rattle.storage_merkle.specs.Plans.{PlanOf, GreatestNodesArePlanned}
use Rattle.storage_bitmap.specs.Chunks.{Retained}
use Rattle.storage_ops.specs.declared.qmdb.error.Error.{Error}
use Rattle.storage_ops.specs.declared.qmdb.error.Error.TheVariants.{Memory}
use Rattle.storage_current.specs.BuiltProofs.{IsNotBuilt}
use Rattle.storage_current.specs.KeptSnapshots.{KeptSnapshot, StandsForSnapshot}
use Rattle.storage_current.specs.NodeLists.{told_by}
use Rattle.storage_current.specs.Snapshots.{Grafting, IsGrafting, Snapshot, IsSnapshot, first_chunk, Holds, RangeProof, canonical_root, own_range_proof}
use Rattle.storage_current.specs.CurrentWire.{range_proof_text}
use Rattle.storage_current.specs.OwnWire.{IsPrompt}
use Rattle.commonware_storage.specs.LightRanges.{HasFewDigests, IsAcceptedRange, OwnRangesAreAccepted, own_range_text}
use Rattle.commonware_storage.proofs.OwnParts.{never_refused}

-- what the check is asked about, where its bytes are what a snapshot's own proof is written as
pub range_asked : (d : ℕ) (h : HashFunction) (g : Grafting) (has_pending : Bool) (s : Snapshot) (most at start high : ℕ)
    (operations chunks : List (List ℕ)) (bytes root : List ℕ) (p : RangeProof) → at ≡ start
    → bytes ≡ range_proof_text has_pending p → p ≡ own_range_proof h g s start high
    → (answer : Bool) → (IsTrue answer ↔ IsAcceptedRange h g has_pending d most at bytes operations chunks root)
    → IsTrue answer ↔ IsAcceptedRange h g has_pending d most start (own_range_text h g has_pending s start high)
    operations chunks root
range_asked d h g has_pending s most at start high operations chunks bytes root p same written own answer exact =
    let text : bytes ≡ own_range_text h g has_pending s start high = written ∙ ap (range_proof_text has_pending) own in
    let of_text =
    subst (λ b. IsTrue answer ↔ IsAcceptedRange h g has_pending d most at b operations chunks root) text exact in
    subst (λ n. IsTrue answer ↔ IsAcceptedRange h g has_pending d most n
    (own_range_text h g has_pending s start high) operations chunks root) same of_text

-- it says yes of the snapshot's own operations and chunks
pub range_yes : OwnRangesAreAccepted → (d : ℕ) (h : HashFunction) → IsSized d h → (g : Grafting) → IsGrafting g
    → (has_pending : Bool) → IsPrompt has_pending g.shape
    → (s : Snapshot) → IsSnapshot s → (most start high : ℕ) {O : Type 0} (bytes : O → List ℕ) (operations : List O)
    (chunks : List (List ℕ)) (root : List ℕ) → high ≡ start + length operations
    → Holds g s start (map bytes operations) chunks → HasFewDigests h g s start high most → most < 2 ^ 64
    → root ≡ canonical_root h g s
    → (answer : Bool) → (IsTrue answer ↔ IsAcceptedRange h g has_pending d most start
    (own_range_text h g has_pending s start high) (map bytes operations) chunks root) → answer ≡ true
range_yes accepted d h sized g grafting has_pending prompt s snapshot most start high bytes operations chunks root ends
    holds few small root_is answer exact =
    let claimed = map bytes operations in
    let end : high ≡ start + length claimed = ends ∙ ap (λ n. start + n) (sym (length-map operations bytes)) in
    let law = accepted d h sized g grafting has_pending prompt s snapshot most start claimed chunks holds
    (subst (λ n. HasFewDigests h g s start n most) end few) small in
    let at_end = subst (λ n. IsAcceptedRange h g has_pending d most start (own_range_text h g has_pending s start n)
    claimed chunks (canonical_root h g s)) (sym end) law in
    exact.1 (subst (IsAcceptedRange h g has_pending d most start (own_range_text h g has_pending s start high) claimed
    chunks) (sym root_is) at_end)

-- a range of a snapshot in memory is refused for want of memory alone
pub range_refused_for_memory : {D : Type 0} (text : D → List ℕ) (answers : ℕ → Option D → Type 0) (h : HashFunction)
    (g : Grafting) → Laws g.shape → GreatestNodesArePlanned → (plan : PlanOf) (kept : KeptSnapshot) (s : Snapshot)
    → IsSnapshot s → StandsForSnapshot h g kept s → plan.leaves ≡ length s.operations
    → ((p : ℕ) (o : Option D) → answers p o → option_map text o ≡ told_by kept.nodes p)
    → kept.status.pruned ≤ first_chunk g plan.start → {F : Type 0} (error : Error F) (status : Retained) → status ≡ kept.status
    → IsNotBuilt answers g plan status error → error ≡ Memory
range_refused_for_memory text answers h g laws greatest plan kept s snapshot stands count served from error status same not_built =
    never_refused text answers h g laws greatest plan kept s snapshot stands count served from error
    (subst (λ r. IsNotBuilt answers g plan r error) same not_built)
