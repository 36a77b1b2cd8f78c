-- The digests that an accepted check of a range proof hands out.
use Rattle.std.specs.Prelude.{◌≡◌, ◌≢◌, ℕ, zero, suc, ◌+◌, ◌≤◌, ◌^◌, ◌⊎◌, List, [], ◌∷◌, ◌++◌, length, map, Bool, if◌then◌else◌}
use Rattle.std.specs.List.Sorted.{IsStrictlyIncreasing}
use Rattle.storage_codec.specs.Digests.{HashFunction, IsSized, Cross}
use Rattle.storage_merkle.specs.Shape.{Laws, max_leaves}
use Rattle.storage_merkle.specs.Calc.{Site, front, back, node, Values, eval}
use Rattle.storage_merkle.specs.declared.merkle.bagging.Bagging.{Bagging}
use Rattle.storage_merkle.specs.Trees.{Layout, Content, Peak, never, node_calc, peaks_of, tree_root, tree_strings}
use Rattle.storage_merkle.specs.RangeProofs.{Proof, apart, position_of, by_position, check_values, check_strings, CountsFit, IsEmptyProof, IsAccepted, AreDigests}
use Rattle.storage_merkle.specs.Chunked.{AreChunks}
use Rattle.storage_merkle.specs.Multi.{tree_digest}

-- the nodes whose digests the calculation of a node reads or computes, children first
abbrev pub nodes_under : (ℕ → ℕ → Bool) → ℕ → ℕ → List Site
nodes_under cut zero a = node a zero ∷ []
nodes_under cut (suc k) a = (if cut a (suc k) then [] else nodes_under cut k a ++ nodes_under cut k (a + 2 ^ k))
    ++ (node a (suc k) ∷ [])

abbrev pub nodes_in : (ℕ → ℕ → Bool) → List Peak → List Site
nodes_in cut [] = []
nodes_in cut (p ∷ ps) = nodes_under cut p.height p.first ++ nodes_in cut ps

-- the peaks that share a leaf with a range
abbrev pub overlapped : ℕ → ℕ → List Peak → List Peak
overlapped low high [] = []
overlapped low high (p ∷ ps) = if apart low high p.first p.height then overlapped low high ps
    else p ∷ overlapped low high ps

-- each node of those peaks that the check of the range reads or computes, and the same by position
abbrev pub checked_sites : Layout → ℕ → ℕ → ℕ → List Site
checked_sites T n low high = nodes_in (apart low high) (overlapped low high (peaks_of T n))

abbrev pub extracted_sites : Layout → ℕ → ℕ → ℕ → List Site
extracted_sites T n low high = by_position T (checked_sites T n low high)

-- digests with their positions
abbrev pub entries : Layout → (Site → List ℕ) → List Site → List (ℕ × List ℕ)
entries T digest ss = map (λ s. (position_of T s, digest s)) ss

-- handed out digests, by their bytes
abbrev pub by_bytes : {D : Type 0} → (D → List ℕ) → List (ℕ × D) → List (ℕ × List ℕ)
by_bytes bytes_of es = map (λ e. (e.0, bytes_of e.1)) es

-- the digest that a calculation has at a node
abbrev pub digest_at : HashFunction → Values → Layout → (ℕ → ℕ → Bool) → Site → List ℕ
digest_at h v T cut front = h []
digest_at h v T cut back = h []
digest_at h v T cut (node a k) = eval h v (node_calc T cut k a)

-- the digests of a check at some nodes
abbrev pub checked : HashFunction → Layout → Bagging → Proof → ℕ → Content → List Site → List (ℕ × List ℕ)
checked h T b proof start claim ss = entries T
    (digest_at h (check_values h T b proof start claim) T (apart start (start + length claim.elements))) ss

-- what an accepted check hands out
abbrev pub extracted : HashFunction → Layout → Bagging → Proof → ℕ → Content → List (ℕ × List ℕ)
extracted h T b proof start claim = checked h T b proof start claim
    (extracted_sites T proof.leaves start (start + length claim.elements))

-- what the tree over some content has there
abbrev pub tree_entries : HashFunction → Layout → Content → ℕ → ℕ → List (ℕ × List ℕ)
tree_entries h T content low high = entries T (tree_digest h T content)
    (extracted_sites T (length content.elements) low high)

-- the counts fit to a range of some elements, or it is the proof of none
abbrev pub Fits : HashFunction → Layout → Bagging → Proof → ℕ → Content → Type 0
Fits h T b proof start claim = CountsFit h T b proof start claim ⊎ IsEmptyProof h T b proof start claim

-- Of each tree with that root some property holds, or one of the strings and a different one of the tree have one digest, for what
-- is claimed from `start` on. Digests have d bytes and grafted chunks N; which nodes have a chunk grafted may depend on the number
-- of leaves.
abbrev pub HoldsOfEach : ℕ → HashFunction → Layout → Bagging → ℕ → ℕ → Content → List (List ℕ) → List ℕ
    → (Layout → Content → ℕ → Type 0) → Type 0
HoldsOfEach d h T b leaves start claim strings root P =
    (N : ℕ) (grafted : ℕ → ℕ → ℕ → Bool) →
    let over : ℕ → Layout = λ n. record { shape = T.shape; position = T.position; grafted = grafted n } in
    T ≡ over leaves → N ≢ 8 + d → AreChunks N T leaves (apart start (start + length claim.elements)) claim.chunk →
    (content : Content) (inactive : ℕ) →
    AreChunks N (over (length content.elements)) (length content.elements) never content.chunk →
    length content.elements ≤ max_leaves → inactive ≤ length (T.shape.peaks (length content.elements)) →
    tree_root h (over (length content.elements)) b content inactive ≡ root →
    P (over (length content.elements)) content inactive
    ⊎ Cross h strings (tree_strings h (over (length content.elements)) b content inactive)

-- what a check hands out is what each tree with that root has there, digest by digest
abbrev pub AreExtracted : ℕ → HashFunction → Layout → Bagging → Proof → ℕ → Content → List ℕ → Type 0
AreExtracted d h T b proof start claim root =
    HoldsOfEach d h T b proof.leaves start claim (check_strings h T b proof start claim) root
    (λ U content inactive. extracted h T b proof start claim
    ≡ tree_entries h U content start (start + length claim.elements))

-- what an accepted check hands out, whole and ascending, each position once
pub record AreHandedOut (d : ℕ) (h : HashFunction) (T : Layout) (b : Bagging) (proof : Proof) (start : ℕ)
    (claim : Content) (root : List ℕ) (digests : List (ℕ × List ℕ)) : Type 0 where
  pub accepted : IsAccepted h T b proof start claim root
  pub all : digests ≡ extracted h T b proof start claim
  pub are_true : AreExtracted d h T b proof start claim root
  pub ascending : IsStrictlyIncreasing (map (λ e. e.0) digests)

-- Each digest that an accepted check hands out is the tree's at its position, or a string of the check and a different one of the
-- tree have one digest.
abbrev pub ExtractedDigestsAreTrue : Type 0
ExtractedDigestsAreTrue =
    (d : ℕ) (h : HashFunction) (T : Layout) (b : Bagging) (proof : Proof) (start : ℕ) (claim : Content)
    (root : List ℕ) →
    IsSized d h → Laws T.shape → AreDigests d proof.digests → IsAccepted h T b proof start claim root →
    AreExtracted d h T b proof start claim root

-- What a check hands out ascends by position, each position once.
abbrev pub ExtractedPositionsAscend : Type 0
ExtractedPositionsAscend =
    (h : HashFunction) (T : Layout) (b : Bagging) (proof : Proof) (start : ℕ) (claim : Content) →
    Laws T.shape → IsStrictlyIncreasing (map (λ e. e.0) (extracted h T b proof start claim))
