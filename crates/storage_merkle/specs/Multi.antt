-- Multi proofs: elements at any locations of a tree.
use Rattle.std.specs.Prelude.{◌≡◌, ◌≢◌, ℕ, ◌+◌, ◌<◌, ◌≤◌, ◌^◌, ◌⊎◌, List, [], ◌∷◌, length, map, get_or, Bool, false, if◌then◌else◌, ◌&&◌, ◌||◌, not, leb, ltb, eqb, Option}
use Rattle.storage_codec.specs.Digests.{HashFunction, IsSized, Cross}
use Rattle.storage_merkle.specs.Shape.{Laws, max_leaves}
use Rattle.storage_merkle.specs.Calc.{Site, front, back, node, Calc, Values}
use Rattle.storage_merkle.specs.declared.merkle.bagging.Bagging.{Bagging}
use Rattle.storage_merkle.specs.Trees.{Layout, Content, never, peaks_of, folded, unfolded, part, bag, root_string, strings_bag, empty_root, tree_node, tree_root, tree_strings}
use Rattle.storage_merkle.specs.RangeProofs.{Proof, sites_in, by_position, look_up, AreDigests}
use Rattle.storage_merkle.specs.Chunked.{AreChunks}

-- an element that is claimed to stand at a location
pub record Claim : Type 0 where
  pub location : ℕ
  pub element : List ℕ

abbrev pub locations : List Claim → List ℕ
locations cs = map (λ c. c.location) cs

-- elements with their locations, as claims
abbrev pub claims_of : {E : Type 0} → (E → List ℕ) → List (E × ℕ) → List Claim
claims_of items cs = map (λ c. record { location = c.1; element = items c.0 }) cs

-- whether one of some locations is a leaf of the node of height k with first leaf a
abbrev pub touched : List ℕ → ℕ → ℕ → Bool
touched [] a k = false
touched (l ∷ ls) a k = (leb a l && ltb l (a + 2 ^ k)) || touched ls a k

abbrev pub untouched : List ℕ → ℕ → ℕ → Bool
untouched ls a k = not (touched ls a k)

-- locations in ascending order, each once, from a first one on and below n
abbrev pub Ascend : ℕ → ℕ → List ℕ → Type 0
Ascend first n [] = Unit {0}
Ascend first n (l ∷ ls) = (first ≤ l) × (l < n) × Ascend (l + 1) n ls

-- the element that is claimed to stand at a location
abbrev pub element_at : List Claim → ℕ → List ℕ
element_at [] j = []
element_at (c ∷ cs) j = if eqb c.location j then c.element else element_at cs j

-- each claimed element stands at its location
abbrev pub Stand : List (List ℕ) → List Claim → Type 0
Stand list [] = Unit {0}
Stand list (c ∷ cs) = (c.location < length list) × (c.element ≡ get_or list c.location []) × Stand list cs

-- the digests of a proof of some locations, ascending by position: of the greatest nodes over n leaves that hold none of them
abbrev pub needed_sites : Layout → List ℕ → ℕ → List Site
needed_sites T ls n = by_position T (sites_in T (untouched ls) (peaks_of T n))

-- the digest of a tree's node
abbrev pub tree_digest : HashFunction → Layout → Content → Site → List ℕ
tree_digest h T content front = h []
tree_digest h T content back = h []
tree_digest h T content (node a k) = tree_node h T content a k

-- a tree's own proof of some locations
abbrev pub own_multi_proof : HashFunction → Layout → Content → ℕ → List ℕ → Proof
own_multi_proof h T content i ls = record {
  leaves = length content.elements;
  inactive = i;
  digests = map (tree_digest h T content) (needed_sites T ls (length content.elements));
}

module _ (h : HashFunction) (T : Layout) (b : Bagging) (proof : Proof) (claims : List Claim)
    (chunk : ℕ → List ℕ) where
  -- the proof's digests, the claimed elements, the given chunks
  abbrev pub multi_values : Values
  multi_values = record {
    digest = look_up (h []) (needed_sites T (locations claims) proof.leaves) proof.digests;
    element = element_at claims;
    chunk = chunk;
  }

  -- the tree's own calculation, with the greatest nodes that hold no claimed location given
  abbrev pub multi_bag : Option Calc
  multi_bag = bag (map (part T (untouched (locations claims))) (folded b proof.inactive (peaks_of T proof.leaves)))
      (map (part T (untouched (locations claims))) (unfolded b proof.inactive (peaks_of T proof.leaves)))

  abbrev pub multi_string : List ℕ
  multi_string = root_string h multi_values T b proof.leaves proof.inactive multi_bag

  -- each string given to the digest function by the check
  abbrev pub multi_strings : List (List ℕ)
  multi_strings = multi_string ∷ strings_bag h multi_values multi_bag

  -- the counts of a proof fit together and to some claims, whose locations ascend
  pub record ClaimsFit : Type 0 where
    pub few : proof.leaves ≤ max_leaves
    pub peaks : proof.inactive ≤ length (T.shape.peaks proof.leaves)
    pub ascending : Ascend 0 proof.leaves (locations claims)
    pub count : length proof.digests ≡ length (needed_sites T (locations claims) proof.leaves)

-- the proof of nothing
abbrev pub default_proof : Proof
default_proof = record { leaves = 0; inactive = 0; digests = [] }

-- where the check says yes: for no claims, to the default proof and the root of the empty tree alone
abbrev pub IsMultiAccepted : HashFunction → Layout → Bagging → Proof → List Claim → (ℕ → List ℕ) → List ℕ → Type 0
IsMultiAccepted h T b proof [] chunk root = (proof ≡ default_proof) × (empty_root h T b ≡ root)
IsMultiAccepted h T b proof (c ∷ cs) chunk root =
    ClaimsFit h T b proof (c ∷ cs) chunk × (h (multi_string h T b proof (c ∷ cs) chunk) ≡ root)

-- the proof is the tree's own, field for field, and what is claimed stands in the tree
pub record IsMultiOwn (h : HashFunction) (T : Layout) (proof : Proof) (claims : List Claim) (content : Content)
    (inactive : ℕ) : Type 0 where
  pub proof_is : proof ≡ own_multi_proof h T content inactive (locations claims)
  pub elements_stand : Stand content.elements claims

-- Of each tree with that root, the proof is the tree's own and what it claims stands there, or a string of the check and a
-- different one of the tree have one digest. Digests have d bytes and grafted chunks N; which nodes have a chunk grafted may depend
-- on the number of leaves.
abbrev pub IsMultiProved : ℕ → HashFunction → Layout → Bagging → Proof → List Claim → (ℕ → List ℕ)
    → List ℕ → Type 0
IsMultiProved d h T b proof claims chunk root =
    (N : ℕ) (grafted : ℕ → ℕ → ℕ → Bool) →
    let over : ℕ → Layout = λ n. record { shape = T.shape; position = T.position; grafted = grafted n } in
    T ≡ over proof.leaves → N ≢ 8 + d → AreChunks N T proof.leaves (untouched (locations claims)) chunk →
    (content : Content) (inactive : ℕ) →
    AreChunks N (over (length content.elements)) (length content.elements) never content.chunk →
    length content.elements ≤ max_leaves → inactive ≤ length (T.shape.peaks (length content.elements)) →
    tree_root h (over (length content.elements)) b content inactive ≡ root →
    IsMultiOwn h (over (length content.elements)) proof claims content inactive
    ⊎ Cross h (multi_strings h T b proof claims chunk)
    (tree_strings h (over (length content.elements)) b content inactive)

-- A multi proof that is accepted is the own one of each tree with that root, and its claims stand there.
abbrev pub MultiProofsAreSound : Type 0
MultiProofsAreSound =
    (d : ℕ) (h : HashFunction) → IsSized d h → (T : Layout) → Laws T.shape →
    (b : Bagging) (proof : Proof) (claims : List Claim) (chunk : ℕ → List ℕ) (root : List ℕ)
    → AreDigests d proof.digests →
    IsMultiAccepted h T b proof claims chunk root → IsMultiProved d h T b proof claims chunk root

-- A tree's own proof of some claims that stand in it, in ascending order, is accepted against its root.
abbrev pub OwnMultiProofsAreAccepted : Type 0
OwnMultiProofsAreAccepted =
    (h : HashFunction) (T : Layout) → Laws T.shape
    → (b : Bagging) (claims : List Claim) (content : Content) (inactive : ℕ) →
    length content.elements ≤ max_leaves → inactive ≤ length (T.shape.peaks (length content.elements)) →
    0 < length claims → Ascend 0 (length content.elements) (locations claims) → Stand content.elements claims →
    IsMultiAccepted h T b (own_multi_proof h T content inactive (locations claims)) claims content.chunk
    (tree_root h T b content inactive)
