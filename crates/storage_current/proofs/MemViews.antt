-- A tree over operations in memory and one over their graftable chunks: each node of the view that is retained can be had.
use Rattle.std.proofs.Common.{◌≡◌, ℕ, ◌+◌, ◌*◌, ◌%◌, ◌^◌, ◌<◌, ◌≤◌, ◌++◌, List, [], ◌∷◌, length, map, get_or, Option, Some, None, option_map, IsSome, Result, Ok, Err, OnErr, OnOk, true, false, refl, sym, ap, subst, ◌∙◌, append_assoc, arith, inl, inr, length-append, pow_pos}
use Rattle.std.specs.Option.{is_some}
use Rattle.std.specs.Result.{is_err, is_ok}
use Rattle.std.proofs.lemmas.Bool.{cases_lt}
use Rattle.std.proofs.lemmas.List.{length_push, get_or_append_left, get_or-append-add}
use Rattle.std.proofs.lemmas.Nat.{shl-shr}
use Rattle.storage_codec.specs.Digests.{HashFunction}
use Rattle.storage_merkle.specs.Shape.{Shape, Laws, size, Inside}
use Rattle.storage_merkle.specs.Nodes.{IsNode}
use Rattle.storage_merkle.specs.Pace.{ChunksKeepPace}
use Rattle.storage_merkle.specs.Calc.{be8, grafted_digest}
use Rattle.storage_merkle.specs.Hashing.{leaf_digests, node_over}
use Rattle.storage_merkle.specs.Laws.Hashing.{leaf_digests-append, length-leaf_digests, node_over-tree}
use Rattle.storage_merkle.specs.Kept.{Kept, NodesOver, StandsBut, StandsFor, at_peaks, kept_at, list_updated}
use Rattle.storage_merkle.specs.Laws.Multiples.{is_multiple}
use Rattle.storage_merkle.specs.Laws.Shape.{grows_at_most, inside_before}
use Rattle.storage_merkle.specs.Trees.{ungrafted, listed, tree_node}
use Rattle.storage_bitmap.specs.Chunks.{IsRest, Retained, chunk}
use Rattle.storage_current.specs.Combined.{joined, over_chunks}
use Rattle.storage_current.specs.CombinedViews.{AreAnswersOf, AreGraftedLeaves, both, chunk_node, grafted_node}
use Rattle.storage_current.specs.KeptSnapshots.{AreRootsOf, KeptSnapshot, StandsForSnapshot}
use Rattle.storage_current.specs.KeptTrees.{AreGraftsFrom, AreKept, ArePruned, HasMoreGrafts, StandsForChunks}
use Rattle.storage_current.specs.Laws.Grafting.{graftable_by_birth}
use Rattle.storage_current.specs.NodeLists.{AreNodes, ArePeaksHad, ArePeaksTold, IsGrown, IsOver, IsRetained, IsTreeOver, KeptTree, kept_from, plain_over, seen_by, seen_in, seen_list, told_by}
use Rattle.storage_current.specs.Snapshots.{Grafting, IsGrafting, Snapshot, IsSnapshot, Witness, graftable, graftable_at, height, view_node}
use Rattle.storage_current.proofs.CombinedViews.{cover, first_of_all, joined_view_at, over_view}
use Rattle.storage_current.proofs.Joined.{joined_above, joined_below, joined_past}
use Rattle.storage_current.proofs.NodeLists.{list_told, same_told}
use Rattle.storage_current.proofs.NodeSteps.{hashed_graft}
use Rattle.storage_current.proofs.Pinned.{peak_inside}
use Rattle.storage_current.proofs.Retaining.{kept_before, kept_behind, peak_aligned, peaks_retained}

-- ---- the tree over the operations

-- each node of a list that the tree stands for is kept
abbrev pub KeepsNodes : {D : Type 0} → (D → List ℕ) → Shape → Kept D → Type 0
KeepsNodes text S m = (N : NodesOver) (list : List (List ℕ)) → StandsFor text S N m list → (p a k : ℕ) → IsNode S p a k
    → size S m.boundary ≤ p → p < size S (length list)
    → option_map text (kept_at S m.boundary m.pinned m.nodes p) ≡ Some (N list k a)

some_of : {A B : Type 0} (f : A → B) (o : Option A) (x : B) → option_map f o ≡ Some x → IsSome o
some_of f None x e = absurd (cc)
some_of f (Some d) x e = refl

module _ {D : Type 0} (text : D → List ℕ) (h : HashFunction) (S : Shape) (L : Laws S) (m : Kept D)
    (keeps : KeepsNodes text S m) (grown : IsGrown text h S m) where
  pub kept_some : (p a k : ℕ) → IsNode S p a k → size S m.boundary ≤ p → p < size S m.leaves
      → IsSome (kept_at S m.boundary m.pinned m.nodes p)
  kept_some p a k node behind within =
      some_of text _ _ (keeps (plain_over h S) grown.list grown.stands p a k node behind (rw (← grown.stands.count) within))

  pub kept_is : (operations : List (List ℕ)) → IsOver text h S m operations → (p a k : ℕ) → IsNode S p a k
      → size S m.boundary ≤ p → p < size S (length operations) → option_map text (kept_at S m.boundary m.pinned m.nodes p)
      ≡ Some (tree_node h (ungrafted S) (listed operations) a k)
  kept_is operations over p a k node behind within =
      let count : length (leaf_digests h (ungrafted S) 0 operations) ≡ length operations =
      length-leaf_digests h (ungrafted S) 0 operations in
      let here : S.position a k < size S (length operations) = omega (arith, node.at) in
      let born : S.birth a k ≤ length operations = (L.born (length operations) a k node.aligned).0 here in
      keeps (plain_over h S) (leaf_digests h (ungrafted S) 0 operations) over p a k node behind (rw count within)
      ∙ ap Some (node_over-tree h (ungrafted S) (listed operations) k a (omega (arith, born, L.late a k)))

-- ---- the tree over chunks, and both as one

module _ (S : Shape) (L : Laws S) {D : Type 0} (text : D → List ℕ) where
  -- a tree of which nothing is forgotten has each node of the list that it stands for
  pub list_kept : (m : Kept D) → KeepsNodes text S m → m.boundary ≡ 0 → (N : NodesOver) (list : List (List ℕ))
      → StandsFor text S N m list
      → AreAnswersOf text S (length list) (λ a k. N list k a) (kept_at S m.boundary m.pinned m.nodes)
  list_kept m keeps unpruned N list stands p a k within node =
      let e : size S m.boundary ≡ size S 0 = ap (size S) unpruned in
      keeps N list stands p a k node (omega arith) within

-- each node of the view that is retained can be had of trees that are kept
pub kept_had : {D : Type 0} (text : D → List ℕ) (h : HashFunction) (g : Grafting) → Laws g.shape
    → ChunksKeepPace g.shape (height g) → (m c : Kept D) (status : Retained) → AreKept text h g m c status
    → KeepsNodes text g.shape m → KeepsNodes text g.shape c → (p a k : ℕ) → IsNode g.shape p a k
    → p < size g.shape m.leaves → IsRetained g.shape (height g) m.boundary p k
    → IsSome (seen_in g.shape (height g) m c p)
kept_had text h g L pace m c status kept keeps_m keeps_c p a k node within retained =
    let S = g.shape in
    let n = m.leaves in
    let most : size S n ≤ size S (2 ^ 62) = grows_at_most (size S) L.grows n (2 ^ 62) kept.grown.few in
    let valid : p ≤ size S (2 ^ 62) = omega arith in
    let chunks = kept_at S c.boundary c.pinned c.nodes in
    let operations = kept_from S m in
    elim (cases_lt k (height g)) [
      | inl low ↦
          let behind : size S m.boundary ≤ p = elim retained [ inl high ↦ absurd (omega arith) | inr there ↦ there ] in
          ap is_some (joined_below S L (height g) (size S n) chunks operations p a k within valid node low
          ∙ kept_behind S m p behind)
          ∙ kept_some text h S L m keeps_m kept.grown p a k node behind within
      | inr high ↦
          let o = cover S L (height g) n c.leaves pace kept.count p a k node within high in
          ap is_some (joined_above S L (height g) (size S n) chunks operations p o.position within valid o.covers)
          ∙ some_of text _ _ (list_kept S L text c keeps_c kept.unpruned (λ list k a. chunk_node h g list a k) kept.list kept.stands
          o.position o.first o.over (rw (← kept.stands.count) o.within) o.node)
    ]

-- also each peak
pub peaks_had : {D : Type 0} (text : D → List ℕ) (h : HashFunction) (g : Grafting) → Laws g.shape
    → ChunksKeepPace g.shape (height g) → (m c : Kept D) (status : Retained) → AreKept text h g m c status
    → KeepsNodes text g.shape m → KeepsNodes text g.shape c → ArePeaksHad g.shape m.leaves (seen_in g.shape (height g) m c)
peaks_had text h g L pace m c status kept keeps_m keeps_c a k peak =
    let S = g.shape in
    let al : a % 2 ^ k ≡ 0 = peak_aligned (S.peaks m.leaves) 0 a k (L.aligned m.leaves) peak in
    let within : S.position a k < size S m.leaves =
    inside_before S L m.leaves a k al (peak_inside (S.peaks m.leaves) 0 a k peak) in
    kept_had text h g L pace m c status kept keeps_m keeps_c (S.position a k) a k (record { aligned = al; at = refl }) within
    (rw kept.pruned.place (peaks_retained g L m.leaves status.pruned a k kept.pruned.few peak))

-- and what both as one have are the nodes of the view
pub view_nodes : {D : Type 0} (text : D → List ℕ) (h : HashFunction) (g : Grafting) → ChunksKeepPace g.shape (height g)
    → IsGrafting g → (s : Snapshot) → IsSnapshot s → (m c : Kept D) → KeepsNodes text g.shape m → KeepsNodes text g.shape c
    → IsGrown text h g.shape m → IsOver text h g.shape m s.operations → c.boundary ≡ 0 → (leaves : List (List ℕ))
    → StandsForChunks text h g c leaves → AreGraftedLeaves h g s leaves
    → AreNodes g.shape (height g) m.boundary (length s.operations) (view_node h g s) (seen_by text g.shape (height g) m c)
view_nodes text h g pace grafting s snapshot m c keeps_m keeps_c grown over unpruned leaves stands grafted =
    let S = g.shape in
    let L = grafting.laws in
    let n : m.leaves ≡ length s.operations = over.count ∙ length-leaf_digests h (ungrafted S) 0 s.operations in
    let chunks = kept_at S c.boundary c.pinned c.nodes in
    let operations = kept_from S m in
    let over_graftable : AreAnswersOf text S (graftable g (length s.operations)) (grafted_node h g s) chunks = λ p a k within node.
    let same : size S (length leaves) ≡ size S (graftable g (length s.operations)) = ap (size S) grafted.count in
    let here : S.position a k < size S (length leaves) = omega (arith, node.at, same, within) in
    let born : S.birth a k ≤ length leaves = (L.born (length leaves) a k node.aligned).0 here in
    list_kept S L text c keeps_c unpruned (λ list k a. chunk_node h g list a k) leaves stands p a k
    (omega (arith, same, within)) node
    ∙ ap Some (over_view h g s leaves (first_of_all h g s leaves grafted) k a (omega (arith, born, L.late a k))) in
    let seen : (p : ℕ) → seen_in S (height g) m c p ≡ both g s chunks operations p =
    λ p. ap (λ (i : ℕ). joined S (height g) (size S i) chunks operations p) n in
    record {
      are = λ p a k node within retained.
          ap (option_map text) (seen p)
          ∙ joined_view_at h g pace grafting s snapshot chunks operations text over_graftable p a k within node (λ low.
          let behind : size S m.boundary ≤ p = elim retained [ inl high ↦ absurd (omega arith) | inr there ↦ there ] in
          ap (option_map text) (kept_behind S m p behind)
          ∙ kept_is text h S L m keeps_m grown s.operations over p a k node behind within);
      forgotten = λ p a k node within gone.
          let most : size S (length s.operations) ≤ size S (2 ^ 62) =
          grows_at_most (size S) L.grows (length s.operations) (2 ^ 62) snapshot.few in
          let low : k < height g = elim (cases_lt k (height g)) [ inl less ↦ less | inr more ↦ absurd (gone (inl more)) ] in
          let before : p < size S m.boundary = elim (cases_lt p (size S m.boundary)) [
            | inl less ↦ less
            | inr more ↦ absurd (gone (inr more))
          ] in
          ap (option_map text) (seen p
          ∙ joined_below S L (height g) (size S (length s.operations)) chunks operations p a k within (omega arith) node low
          ∙ kept_before S m p before);
      past = λ p beyond.
          ap (option_map text) (seen p ∙ joined_past S L (height g) (size S (length s.operations)) chunks operations p beyond);
    }

-- the peaks of the view, as both trees have them
pub peaks_told_of : {D : Type 0} (text : D → List ℕ) (h : HashFunction) (g : Grafting) → Laws g.shape → (s : Snapshot)
    → (m c : Kept D) (status : Retained) → ArePruned g m status → m.leaves ≡ length s.operations
    → AreNodes g.shape (height g) m.boundary (length s.operations) (view_node h g s) (seen_by text g.shape (height g) m c)
    → ArePeaksTold g.shape m.leaves (view_node h g s) (seen_by text g.shape (height g) m c)
peaks_told_of text h g L s m c status pruned n nodes a k peak =
    let S = g.shape in
    let al : a % 2 ^ k ≡ 0 = peak_aligned (S.peaks m.leaves) 0 a k (L.aligned m.leaves) peak in
    let within : S.position a k < size S m.leaves =
    inside_before S L m.leaves a k al (peak_inside (S.peaks m.leaves) 0 a k peak) in
    nodes.are (S.position a k) a k (record { aligned = al; at = refl }) (rw (← n) within)
    (rw pruned.place (peaks_retained g L m.leaves status.pruned a k pruned.few peak))

-- what is seen of the trees that are kept, and what is kept beside them
abbrev pub seen_snapshot : {D : Type 0} → (D → List ℕ) → Grafting → Kept D → Kept D → Retained → (floor : ℕ)
    → (ops_root root : List ℕ) → Witness → KeptSnapshot
seen_snapshot text g m c status floor ops_root root witness = record {
  leaves = m.leaves;
  nodes = seen_list text g.shape (height g) m c;
  pinned = map text m.pinned;
  status = status;
  floor = floor;
  ops_root = ops_root;
  root = root;
  witness = witness;
}

-- a snapshot that stands, from the trees that are kept of it
pub kept_stands : {D : Type 0} (text : D → List ℕ) (h : HashFunction) (g : Grafting) → ChunksKeepPace g.shape (height g)
    → IsGrafting g → (s : Snapshot) → IsSnapshot s → (m c : Kept D) (status : Retained) → KeepsNodes text g.shape m
    → KeepsNodes text g.shape c → (kept : AreKept text h g m c status) → IsOver text h g.shape m s.operations
    → AreGraftedLeaves h g s kept.list → IsRest g.bytes status s.bits → (floor : ℕ) (ops_root root : List ℕ)
    (witness : Witness) → floor ≡ s.floor
    → (ArePeaksTold g.shape m.leaves (view_node h g s) (seen_by text g.shape (height g) m c)
    → AreRootsOf h g s ops_root root witness)
    → StandsForSnapshot h g (seen_snapshot text g m c status floor ops_root root witness) s
kept_stands text h g pace grafting s snapshot m c status keeps_m keeps_c kept over grafted rest floor ops_root root witness
    floor_is roots =
    let S = g.shape in
    let n : m.leaves ≡ length s.operations = over.count ∙ length-leaf_digests h (ungrafted S) 0 s.operations in
    let nodes = view_nodes text h g pace grafting s snapshot m c keeps_m keeps_c kept.grown over kept.unpruned kept.list
    kept.stands grafted in
    let r = roots (peaks_told_of text h g grafting.laws s m c status kept.pruned n nodes) in
    record {
      leaves = n;
      nodes = subst (λ (b : ℕ). AreNodes S (height g) b (length s.operations) (view_node h g s)
          (told_by (seen_list text S (height g) m c))) kept.pruned.place
          (same_told S (height g) m.boundary (length s.operations) (view_node h g s) (seen_by text S (height g) m c)
          (told_by (seen_list text S (height g) m c)) (list_told text S grafting.laws (height g) m c) nodes);
      pinned = subst (λ (b : ℕ). map text m.pinned ≡ at_peaks (plain_over h S (leaf_digests h (ungrafted S) 0 s.operations)) 0
          (S.peaks b)) kept.pruned.place over.holds.peaks;
      status = rest;
      pruned = rw (← n) kept.pruned.few;
      floor = floor_is;
      ops_root = r.ops_root;
      root = r.root;
      witness = r.witness;
    }

-- ---- the nodes of chunks

-- the node over the operations of a graftable chunk stands among the operations' nodes
pub record ChunkNode (S : Shape) (n g j : ℕ) : Type 0 where
  pub aligned : j * 2 ^ g % 2 ^ g ≡ 0
  pub born : S.birth (j * 2 ^ g) g ≤ n
  pub ends : j * 2 ^ g + 2 ^ g ≤ n
  pub before : S.position (j * 2 ^ g) g < size S n

pub chunk_node_at : (S : Shape) → Laws S → (n g j : ℕ) → j < graftable_at S g n → ChunkNode S n g j
chunk_node_at S L n g j below =
    let al : j * 2 ^ g % 2 ^ g ≡ 0 = is_multiple j (2 ^ g) (pow_pos g) in
    let inside : Inside (S.peaks n) 0 (j * 2 ^ g) g = (graftable_by_birth S L g n j).1 below in
    let born : S.birth (j * 2 ^ g) g ≤ n = (L.inside n (j * 2 ^ g) g al).0 inside in
    record {
      aligned = al;
      born = born;
      ends = omega (arith, born, L.late (j * 2 ^ g) g);
      before = (L.born n (j * 2 ^ g) g al).1 born;
    }

pub chunk_site : (g : Grafting) → Laws g.shape → (n i count r : ℕ) → height g ≡ r → count ≡ graftable g n → i < count
    → ChunkNode g.shape n r i
chunk_site g L n i count r level e below =
    rw (← level) (chunk_node_at g.shape L n (height g) i (omega (arith, e, below)))

-- a digest that is answered and what is told of its bytes
pub told_bytes : {D : Type 0} (text : D → List ℕ) (o answer : Option D) (d : D) (x : List ℕ) → o ≡ answer → o ≡ Some d
    → option_map text answer ≡ Some x → text d ≡ x
told_bytes text o answer d x eo ed e =
    let f : Some (text d) ≡ Some x = ap (option_map text) (sym ed ∙ eo) ∙ e in cc

-- its digest with the chunk grafted
pub chunk_grafted : (h : HashFunction) (g : Grafting) → Laws g.shape → (s : Snapshot) (i j k : ℕ) (bytes out inner : List ℕ)
    → height g ≡ k → 1 ≤ k → i < graftable g (length s.operations) → out ≡ grafted_digest h bytes inner
    → bytes ≡ chunk g.bytes s.bits j → j ≡ i
    → inner ≡ tree_node h (ungrafted g.shape) (listed s.operations) (i * 2 ^ k) k
    → out ≡ view_node h g s (i * 2 ^ height g) (height g)
chunk_grafted h g L s i j k bytes out inner level one below e chunk_is same plain_is =
    let at = chunk_node_at g.shape L (length s.operations) (height g) i below in
    hashed_graft h g L s (i * 2 ^ height g) (height g) j bytes out inner refl (omega (arith, level)) at.aligned at.born e
    chunk_is (same ∙ sym (shl-shr i (height g))) (rw level plain_is)

-- one more of them
pub grafts_more : (h : HashFunction) (g : Grafting) (s : Snapshot) (start : ℕ) (grafts : List (List ℕ)) (d : List ℕ)
    → AreGraftsFrom h g s start grafts → d ≡ view_node h g s ((start + length grafts) * 2 ^ height g) (height g)
    → AreGraftsFrom h g s start (grafts ++ d ∷ [])
grafts_more h g s start grafts d are is i within = elim (cases_lt i (length grafts)) [
  | inl less ↦ get_or_append_left grafts (d ∷ []) [] i less ∙ are i less
  | inr more ↦
      let last : i ≡ length grafts + 0 = omega (arith, length_push grafts d) in
      let same : length grafts ≡ i = omega arith in
      ap (λ j. get_or (grafts ++ d ∷ []) j []) last ∙ get_or-append-add grafts (d ∷ []) 0 [] ∙ is
      ∙ ap (λ j. view_node h g s ((start + j) * 2 ^ height g) (height g)) same
]

-- a leaf more of the tree over chunks
pub chunk_more : {D : Type 0} (text : D → List ℕ) (h : HashFunction) (g : Grafting) (r : ℕ) (old new : Kept D) (d : List ℕ)
    → height g ≡ r → ((list : List (List ℕ)) (dirty : List ℕ)
    → StandsBut text g.shape (node_over h (over_chunks r (ungrafted g.shape)) (λ a. [])) dirty old list
    → StandsBut text g.shape (node_over h (over_chunks r (ungrafted g.shape)) (λ a. [])) dirty new (list ++ d ∷ []))
    → (list : List (List ℕ)) → StandsForChunks text h g old list → StandsForChunks text h g new (list ++ d ∷ [])
chunk_more text h g r old new d level grown list stands = (rw (← level) at grown) list [] stands

-- leaves of the tree over chunks with new digests
pub chunk_written : {D : Type 0} (text : D → List ℕ) (h : HashFunction) (g : Grafting) (r : ℕ) (old new : Kept D)
    (us : List (ℕ × List ℕ)) → height g ≡ r
    → ((list : List (List ℕ)) → StandsFor text g.shape (node_over h (over_chunks r (ungrafted g.shape)) (λ a. [])) old list
    → StandsFor text g.shape (node_over h (over_chunks r (ungrafted g.shape)) (λ a. [])) new (list_updated list us))
    → (list : List (List ℕ)) → StandsForChunks text h g old list → StandsForChunks text h g new (list_updated list us)
chunk_written text h g r old new us level written list stands = (rw (← level) at written) list stands

-- all of them
pub all_grafts : (h : HashFunction) (g : Grafting) (s : Snapshot) (grafts : List (List ℕ))
    → length grafts ≡ graftable g (length s.operations) → AreGraftsFrom h g s 0 grafts → AreGraftedLeaves h g s grafts
all_grafts h g s grafts count are = record {
  count = count;
  each = λ j within.
      let e : 0 + j ≡ j = omega arith in
      are j within ∙ ap (λ (i : ℕ). view_node h g s (i * 2 ^ height g) (height g)) e;
}

pub more_grafts : {D : Type 0} (text : D → List ℕ) (h : HashFunction) (g : Grafting) (operations old new : Kept D)
    (status : Retained) (list : List (List ℕ)) (d : List ℕ) → HasMoreGrafts text h g operations old status list
    → ((all : List (List ℕ)) → StandsForChunks text h g old all → StandsForChunks text h g new (all ++ d ∷ []))
    → ((s : Snapshot) → IsRest g.bytes status s.bits → IsOver text h g.shape operations s.operations
    → d ≡ view_node h g s (old.leaves * 2 ^ height g) (height g)) → HasMoreGrafts text h g operations new status list
more_grafts text h g operations old new status list d has grown graft = record {
  more = has.more ++ d ∷ [];
  stands = rw (← append_assoc list has.more (d ∷ [])) (grown (list ++ has.more) has.stands);
  are = λ s same over.
      let place : old.leaves ≡ length list + length has.more =
      has.stands.count ∙ length-append list has.more in
      grafts_more h g s (length list) has.more d (has.are s same over) (rw (← place) (graft s same over));
}

-- ---- trees over operations by the bytes of their digests

pub tree_over : {D : Type 0} (text : D → List ℕ) (h : HashFunction) (S : Shape) (m : Kept D) (tree : KeptTree)
    (operations : List (List ℕ)) → m.boundary ≡ 0 → m.pinned ≡ [] → m.leaves ≡ tree.leaves → map text m.nodes ≡ tree.nodes
    → IsOver text h S m operations → IsTreeOver h S tree operations
tree_over text h S m tree operations zero none leaves nodes over = record {
  leaves = sym leaves ∙ over.count ∙ length-leaf_digests h (ungrafted S) 0 operations;
  holds = rw (zero, none, leaves, nodes) at over.holds;
}

pub over_tree : {D : Type 0} (text : D → List ℕ) (h : HashFunction) (S : Shape) (m : Kept D) (tree : KeptTree)
    (operations : List (List ℕ)) → m.boundary ≡ 0 → m.pinned ≡ [] → m.leaves ≡ tree.leaves → map text m.nodes ≡ tree.nodes
    → IsTreeOver h S tree operations → IsOver text h S m operations
over_tree text h S m tree operations zero none leaves nodes over = record {
  count = leaves ∙ over.leaves ∙ sym (length-leaf_digests h (ungrafted S) 0 operations);
  holds = rw (zero, none, leaves, nodes) over.holds;
}

-- what a call that was no refusal ensures
pub succeeded : {A E : Type 0} (r : Result A E) (Q : Type 0) → is_err r ≡ false → OnOk r Q → Q
succeeded (Ok x) Q e h = h
succeeded (Err x) Q e h = absurd (cc)

-- and one that had to succeed
pub granted : {A E : Type 0} (r : Result A E) (Q : Type 0) → is_ok r ≡ true → OnOk r Q → Q
granted (Ok x) Q e h = h
granted (Err x) Q e h = absurd (cc)

pub failed : {A E : Type 0} (r : Result A E) (Q : Type 0) → is_err r ≡ true → OnErr r Q → Q
failed (Ok x) Q e h = absurd (cc)
failed (Err x) Q e h = h

pub not_refused : {A E : Type 0} (r : Result A E) → is_err r ≡ true → is_ok r ≡ true → ⊥
not_refused (Ok x) e o = cc
not_refused (Err x) e o = cc

-- one operation more
pub over_more : {D : Type 0} (text : D → List ℕ) (h : HashFunction) (S : Shape) → Laws S → (m more : Kept D)
    (operations : List (List ℕ)) (operation : List ℕ)
    → ((list : List (List ℕ)) (dirty : List ℕ) → StandsBut text S (plain_over h S) dirty m list
    → StandsBut text S (plain_over h S) dirty more (list ++ h (be8 (size S m.leaves) ++ operation) ∷ []))
    → IsOver text h S m operations → IsOver text h S more (operations ++ operation ∷ [])
over_more text h S L m more operations operation grown over =
    let T = ungrafted S in
    let count : m.leaves ≡ 0 + length operations =
    omega (arith, over.count, length-leaf_digests h T 0 operations) in
    let leaf : h (be8 (size S m.leaves) ++ operation) ≡ h (be8 (S.position (0 + length operations) 0) ++ operation) =
    ap (λ p. h (be8 p ++ operation)) (ap (size S) count ∙ sym (L.leaf (0 + length operations)).0) in
    let all : leaf_digests h T 0 (operations ++ operation ∷ [])
    ≡ leaf_digests h T 0 operations ++ h (be8 (size S m.leaves) ++ operation) ∷ [] =
    leaf_digests-append h T 0 operations (operation ∷ []) ∙ ap (λ x. leaf_digests h T 0 operations ++ x ∷ []) (sym leaf) in
    rw all (grown (leaf_digests h T 0 operations) [] over)
