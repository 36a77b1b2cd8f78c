-- Trees whose first chunks are told by pins: what can be had of both as one, and whose it is.
use Rattle.std.proofs.Common.{◌≡◌, ℕ, ◌+◌, ◌-◌, ◌*◌, ◌/◌, ◌%◌, ◌^◌, ◌<◌, ◌≤◌, ◌++◌, List, [], length, length-append, map, get_or, Bool, true, false, if◌then◌else◌, leb, ltb, Option, Some, None, option_map, IsSome, inl, inr, refl, sym, ap, ap₂, subst, ◌∙◌, arith, ◌⊎◌}
use Rattle.std.specs.List.{range_with_len, slice_get}
use Rattle.std.specs.Option.{is_some}
use Rattle.std.proofs.lemmas.Bool.{cases_lt, lt-leb}
use Rattle.std.proofs.lemmas.List.{get_or_append_left, get_or-append-add}
use Rattle.std.proofs.lemmas.List.FromFn.{get_or-map-range_with_len, length-map-range_with_len}
use Rattle.std.proofs.lemmas.Option.{slice_get-map}
use Rattle.storage_codec.specs.Digests.{HashFunction}
use Rattle.storage_merkle.specs.Hashing.{leaf_digests}
use Rattle.storage_merkle.specs.Kept.{HoldsDigests, Kept, NodesOver, StandsFor, at_peaks, kept_at, paired, pins}
use Rattle.storage_merkle.specs.Laws.Hashing.{length-leaf_digests}
use Rattle.storage_merkle.specs.Laws.Multiples.{in_units}
use Rattle.storage_merkle.specs.Laws.Shape.{before_inside, covers_down, covers_once, grows_at_most, inside_before, no_peaks}
use Rattle.storage_merkle.specs.Nodes.{CoversSame, IsNode}
use Rattle.storage_merkle.specs.Pace.{ChunksKeepPace}
use Rattle.storage_merkle.specs.Shape.{Laws, Shape, size}
use Rattle.storage_merkle.specs.Trees.{ungrafted}
use Rattle.storage_bitmap.specs.Chunks.{IsRest, Retained, bit_count}
use Rattle.storage_current.specs.Combined.{height_at, is_within, joined, lowered}
use Rattle.storage_current.specs.CombinedViews.{AnswersAreTrue, AreFirstGraftedLeaves, chunk_node, grafted_node, operations_node}
use Rattle.storage_current.specs.GraftedTrees.{IsPeak, KeptChunks}
use Rattle.storage_current.specs.KeptSnapshots.{AreRootsOf}
use Rattle.storage_current.specs.KeptTrees.{AreKept, ArePruned, HasMoreGrafts, StandsForChunks}
use Rattle.storage_current.specs.NodeLists.{ArePeaksHad, ArePeaksTold, IsOver, kept_from, plain_over, seen_by, seen_in}
use Rattle.storage_current.specs.Pins.{HavePins, chunk_pins}
use Rattle.storage_current.specs.SnapshotTails.{AreOfSnapshot, AreTrees, IsOverChunks, KeptTail, StandsForTail, tail_node, told_tree}
use Rattle.storage_current.specs.Snapshots.{Grafting, IsGrafting, IsSnapshot, Snapshot, Witness, graftable, height, view_node}
use Rattle.storage_current.specs.Tails.{AreTreesOf, IsTailRetained}
use Rattle.storage_current.proofs.CombinedViews.{cover, first_of_all, joined_true, over_view}
use Rattle.storage_current.proofs.Forgetting.{HasForgotten, chunks_there, pruned_alike, pruned_rest}
use Rattle.storage_current.proofs.Joined.{joined_above, joined_below, joined_past}
use Rattle.storage_current.proofs.KeptChunks.{memory_true}
use Rattle.storage_current.proofs.MemViews.{KeepsNodes, kept_is}
use Rattle.storage_current.proofs.Pinned.{paired-map, peak_inside, pin_some}
use Rattle.storage_current.proofs.Retaining.{kept_before, kept_behind, peak_aligned, peaks_retained}
use Rattle.storage_current.proofs.Tails.{grafted_all, grafted_list, peaks_alike, pin_top}

-- a tree in memory has a digest for each node behind its boundary
abbrev pub IsFilled : {D : Type 0} → Shape → Kept D → Type 0
IsFilled S m = (p : ℕ) → size S m.boundary ≤ p → p < size S m.leaves → IsSome (kept_at S m.boundary m.pinned m.nodes p)

-- the trees of a snapshot from its first operation on
pub trees_of_kept : {D : Type 0} (text : D → List ℕ) (h : HashFunction) (g : Grafting) → Laws g.shape → (m c : Kept D) (status : Retained)
    → AreKept text h g m c status → AreTrees g m c status
trees_of_kept text h g L m c status kept =
    let none : g.shape.peaks c.boundary ≡ [] = ap g.shape.peaks kept.unpruned ∙ no_peaks g.shape L in
    record {
      sized = kept.sized;
      few = kept.grown.few;
      pruned = kept.pruned;
      behind = omega (arith, kept.unpruned);
      pins = ap length kept.unpinned ∙ sym (ap length none);
      have = λ a k peak. absurd (subst (λ hs. IsPeak hs 0 a k) none peak);
      count = kept.count;
    }

-- ---- what can be had

module _ {D : Type 0} (g : Grafting) (L : Laws g.shape) (m c : Kept D) (status : Retained) (trees : AreTrees g m c status) where
  -- each peak of the view is left
  peaks_left : (a k : ℕ) → IsPeak (g.shape.peaks m.leaves) 0 a k
      → IsTailRetained g.shape (height g) status.pruned c.boundary a k
  peaks_left a k peak =
      let S = g.shape in
      let G : ℕ = height g in
      let al : a % 2 ^ k ≡ 0 = peak_aligned (S.peaks m.leaves) 0 a k (L.aligned m.leaves) peak in
      elim (cases_lt k G) [
        | inl low ↦ inl (
          low,
          elim (peaks_retained g L m.leaves status.pruned a k trees.pruned.few peak) [
            | inl high ↦ absurd (omega (arith, high, low))
            | inr there ↦ there
          ],
        )
        | inr high ↦
            let u = in_units a k G high al in
            elim (cases_lt (S.position (a / 2 ^ G) (k - G)) (size S c.boundary)) [
              | inr later ↦ inr (high, inl later)
              | inl early ↦ inr (
                high,
                inr (pin_top g L m.leaves c.boundary trees.have a k peak (a / 2 ^ G) (k - G) u.0 (omega arith)
                    (before_inside S L c.boundary (a / 2 ^ G) (k - G) u.1 early)),
              )
            ]
      ]

  -- a pin is kept
  pin_kept : (a k : ℕ) → a % 2 ^ k ≡ 0 → IsPeak (g.shape.peaks c.boundary) 0 a k
      → IsSome (kept_at g.shape c.boundary c.pinned c.nodes (g.shape.position a k))
  pin_kept a k al peak =
      let S = g.shape in
      let b : ℕ = c.boundary in
      let q : ℕ = S.position a k in
      let born : S.birth a k ≤ b = (L.inside b a k al).0 (peak_inside (S.peaks b) 0 a k peak) in
      let low : q < size S b = (L.born b a k al).1 born in
      ap (λ t. is_some (if t then slice_get c.nodes (q - size S b) else paired q (pins S b) c.pinned)) (lt-leb _ _ low)
      ∙ pin_some S (S.peaks b) 0 a k peak c.pinned trees.pins

  module _ (pace : ChunksKeepPace g.shape (height g)) (filled_m : IsFilled g.shape m) (filled_c : IsFilled g.shape c) where
    -- what is left can be had
    pub left_had : (p a k : ℕ) → IsNode g.shape p a k → p < size g.shape m.leaves
        → IsTailRetained g.shape (height g) status.pruned c.boundary a k → IsSome (seen_in g.shape (height g) m c p)
    left_had p a k node within left =
        let S = g.shape in
        let G : ℕ = height g in
        let n : ℕ = m.leaves in
        let most : size S n ≤ size S (2 ^ 62) = grows_at_most (size S) L.grows n (2 ^ 62) trees.few in
        let valid : p ≤ size S (2 ^ 62) = omega arith in
        let chunks = kept_at S c.boundary c.pinned c.nodes in
        let operations = kept_from S m in
        elim left [
          | inl low ↦
              let behind : size S m.boundary ≤ p = subst (λ (b : ℕ). size S b ≤ p) (sym trees.pruned.place)
              (subst (λ (q : ℕ). size S (status.pruned * 2 ^ G) ≤ q) node.at low.1) in
              ap is_some (joined_below S L G (size S n) chunks operations p a k within valid node low.0
              ∙ kept_behind S m p behind)
              ∙ filled_m p behind within
          | inr high ↦
              let u = in_units a k G high.0 node.aligned in
              let q : ℕ = S.position (a / 2 ^ G) (k - G) in
              let o = cover S L G n c.leaves pace trees.count p a k node within high.0 in
              let covers : CoversSame S G q p = covers_down S L a k G p q node high.0 refl in
              let same : o.position ≡ q = covers_once S L G p o.position q o.covers covers in
              let there : IsSome (chunks q) = elim high.1 [
                | inl later ↦ filled_c q later (subst (λ (x : ℕ). x < size S c.leaves) same o.within)
                | inr peak ↦ pin_kept (a / 2 ^ G) (k - G) u.1 peak
              ] in
              ap is_some (joined_above S L G (size S n) chunks operations p q within valid covers) ∙ there
        ]

    peak_node : (a k : ℕ) → IsPeak (g.shape.peaks m.leaves) 0 a k
        → IsNode g.shape (g.shape.position a k) a k × (g.shape.position a k < size g.shape m.leaves)
    peak_node a k peak =
        let S = g.shape in
        let al : a % 2 ^ k ≡ 0 = peak_aligned (S.peaks m.leaves) 0 a k (L.aligned m.leaves) peak in (
          record { aligned = al; at = refl },
          inside_before S L m.leaves a k al (peak_inside (S.peaks m.leaves) 0 a k peak),
        )

    -- so each peak can
    pub trees_had : ArePeaksHad g.shape m.leaves (seen_in g.shape (height g) m c)
    trees_had a k peak =
        let at = peak_node a k peak in left_had (g.shape.position a k) a k at.0 at.1 (peaks_left a k peak)

    -- ---- whose it is

    module _ (text : D → List ℕ) (h : HashFunction) (grafting : IsGrafting g) (keeps_m : KeepsNodes text g.shape m)
        (keeps_c : KeepsNodes text g.shape c) (s : Snapshot) (snapshot : IsSnapshot s)
        (of : AreOfSnapshot text h g m c status s) where
      all_told : m.leaves ≡ length s.operations
      all_told = of.over.count ∙ length-leaf_digests h (ungrafted g.shape) 0 s.operations

      chunks_true : AnswersAreTrue text g.shape (graftable g (length s.operations)) (grafted_node h g s)
          (kept_at g.shape c.boundary c.pinned c.nodes)
      chunks_true p a k d within node is =
          let S = g.shape in
          let list = of.chunks_are.list in
          let N = λ (xs : List (List ℕ)) (j b : ℕ). chunk_node h g xs b j in
          let total : length list ≡ graftable g (length s.operations) = of.chunks_are.grafted.count in
          let inside : p < size S (length list) = subst (λ (i : ℕ). p < size S i) (sym total) within in
          let here : S.position a k < size S (length list) = omega (arith, node.at, inside) in
          let born : S.birth a k ≤ length list = (L.born (length list) a k node.aligned).0 here in
          memory_true S L text N c list of.chunks_are.stands (keeps_c N list of.chunks_are.stands) p a k d inside node is
          ∙ over_view h g s list (first_of_all h g s list of.chunks_are.grafted) k a (omega (arith, born, L.late a k))

      operations_true : AnswersAreTrue text g.shape (length s.operations) (operations_node h g s) (kept_from g.shape m)
      operations_true p a k d within node is = elim (cases_lt p (size g.shape m.boundary)) [
        | inl before ↦ let none = sym (kept_before g.shape m p before) ∙ is in absurd (cc)
        | inr behind ↦
            let told : Some (text d) ≡ Some (operations_node h g s a k) =
            ap (option_map text) (sym is ∙ kept_behind g.shape m p behind)
            ∙ kept_is text h g.shape L m keeps_m (record { few = trees.few; list = _; stands = of.over }) s.operations of.over p a k
            node behind within in
            cc
      ]

      seen_true : AnswersAreTrue text g.shape m.leaves (view_node h g s) (seen_in g.shape (height g) m c)
      seen_true =
          let chunks = kept_at g.shape c.boundary c.pinned c.nodes in
          let operations = kept_from g.shape m in
          subst (λ (i : ℕ). AnswersAreTrue text g.shape i (view_node h g s) (joined g.shape (height g) (size g.shape i) chunks operations))
          (sym all_told) (joined_true h g pace grafting s snapshot chunks operations text chunks_true operations_true)

      told_one : (o : Option D) (x : List ℕ) → IsSome o → ((d : D) → o ≡ Some d → text d ≡ x) → option_map text o ≡ Some x
      told_one None x some is = absurd (cc)
      told_one (Some d) x some is = ap Some (is d refl)

      -- what is left of the view is told
      pub left_told : (p a k : ℕ) → IsNode g.shape p a k → p < size g.shape m.leaves
          → IsTailRetained g.shape (height g) status.pruned c.boundary a k
          → seen_by text g.shape (height g) m c p ≡ Some (view_node h g s a k)
      left_told p a k node within left =
          told_one (seen_in g.shape (height g) m c p) (view_node h g s a k) (left_had p a k node within left)
          (λ d is. seen_true p a k d within node is)

      -- so are its peaks
      pub trees_told : ArePeaksTold g.shape m.leaves (view_node h g s) (seen_by text g.shape (height g) m c)
      trees_told a k peak =
          let at = peak_node a k peak in left_told (g.shape.position a k) a k at.0 at.1 (peaks_left a k peak)

-- ---- by the bytes of the digests

abbrev pub seen_tail : {D : Type 0} → (D → List ℕ) → Kept D → Kept D → Retained → (floor : ℕ) → (ops_root root : List ℕ)
    → Witness → KeptTail
seen_tail text m c status floor ops_root root witness = record {
  operations = told_tree text m;
  chunks = told_tree text c;
  status = status;
  floor = floor;
  ops_root = ops_root;
  root = root;
  witness = witness;
}

kept_at-map : {D E : Type 0} (f : D → E) (S : Shape) (b : ℕ) (pinned nodes : List D) (p : ℕ)
    → option_map f (kept_at S b pinned nodes p) ≡ kept_at S b (map f pinned) (map f nodes) p
kept_at-map f S b pinned nodes p = go (leb (size S b) p)
  where
    go : (t : Bool) → option_map f (if t then slice_get nodes (p - size S b) else paired p (pins S b) pinned)
        ≡ (if t then slice_get (map f nodes) (p - size S b) else paired p (pins S b) (map f pinned))
    go true = sym (slice_get-map f nodes (p - size S b))
    go false = paired-map f p (pins S b) pinned

joined-map : {D E : Type 0} (f : D → E) (S : Shape) (g nodes : ℕ) (chunks operations : ℕ → Option D) (over under : ℕ → Option E)
    → ((q : ℕ) → option_map f (chunks q) ≡ over q) → ((q : ℕ) → option_map f (operations q) ≡ under q) → (p : ℕ)
    → option_map f (joined S g nodes chunks operations p) ≡ joined S g nodes over under p
joined-map f S g nodes chunks operations over under o u p = go (is_within S nodes p) (ltb (height_at S p) g)
  where
    go : (t low : Bool) → option_map f (if t then (if low then operations p else chunks (lowered S g p)) else None)
        ≡ (if t then (if low then under p else over (lowered S g p)) else None)
    go true true = u p
    go true false = o (lowered S g p)
    go false low = refl

-- what both trees as one have at a position
pub seen_told : {D : Type 0} (text : D → List ℕ) (S : Shape) (g : ℕ) (m c : Kept D) (status : Retained) (floor : ℕ)
    (ops_root root : List ℕ) (witness : Witness) (p : ℕ)
    → seen_by text S g m c p ≡ tail_node S g (seen_tail text m c status floor ops_root root witness) p
seen_told text S g m c status floor ops_root root witness p =
    joined-map text S g (size S m.leaves) (kept_at S c.boundary c.pinned c.nodes) (kept_from S m)
    (kept_at S c.boundary (map text c.pinned) (map text c.nodes)) (kept_at S m.boundary [] (map text m.nodes))
    (kept_at-map text S c.boundary c.pinned c.nodes) (kept_at-map text S m.boundary [] m.nodes) p

-- nothing is told past the nodes
pub tail_past : (S : Shape) → Laws S → (g : ℕ) (kept : KeptTail) (p : ℕ) → size S kept.operations.leaves ≤ p → tail_node S g kept p ≡ None
tail_past S L g kept p past = joined_past S L g (size S kept.operations.leaves)
    (kept_at S kept.chunks.boundary kept.chunks.pinned kept.chunks.nodes)
    (kept_at S kept.operations.boundary [] kept.operations.nodes) p past

-- a tree that has the digests of nodes has those of others, where they have one digest over the tree's leaves
holds_alike : (S : Shape) → Laws S → (node other : ℕ → ℕ → List ℕ) (b n : ℕ) (pinned nodes : List (List ℕ)) → b ≤ n
    → ((k a : ℕ) → a + 2 ^ k ≤ n → node k a ≡ other k a) → HoldsDigests S node [] b (size S n) pinned nodes
    → HoldsDigests S other [] b (size S n) pinned nodes
holds_alike S L node other b n pinned nodes order same holds = record {
  peaks = holds.peaks ∙ peaks_alike node other n same (S.peaks b) 0 (omega (arith, L.sum b));
  from = λ a k al low high clean.
      let born : S.birth a k ≤ n = (L.born n a k al).0 high in
      holds.from a k al low high clean ∙ same k a (omega (arith, born, L.late a k));
}

module _ {D : Type 0} (text : D → List ℕ) (h : HashFunction) (g : Grafting) (L : Laws g.shape) (m c : Kept D) (status : Retained)
    (trees : AreTrees g m c status) (s : Snapshot) (floor : ℕ) (ops_root root : List ℕ) (witness : Witness) where
  order : c.boundary ≤ c.leaves
  order = omega (arith, trees.behind, trees.pruned.few, trees.count)

  -- a snapshot that its trees and its roots are kept of
  pub tail_stands : AreOfSnapshot text h g m c status s → floor ≡ s.floor → AreRootsOf h g s ops_root root witness
      → StandsForTail h g (seen_tail text m c status floor ops_root root witness) s
  tail_stands of floor_is roots =
      let list = of.chunks_are.list in
      let n : m.leaves ≡ length s.operations = of.over.count ∙ length-leaf_digests h (ungrafted g.shape) 0 s.operations in
      let total : c.leaves ≡ length list = of.chunks_are.stands.count in
      record {
        operations = record { leaves = n; holds = of.over.holds };
        chunks = record {
          leaves = trees.count ∙ ap (graftable g) n;
          holds = holds_alike g.shape L (λ k a. chunk_node h g list a k) (λ k a. grafted_node h g s a k) c.boundary c.leaves
              (map text c.pinned) (map text c.nodes) order
              (λ k a within. over_view h g s list (first_of_all h g s list of.chunks_are.grafted) k a (omega (arith, within, total)))
              of.chunks_are.stands.holds;
        };
        place = trees.pruned.place;
        pruned = rw (← n) trees.pruned.few;
        behind = trees.behind;
        have = rw (← n) trees.have;
        status = of.bits;
        floor = floor_is;
        ops_root = roots.ops_root;
        root = roots.root;
        witness = roots.witness;
      }

  -- and back
  pub tail_told : StandsForTail h g (seen_tail text m c status floor ops_root root witness) s → AreOfSnapshot text h g m c status s
  tail_told stands =
      let all = grafted_all h g s in
      let total : c.leaves ≡ length (grafted_list h g s) = stands.chunks.leaves ∙ sym all.count in
      record {
        bits = stands.status;
        over = record {
          count = stands.operations.leaves ∙ sym (length-leaf_digests h (ungrafted g.shape) 0 s.operations);
          holds = stands.operations.holds;
        };
        chunks_are = record {
          list = grafted_list h g s;
          grafted = all;
          stands = record {
            count = total;
            holds = holds_alike g.shape L (λ k a. grafted_node h g s a k) (λ k a. chunk_node h g (grafted_list h g s) a k)
                c.boundary c.leaves (map text c.pinned) (map text c.nodes) order
                (λ k a within. sym (over_view h g s (grafted_list h g s) (first_of_all h g s (grafted_list h g s) all) k a
                (omega (arith, within, total))))
                stands.chunks.holds;
          };
        };
      }

-- ---- the grafts behind pins

module _ (h : HashFunction) (g : Grafting) (s : Snapshot) (count : ℕ) (few : count ≤ graftable g (length s.operations)) where
  -- those of the first chunks
  abbrev pub first_list : List (List ℕ)
  first_list = map (λ j. view_node h g s (j * 2 ^ height g) (height g)) (range_with_len 0 count)

  first_length : length first_list ≡ count
  first_length = length-map-range_with_len (λ j. view_node h g s (j * 2 ^ height g) (height g)) 0 count

  first_grafted : AreFirstGraftedLeaves h g s first_list
  first_grafted = record {
    few = omega (arith, first_length, few);
    each = λ j within.
        let inside : j < count = omega (arith, within, first_length) in
        get_or-map-range_with_len (λ j. view_node h g s (j * 2 ^ height g) (height g)) 0 count j j [] inside (omega arith);
  }

  -- a tree that begins with the snapshot's pins, and the grafts that are appended
  pub behind_pins : {D : Type 0} (text : D → List ℕ) → Laws g.shape → (operations old new : Kept D) (status : Retained) (pins : List D)
      → ((N : NodesOver) (list : List (List ℕ)) → length list ≡ count → map text pins ≡ at_peaks (N list) 0 (g.shape.peaks count)
      → StandsFor text g.shape N old list)
      → ((list : List (List ℕ)) → StandsForChunks text h g old list → HasMoreGrafts text h g operations new status list)
      → new.leaves ≡ graftable g operations.leaves → IsRest g.bytes status s.bits → IsOver text h g.shape operations s.operations
      → map text pins ≡ chunk_pins h g s count → IsOverChunks text h g new s
  behind_pins text L operations old new status pins begun more leaves rest over pins_are =
      let alike : map text pins ≡ at_peaks (λ k a. chunk_node h g first_list a k) 0 (g.shape.peaks count) =
      pins_are ∙ peaks_alike (λ k a. grafted_node h g s a k) (λ k a. chunk_node h g first_list a k) count
      (λ k a within. sym (over_view h g s first_list first_grafted k a (omega (arith, within, first_length)))) (g.shape.peaks count) 0
      (omega (arith, L.sum count)) in
      let has = more first_list (begun (λ list k a. chunk_node h g list a k) first_list first_length alike) in
      let n : operations.leaves ≡ length s.operations = over.count ∙ length-leaf_digests h (ungrafted g.shape) 0 s.operations in
      let are = has.are s rest over in
      record {
        list = first_list ++ has.more;
        grafted = record {
          count = sym has.stands.count ∙ leaves ∙ ap (graftable g) n;
          each = λ j within. elim (cases_lt j (length first_list)) [
            | inl old ↦ get_or_append_left first_list has.more [] j old ∙ first_grafted.each j old
            | inr young ↦
                let e : j ≡ length first_list + (j - length first_list) = omega arith in
                let below : j - length first_list < length has.more = omega (arith, length-append first_list has.more) in
                ap (λ (k : ℕ). get_or (first_list ++ has.more) k []) e
                ∙ get_or-append-add first_list has.more (j - length first_list) []
                ∙ are (j - length first_list) below
                ∙ ap (λ (k : ℕ). view_node h g s (k * 2 ^ height g) (height g)) (sym e)
          ];
        };
        stands = has.stands;
      }

-- the pins of trees that are a snapshot's
pub pins_of_trees : {D : Type 0} (text : D → List ℕ) (h : HashFunction) (g : Grafting) → Laws g.shape → (s : Snapshot) (m : Kept D)
    (t : KeptChunks D) → AreTreesOf text h g s m t → map text t.pinned ≡ chunk_pins h g s t.pruned
pins_of_trees text h g L s m t of =
    of.keeps.pins ∙ peaks_alike (λ k a. chunk_node h g of.list a k) (λ k a. grafted_node h g s a k) t.pruned
    (λ k a within. over_view h g s of.list (first_of_all h g s of.list of.grafted) k a (omega (arith, within, of.keeps.count)))
    (g.shape.peaks t.pruned) 0 (omega (arith, L.sum t.pruned))

-- ---- operations that are forgotten

module _ {D : Type 0} (text : D → List ℕ) (g : Grafting) (L : Laws g.shape) (old new c : Kept D) (before after : Retained) (chunks : ℕ)
    (trees : AreTrees g old c before) (has : HasForgotten text g old new before after chunks) where
  pub tail_forgotten : AreTrees g new c after
  tail_forgotten =
      let more : after.pruned ≡ before.pruned + (chunks - before.pruned) = ap (λ (r : Retained). r.pruned) has.status in
      record {
        sized = trees.sized;
        few = omega (arith, has.leaves, trees.few);
        pruned = subst (ArePruned g new) (sym has.status)
            (pruned_alike g L trees.sized old new before chunks trees.pruned has.few has.leaves has.boundary);
        behind = omega (arith, trees.behind, more);
        pins = trees.pins;
        have = subst (λ (n : ℕ). HavePins g n c.boundary) (sym has.leaves) trees.have;
        count = trees.count ∙ ap (graftable g) (sym has.leaves);
      }

module _ {D : Type 0} (text : D → List ℕ) (h : HashFunction) (g : Grafting) (L : Laws g.shape) (old new c : Kept D)
    (before after : Retained) (chunks : ℕ) (trees : AreTrees g old c before) (has : HasForgotten text g old new before after chunks) where
  -- the snapshot is theirs as it was
  pub tail_forgotten_of : (s : Snapshot) → AreOfSnapshot text h g old c before s → AreOfSnapshot text h g new c after s
  tail_forgotten_of s of =
      let there : chunks * (8 * g.bytes) ≤ bit_count g.bytes before =
      chunks_there g L trees.sized old before chunks trees.pruned has.few in
      record {
        bits = subst (λ (r : Retained). IsRest g.bytes r s.bits) (sym has.status)
            (pruned_rest g.bytes chunks before there s.bits of.bits);
        over = has.stands (plain_over h g.shape) (leaf_digests h (ungrafted g.shape) 0 s.operations) of.over;
        chunks_are = of.chunks_are;
      }
