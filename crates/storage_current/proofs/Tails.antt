-- Trees with pins for what is before an operation: whose they are, and their root.
use Rattle.std.proofs.Common.{◌≡◌, ℕ, ◌+◌, ◌-◌, ◌*◌, ◌/◌, ◌%◌, ◌^◌, ◌<◌, ◌≤◌, ◌++◌, List, [], ◌∷◌, length, map, take, drop, get_or, get_or-drop, length-drop, Option, Some, None, IsSome, option_map, Result, Ok, Err, inl, inr, refl, sym, ap, ap₂, subst, ◌∙◌, arith, pow_pos, true, leb, le-leb}
use Rattle.std.specs.List.{range_with_len}
use Rattle.std.specs.Option.{is_some}
use Rattle.std.specs.Prelude.{IfOk, IfSome, MatchOption}
use Rattle.std.proofs.lemmas.Bool.{cases_lt, or_left}
use Rattle.std.proofs.lemmas.List.{ext_get_or, get_or_append_left, length-map, length-take-le, take-append-drop, take_all}
use Rattle.std.proofs.lemmas.List.FromFn.{get_or-map-range_with_len, length-map-range_with_len}
use Rattle.std.proofs.lemmas.Nat.{pow-add}
use Rattle.std.proofs.Math.Nat.{add-mul, mul-le-mul_right}
use Rattle.storage_codec.specs.Digests.{HashFunction}
use Rattle.storage_merkle.specs.Hashing.{leaf_digests}
use Rattle.storage_merkle.specs.Kept.{Kept, NodesOver, at_peaks, kept_at}
use Rattle.storage_merkle.specs.Laws.Hashing.{leaf_digests-append, length-leaf_digests, node_over-tree}
use Rattle.storage_merkle.specs.Laws.Kept.{peaks_same}
use Rattle.storage_merkle.specs.Laws.Multiples.{in_units, out_of_units, pow_le, pow_order}
use Rattle.storage_merkle.specs.Laws.Peaks.{inside_of_peak, peak_over}
use Rattle.storage_merkle.specs.Laws.Shape.{before_inside, grows_at_most, inside_before, inside_between, same_node}
use Rattle.storage_merkle.specs.Nodes.{IsNode}
use Rattle.storage_merkle.specs.Pace.{ChunksKeepPace}
use Rattle.storage_merkle.specs.Peaks.{HasPeak}
use Rattle.storage_merkle.specs.Plans.{GreatestNodesArePlanned, InTree, IsGreatestApart}
use Rattle.storage_merkle.specs.RangeProofs.{apart}
use Rattle.storage_merkle.specs.Shape.{Inside, Laws, Shape, leaves_under, size}
use Rattle.storage_merkle.specs.Trees.{listed, ungrafted}
use Rattle.storage_bitmap.specs.Chunks.{IsChunkSize, IsRest, Retained, bit_count}
use Rattle.storage_current.specs.CombinedViews.{AnswersAreTrue, AreFirstGraftedLeaves, AreGraftedLeaves, chunk_node, grafted_node, operations_node}
use Rattle.storage_current.specs.GraftedTrees.{IsPeak, KeptChunks, Keeps, join_over, regrafted, tree_at}
use Rattle.storage_current.specs.KeptTrees.{AreGraftsFrom, ArePruned}
use Rattle.storage_current.specs.Laws.Grafting.{chunk_height}
use Rattle.storage_current.specs.Laws.Retained.{planned_retained}
use Rattle.storage_current.specs.NodeLists.{ArePeaksHad, IsOver, plain_over}
use Rattle.storage_current.specs.Pins.{HavePins, chunk_pins, had_of_view}
use Rattle.storage_current.specs.Snapshots.{Grafting, IsGrafting, IsSnapshot, Snapshot, graftable, height, view_node}
use Rattle.storage_current.specs.Tails.{AreOwnParts, ArePinned, AreTreesOf, DoFit, PlannedNodesAreLeft}
use Rattle.storage_current.proofs.CombinedViews.{cover, first_of_all, grafted_halves, joined_true, over_view}
use Rattle.storage_current.proofs.Joined.{joined_above, joined_below}
use Rattle.storage_current.proofs.KeptChunks.{memory_true}
use Rattle.storage_current.proofs.MemViews.{KeepsNodes}
use Rattle.storage_current.proofs.Pinned.{covered, peak_inside}
use Rattle.storage_current.proofs.PinSites.{has_of}
use Rattle.storage_current.proofs.PrunedViews.{keeps_true, regrafted_is, regrafted_true}
use Rattle.storage_current.proofs.Rebuilt.{covered_some}
use Rattle.storage_current.proofs.Retaining.{peak_aligned, peaks_retained}

-- ---- what is before is pinned

pub trees_pruned : {D : Type 0} (g : Grafting) → IsChunkSize g.bytes → (pins over count : ℕ) (status : Retained)
    → DoFit g pins over count status → (m : Kept D) → m.leaves ≡ status.pruned * (8 * g.bytes) + count
    → m.boundary ≡ status.pruned * (8 * g.bytes) → ArePruned g m status
trees_pruned g size pins over count status fit m leaves boundary =
    let all : bit_count g.bytes status ≡ m.leaves = omega (arith, fit.bit_each, leaves) in
    record {
      all = all;
      place = boundary ∙ sym (ap (λ (w : ℕ). status.pruned * w) (chunk_height g size).bits);
      few = subst (λ (n : ℕ). status.pruned ≤ graftable g n) all fit.graftable;
    }

-- a tree over chunks as it is made
abbrev made : {D : Type 0} → Grafting → ℕ → (over grafts : List D) → KeptChunks D
made g p over grafts = record { pruned = p; pinned = take (length (g.shape.peaks p)) over; leaves = grafts }

pub trees_pinned : {D : Type 0} (g : Grafting) (pins over grafts : List D) (status : Retained) (m : Kept D) (t : KeptChunks D)
    → ArePruned g m status → m.pinned ≡ pins → length over ≡ length (g.shape.peaks status.pruned)
    → length grafts ≡ graftable g m.leaves - status.pruned → t ≡ made g status.pruned over grafts
    → ArePinned g pins over status m t
trees_pinned {D} g pins over grafts status m t pruned pins_are each count is =
    let all : take (length (g.shape.peaks status.pruned)) over ≡ over =
    take_all (length (g.shape.peaks status.pruned)) over (omega (arith, each)) in
    record {
      pruned = pruned;
      pins_are = pins_are;
      place = ap (λ (x : KeptChunks D). x.pruned) is;
      over_chunks_are = ap (λ (x : KeptChunks D). x.pinned) is ∙ all;
      all = omega (
        arith,
        ap (λ (x : KeptChunks D). x.pruned) is,
        ap (λ (x : KeptChunks D). length x.leaves) is,
        count,
        pruned.few,
      );
    }

-- ---- whose they are

-- the peaks over the first operations need no others
pub pins_of_first : (h : HashFunction) (S : Shape) → Laws S → (list : List (List ℕ)) (count : ℕ) → count ≤ length list
    → at_peaks (plain_over h S (leaf_digests h (ungrafted S) 0 (take count list))) 0 (S.peaks count)
    ≡ at_peaks (plain_over h S (leaf_digests h (ungrafted S) 0 list)) 0 (S.peaks count)
pins_of_first h S L list count within =
    let T = ungrafted S in
    let first : List (List ℕ) = take count list in
    let rest : List (List ℕ) = drop count list in
    let all : leaf_digests h T 0 list ≡ leaf_digests h T 0 first ++ leaf_digests h T (0 + length first) rest =
    ap (leaf_digests h T 0) (sym (take-append-drop count list)) ∙ leaf_digests-append h T 0 first rest in
    peaks_same h T (λ a. []) (leaf_digests h T 0 first) (leaf_digests h T 0 list) (S.peaks count) 0 (λ j from below.
    let less : j < length (leaf_digests h T 0 first) =
    omega (arith, below, L.sum count, length-leaf_digests h T 0 first, length-take-le count list within) in
    sym (ap (λ xs. get_or xs j []) all ∙ get_or_append_left (leaf_digests h T 0 first) _ [] j less))

pub over_all : {D : Type 0} (text : D → List ℕ) (h : HashFunction) (S : Shape) (m : Kept D) (list rest : List (List ℕ)) (count : ℕ)
    → rest ≡ drop count list → IsOver text h S m (take count list ++ rest) → IsOver text h S m list
over_all text h S m list rest count are over =
    subst (IsOver text h S m) (ap (λ xs. take count list ++ xs) are ∙ take-append-drop count list) over

-- digests of peaks over the first leaves, where both have one digest of each node over these
pub peaks_alike : (node other : ℕ → ℕ → List ℕ) (n : ℕ) → ((k a : ℕ) → a + 2 ^ k ≤ n → node k a ≡ other k a) → (hs : List ℕ) (b : ℕ)
    → b + leaves_under hs ≤ n → at_peaks node b hs ≡ at_peaks other b hs
unfolding leaves_under
peaks_alike node other n same [] b within = refl
peaks_alike node other n same (k ∷ hs) b within = ap₂ (λ x xs. x ∷ xs) (same k b (omega (arith, within)))
    (peaks_alike node other n same hs (b + 2 ^ k) (omega (arith, within)))

module _ (h : HashFunction) (g : Grafting) (s : Snapshot) where
  -- the digests of all graftable chunks
  abbrev pub grafted_list : List (List ℕ)
  grafted_list = map (λ j. view_node h g s (j * 2 ^ height g) (height g)) (range_with_len 0 (graftable g (length s.operations)))

  pub grafted_all : AreGraftedLeaves h g s grafted_list
  grafted_all = record {
    count = length-map-range_with_len (λ j. view_node h g s (j * 2 ^ height g) (height g)) 0 (graftable g (length s.operations));
    each = λ j within.
        let inside : j < graftable g (length s.operations) = omega (
          arith,
          within,
          length-map-range_with_len
              (λ j. view_node h g s (j * 2 ^ height g) (height g)) 0 (graftable g (length s.operations)),
        ) in
        get_or-map-range_with_len (λ j. view_node h g s (j * 2 ^ height g) (height g)) 0 (graftable g (length s.operations)) j j []
        inside (omega arith);
  }

  pub pins_of_list : Laws g.shape → (chunks : ℕ) → chunks ≤ graftable g (length s.operations)
      → chunk_pins h g s chunks ≡ at_peaks (λ k a. chunk_node h g grafted_list a k) 0 (g.shape.peaks chunks)
  pins_of_list L chunks few =
      let all = grafted_all in
      peaks_alike (λ k a. grafted_node h g s a k) (λ k a. chunk_node h g grafted_list a k) (length grafted_list)
      (λ k a within. sym (over_view h g s grafted_list (first_of_all h g s grafted_list all) k a within)) (g.shape.peaks chunks) 0
      (omega (arith, L.sum chunks, few, all.count))

  pub rest_of_list : (grafts : List (List ℕ)) (chunks : ℕ) → chunks + length grafts ≡ graftable g (length s.operations)
      → AreGraftsFrom h g s chunks grafts → grafts ≡ drop chunks grafted_list
  rest_of_list grafts chunks sum are =
      let all = grafted_all in
      ext_get_or [] grafts (drop chunks grafted_list) (omega (arith, length-drop chunks grafted_list, sum, all.count))
      (λ i less. are i less ∙ sym (all.each (chunks + i) (omega (arith, less, sum, all.count)))
      ∙ sym (get_or-drop chunks grafted_list i []))

-- trees that are made of a snapshot's own parts
module _ {D : Type 0} (text : D → List ℕ) (h : HashFunction) (g : Grafting) (L : Laws g.shape) (s : Snapshot)
    (snapshot : IsSnapshot s) (pins over grafts : List D) (operations : List (List ℕ)) (status : Retained)
    (parts : AreOwnParts h g s (map text pins) (map text over) operations status) (m : Kept D) (t : KeptChunks D)
    (pruned : ArePruned g m status) where
  abbrev begin : ℕ
  begin = status.pruned * (8 * g.bytes)

  -- the tree over the operations
  own_over : ((first : List (List ℕ)) → length first ≡ begin
      → map text pins ≡ at_peaks (plain_over h g.shape (leaf_digests h (ungrafted g.shape) 0 first)) 0 (g.shape.peaks begin)
      → IsOver text h g.shape m (first ++ operations)) → IsOver text h g.shape m s.operations
  own_over behind =
      let rest = parts.bits_are in
      let within : begin ≤ length s.operations = omega (arith, rest.within, snapshot.bit_each) in
      over_all text h g.shape m s.operations operations begin parts.operations_are (behind (take begin s.operations)
      (length-take-le begin s.operations within)
      (parts.pins_are ∙ sym (pins_of_first h g.shape L s.operations begin within)))

  pub own_trees : ((first : List (List ℕ)) → length first ≡ begin
      → map text pins ≡ at_peaks (plain_over h g.shape (leaf_digests h (ungrafted g.shape) 0 first)) 0 (g.shape.peaks begin)
      → IsOver text h g.shape m (first ++ operations)) → length over ≡ length (g.shape.peaks status.pruned)
      → length grafts ≡ graftable g m.leaves - status.pruned
      → (IsRest g.bytes status s.bits → IsOver text h g.shape m s.operations
      → AreGraftsFrom h g s status.pruned (map text grafts))
      → ((N : NodesOver) (list : List (List ℕ)) → length list ≡ status.pruned + length grafts
      → map text (take (length (g.shape.peaks status.pruned)) over) ≡ at_peaks (N list) 0 (g.shape.peaks status.pruned)
      → map text grafts ≡ drop status.pruned list → Keeps text g.shape N t list) → AreTreesOf text h g s m t
  own_trees behind each count grafted stands =
      let own : IsOver text h g.shape m s.operations = own_over behind in
      let leaves : m.leaves ≡ length s.operations =
      own.count ∙ length-leaf_digests h (ungrafted g.shape) 0 s.operations in
      let few : status.pruned ≤ graftable g (length s.operations) =
      subst (λ (n : ℕ). status.pruned ≤ graftable g n) leaves pruned.few in
      let total : graftable g m.leaves ≡ graftable g (length s.operations) = ap (graftable g) leaves in
      let all : take (length (g.shape.peaks status.pruned)) over ≡ over =
      take_all (length (g.shape.peaks status.pruned)) over (omega (arith, each)) in
      let sum : status.pruned + length (map text grafts) ≡ graftable g (length s.operations) =
      omega (arith, count, few, total, length-map grafts text) in
      record {
        over = own;
        list = grafted_list h g s;
        grafted = grafted_all h g s;
        keeps = stands (λ list k a. chunk_node h g list a k) (grafted_list h g s)
            (omega (arith, (grafted_all h g s).count, sum, length-map grafts text))
            (ap (map text) all ∙ parts.over_chunks_are ∙ pins_of_list h g s L status.pruned few)
            (rest_of_list h g s (map text grafts) status.pruned sum (grafted parts.bits_are own));
      }

-- ---- their root

is_of : (hs : List ℕ) (s a k : ℕ) → HasPeak hs s a k → IsPeak hs s a k
unfolding HasPeak
is_of [] s a k p = p
is_of (x ∷ hs) s a k (inl p) = inl (sym p.0, sym p.1)
is_of (x ∷ hs) s a k (inr p) = inr (is_of hs (s + 2 ^ x) a k p)

-- a peak of the view lies strictly inside no pin, if each pin covers the operations of a node of the view
pub pin_top : (g : Grafting) → Laws g.shape → (n c : ℕ) → HavePins g n c → (a k : ℕ) → IsPeak (g.shape.peaks n) 0 a k
    → (b j : ℕ) → b * 2 ^ height g ≡ a → j + height g ≡ k → Inside (g.shape.peaks c) 0 b j → IsPeak (g.shape.peaks c) 0 b j
pin_top g L n c have a k peak b j eb ej inside =
    let S = g.shape in
    let G : ℕ = height g in
    let bounds = inside_between (S.peaks c) 0 b j inside in
    let o = peak_over (S.peaks c) 0 b (omega arith) (omega (arith, bounds.1, pow_pos j)) in
    let r = inside_of_peak (S.peaks c) 0 b j o.first o.height b inside o.is (omega arith) (omega (arith, pow_pos j)) o.low o.high in
    let pin : IsPeak (S.peaks c) 0 o.first o.height = is_of (S.peaks c) 0 o.first o.height o.is in
    let up : 2 ^ j ≤ 2 ^ o.height = omega (arith, r.0, r.1) in
    elim (cases_lt j o.height) [
      | inr same ↦
          let down : 2 ^ o.height ≤ 2 ^ j = pow_le o.height j same in
          let eh : o.height ≡ j = omega (arith, pow_order j o.height up, same) in
          let ef : o.first ≡ b = omega (arith, r.0, r.1, down) in
          subst (λ x. IsPeak (S.peaks c) 0 x j) ef (subst (λ x. IsPeak (S.peaks c) 0 o.first x) eh pin)
      | inl above ↦
          let first : ℕ = o.first * 2 ^ G in
          let level : ℕ = o.height + G in
          let al : o.first % 2 ^ o.height ≡ 0 = peak_aligned (S.peaks c) 0 o.first o.height (L.aligned c) pin in
          let there : Inside (S.peaks n) 0 first level =
          (L.inside n first level (out_of_units o.first o.height G al)).1 (have o.first o.height pin) in
          let from : first ≤ b * 2 ^ G = mul-le-mul_right (2 ^ G) r.0 in
          let to : (b + 2 ^ j) * 2 ^ G ≤ (o.first + 2 ^ o.height) * 2 ^ G = mul-le-mul_right (2 ^ G) r.1 in
          let left : (b + 2 ^ j) * 2 ^ G ≡ b * 2 ^ G + 2 ^ j * 2 ^ G = add-mul b (2 ^ j) (2 ^ G) in
          let right : (o.first + 2 ^ o.height) * 2 ^ G ≡ first + 2 ^ o.height * 2 ^ G = add-mul o.first (2 ^ o.height) (2 ^ G) in
          let wide : 2 ^ level ≡ 2 ^ o.height * 2 ^ G = pow-add 2 o.height G in
          let own : 2 ^ (j + G) ≡ 2 ^ j * 2 ^ G = pow-add 2 j G in
          let low : first ≤ a = omega (arith, from, eb) in
          let high : a < first + 2 ^ level = omega (arith, to, left, right, wide, own, eb, pow_pos (j + G)) in
          let q = inside_of_peak (S.peaks n) 0 first level a k a there (has_of (S.peaks n) 0 a k peak) low high (omega arith)
          (omega (arith, pow_pos k)) in
          let less : 2 ^ level ≤ 2 ^ k = omega (arith, q.0, q.1) in
          absurd (omega (arith, pow_order level k less, above, ej))
    ]

module _ {D : Type 0} (digest : List ℕ → D) (text : D → List ℕ) (g : Grafting) (grafting : IsGrafting g)
    (pace : ChunksKeepPace g.shape (height g)) (t : KeptChunks D) (below : ℕ → Option D) where
  -- each peak of the view can be had
  pub peaks_had : (n : ℕ) → n ≤ 2 ^ 62 → length t.pinned ≡ length (g.shape.peaks t.pruned)
      → t.pruned + length t.leaves ≡ graftable g n → HavePins g n t.pruned
      → ((p : ℕ) → size g.shape (t.pruned * 2 ^ height g) ≤ p → p < size g.shape n → IsSome (below p))
      → ArePeaksHad g.shape n (had_of_view digest text g n t below)
  peaks_had n few pins all have kept a k peak =
      let S = g.shape in
      let L = grafting.laws in
      let G : ℕ = height g in
      let chunks : ℕ → Option D = tree_at S t.pruned t.pinned t.leaves in
      let al : a % 2 ^ k ≡ 0 = peak_aligned (S.peaks n) 0 a k (L.aligned n) peak in
      let p : ℕ = S.position a k in
      let within : p < size S n = inside_before S L n a k al (peak_inside (S.peaks n) 0 a k peak) in
      let most : size S n ≤ size S (2 ^ 62) = grows_at_most (size S) L.grows n (2 ^ 62) few in
      let valid : p ≤ size S (2 ^ 62) = omega (arith, within, most) in
      let node : IsNode S p a k = record { aligned = al; at = refl } in
      elim (cases_lt k G) [
        | inl low ↦
            let behind : size S (t.pruned * 2 ^ G) ≤ p =
            elim (peaks_retained g L n t.pruned a k (omega (arith, all)) peak) [
              | inl high ↦ absurd (omega (arith, high, low))
              | inr there ↦ there
            ] in
            ap is_some (joined_below S L G (size S n) (regrafted digest text S G chunks) below p a k within valid node low)
            ∙ kept p behind within
        | inr high ↦
            let o = cover S L G n (graftable g n) pace refl p a k node within high in
            ap is_some (joined_above S L G (size S n) (regrafted digest text S G chunks) below p o.position within valid o.covers
            ∙ regrafted_is S L digest text G chunks o.position o.first o.over o.node)
            ∙ covered_some S (join_over digest text S G) chunks o.over o.first
            (covered S L t.pruned t.pinned t.leaves pins o.over o.first o.node.aligned (omega (arith, o.ends, all))
            (pin_top g L n t.pruned have a k peak o.first o.over o.starts o.high))
      ]

  -- and what can be had of a snapshot's trees is its view's
  module _ (h : HashFunction) (told : (x : List ℕ) → text (digest x) ≡ h x) (s : Snapshot) (snapshot : IsSnapshot s) (m : Kept D)
      (keeps : KeepsNodes text g.shape m) (of : AreTreesOf text h g s m t) where
    operations_true : AnswersAreTrue text g.shape (length s.operations) (operations_node h g s)
        (kept_at g.shape m.boundary m.pinned m.nodes)
    operations_true p a k d within node is =
        let S = g.shape in
        let L = grafting.laws in
        let T = ungrafted S in
        let leaves : List (List ℕ) = leaf_digests h T 0 s.operations in
        let count : length leaves ≡ length s.operations = length-leaf_digests h T 0 s.operations in
        let here : S.position a k < size S (length s.operations) = omega (arith, node.at, within) in
        let born : S.birth a k ≤ length s.operations = (L.born (length s.operations) a k node.aligned).0 here in
        memory_true S L text (plain_over h S) m leaves of.over (keeps (plain_over h S) leaves of.over) p a k d
        (subst (λ (n : ℕ). p < size S n) (sym count) within) node is
        ∙ node_over-tree h T (listed s.operations) k a (omega (arith, born, L.late a k))

    view_true : AnswersAreTrue text g.shape (length s.operations) (view_node h g s)
        (had_of_view digest text g (length s.operations) t (kept_at g.shape m.boundary m.pinned m.nodes))
    view_true =
        let S = g.shape in
        let L = grafting.laws in
        let chunks : ℕ → Option D = tree_at S t.pruned t.pinned t.leaves in
        joined_true h g pace grafting s snapshot (regrafted digest text S (height g) chunks)
        (kept_at S m.boundary m.pinned m.nodes) text (regrafted_true digest text h told S L (height g)
        (graftable g (length s.operations)) (grafted_node h g s) (grafted_halves h g s) chunks
        (keeps_true text h g L s of.list (first_of_all h g s of.list of.grafted) t of.keeps)) operations_true

    pub had_true : (n : ℕ) → n ≡ length s.operations → AnswersAreTrue text g.shape n (view_node h g s)
        (had_of_view digest text g n t (kept_at g.shape m.boundary m.pinned m.nodes))
    had_true n count = subst (λ (i : ℕ). AnswersAreTrue text g.shape i (view_node h g s)
        (had_of_view digest text g i t (kept_at g.shape m.boundary m.pinned m.nodes))) (sym count) view_true

-- a root that is calculated where all can be had
pub root_had : {D E : Type 0} (text : D → List ℕ) (r : Result (Option D) E) (P : Type 0) (Q : List ℕ → Type 0) (x : List ℕ) → P
    → ((y : List ℕ) → Q y → y ≡ x) → IfOk r (λ o. MatchOption o (P → ⊥) (λ d. P)) → IfOk r (λ o. IfSome o (λ d. Q (text d)))
    → IfOk r (λ o. option_map text o ≡ Some x)
root_had text (Ok None) P Q x p f had own = absurd (had p)
root_had text (Ok (Some d)) P Q x p f had own = ap Some (f (text d) own)
root_had text (Err e) P Q x p f had own = tt

-- ---- what is left to serve from

-- a node that is the greatest without a range behind c chunks, and is over whole chunks, is born behind these or is a pin
greatest_left : (g : Grafting) → Laws g.shape → (n low high c a k b j : ℕ) → c * 2 ^ height g ≤ low → HavePins g n c
    → IsGreatestApart g.shape n low high a k → b * 2 ^ height g ≡ a → j + height g ≡ k → Inside (g.shape.peaks c) 0 b j
    → IsPeak (g.shape.peaks c) 0 b j
greatest_left g L n low high c a k b j from have greatest eb ej inside =
    let S = g.shape in
    let G : ℕ = height g in
    let bounds = inside_between (S.peaks c) 0 b j inside in
    let o = peak_over (S.peaks c) 0 b (omega arith) (omega (arith, bounds.1, pow_pos j)) in
    let r = inside_of_peak (S.peaks c) 0 b j o.first o.height b inside o.is (omega arith) (omega (arith, pow_pos j)) o.low o.high in
    let pin : IsPeak (S.peaks c) 0 o.first o.height = is_of (S.peaks c) 0 o.first o.height o.is in
    let al : o.first % 2 ^ o.height ≡ 0 = peak_aligned (S.peaks c) 0 o.first o.height (L.aligned c) pin in
    let first : ℕ = o.first * 2 ^ G in
    let level : ℕ = o.height + G in
    let raised : first % 2 ^ level ≡ 0 = out_of_units o.first o.height G al in
    let there : Inside (S.peaks n) 0 first level = (L.inside n first level raised).1 (have o.first o.height pin) in
    let tree : InTree S n first level = record { aligned = raised; inside = inside_before S L n first level raised there } in
    let end = inside_between (S.peaks c) 0 o.first o.height (peak_inside (S.peaks c) 0 o.first o.height pin) in
    let most : (o.first + 2 ^ o.height) * 2 ^ G ≤ c * 2 ^ G =
    mul-le-mul_right (2 ^ G) (let e : o.first + 2 ^ o.height ≤ c = omega (arith, end.1, L.sum c) in e) in
    let up : first ≤ b * 2 ^ G = mul-le-mul_right (2 ^ G) r.0 in
    let to : (b + 2 ^ j) * 2 ^ G ≤ (o.first + 2 ^ o.height) * 2 ^ G = mul-le-mul_right (2 ^ G) r.1 in
    let left : (b + 2 ^ j) * 2 ^ G ≡ b * 2 ^ G + 2 ^ j * 2 ^ G = add-mul b (2 ^ j) (2 ^ G) in
    let right : (o.first + 2 ^ o.height) * 2 ^ G ≡ first + 2 ^ o.height * 2 ^ G = add-mul o.first (2 ^ o.height) (2 ^ G) in
    let wide : 2 ^ level ≡ 2 ^ o.height * 2 ^ G = pow-add 2 o.height G in
    let own : 2 ^ k ≡ 2 ^ j * 2 ^ G = ap (λ x. 2 ^ x) (sym ej) ∙ pow-add 2 j G in
    let outside : apart low high first level ≡ true =
    or_left (leb (first + 2 ^ level) low) (leb high first) (le-leb (first + 2 ^ level) low (omega (arith, most, right, wide, from))) in
    let same = greatest.greatest first level tree outside (omega (arith, up, eb)) (omega (arith, to, left, right, wide, own, eb)) in
    let eh : o.height ≡ j = omega (arith, same.1, ej) in
    let size : 2 ^ o.height ≡ 2 ^ j = ap (λ x. 2 ^ x) eh in
    let ef : o.first ≡ b = omega (arith, r.0, r.1, size) in
    subst (λ x. IsPeak (S.peaks c) 0 x j) ef (subst (λ x. IsPeak (S.peaks c) 0 o.first x) eh pin)

pub planned_left : GreatestNodesArePlanned → (g : Grafting) → PlannedNodesAreLeft g
planned_left are g L n low high c b p a k order from few have there node =
    let S = g.shape in
    let G : ℕ = height g in
    let found = (are S L n low high p).0 there in
    let same = same_node S L p found.0 found.1 a k found.2 node in
    let greatest : IsGreatestApart S n low high a k = rw (same.0, same.1) at found.3 in
    let start : b * 2 ^ G ≤ low = omega (arith, mul-le-mul_right (2 ^ G) order, from) in
    elim (cases_lt k G) [
      | inl low_enough ↦ inl (
        low_enough,
        elim (planned_retained are g L n low high c p a k few from there node) [
          | inr behind ↦ subst (λ (q : ℕ). size S (c * 2 ^ G) ≤ q) (sym node.at) behind
          | inl high_enough ↦ absurd (omega (arith, low_enough, high_enough))
        ],
      )
      | inr high_enough ↦
          let u = in_units a k G high_enough node.aligned in
          elim (cases_lt (S.position (a / 2 ^ G) (k - G)) (size S b)) [
            | inr later ↦ inr (high_enough, inl later)
            | inl early ↦ inr (
              high_enough,
              inr (greatest_left g L n low high b a k (a / 2 ^ G) (k - G) start have greatest u.0
                  (omega arith) (before_inside S L b (a / 2 ^ G) (k - G) u.1 early)),
            )
          ]
    ]
