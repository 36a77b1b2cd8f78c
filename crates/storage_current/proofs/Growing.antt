-- A snapshot that grows: the leaves of its trees, before and after.
use Rattle.std.proofs.Common.{◌≡◌, ◌≢◌, ℕ, ◌+◌, ◌-◌, ◌*◌, ◌/◌, ◌^◌, ◌<◌, ◌≤◌, List, [], ◌∷◌, ◌++◌, length, map, drop, set, get_or, All, Bool, eqb, false, IfErr, Some, option_map, Result, Ok, Err, is_ok, true, ◌⊎◌, pow_pos, refl, sym, ap, ap₂, ◌∙◌, subst, arith, inl, inr, length-append, length-set, get_or-set_same, get_or-set_other}
use Rattle.std.specs.List.{Contains}
use Rattle.std.proofs.lemmas.Bool.{cases_eq, cases_lt}
use Rattle.std.proofs.lemmas.List.{drop-append-le, drop-set-add, set-append_left, get_or_append_left, get_or-append-add}
use Rattle.std.proofs.lemmas.List.Elements.{All-cons, All-contains, All-get_or, All-head, All-map, All-push, All-same, All-tail, All-weaker, Contains-append_left, Contains-get_or, Contains-push}
use Rattle.std.proofs.lemmas.List.Kept.{Contains-dedup_nat, Contains-from_dedup}
use Rattle.std.proofs.lemmas.List.Sorted.{All-permutation, Contains-permutation}
use Rattle.std.proofs.lemmas.Grind.{get_or_default_zero}
use Rattle.std.proofs.Math.Nat.{le-div_iff_mul-le}
use Rattle.std.specs.List.{dedup}
use Rattle.std.specs.List.Sorted.{IsPermutation}
use Rattle.storage_codec.specs.Digests.{HashFunction}
use Rattle.storage_merkle.specs.Calc.{be8}
use Rattle.storage_merkle.specs.Hashing.{leaf_digests}
use Rattle.storage_merkle.specs.Kept.{IsFirstAway, Kept, NodesOver, StandsFor, at_peaks, kept_at, list_updated}
use Rattle.storage_merkle.specs.Laws.Hashing.{length-leaf_digests, get-leaf_digests}
use Rattle.storage_merkle.specs.Laws.Shape.{grows_at_most}
use Rattle.storage_merkle.specs.Nodes.{CoversSame, IsNode}
use Rattle.storage_merkle.specs.Shape.{Laws, Shape, size}
use Rattle.storage_merkle.specs.Trees.{ungrafted}
use Rattle.storage_bitmap.specs.Chunks.{IsChunkSize, IsRest, Retained}
use Rattle.storage_current.specs.CombinedViews.{AreGraftedLeaves, chunk_node}
use Rattle.storage_current.specs.Extended.{AreTouched, HasBitAt, HasRegrafted, cleared, cleared_from, extended}
use Rattle.storage_current.specs.KeptSnapshots.{StandsForSnapshot, pruned_operations}
use Rattle.storage_current.specs.KeptTrees.{AreKept, ArePruned, HasMoreGrafts, StandsForChunks}
use Rattle.storage_current.specs.Laws.Grafting.{Height, chunk_height}
use Rattle.storage_current.specs.Laws.Retained.{behind}
use Rattle.storage_current.specs.NodeLists.{AreNodes, IsGrown, IsOver, IsRetained, kept_from, plain_over, seen_by, seen_in, seen_list, told_by}
use Rattle.storage_current.specs.Snapshots.{Grafting, IsGrafting, Snapshot, IsSnapshot, Witness, graftable, height, view_node}
use Rattle.storage_current.proofs.Extending.{graft_stands, graftable_grows, length-cleared}
use Rattle.storage_current.proofs.Joined.{joined_above, joined_below}
use Rattle.storage_current.proofs.MemViews.{KeepsNodes, chunk_node_at, list_kept, seen_snapshot}
use Rattle.storage_current.proofs.NodeLists.{list_told, same_told}
use Rattle.storage_current.proofs.Retaining.{kept_behind, over_other}

-- ---- bits that are cleared

-- bits that are appended stay behind those that are cleared
pub cleared-append : (start : ℕ) (clear : List ℕ) (xs ys : List Bool)
    → All (λ l. (start ≤ l) × (l < start + length xs)) clear
    → cleared_from start clear (xs ++ ys) ≡ cleared_from start clear xs ++ ys
cleared-append start [] xs ys all = refl
cleared-append start (l ∷ ls) xs ys all =
    let here = All-head (λ x. (start ≤ x) × (x < start + length xs)) l ls all in
    let rest = All-tail (λ x. (start ≤ x) × (x < start + length xs)) l ls all in
    ap (cleared_from start ls) (set-append_left xs ys (l - start) false (omega (arith, here.0, here.1)))
    ∙ cleared-append start ls (set xs (l - start) false) ys (All-weaker (λ x. (start ≤ x) × (x < start + length xs))
    (λ x. (start ≤ x) × (x < start + length (set xs (l - start) false)))
    (λ x w. (w.0, omega (arith, w.1, length-set xs (l - start) false))) ls rest)

pub cleared-push : (start : ℕ) (ls : List ℕ) (l : ℕ) (bits : List Bool)
    → cleared_from start (ls ++ l ∷ []) bits ≡ set (cleared_from start ls bits) (l - start) false
cleared-push start [] l bits = refl
cleared-push start (m ∷ ls) l bits = cleared-push start ls l (set bits (m - start) false)

pub length-cleared_from : (start : ℕ) (ls : List ℕ) (bits : List Bool) → length (cleared_from start ls bits) ≡ length bits
length-cleared_from start [] bits = refl
length-cleared_from start (l ∷ ls) bits =
    length-cleared_from start ls (set bits (l - start) false) ∙ length-set bits (l - start) false

-- those from a location on are cleared alike
cleared-drop : (start : ℕ) (ls : List ℕ) (bits : List Bool) → All (λ l. start ≤ l) ls
    → cleared_from start ls (drop start bits) ≡ drop start (cleared ls bits)
cleared-drop start [] bits all = refl
cleared-drop start (l ∷ ls) bits all =
    let from : start ≤ l = All-head (λ x. start ≤ x) l ls all in
    let place : start + (l - start) ≡ l = omega arith in
    ap (cleared_from start ls) (sym (drop-set-add start bits (l - start) false)
    ∙ ap (λ (i : ℕ). drop start (set bits i false)) place)
    ∙ cleared-drop start ls (set bits l false) (All-tail (λ x. start ≤ x) l ls all)

-- what is left of the bits of a snapshot that is extended
pub extended_rest : (n : ℕ) (old new : Retained) (s : Snapshot) (operations : List (List ℕ)) (bits : List Bool)
    (clear : List ℕ) (floor : ℕ) → IsRest n old s.bits → new.pruned ≡ old.pruned
    → new.bits ≡ cleared_from (old.pruned * (8 * n)) clear old.bits ++ bits → All (λ l. old.pruned * (8 * n) ≤ l) clear
    → IsRest n new (extended s operations bits clear floor).bits
extended_rest n old new s operations bits clear floor rest same are from =
    let begins : new.pruned * (8 * n) ≡ old.pruned * (8 * n) = ap (λ (p : ℕ). p * (8 * n)) same in
    let long : length (cleared clear s.bits) ≡ length s.bits = length-cleared clear s.bits in
    let longer : length (cleared clear s.bits ++ bits) ≡ length (cleared clear s.bits) + length bits =
    length-append (cleared clear s.bits) bits in
    record {
      within = omega (arith, begins, rest.within, long, longer);
      rest = are ∙ ap (λ (b : List Bool). cleared_from (old.pruned * (8 * n)) clear b ++ bits) rest.rest
          ∙ ap (λ (b : List Bool). b ++ bits) (cleared-drop (old.pruned * (8 * n)) clear s.bits from)
          ∙ sym (drop-append-le (old.pruned * (8 * n)) (cleared clear s.bits) bits (omega (arith, rest.within, long)))
          ∙ ap (λ (i : ℕ). drop i (cleared clear s.bits ++ bits)) (sym begins);
    }

-- ---- the chunks of the locations so far

pub record TouchedSoFar (g count index : ℕ) (locations touched : List ℕ) : Type 0 where
  pub some : All (λ j. (j < count) × HasBitAt g locations j) touched
  pub each : (i : ℕ) → i < index → get_or locations i 0 / 2 ^ g < count → Contains touched (get_or locations i 0 / 2 ^ g)

pub touched_none : (g count : ℕ) (locations touched : List ℕ) → touched ≡ []
    → TouchedSoFar g count 0 locations touched
touched_none g count locations touched none = rw none (record {
  some = λ k d l. absurd (omega arith);
  each = λ i l few. absurd (omega arith);
})

pub touched_more : (g count index : ℕ) (locations touched new : List ℕ) (chunk : ℕ)
    → TouchedSoFar g count index locations touched → index < length locations
    → chunk ≡ get_or locations index 0 / 2 ^ g → chunk < count → new ≡ touched ++ chunk ∷ []
    → TouchedSoFar g count (index + 1) locations new
touched_more g count index locations touched new chunk so_far inside at few is = rw is (record {
  some = All-push (λ j. (j < count) × HasBitAt g locations j) touched chunk so_far.some
      (few, (get_or locations index 0, Contains-get_or locations index 0 inside, sym at));
  each = λ i l less. elim (cases_lt i index) [
    | inl before ↦ Contains-append_left touched (chunk ∷ []) (get_or locations i 0 / 2 ^ g) (so_far.each i before less)
    | inr last ↦
        let e : index ≡ i = omega arith in
        let here : chunk ≡ get_or locations i 0 / 2 ^ g =
        at ∙ ap (λ (k : ℕ). get_or locations k 0 / 2 ^ g) e in
        rw (← here) (Contains-push touched chunk)
  ];
})

pub touched_skip : (g count index : ℕ) (locations touched new : List ℕ) (chunk : ℕ)
    → TouchedSoFar g count index locations touched → chunk ≡ get_or locations index 0 / 2 ^ g → count ≤ chunk
    → new ≡ touched → TouchedSoFar g count (index + 1) locations new
touched_skip g count index locations touched new chunk so_far at high is = rw is (record {
  some = so_far.some;
  each = λ i l less. elim (cases_lt i index) [
    | inl before ↦ so_far.each i before less
    | inr last ↦
        let e : index ≡ i = omega arith in
        let here : chunk ≡ get_or locations i 0 / 2 ^ g =
        at ∙ ap (λ (k : ℕ). get_or locations k 0 / 2 ^ g) e in
        absurd (omega (arith, here, less, high))
  ];
})

pub touched_end : (g count index : ℕ) (locations xs ys zs : List ℕ) → TouchedSoFar g count index locations xs
    → length locations ≤ index → IsPermutation xs ys → zs ≡ dedup eqb ys → AreTouched g count locations zs
touched_end g count index locations xs ys zs so_far whole perm is =
    let all : All (λ j. (j < count) × HasBitAt g locations j) ys =
    All-permutation (λ j. (j < count) × HasBitAt g locations j) xs ys perm so_far.some in
    rw is (record {
      some = λ k d l. All-contains (λ j. (j < count) × HasBitAt g locations j) ys (get_or (dedup eqb ys) k d) all
          (Contains-from_dedup eqb ys (get_or (dedup eqb ys) k d) (Contains-get_or (dedup eqb ys) k d l));
      each = λ l there few.
          let k : ℕ = there.0 in
          let same : get_or locations there.0 0 ≡ l =
          sym (get_or_default_zero locations there.0 l there.1) ∙ there.2 in
          let has : Contains xs (l / 2 ^ g) =
          rw same at (so_far.each there.0 (omega (arith, there.1)) (rw same few)) in
          Contains-dedup_nat ys (l / 2 ^ g) (Contains-permutation xs ys (l / 2 ^ g) perm has);
    })

-- none of them is pruned, where no location is
pub touched_kept : (g : Grafting) → IsChunkSize g.bytes → (pruned count : ℕ) (locations touched : List ℕ)
    → AreTouched (height g) count locations touched → All (λ l. pruned * (8 * g.bytes) ≤ l) locations
    → All (λ j. (pruned ≤ j) × (j < count)) touched
touched_kept g sized pruned count locations touched are from =
    All-weaker (λ j. (j < count) × HasBitAt (height g) locations j) (λ j. (pruned ≤ j) × (j < count)) (λ j w.
    let l : ℕ = w.1.0 in
    let here : pruned * (8 * g.bytes) ≤ l = All-contains (λ x. pruned * (8 * g.bytes) ≤ x) locations l from w.1.1 in
    let there : pruned * 2 ^ height g ≤ l = omega (arith, here, ap (λ (x : ℕ). pruned * x) (chunk_height g sized).bits) in
    let up : pruned ≤ l / 2 ^ height g = (le-div_iff_mul-le (pow_pos (height g))).1 there in
    (omega (arith, up, w.1.2), w.0)) touched are.some

-- ---- leaves that are put in

pub length-list_updated : (us : List (ℕ × List ℕ)) (list : List (List ℕ))
    → length (list_updated list us) ≡ length list
length-list_updated [] list = refl
length-list_updated (u ∷ us) list = length-list_updated us (set list u.0 u.1) ∙ length-set list u.0 u.1

-- a leaf after some are put in is right where each that is put in is right, and it was right where none is put in
pub updated_is : (right : ℕ → List ℕ) (us : List (ℕ × List ℕ)) (list : List (List ℕ)) (j : ℕ) → j < length list
    → All (λ u. u.1 ≡ right u.0) us → (All (λ u. u.0 ≢ j) us → get_or list j [] ≡ right j)
    → get_or (list_updated list us) j [] ≡ right j
updated_is right [] list j within put was = was (λ k d l. absurd (omega arith))
updated_is right (u ∷ us) list j within put was =
    updated_is right us (set list u.0 u.1) j (omega (arith, length-set list u.0 u.1))
    (All-tail (λ v. v.1 ≡ right v.0) u us put) (λ none. elim (cases_eq j u.0) [
      | inl same ↦ rw same (get_or-set_same list u.0 u.1 [] (omega arith)) ∙ All-head (λ v. v.1 ≡ right v.0) u us put
          ∙ ap right (sym same)
      | inr other ↦ get_or-set_other list u.0 j u.1 [] other
          ∙ was (All-cons (λ v. v.0 ≢ j) u us (λ e. other (sym e)) none)
    ])

firsts : {D : Type 0} (text : D → List ℕ) (us : List (ℕ × D)) → map (λ (v : ℕ × List ℕ). v.0) (map (λ (u : ℕ × D). (u.0, text u.1)) us)
    ≡ map (λ (u : ℕ × D). u.0) us
firsts text [] = refl
firsts text (u ∷ us) = ap (λ xs. u.0 ∷ xs) (firsts text us)

untouched : {D : Type 0} (text : D → List ℕ) (us : List (ℕ × D)) (touched : List ℕ) (j : ℕ) → map (λ u. u.0) us ≡ touched
    → All (λ (v : ℕ × List ℕ). v.0 ≢ j) (map (λ u. (u.0, text u.1)) us) → Contains touched j → ⊥
untouched text us touched j keys none there =
    All-contains (λ i. i ≢ j) touched j
    (All-same (λ i. i ≢ j) touched (map (λ (v : ℕ × List ℕ). v.0) (map (λ u. (u.0, text u.1)) us))
    (sym keys ∙ sym (firsts text us)) (All-map (λ i. i ≢ j) (λ (v : ℕ × List ℕ). v.0) (map (λ u. (u.0, text u.1)) us) none))
    there refl

-- the leaves over touched chunks, put in anew
pub regrafted : {D : Type 0} (text : D → List ℕ) (h : HashFunction) (g : Grafting) (operations old new : Kept D)
    (status : Retained) (touched : List ℕ) (us : List (ℕ × D)) → map (λ u. u.0) us ≡ touched
    → ((s : Snapshot) → IsRest g.bytes status s.bits → IsOver text h g.shape operations s.operations
    → All (λ u. text u.1 ≡ view_node h g s (u.0 * 2 ^ height g) (height g)) us)
    → ((list : List (List ℕ)) → StandsForChunks text h g old list
    → StandsForChunks text h g new (list_updated list (map (λ u. (u.0, text u.1)) us)))
    → (list : List (List ℕ)) → StandsForChunks text h g old list → HasRegrafted text h g operations new status touched list
regrafted text h g operations old new status touched us keys grafts written list stands = record {
  now = list_updated list (map (λ u. (u.0, text u.1)) us);
  stands = written list stands;
  count = length-list_updated (map (λ u. (u.0, text u.1)) us) list;
  are = λ s same over j within was.
      updated_is (λ i. view_node h g s (i * 2 ^ height g) (height g)) (map (λ u. (u.0, text u.1)) us) list j within
      (All-map (λ v. v.1 ≡ view_node h g s (v.0 * 2 ^ height g) (height g)) (λ u. (u.0, text u.1)) us (grafts s same over))
      (λ none. was (untouched text us touched j keys none));
}

-- each graft of the snapshot that has grown
pub all_grafted : {D : Type 0} (text : D → List ℕ) (h : HashFunction) (g : Grafting) → IsGrafting g → (s : Snapshot)
    → IsSnapshot s → (operations : List (List ℕ)) (bits : List Bool) (clear : List ℕ) (floor : ℕ) (now mid new : Kept D)
    (status : Retained) (touched : List ℕ) (list : List (List ℕ))
    → IsRest g.bytes status (extended s operations bits clear floor).bits → AreGraftedLeaves h g s list
    → AreTouched (height g) (length list) clear touched → (r : HasRegrafted text h g now mid status touched list)
    → (a : HasMoreGrafts text h g now new status r.now) → IsOver text h g.shape now (s.operations ++ operations)
    → new.leaves ≡ graftable g (length (s.operations ++ operations))
    → AreGraftedLeaves h g (extended s operations bits clear floor) (r.now ++ a.more)
all_grafted text h g grafting s snapshot operations bits clear floor now mid new status touched list rest grafted touch r a
    over count =
    let t : Snapshot = extended s operations bits clear floor in
    record {
      count = sym a.stands.count ∙ count;
      each = λ j within. elim (cases_lt j (length r.now)) [
        | inl old ↦
            let less : j < length list = omega (arith, r.count) in
            get_or_append_left r.now a.more [] j old ∙ r.are t rest over j less (λ none.
            grafted.each j less ∙ sym (graft_stands h g grafting s operations bits clear floor j snapshot
            (omega (arith, grafted.count)) (λ l there e. none (rw e at (touch.each l there (omega arith))))))
        | inr young ↦
            let e : j ≡ length r.now + (j - length r.now) = omega arith in
            let below : j - length r.now < length a.more = omega (arith, length-append r.now a.more) in
            ap (λ (k : ℕ). get_or (r.now ++ a.more) k []) e ∙ get_or-append-add r.now a.more (j - length r.now) []
            ∙ a.are t rest over (j - length r.now) below
            ∙ ap (λ (k : ℕ). view_node h g t (k * 2 ^ height g) (height g)) (sym e)
      ];
    }

-- leaves of the tree are given new digests, and none is refused
pub in_place : {A E : Type 0} (r : Result A E) (P : E → Type 0) → IfErr r P → ((e : E) → P e → ⊥) → is_ok r ≡ true
in_place (Ok x) P why none = refl
in_place (Err e) P why none = absurd (none e why)

pub none_away : (leaves : ℕ) (list : List ℕ) → All (λ j. j < leaves) list → (boundary away : ℕ) → boundary ≡ 0
    → IsFirstAway leaves boundary list away → (leaves ≤ away) ⊎ (away < boundary) → ⊥
none_away leaves list all boundary away start first (inl past) =
    let here : get_or list first.index 0 < leaves = All-get_or (λ j. j < leaves) list first.index 0 first.within all in
    omega (arith, here, first.is)
none_away leaves list all boundary away start first (inr before) = omega arith

-- what the nodes of a snapshot's view tell of the trees that are kept
module _ {D : Type 0} (text : D → List ℕ) (h : HashFunction) (g : Grafting) (grafting : IsGrafting g) (m c : Kept D)
    (status : Retained) (kept : AreKept text h g m c status) (keeps_m : KeepsNodes text g.shape m)
    (keeps_c : KeepsNodes text g.shape c) (s : Snapshot) (count : m.leaves ≡ length s.operations)
    (nodes : AreNodes g.shape (height g) m.boundary (length s.operations) (view_node h g s)
    (seen_by text g.shape (height g) m c)) where
  told : (p a k : ℕ) (x : List ℕ) → IsNode g.shape p a k → p < size g.shape m.leaves
      → IsRetained g.shape (height g) m.boundary p k → option_map text (seen_in g.shape (height g) m c p) ≡ Some x
      → x ≡ view_node h g s a k
  told p a k x node within retained is =
      let e : Some x ≡ Some (view_node h g s a k) = sym is ∙ nodes.are p a k node (rw (← count) within) retained in cc

  valid : (p : ℕ) → p < size g.shape m.leaves → p ≤ size g.shape (2 ^ 62)
  valid p within =
      let most : size g.shape m.leaves ≤ size g.shape (2 ^ 62) =
      grows_at_most (size g.shape) grafting.laws.grows m.leaves (2 ^ 62) kept.grown.few in
      omega arith

  leaf : (a : ℕ) → m.boundary ≤ a → a < m.leaves → get_or kept.grown.list a [] ≡ view_node h g s a 0
  leaf a from l =
      let S = g.shape in
      let L = grafting.laws in
      let p : ℕ = S.position a 0 in
      let node : IsNode S p a 0 = record { aligned = omega arith; at = refl } in
      let within : p < size S m.leaves = (L.born m.leaves a 0 node.aligned).1 (omega (arith, (L.leaf a).1)) in
      let there : size S m.boundary ≤ p = behind S L m.boundary a 0 node.aligned from in
      let high : Height g = chunk_height g grafting.size in
      told p a 0 (get_or kept.grown.list a []) node within (inr there)
      (ap (option_map text) (joined_below S L (height g) (size S m.leaves) (kept_at S c.boundary c.pinned c.nodes)
      (kept_from S m) p a 0 within (valid p within) node (omega (arith, high.is)) ∙ kept_behind S m p there)
      ∙ keeps_m (plain_over h S) kept.grown.list kept.grown.stands p a 0 node there (rw (← kept.grown.stands.count) within))

  tree_told : map text m.pinned ≡ at_peaks (plain_over h g.shape (leaf_digests h (ungrafted g.shape) 0 s.operations)) 0
      (g.shape.peaks m.boundary) → IsOver text h g.shape m s.operations
  tree_told pinned =
      let S = g.shape in
      let T = ungrafted S in
      let n : length kept.grown.list ≡ length s.operations = sym kept.grown.stands.count ∙ count in
      over_other text h S grafting.laws m kept.grown.list (leaf_digests h T 0 s.operations) kept.grown.stands
      (n ∙ sym (length-leaf_digests h T 0 s.operations)) pinned
      (λ i from l. leaf i from l
      ∙ ap (λ (j : ℕ). h (be8 (S.position j 0) ++ get_or s.operations i [])) (let e : i ≡ 0 + i = omega arith in e)
      ∙ sym (get-leaf_digests h T 0 s.operations i (omega (arith, l, count))))

  graft : (j : ℕ) → j < c.leaves → get_or kept.list j [] ≡ view_node h g s (j * 2 ^ height g) (height g)
  graft j l =
      let S = g.shape in
      let L = grafting.laws in
      let at = chunk_node_at S L m.leaves (height g) j (omega (arith, l, kept.count)) in
      let p : ℕ = S.position (j * 2 ^ height g) (height g) in
      let q : ℕ = S.position j 0 in
      let node : IsNode S p (j * 2 ^ height g) (height g) = record { aligned = at.aligned; at = refl } in
      let over : IsNode S q j 0 = record { aligned = omega arith; at = refl } in
      let up : 0 + height g ≡ height g = omega arith in
      let covers : CoversSame S (height g) q p =
      record { first = j; height = 0; grafted = over; node = rw up node } in
      let inside : q < size S c.leaves = (L.born c.leaves j 0 over.aligned).1 (omega (arith, (L.leaf j).1)) in
      told p (j * 2 ^ height g) (height g) (get_or kept.list j []) node at.before (inl (omega arith))
      (ap (option_map text) (joined_above S L (height g) (size S m.leaves) (kept_at S c.boundary c.pinned c.nodes)
      (kept_from S m) p q at.before (valid p at.before) covers)
      ∙ list_kept S L text c keeps_c kept.unpruned (λ list k a. chunk_node h g list a k) kept.list kept.stands q j 0
      (rw (← kept.stands.count) inside) over)

  chunks_told : AreGraftedLeaves h g s kept.list
  chunks_told = record {
    count = sym kept.stands.count ∙ kept.count ∙ ap (graftable g) count;
    each = λ j l. graft j (omega (arith, l, kept.stands.count));
  }

-- the trees that are kept of a snapshot are over its operations and over its graftable chunks
pub trees_told : {D : Type 0} (text : D → List ℕ) (h : HashFunction) (g : Grafting) → IsGrafting g → (m c : Kept D)
    (status : Retained) (kept : AreKept text h g m c status) → KeepsNodes text g.shape m → KeepsNodes text g.shape c
    → (s : Snapshot) (floor : ℕ) (ops_root root : List ℕ) (witness : Witness)
    → StandsForSnapshot h g (seen_snapshot text g m c status floor ops_root root witness) s
    → IsOver text h g.shape m s.operations × AreGraftedLeaves h g s kept.list
trees_told text h g grafting m c status kept keeps_m keeps_c s floor ops_root root witness stands =
    let S = g.shape in
    let k : ℕ = height g in
    let n : ℕ = length s.operations in
    let place : pruned_operations g status ≡ m.boundary = sym kept.pruned.place in
    let nodes : AreNodes S k m.boundary n (view_node h g s) (seen_by text S k m c) =
    subst (λ (b : ℕ). AreNodes S k b n (view_node h g s) (seen_by text S k m c)) place
    (same_told S k (pruned_operations g status) n (view_node h g s) (told_by (seen_list text S k m c)) (seen_by text S k m c)
    (λ p. sym (list_told text S grafting.laws k m c p)) stands.nodes) in
    let pinned : map text m.pinned ≡ at_peaks (plain_over h S (leaf_digests h (ungrafted S) 0 s.operations)) 0
    (S.peaks m.boundary) =
    subst (λ (b : ℕ). map text m.pinned ≡ at_peaks (plain_over h S (leaf_digests h (ungrafted S) 0 s.operations)) 0
    (S.peaks b)) place stands.pinned in (
      tree_told text h g grafting m c status kept keeps_m keeps_c s stands.leaves nodes pinned,
      chunks_told text h g grafting m c status kept keeps_m keeps_c s stands.leaves nodes,
    )

-- as many bits as operations are appended, and no more is forgotten
pub still_pruned : {D : Type 0} (g : Grafting) → Laws g.shape → (old new : Kept D) (before after : Retained) (count : ℕ)
    → ArePruned g old before → new.leaves ≡ old.leaves + count → new.boundary ≡ old.boundary
    → after.pruned ≡ before.pruned → length after.bits ≡ length before.bits + count → ArePruned g new after
still_pruned g L old new before after count pruned leaves boundary same longer =
    let start : after.pruned * (8 * g.bytes) ≡ before.pruned * (8 * g.bytes) =
    ap (λ (p : ℕ). p * (8 * g.bytes)) same in
    record {
      all = omega (arith, start, longer, pruned.all, leaves);
      place = boundary ∙ pruned.place ∙ ap (λ (p : ℕ). p * 2 ^ height g) (sym same);
      few = omega (arith, same, pruned.few, graftable_grows g L old.leaves new.leaves (omega (arith, leaves)));
    }

-- ---- room is no part of what is kept

module _ {D : Type 0} (text : D → List ℕ) (m roomy : Kept D) (same : roomy ≡ record m { room = roomy.room }) where
  leaves : roomy.leaves ≡ m.leaves
  leaves = ap (λ (k : Kept D). k.leaves) same

  pub room_stands : (S : Shape) (N : NodesOver) (list : List (List ℕ)) → StandsFor text S N m list
      → StandsFor text S N roomy list
  room_stands S N list stands = subst (λ k. StandsFor text S N k list) (sym same)
      (record { count = stands.count; holds = stands.holds })

  pub room_grown : (h : HashFunction) (S : Shape) → IsGrown text h S m → IsGrown text h S roomy
  room_grown h S grown = record {
    few = omega (arith, leaves, grown.few);
    list = grown.list;
    stands = room_stands S (plain_over h S) grown.list grown.stands;
  }

pub room_kept : {D : Type 0} (text : D → List ℕ) (h : HashFunction) (g : Grafting) (m c m' c' : Kept D) (status : Retained)
    → m' ≡ record m { room = m'.room } → c' ≡ record c { room = c'.room } → AreKept text h g m c status
    → AreKept text h g m' c' status
room_kept {D} text h g m c m' c' status em ec kept =
    let n : m'.leaves ≡ m.leaves = ap (λ (k : Kept D). k.leaves) em in
    record {
      sized = kept.sized;
      grown = room_grown text m m' em h g.shape kept.grown;
      pruned = record {
        all = kept.pruned.all ∙ sym n;
        place = ap (λ (k : Kept D). k.boundary) em ∙ kept.pruned.place;
        few = rw n kept.pruned.few;
      };
      unpruned = ap (λ (k : Kept D). k.boundary) ec ∙ kept.unpruned;
      unpinned = ap (λ (k : Kept D). k.pinned) ec ∙ kept.unpinned;
      count = ap (λ (k : Kept D). k.leaves) ec ∙ kept.count ∙ ap (graftable g) (sym n);
      list = kept.list;
      stands = room_stands text c c' ec g.shape (λ list k a. chunk_node h g list a k) kept.list kept.stands;
    }

pub room_snapshot : {D : Type 0} (text : D → List ℕ) (g : Grafting) (m c m' c' : Kept D) (status : Retained) (floor : ℕ)
    (ops_root root : List ℕ) (witness : Witness) → m' ≡ record m { room = m'.room } → c' ≡ record c { room = c'.room }
    → seen_snapshot text g m' c' status floor ops_root root witness ≡ seen_snapshot text g m c status floor ops_root root witness
room_snapshot text g m c m' c' status floor ops_root root witness em ec =
    ap₂ (λ x y. seen_snapshot text g x y status floor ops_root root witness) em ec
