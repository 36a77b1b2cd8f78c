-- What a grafted root that is calculated from pins means.
use Rattle.std.proofs.Common.{◌≡◌, ◌⊎◌, ℕ, ◌+◌, ◌^◌, ◌<◌, ◌≤◌, ◌++◌, List, [], ◌∷◌, length, map, Option, Some, None, IsSome, is_some, option_map, unwrap_or, refl, sym, ap, ap₂, ◌∙◌, arith}
use Rattle.std.proofs.lemmas.List.{length-map}
use Rattle.storage_codec.specs.Digests.{HashFunction, IsSized}
use Rattle.storage_merkle.specs.declared.merkle.bagging.Bagging.{Bagging}
use Rattle.storage_merkle.specs.declared.merkle.bagging.Bagging.TheVariants.{BackwardFold}
use Rattle.storage_merkle.specs.Calc.{eval}
use Rattle.storage_merkle.specs.Hashing.{root_of}
use Rattle.storage_merkle.specs.Nodes.{IsNode}
use Rattle.storage_merkle.specs.RangeProofs.{AreDigests}
use Rattle.storage_merkle.specs.Shape.{Shape, Laws, size}
use Rattle.storage_merkle.specs.Trees.{part, peaks_of, places, root_head, tree_root, ungrafted}
use Rattle.storage_merkle.specs.Laws.Hashing.{eval-peaks}
use Rattle.storage_merkle.specs.Laws.Peaks.{peak_node}
use Rattle.storage_current.specs.CombinedViews.{AnswersAreTrue}
use Rattle.storage_current.specs.Grafted.{grafted_over}
use Rattle.storage_current.specs.GraftedTrees.{IsPeak, KeptChunks}
use Rattle.storage_current.specs.NodeLists.{ArePeaksHad, ArePeaksTold}
use Rattle.storage_current.specs.Pins.{AreTold, HavePins, IsRootOfTrue, MeansPins, PinsAreBound, had_of_view, is_told, kept_texts, low_texts, told_bag, told_string, told_values}
use Rattle.storage_current.specs.Snapshots.{Grafting, IsGrafting, Snapshot, IsSnapshot, aligned, aligned_of, content, graftable, grafted_root_of, height, view, view_node}
use Rattle.storage_current.proofs.PinRoots.{peaks_calculated, pins_there}
use Rattle.storage_current.proofs.PinSites.{has_of}
use Rattle.storage_current.proofs.Roots.{root_from}

told_of : {D : Type 0} (text : D → List ℕ) (o : Option D) (x : List ℕ) → IsSome o → ((d : D) → o ≡ Some d → text d ≡ x)
    → option_map text o ≡ Some x
told_of text None x some f = absurd (cc)
told_of text (Some d) x some f = ap Some (f d refl)

text_wide : {D : Type 0} (text : D → List ℕ) (d : ℕ) (none : List ℕ) → length none ≡ d → ((x : D) → length (text x) ≡ d)
    → (o : Option D) → length (unwrap_or (option_map text o) none) ≡ d
text_wide text d none e sized None = e
text_wide text d none e sized (Some x) = sized x

texts_wide : {D : Type 0} (text : D → List ℕ) (d : ℕ) → ((x : D) → length (text x) ≡ d) → (xs : List D)
    → AreDigests d (map text xs)
texts_wide text d sized [] = tt
texts_wide text d sized (x ∷ xs) = (sized x, texts_wide text d sized xs)

module _ {D : Type 0} (text : D → List ℕ) (h : HashFunction) (g : Grafting) (L : Laws g.shape) (n floor i : ℕ)
    (inactive : i ≡ aligned g.shape n floor (height g)) (b : Bagging) (backward : b ≡ BackwardFold)
    (ds : List (List ℕ)) (root : List ℕ) (is : root ≡ root_of h (ungrafted g.shape) b n i ds) where
  -- of digests that are a snapshot's
  pub own_root : (had : ℕ → Option D) → ArePeaksHad g.shape n had
      → ((digest_of : ℕ → ℕ → List ℕ) → ArePeaksTold g.shape n digest_of (λ p. option_map text (had p))
      → ds ≡ map (λ p. digest_of p.first p.height) (places 0 (g.shape.peaks n))) → IsRootOfTrue h text g n floor had root
  own_root had all digests s snapshot count floor_is are =
      let S = g.shape in
      let m = length s.operations in
      let peaks : ArePeaksTold S n (view_node h g s) (λ p. option_map text (had p)) = λ a k peak.
      (let node = peak_node S L n a k (has_of (S.peaks n) 0 a k peak) in
      told_of text (had (S.position a k)) (view_node h g s a k) (all a k peak)
      (λ d found. are (S.position a k) a k d node.1 (record { aligned = node.0; at = refl }) found)) in
      let whole = root_from h S (grafted_over (height g) (graftable g m)) (content h g s) n i b ds root backward (sym count)
      (digests (view_node h g s) peaks) is in
      let same : i ≡ aligned_of h g s = inactive ∙ ap₂ (λ x y. aligned S x y (height g)) count floor_is in
      whole ∙ ap (tree_root h (view g m) BackwardFold (content h g s)) same

  -- of pins
  pub bound_root : PinsAreBound → (d : ℕ) → (d ≡ 32) ⊎ (d ≡ 64) → IsSized d h → ((x : D) → length (text x) ≡ d)
      → IsGrafting g → n ≤ 2 ^ 62 → i ≤ length (g.shape.peaks n) → (digest : List ℕ → D)
      → ((x : List ℕ) → text (digest x) ≡ h x) → (t : KeptChunks D) (below : ℕ → Option D)
      → length t.pinned ≡ length (g.shape.peaks t.pruned) → t.pruned ≤ graftable g n
      → ArePeaksHad g.shape n (had_of_view digest text g n t below) → ((digest_of : ℕ → ℕ → List ℕ)
      → ArePeaksTold g.shape n digest_of (λ p. option_map text (had_of_view digest text g n t below p))
      → ds ≡ map (λ p. digest_of p.first p.height) (places 0 (g.shape.peaks n)))
      → MeansPins h text g n floor t below root
  bound_root bound d width sized text_sized grafting few peaks digest told t below count within all digests s snapshot root_is =
      let S = g.shape in
      let kept = kept_texts text S t in
      let low = low_texts h text S below in
      let T = view g n in
      let v = told_values h g kept low in
      let cut = is_told h g kept low in
      let calculated = digests (λ a k. eval h v (part T cut (record { first = a; height = k })))
      (peaks_calculated digest text h told g L n few t below all) in
      let string : root ≡ h (told_string h g kept low n i) =
      is ∙ ap₂ (λ c xs. root_of h (ungrafted S) c n i xs) backward calculated
      ∙ ap (λ x. h (root_head T BackwardFold n i ++ x)) (sym (eval-peaks h v BackwardFold i (part T cut) (peaks_of T n))) in
      let are : AreTold d g t.pruned (map text t.pinned) (map text t.leaves) low = record {
        count = length-map t.pinned text ∙ count;
        pinned = texts_wide text d text_sized t.pinned;
        behind = texts_wide text d text_sized t.leaves;
        below = λ a k. text_wide text d (h []) (sized []) text_sized (below (S.position a k));
      } in
      rw (← inactive) (bound d h width sized g grafting t.pruned n i (map text t.pinned) (map text t.leaves) low are
      (pins_there digest text h told g L n few t below all within) few peaks s snapshot (sym string ∙ sym root_is))
