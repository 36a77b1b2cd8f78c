-- A store of each digest of a snapshot's grafted view serves each proof of its operations.
use Rattle.std.proofs.Common.{◌≡◌, ℕ, ◌<◌, List, length, Option, Some, None, IsSome, option_map, refl, sym, arith}
use Rattle.std.specs.List.{Contains}
use Rattle.std.proofs.lemmas.List.Elements.{All-weaker, All-contains_itself}
use Rattle.storage_codec.specs.Digests.{HashFunction}
use Rattle.storage_merkle.specs.Shape.{Laws, size}
use Rattle.storage_merkle.specs.Nodes.{IsNode}
use Rattle.storage_merkle.specs.Plans.{GreatestNodesArePlanned, planned}
use Rattle.storage_current.specs.CombinedViews.{AnswersAreTrue, AreAnswersOf, IsKeptOfBoth, IsOfSnapshot, ServesSnapshot, ServesRange, had_of_both}
use Rattle.storage_current.specs.GraftedTrees.{IsCoverable}
use Rattle.storage_current.specs.Laws.Grafting.{chunk_height}
use Rattle.storage_current.specs.Served.{held_at}
use Rattle.storage_current.specs.Snapshots.{Grafting, IsGrafting, Snapshot, IsSnapshot, height, view_node}
use Rattle.storage_current.proofs.PrunedViews.{coverable_had}

-- where a digest is answered there is one
some_of : {D : Type 0} (text : D → List ℕ) (o : Option D) (x : List ℕ) → option_map text o ≡ Some x → IsSome o
some_of text None x e = cc
some_of text (Some d) x e = refl

text_of : {D : Type 0} (text : D → List ℕ) (o : Option D) (x : List ℕ) (d : D) → option_map text o ≡ Some x
    → o ≡ Some d → text d ≡ x
text_of text None x d e f = cc
text_of text (Some d') x d e f = cc

held : {D : Type 0} (o : Option D) → IsSome o → (d : D) × (Some d ≡ o)
held None e = cc
held (Some d) e = (d, refl)

module _ {D : Type 0} (text : D → List ℕ) (h : HashFunction) (g : Grafting) (laws : Laws g.shape)
    (greatest : GreatestNodesArePlanned) (s : Snapshot) (node : ℕ → Option D) where
  -- a planned position is one of the tree
  inside : (low high p : ℕ) → Contains (planned g.shape (length s.operations) low high) p
      → (a : ℕ) × (k : ℕ) × IsNode g.shape p a k × (p < size g.shape (length s.operations))
  inside low high p has =
      let site = (greatest g.shape laws (length s.operations) low high p).0 has in
      let within = site.3.tree.inside in
      let at = site.2.at in
      (site.0, site.1, site.2, omega (arith, within, at))

  -- true answers are a snapshot's, whichever of its nodes are answered
  pub served_true : AnswersAreTrue text g.shape (length s.operations) (view_node h g s) node
      → IsOfSnapshot text h g (size g.shape (length s.operations)) node s
  served_true true_of low high floor status ops_root rest floor_is root_is = record {
    tree = refl;
    parts = record {
      count = refl;
      bits = rest;
      floor_is = floor_is;
      ops_root_is = root_is;
      nodes = λ p a k d has is at. true_of p a k d (inside low high p has).3 is (sym at);
    };
  }

  -- true answers at the planned positions serve a range
  serves : (low high : ℕ) → AnswersAreTrue text g.shape (length s.operations) (view_node h g s) node
      → ((p : ℕ) → Contains (planned g.shape (length s.operations) low high) p → IsSome (node p))
      → ServesRange text h g (size g.shape (length s.operations)) node s low high
  serves low high true_of there floor status ops_root rest floor_is root_is =
      let ps = planned g.shape (length s.operations) low high in (
        All-weaker (Contains ps) (λ p. (d : D) × held_at node p (Some d)) (λ p has. held (node p) (there p has)) ps
            (All-contains_itself ps),
        served_true true_of low high floor status ops_root rest floor_is root_is,
      )

  pub store_of_view : AreAnswersOf text g.shape (length s.operations) (view_node h g s) node
      → ServesSnapshot text h g (size g.shape (length s.operations)) node s
  store_of_view are low high =
      serves low high
      (λ p a k digest within is at. text_of text (node p) (view_node h g s a k) digest (are p a k within is) at)
      (λ p has. let i = inside low high p has in
      some_of text (node p) (view_node h g s i.0 i.1) (are p i.0 i.1 i.3 i.2))

-- what is planned of a range, where both trees keep enough to cover it
pub planned_serve : {D : Type 0} (digest : List ℕ → D) (text : D → List ℕ) (h : HashFunction) (g : Grafting)
    (greatest : GreatestNodesArePlanned) (grafting : IsGrafting g) (s : Snapshot) (snapshot : IsSnapshot s)
    (kept operations : ℕ → Option D) (low high : ℕ)
    → AnswersAreTrue text g.shape (length s.operations) (view_node h g s) (had_of_both digest text g s kept operations)
    → ((p a k : ℕ) → Contains (planned g.shape (length s.operations) low high) p → IsNode g.shape p a k
    → IsCoverable (IsKeptOfBoth g.shape (height g) kept operations) (height g) k a)
    → ServesRange text h g (size g.shape (length s.operations)) (had_of_both digest text g s kept operations) s low high
planned_serve digest text h g greatest grafting s snapshot kept operations low high true_of have =
    let node = had_of_both digest text g s kept operations in
    let level = (chunk_height g grafting.size).is in
    serves text h g grafting.laws greatest s node low high true_of
    (λ p has.
    let i = inside text h g grafting.laws greatest s node low high p has in
    (coverable_had g.shape grafting.laws digest text (height g) (length s.operations) p i.0 i.1 kept operations
    (omega (arith, level)) snapshot.few i.3 i.2).1 (have p i.0 i.1 has i.2))
