-- Two trees that are read as one are a snapshot's grafted view.
use Rattle.std.proofs.Common.{◌≡◌, ℕ, zero, suc, ◌+◌, ◌-◌, ◌*◌, ◌/◌, ◌^◌, ◌<◌, ◌≤◌, ◌++◌, List, length, Option, Some, option_map, refl, sym, ap, ap₂, ◌∙◌, arith, ◌⊎◌, inl, inr, pow_pos}
use Rattle.std.proofs.lemmas.Bool.{cases_lt}
use Rattle.std.proofs.lemmas.Nat.{pow-add}
use Rattle.std.proofs.Math.Nat.{add-mul}
use Rattle.storage_codec.specs.Digests.{HashFunction}
use Rattle.storage_merkle.specs.Shape.{Shape, Laws, size}
use Rattle.storage_merkle.specs.Nodes.{IsNode, CoversSame}
use Rattle.storage_merkle.specs.Laws.Multiples.{pow_two, in_units}
use Rattle.storage_merkle.specs.Pace.{ChunksKeepPace}
use Rattle.storage_merkle.specs.Laws.Shape.{grows_at_most}
use Rattle.storage_merkle.specs.Calc.{be8}
use Rattle.storage_current.specs.CombinedViews.{AnswersAreTrue, AreAnswersOf, AreFirstGraftedLeaves, AreGraftedLeaves, both, chunk_node, grafted_node, operations_node}
use Rattle.storage_current.specs.GraftedTrees.{IsHashedOver}
use Rattle.storage_current.specs.Laws.Grafting.{graftable_by_birth}
use Rattle.storage_current.specs.Snapshots.{Grafting, IsGrafting, height, graftable, graftable_at, Snapshot, IsSnapshot, view_node}
use Rattle.storage_current.proofs.Joined.{joined_below, joined_above}
use Rattle.storage_current.proofs.NodeSteps.{view_low, view_above}

module _ (h : HashFunction) (g : Grafting) (s : Snapshot) where
  -- over chunks a node of the view is hashed from its halves
  pub grafted_halves : IsHashedOver h g.shape (height g) (grafted_node h g s)
  grafted_halves a k =
      let less : suc k + height g - 1 ≡ k + height g = omega arith in
      let right : (a + 2 ^ k) * 2 ^ height g ≡ a * 2 ^ height g + 2 ^ (k + height g) =
      add-mul a (2 ^ k) (2 ^ height g) ∙ ap (λ x. a * 2 ^ height g + x) (sym (pow-add 2 k (height g))) in
      rw (right, ← less) (view_above h g s (a * 2 ^ height g) (suc k + height g) (omega arith))

  -- a node over the first of them is the view's
  pub over_view : (leaves : List (List ℕ)) → AreFirstGraftedLeaves h g s leaves → (k a : ℕ) → a + 2 ^ k ≤ length leaves
      → chunk_node h g leaves a k ≡ grafted_node h g s a k
  over_view leaves grafted zero a l = let e : zero + height g ≡ height g = omega arith in
      rw e (grafted.each a (omega (arith, pow_pos 0)))
  over_view leaves grafted (suc k) a l =
      let two = pow_two k in
      ap₂ (λ x y. h (be8 (g.shape.position (a * 2 ^ height g) (suc k + height g)) ++ (x ++ y)))
      (over_view leaves grafted k a (omega arith)) (over_view leaves grafted k (a + 2 ^ k) (omega arith))
      ∙ sym (grafted_halves a k)

  -- all of them are the first
  pub first_of_all : (leaves : List (List ℕ)) → AreGraftedLeaves h g s leaves → AreFirstGraftedLeaves h g s leaves
  first_of_all leaves grafted = record { few = omega (arith, grafted.count); each = grafted.each }

-- what both trees as one have at a node of the view: below the chunks' height the operations' node, else the node over chunks
pub record IsBelow {D : Type 0} (h : HashFunction) (g : Grafting) (s : Snapshot) (chunks operations : ℕ → Option D)
    (p a k : ℕ) : Type 0 where
  pub low : k < height g
  pub read : both g s chunks operations p ≡ operations p
  pub same : operations_node h g s a k ≡ view_node h g s a k

pub record IsAbove {D : Type 0} (h : HashFunction) (g : Grafting) (s : Snapshot) (chunks operations : ℕ → Option D)
    (p a k : ℕ) : Type 0 where
  pub position : ℕ
  pub first : ℕ
  pub over : ℕ
  pub node : IsNode g.shape position first over
  pub within : position < size g.shape (graftable g (length s.operations))
  pub read : both g s chunks operations p ≡ chunks position
  pub same : grafted_node h g s first over ≡ view_node h g s a k

-- the node over chunks that covers the operations of a node at least as high as theirs
pub record Cover (S : Shape) (g count p a k : ℕ) : Type 0 where
  pub position : ℕ
  pub first : ℕ
  pub over : ℕ
  pub node : IsNode S position first over
  pub covers : CoversSame S g position p
  pub within : position < size S count
  pub ends : first + 2 ^ over ≤ count
  pub starts : first * 2 ^ g ≡ a
  pub high : over + g ≡ k

-- where its operations have it, so have their graftable chunks
pub cover : (S : Shape) → Laws S → (g n count : ℕ) → ChunksKeepPace S g → count ≡ graftable_at S g n → (p a k : ℕ)
    → IsNode S p a k → p < size S n → g ≤ k → Cover S g count p a k
cover S L g n count pace all p a k node within m =
    let u = in_units a k g m node.aligned in
    let e : k - g + g ≡ k = omega arith in
    let here : S.position a k < size S n = omega (arith, node.at) in
    let born : S.birth a k ≤ n = (L.born n a k node.aligned).0 here in
    let early : S.birth (a / 2 ^ g) (k - g) ≤ graftable_at S g n =
    pace n (graftable_at S g n) (a / 2 ^ g) (k - g) (graftable_by_birth S L g n) (rw (u.0, e) born) in
    let early' : S.birth (a / 2 ^ g) (k - g) ≤ count = omega arith in
    record {
      position = S.position (a / 2 ^ g) (k - g);
      first = a / 2 ^ g;
      over = k - g;
      node = record { aligned = u.1; at = refl };
      covers = record {
        first = a / 2 ^ g;
        height = k - g;
        grafted = record { aligned = u.1; at = refl };
        node = rw (u.0, e) node;
      };
      within = (L.born count (a / 2 ^ g) (k - g) u.1).1 early';
      ends = omega (arith, L.late (a / 2 ^ g) (k - g));
      starts = u.0;
      high = e;
    }

module _ (h : HashFunction) (g : Grafting) (pace : ChunksKeepPace g.shape (height g)) (grafting : IsGrafting g)
    (s : Snapshot) (snapshot : IsSnapshot s) {D : Type 0} (chunks operations : ℕ → Option D) where
  above : (p a k : ℕ) → p < size g.shape (length s.operations) → p ≤ size g.shape (2 ^ 62) → IsNode g.shape p a k
      → height g ≤ k → IsAbove h g s chunks operations p a k
  above p a k within valid node m =
      let S = g.shape in
      let L = grafting.laws in
      let n = length s.operations in
      let c = cover S L (height g) n (graftable g n) pace refl p a k node within m in
      record {
        position = c.position;
        first = c.first;
        over = c.over;
        node = c.node;
        within = c.within;
        read = joined_above S L (height g) (size S n) chunks operations p c.position within valid c.covers;
        same = ap₂ (view_node h g s) c.starts c.high;
      }

  joined_at : (p a k : ℕ) → p < size g.shape (length s.operations) → IsNode g.shape p a k
      → IsBelow h g s chunks operations p a k ⊎ IsAbove h g s chunks operations p a k
  joined_at p a k within node =
      let S = g.shape in
      let L = grafting.laws in
      let n = length s.operations in
      let most : size S n ≤ size S (2 ^ 62) = grows_at_most (size S) L.grows n (2 ^ 62) snapshot.few in
      let valid : p ≤ size S (2 ^ 62) = omega arith in
      elim (cases_lt k (height g)) [
        | inl low ↦ inl (record {
          low = low;
          read = joined_below S L (height g) (size S n) chunks operations p a k within valid node low;
          same = sym (view_low h g s k a low);
        })
        | inr high ↦ inr (above p a k within valid node high)
      ]

  module _ (text : D → List ℕ) where
    -- at one node
    pub joined_view_at : AreAnswersOf text g.shape (graftable g (length s.operations)) (grafted_node h g s) chunks
        → (p a k : ℕ) → p < size g.shape (length s.operations) → IsNode g.shape p a k
        → (k < height g → option_map text (operations p) ≡ Some (operations_node h g s a k))
        → option_map text (both g s chunks operations p) ≡ Some (view_node h g s a k)
    joined_view_at over p a k within node below = elim (joined_at p a k within node) [
      | inl it ↦ ap (option_map text) it.read ∙ below it.low ∙ ap Some it.same
      | inr it ↦ ap (option_map text) it.read ∙ over it.position it.first it.over it.within it.node ∙ ap Some it.same
    ]

    pub joined_view : AreAnswersOf text g.shape (graftable g (length s.operations)) (grafted_node h g s) chunks
        → AreAnswersOf text g.shape (length s.operations) (operations_node h g s) operations
        → AreAnswersOf text g.shape (length s.operations) (view_node h g s) (both g s chunks operations)
    joined_view over below p a k within node = joined_view_at over p a k within node (λ low. below p a k within node)

    pub joined_true : AnswersAreTrue text g.shape (graftable g (length s.operations)) (grafted_node h g s) chunks
        → AnswersAreTrue text g.shape (length s.operations) (operations_node h g s) operations
        → AnswersAreTrue text g.shape (length s.operations) (view_node h g s) (both g s chunks operations)
    joined_true over below p a k digest within node is = elim (joined_at p a k within node) [
      | inl it ↦ below p a k digest within node (sym it.read ∙ is) ∙ it.same
      | inr it ↦ over it.position it.first it.over digest it.within it.node (sym it.read ∙ is) ∙ it.same
    ]
