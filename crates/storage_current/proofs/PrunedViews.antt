-- A tree over chunks that keeps pins and leaves alone and a tree over the operations, read as one.
use Rattle.std.proofs.Common.{◌≡◌, ℕ, zero, suc, ◌+◌, ◌-◌, ◌*◌, ◌/◌, ◌<◌, ◌≤◌, ◌^◌, inl, inr, List, [], length, map, Option, Some, None, IsSome, option_map, refl, sym, ap, ap₂, ◌∙◌, arith}
use Rattle.std.specs.Option.{is_some}
use Rattle.std.proofs.lemmas.Bool.{cases_lt}
use Rattle.std.proofs.lemmas.Nat.{shl-shr, pow-add}
use Rattle.std.proofs.Math.Nat.{add-mul}
use Rattle.storage_codec.specs.Digests.{HashFunction}
use Rattle.storage_merkle.specs.Shape.{Shape, Laws, size}
use Rattle.storage_merkle.specs.Nodes.{IsNode}
use Rattle.storage_merkle.specs.Laws.Multiples.{in_units}
use Rattle.storage_merkle.specs.Laws.Shape.{grows_at_most, covers_down}
use Rattle.storage_current.specs.Combined.{first_at, height_at}
use Rattle.storage_current.specs.CombinedViews.{AnswersAreTrue, AreAnswersOf, AreFirstGraftedLeaves, EachIsCoverable, IsKeptOfBoth, chunk_node, grafted_node}
use Rattle.storage_current.specs.GraftedTrees.{IsCoverable, IsHashedOver, IsKeptIn, KeptChunks, Keeps, join_over, rebuilt, regrafted, tree_at}
use Rattle.storage_current.specs.PrunedViews.{CoverableNodesAreHad}
use Rattle.storage_current.specs.Snapshots.{Grafting, Snapshot, graftable}
use Rattle.storage_current.proofs.CombinedViews.{over_view}
use Rattle.storage_current.proofs.Joined.{first_is, height_is, joined_below, joined_above}
use Rattle.storage_current.proofs.Rebuilt.{covered_some, some_covered, rebuilt_seen, rebuilt_true}
use Rattle.storage_current.proofs.Pinned.{tree_at-map, tree_true, kept_within}

module _ (S : Shape) (L : Laws S) {D : Type 0} (digest : List ℕ → D) (text : D → List ℕ) where
  -- what can be had at a node's position is what is rebuilt of the node
  pub regrafted_is : (g : ℕ) (kept : ℕ → Option D) (q a k : ℕ) → IsNode S q a k
      → regrafted digest text S g kept q ≡ rebuilt S (join_over digest text S g) kept k a
  regrafted_is g kept q a k n =
      let h : height_at S q ≡ k = height_is S L q a k n in
      ap (λ j. rebuilt S (join_over digest text S g) kept j (first_at S j q)) h
      ∙ ap (rebuilt S (join_over digest text S g) kept k) (first_is S L q a k n)

  -- ---- coverable nodes

  -- a node of the leaves' own height is coverable just where it is kept
  at_chunk : (P : ℕ → ℕ → Type 0) (g b k : ℕ) → k ≡ g → P b k → IsCoverable P g k b
  at_chunk P g b zero e p = p
  at_chunk P g b (suc k) e p = inl p

  chunk_at : (P : ℕ → ℕ → Type 0) (g b k : ℕ) → k ≡ g → IsCoverable P g k b → P b k
  chunk_at P g b zero e c = c
  chunk_at P g b (suc k) e (inl p) = p
  chunk_at P g b (suc k) e (inr c) = absurd (let l : g < suc k = c.0 in omega arith)

  module _ (g : ℕ) (one : 1 ≤ g) (chunks operations : ℕ → Option D) where
    -- a node over chunks, and the one over the same leaves
    kept_over : (j a k b : ℕ) → k ≡ j + g → b ≡ a * 2 ^ g
        → (IsKeptIn S chunks a j → IsKeptOfBoth S g chunks operations b k)
        × (IsKeptOfBoth S g chunks operations b k → IsKeptIn S chunks a j)
    kept_over j a k b ek eb =
        let e : b / 2 ^ g ≡ a = ap (λ x. x / 2 ^ g) eb ∙ shl-shr a g in
        let f : k - g ≡ j = omega arith in
        let same : is_some (chunks (S.position (b / 2 ^ g) (k - g))) ≡ is_some (chunks (S.position a j)) =
        ap₂ (λ x y. is_some (chunks (S.position x y))) e f in (
          (λ i. inr (omega arith, same ∙ i)),
          (λ i. elim i [
            | inl low ↦ absurd (let l : k < g = low.0 in omega arith)
            | inr high ↦ sym same ∙ high.1
          ]),
        )

    over_cover : (j a k b : ℕ) → k ≡ j + g → b ≡ a * 2 ^ g
        → (IsCoverable (IsKeptIn S chunks) 0 j a → IsCoverable (IsKeptOfBoth S g chunks operations) g k b)
        × (IsCoverable (IsKeptOfBoth S g chunks operations) g k b → IsCoverable (IsKeptIn S chunks) 0 j a)
    over_cover zero a k b ek eb =
        let e : k ≡ g = omega arith in
        let both = kept_over zero a k b ek eb in (
          (λ c. at_chunk (IsKeptOfBoth S g chunks operations) g b k e (both.0 c)),
          (λ c. both.1 (chunk_at (IsKeptOfBoth S g chunks operations) g b k e c)),
        )
    over_cover (suc j) a zero b ek eb = absurd (omega arith)
    over_cover (suc j) a (suc k) b ek eb =
        let less : k ≡ j + g = omega arith in
        let both = kept_over (suc j) a (suc k) b ek eb in
        let left = over_cover j a k b less eb in
        let half : b + 2 ^ k ≡ (a + 2 ^ j) * 2 ^ g =
        ap₂ (λ x y. x + y) eb (ap (λ x. 2 ^ x) less ∙ pow-add 2 j g) ∙ sym (add-mul a (2 ^ j) (2 ^ g)) in
        let right = over_cover j (a + 2 ^ j) k (b + 2 ^ k) less half in (
          (λ c. elim c [
            | inl p ↦ inl (both.0 p)
            | inr h ↦ inr (omega arith, left.0 h.1, right.0 h.2)
          ]),
          (λ c. elim c [
            | inl p ↦ inl (both.1 p)
            | inr h ↦ inr (omega arith, left.1 h.1, right.1 h.2)
          ]),
        )

    own_low : (k a : ℕ) → k < g → IsKeptOfBoth S g chunks operations a k → IsKeptIn S operations a k
    own_low k a l (inl low) = low.1
    own_low k a l (inr high) = absurd (let m : g ≤ k = high.0 in omega arith)

    -- below the chunks' nodes a node is coverable just where it is kept
    low_take : (k a : ℕ) → k < g → IsCoverable (IsKeptOfBoth S g chunks operations) g k a → IsKeptIn S operations a k
    low_take zero a l c = own_low zero a l c
    low_take (suc k) a l (inl p) = own_low (suc k) a l p
    low_take (suc k) a l (inr c) = absurd (let m : g < suc k = c.0 in omega arith)

    low_give : (k a : ℕ) → k < g → IsKeptIn S operations a k → IsCoverable (IsKeptOfBoth S g chunks operations) g k a
    low_give zero a l i = inl (l, i)
    low_give (suc k) a l i = inl (inl (l, i))

  pub coverable_had : CoverableNodesAreHad digest text S
  coverable_had g n p a k chunks operations one few within node =
      let most : size S n ≤ size S (2 ^ 62) = grows_at_most (size S) L.grows n (2 ^ 62) few in
      let valid : p ≤ size S (2 ^ 62) = omega arith in
      let here : S.position a k ≡ p = node.at in
      elim (cases_lt k g) [
        | inl low ↦
            let read = ap is_some (joined_below S L g (size S n) (regrafted digest text S g chunks) operations p a k within
            valid node low) in
            let at = ap (λ q. is_some (operations q)) here in (
              (λ i. low_give g one chunks operations k a low (at ∙ sym read ∙ i)),
              (λ c. read ∙ sym at ∙ low_take g one chunks operations k a low c),
            )
        | inr high ↦
            let u = in_units a k g high node.aligned in
            let q = S.position (a / 2 ^ g) (k - g) in
            let over : IsNode S q (a / 2 ^ g) (k - g) = record { aligned = u.1; at = refl } in
            let read = ap is_some (joined_above S L g (size S n) (regrafted digest text S g chunks) operations p q within
            valid (covers_down S L a k g p q node high refl)
            ∙ regrafted_is g chunks q (a / 2 ^ g) (k - g) over) in
            let e : k ≡ k - g + g = omega arith in
            let up = over_cover g one chunks operations (k - g) (a / 2 ^ g) k a e (sym u.0) in (
              (λ i. up.0 (some_covered S (join_over digest text S g) chunks (k - g) (a / 2 ^ g) (sym read ∙ i))),
              (λ c. read ∙ covered_some S (join_over digest text S g) chunks (k - g) (a / 2 ^ g) (up.1 c)),
            )
      ]

-- a digest of an option of which each is this one
some_is : {D : Type 0} (text : D → List ℕ) (o : Option D) (x : List ℕ) → IsSome o
    → ((d : D) → o ≡ Some d → text d ≡ x) → option_map text o ≡ Some x
some_is text None x some each = absurd (cc)
some_is text (Some d) x some each = ap Some (each d refl)

told_true : {D : Type 0} (text : D → List ℕ) (o : Option D) (x y : List ℕ) → option_map text o ≡ Some x
    → ((d : D) → o ≡ Some d → text d ≡ y) → x ≡ y
told_true text None x y told each = cc
told_true text (Some d) x y told each = let e : text d ≡ x = cc in sym e ∙ each d refl

-- what can be had of nodes that are true is true
module _ {D : Type 0} (digest : List ℕ → D) (text : D → List ℕ) (h : HashFunction)
    (told : (x : List ℕ) → text (digest x) ≡ h x) (S : Shape) (L : Laws S) (g n : ℕ) (node : ℕ → ℕ → List ℕ)
    (halves : IsHashedOver h S g node) (kept : ℕ → Option D) (true_of : AnswersAreTrue text S n node kept) where
  pub regrafted_true : AnswersAreTrue text S n node (regrafted digest text S g kept)
  regrafted_true p a k d within at is =
      let over = join_over digest text S g in
      let under = join_over h (λ x. x) S g in
      let seen = rebuilt_seen S text over under (λ b j l r. told _) kept k a in
      let here : rebuilt S under (λ q. option_map text (kept q)) k a ≡ Some (text d) =
      sym seen ∙ ap (option_map text) (sym (regrafted_is S L digest text g kept p a k at) ∙ is) in
      rebuilt_true S under (λ q. option_map text (kept q)) (λ j b. node b j) (λ j b. halves b j) (size S n)
      (λ j b e al low was. told_true text (kept (S.position b j)) e (node b j) was
      (λ x had. true_of (S.position b j) b j x low (record { aligned = al; at = refl }) had))
      L k a (text d) at.aligned (omega (arith, at.at)) here

  -- and where each node is coverable all are had
  pub regrafted_each : EachIsCoverable S n kept → AreAnswersOf text S n node (regrafted digest text S g kept)
  regrafted_each each p a k within at =
      some_is text (regrafted digest text S g kept p) (node a k)
      (ap is_some (regrafted_is S L digest text g kept p a k at)
      ∙ covered_some S (join_over digest text S g) kept k a (each p a k within at))
      (λ d is. regrafted_true p a k d within at is)

-- what is kept of the first of a snapshot's graftable chunks is of its grafted view
pub keeps_true : {D : Type 0} (text : D → List ℕ) (h : HashFunction) (g : Grafting) → Laws g.shape → (s : Snapshot)
    (leaves : List (List ℕ)) → AreFirstGraftedLeaves h g s leaves → (t : KeptChunks D)
    → Keeps text g.shape (λ list k a. chunk_node h g list a k) t leaves
    → AnswersAreTrue text g.shape (graftable g (length s.operations)) (grafted_node h g s)
    (tree_at g.shape t.pruned t.pinned t.leaves)
keeps_true text h g L s leaves grafted t keeps p a k d within node is =
    let S = g.shape in
    let here : tree_at S t.pruned t.pinned t.leaves (S.position a k) ≡ Some d =
    ap (tree_at S t.pruned t.pinned t.leaves) node.at ∙ is in
    tree_true S L (λ j b. chunk_node h g leaves b j) leaves t.pruned (map text t.pinned) (map text t.leaves)
    (λ b. refl) keeps.pins keeps.leaves a k (text d) node.aligned
    (sym (tree_at-map text S t.pruned t.pinned t.leaves (S.position a k)) ∙ ap (option_map text) here)
    ∙ over_view h g s leaves grafted k a
    (omega (arith, keeps.count, kept_within S L t.pruned t.pinned t.leaves a k d node.aligned here))
