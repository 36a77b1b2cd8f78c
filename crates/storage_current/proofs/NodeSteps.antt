-- The digests of nodes, plain and as the grafted view has them, from those of their children.
use Rattle.std.proofs.Common.{◌≡◌, ℕ, zero, suc, ◌+◌, ◌-◌, ◌*◌, ◌/◌, ◌%◌, ◌^◌, ◌<◌, ◌≤◌, ◌++◌, List, length, true, false, ◌&&◌, eqb, ltb, refl, sym, ap, ap₂, ◌∙◌, subst, arith, eq-eqb, ne_eqb, lt-ltb}
use Rattle.storage_codec.specs.Digests.{HashFunction}
use Rattle.storage_merkle.specs.Shape.{Laws, Inside}
use Rattle.storage_merkle.specs.Laws.Multiples.{quotient}
use Rattle.storage_merkle.specs.Calc.{be8, grafted_digest}
use Rattle.storage_merkle.specs.Trees.{Layout, ungrafted, Content, listed, node_calc, never, plain, tree_node}
use Rattle.storage_merkle.specs.Hashing.{join_digest}
use Rattle.storage_merkle.specs.Laws.Hashing.{eval-join}
use Rattle.storage_bitmap.specs.Chunks.{chunk}
use Rattle.storage_current.specs.Grafted.{grafted_over}
use Rattle.storage_current.specs.Snapshots.{Grafting, height, graftable, view, Snapshot, content, view_node}
use Rattle.storage_current.specs.Laws.Grafting.{graftable_by_birth}

-- a node from its children
pub tree_join : (h : HashFunction) (T : Layout) (content : Content) (a k : ℕ) → 1 ≤ k
    → tree_node h T content a k ≡ join_digest h T content.chunk a k (tree_node h T content a (k - 1))
    (tree_node h T content (a + 2 ^ (k - 1)) (k - 1))
tree_join h T content a zero one = absurd (omega arith)
tree_join h T content a (suc k) one =
    let e : suc k - 1 ≡ k = omega arith in
    rw e (eval-join h (plain h content) T a (suc k) (node_calc T never k a) (node_calc T never k (a + 2 ^ k)))

-- where no chunk is grafted
pub tree_pair : (h : HashFunction) (T : Layout) (content : Content) (a k : ℕ) → 1 ≤ k → T.grafted a k ≡ false
    → tree_node h T content a k ≡ h
    (be8 (T.position a k) ++ (tree_node h T content a (k - 1) ++ tree_node h T content (a + 2 ^ (k - 1)) (k - 1)))
tree_pair h T content a k one bare = tree_join h T content a k one ∙ rw bare refl

grafted_there : (height r a k : ℕ) → k ≡ height → a % 2 ^ k ≡ 0 → a / 2 ^ k < r → grafted_over height r a k ≡ true
grafted_there height r a k level aligned below =
    subst (λ (i : ℕ). (eqb k i && (eqb (a % 2 ^ i) 0 && ltb (a / 2 ^ i) r)) ≡ true) level
    (rw (eq-eqb k k refl, eq-eqb (a % 2 ^ k) 0 aligned, lt-ltb (a / 2 ^ k) r below) refl)

module _ (h : HashFunction) (g : Grafting) (s : Snapshot) where
  abbrev bare : ℕ → ℕ → List ℕ
  bare a k = tree_node h (ungrafted g.shape) (listed s.operations) a k

  -- below the height of chunks the view has the plain digests
  pub view_low : (k a : ℕ) → k < height g → view_node h g s a k ≡ bare a k
  view_low zero a low = refl
  view_low (suc k) a low =
      let other : eqb (suc k) (height g) ≡ false = ne_eqb (suc k) (height g) (λ e. omega arith) in
      rw other (ap₂ (λ l r. h (be8 (g.shape.position a (suc k)) ++ (l ++ r))) (view_low k a (omega arith))
      (view_low k (a + 2 ^ k) (omega arith)))

  -- at it the chunk is grafted over the plain digest
  pub view_at : (a k : ℕ) → k ≡ height g → 1 ≤ k → a % 2 ^ k ≡ 0 → a / 2 ^ k < graftable g (length s.operations)
      → view_node h g s a k ≡ grafted_digest h (chunk g.bytes s.bits (a / 2 ^ k)) (bare a k)
  view_at a k level one aligned below =
      let T : Layout = view g (length s.operations) in
      let grafted : T.grafted a k ≡ true =
      grafted_there (height g) (graftable g (length s.operations)) a k level aligned below in
      let l = view_low (k - 1) a (omega arith) in
      let r = view_low (k - 1) (a + 2 ^ (k - 1)) (omega arith) in
      tree_join h T (content h g s) a k one
      ∙ rw (grafted, l, r, ← level) (ap (grafted_digest h (chunk g.bytes s.bits (a / 2 ^ k)))
      (sym (tree_pair h (ungrafted g.shape) (listed s.operations) a k one refl)))

  -- above it a node is hashed from its children
  pub view_above : (a k : ℕ) → height g < k → view_node h g s a k
      ≡ h (be8 (g.shape.position a k) ++ (view_node h g s a (k - 1) ++ view_node h g s (a + 2 ^ (k - 1)) (k - 1)))
  view_above a k high =
      let other : eqb k (height g) ≡ false = ne_eqb k (height g) (λ e. omega arith) in
      tree_pair h (view g (length s.operations)) (content h g s) a k (omega arith) (rw other refl)

-- a node of the height of chunks that is in the tree has its chunk grafted
pub chunk_there : (g : Grafting) → Laws g.shape → (n a : ℕ) → a % 2 ^ height g ≡ 0 → g.shape.birth a (height g) ≤ n
    → a / 2 ^ height g < graftable g n
chunk_there g L n a aligned born =
    let P : ℕ = 2 ^ height g in
    let whole : a / P * P ≡ a = sym (quotient a P aligned) in
    let inside : Inside (g.shape.peaks n) 0 (a / P * P) (height g) =
    rw whole ((L.inside n a (height g) aligned).1 born) in
    (graftable_by_birth g.shape L (height g) n (a / P)).0 inside

pub hashed_graft : (h : HashFunction) (g : Grafting) → Laws g.shape → (s : Snapshot) (a k j : ℕ)
    (bytes out inner : List ℕ) → k ≡ height g → 1 ≤ k → a % 2 ^ k ≡ 0 → g.shape.birth a k ≤ length s.operations
    → out ≡ grafted_digest h bytes inner
    → bytes ≡ chunk g.bytes s.bits j → j ≡ a / 2 ^ k → inner ≡ tree_node h (ungrafted g.shape) (listed s.operations) a k
    → out ≡ view_node h g s a k
hashed_graft h g L s a k j bytes out inner level one aligned born e chunk_is place plain_is =
    let below : a / 2 ^ k < graftable g (length s.operations) =
    subst (λ (i : ℕ). a % 2 ^ i ≡ 0 → g.shape.birth a i ≤ length s.operations → a / 2 ^ i
    < graftable g (length s.operations)) (sym level) (chunk_there g L (length s.operations) a) aligned born in
    e ∙ rw (chunk_is, place, plain_is) (sym (view_at h g s a k level one aligned below))
