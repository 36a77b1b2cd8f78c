-- Nodes of a tree over chunks, and the nodes of the tree over the operations that cover the same leaves.
use Rattle.std.proofs.Common.{◌≡◌, ℕ, ◌+◌, ◌*◌, ◌/◌, ◌^◌, ◌<◌, ◌≤◌, sym, ◌∙◌, arith, pow_pos}
use Rattle.std.proofs.lemmas.Nat.{pow-add, mul-le}
use Rattle.std.proofs.Math.Nat.{add-mul, div-mul-le_self}
use Rattle.storage_merkle.specs.Shape.{Shape, Laws, size}
use Rattle.storage_merkle.specs.Nodes.{AreGraftable, IsNode, CoversSame}
use Rattle.storage_merkle.specs.Pace.{ChunksStayWithin}
use Rattle.storage_merkle.specs.Laws.Shape.{grows_at_most}
use Rattle.storage_current.specs.Combined.{IsRaised}
use Rattle.storage_current.specs.Laws.Grafting.{graftable_is}
use Rattle.storage_current.proofs.Windows.{graftable_within}

module _ (S : Shape) (L : Laws S) where
  -- the node that covers the leaves of a node over chunks
  pub raised : (g p q a k : ℕ) → CoversSame S g p q → IsNode S p a k → IsNode S q (a * 2 ^ g) (k + g)
  raised g p q a k c n =
      let i = L.injective c.first c.height a k c.grafted.aligned n.aligned (c.grafted.at ∙ sym n.at) in
      rw (← i.0, ← i.1) c.node

  -- the node is taken where it is in some tree
  is_raised : (takes : ℕ → Type 0) (n g p : ℕ) → 1 ≤ g → n * 2 ^ g ≤ 2 ^ 62 → p < size S n
      → ((q : ℕ) → CoversSame S g p q → q ≤ size S (2 ^ 62)) → ((q : ℕ) → CoversSame S g p q → takes q)
      → IsRaised S takes g p
  is_raised takes n g p low few below fits taken =
      let least : n * 1 ≤ n * 2 ^ g = mul-le n 1 n (2 ^ g) (omega arith) (omega (arith, pow_pos g)) in
      let valid : size S n ≤ size S (2 ^ 62) = grows_at_most (size S) L.grows n (2 ^ 62) (omega arith) in
      record { low = low; valid = omega arith; fits = fits; taken = taken }

  room : (a k g n : ℕ) → a + 2 ^ k ≤ n → n * (2 * 2 ^ g) ≤ 2 ^ 62 → a * 2 ^ g + 2 * 2 ^ (k + g) ≤ 2 ^ 62
  room a k g n inside few =
      let most : (a + 2 ^ k) * (2 * 2 ^ g) ≤ n * (2 * 2 ^ g) =
      mul-le (a + 2 ^ k) (2 * 2 ^ g) n (2 * 2 ^ g) inside (omega arith) in
      let power : 2 ^ (k + g) ≡ 2 ^ k * 2 ^ g = pow-add 2 k g in
      omega arith

  -- a node that is born early enough is covered by a node of a tree
  covered : (n g p q : ℕ) → p < size S n → (c : CoversSame S g p q)
      → (S.birth c.first c.height ≤ n → S.birth (c.first * 2 ^ g) (c.height + g) ≤ 2 ^ 62) → q ≤ size S (2 ^ 62)
  covered n g p q below c soon =
      let here : S.position c.first c.height < size S n = omega (arith, c.grafted.at) in
      let born : S.birth c.first c.height ≤ n = (L.born n c.first c.height c.grafted.aligned).0 here in
      let there : S.position (c.first * 2 ^ g) (c.height + g) < size S (2 ^ 62) =
      (L.born (2 ^ 62) (c.first * 2 ^ g) (c.height + g) c.node.aligned).1 (soon born) in
      omega (arith, c.node.at)

  pub few_raised : (takes : ℕ → Type 0) (n g p : ℕ) → 1 ≤ g → n * (2 * 2 ^ g) ≤ 2 ^ 62 → p < size S n
      → ((q : ℕ) → CoversSame S g p q → takes q) → IsRaised S takes g p
  few_raised takes n g p low few below taken =
      let double : n * 2 ^ g ≤ n * (2 * 2 ^ g) = mul-le n (2 ^ g) n (2 * 2 ^ g) (omega arith) (omega arith) in
      is_raised takes n g p low (omega arith) below
      (λ q c. covered n g p q below c (λ born.
      let inside : c.first + 2 ^ c.height ≤ n = omega (arith, L.late c.first c.height) in
      omega (arith, L.soon (c.first * 2 ^ g) (c.height + g), room c.first c.height g n inside few)))
      taken

  -- a family whose nodes come with the last of their leaves
  pub prompt_raised : ((a k : ℕ) → S.birth a k ≡ a + 2 ^ k) → (takes : ℕ → Type 0) (n g p : ℕ) → 1 ≤ g
      → n * 2 ^ g ≤ 2 ^ 62 → p < size S n → ((q : ℕ) → CoversSame S g p q → takes q) → IsRaised S takes g p
  prompt_raised prompt takes n g p low few below taken =
      is_raised takes n g p low few below
      (λ q c. covered n g p q below c (λ born.
      let inside : c.first + 2 ^ c.height ≤ n = omega (arith, prompt c.first c.height) in
      let most : (c.first + 2 ^ c.height) * 2 ^ g ≤ n * 2 ^ g =
      mul-le (c.first + 2 ^ c.height) (2 ^ g) n (2 ^ g) inside (omega arith) in
      let power : 2 ^ (c.height + g) ≡ 2 ^ c.height * 2 ^ g = pow-add 2 c.height g in
      omega (arith, prompt (c.first * 2 ^ g) (c.height + g), add-mul c.first (2 ^ c.height) (2 ^ g))))
      taken

  -- the graftable chunks of a tree
  pub graftable_raised : (takes : ℕ → Type 0) (n count g p : ℕ) → ChunksStayWithin S g → 1 ≤ g → n ≤ 2 ^ 62
      → AreGraftable S n g count → p < size S count → ((q : ℕ) → CoversSame S g p q → takes q) → IsRaised S takes g p
  graftable_raised takes n count g p stays low few are below taken =
      let whole : count ≤ n / 2 ^ g =
      omega (arith, graftable_is S L g n count are, graftable_within S L g n) in
      let all : count * 2 ^ g ≤ n / 2 ^ g * 2 ^ g = mul-le count (2 ^ g) (n / 2 ^ g) (2 ^ g) whole (omega arith) in
      is_raised takes count g p low (omega (arith, all, div-mul-le_self n (2 ^ g))) below
      (λ q c. covered count g p q below c (stays n count c.first c.height few are)) taken
