-- What holds of every list of peaks.
use Rattle.std.proofs.Common.{◌≡◌, ℕ, zero, suc, ◌+◌, ◌-◌, ◌*◌, ◌%◌, ◌^◌, ◌<◌, ◌≤◌, List, [], ◌∷◌, length, refl, sym, ap, ◌∙◌, inl, inr, ⊎_elim, arith, add-one, ◌/◌, ◌↔◌}
use Rattle.std.proofs.lemmas.Bool.{cases_lt}
use Rattle.std.proofs.lemmas.Nat.{pow_pos}
use Rattle.storage_merkle.specs.Shape.{leaves_under, Inside, AreAligned, Shape, Laws, size}
use Rattle.storage_merkle.specs.Nodes.{IsNode, AreGraftable, CoversSame, Down, Up, Children}
use Rattle.storage_merkle.specs.Laws.Multiples.{is_multiple, pow_le, quotient_at_least, in_units, out_of_units, pow_two, pow_order, multiple_down, multiple_add, power_multiple, next}
use Rattle.std.proofs.lemmas.Nat.{le-div, shl-shr, shr_le, mul-le, pow-add}
use Rattle.storage_merkle.specs.Peaks.{Step}

pub length_at_most : (hs : List ℕ) → length hs ≤ leaves_under hs
unfolding leaves_under
length_at_most [] = omega arith
length_at_most (h ∷ hs) = omega (arith, length_at_most hs, pow_pos h)

pub inside_between : (hs : List ℕ) (s a k : ℕ) → Inside hs s a k → (s ≤ a) × (a + 2 ^ k ≤ s + leaves_under hs)
unfolding leaves_under Inside
inside_between [] s a k h = absurd h
inside_between (h ∷ hs) s a k (inl p) = (p.0, omega (arith, p.1))
inside_between (h ∷ hs) s a k (inr q) = let r = inside_between hs (s + 2 ^ h) a k q in
    (omega (arith, r), omega (arith, r))

-- a number that grows at each step
module _ (f : ℕ → ℕ) (grows : (n : ℕ) → f n < f (n + 1)) where
  pub grows_below : (m n : ℕ) → m < n → f m < f n
  grows_below m zero h = absurd (omega arith)
  grows_below m (suc n) h =
      let g : f n < f (suc n) = rw add-one at (grows n) in
      ⊎_elim (λ l. let r : f m < f n = grows_below m n l in omega arith)
      (λ q. let e : m ≡ n = omega arith in rw e g) (cases_lt m n)

  pub grows_at_most : (m n : ℕ) → m ≤ n → f m ≤ f n
  grows_at_most m n h =
      ⊎_elim (λ l. let r : f m < f n = grows_below m n l in omega arith)
      (λ q. let e : m ≡ n = omega arith in rw e (omega arith)) (cases_lt m n)

  pub grows_back : (m n : ℕ) → f m < f n → m < n
  grows_back m n h =
      ⊎_elim (λ l. l) (λ q. absurd (let r : f n ≤ f m = grows_at_most n m q in omega arith)) (cases_lt m n)

-- ---- what follows from the laws

module _ (S : Shape) (L : Laws S) where
  pub valid_birth : (a k : ℕ) → a % 2 ^ k ≡ 0 → S.position a k ≤ size S (2 ^ 62) → S.birth a k ≤ 2 ^ 62 + 1
  valid_birth a k ha h =
      let g : size S (2 ^ 62) < size S (2 ^ 62 + 1) = L.grows (2 ^ 62) in
      let b : S.position a k < size S (2 ^ 62 + 1) = omega arith in
      (L.born (2 ^ 62 + 1) a k ha).0 b

  pub valid_leaves : (a k : ℕ) → a % 2 ^ k ≡ 0 → S.position a k ≤ size S (2 ^ 62) → a + 2 ^ k ≤ 2 ^ 62 + 1
  valid_leaves a k ha h = omega (arith, valid_birth a k ha h, L.late a k)

  pub valid_height : (a k : ℕ) → a % 2 ^ k ≡ 0 → S.position a k ≤ size S (2 ^ 62) → k ≤ 62
  valid_height a k ha h = ⊎_elim (λ (l : 62 < k).
      absurd (let p : 2 ^ 63 ≤ 2 ^ k = pow_le 63 k l in omega (arith, valid_leaves a k ha h))) (λ g. g) (cases_lt 62 k)

  -- a node over few leaves has a position that fits
  pub early_fits : (a k : ℕ) → a % 2 ^ k ≡ 0 → a + 2 * 2 ^ k ≤ 2 ^ 63 → S.position a k < 2 ^ 64
  early_fits a k ha h =
      let b : S.position a k < size S (a + 2 * 2 ^ k) = (L.born (a + 2 * 2 ^ k) a k ha).1 (L.soon a k) in
      omega arith

  pub chunk_birth : (g : ℕ) → g ≤ 62 → S.birth 0 g < 2 ^ 64
  chunk_birth g h = let p : 2 ^ g ≤ 2 ^ 62 = pow_le g 62 h in omega (arith, L.soon 0 g)

  chunk_inside : (n g j : ℕ) → (Inside (S.peaks n) 0 (j * 2 ^ g) g → j * 2 ^ g + S.birth 0 g ≤ n)
      × (j * 2 ^ g + S.birth 0 g ≤ n → Inside (S.peaks n) 0 (j * 2 ^ g) g)
  chunk_inside n g j =
      let l = L.inside n (j * 2 ^ g) g (is_multiple j (2 ^ g) (pow_pos g)) in (
        (λ i. let b : S.birth (j * 2 ^ g) g ≤ n = l.0 i in
            omega (arith, L.moves (j * 2 ^ g) g)),
        (λ h. l.1 (omega (arith, L.moves (j * 2 ^ g) g))),
      )

  pub graftable_none : (n g : ℕ) → n < S.birth 0 g → (j : ℕ) → (Inside (S.peaks n) 0 (j * 2 ^ g) g ↔ (j < 0))
  graftable_none n g h j =
      ((λ i. absurd (let b = (chunk_inside n g j).0 i in omega (arith, b))), (λ z. absurd (omega arith)))

  pub graftable_some : (n g : ℕ) → S.birth 0 g ≤ n → (j : ℕ)
      → (Inside (S.peaks n) 0 (j * 2 ^ g) g ↔ (j < (n - S.birth 0 g) / 2 ^ g + 1))
  graftable_some n g h j = (
    (λ i. let b : j * 2 ^ g + S.birth 0 g ≤ n = (chunk_inside n g j).0 i in let d : j ≤ (n - S.birth 0 g) / 2 ^ g =
        le-div j (n - S.birth 0 g) (2 ^ g) (pow_pos g) (omega arith) in omega arith),
    (λ l. (chunk_inside n g j).1
        (let q : j * 2 ^ g ≤ n - S.birth 0 g = quotient_at_least j (n - S.birth 0 g) g (omega arith) in omega arith)),
  )

  pub covers_down : (a k g p q : ℕ) → IsNode S p a k → g ≤ k → S.position (a / 2 ^ g) (k - g) ≡ q → CoversSame S g q p
  covers_down a k g p q n le h =
      let u = in_units a k g le n.aligned in
      let e : k - g + g ≡ k = omega arith in
      record {
        first = a / 2 ^ g;
        height = k - g;
        grafted = record { aligned = u.1; at = h };
        node = rw (u.0, e) n;
      }

  pub covers_up : (a k g p q : ℕ) → IsNode S q a k → S.position (a * 2 ^ g) (k + g) ≡ p → CoversSame S g q p
  covers_up a k g p q n h =
      record { first = a; height = k; grafted = n; node = record { aligned = out_of_units a k g n.aligned; at = h } }

  -- a complete chunk is graftable once the next one is complete
  next_complete : (n g j : ℕ) → (j + 2) * 2 ^ g ≤ n → Inside (S.peaks n) 0 (j * 2 ^ g) g
  next_complete n g j h =
      (L.inside n (j * 2 ^ g) g (is_multiple j (2 ^ g) (pow_pos g))).1 (omega (arith, L.soon (j * 2 ^ g) g))

  -- graftable chunks are complete
  graftable_complete : (n g j : ℕ) → Inside (S.peaks n) 0 (j * 2 ^ g) g → j * 2 ^ g + 2 ^ g ≤ n
  graftable_complete n g j i = let b : S.birth (j * 2 ^ g) g ≤ n =
      (L.inside n (j * 2 ^ g) g (is_multiple j (2 ^ g) (pow_pos g))).0 i in omega (arith, L.late (j * 2 ^ g) g)

  -- all complete chunks are graftable but at most one, which is pending
  pub one_pending : (n g r : ℕ) → AreGraftable S n g r → (r ≤ n / 2 ^ g) × (n / 2 ^ g ≤ r + 1)
  one_pending n g zero h = (
    omega arith,
    ⊎_elim
        (λ (l : 1 < n / 2 ^ g).
        absurd (let i : 0 < 0 = (h 0).0 (next_complete n g 0 (quotient_at_least 2 n g (omega arith))) in omega arith))
        (λ (q : n / 2 ^ g ≤ 1). omega arith)
        (cases_lt 1 (n / 2 ^ g)),
  )
  one_pending n g (suc r) h =
      let c : r * 2 ^ g + 2 ^ g ≤ n = graftable_complete n g r ((h r).1 (omega arith)) in
      let d : suc r ≤ n / 2 ^ g = le-div (suc r) n (2 ^ g) (pow_pos g) (omega arith) in (
        d,
        ⊎_elim
            (λ (l : suc r + 1 < n / 2 ^ g).
            absurd (let i : suc r < suc r = (h (suc r)).0 (next_complete n g (suc r) (quotient_at_least (suc r + 2) n g (omega arith))) in omega arith))
            (λ (q : n / 2 ^ g ≤ suc r + 1). q)
            (cases_lt (suc r + 1) (n / 2 ^ g)),
      )

  -- where each node comes with the last of its leaves, all complete chunks are graftable
  pub none_pending : ((a k : ℕ) → S.birth a k ≡ a + 2 ^ k) → (n g r : ℕ) → AreGraftable S n g r → r ≡ n / 2 ^ g
  none_pending prompt n g r h =
      let o = one_pending n g r h in
      ⊎_elim
      (λ (l : r < n / 2 ^ g). absurd (
      let c : (r + 1) * 2 ^ g ≤ n = quotient_at_least (r + 1) n g (omega arith) in
      let b : S.birth (r * 2 ^ g) g ≤ n = rw prompt (omega arith) in
      let i : r < r = (h r).0 ((L.inside n (r * 2 ^ g) g (is_multiple r (2 ^ g) (pow_pos g))).1 b) in
      omega arith))
      (λ (q : n / 2 ^ g ≤ r). omega (arith, o))
      (cases_lt r (n / 2 ^ g))

  pub down : (a k g p : ℕ) → IsNode S p a k → g ≤ k → 1 ≤ g → p ≤ size S (2 ^ 62) → Down S a k g
  down a k g p n le one v =
      let v' : S.position a k ≤ size S (2 ^ 62) = omega (arith, n.at) in
      let u = in_units a k g le n.aligned in
      let x : a + 2 ^ k ≤ 2 ^ 62 + 1 = valid_leaves a k n.aligned v' in
      let y : 2 ^ suc (k - g) ≤ 2 ^ k = pow_le (suc (k - g)) k (omega arith) in
      let z : a / 2 ^ g ≤ a = shr_le a g in
      record {
        small = valid_height a k n.aligned v';
        units = u.1;
        fits = early_fits (a / 2 ^ g) (k - g) u.1 (omega (arith, pow_two (k - g)));
      }

  pub up : (a k g q : ℕ) → IsNode S q a k → ((p : ℕ) → CoversSame S g q p → p ≤ size S (2 ^ 62)) → Up S a k g
  up a k g q n v =
      let o : a * 2 ^ g % 2 ^ (k + g) ≡ 0 = out_of_units a k g n.aligned in
      let v' : S.position (a * 2 ^ g) (k + g) ≤ size S (2 ^ 62) =
      v (S.position (a * 2 ^ g) (k + g)) (covers_up a k g _ q n refl) in
      let x : a * 2 ^ g + 2 ^ (k + g) ≤ 2 ^ 62 + 1 = valid_leaves (a * 2 ^ g) (k + g) o v' in
      record {
        small = valid_height (a * 2 ^ g) (k + g) o v';
        first = omega (arith, pow_pos (k + g));
        units = o;
        fits = omega arith;
      }

  -- there and back
  pub covers_once : (g p q q' : ℕ) → CoversSame S g q p → CoversSame S g q' p → q ≡ q'
  covers_once g p q q' x y =
      let e : S.position (x.first * 2 ^ g) (x.height + g) ≡ S.position (y.first * 2 ^ g) (y.height + g) =
      x.node.at ∙ sym y.node.at in
      let i = L.injective (x.first * 2 ^ g) (x.height + g) (y.first * 2 ^ g)
      (y.height + g) x.node.aligned y.node.aligned e in
      let f : x.first ≡ y.first = sym (shl-shr x.first g) ∙ ap (λ w. w / 2 ^ g) i.0 ∙ shl-shr y.first g in
      let h : x.height ≡ y.height = omega (arith, i.1) in
      sym x.grafted.at ∙ ap (λ w. S.position w x.height) f ∙ ap (λ w. S.position y.first w) h ∙ y.grafted.at

  pub covers_back : (g p p' q : ℕ) → CoversSame S g q p → CoversSame S g q p' → p ≡ p'
  covers_back g p p' q x y =
      let e : S.position x.first x.height ≡ S.position y.first y.height = x.grafted.at ∙ sym y.grafted.at in
      let i = L.injective x.first x.height y.first y.height x.grafted.aligned y.grafted.aligned e in
      sym x.node.at ∙ ap (λ w. S.position (w * 2 ^ g) (x.height + g)) i.0
      ∙ ap (λ w. S.position (y.first * 2 ^ g) (w + g)) i.1 ∙ y.node.at

  no_peaks_of : (hs : List ℕ) → leaves_under hs ≡ 0 → hs ≡ []
  unfolding leaves_under
  no_peaks_of [] h = refl
  no_peaks_of (x ∷ hs) h = absurd (omega (arith, pow_pos x))

  pub no_peaks : S.peaks 0 ≡ []
  no_peaks = no_peaks_of (S.peaks 0) (L.sum 0)

  pub step : (s r h : ℕ) → s + r ≤ 2 ^ 62 → AreAligned (S.peaks r) s → S.peaks r ≡ h ∷ S.peaks (r - 2 ^ h) → Step S s r h
  unfolding AreAligned leaves_under
  step s r h few al e =
      let x : leaves_under (h ∷ S.peaks (r - 2 ^ h)) ≡ r = ap leaves_under (sym e) ∙ L.sum r in
      let w : 2 ^ h ≤ r = omega arith in
      let y = rw e at al in
      record {
        within = w;
        small = pow_order h 62 (let z : 2 ^ h ≤ 2 ^ 62 = omega arith in z);
        aligned = y.0;
        fits = early_fits s h y.0 (omega arith);
        rest = y.1;
      }

  -- the number of leaves of a size
  pub leaves_of_size : (m n p : ℕ) → size S n ≡ p → size S m ≤ p → p < size S (m + 1) → m ≡ n
  leaves_of_size m n p e lo hi =
      let a : m < n + 1 =
      grows_back (size S) L.grows m (n + 1) (let g : size S n < size S (n + 1) = L.grows n in omega arith) in
      let b : n < m + 1 = grows_back (size S) L.grows n (m + 1) (omega arith) in
      omega arith

  pub valid_size : (n p : ℕ) → n ≤ 2 ^ 62 → size S n ≡ p → p ≤ size S (2 ^ 62)
  valid_size n p h e = let g : size S n ≤ size S (2 ^ 62) = grows_at_most (size S) L.grows n (2 ^ 62) h in omega arith

  pub children : (a k p : ℕ) → IsNode S p a k → 1 ≤ k → p ≤ size S (2 ^ 62) → Children S a k
  children a zero p n one v = absurd (omega arith)
  children a (suc k) p n one v =
      let v' : S.position a (suc k) ≤ size S (2 ^ 62) = omega (arith, n.at) in
      let e : suc k - 1 ≡ k = omega arith in
      let x : a + 2 ^ suc k ≤ 2 ^ 62 + 1 = valid_leaves a (suc k) n.aligned v' in
      let c = L.children a k n.aligned in
      let l : a % 2 ^ k ≡ 0 = multiple_down a k (suc k) (omega arith) n.aligned in
      record {
        small = valid_height a (suc k) n.aligned v';
        left = rw e l;
        right = rw e (multiple_add a (2 ^ k) (2 ^ k) (pow_pos k) l (power_multiple k k (omega arith)));
        first = rw e (omega (arith, pow_two k));
        left_fits = rw e (omega (arith, c));
        right_fits = rw e (omega (arith, c));
      }

  -- two nodes at one position are one
  pub same_node : (p a k b j : ℕ) → IsNode S p a k → IsNode S p b j → (a ≡ b) × (k ≡ j)
  same_node p a k b j x y = L.injective a k b j x.aligned y.aligned (x.at ∙ sym y.at)

  -- a node found at a position, at the height that the caller gave
  pub at_height : (p p' a k b j : ℕ) → p' ≡ p → IsNode S p' a k → IsNode S p b j → IsNode S p a j
  at_height p p' a k b j e x y =
      let i = L.injective a k b j x.aligned y.aligned (x.at ∙ e ∙ sym y.at) in
      record { aligned = rw i.0 y.aligned; at = rw i.0 y.at }

  -- each position is a node's
  pub place : (n p : ℕ) → p < size S n → (m : ℕ) × (m < n) × (size S m ≤ p) × (p < size S (m + 1))
  place zero p h = absurd (omega arith)
  place (suc n) p h = ⊎_elim
      (λ (l : p < size S n). let r = place n p l in (r.0, omega (arith, r.1), r.2, r.3))
      (λ (g : size S n ≤ p). (n, omega arith, g, rw add-one h))
      (cases_lt p (size S n))

  pub every : (n p : ℕ) → p < size S n → (a : ℕ) × (k : ℕ) × IsNode S p a k
  every n p h =
      let r = place n p h in
      let e : size S r.0 + (p - size S r.0) ≡ p = omega (arith, r.2) in
      let b = L.brings r.0 (p - size S r.0) (rw e r.3) in
      (b.0, b.1, record { aligned = b.2; at = b.3 ∙ e })

  -- a node that is born before another stands before it
  pub born_before : (a k b j : ℕ) → a % 2 ^ k ≡ 0 → b % 2 ^ j ≡ 0 → S.birth a k < S.birth b j
      → S.position a k < S.position b j
  born_before a k b j ha hb h = ⊎_elim
      (λ l. l)
      (λ (g : S.position b j ≤ S.position a k). absurd (
      let x : S.position a k < size S (S.birth a k) = (L.born (S.birth a k) a k ha).1 (omega arith) in
      let y : S.birth b j ≤ S.birth a k = (L.born (S.birth a k) b j hb).0 (omega arith) in
      omega arith))
      (cases_lt (S.position a k) (S.position b j))

  -- what the node at a valid position needs
  pub node_small : (a k p : ℕ) → IsNode S p a k → p ≤ size S (2 ^ 62) → (k ≤ 62) × (a + 2 ^ k ≤ 2 ^ 62 + 1)
  node_small a k p n v = let v' : S.position a k ≤ size S (2 ^ 62) = omega (arith, n.at) in
      (valid_height a k n.aligned v', valid_leaves a k n.aligned v')

  pub node_birth : (a k p : ℕ) → IsNode S p a k → p ≤ size S (2 ^ 62) → S.birth a k ≤ 2 ^ 62 + 1
  node_birth a k p n v =
      valid_birth a k n.aligned (let v' : S.position a k ≤ size S (2 ^ 62) = omega (arith, n.at) in v')

  -- the children of a node, by their places
  pub child_nodes : (a k p : ℕ) → IsNode S p a k → 1 ≤ k → IsNode S (S.position a (k - 1)) a (k - 1)
      × IsNode S (S.position (a + 2 ^ (k - 1)) (k - 1)) (a + 2 ^ (k - 1)) (k - 1)
  child_nodes a zero p n one = absurd (omega arith)
  child_nodes a (suc k) p n one =
      let e : suc k - 1 ≡ k = omega arith in
      let l : a % 2 ^ k ≡ 0 = multiple_down a k (suc k) (omega arith) n.aligned in
      let r : (a + 2 ^ k) % 2 ^ k ≡ 0 =
      multiple_add a (2 ^ k) (2 ^ k) (pow_pos k) l (power_multiple k k (omega arith)) in
      rw e (record { aligned = l; at = refl }, record { aligned = r; at = refl })

  -- the children of the one node at a position, whichever way it was found
  pub children_of : (p a b k l r : ℕ) → IsNode S p a k → IsNode S p b k → 1 ≤ k → l ≡ S.position b (k - 1)
      → r ≡ S.position (b + 2 ^ (k - 1)) (k - 1) → IsNode S l a (k - 1) × IsNode S r (a + 2 ^ (k - 1)) (k - 1)
  children_of p a b k l r x y one el er =
      let e : b ≡ a = sym (same_node p a k b k x y).0 in
      rw (el, er, e) (child_nodes a k p x one)

  -- the node that comes with a leaf
  pub brought : (n p a k : ℕ) → IsNode S p a k → size S n ≤ p → p < size S (n + 1) → S.birth a k ≡ n + 1
  brought n p a k x lo hi =
      let up : S.birth a k ≤ n + 1 = (L.born (n + 1) a k x.aligned).0 (omega (arith, x.at)) in
      let no : S.birth a k ≤ n → ⊥ = λ h. let q : S.position a k < size S n = (L.born n a k x.aligned).1 h in
      omega (arith, x.at) in
      omega arith

  -- ---- the nodes of one tree

  -- a node inside the peaks stands below the tree's size
  pub inside_before : (n a k : ℕ) → a % 2 ^ k ≡ 0 → Inside (S.peaks n) 0 a k → S.position a k < size S n
  inside_before n a k ha i = (L.born n a k ha).1 ((L.inside n a k ha).0 i)

  pub before_inside : (n a k : ℕ) → a % 2 ^ k ≡ 0 → S.position a k < size S n → Inside (S.peaks n) 0 a k
  before_inside n a k ha h = (L.inside n a k ha).1 ((L.born n a k ha).0 h)

  -- sizes grow by at least a node for each leaf, and are below twice the leaves
  pub size_at_most : (n : ℕ) → size S n ≤ 2 * n
  size_at_most n = omega arith

  pub size_order : (m n : ℕ) → m ≤ n → size S m ≤ size S n
  size_order m n h = grows_at_most (size S) L.grows m n h

  -- a node of a tree over at most 2 ^ 62 leaves: its position is valid, and fits in 63 bits
  pub inside_valid : (n a k : ℕ) → n ≤ 2 ^ 62 → a % 2 ^ k ≡ 0 → Inside (S.peaks n) 0 a k
      → S.position a k ≤ size S (2 ^ 62)
  inside_valid n a k few ha i = omega (arith, inside_before n a k ha i, size_order n (2 ^ 62) few)

  pub inside_fits : (n a k : ℕ) → n ≤ 2 ^ 62 → a % 2 ^ k ≡ 0 → Inside (S.peaks n) 0 a k → S.position a k < 2 ^ 63
  inside_fits n a k few ha i = omega (arith, inside_before n a k ha i, size_at_most n)

  pub inside_height : (n a k : ℕ) → n ≤ 2 ^ 62 → a % 2 ^ k ≡ 0 → Inside (S.peaks n) 0 a k → k ≤ 62
  inside_height n a k few ha i = valid_height a k ha (inside_valid n a k few ha i)

  -- two nodes apart stand at two positions
  pub first_apart : (a k b j : ℕ) → a % 2 ^ k ≡ 0 → b % 2 ^ j ≡ 0 → (a ≡ b → ⊥) → S.position a k ≡ S.position b j → ⊥
  first_apart a k b j ha hb h e = h (L.injective a k b j ha hb e).0

  pub height_apart : (a k b j : ℕ) → a % 2 ^ k ≡ 0 → b % 2 ^ j ≡ 0 → (k ≡ j → ⊥) → S.position a k ≡ S.position b j → ⊥
  height_apart a k b j ha hb h e = h (L.injective a k b j ha hb e).1

  -- a node stands behind every node below it
  pub below_before : (d a k b j : ℕ) → d + j ≡ k → 0 < d → a % 2 ^ k ≡ 0 → b % 2 ^ j ≡ 0 → a ≤ b → b + 2 ^ j ≤ a + 2 ^ k
      → S.position b j < S.position a k
  below_before zero a k b j e p ha hb lo hi = absurd (omega arith)
  below_before (suc d) a zero b j e p ha hb lo hi = absurd (omega arith)
  below_before (suc d) a (suc k) b j e p ha hb lo hi =
      let c = L.children a k ha in
      let l : a % 2 ^ k ≡ 0 = multiple_down a k (suc k) (omega arith) ha in
      let r : (a + 2 ^ k) % 2 ^ k ≡ 0 =
      multiple_add a (2 ^ k) (2 ^ k) (pow_pos k) l (power_multiple k k (omega arith)) in
      let rj : (a + 2 ^ k) % 2 ^ j ≡ 0 = multiple_down (a + 2 ^ k) j k (omega arith) r in
      let same : d ≡ 0 → j ≡ k = λ z. omega arith in
      ⊎_elim
      (λ (h : b < a + 2 ^ k).
      let x : b + 2 ^ j ≤ a + 2 ^ k = next b (a + 2 ^ k) (2 ^ j) hb rj h in
      ⊎_elim
      (λ (q : 0 < d). let y : S.position b j < S.position a k = below_before d a k b j (omega arith) q l hb lo x in
      omega (arith, c))
      (λ (q : d ≤ 0). let jk : j ≡ k = omega arith in let w : 2 ^ j ≡ 2 ^ k = ap (λ z. 2 ^ z) jk in
      let ab : b ≡ a = omega arith in rw (jk, ab) c.0)
      (cases_lt 0 d))
      (λ (h : a + 2 ^ k ≤ b).
      ⊎_elim
      (λ (q : 0 < d). let y : S.position b j < S.position (a + 2 ^ k) k =
      below_before d (a + 2 ^ k) k b j (omega arith) q r hb h (omega (arith, pow_two k)) in omega (arith, c))
      (λ (q : d ≤ 0). let jk : j ≡ k = omega arith in let w : 2 ^ j ≡ 2 ^ k = ap (λ z. 2 ^ z) jk in
      let ab : b ≡ a + 2 ^ k = omega (arith, pow_two k) in rw (jk, ab) c.1)
      (cases_lt 0 d))
      (cases_lt b (a + 2 ^ k))

module _ (S : Shape) (L : Laws S) where
  -- a node at a small position may be moved up by few levels
  pub low_fits : (q g p : ℕ) → q ≤ 1000 → g ≤ 20 → CoversSame S g q p → p ≤ size S (2 ^ 62)
  low_fits q g p hq hg c =
      let n : ℕ = 1001 in
      let l : length (S.peaks 1001) ≤ 1001 = omega (arith, length_at_most (S.peaks 1001), L.sum 1001) in
      let b : S.birth c.first c.height ≤ 1001 =
      (L.born 1001 c.first c.height c.grafted.aligned).0 (omega (arith, c.grafted.at)) in
      let d : c.first + 2 ^ c.height ≤ 1001 = omega (arith, L.late c.first c.height) in
      let w : 2 ^ g ≤ 1048576 = pow_le g 20 hg in
      let x : c.first * 2 ^ g ≤ 1001 * 1048576 = mul-le c.first (2 ^ g) 1001 1048576 (omega arith) w in
      let y : 2 ^ c.height * 2 ^ g ≤ 1001 * 1048576 = mul-le (2 ^ c.height) (2 ^ g) 1001 1048576 (omega arith) w in
      let e : 2 ^ (c.height + g) ≡ 2 ^ c.height * 2 ^ g = pow-add 2 c.height g in
      let z : S.birth (c.first * 2 ^ g) (c.height + g) ≤ 2 ^ 62 =
      omega (arith, L.soon (c.first * 2 ^ g) (c.height + g)) in
      let v : S.position (c.first * 2 ^ g) (c.height + g) < size S (2 ^ 62) =
      (L.born (2 ^ 62) (c.first * 2 ^ g) (c.height + g) c.node.aligned).1 z in
      omega (arith, c.node.at)
