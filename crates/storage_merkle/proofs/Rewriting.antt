-- A leaf is written anew, and the nodes over it.
use Rattle.std.proofs.Common.{All, ◌++◌, ◌≡◌, ℕ, zero, suc, ◌+◌, ◌-◌, ◌*◌, ◌/◌, ◌%◌, ◌^◌, ◌<◌, ◌≤◌, ◌⊎◌, List, [], ◌∷◌, length, map, get_or, set, Contains, Option, Some, refl, sym, ap, ap₂, ◌∙◌, inl, inr, ⊎_elim, arith, subst}
use Rattle.std.proofs.lemmas.Bool.{cases_lt}
use Rattle.std.proofs.lemmas.Nat.{pow_pos, div-add-mod'}
use Rattle.std.proofs.Math.Nat.{mod-lt}
use Rattle.std.proofs.lemmas.List.{get_or-set_same, get_or-set_other, get_or_append_left, length-append, length-set}
use Rattle.storage_merkle.specs.Shape.{Shape, Laws, size, Inside}
use Rattle.storage_merkle.specs.Laws.Shape.{early_fits}
use Rattle.storage_merkle.specs.Laws.Multiples.{pow_two, next, multiple_add, multiple_down, power_multiple, is_multiple}
use Rattle.storage_codec.specs.Digests.{HashFunction}
use Rattle.storage_merkle.specs.Trees.{Layout}
use Rattle.storage_merkle.specs.Hashing.{join_digest, node_over}
use Rattle.storage_merkle.specs.Kept.{kept_at, list_updated, IsClean, HoldsDigests}
use Rattle.storage_merkle.specs.Laws.Kept.{node_same, peaks_same}
use Rattle.storage_merkle.specs.Rewriting.{over, WrittenBelow, IsNext, Reaches}
use Rattle.storage_merkle.proofs.MemNodes.{IsKept, child, kept_value, clean_none}

pub record Over (place k : ℕ) : Type 0 where
  pub aligned : over place k % 2 ^ k ≡ 0
  pub low : over place k ≤ place
  pub high : place < over place k + 2 ^ k

pub over_is : (place k : ℕ) → Over place k
over_is place k =
    let e : place / 2 ^ k * 2 ^ k + place % 2 ^ k ≡ place = div-add-mod' place (2 ^ k) in
    let m : place % 2 ^ k < 2 ^ k = mod-lt place (pow_pos k) in
    record { aligned = is_multiple (place / 2 ^ k) (2 ^ k) (pow_pos k); low = omega arith; high = omega arith }

-- it is the only one
over_one : (place k a : ℕ) → a % 2 ^ k ≡ 0 → a ≤ place → place < a + 2 ^ k → a ≡ over place k
over_one place k a al lo hi =
    let o = over_is place k in
    let lo' = o.low in
    let hi' = o.high in
    ⊎_elim
    (λ (l : a < over place k).
    absurd (let n : a + 2 ^ k ≤ over place k = next a (over place k) (2 ^ k) al o.aligned l in omega arith))
    (λ (g : over place k ≤ a). ⊎_elim
    (λ (l : over place k < a).
    absurd (let n : over place k + 2 ^ k ≤ a = next (over place k) a (2 ^ k) o.aligned al l in omega arith))
    (λ (h : a ≤ over place k). omega arith)
    (cases_lt (over place k) a))
    (cases_lt a (over place k))

inside_part : (hs : List ℕ) (s a k p j : ℕ) → Inside hs s a k → a ≤ p → p + 2 ^ j ≤ a + 2 ^ k → Inside hs s p j
unfolding Inside
inside_part [] s a k p j i lo hi = i
inside_part (h ∷ hs) s a k p j (inl q) lo hi = let q0 : s ≤ a = q.0 in let q1 : a + 2 ^ k ≤ s + 2 ^ h = q.1 in
    inl ((omega arith), (omega arith))
inside_part (h ∷ hs) s a k p j (inr r) lo hi = inr (inside_part hs (s + 2 ^ h) a k p j r lo hi)

pub small_over : (place k : ℕ) → place < 2 ^ 62 → k ≤ 62 → over place k + 2 ^ k ≤ 2 ^ 62
small_over place k l small =
    let o = over_is place k in
    let lo = o.low in
    next (over place k) (2 ^ 62) (2 ^ k) o.aligned (power_multiple 62 k small) (omega arith)

module _ (S : Shape) (L : Laws S) where
  -- the children of a node over a leaf that is not forgotten
  pub children_over : (b n place k : ℕ) → b ≤ place → S.birth (over place (suc k)) (suc k) ≤ n
      → IsKept S L b (size S n) (over place (suc k)) k × IsKept S L b (size S n) (over place (suc k) + 2 ^ k) k
  children_over b n place k le there =
      let a = over place (suc k) in
      let o = over_is place (suc k) in
      let hi = o.high in
      let two = pow_two k in
      let late : b < S.birth a (suc k) = omega (arith, L.late a (suc k)) in
      let at : S.position a (suc k) < size S n = (L.born n a (suc k) o.aligned).1 there in
      let c = L.children a k o.aligned in
      let l : a % 2 ^ k ≡ 0 = multiple_down a k (suc k) (omega arith) o.aligned in
      let r : (a + 2 ^ k) % 2 ^ k ≡ 0 =
      multiple_add a (2 ^ k) (2 ^ k) (pow_pos k) l (power_multiple k k (omega arith)) in (
        child S L b (size S n) a k a o.aligned late l (omega arith) (omega arith) (omega (arith, c.0)),
        child S L b (size S n) a k (a + 2 ^ k) o.aligned late r (omega arith) (omega arith) (omega (arith, c.1)),
      )

  -- a clean child's digest, once those below its parent are written
  pub child_value : (node : ℕ → ℕ → List ℕ) (rest : List ℕ) (b p place h a k : ℕ) (pinned nodes : List (List ℕ))
      → IsKept S L b p a k → length nodes + size S b ≡ p → WrittenBelow S node rest place h b p pinned nodes → k < h
      → IsClean rest a k → kept_at S b pinned nodes (S.position a k) ≡ Some (node k a)
  child_value node rest b p place h a k pinned nodes i count w l clean =
      kept_value S L node b p a k pinned nodes i count w.peaks (λ lo. w.from a k i.aligned lo i.below clean (inl l))

  -- one more height is written
  pub written_more : (node : ℕ → ℕ → List ℕ) (rest : List ℕ) (b p place h : ℕ) (pinned nodes : List (List ℕ))
      (x : List ℕ) → b ≤ place → length nodes + size S b ≡ p → S.position (over place h) h < p
      → WrittenBelow S node rest place h b p pinned nodes
      → (IsClean rest (over place h) h → x ≡ node h (over place h))
      → WrittenBelow S node rest place (h + 1) b p pinned (set nodes (S.position (over place h) h - size S b) x)
  written_more node rest b p place h pinned nodes x le count below w value =
      let o = over_is place h in
      let f = over place h in
      let hi = o.high in
      let late : size S b ≤ S.position f h = ⊎_elim (λ (l : S.position f h < size S b).
      absurd (let y : S.birth f h ≤ b = (L.born b f h o.aligned).0 l in omega (arith, L.late f h)))
      (λ (g : size S b ≤ S.position f h). g) (cases_lt (S.position f h) (size S b)) in
      record {
        peaks = w.peaks;
        from = λ a k al lo up clean which.
            ⊎_elim
            (λ (l : S.position a k < S.position f h). get_or-set_other nodes (S.position f h - size S b)
            (S.position a k - size S b) x [] (λ e. absurd (omega arith))
            ∙ w.from a k al lo up clean (before a k al which (λ e. absurd (omega arith))))
            (λ (g : S.position f h ≤ S.position a k). ⊎_elim
            (λ (l : S.position f h < S.position a k). get_or-set_other nodes (S.position f h - size S b)
            (S.position a k - size S b) x [] (λ e. absurd (omega arith))
            ∙ w.from a k al lo up clean (before a k al which (λ e. absurd (omega arith))))
            (λ (m : S.position a k ≤ S.position f h).
            let at : S.position f h ≡ S.position a k = omega arith in
            let s = L.injective f h a k o.aligned al at in
            ap (λ q. get_or (set nodes (S.position f h - size S b) x) (q - size S b) []) (sym at)
            ∙ get_or-set_same nodes (S.position f h - size S b) x [] (omega arith)
            ∙ value (λ j c u v. clean j c (let e : f ≡ a = s.0 in omega arith)
            (let e : f ≡ a = s.0 in let e2 : 2 ^ h ≡ 2 ^ k = ap (λ y. 2 ^ y) s.1 in omega arith))
            ∙ ap₂ (λ u v. node v u) s.0 s.1)
            (cases_lt (S.position f h) (S.position a k)))
            (cases_lt (S.position a k) (S.position f h));
      }
    where
      before : (a k : ℕ) → a % 2 ^ k ≡ 0 → (k < h + 1) ⊎ (a ≤ place → place < a + 2 ^ k → ⊥)
          → (S.position a k ≡ S.position (over place h) h → ⊥) → (k < h) ⊎ (a ≤ place → place < a + 2 ^ k → ⊥)
      before a k al (inr out) ne = inr out
      before a k al (inl l) ne =
          ⊎_elim
          (λ (m : k < h). inl m)
          (λ (g : h ≤ k).
          let e : k ≡ h = omega arith in
          inr (λ u v. ne (ap₂ S.position (over_one place k a al u v ∙ ap (over place) e) e)))
          (cases_lt k h)

  -- no node over the leaf is left
  pub written_all : (node : ℕ → ℕ → List ℕ) (rest : List ℕ) (b n place h : ℕ) (pinned nodes : List (List ℕ))
      → n < S.birth (over place h) h → WrittenBelow S node rest place h b (size S n) pinned nodes
      → HoldsDigests S node rest b (size S n) pinned nodes
  written_all node rest b n place h pinned nodes none w = record {
    peaks = w.peaks;
    from = λ a k al lo up clean. w.from a k al lo up clean
        (⊎_elim
        (λ (l : k < h). inl l)
        (λ (g : h ≤ k). inr (λ u v.
        let o = over_is place h in
        let o1 = o.low in
        let o2 = o.high in
        let i : Inside (S.peaks n) 0 a k = (L.inside n a k al).1 ((L.born n a k al).0 up) in
        let al' : a % 2 ^ h ≡ 0 = multiple_down a h k g al in
        let q : (a + 2 ^ k) % 2 ^ h ≡ 0 = multiple_add a (2 ^ k) (2 ^ h) (pow_pos h) al' (power_multiple k h g) in
        let low : a ≤ over place h = ⊎_elim (λ (x : over place h < a).
        absurd (let y : over place h + 2 ^ h ≤ a = next (over place h) a (2 ^ h) o.aligned al' x in omega arith))
        (λ (x : a ≤ over place h). x) (cases_lt (over place h) a) in
        let high : over place h + 2 ^ h ≤ a + 2 ^ k =
        next (over place h) (a + 2 ^ k) (2 ^ h) o.aligned q (omega arith) in
        let j : Inside (S.peaks n) 0 (over place h) h = inside_part (S.peaks n) 0 a k (over place h) h i low high in
        absurd (let y : S.birth (over place h) h ≤ n = (L.inside n (over place h) h o.aligned).0 j in omega arith)))
        (cases_lt k h));
  }

  -- what the node needs of its place
  pub record Room (n place k : ℕ) : Type 0 where
    pub left : over place k % 2 ^ (k - 1) ≡ 0
    pub right : (over place k + 2 ^ (k - 1)) % 2 ^ (k - 1) ≡ 0
    pub fits : S.position (over place k) k < 2 ^ 64
    pub left_fits : S.position (over place k) (k - 1) < 2 ^ 64
    pub right_fits : S.position (over place k + 2 ^ (k - 1)) (k - 1) < 2 ^ 64

  pub room : (n place k : ℕ) → n ≤ 2 ^ 62 → place < n → 1 ≤ k → k ≤ 62 → Room n place k
  room n place zero few l one small = absurd (omega arith)
  room n place (suc k) few l one small =
      let e : suc k - 1 ≡ k = omega arith in
      let o = over_is place (suc k) in
      let s = small_over place (suc k) (omega arith) small in
      let two = pow_two k in
      let f : S.position (over place (suc k)) (suc k) < 2 ^ 64 =
      early_fits S L (over place (suc k)) (suc k) o.aligned (omega arith) in
      let c = L.children (over place (suc k)) k o.aligned in
      let al : over place (suc k) % 2 ^ k ≡ 0 = multiple_down (over place (suc k)) k (suc k) (omega arith) o.aligned in
      record {
        left = rw e al;
        right =
            rw e (multiple_add (over place (suc k)) (2 ^ k) (2 ^ k) (pow_pos k) al (power_multiple k k (omega arith)));
        fits = f;
        left_fits = rw e (omega (arith, c.0));
        right_fits = rw e (omega (arith, c.1));
      }

  pub children_over_at : (b n place k : ℕ) → 1 ≤ k → b ≤ place → S.birth (over place k) k ≤ n
      → IsKept S L b (size S n) (over place k) (k - 1) × IsKept S L b (size S n) (over place k + 2 ^ (k - 1)) (k - 1)
  children_over_at b n place zero one le there = absurd (omega arith)
  children_over_at b n place (suc k) one le there = let e : suc k - 1 ≡ k = omega arith in
      rw e (children_over b n place k le there)

  module _ (h : HashFunction) (T : Layout) (chunk : ℕ → List ℕ) where
    pub above_is : (list : List (List ℕ)) (a k : ℕ) (x y z : List ℕ) → 1 ≤ k → x ≡ node_over h T chunk list (k - 1) a
        → y ≡ node_over h T chunk list (k - 1) (a + 2 ^ (k - 1)) → z ≡ join_digest h T chunk a k x y
        → z ≡ node_over h T chunk list k a
    above_is list a zero x y z one l r m = absurd (omega arith)
    above_is list a (suc k) x y z one l r m =
        let km : suc k - 1 ≡ k = omega arith in
        m ∙ ap₂ (join_digest h T chunk a (suc k)) (l ∙ ap (λ j. node_over h T chunk list j a) km) (r
        ∙ ap (λ j. node_over h T chunk list j (a + 2 ^ j)) km)

  pub written_first : (node : ℕ → ℕ → List ℕ) (rest : List ℕ) (b p place : ℕ) (pinned nodes : List (List ℕ))
      (x : List ℕ) (i : ℕ) → i ≡ size S place - size S b → b ≤ place → length nodes + size S b ≡ p → size S place < p
      → HoldsDigests S node (place ∷ rest) b p pinned nodes → node 0 place ≡ x
      → WrittenBelow S node rest place 1 b p pinned (set nodes i x)
  written_first node rest b p place pinned nodes x i at le count below h e =
      let o = over_is place 0 in
      let o1 = o.low in
      let o2 = o.high in
      let one : over place 0 ≡ place = omega arith in
      let pos : S.position (over place 0) 0 ≡ size S place = ap (λ m. S.position m 0) one ∙ (L.leaf place).0 in
      let none : WrittenBelow S node rest place 0 b p pinned nodes = record {
        peaks = h.peaks;
        from = λ a k al lo up clean which. h.from a k al lo up (λ j m u v.
            ⊎_elim
            (λ (q : place ≡ j). ⊎_elim (λ (z : k < 0). absurd (omega arith))
            (λ (out : a ≤ place → place < a + 2 ^ k → ⊥). out (omega arith) (omega arith)) which)
            (λ (r : Contains rest j). clean j r u v)
            (either place j rest m));
      } in
      let more = written_more node rest b p place 0 pinned nodes x le count (omega arith) none (λ clean. sym e
      ∙ ap (λ m. node 0 m) (sym one)) in
      let ix : S.position (over place 0) 0 - size S b ≡ i = omega arith in
      ap_written (0 + 1) 1 (omega arith) (S.position (over place 0) 0 - size S b) i ix more
    where
      either : (x j : ℕ) (xs : List ℕ) → Contains (x ∷ xs) j → (x ≡ j) ⊎ Contains xs j
      either x j xs (zero, l, e) = inl e
      either x j xs (suc i, l, e) = inr (i, omega arith, e)

      ap_written : (h h' : ℕ) → h ≡ h' → (i i' : ℕ) → i ≡ i' → WrittenBelow S node rest place h b p pinned
          (set nodes i x) → WrittenBelow S node rest place h' b p pinned (set nodes i' x)
      ap_written h h' eh i i' ei w = subst (λ m. WrittenBelow S node rest place m b p pinned (set nodes i' x)) eh
          (subst (λ m. WrittenBelow S node rest place h b p pinned (set nodes m x)) ei w)

  pub place_late : (b place h : ℕ) → b ≤ place → size S b ≤ S.position (over place h) h
  place_late b place h le =
      let o = over_is place h in
      let hi = o.high in
      ⊎_elim (λ (l : S.position (over place h) h < size S b).
      absurd (let y : S.birth (over place h) h ≤ b = (L.born b (over place h) h o.aligned).0 l in omega (arith, L.late (over place h) h)))
      (λ (g : size S b ≤ S.position (over place h) h). g) (cases_lt (S.position (over place h) h) (size S b))

  pub place_early : (n place h : ℕ) → S.birth (over place h) h ≤ n → S.position (over place h) h < size S n
  place_early n place h l = let o = over_is place h in (L.born n (over place h) h o.aligned).1 l

  pub birth_small : (place h : ℕ) → place < 2 ^ 62 → h ≤ 62 → S.birth (over place h) h < 2 ^ 64
  birth_small place h l s = omega (arith, L.soon (over place h) h, small_over place h l s)

  -- the rest is left to the next leaf, which is below the same node
  pub written_until : (node : ℕ → ℕ → List ℕ) (rest : List ℕ) (coming : Option ℕ) (b n place h : ℕ)
      (pinned nodes : List (List ℕ)) → IsNext coming rest → Reaches coming (over place h) h
      → WrittenBelow S node rest place h b (size S n) pinned nodes → HoldsDigests S node rest b (size S n) pinned nodes
  written_until node rest coming b n place h pinned nodes is reaches w = record {
    peaks = w.peaks;
    from = λ a k al lo up clean. w.from a k al lo up clean
        (⊎_elim
        (λ (l : k < h). inl l)
        (λ (g : h ≤ k). inr (λ u v.
        let o = over_is place h in
        let o1 = o.low in
        let o2 = o.high in
        let r1 : over place h ≤ reaches.0 = reaches.2 in
        let r2 : reaches.0 < over place h + 2 ^ h = reaches.3 in
        let al' : a % 2 ^ h ≡ 0 = multiple_down a h k g al in
        let q : (a + 2 ^ k) % 2 ^ h ≡ 0 = multiple_add a (2 ^ k) (2 ^ h) (pow_pos h) al' (power_multiple k h g) in
        let low : a ≤ over place h = ⊎_elim (λ (x : over place h < a).
        absurd (let y : over place h + 2 ^ h ≤ a = next (over place h) a (2 ^ h) o.aligned al' x in omega arith))
        (λ (x : a ≤ over place h). x) (cases_lt (over place h) a) in
        let high : over place h + 2 ^ h ≤ a + 2 ^ k =
        next (over place h) (a + 2 ^ k) (2 ^ h) o.aligned q (omega arith) in
        clean reaches.0 (is reaches.0 reaches.1) (omega arith) (omega arith)))
        (cases_lt k h));
  }

-- ---- one update after another

pub all_head : {A : Type 0} (P : A → Type 0) (xs rest : List A) (x : A) → xs ≡ x ∷ rest → All P xs → P x
all_head P xs rest x e all = let h : All P (x ∷ rest) = subst (λ ys. All P ys) e all in h 0 x (omega arith)

pub all_tail : {A : Type 0} (P : A → Type 0) (xs rest : List A) (x : A) → xs ≡ x ∷ rest → All P xs → All P rest
all_tail P xs rest x e all k d l = let h : All P (x ∷ rest) = subst (λ ys. All P ys) e all in h (suc k) d (omega arith)

-- the leaves of a list of updates, one by one
pub places_head : {D : Type 0} (updates rest : List (ℕ × D)) (u : ℕ × D) → updates ≡ u ∷ rest → (leaf : ℕ)
    → Contains (u.0 ∷ []) leaf → Contains (map (λ v. v.0) updates) leaf
places_head updates rest u e leaf (zero, below, is) =
    subst (λ us. Contains (map (λ v. v.0) us) leaf) (sym e) (0, omega arith, is)
places_head updates rest u e leaf (suc k, below, is) = absurd (omega arith)

pub places_tail : {D : Type 0} (updates rest : List (ℕ × D)) (u : ℕ × D) → updates ≡ u ∷ rest → (leaf : ℕ)
    → Contains (map (λ v. v.0) rest) leaf → Contains (map (λ v. v.0) updates) leaf
places_tail updates rest u e leaf among =
    subst (λ us. Contains (map (λ v. v.0) us) leaf) (sym e) (suc among.0, omega (arith, among.1), among.2)

contains_front : (xs ys : List ℕ) (n : ℕ) → Contains xs n → Contains (xs ++ ys) n
contains_front xs ys n c = (c.0, omega (arith, length-append xs ys, c.1), get_or_append_left xs ys n c.0 c.1 ∙ c.2)

-- what is known of some leaves is known of fewer
pub holds_less : (S : Shape) (node : ℕ → ℕ → List ℕ) (dirty : List ℕ) (b p : ℕ) (pinned nodes : List (List ℕ))
    → HoldsDigests S node [] b p pinned nodes → HoldsDigests S node dirty b p pinned nodes
holds_less S node dirty b p pinned nodes h =
    record { peaks = h.peaks; from = λ a k al lo up clean. h.from a k al lo up (clean_none a k) }

module _ (S : Shape) (L : Laws S) (h : HashFunction) (T : Layout) (chunk : ℕ → List ℕ) where
  -- a dirty leaf's digest is changed in the list
  pub holds_set : (list : List (List ℕ)) (place : ℕ) (d : List ℕ) (dirty : List ℕ) (b p : ℕ)
      (pinned nodes : List (List ℕ)) → b ≤ place → HoldsDigests S (node_over h T chunk list) (place ∷ dirty) b p pinned nodes
      → HoldsDigests S (node_over h T chunk (set list place d)) (place ∷ dirty) b p pinned nodes
  holds_set list place d dirty b p pinned nodes le held = record {
    peaks = held.peaks ∙ peaks_same h T chunk list (set list place d) (S.peaks b) 0
        (λ j u w. sym (get_or-set_other list place j d [] (λ e. absurd (omega (arith, L.sum b)))));
    from =
        λ a k al lo up clean. held.from a k al lo up clean ∙ node_same h T chunk list (set list place d) k a (λ j u w.
        sym (get_or-set_other list place j d [] (λ e. clean place (0, omega arith, refl) (omega arith) (omega arith))));
  }

  -- what stands after some updates, of which some are left
  pub record Halfway {D : Type 0} (text : D → List ℕ) (list : List (List ℕ)) (updates left : List (ℕ × D))
      (dirty : List ℕ) (b n : ℕ) (pinned nodes : List (List ℕ)) : Type 0 where
    pub now : List (List ℕ)
    pub len : length now ≡ n
    pub same : list_updated now (map (λ u. (u.0, text u.1)) left) ≡ list_updated list (map (λ u. (u.0, text u.1)) updates)
    pub holds : HoldsDigests S (node_over h T chunk now) (map (λ u. u.0) left ++ dirty) b (size S n) pinned nodes

  pub halfway_next : {D : Type 0} (text : D → List ℕ) (list : List (List ℕ)) (updates left rest : List (ℕ × D))
      (u : ℕ × D) (dirty : List ℕ) (b n place : ℕ) (pinned nodes nodes' : List (List ℕ)) (coming : Option ℕ)
      → left ≡ u ∷ rest → place ≡ u.0 → b ≤ place → place < n → IsNext coming (map (λ v. v.0) rest)
      → ((list : List (List ℕ)) (dirty : List ℕ) → IsNext coming dirty
      → HoldsDigests S (node_over h T chunk list) (place ∷ dirty) b (size S n) pinned nodes
      → get_or list place [] ≡ text u.1 → HoldsDigests S (node_over h T chunk list) dirty b (size S n) pinned nodes')
      → Halfway text list updates left dirty b n pinned nodes → Halfway text list updates rest dirty b n pinned nodes'
  halfway_next text list updates left rest u dirty b n place pinned nodes nodes' coming e at lo hi is write w =
      let d = text u.1 in
      let w' : Halfway text list updates (u ∷ rest) dirty b n pinned nodes =
      subst (λ us. Halfway text list updates us dirty b n pinned nodes) e w in
      let held : HoldsDigests S (node_over h T chunk w'.now) (place ∷ (map (λ v. v.0) rest ++ dirty)) b
      (size S n) pinned nodes = subst (λ m. HoldsDigests S (node_over h T chunk w'.now)
      (m ∷ (map (λ v. v.0) rest ++ dirty)) b (size S n) pinned nodes) (sym at) w'.holds in
      record {
        now = set w'.now place d;
        len = length-set w'.now place d ∙ w'.len;
        same = ap (λ m. list_updated (set w'.now m d) (map (λ v. (v.0, text v.1)) rest)) at ∙ w'.same;
        holds = write (set w'.now place d) (map (λ v. v.0) rest ++ dirty)
            (λ m f. contains_front (map (λ v. v.0) rest) dirty m (is m f))
            (holds_set w'.now place d (map (λ v. v.0) rest ++ dirty) b (size S n) pinned nodes lo held)
            (get_or-set_same w'.now place d [] (omega (arith, w'.len)));
      }

  pub halfway_end : {D : Type 0} (text : D → List ℕ) (list : List (List ℕ)) (updates left : List (ℕ × D))
      (dirty : List ℕ) (b n : ℕ) (pinned nodes : List (List ℕ)) → length left ≡ 0
      → Halfway text list updates left dirty b n pinned nodes → HoldsDigests S
      (node_over h T chunk (list_updated list (map (λ u. (u.0, text u.1)) updates))) dirty b (size S n) pinned nodes
  halfway_end text list updates [] dirty b n pinned nodes e w =
      subst (λ xs. HoldsDigests S (node_over h T chunk xs) dirty b (size S n) pinned nodes) w.same w.holds
  halfway_end text list updates (u ∷ left) dirty b n pinned nodes e w = absurd (omega arith)

pub length_updated : (list : List (List ℕ)) (es : List (ℕ × List ℕ)) → length (list_updated list es) ≡ length list
length_updated list [] = refl
length_updated list (e ∷ es) = length_updated (set list e.0 e.1) es ∙ length-set list e.0 e.1
