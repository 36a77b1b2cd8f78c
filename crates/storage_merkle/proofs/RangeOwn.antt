-- The own proof of a tree is accepted.
use Rattle.std.proofs.Common.{◌≡◌, ℕ, zero, suc, ◌+◌, ◌-◌, ◌<◌, ◌≤◌, ◌^◌, List, [], ◌∷◌, ◌++◌, length, map, get_or, Bool, true, false, if◌then◌else◌, inl, refl, sym, ap, ap₂, ◌∙◌, arith, subst, Option, Some, None, leb, leb-false, eqb, eqb-true, ◌&&◌}
use Rattle.std.proofs.lemmas.List.{length-map}
use Rattle.storage_codec.specs.Digests.{HashFunction}
use Rattle.storage_merkle.specs.Shape.{Laws}
use Rattle.storage_merkle.specs.Calc.{Site, front, back, node, Calc, given, leaf, pair, graft, be8, grafted_digest, Values, eval, Agree}
use Rattle.storage_merkle.specs.declared.merkle.bagging.Bagging.{Bagging}
use Rattle.storage_merkle.specs.Trees.{Layout, Content, Peak, peaks_of, folded, unfolded, bag, eval_bag, part, tree_root, root_head, node_calc, join_calc, fold_forward, fold_backward}
use Rattle.storage_merkle.specs.RangeProofs.{Proof, apart, leading, not_leading, up_to, trailing, one_for, check_bag, own_proof, IsAccepted, IsOwn, check_values, look_up, same_site, sites_of, sites_over, sites_in, by_position}
use Rattle.storage_merkle.proofs.Prune.{up_to-all}
use Rattle.storage_merkle.proofs.Agreeing.{AllPeaks, AgreeAll, AgreeBag, up_to-leading}
use Rattle.storage_merkle.proofs.Distinct.{times, one_if, times-append, times-join, times-by_position, times-in, same_itself}
use Rattle.storage_merkle.proofs.RangeSound.{own_values, own-prunes, or-false}
pub use Rattle.storage_merkle.proofs.Under.{all_not_leading, all_up_to, inside_half, IsUnder, under_halves, peaks_under, all_folded}

pub and-true : (x y : Bool) → (x && y) ≡ true → (x ≡ true) × (y ≡ true)
and-true true true e = (refl, refl)
and-true true false e = cc
and-true false true e = cc
and-true false false e = cc

pub same_site-eq : (s t : Site) → same_site s t ≡ true → s ≡ t
same_site-eq front front e = refl
same_site-eq front back e = cc
same_site-eq front (node b m) e = cc
same_site-eq back front e = cc
same_site-eq back back e = refl
same_site-eq back (node b m) e = cc
same_site-eq (node a k) front e = cc
same_site-eq (node a k) back e = cc
same_site-eq (node a k) (node b m) e =
    let r = and-true (eqb a b) (eqb k m) e in
    ap₂ node (eqb-true a b r.0) (eqb-true k m r.1)

other_way : (s t : Site) → same_site s t ≡ false → same_site t s ≡ false
other_way s t e = go (same_site t s) refl
  where
    go : (b : Bool) → same_site t s ≡ b → b ≡ false
    go false f = refl
    go true f = let r = same_site-eq t s f in let g = same_itself s in
        let f' : same_site s t ≡ true = subst (λ u. same_site s u ≡ true) (sym r) g in cc

-- a site of a list has its digest there
pub found : (none : List ℕ) (w : Site → List ℕ) (ss : List Site) (s : Site) → 1 ≤ times s ss
    → look_up none ss (map w ss) s ≡ w s
found none w [] s l = absurd (omega arith)
found none w (t ∷ ts) s l = go (same_site s t) refl (found none w ts s)
  where
    go : (b : Bool) → same_site s t ≡ b → (1 ≤ times s ts → look_up none ts (map w ts) s ≡ w s)
        → (if b then w t else look_up none ts (map w ts) s) ≡ w s
    go true e rest = ap w (sym (same_site-eq s t e))
    go false e rest = rest (let f : one_if (same_site t s) ≡ 0 = ap one_if (other_way s t e) in omega arith)

module _ (v w : Values) where
  pub eval_agree : (h : HashFunction) (t : Calc) → Agree v w t → eval h v t ≡ eval h w t
  eval_agree h (given s) a = a
  eval_agree h (leaf p j) a = ap (λ x. h (p ++ x)) a
  eval_agree h (pair p l r) a = ap₂ (λ x y. h (p ++ (x ++ y))) (eval_agree h l a.0) (eval_agree h r a.1)
  eval_agree h (graft c p l r) a =
      ap₂ (λ x y. grafted_digest h (v.chunk c) (h (be8 p ++ (x ++ y)))) (eval_agree h l a.1.0) (eval_agree h r a.1.1)
      ∙ ap (λ y. grafted_digest h y (h (be8 p ++ (eval h w l ++ eval h w r)))) a.0

  pub bag_eval : (h : HashFunction) (t : Option Calc) → AgreeBag v w t → eval_bag h v t ≡ eval_bag h w t
  bag_eval h None a = refl
  bag_eval h (Some t) a = eval_agree h t a

  forward_of : (t : Calc) (ts : List Calc) → Agree v w t → AgreeAll v w ts → Agree v w (fold_forward t ts)
  forward_of t [] a b = a
  forward_of t (u ∷ ts) a b = forward_of (pair [] t u) ts (a, b.0) b.1

  backward_of : (t : Calc) (ts : List Calc) → Agree v w t → AgreeAll v w ts → Agree v w (fold_backward t ts)
  backward_of t [] a b = a
  backward_of t (u ∷ ts) a b = (a, backward_of u ts b.0 b.1)

  pub bag_of : (xs ys : List Calc) → AgreeAll v w xs → AgreeAll v w ys → AgreeBag v w (bag xs ys)
  bag_of [] [] a b = tt
  bag_of [] (y ∷ ys) a b = backward_of y ys b.0 b.1
  bag_of (x ∷ xs) ys a b = backward_of _ ys (forward_of x xs a.0 a.1) b

  pub append_of : (ts us : List Calc) → AgreeAll v w ts → AgreeAll v w us → AgreeAll v w (ts ++ us)
  append_of [] us a b = b
  append_of (t ∷ ts) us a b = (a.0, append_of ts us a.1 b)

  -- values that agree at each given node, element and chunk of a calculation agree on it; Q goes down from a node to its halves
  module _ (T : Layout) (cut : ℕ → ℕ → Bool) (Q : ℕ → ℕ → Type 0)
      (down : (a k : ℕ) → Q a (suc k) → Q a k × Q (a + 2 ^ k) k)
      (elements : (a : ℕ) → cut a 0 ≡ false → v.element a ≡ w.element a)
      (touched : (a k : ℕ) → Q a (suc k) → cut a (suc k) ≡ false → T.grafted a (suc k) ≡ true → v.chunk a ≡ w.chunk a) where
    join_of : (a k : ℕ) (l r : Calc) → Q a (suc k) → cut a (suc k) ≡ false → Agree v w l → Agree v w r
        → Agree v w (join_calc T a (suc k) l r)
    join_of a k l r q e x y = go (T.grafted a (suc k)) refl
      where
        go : (b : Bool) → T.grafted a (suc k) ≡ b → Agree v w
            (if b then graft a (T.position a (suc k)) l r else pair (be8 (T.position a (suc k))) l r)
        go true t = (touched a k q e t, (x, y))
        go false t = (x, y)

    pub node_of : (k a : ℕ) → Q a k → ((s : Site) → 1 ≤ times s (sites_of (node_calc T cut k a))
        → v.digest s ≡ w.digest s) → Agree v w (node_calc T cut k a)
    node_of zero a q f = go (cut a zero) refl f
      where
        go : (b : Bool) → cut a zero ≡ b → ((s : Site) → 1 ≤ times s (sites_of
            (if b then given (node a zero) else leaf (be8 (T.shape.position a zero)) a)) → v.digest s ≡ w.digest s)
            → Agree v w (if b then given (node a zero) else leaf (be8 (T.shape.position a zero)) a)
        go true e g = let i : one_if (same_site (node a zero) (node a zero)) ≡ 1 =
            ap one_if (same_itself (node a zero)) in g (node a zero) (omega arith)
        go false e g = elements a e
    node_of (suc k) a q f =
        go (cut a (suc k)) refl f (node_of k a (down a k q).0) (node_of k (a + 2 ^ k) (down a k q).1)
      where
        go : (b : Bool) → cut a (suc k) ≡ b
            → ((s : Site) → 1 ≤ times s (sites_of (if b then given (node a (suc k)) else join_calc T a (suc k)
            (node_calc T cut k a) (node_calc T cut k (a + 2 ^ k)))) → v.digest s ≡ w.digest s)
            → (((s : Site) → 1 ≤ times s (sites_of (node_calc T cut k a)) → v.digest s ≡ w.digest s)
            → Agree v w (node_calc T cut k a))
            → (((s : Site) → 1 ≤ times s (sites_of (node_calc T cut k (a + 2 ^ k))) → v.digest s ≡ w.digest s)
            → Agree v w (node_calc T cut k (a + 2 ^ k)))
            → Agree v w (if b then given (node a (suc k))
            else join_calc T a (suc k) (node_calc T cut k a) (node_calc T cut k (a + 2 ^ k)))
        go true e g x y = let i : one_if (same_site (node a (suc k)) (node a (suc k))) ≡ 1 =
            ap one_if (same_itself (node a (suc k))) in g (node a (suc k)) (omega arith)
        go false e g x y = join_of a k _ _ q e
            (x (λ s l.
            g s (omega (arith, times-join s T a (suc k) (node_calc T cut k a) (node_calc T cut k (a + 2 ^ k))))))
            (y (λ s l.
            g s (omega (arith, times-join s T a (suc k) (node_calc T cut k a) (node_calc T cut k (a + 2 ^ k))))))

    pub parts_of : (ps : List Peak) → AllPeaks (λ p. Q p.first p.height) ps
        → ((s : Site) → 1 ≤ times s (sites_in T cut ps) → v.digest s ≡ w.digest s) → AgreeAll v w (map (part T cut) ps)
    parts_of [] q f = tt
    parts_of (p ∷ ps) q f = (
      node_of p.height p.first q.0
          (λ s l. f s (omega (arith, times-append s (sites_of (part T cut p)) (sites_in T cut ps)))),
      parts_of ps q.1 (λ s l. f s (omega (arith, times-append s (sites_of (part T cut p)) (sites_in T cut ps)))),
    )

  front_of : (ps : List Peak) → ((s : Site) → 1 ≤ times s (one_for front ps) → v.digest s ≡ w.digest s)
      → AgreeAll v w (one_for (given front) ps)
  front_of [] f = tt
  front_of (p ∷ ps) f = (f front (omega arith), tt)

  back_of : (ps : List Peak) → ((s : Site) → 1 ≤ times s (one_for back ps) → v.digest s ≡ w.digest s)
      → AgreeAll v w (one_for (given back) ps)
  back_of [] f = tt
  back_of (p ∷ ps) f = (f back (omega arith), tt)

  module _ (T : Layout) (low high : ℕ) (Q : ℕ → ℕ → Type 0) (down : (a k : ℕ) → Q a (suc k) → Q a k × Q (a + 2 ^ k) k)
      (elements : (a : ℕ) → apart low high a 0 ≡ false → v.element a ≡ w.element a)
      (touched : (a k : ℕ) → Q a (suc k) → apart low high a (suc k) ≡ false → T.grafted a (suc k) ≡ true → v.chunk a ≡ w.chunk a) where
    abbrev QPeak : Peak → Type 0
    QPeak p = Q p.first p.height

    over : (ps : List Peak) → AllPeaks (λ p. Q p.first p.height) ps
        → ((s : Site) → 1 ≤ times s (sites_in T (apart low high) ps) → v.digest s ≡ w.digest s)
        → AgreeAll v w (map (part T (apart low high)) ps)
    over ps q f = parts_of T (apart low high) Q down elements touched ps q f

    pub bag_agrees : low < high → (xs ys : List Peak) → AllPeaks (λ p. Q p.first p.height) xs
        → AllPeaks (λ p. Q p.first p.height) ys
        → ((s : Site) → 1 ≤ times s (sites_over T low high xs ys) → v.digest s ≡ w.digest s)
        → AgreeBag v w (bag (one_for (given front) (leading low xs) ++ map (part T (apart low high)) (not_leading low xs))
        (map (part T (apart low high)) (up_to high ys) ++ one_for (given back) (trailing high ys)))
    bag_agrees some xs ys qx qy f =
        let ls = leading low xs in
        let ns = not_leading low xs in
        let ms = leading low ys in
        let os = not_leading low ys in
        let F = one_for front ls in
        let A = sites_in T (apart low high) ms in
        let B = sites_in T (apart low high) (trailing high ns) in
        let C = one_for back (trailing high ys) in
        let D = sites_in T (apart low high) (up_to high ns) in
        let E = sites_in T (apart low high) (up_to high os) in
        let total : (s : Site) → times s (sites_over T low high xs ys)
        ≡ times s F + (times s A + (times s B + (times s C + (times s D + times s E)))) =
        λ s. omega (
          arith,
          times-append s F (A ++ (B ++ (C ++ by_position T (D ++ E)))),
          times-append s A (B ++ (C ++ by_position T (D ++ E))),
          times-append s B (C ++ by_position T (D ++ E)),
          times-append s C (by_position T (D ++ E)),
          times-by_position T s (D ++ E),
          times-append s D E,
        ) in
        bag_of _ _
        (append_of (one_for (given front) ls) (map (part T (apart low high)) ns)
        (front_of ls (λ s l. f s (omega (arith, total s))))
        (over ns (all_not_leading low (λ p. Q p.first p.height) xs qx)
        (λ s l. f s (omega (
          arith,
          total s,
          times-in T (apart low high) s (up_to high ns) (trailing high ns),
          ap (λ ps. times s (sites_in T (apart low high) ps)) (up_to-all high ns),
        )))))
        (append_of (map (part T (apart low high)) (up_to high ys)) (one_for (given back) (trailing high ys))
        (over (up_to high ys) (all_up_to high (λ p. Q p.first p.height) ys qy)
        (λ s l. f s (omega (
          arith,
          total s,
          times-in T (apart low high) s ms (up_to high os),
          ap (λ ps. times s (sites_in T (apart low high) ps)) (up_to-leading low high some ys),
        ))))
        (back_of (trailing high ys) (λ s l. f s (omega (arith, total s)))))

module _ (h : HashFunction) (T : Layout) (L : Laws T.shape) (b : Bagging) (start : ℕ) (claim content : Content)
    (inactive : ℕ) where
  abbrev own : Proof
  own = own_proof h T b content inactive start (start + length claim.elements)

  pub own_agrees : 0 < length claim.elements → (proof : Proof) → IsOwn h T b proof start claim content inactive
      → AgreeBag (check_values h T b own start claim)
      (own_values h T b content (length content.elements) inactive start (start + length claim.elements))
      (check_bag T start (start + length claim.elements) b (length content.elements) inactive)
  own_agrees some proof is =
      let n = length content.elements in
      let high = start + length claim.elements in
      let v = check_values h T b own start claim in
      let w = own_values h T b content n inactive start high in
      let xs = folded b inactive (peaks_of T n) in
      let ys = unfolded b inactive (peaks_of T n) in
      let ks = T.shape.peaks n in
      let q = all_folded (λ z. IsUnder ks z.first z.height) b inactive (peaks_of T n)
      (peaks_under ks ks 0 (L.aligned n) (λ a k i. i)) in
      bag_agrees v w T start high (IsUnder ks) (under_halves ks)
      (λ j out.
      let r = or-false (leb (j + 2 ^ 0) start) (leb high j) out in
      let x : start < j + 2 ^ 0 = leb-false (j + 2 ^ 0) start r.0 in
      let y : j < high = leb-false high j r.1 in
      let e : start + (j - start) ≡ j = omega arith in
      is.elements_are.each (j - start) (omega arith) ∙ ap (λ k. get_or content.elements k []) e)
      (λ a k u out t. is.chunks_are a (suc k) (omega arith) t u.0 u.1 out)
      (omega arith) xs ys q.0 q.1 (λ s l. found (h []) w.digest (sites_over T start high xs ys) s l)

  pub own_accepted : (proof : Proof) → length content.elements ≤ 2 ^ 62
      → inactive ≤ length (T.shape.peaks (length content.elements)) → 0 < length claim.elements
      → IsOwn h T b proof start claim content inactive
      → IsAccepted h T b proof start claim (tree_root h T b content inactive)
  own_accepted proof few peaks some is =
      let n = length content.elements in
      let high = start + length claim.elements in
      let v = check_values h T b own start claim in
      let w = own_values h T b content n inactive start high in
      let t = check_bag T start high b n inactive in
      let root_is = ap (λ x. h (root_head T b n inactive ++ x)) (bag_eval v w h t (own_agrees some proof is)
      ∙ (own-prunes h T b content n inactive start high).same) in
      subst (λ p. IsAccepted h T b p start claim (tree_root h T b content inactive)) (sym is.proof_is)
      (inl (
        record {
          few = few;
          peaks = peaks;
          some = some;
          within = is.elements_are.within;
          count = length-map _ _;
        },
        root_is,
      ))
