-- A range check with its nodes before the start expanded down to the pinned ones.
use Rattle.std.proofs.Common.{◌≡◌, ℕ, zero, suc, ◌+◌, ◌-◌, ◌*◌, ◌<◌, ◌≤◌, ◌^◌, List, [], ◌∷◌, ◌++◌, length, map, get_or, Bool, true, false, if◌then◌else◌, ◌||◌, Contains, inl, inr, refl, sym, ap, ap₂, ◌∙◌, arith, subst, leb, leb-true, le-leb, pow-suc, Option}
use Rattle.std.proofs.lemmas.List.{map-append}
use Rattle.std.proofs.lemmas.List.Elements.{Contains-append_left, Contains-append_right}
use Rattle.storage_codec.specs.Digests.{HashFunction}
use Rattle.storage_merkle.specs.Shape.{Shape}
use Rattle.storage_merkle.specs.declared.merkle.bagging.Bagging.{Bagging}
use Rattle.storage_merkle.specs.Calc.{Site, front, back, node, Calc, given, leaf, pair, be8, eval, strings}
use Rattle.storage_merkle.specs.Trees.{Peak, listed, ungrafted, node_calc, join_calc, part, peaks_of, folded, unfolded, fold_forward, bag, strings_bag}
use Rattle.storage_merkle.specs.RangeProofs.{Proof, apart, leading, not_leading, up_to, trailing, one_for, check_bag, fold_digest, look_up, range_sites, sites_of, sites_in, sites_over, by_position, same_site}
use Rattle.storage_merkle.specs.Pinned.{pinned_sites, pinned_cut, pinned_values, leading_folded, is_earlier, recomputed, recomputed_strings, Match, match_strings}
use Rattle.storage_merkle.proofs.Prune.{leading-all, up_to-all}
use Rattle.storage_merkle.proofs.Agreeing.{AllPeaks, up_to-leading}
use Rattle.storage_merkle.proofs.Distinct.{times, one_if, times-append, times-join, times-by_position, times-in, same_itself}
use Rattle.storage_merkle.proofs.RangeSound.{or-false}
use Rattle.storage_merkle.proofs.RangeOwn.{same_site-eq}
use Rattle.storage_merkle.proofs.Extracted.{tells}
use Rattle.storage_merkle.proofs.Expand.{cut_given, cut_leaf, cut_join, bare, Expands, ExpandsAll, ExpandsBag, expands_join, expands_bag, all_append, bag_front}

or-left : (x y : Bool) → x ≡ true → (x || y) ≡ true
or-left true y e = refl
or-left false y e = cc

pub or-last : (x y : Bool) → y ≡ true → (x || y) ≡ true
or-last true y e = refl
or-last false y e = e

-- a relation of two calculations, at equal ones
both : (P : Calc → Calc → Type 0) (t t' u u' : Calc) → t ≡ t' → u ≡ u' → P t' u' → P t u
both P t t' u u' e f x = subst (λ y. P y u) (sym e) (subst (λ y. P t' y) (sym f) x)

-- one calculation under some values has the digest and the strings of another one under others
module _ (h : HashFunction) (d e : Site → List ℕ) (x y : ℕ → List ℕ) where
  pub record Alike (t u : Calc) : Type 0 where
    pub same : eval h (bare d x) t ≡ eval h (bare e y) u
    pub strings_same : strings h (bare d x) t ≡ strings h (bare e y) u

  alike_pair : (p : List ℕ) (l r l' r' : Calc) → Alike l l' → Alike r r' → Alike (pair p l r) (pair p l' r')
  alike_pair p l r l' r' a b =
      let q : p ++ (eval h (bare d x) l ++ eval h (bare d x) r) ≡ p ++ (eval h (bare e y) l' ++ eval h (bare e y) r') =
      ap₂ (λ s t. p ++ (s ++ t)) a.same b.same in
      record {
        same = ap h q;
        strings_same = ap₂ (λ s ts. s ∷ ts) q (ap₂ (λ s t. s ++ t) a.strings_same b.strings_same);
      }

  alike_join : (S : Shape) (a k : ℕ) (l r l' r' : Calc) → Alike l l' → Alike r r'
      → Alike (join_calc (ungrafted S) a k l r) (join_calc (ungrafted S) a k l' r')
  alike_join S a k l r l' r' s t = alike_pair (be8 (S.position a k)) l r l' r' s t

  alike_forward : (f g : Peak → Calc) (P : Peak → Type 0) → ((p : Peak) → P p → Alike (f p) (g p)) → (ps : List Peak)
      (t u : Calc) → Alike t u → AllPeaks P ps → Alike (fold_forward t (map f ps)) (fold_forward u (map g ps))
  alike_forward f g P each [] t u a q = a
  alike_forward f g P each (p ∷ ps) t u a q =
      alike_forward f g P each ps _ _ (alike_pair [] t (f p) u (g p) a (each p q.0)) q.1

module _ (h : HashFunction) (S : Shape) (b : Bagging) (proof : Proof) (start : ℕ)
    (elements pinned : List (List ℕ)) where
  abbrev pub read : Site → List ℕ
  read s = look_up (h []) (range_sites h (ungrafted S) b proof start (listed elements)) proof.digests s

  abbrev pub claimed_element : ℕ → List ℕ
  claimed_element j = get_or elements (j - start) []

  abbrev pub pinned_read : Site → List ℕ
  pinned_read s = look_up (h []) (pinned_sites h (ungrafted S) b proof start (listed elements) pinned) pinned s

  abbrev pub cutp : ℕ → ℕ → Bool
  cutp = pinned_cut h (ungrafted S) b proof start (listed elements) pinned

  -- the digests, from the pinned ones before the start
  abbrev pub deep_read : Site → List ℕ
  deep_read front = read front
  deep_read back = read back
  deep_read (node a k) = if leb (a + 2 ^ k) start then pinned_read (node a k) else read (node a k)

  abbrev pub deep_cut : ℕ → ℕ → Bool
  deep_cut a k = if leb (a + 2 ^ k) start then cutp a k else leb (start + length elements) a

  pub deep_cut-in : (a k : ℕ) → a + 2 ^ k ≤ start → deep_cut a k ≡ cutp a k
  deep_cut-in a k l = rw (le-leb (a + 2 ^ k) start l) refl

  pub deep_read-in : (a k : ℕ) → a + 2 ^ k ≤ start → deep_read (node a k) ≡ pinned_read (node a k)
  deep_read-in a k l = rw (le-leb (a + 2 ^ k) start l) refl

  inside_alike : (k a : ℕ) → a + 2 ^ k ≤ start → Alike h pinned_read deep_read (λ j. []) claimed_element
      (node_calc (ungrafted S) cutp k a) (node_calc (ungrafted S) deep_cut k a)
  inside_alike zero a l =
      let c : cutp a 0 ≡ true = refl in
      let one = cut_given S cutp 0 a c in
      let two = cut_given S deep_cut 0 a (deep_cut-in a 0 l ∙ c) in
      let R : Calc → Calc → Type 0 = Alike h pinned_read deep_read (λ j. []) claimed_element in
      let base : R (given (node a 0)) (given (node a 0)) =
      record { same = sym (deep_read-in a 0 l); strings_same = refl } in
      subst (λ t. R t (node_calc (ungrafted S) deep_cut 0 a)) (sym one)
      (subst (λ u. R (given (node a 0)) u) (sym two) base)
  inside_alike (suc k) a l =
      let R : Calc → Calc → Type 0 = Alike h pinned_read deep_read (λ j. []) claimed_element in
      let twice : 2 ^ suc k ≡ 2 ^ k * 2 = pow-suc 2 k in
      elim (tells (cutp a (suc k))) [
        | inl c ↦
            let one = cut_given S cutp (suc k) a c in
            let two = cut_given S deep_cut (suc k) a (deep_cut-in a (suc k) l ∙ c) in
            let base : R (given (node a (suc k))) (given (node a (suc k))) =
            record { same = sym (deep_read-in a (suc k) l); strings_same = refl } in
            subst (λ t. R t (node_calc (ungrafted S) deep_cut (suc k) a)) (sym one)
            (subst (λ u. R (given (node a (suc k))) u) (sym two) base)
        | inr c ↦
            let one = cut_join S cutp k a c in
            let two = cut_join S deep_cut k a (deep_cut-in a (suc k) l ∙ c) in
            let base = alike_join h pinned_read deep_read (λ j. []) claimed_element S a (suc k) _ _ _ _
            (inside_alike k a (omega arith)) (inside_alike k (a + 2 ^ k) (omega arith)) in
            both R _ _ _ _ one two base
      ]

  module _ (X : List (List ℕ)) where
    -- what the check says of the digest at a site
    abbrev Checked : Site → Type 0
    Checked s = is_earlier start s ≡ true
        → (read s ≡ recomputed h (ungrafted S) b proof start (listed elements) pinned s) × ((x : List ℕ)
        → Contains (recomputed_strings h (ungrafted S) b proof start (listed elements) pinned s) x → Contains X x)

    abbrev pub Deep : Calc → Calc → Type 0
    Deep t u = Expands h read deep_read claimed_element X t u

    deep_given : (k a : ℕ) → apart start (start + length elements) a k ≡ true → Checked (node a k)
        → Deep (given (node a k)) (node_calc (ungrafted S) deep_cut k a)
    deep_given k a c ch =
        elim (tells (leb (a + 2 ^ k) start)) [
          | inl e ↦
              let l : a + 2 ^ k ≤ start = leb-true _ _ e in
              let al = inside_alike k a l in
              let r = ch e in
              record {
                same = r.0
                    ∙ al.same;
                within = λ x m. inr (r.1 x (subst (λ ys. Contains ys x) (sym al.strings_same) m));
              }
          | inr e ↦
              let past : leb (start + length elements) a ≡ true =
              subst (λ z. (z || leb (start + length elements) a) ≡ true) e c in
              let dc : deep_cut a k ≡ true = rw e past in
              let dr : read (node a k) ≡ deep_read (node a k) = rw e refl in
              let base : Deep (given (node a k)) (given (node a k)) = record { same = dr; within = λ x m. inl m } in
              subst (λ u. Deep (given (node a k)) u) (sym (cut_given S deep_cut k a dc)) base
        ]

    deep_open : (k a : ℕ) → apart start (start + length elements) a k ≡ false → deep_cut a k ≡ false
    deep_open k a c = let r = or-false (leb (a + 2 ^ k) start) (leb (start + length elements) a) c in rw r.0 r.1

    deep_node : (k a : ℕ) → ((s : Site) → 1
        ≤ times s (sites_of (node_calc (ungrafted S) (apart start (start + length elements)) k a)) → Checked s) → Deep
        (node_calc (ungrafted S) (apart start (start + length elements)) k a) (node_calc (ungrafted S) deep_cut k a)
    deep_node zero a ch =
        let cut = apart start (start + length elements) in
        elim (tells (cut a 0)) [
          | inl c ↦
              let e = cut_given S cut 0 a c in
              let here : 1 ≤ times (node a 0) (sites_of (node_calc (ungrafted S) cut 0 a)) =
              subst (λ t. 1 ≤ times (node a 0) (sites_of t)) (sym e)
              (omega (arith, ap one_if (same_itself (node a 0)))) in
              subst (λ t. Deep t (node_calc (ungrafted S) deep_cut 0 a)) (sym e) (deep_given 0 a c (ch (node a 0) here))
          | inr c ↦
              let base : Deep (leaf (be8 (S.position a 0)) a) (leaf (be8 (S.position a 0)) a) =
              record { same = refl; within = λ x m. inl m } in
              subst (λ t. Deep t (node_calc (ungrafted S) deep_cut 0 a)) (sym (cut_leaf S cut a c)) (subst
              (λ u. Deep (leaf (be8 (S.position a 0)) a) u) (sym (cut_leaf S deep_cut a (deep_open 0 a c))) base)
        ]
    deep_node (suc k) a ch =
        let cut = apart start (start + length elements) in
        elim (tells (cut a (suc k))) [
          | inl c ↦
              let e = cut_given S cut (suc k) a c in
              let here : 1 ≤ times (node a (suc k)) (sites_of (node_calc (ungrafted S) cut (suc k) a)) =
              subst (λ t. 1 ≤ times (node a (suc k)) (sites_of t)) (sym e)
              (omega (arith, ap one_if (same_itself (node a (suc k))))) in
              subst (λ t. Deep t (node_calc (ungrafted S) deep_cut (suc k) a)) (sym e)
              (deep_given (suc k) a c (ch (node a (suc k)) here))
          | inr c ↦
              let e = cut_join S cut k a c in
              let total : (s : Site) → times s (sites_of (node_calc (ungrafted S) cut (suc k) a))
              ≡ times s (sites_of (node_calc (ungrafted S) cut k a))
              + times s (sites_of (node_calc (ungrafted S) cut k (a + 2 ^ k))) =
              λ s. ap (λ t. times s (sites_of t)) e ∙ times-join s (ungrafted S) a (suc k)
              (node_calc (ungrafted S) cut k a) (node_calc (ungrafted S) cut k (a + 2 ^ k)) in
              let l = deep_node k a (λ s m. ch s (omega (arith, total s))) in
              let r = deep_node k (a + 2 ^ k) (λ s m. ch s (omega (arith, total s))) in
              both Deep _ _ _ _ e (cut_join S deep_cut k a (deep_open (suc k) a c))
              (expands_join h read deep_read claimed_element X S a (suc k) _ _ _ _ l r)
        ]

    deep_parts : (ps : List Peak)
        → ((s : Site) → 1 ≤ times s (sites_in (ungrafted S) (apart start (start + length elements)) ps) → Checked s)
        → ExpandsAll h read deep_read claimed_element X
        (map (part (ungrafted S) (apart start (start + length elements))) ps) (map (part (ungrafted S) deep_cut) ps)
    deep_parts [] ch = tt
    deep_parts (p ∷ ps) ch =
        let total : (s : Site) → times s (sites_in (ungrafted S) (apart start (start + length elements)) (p ∷ ps))
        ≡ times s (sites_of (part (ungrafted S) (apart start (start + length elements)) p))
        + times s (sites_in (ungrafted S) (apart start (start + length elements)) ps) = λ s. times-append s _ _ in (
          deep_node p.height p.first (λ s m. ch s (omega (arith, total s))),
          deep_parts ps (λ s m. ch s (omega (arith, total s))),
        )

    all_before : (ps : List Peak) → AllPeaks (λ p. p.first + 2 ^ p.height ≤ start) (leading start ps)
    all_before [] = tt
    all_before (p ∷ ps) = elim (tells (leb (p.first + 2 ^ p.height) start)) [
      | inl e ↦ rw e (leb-true _ _ e, all_before ps)
      | inr e ↦ rw e tt
    ]

    abbrev front_items : List Peak → List Calc
    front_items [] = []
    front_items (p ∷ ps) = fold_forward (part (ungrafted S) deep_cut p) (map (part (ungrafted S) deep_cut) ps) ∷ []

    part_alike : (p : Peak) → p.first + 2 ^ p.height ≤ start → Alike h pinned_read deep_read (λ j. []) claimed_element
        (part (ungrafted S) cutp p) (part (ungrafted S) deep_cut p)
    part_alike p l = inside_alike p.height p.first l

    deep_front : (ls : List Peak) → leading_folded h (ungrafted S) b proof start (listed elements) pinned ≡ ls
        → AllPeaks (λ p. p.first + 2 ^ p.height ≤ start) ls → ((s : Site) → 1 ≤ times s (one_for front ls) → Checked s)
        → ExpandsAll h read deep_read claimed_element X (one_for (given front) ls) (front_items ls)
    deep_front [] e al ch = tt
    deep_front (l ∷ ls) e al ch =
        let r = ch front (omega arith) refl in
        let a = alike_forward h pinned_read deep_read (λ j. []) claimed_element (part (ungrafted S) cutp)
        (part (ungrafted S) deep_cut) (λ p. p.first + 2 ^ p.height ≤ start) part_alike ls _ _
        (part_alike l al.0) al.1 in
        let v = pinned_values h (ungrafted S) b proof start (listed elements) pinned in
        let one : read front ≡ eval h v (fold_forward (part (ungrafted S) cutp l) (map (part (ungrafted S) cutp) ls)) =
        subst (λ qs. read front ≡ fold_digest h v (bag (map (part (ungrafted S) cutp) qs) [])) e r.0 in
        let two =
        λ (x : List ℕ) (m : Contains (strings h v (fold_forward (part (ungrafted S) cutp l) (map (part (ungrafted S) cutp) ls))) x).
        r.1 x (subst (λ qs. Contains (strings_bag h v (bag (map (part (ungrafted S) cutp) qs) [])) x) (sym e) m) in (
          record {
            same = one
                ∙ a.same;
            within = λ x m. inr (two x (subst (λ ys. Contains ys x) (sym a.strings_same) m));
          },
          tt,
        )

    deep_back : (ts : List Peak) → ExpandsAll h read deep_read claimed_element X (one_for (given back) ts) (one_for (given back) ts)
    deep_back [] = tt
    deep_back (t ∷ ts) = (record { same = refl; within = λ x m. inl m }, tt)

    front_bag : (ls ns : List Peak) (ys : List Calc) → bag (front_items ls ++ map (part (ungrafted S) deep_cut) ns) ys
        ≡ bag (map (part (ungrafted S) deep_cut) (ls ++ ns)) ys
    front_bag [] ns ys = refl
    front_bag (l ∷ ls) ns ys = bag_front (part (ungrafted S) deep_cut l) (map (part (ungrafted S) deep_cut) ls)
        (map (part (ungrafted S) deep_cut) ns) ys
        ∙ ap (λ zs. bag (part (ungrafted S) deep_cut l ∷ zs) ys) (sym (map-append (part (ungrafted S) deep_cut) ls ns))

    -- the expanded calculation
    abbrev pub deep_bag : Option Calc
    deep_bag = bag (map (part (ungrafted S) deep_cut) (folded b proof.inactive (peaks_of (ungrafted S) proof.leaves)))
        (map (part (ungrafted S) deep_cut) (up_to (start + length elements)
        (unfolded b proof.inactive (peaks_of (ungrafted S) proof.leaves))) ++ one_for (given back)
        (trailing (start + length elements) (unfolded b proof.inactive (peaks_of (ungrafted S) proof.leaves))))

    pub deep_all : 0 < length elements
        → ((s : Site) → 1 ≤ times s (range_sites h (ungrafted S) b proof start (listed elements)) → Checked s)
        → ExpandsBag h read deep_read claimed_element X
        (check_bag (ungrafted S) start (start + length elements) b proof.leaves proof.inactive) deep_bag
    deep_all some ch =
        let high = start + length elements in
        let nonempty : start < high = omega arith in
        let xs = folded b proof.inactive (peaks_of (ungrafted S) proof.leaves) in
        let ys = unfolded b proof.inactive (peaks_of (ungrafted S) proof.leaves) in
        let ls = leading start xs in
        let ns = not_leading start xs in
        let ms = leading start ys in
        let os = not_leading start ys in
        let us = up_to high ys in
        let ts = trailing high ys in
        let F = one_for front ls in
        let A = sites_in (ungrafted S) (apart start high) ms in
        let B = sites_in (ungrafted S) (apart start high) (trailing high ns) in
        let C = one_for back ts in
        let D = sites_in (ungrafted S) (apart start high) (up_to high ns) in
        let E = sites_in (ungrafted S) (apart start high) (up_to high os) in
        let total : (s : Site) → times s (sites_over (ungrafted S) start high xs ys)
        ≡ times s F + (times s A + (times s B + (times s C + (times s D + times s E)))) =
        λ s. omega (
          arith,
          times-append s F (A ++ (B ++ (C ++ by_position (ungrafted S) (D ++ E)))),
          times-append s A (B ++ (C ++ by_position (ungrafted S) (D ++ E))),
          times-append s B
              (C ++ by_position (ungrafted S) (D ++ E)),
          times-append s C (by_position (ungrafted S) (D ++ E)),
          times-by_position (ungrafted S) s (D ++ E),
          times-append s D E,
        ) in
        let front_part = deep_front ls refl (all_before xs) (λ s l. ch s (omega (arith, total s))) in
        let inner = deep_parts ns (λ s l.
        ch s (omega (
          arith,
          total s,
          times-in (ungrafted S) (apart start high) s (up_to high ns) (trailing high ns),
          ap (λ ps. times s (sites_in (ungrafted S) (apart start high) ps)) (up_to-all high ns),
        ))) in
        let outer = deep_parts us
        (λ s l. ch s (omega (
          arith,
          total s,
          times-in (ungrafted S) (apart start high) s ms (up_to high os),
          ap
              (λ ps. times s (sites_in (ungrafted S) (apart start high) ps)) (up_to-leading start high nonempty ys),
        ))) in
        let R = ExpandsAll h read deep_read claimed_element X in
        let Y = map (part (ungrafted S) deep_cut) us ++ one_for (given back) ts in
        let r = expands_bag h read deep_read claimed_element X _ _ _ _
        (all_append h read deep_read claimed_element X (one_for (given front) ls) (front_items ls)
        (map (part (ungrafted S) (apart start high)) ns) (map (part (ungrafted S) deep_cut) ns) front_part inner)
        (all_append h read deep_read claimed_element X (map (part (ungrafted S) (apart start high)) us)
        (map (part (ungrafted S) deep_cut) us) (one_for (given back) ts) (one_for (given back) ts) outer (deep_back ts)) in
        subst (λ t. ExpandsBag h read deep_read claimed_element X
        (check_bag (ungrafted S) start high b proof.leaves proof.inactive) t)
        (front_bag ls ns Y ∙ ap (λ ps. bag (map (part (ungrafted S) deep_cut) ps) Y) (leading-all start xs)) r

  -- what a match says of each site
  pub match_reads : (ss : List Site) → Match start read
      (recomputed h (ungrafted S) b proof start (listed elements) pinned) ss → (s : Site) → 1 ≤ times s ss
      → is_earlier start s ≡ true → read s ≡ recomputed h (ungrafted S) b proof start (listed elements) pinned s
  match_reads [] m s l e = absurd (omega arith)
  match_reads (t ∷ ts) m s l e =
      elim (tells (same_site t s)) [
        | inl c ↦ let q = same_site-eq t s c in subst (λ z. is_earlier start z ≡ true
            → read z ≡ recomputed h (ungrafted S) b proof start (listed elements) pinned z) q m.0 e
        | inr c ↦ let z : one_if (same_site t s) ≡ 0 = ap one_if c in match_reads ts m.1 s (omega arith) e
      ]

  pub match_holds : (ss : List Site) (s : Site) → 1 ≤ times s ss → is_earlier start s ≡ true → (x : List ℕ)
      → Contains (recomputed_strings h (ungrafted S) b proof start (listed elements) pinned s) x
      → Contains (match_strings h (ungrafted S) b proof start (listed elements) pinned ss) x
  match_holds [] s l e x m = absurd (omega arith)
  match_holds (t ∷ ts) s l e x m =
      elim (tells (same_site t s)) [
        | inl c ↦
            let q = same_site-eq t s c in
            let here : Contains (if is_earlier start s
            then recomputed_strings h (ungrafted S) b proof start (listed elements) pinned s else []) x = rw e m in
            Contains-append_left _ _ x (subst (λ z. Contains (if is_earlier start z then recomputed_strings h
            (ungrafted S) b proof start (listed elements) pinned z else []) x) (sym q) here)
        | inr c ↦ let z : one_if (same_site t s) ≡ 0 = ap one_if c in
            Contains-append_right _ _ x (match_holds ts s (omega arith) e x m)
      ]
