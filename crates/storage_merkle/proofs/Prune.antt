-- A calculation with some nodes given has the whole one's digest, and fewer strings.
use Rattle.std.proofs.Common.{◌≡◌, ℕ, zero, suc, ◌+◌, ◌^◌, List, [], ◌∷◌, ◌++◌, map, Bool, true, false, if◌then◌else◌, Contains, inl, inr, refl, sym, ap, ◌∙◌, arith, Option, Some, subst, leb}
use Rattle.std.proofs.lemmas.List.{map-append}
use Rattle.std.proofs.lemmas.List.Elements.{Contains-append_left, Contains-append_right, Contains-append_cases}
use Rattle.storage_codec.specs.Digests.{HashFunction}
use Rattle.storage_merkle.specs.Calc.{Site, front, back, node, Calc, given, leaf, pair, graft, be8, grafted_digest, grafted_strings, Values, eval, strings}
use Rattle.storage_merkle.specs.Trees.{Layout, Peak, node_calc, never, whole_peak, part, fold_forward, fold_backward, bag, eval_bag, strings_bag, join_calc}
use Rattle.storage_merkle.specs.RangeProofs.{one_for, leading, not_leading, up_to, trailing}

pub record Prunes (h : HashFunction) (v w : Values) (t u : Calc) : Type 0 where
  pub same : eval h v t ≡ eval h w u
  pub fewer : (x : List ℕ) → Contains (strings h v t) x → Contains (strings h w u) x

pub record PrunesBag (h : HashFunction) (v w : Values) (t u : Option Calc) : Type 0 where
  pub same : eval_bag h v t ≡ eval_bag h w u
  pub fewer : (x : List ℕ) → Contains (strings_bag h v t) x → Contains (strings_bag h w u) x

pub none_in_nil : {P : Type 0} (x : List ℕ) → Contains [] x → P
none_in_nil x m = absurd (omega (arith, m.1))

module _ (h : HashFunction) (v w : Values) where
  pub prunes_given : (s : Site) (u : Calc) → v.digest s ≡ eval h w u → Prunes h v w (given s) u
  prunes_given s u e = record { same = e; fewer = λ x m. none_in_nil x m }

  pub prunes_leaf : (p : List ℕ) (j : ℕ) → v.element j ≡ w.element j → Prunes h v w (leaf p j) (leaf p j)
  prunes_leaf p j e =
      record { same = ap (λ x. h (p ++ x)) e; fewer = λ x m. subst (λ y. Contains ((p ++ y) ∷ []) x) e m }

  fewer_in : (a b : List ℕ) (xs ys xs' ys' : List (List ℕ)) → a ≡ b → ((x : List ℕ) → Contains xs x → Contains xs' x)
      → ((x : List ℕ) → Contains ys x → Contains ys' x) → (x : List ℕ) → Contains (a ∷ (xs ++ ys)) x
      → Contains (b ∷ (xs' ++ ys')) x
  fewer_in a b xs ys xs' ys' e f g x m =
      elim (Contains-append_cases (a ∷ []) (xs ++ ys) x m) [
        | inl here ↦ Contains-append_left (b ∷ []) _ x (subst (λ y. Contains (y ∷ []) x) e here)
        | inr later ↦ Contains-append_right (b ∷ []) _ x (elim (Contains-append_cases xs ys x later) [
          | inl l ↦ Contains-append_left xs' ys' x (f x l)
          | inr r ↦ Contains-append_right xs' ys' x (g x r)
        ])
      ]

  pub prunes_pair : (p : List ℕ) (l r l' r' : Calc) → Prunes h v w l l' → Prunes h v w r r'
      → Prunes h v w (pair p l r) (pair p l' r')
  prunes_pair p l r l' r' a b =
      let e : p ++ (eval h v l ++ eval h v r) ≡ p ++ (eval h w l' ++ eval h w r') = rw (a.same, b.same) in
      record {
        same = ap h e;
        fewer = fewer_in _ _ (strings h v l) (strings h v r) (strings h w l') (strings h w r') e a.fewer b.fewer;
      }

  prunes_graft : (a p : ℕ) (l r l' r' : Calc) → v.chunk a ≡ w.chunk a → Prunes h v w l l' → Prunes h v w r r'
      → Prunes h v w (graft a p l r) (graft a p l' r')
  prunes_graft a p l r l' r' c s t =
      let e : be8 p ++ (eval h v l ++ eval h v r) ≡ be8 p ++ (eval h w l' ++ eval h w r') = rw (s.same, t.same) in
      let gs : grafted_strings (v.chunk a) (h (be8 p ++ (eval h v l ++ eval h v r))) ≡ grafted_strings (w.chunk a)
      (h (be8 p ++ (eval h w l' ++ eval h w r'))) = ap (λ x. grafted_strings (v.chunk a) (h x)) e
      ∙ ap (λ y. grafted_strings y (h (be8 p ++ (eval h w l' ++ eval h w r')))) c in
      record {
        same = ap (λ x. grafted_digest h (v.chunk a) (h x)) e
            ∙ ap (λ y. grafted_digest h y (h (be8 p ++ (eval h w l' ++ eval h w r')))) c;
        fewer = λ x m.
            elim (Contains-append_cases (grafted_strings (v.chunk a) (h (be8 p ++ (eval h v l ++ eval h v r)))) _ x m) [
              | inl here ↦
                  Contains-append_left (grafted_strings (w.chunk a) (h (be8 p ++ (eval h w l' ++ eval h w r')))) _ x
                  (subst (λ y. Contains y x) gs here)
              | inr later ↦
                  Contains-append_right (grafted_strings (w.chunk a) (h (be8 p ++ (eval h w l' ++ eval h w r')))) _ x
                  (fewer_in _ _ (strings h v l) (strings h v r) (strings h w l') (strings h w r') e s.fewer t.fewer x later)
            ];
      }

  module _ (T : Layout) (cut : ℕ → ℕ → Bool) (chunks : (a : ℕ) → v.chunk a ≡ w.chunk a)
      (elements : (j : ℕ) → v.element j ≡ w.element j)
      (nodes : (a k : ℕ) → v.digest (node a k) ≡ eval h w (node_calc T never k a)) where
    prunes_join : (a k : ℕ) (l r l' r' : Calc) → Prunes h v w l l' → Prunes h v w r r'
        → Prunes h v w (join_calc T a k l r) (join_calc T a k l' r')
    prunes_join a k l r l' r' s t =
        elim (T.grafted a k) as (λ b.
        Prunes h v w (if b then graft a (T.position a k) l r else pair (be8 (T.position a k)) l r)
        (if b then graft a (T.position a k) l' r' else pair (be8 (T.position a k)) l' r')) [
          | true ↦ prunes_graft a (T.position a k) l r l' r' (chunks a) s t
          | false ↦ prunes_pair _ l r l' r' s t
        ]

    pub prunes_node : (k a : ℕ) → Prunes h v w (node_calc T cut k a) (node_calc T never k a)
    prunes_node zero a =
        elim (cut a zero) as (λ b. Prunes h v w (if b then given (node a zero)
        else leaf (be8 (T.shape.position a zero)) a) (leaf (be8 (T.shape.position a zero)) a)) [
          | true ↦ prunes_given (node a zero) _ (nodes a zero)
          | false ↦ prunes_leaf _ a (elements a)
        ]
    prunes_node (suc k) a =
        elim (cut a (suc k)) as (λ b. Prunes h v w (if b then given (node a (suc k))
        else join_calc T a (suc k) (node_calc T cut k a) (node_calc T cut k (a + 2 ^ k)))
        (join_calc T a (suc k) (node_calc T never k a) (node_calc T never k (a + 2 ^ k)))) [
          | true ↦ prunes_given (node a (suc k)) _ (nodes a (suc k))
          | false ↦ prunes_join a (suc k) _ _ _ _ (prunes_node k a) (prunes_node k (a + 2 ^ k))
        ]

  abbrev pub PrunesAll : List Calc → List Calc → Type 0
  PrunesAll [] [] = Unit {0}
  PrunesAll [] (u ∷ us) = ⊥
  PrunesAll (t ∷ ts) [] = ⊥
  PrunesAll (t ∷ ts) (u ∷ us) = Prunes h v w t u × PrunesAll ts us

  pub prunes_forward : (t u : Calc) (ts us : List Calc) → Prunes h v w t u → PrunesAll ts us
      → Prunes h v w (fold_forward t ts) (fold_forward u us)
  prunes_forward t u [] [] p ps = p
  prunes_forward t u [] (y ∷ us) p ps = absurd ps
  prunes_forward t u (x ∷ ts) [] p ps = absurd ps
  prunes_forward t u (x ∷ ts) (y ∷ us) p ps =
      prunes_forward (pair [] t x) (pair [] u y) ts us (prunes_pair [] _ _ _ _ p ps.0) ps.1

pub fold_forward-append : (x : Calc) (ys zs : List Calc)
    → fold_forward x (ys ++ zs) ≡ fold_forward (fold_forward x ys) zs
fold_forward-append x [] zs = refl
fold_forward-append x (y ∷ ys) zs = fold_forward-append (pair [] x y) ys zs

pub leading-all : (low : ℕ) (ps : List Peak) → leading low ps ++ not_leading low ps ≡ ps
leading-all low [] = refl
leading-all low (p ∷ ps) =
    elim (leb (p.first + 2 ^ p.height) low) as (λ b. (if b then p ∷ leading low ps else [])
    ++ (if b then not_leading low ps else p ∷ ps) ≡ p ∷ ps) [
      | true ↦ ap (λ qs. p ∷ qs) (leading-all low ps)
      | false ↦ refl
    ]

pub up_to-all : (high : ℕ) (ps : List Peak) → up_to high ps ++ trailing high ps ≡ ps
up_to-all high [] = refl
up_to-all high (p ∷ ps) =
    elim (leb high p.first) as (λ b. (if b then [] else p ∷ up_to high ps)
    ++ (if b then p ∷ ps else trailing high ps) ≡ p ∷ ps) [
      | true ↦ refl
      | false ↦ ap (λ qs. p ∷ qs) (up_to-all high ps)
    ]

module _ (h : HashFunction) (v w : Values) (T : Layout) (cut : ℕ → ℕ → Bool) (chunks : (a : ℕ) → v.chunk a ≡ w.chunk a)
    (elements : (j : ℕ) → v.element j ≡ w.element j)
    (nodes : (a k : ℕ) → v.digest (node a k) ≡ eval h w (node_calc T never k a)) where
  prunes_part : (p : Peak) → Prunes h v w (part T cut p) (whole_peak T p)
  prunes_part p = prunes_node h v w T cut chunks elements nodes p.height p.first

  prunes_parts : (ps : List Peak) → PrunesAll h v w (map (part T cut) ps) (map (whole_peak T) ps)
  prunes_parts [] = tt
  prunes_parts (p ∷ ps) = (prunes_part p, prunes_parts ps)

  -- the peaks in front
  prunes_front : (p : Peak) (ps qs : List Peak)
      → v.digest front ≡ eval h w (fold_forward (whole_peak T p) (map (whole_peak T) ps)) → Prunes h v w
      (fold_forward (given front) (map (part T cut) qs)) (fold_forward (whole_peak T p) (map (whole_peak T) (ps ++ qs)))
  prunes_front p ps qs e =
      let split : fold_forward (whole_peak T p) (map (whole_peak T) (ps ++ qs))
      ≡ fold_forward (fold_forward (whole_peak T p) (map (whole_peak T) ps)) (map (whole_peak T) qs) =
      ap (fold_forward (whole_peak T p)) (map-append (whole_peak T) ps qs)
      ∙ fold_forward-append _ (map (whole_peak T) ps) (map (whole_peak T) qs) in
      subst (λ u. Prunes h v w (fold_forward (given front) (map (part T cut) qs)) u) (sym split)
      (prunes_forward h v w _ _ _ _ (prunes_given h v w front _ e) (prunes_parts qs))

  -- the peaks behind, after an item
  prunes_back : (t u : Calc) (ps qs : List Peak) → Prunes h v w t u → ((q : Peak) (rest : List Peak) → qs ≡ q ∷ rest
      → v.digest back ≡ eval h w (fold_backward (whole_peak T q) (map (whole_peak T) rest))) → Prunes h v w
      (fold_backward t (map (part T cut) ps ++ one_for (given back) qs)) (fold_backward u (map (whole_peak T) (ps ++ qs)))
  prunes_back t u [] [] p e = p
  prunes_back t u [] (q ∷ qs) p e = prunes_pair h v w [] _ _ _ _ p (prunes_given h v w back _ (e q qs refl))
  prunes_back t u (x ∷ ps) qs p e =
      prunes_pair h v w [] _ _ _ _ p (prunes_back (part T cut x) (whole_peak T x) ps qs (prunes_part x) e)

  to_bag : (t u : Calc) → Prunes h v w t u → PrunesBag h v w (Some t) (Some u)
  to_bag t u p = record { same = p.same; fewer = p.fewer }

  pub prunes_bag : (ls ns us ts : List Peak) → ((p : Peak) (rest : List Peak) → ls ≡ p ∷ rest
      → v.digest front ≡ eval h w (fold_forward (whole_peak T p) (map (whole_peak T) rest))) → ((q : Peak) (rest : List Peak)
      → ts ≡ q ∷ rest → v.digest back ≡ eval h w (fold_backward (whole_peak T q) (map (whole_peak T) rest)))
      → PrunesBag h v w (bag (one_for (given front) ls ++ map (part T cut) ns) (map (part T cut) us ++ one_for (given back) ts))
      (bag (map (whole_peak T) (ls ++ ns)) (map (whole_peak T) (us ++ ts)))
  prunes_bag (l ∷ ls) ns us ts f b = to_bag _ _ (prunes_back _ _ us ts (prunes_front l ls ns (f l ls refl)) b)
  prunes_bag [] (n ∷ ns) us ts f b =
      to_bag _ _ (prunes_back _ _ us ts (prunes_forward h v w _ _ _ _ (prunes_part n) (prunes_parts ns)) b)
  prunes_bag [] [] (u ∷ us) ts f b = to_bag _ _ (prunes_back _ _ us ts (prunes_part u) b)
  prunes_bag [] [] [] (t ∷ ts) f b = to_bag _ _ (prunes_given h v w back _ (b t ts refl))
  prunes_bag [] [] [] [] f b = record { same = refl; fewer = λ x m. m }
