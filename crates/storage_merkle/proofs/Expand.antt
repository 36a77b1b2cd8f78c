-- A calculation with the nodes before a leaf expanded down to pinned ones.
use Rattle.std.proofs.Common.{◌≡◌, ℕ, zero, suc, ◌+◌, ◌^◌, List, [], ◌∷◌, ◌++◌, Bool, true, false, ◌⊎◌, Contains, inl, inr, refl, sym, ap, ap₂, subst, Option, Some, None}
use Rattle.std.proofs.lemmas.List.Elements.{Contains-append_left, Contains-append_right, Contains-append_cases}
use Rattle.storage_codec.specs.Digests.{HashFunction}
use Rattle.storage_merkle.specs.Shape.{Shape}
use Rattle.storage_merkle.specs.Calc.{Site, node, Calc, given, leaf, pair, be8, Values, eval, strings}
use Rattle.storage_merkle.specs.Trees.{ungrafted, node_calc, join_calc, fold_forward, fold_backward, bag, eval_bag, strings_bag}
use Rattle.storage_merkle.proofs.Prune.{fold_forward-append}

-- a node's calculation, by what the cut says of it
module _ (S : Shape) (cut : ℕ → ℕ → Bool) where
  pub cut_given : (k a : ℕ) → cut a k ≡ true → node_calc (ungrafted S) cut k a ≡ given (node a k)
  cut_given zero a e = rw e refl
  cut_given (suc k) a e = rw e refl

  pub cut_leaf : (a : ℕ) → cut a 0 ≡ false → node_calc (ungrafted S) cut 0 a ≡ leaf (be8 (S.position a 0)) a
  cut_leaf a e = rw e refl

  pub cut_join : (k a : ℕ) → cut a (suc k) ≡ false → node_calc (ungrafted S) cut (suc k) a
      ≡ join_calc (ungrafted S) a (suc k) (node_calc (ungrafted S) cut k a) (node_calc (ungrafted S) cut k (a + 2 ^ k))
  cut_join k a e = rw e refl

-- the values of a list's calculation
abbrev pub bare : (Site → List ℕ) → (ℕ → List ℕ) → Values
bare f e = record { digest = f; element = e; chunk = λ a. [] }

module _ (h : HashFunction) (f g : Site → List ℕ) (e : ℕ → List ℕ) (X : List (List ℕ)) where
  -- the second calculation has the first one's digest, and its strings but for some of a list
  pub record Expands (t u : Calc) : Type 0 where
    pub same : eval h (bare f e) t ≡ eval h (bare g e) u
    pub within : (x : List ℕ) → Contains (strings h (bare g e) u) x → Contains (strings h (bare f e) t) x ⊎ Contains X x

  expands_pair : (p : List ℕ) (l r l' r' : Calc) → Expands l l' → Expands r r' → Expands (pair p l r) (pair p l' r')
  expands_pair p l r l' r' a b =
      let v = bare f e in
      let w = bare g e in
      let q : p ++ (eval h v l ++ eval h v r) ≡ p ++ (eval h w l' ++ eval h w r') =
      ap₂ (λ x y. p ++ (x ++ y)) a.same b.same in
      record {
        same = ap h q;
        within = λ x m. elim (Contains-append_cases ((p ++ (eval h w l' ++ eval h w r')) ∷ [])
            (strings h w l' ++ strings h w r') x m) [
              | inl here ↦ inl (Contains-append_left ((p ++ (eval h v l ++ eval h v r)) ∷ []) _ x
                  (subst (λ y. Contains (y ∷ []) x) (sym q) here))
              | inr later ↦ elim (Contains-append_cases (strings h w l') (strings h w r') x later) [
                | inl m1 ↦
                    elim (a.within x m1) [
                      | inl y ↦ inl (Contains-append_right ((p ++ (eval h v l ++ eval h v r)) ∷ []) _ x
                          (Contains-append_left (strings h v l) (strings h v r) x y))
                      | inr y ↦ inr y
                    ]
                | inr m2 ↦
                    elim (b.within x m2) [
                      | inl y ↦ inl (Contains-append_right ((p ++ (eval h v l ++ eval h v r)) ∷ []) _ x
                          (Contains-append_right (strings h v l) (strings h v r) x y))
                      | inr y ↦ inr y
                    ]
              ]
            ];
      }

  pub expands_join : (S : Shape) (a k : ℕ) (l r l' r' : Calc) → Expands l l' → Expands r r'
      → Expands (join_calc (ungrafted S) a k l r) (join_calc (ungrafted S) a k l' r')
  expands_join S a k l r l' r' x y = expands_pair (be8 (S.position a k)) l r l' r' x y

  abbrev pub ExpandsAll : List Calc → List Calc → Type 0
  ExpandsAll [] [] = Unit {0}
  ExpandsAll [] (u ∷ us) = ⊥
  ExpandsAll (t ∷ ts) [] = ⊥
  ExpandsAll (t ∷ ts) (u ∷ us) = Expands t u × ExpandsAll ts us

  abbrev pub ExpandsBag : Option Calc → Option Calc → Type 0
  ExpandsBag None None = Unit {0}
  ExpandsBag None (Some u) = ⊥
  ExpandsBag (Some t) None = ⊥
  ExpandsBag (Some t) (Some u) = Expands t u

  pub all_append : (ts us ts' us' : List Calc) → ExpandsAll ts us → ExpandsAll ts' us'
      → ExpandsAll (ts ++ ts') (us ++ us')
  all_append [] [] ts' us' a b = b
  all_append [] (u ∷ us) ts' us' a b = absurd a
  all_append (t ∷ ts) [] ts' us' a b = absurd a
  all_append (t ∷ ts) (u ∷ us) ts' us' a b = (a.0, all_append ts us ts' us' a.1 b)

  expands_forward : (t u : Calc) (ts us : List Calc) → Expands t u → ExpandsAll ts us
      → Expands (fold_forward t ts) (fold_forward u us)
  expands_forward t u [] [] p ps = p
  expands_forward t u [] (y ∷ us) p ps = absurd ps
  expands_forward t u (x ∷ ts) [] p ps = absurd ps
  expands_forward t u (x ∷ ts) (y ∷ us) p ps =
      expands_forward (pair [] t x) (pair [] u y) ts us (expands_pair [] _ _ _ _ p ps.0) ps.1

  expands_backward : (t u : Calc) (ts us : List Calc) → Expands t u → ExpandsAll ts us
      → Expands (fold_backward t ts) (fold_backward u us)
  expands_backward t u [] [] p ps = p
  expands_backward t u [] (y ∷ us) p ps = absurd ps
  expands_backward t u (x ∷ ts) [] p ps = absurd ps
  expands_backward t u (x ∷ ts) (y ∷ us) p ps = expands_pair [] _ _ _ _ p (expands_backward x y ts us ps.0 ps.1)

  pub expands_bag : (xs xs' ys ys' : List Calc) → ExpandsAll xs xs' → ExpandsAll ys ys'
      → ExpandsBag (bag xs ys) (bag xs' ys')
  expands_bag [] [] [] [] a b = tt
  expands_bag [] [] [] (y ∷ ys) a b = absurd b
  expands_bag [] [] (y ∷ ys) [] a b = absurd b
  expands_bag [] [] (y ∷ ys) (y' ∷ ys') a b = expands_backward y y' ys ys' b.0 b.1
  expands_bag [] (x ∷ xs) ys ys' a b = absurd a
  expands_bag (x ∷ xs) [] ys ys' a b = absurd a
  expands_bag (x ∷ xs) (x' ∷ xs') ys ys' a b =
      expands_backward (fold_forward x xs) (fold_forward x' xs') ys ys' (expands_forward x x' xs xs' a.0 a.1) b

  pub bag_same : (t u : Option Calc) → ExpandsBag t u → eval_bag h (bare f e) t ≡ eval_bag h (bare g e) u
  bag_same None None p = refl
  bag_same None (Some u) p = absurd p
  bag_same (Some t) None p = absurd p
  bag_same (Some t) (Some u) p = p.same

  pub bag_within : (t u : Option Calc) → ExpandsBag t u → (x : List ℕ) → Contains (strings_bag h (bare g e) u) x
      → Contains (strings_bag h (bare f e) t) x ⊎ Contains X x
  bag_within None None p x m = inl m
  bag_within None (Some u) p x m = absurd p
  bag_within (Some t) None p x m = absurd p
  bag_within (Some t) (Some u) p x m = p.within x m

-- items folded forwards in front of others
pub bag_front : (x : Calc) (xs zs ys : List Calc) → bag (fold_forward x xs ∷ zs) ys ≡ bag (x ∷ (xs ++ zs)) ys
bag_front x xs zs ys = ap (λ t. Some (fold_backward t ys)) (sym (fold_forward-append x xs zs))
