-- The multi proofs that a store of a tree gives are the tree's own.
use Rattle.std.proofs.Common.{◌≡◌, ℕ, List, [], ◌∷◌, map, refl, sym, ap, ap₂, ◌∙◌, subst, Option, Some, None}
use Rattle.storage_codec.specs.Digests.{HashFunction}
use Rattle.storage_merkle.specs.Shape.{Laws}
use Rattle.storage_merkle.specs.Calc.{Site, front, back, node}
use Rattle.storage_merkle.specs.Trees.{Layout, Content, ungrafted, peaks_of}
use Rattle.storage_merkle.specs.RangeProofs.{Proof, position_of, sites_in}
use Rattle.storage_merkle.specs.Multi.{untouched, needed_sites, tree_digest, own_multi_proof}
use Rattle.storage_merkle.specs.Stores.{Store, entry_at, or_else, kept_sites, first_of, location_refusal, found_at, unless_there, needed_refusal, needed_positions, suffix_positions, multi_refusal, store_multi_proof, IsStoreOf, AreTrueAt}
use Rattle.storage_merkle.proofs.Plan.Sites.{AllSites, IsAlignedNode, aligned_in, one_place}
use Rattle.storage_merkle.proofs.Multi.Checks.{plain_needed}
use Rattle.storage_merkle.proofs.Store.Entries.{all_sorted, kept_aligned, entry_of}

some_same : {A : Type 0} (x y : A) → Some x ≡ Some y → x ≡ y
some_same x y e = cc

both_none : {A : Type 0} (a b : Option A) → first_of a b ≡ None → b ≡ None
both_none None b e = e
both_none (Some q) b e = cc

is_there : {A : Type 0} (o : Option (List ℕ)) (r : A) (later : Option A) → unless_there o r later ≡ None
    → ((x : List ℕ) × (o ≡ Some x)) × (later ≡ None)
is_there None r later e = cc
is_there (Some x) r later e = ((x, refl), e)

module _ (h : HashFunction) (T : Layout) (L : Laws T.shape) (store : Store) (content : Content) (inactive : ℕ)
    (st : IsStoreOf h T store content inactive) (peaks : List (ℕ × List ℕ)) (trues : AreTrueAt h T content peaks) where
  found_true : (s : Site) → IsAlignedNode s → (x : List ℕ) → found_at store peaks (position_of T s) ≡ Some x
      → or_else [] (found_at store peaks (position_of T s)) ≡ tree_digest h T content s
  found_true front a x f = absurd a
  found_true back a x f = absurd a
  found_true (node b m) a x f = ap (or_else []) f ∙ go (entry_at p store.kept) refl f
    where
      p : ℕ
      p = T.shape.position b m

      go : (o : Option (List ℕ)) → entry_at p store.kept ≡ o → first_of o (entry_at p peaks) ≡ Some x
          → x ≡ tree_digest h T content (node b m)
      go None e g = trues p b m x (record { aligned = a; at = refl }) g
      go (Some y) e g =
          let al = kept_aligned T L store.bagging store.leaves store.inactive store.start store.past in
          let ss = kept_sites T store.bagging store.leaves store.inactive store.start store.past in
          let r = entry_of T L (tree_digest h T content) ss p y (ap (entry_at p) (sym st.kept_are) ∙ e) al in
          let same = one_place T L r.0 (node b m) r.1 a r.2 in
          sym (some_same y x g) ∙ r.3 ∙ ap (tree_digest h T content) same

  all_found : (F : Type 0) (suffix : List ℕ) (ss : List Site) → AllSites IsAlignedNode ss
      → needed_refusal F store peaks suffix (map (position_of T) ss) ≡ None
      → map (λ p. or_else [] (found_at store peaks p)) (map (position_of T) ss) ≡ map (tree_digest h T content) ss
  all_found F suffix [] al e = refl
  all_found F suffix (s ∷ ss) al e =
      let r = is_there (found_at store peaks (position_of T s)) _ _ e in
      ap₂ (λ x xs. x ∷ xs) (found_true s al.0 r.0.0 r.0.1) (all_found F suffix ss al.1 r.1)

  pub multi_own : (F : Type 0) (ls : List ℕ) → multi_refusal F T.shape store peaks ls ≡ None
      → store_multi_proof T.shape store peaks ls ≡ own_multi_proof h T content inactive ls
  multi_own F [] e = absurd (cc)
  multi_own F (l ∷ ls) e =
      let n = store.leaves in
      let ss = needed_sites T (l ∷ ls) n in
      let al : AllSites IsAlignedNode ss = all_sorted IsAlignedNode T (sites_in T (untouched (l ∷ ls)) (peaks_of T n))
      (aligned_in T (untouched (l ∷ ls)) 0 (T.shape.peaks n) (L.aligned n)) in
      let at : needed_positions T.shape (l ∷ ls) n ≡ map (position_of T) ss =
      ap (map (position_of (ungrafted T.shape))) (sym (plain_needed T (l ∷ ls) n)) ∙ plain_all ss in
      let none = both_none (location_refusal F 0 n (l ∷ ls)) _ e in
      let none' : needed_refusal F store peaks (suffix_positions T.shape store) (map (position_of T) ss) ≡ None =
      subst (λ ps. needed_refusal F store peaks (suffix_positions T.shape store) ps ≡ None) at none in
      let digests = ap (map (λ p. or_else [] (found_at store peaks p))) at
      ∙ all_found F (suffix_positions T.shape store) ss al none' in
      let O : ℕ → ℕ → Proof = λ m i.
      record { leaves = m; inactive = i; digests = map (tree_digest h T content) (needed_sites T (l ∷ ls) m) } in
      let one : store_multi_proof T.shape store peaks (l ∷ ls) ≡ O n store.inactive =
      ap (λ ds. record { leaves = n; inactive = store.inactive; digests = ds }) digests in
      one ∙ ap₂ O st.leaves_are st.inactive_are
    where
      plain_all : (ss : List Site) → map (position_of (ungrafted T.shape)) ss ≡ map (position_of T) ss
      plain_all [] = refl
      plain_all (front ∷ ss) = ap (λ ps. 0 ∷ ps) (plain_all ss)
      plain_all (back ∷ ss) = ap (λ ps. 0 ∷ ps) (plain_all ss)
      plain_all (node a k ∷ ss) = ap (λ ps. T.shape.position a k ∷ ps) (plain_all ss)
