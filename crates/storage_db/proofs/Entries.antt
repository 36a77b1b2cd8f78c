-- Lists of entries in the order of their keys.
use Rattle.std.proofs.Common.{◌≡◌, Bool, true, false, cond, List, [], ◌∷◌, Option, Some, None, is_some, IsSome, Ordering, Less, Equal, Greater, is_eq, refl, sym, ap, ◌∙◌, subst}
use Rattle.std.specs.Cmp.{IsTotalOrder, alike_right, tied_itself, eq_by_cmp_equiv}
use Rattle.std.specs.Ordering.{ordering_reverse, match_ordering}
use Rattle.std.specs.BTreeMap.{insert_entry, is_at}
use Rattle.std.specs.Map.{lookup, remove_entry}
pub use Rattle.storage_db.specs.Orders.{Above, Sorted}
use Rattle.storage_db.proofs.Cases.{by_bool, by_order, clash, cond_yes, cond_no, equal_of, none_of}

module _ {K : Type 0} {cmp : K → K → Ordering} (o : IsTotalOrder cmp) where
  pub less_greater : (a b : K) → cmp a b ≡ Less → cmp b a ≡ Greater
  less_greater a b p = o.antisymm b a ∙ ap ordering_reverse p

  pub greater_less : (a b : K) → cmp a b ≡ Greater → cmp b a ≡ Less
  greater_less a b p = o.antisymm b a ∙ ap ordering_reverse p

  pub eq_symm : (a b : K) → is_eq (cmp a b) ≡ is_eq (cmp b a)
  eq_symm a b = (eq_by_cmp_equiv o).symm a b

module _ {K X : Type 0} {cmp : K → K → Ordering} (o : IsTotalOrder cmp) where
  -- ---- a look-up in a list that begins with an entry

  pub hit : (c : K × X) (es : List (K × X)) → lookup (is_at (cmp c.0)) (c ∷ es) ≡ Some c.1
  hit c es = cond_yes (is_eq (cmp c.0 c.0)) (Some c.1) (lookup (is_at (cmp c.0)) es) (ap is_eq (tied_itself o c.0))

  pub found : (c : K × X) (es : List (K × X)) (q : K) → is_eq (cmp q c.0) ≡ true
      → lookup (is_at (cmp q)) (c ∷ es) ≡ Some c.1
  found c es q holds = cond_yes (is_eq (cmp q c.0)) (Some c.1) (lookup (is_at (cmp q)) es) holds

  pub past : (c : K × X) (es : List (K × X)) (q : K) → is_eq (cmp q c.0) ≡ false
      → lookup (is_at (cmp q)) (c ∷ es) ≡ lookup (is_at (cmp q)) es
  past c es q fails = cond_no (is_eq (cmp q c.0)) (Some c.1) (lookup (is_at (cmp q)) es) fails

  pub some_past : (c : K × X) (es : List (K × X)) (q : K) → is_eq (cmp q c.0) ≡ false
      → IsSome (lookup (is_at (cmp q)) (c ∷ es)) → IsSome (lookup (is_at (cmp q)) es)
  some_past c es q fails h = sym (ap is_some (past c es q fails)) ∙ h

  -- equal keys find the same
  pub lookup_alike : (a b : K) → cmp a b ≡ Equal → (es : List (K × X))
      → lookup (is_at (cmp a)) es ≡ lookup (is_at (cmp b)) es
  lookup_alike a b same [] = refl
  lookup_alike a b same (c ∷ es) =
      ap (λ (t : Bool). cond t (Some c.1) (lookup (is_at (cmp a)) es)) (ap is_eq (o.congr a b c.0 same))
      ∙ ap (λ (l : Option X). cond (is_eq (cmp b c.0)) (Some c.1) l) (lookup_alike a b same es)

  -- ---- in order

  pub above_trans : (a b : K) → cmp a b ≡ Less → (es : List (K × X)) → Above cmp b es → Above cmp a es
  above_trans a b less [] h = tt
  above_trans a b less (c ∷ es) h = (o.trans a b c.0 less h.0, above_trans a b less es h.1)

  -- a key that is found in entries above another one is above it
  pub above_found : (k : K) (es : List (K × X)) → Above cmp k es → (q : K) → IsSome (lookup (is_at (cmp q)) es)
      → cmp k q ≡ Less
  above_found k [] above q h = absurd (clash _ h refl)
  above_found k (c ∷ es) above q h =
      by_bool (is_eq (cmp q c.0))
      (λ holds. alike_right o q c.0 k (equal_of (cmp q c.0) holds) ∙ above.0)
      (λ fails. above_found k es above.1 q (some_past c es q fails h))

  pub not_first : (c : K × X) (es : List (K × X)) → Above cmp c.0 es → (q : K) → IsSome (lookup (is_at (cmp q)) es)
      → is_eq (cmp q c.0) ≡ false
  not_first c es above q h = ap is_eq (less_greater o c.0 q (above_found c.0 es above q h))

  -- ---- a new or a changed entry

  pub lookup-insert : (q k : K) (v : X) (es : List (K × X))
      → lookup (is_at (cmp q)) (insert_entry cmp es k v) ≡ cond (is_eq (cmp k q)) (Some v) (lookup (is_at (cmp q)) es)
  lookup-insert q k v [] = ap (λ (t : Bool). cond t (Some v) None) (eq_symm o q k)
  lookup-insert q k v (c ∷ es) =
      let whole : List (K × X) = (k, v) ∷ c ∷ es in
      let same : List (K × X) = (c.0, v) ∷ es in
      let more : List (K × X) = c ∷ insert_entry cmp es k v in
      let at : List (K × X) → Option X = λ l. lookup (is_at (cmp q)) l in
      let goal : Option X = cond (is_eq (cmp k q)) (Some v) (at (c ∷ es)) in
      let pick : (r : Ordering) → cmp k c.0 ≡ r → at (insert_entry cmp (c ∷ es) k v) ≡ at (match_ordering r whole same more)
      = λ r p. ap (λ (s : Ordering). at (match_ordering s whole same more)) p in
      by_order (cmp k c.0)
      (λ p. pick Less p ∙ ap (λ (t : Bool). cond t (Some v) (at (c ∷ es))) (eq_symm o q k))
      (λ p. pick Equal p ∙
      (let turn : is_eq (cmp k q) ≡ is_eq (cmp q c.0) = ap is_eq (o.congr k c.0 q p) ∙ eq_symm o c.0 q in
      by_bool (is_eq (cmp q c.0))
      (λ holds. cond_yes _ (Some v) (at es) holds ∙ sym (cond_yes _ (Some v) (at (c ∷ es)) (turn ∙ holds)))
      (λ fails. cond_no _ (Some v) (at es) fails
      ∙ sym (cond_no _ (Some v) (at (c ∷ es)) (turn ∙ fails) ∙ past c es q fails))))
      (λ p. pick Greater p ∙
      by_bool (is_eq (cmp q c.0))
      (λ holds. let apart : is_eq (cmp k q) ≡ false = ap is_eq (alike_right o q c.0 k (equal_of _ holds) ∙ p) in
      cond_yes _ (Some c.1) (at (insert_entry cmp es k v)) holds
      ∙ sym (cond_no _ (Some v) (at (c ∷ es)) apart ∙ found c es q holds))
      (λ fails. cond_no _ (Some c.1) (at (insert_entry cmp es k v)) fails ∙ lookup-insert q k v es
      ∙ ap (λ (l : Option X). cond (is_eq (cmp k q)) (Some v) l) (sym (past c es q fails))))

  pub above-insert : (j k : K) (v : X) → cmp j k ≡ Less → (es : List (K × X)) → Above cmp j es
      → Above cmp j (insert_entry cmp es k v)
  above-insert j k v less [] h = (less, tt)
  above-insert j k v less (c ∷ es) h =
      let P : Ordering → Type 0 = λ r. Above cmp j (match_ordering r ((k, v) ∷ c ∷ es) ((c.0, v) ∷ es)
      (c ∷ insert_entry cmp es k v)) in
      by_order (cmp k c.0)
      (λ p. subst P (sym p) (less, h))
      (λ p. subst P (sym p) (h.0, h.1))
      (λ p. subst P (sym p) (h.0, above-insert j k v less es h.1))

  pub sorted-insert : (k : K) (v : X) (es : List (K × X)) → Sorted cmp es → Sorted cmp (insert_entry cmp es k v)
  sorted-insert k v [] h = (tt, tt)
  sorted-insert k v (c ∷ es) h =
      let P : Ordering → Type 0 = λ r. Sorted cmp (match_ordering r ((k, v) ∷ c ∷ es) ((c.0, v) ∷ es)
      (c ∷ insert_entry cmp es k v)) in
      by_order (cmp k c.0)
      (λ p. subst P (sym p) ((p, above_trans k c.0 p es h.0), h))
      (λ p. subst P (sym p) (h.0, h.1))
      (λ p. subst P (sym p) (above-insert c.0 k v (greater_less o k c.0 p) es h.0, sorted-insert k v es h.1))

  -- ---- without an entry

  pub lookup-remove : (q k : K) (es : List (K × X)) → Sorted cmp es
      → lookup (is_at (cmp q)) (remove_entry (is_at (cmp k)) es) ≡ cond (is_eq (cmp k q)) None (lookup (is_at (cmp q)) es)
  lookup-remove q k [] h = by_bool (is_eq (cmp k q)) (λ holds. sym (cond_yes _ None None holds)) (λ fails. sym (cond_no _ None None fails))
  lookup-remove q k (c ∷ es) h =
      let at : List (K × X) → Option X = λ l. lookup (is_at (cmp q)) l in
      let rest : List (K × X) = remove_entry (is_at (cmp k)) es in
      by_bool (is_eq (cmp k c.0))
      (λ here. ap at (cond_yes (is_eq (cmp k c.0)) es (c ∷ rest) here) ∙
      by_bool (is_eq (cmp k q))
      (λ holds.
      let same : cmp q c.0 ≡ Equal = sym (o.congr k q c.0 (equal_of _ holds)) ∙ equal_of _ here in
      let none : at es ≡ None = none_of (at es) (λ held. clash _ (ap is_eq same) (not_first c es h.0 q held)) in
      none ∙ sym (cond_yes _ None (at (c ∷ es)) holds))
      (λ fails.
      let other : is_eq (cmp q c.0) ≡ false = eq_symm o q c.0 ∙ sym (ap is_eq (o.congr k c.0 q (equal_of _ here))) ∙ fails in
      sym (cond_no _ None (at (c ∷ es)) fails ∙ past c es q other)))
      (λ apart. ap at (cond_no (is_eq (cmp k c.0)) es (c ∷ rest) apart) ∙
      by_bool (is_eq (cmp q c.0))
      (λ holds.
      let fails : is_eq (cmp k q) ≡ false = ap is_eq (alike_right o q c.0 k (equal_of _ holds)) ∙ apart in
      cond_yes _ (Some c.1) (at rest) holds ∙ sym (cond_no _ None (at (c ∷ es)) fails ∙ found c es q holds))
      (λ fails. cond_no _ (Some c.1) (at rest) fails ∙ lookup-remove q k es h.1
      ∙ ap (λ (l : Option X). cond (is_eq (cmp k q)) None l) (sym (past c es q fails))))

  pub above-remove : (j k : K) (es : List (K × X)) → Above cmp j es → Above cmp j (remove_entry (is_at (cmp k)) es)
  above-remove j k [] h = tt
  above-remove j k (c ∷ es) h =
      let P : Bool → Type 0 = λ t. Above cmp j (cond t es (c ∷ remove_entry (is_at (cmp k)) es)) in
      by_bool (is_eq (cmp k c.0))
      (λ holds. subst P (sym holds) h.1)
      (λ fails. subst P (sym fails) (h.0, above-remove j k es h.1))

  pub sorted-remove : (k : K) (es : List (K × X)) → Sorted cmp es → Sorted cmp (remove_entry (is_at (cmp k)) es)
  sorted-remove k [] h = tt
  sorted-remove k (c ∷ es) h =
      let P : Bool → Type 0 = λ t. Sorted cmp (cond t es (c ∷ remove_entry (is_at (cmp k)) es)) in
      by_bool (is_eq (cmp k c.0))
      (λ holds. subst P (sym holds) h.1)
      (λ fails. subst P (sym fails) (above-remove c.0 k es h.0, sorted-remove k es h.1))
