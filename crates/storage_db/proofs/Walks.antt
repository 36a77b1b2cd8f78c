-- The entries of the last commit from the first on and from the last on, as both maps are gone through in order.
use Rattle.std.proofs.Common.{◌≡◌, Bool, true, false, cond, List, [], ◌∷◌, ◌++◌, Option, Some, None, Ordering, Less, Equal, is_eq, refl, sym, ap, ◌∙◌, subst}
use Rattle.std.specs.Cmp.{IsTotalOrder, alike_right, tied_itself}
use Rattle.std.specs.Ordering.{match_ordering}
use Rattle.std.specs.BTreeMap.{insert_entry, is_at}
use Rattle.std.specs.Map.{lookup, remove_entry}
use Rattle.storage_db.specs.declared.db.active.Active.{Active}
use Rattle.storage_db.specs.declared.db.notes.Note.{Note}
use Rattle.storage_db.specs.Notes.{back_at, put_at, recalled, taken_back}
use Rattle.storage_db.proofs.Cases.{by_bool, by_order, cond_yes, cond_no}
use Rattle.storage_db.proofs.Entries.{Above, Sorted, above_trans, found, less_greater, past}
use Rattle.storage_db.proofs.Notes.{before_all}

-- each key comes before a key
abbrev pub Below : {K X : Type 0} → (K → K → Ordering) → K → List (K × X) → Type 0
Below cmp k [] = Unit {0}
Below cmp k (c ∷ es) = (cmp c.0 k ≡ Less) × Below cmp k es

-- what an option holds, before a list and behind it
abbrev pub in_front : {K X : Type 0} → Option X → K → List (K × X) → List (K × X)
in_front None k es = es
in_front (Some a) k es = (k, a) ∷ es

abbrev pub behind : {K X : Type 0} → Option X → K → List (K × X) → List (K × X)
behind None k es = es
behind (Some a) k es = es ++ (k, a) ∷ []

module _ {K : Type 0} {cmp : K → K → Ordering} (o : IsTotalOrder cmp) where
  apart_less : (a b : K) → cmp a b ≡ Less → is_eq (cmp a b) ≡ false
  apart_less a b p = ap is_eq p

  apart_back : (a b : K) → cmp a b ≡ Less → is_eq (cmp b a) ≡ false
  apart_back a b p = ap is_eq (less_greater o a b p)

module _ {K X : Type 0} {cmp : K → K → Ordering} (o : IsTotalOrder cmp) where
  abbrev at : List (K × X) → K → Option X
  at l q = lookup (is_at (cmp q)) l

  abbrev less : List (K × X) → K → List (K × X)
  less l q = remove_entry (is_at (cmp q)) l

  abbrev more : List (K × X) → K → X → List (K × X)
  more l q a = insert_entry cmp l q a

  above_alike : (a b : K) → cmp a b ≡ Equal → (es : List (K × X)) → Above cmp a es → Above cmp b es
  above_alike a b same [] h = tt
  above_alike a b same (c ∷ es) h = (sym (o.congr a b c.0 same) ∙ h.0, above_alike a b same es h.1)

  below_alike : (a b : K) → cmp a b ≡ Equal → (es : List (K × X)) → Below cmp a es → Below cmp b es
  below_alike a b same [] h = tt
  below_alike a b same (c ∷ es) h = (sym (alike_right o a b c.0 same) ∙ h.0, below_alike a b same es h.1)

  -- ---- a key that comes before all

  remove_above : (k : K) (es : List (K × X)) → Above cmp k es → less es k ≡ es
  remove_above k [] h = refl
  remove_above k (c ∷ es) h =
      cond_no (is_eq (cmp k c.0)) es (c ∷ less es k) (apart_less o k c.0 h.0)
      ∙ ap (λ (l : List (K × X)). c ∷ l) (remove_above k es h.1)

  insert_above : (k : K) (a : X) (es : List (K × X)) → Above cmp k es → more es k a ≡ (k, a) ∷ es
  insert_above k a [] h = refl
  insert_above k a (c ∷ es) h =
      ap (λ (r : Ordering). match_ordering r ((k, a) ∷ c ∷ es) ((c.0, a) ∷ es) (c ∷ more es k a)) h.0

  -- ---- a key that comes after all

  lookup_below : (k : K) (es : List (K × X)) → Below cmp k es → at es k ≡ None
  lookup_below k [] h = refl
  lookup_below k (c ∷ es) h = past o c es k (apart_back o c.0 k h.0) ∙ lookup_below k es h.1

  remove_below : (k : K) (es : List (K × X)) → Below cmp k es → less es k ≡ es
  remove_below k [] h = refl
  remove_below k (c ∷ es) h =
      cond_no (is_eq (cmp k c.0)) es (c ∷ less es k) (apart_back o c.0 k h.0)
      ∙ ap (λ (l : List (K × X)). c ∷ l) (remove_below k es h.1)

  insert_below : (k : K) (a : X) (es : List (K × X)) → Below cmp k es → more es k a ≡ es ++ (k, a) ∷ []
  insert_below k a [] h = refl
  insert_below k a (c ∷ es) h =
      ap (λ (r : Ordering). match_ordering r ((k, a) ∷ c ∷ es) ((c.0, a) ∷ es) (c ∷ more es k a)) (less_greater o c.0 k h.0)
      ∙ ap (λ (l : List (K × X)). c ∷ l) (insert_below k a es h.1)

  below_insert : (j k : K) (a : X) → cmp k j ≡ Less → (es : List (K × X)) → Below cmp j es → Below cmp j (more es k a)
  below_insert j k a p [] h = (p, tt)
  below_insert j k a p (c ∷ es) h =
      let P : Ordering → Type 0 = λ r. Below cmp j (match_ordering r ((k, a) ∷ c ∷ es) ((c.0, a) ∷ es) (c ∷ more es k a)) in
      by_order (cmp k c.0)
      (λ q. subst P (sym q) (p, h))
      (λ q. subst P (sym q) (h.0, h.1))
      (λ q. subst P (sym q) (h.0, below_insert j k a p es h.1))

  below_remove : (j k : K) (es : List (K × X)) → Below cmp j es → Below cmp j (less es k)
  below_remove j k [] h = tt
  below_remove j k (c ∷ es) h =
      let P : Bool → Type 0 = λ t. Below cmp j (cond t es (c ∷ less es k)) in
      by_bool (is_eq (cmp k c.0))
      (λ holds. subst P (sym holds) h.1)
      (λ fails. subst P (sym fails) (h.0, below_remove j k es h.1))

  -- ---- the last of entries in order

  above_front : (k : K) (c : K × X) (fs : List (K × X)) → Above cmp k (fs ++ c ∷ []) → Above cmp k fs × (cmp k c.0 ≡ Less)
  above_front k c [] h = (tt, h.0)
  above_front k c (d ∷ fs) h = let rest = above_front k c fs h.1 in ((h.0, rest.0), rest.1)

  pub sorted_front : (es : List (K × X)) (c : K × X) → Sorted cmp (es ++ c ∷ []) → Sorted cmp es × Below cmp c.0 es
  sorted_front [] c h = (tt, tt)
  sorted_front (d ∷ es) c h =
      let above = above_front d.0 c es h.0 in
      let rest = sorted_front es c h.1 in
      ((above.0, rest.0), (above.1, rest.1))

  pub below_more : (k : K) (es : List (K × X)) (c : K × X) → Below cmp k es → cmp c.0 k ≡ Less → Below cmp k (es ++ c ∷ [])
  below_more k [] c h p = (p, tt)
  below_more k (d ∷ es) c h p = (h.0, below_more k es c h.1 p)

  pub below_trans : (a b : K) → cmp a b ≡ Less → (es : List (K × X)) → Below cmp a es → Below cmp b es
  below_trans a b p [] h = tt
  below_trans a b p (c ∷ es) h = (o.trans c.0 a b h.0 p, below_trans a b p es h.1)

  -- of a key before the last one, all is as without that
  lookup_front : (k : K) (es : List (K × X)) (c : K × X) → is_eq (cmp k c.0) ≡ false → at (es ++ c ∷ []) k ≡ at es k
  lookup_front k [] c p = past o c [] k p
  lookup_front k (d ∷ es) c p =
      ap (λ (l : Option X). cond (is_eq (cmp k d.0)) (Some d.1) l) (lookup_front k es c p)

  remove_front : (k : K) (es : List (K × X)) (c : K × X) → is_eq (cmp k c.0) ≡ false
      → less (es ++ c ∷ []) k ≡ less es k ++ c ∷ []
  remove_front k [] c p = cond_no (is_eq (cmp k c.0)) [] (c ∷ []) p
  remove_front k (d ∷ es) c p =
      let P : Bool → Type 0 = λ t. cond t (es ++ c ∷ []) (d ∷ less (es ++ c ∷ []) k) ≡ cond t es (d ∷ less es k) ++ c ∷ [] in
      by_bool (is_eq (cmp k d.0))
      (λ holds. subst P (sym holds) refl)
      (λ fails. subst P (sym fails) (ap (λ (l : List (K × X)). d ∷ l) (remove_front k es c p)))

  insert_front : (k : K) (a : X) (es : List (K × X)) (c : K × X) → cmp k c.0 ≡ Less
      → more (es ++ c ∷ []) k a ≡ more es k a ++ c ∷ []
  insert_front k a [] c p =
      ap (λ (r : Ordering). match_ordering r ((k, a) ∷ c ∷ []) ((c.0, a) ∷ []) (c ∷ (k, a) ∷ [])) p
  insert_front k a (d ∷ es) c p =
      let P : Ordering → Type 0 = λ r. match_ordering r ((k, a) ∷ d ∷ es ++ c ∷ []) ((d.0, a) ∷ es ++ c ∷ [])
      (d ∷ more (es ++ c ∷ []) k a)
      ≡ match_ordering r ((k, a) ∷ d ∷ es) ((d.0, a) ∷ es) (d ∷ more es k a) ++ c ∷ [] in
      by_order (cmp k d.0)
      (λ q. subst P (sym q) refl)
      (λ q. subst P (sym q) refl)
      (λ q. subst P (sym q) (ap (λ (l : List (K × X)). d ∷ l) (insert_front k a es c p)))

  -- the last key itself
  lookup_at_last : (k : K) (es : List (K × X)) (c : K × X) → Below cmp k es → is_eq (cmp k c.0) ≡ true
      → at (es ++ c ∷ []) k ≡ Some c.1
  lookup_at_last k [] c h p = found o c [] k p
  lookup_at_last k (d ∷ es) c h p =
      past o d (es ++ c ∷ []) k (apart_back o d.0 k h.0) ∙ lookup_at_last k es c h.1 p

  remove_at_last : (k : K) (es : List (K × X)) (c : K × X) → Below cmp k es → is_eq (cmp k c.0) ≡ true
      → less (es ++ c ∷ []) k ≡ es
  remove_at_last k [] c h p = cond_yes (is_eq (cmp k c.0)) [] (c ∷ []) p
  remove_at_last k (d ∷ es) c h p =
      cond_no (is_eq (cmp k d.0)) (es ++ c ∷ []) (d ∷ less (es ++ c ∷ []) k) (apart_back o d.0 k h.0)
      ∙ ap (λ (l : List (K × X)). d ∷ l) (remove_at_last k es c h.1 p)

module _ {K W : Type 0} {cmp : K → K → Ordering} (o : IsTotalOrder cmp) where
  -- ---- one note

  put_above : (r : Option (Active W)) (k : K) (es : List (K × Active W)) → Above cmp k es → put_at cmp r k es ≡ in_front r k es
  put_above None k es h = remove_above o k es h
  put_above (Some a) k es h = insert_above o k a es h

  put_below : (r : Option (Active W)) (k : K) (es : List (K × Active W)) → Below cmp k es → put_at cmp r k es ≡ behind r k es
  put_below None k es h = remove_below o k es h
  put_below (Some a) k es h = insert_below o k a es h

  put_first : (r : Option (Active W)) (k : K) (c : K × Active W) (es : List (K × Active W)) → cmp k c.0 ≡ Equal
      → put_at cmp r k (c ∷ es) ≡ in_front r c.0 es
  put_first None k c es p = cond_yes (is_eq (cmp k c.0)) es (c ∷ remove_entry (is_at (cmp k)) es) (ap is_eq p)
  put_first (Some a) k c es p =
      ap (λ (r : Ordering). match_ordering r ((k, a) ∷ c ∷ es) ((c.0, a) ∷ es) (c ∷ insert_entry cmp es k a)) p

  put_last : (r : Option (Active W)) (k : K) (es : List (K × Active W)) (c : K × Active W) → Below cmp k es → cmp k c.0 ≡ Equal
      → put_at cmp r k (es ++ c ∷ []) ≡ behind r c.0 es
  put_last None k es c h p = remove_at_last o k es c h (ap is_eq p)
  put_last (Some a) k [] c h p =
      ap (λ (r : Ordering). match_ordering r ((k, a) ∷ c ∷ []) ((c.0, a) ∷ []) (c ∷ (k, a) ∷ [])) p
  put_last (Some a) k (d ∷ es) c h p =
      ap (λ (r : Ordering). match_ordering r ((k, a) ∷ d ∷ es ++ c ∷ []) ((d.0, a) ∷ es ++ c ∷ [])
      (d ∷ insert_entry cmp (es ++ c ∷ []) k a)) (less_greater o d.0 k h.0)
      ∙ ap (λ (l : List (K × Active W)). d ∷ l) (put_last (Some a) k es c h.1 p)

  put_past : (r : Option (Active W)) (k : K) (c : K × Active W) (es : List (K × Active W)) → cmp c.0 k ≡ Less
      → put_at cmp r k (c ∷ es) ≡ c ∷ put_at cmp r k es
  put_past None k c es p =
      cond_no (is_eq (cmp k c.0)) es (c ∷ remove_entry (is_at (cmp k)) es) (ap is_eq (less_greater o c.0 k p))
  put_past (Some a) k c es p =
      ap (λ (r : Ordering). match_ordering r ((k, a) ∷ c ∷ es) ((c.0, a) ∷ es) (c ∷ insert_entry cmp es k a))
      (less_greater o c.0 k p)

  put_front : (r : Option (Active W)) (k : K) (es : List (K × Active W)) (c : K × Active W) → cmp k c.0 ≡ Less
      → put_at cmp r k (es ++ c ∷ []) ≡ put_at cmp r k es ++ c ∷ []
  put_front None k es c p = remove_front o k es c (ap is_eq p)
  put_front (Some a) k es c p = insert_front o k a es c p

  below_put : (r : Option (Active W)) (j k : K) → cmp k j ≡ Less → (es : List (K × Active W)) → Below cmp j es → Below cmp j (put_at cmp r k es)
  below_put None j k p es h = below_remove o j k es h
  below_put (Some a) j k p es h = below_insert o j k a p es h

  -- of a note whose key comes after the first entry, or before the last one
  back_past : (c : K × Active W) (es : List (K × Active W)) (k : K) (n : Note W) → cmp c.0 k ≡ Less
      → back_at cmp (c ∷ es) k n ≡ c ∷ back_at cmp es k n
  back_past c es k n p =
      let apart : is_eq (cmp k c.0) ≡ false = ap is_eq (less_greater o c.0 k p) in
      ap (λ (a : Option (Active W)). put_at cmp (recalled a n) k (c ∷ es)) (past o c es k apart)
      ∙ put_past (recalled (lookup (is_at (cmp k)) es) n) k c es p

  back_front : (c : K × Active W) (es : List (K × Active W)) (k : K) (n : Note W) → cmp k c.0 ≡ Less
      → back_at cmp (es ++ c ∷ []) k n ≡ back_at cmp es k n ++ c ∷ []
  back_front c es k n p =
      ap (λ (a : Option (Active W)). put_at cmp (recalled a n) k (es ++ c ∷ [])) (lookup_front o k es c (ap is_eq p))
      ∙ put_front (recalled (lookup (is_at (cmp k)) es) n) k es c p

  -- ---- all notes

  taken_past : (c : K × Active W) (ns : List (K × Note W)) (es : List (K × Active W)) → Above cmp c.0 ns
      → taken_back cmp (c ∷ es) ns ≡ c ∷ taken_back cmp es ns
  taken_past c [] es h = refl
  taken_past c (m ∷ ns) es h =
      ap (λ (l : List (K × Active W)). taken_back cmp l ns) (back_past c es m.0 m.1 h.0) ∙ taken_past c ns (back_at cmp es m.0 m.1) h.1

  taken_front : (c : K × Active W) (ns : List (K × Note W)) (es : List (K × Active W)) → Below cmp c.0 ns
      → taken_back cmp (es ++ c ∷ []) ns ≡ taken_back cmp es ns ++ c ∷ []
  taken_front c [] es h = refl
  taken_front c (m ∷ ns) es h =
      ap (λ (l : List (K × Active W)). taken_back cmp l ns) (back_front c es m.0 m.1 h.0) ∙ taken_front c ns (back_at cmp es m.0 m.1) h.1

  taken_more : (ns : List (K × Note W)) (es : List (K × Active W)) (m : K × Note W)
      → taken_back cmp es (ns ++ m ∷ []) ≡ back_at cmp (taken_back cmp es ns) m.0 m.1
  taken_more [] es m = refl
  taken_more (x ∷ ns) es m = taken_more ns (back_at cmp es x.0 x.1) m

  below_taken : (k : K) (ns : List (K × Note W)) (es : List (K × Active W)) → Below cmp k ns → Below cmp k es → Below cmp k (taken_back cmp es ns)
  below_taken k [] es h below = below
  below_taken k (m ∷ ns) es h below =
      below_taken k ns (back_at cmp es m.0 m.1) h.1
      (below_put (recalled (lookup (is_at (cmp m.0)) es) m.1) k m.0 h.0 es below)

  taken_in_front : (r : Option (Active W)) (k : K) (es : List (K × Active W)) (ns : List (K × Note W)) → Above cmp k ns
      → taken_back cmp (in_front r k es) ns ≡ in_front r k (taken_back cmp es ns)
  taken_in_front None k es ns h = refl
  taken_in_front (Some a) k es ns h = taken_past (k, a) ns es h

  -- ---- steps from the front

  -- an entry before the first note
  pub first_entry : (c : K × Active W) (es : List (K × Active W)) (m : K × Note W) (ns : List (K × Note W)) → Sorted cmp (m ∷ ns) → cmp c.0 m.0 ≡ Less
      → taken_back cmp (c ∷ es) (m ∷ ns) ≡ c ∷ taken_back cmp es (m ∷ ns)
  first_entry c es m ns sorted p = taken_past c (m ∷ ns) es (p, above_trans o c.0 m.0 p ns sorted.0)

  -- a note before the first entry
  pub first_note : (es : List (K × Active W)) (m : K × Note W) (ns : List (K × Note W)) → Sorted cmp (m ∷ ns) → Above cmp m.0 es
      → taken_back cmp es (m ∷ ns) ≡ in_front (recalled None m.1) m.0 (taken_back cmp es ns)
  first_note es m ns sorted above =
      ap (λ (a : Option (Active W)). taken_back cmp (put_at cmp (recalled a m.1) m.0 es) ns) (before_all o m.0 es above)
      ∙ ap (λ (l : List (K × Active W)). taken_back cmp l ns) (put_above (recalled None m.1) m.0 es above)
      ∙ taken_in_front (recalled None m.1) m.0 es ns sorted.0

  -- the note of the first entry
  pub first_both : (c : K × Active W) (es : List (K × Active W)) (m : K × Note W) (ns : List (K × Note W)) → Sorted cmp (m ∷ ns) → cmp c.0 m.0 ≡ Equal
      → taken_back cmp (c ∷ es) (m ∷ ns) ≡ in_front (recalled (Some c.1) m.1) c.0 (taken_back cmp es ns)
  first_both c es m ns in_order p =
      let turned : cmp m.0 c.0 ≡ Equal = alike_right o c.0 m.0 m.0 p ∙ tied_itself o m.0 in
      ap (λ (a : Option (Active W)). taken_back cmp (put_at cmp (recalled a m.1) m.0 (c ∷ es)) ns)
      (found o c es m.0 (ap is_eq turned))
      ∙ ap (λ (l : List (K × Active W)). taken_back cmp l ns) (put_first (recalled (Some c.1) m.1) m.0 c es turned)
      ∙ taken_in_front (recalled (Some c.1) m.1) c.0 es ns (above_alike o m.0 c.0 turned ns in_order.0)

  -- ---- steps from the back

  -- an entry after the last note
  pub last_entry : (es : List (K × Active W)) (c : K × Active W) (ns : List (K × Note W)) (m : K × Note W) → Sorted cmp (ns ++ m ∷ []) → cmp m.0 c.0 ≡ Less
      → taken_back cmp (es ++ c ∷ []) (ns ++ m ∷ []) ≡ taken_back cmp es (ns ++ m ∷ []) ++ c ∷ []
  last_entry es c ns m sorted p =
      taken_front c (ns ++ m ∷ []) es
      (below_more o c.0 ns m (below_trans o m.0 c.0 p ns (sorted_front o ns m sorted).1) p)

  -- a note after the last entry
  pub last_note : (es : List (K × Active W)) (ns : List (K × Note W)) (m : K × Note W) → Sorted cmp (ns ++ m ∷ []) → Below cmp m.0 es
      → taken_back cmp es (ns ++ m ∷ []) ≡ behind (recalled None m.1) m.0 (taken_back cmp es ns)
  last_note es ns m sorted below =
      let all : Below cmp m.0 (taken_back cmp es ns)
      = below_taken m.0 ns es (sorted_front o ns m sorted).1 below in
      taken_more ns es m
      ∙ ap (λ (a : Option (Active W)). put_at cmp (recalled a m.1) m.0 (taken_back cmp es ns))
      (lookup_below o m.0 (taken_back cmp es ns) all)
      ∙ put_below (recalled None m.1) m.0 (taken_back cmp es ns) all

  -- the note of the last entry
  pub last_both : (es : List (K × Active W)) (c : K × Active W) (ns : List (K × Note W)) (m : K × Note W) → Sorted cmp (es ++ c ∷ [])
      → Sorted cmp (ns ++ m ∷ []) → cmp c.0 m.0 ≡ Equal
      → taken_back cmp (es ++ c ∷ []) (ns ++ m ∷ []) ≡ behind (recalled (Some c.1) m.1) c.0 (taken_back cmp es ns)
  last_both es c ns m sorted in_order p =
      let turned : cmp m.0 c.0 ≡ Equal = alike_right o c.0 m.0 m.0 p ∙ tied_itself o m.0 in
      let notes : Below cmp m.0 ns = (sorted_front o ns m in_order).1 in
      let rest : List (K × Active W) = taken_back cmp es ns in
      let all : Below cmp m.0 rest
      = below_taken m.0 ns es notes (below_alike o c.0 m.0 p es (sorted_front o es c sorted).1) in
      taken_more ns (es ++ c ∷ []) m
      ∙ ap (λ (l : List (K × Active W)). back_at cmp l m.0 m.1) (taken_front c ns es (below_alike o m.0 c.0 turned ns notes))
      ∙ ap (λ (a : Option (Active W)). put_at cmp (recalled a m.1) m.0 (rest ++ c ∷ []))
      (lookup_at_last o m.0 rest c all (ap is_eq turned))
      ∙ put_last (recalled (Some c.1) m.1) m.0 rest c all turned
