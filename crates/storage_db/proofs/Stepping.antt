-- Steps over the entries and the notes, as iterators answer them.
use Rattle.std.proofs.Common.{◌≡◌, suc, ◌+◌, ◌<◌, List, [], ◌∷◌, ◌++◌, length, Option, Some, None, option_map, Ordering, Less, Equal, Greater, refl, sym, ap, ap₂, ◌∙◌, subst, arith}
use Rattle.std.specs.Cmp.{IsTotalOrder}
use Rattle.std.proofs.lemmas.List.{length-append}
use Rattle.std.specs.Prelude.{MatchOption}
use Rattle.std.specs.Map.Iter.{TakesFirst, TakesLast}
use Rattle.storage_db.specs.declared.db.active.Active.{Active}
use Rattle.storage_db.specs.declared.db.notes.Note.{Note}
use Rattle.storage_db.specs.Notes.{answered, recalled, taken_back}
use Rattle.storage_db.proofs.Cases.{cons_not_nil, some_not_none, somes}
use Rattle.storage_db.proofs.Entries.{Above, Sorted, above_trans, greater_less}
use Rattle.storage_db.proofs.Walks.{Below, behind, below_more, below_trans, first_both, first_entry, first_note, in_front, last_both, last_entry, last_note, sorted_front}

tails : {X : Type 0} (x y : X) (xs ys : List X) → x ∷ xs ≡ y ∷ ys → xs ≡ ys
tails x y xs ys e = cc

push_not_nil : {X : Type 0} (xs : List X) (x : X) → xs ++ x ∷ [] ≡ [] → ⊥
push_not_nil [] x e = cons_not_nil x [] e
push_not_nil (y ∷ ys) x e = cons_not_nil y (ys ++ x ∷ []) e

fronts : {X : Type 0} (xs ys : List X) (x y : X) → xs ++ x ∷ [] ≡ ys ++ y ∷ [] → xs ≡ ys
fronts [] [] x y e = refl
fronts [] (z ∷ ys) x y e = absurd (push_not_nil ys y (sym (tails x z [] (ys ++ y ∷ []) e)))
fronts (z ∷ xs) [] x y e = absurd (push_not_nil xs x (tails z y (xs ++ x ∷ []) [] e))
fronts {X = X} (z ∷ xs) (w ∷ ys) x y e =
    let rest : xs ≡ ys = fronts xs ys x y (tails z w (xs ++ x ∷ []) (ys ++ y ∷ []) e) in
    let first : z ≡ w = cc in
    ap (λ (v : X). v ∷ xs) first ∙ ap (λ (l : List X). w ∷ l) rest

module _ {A X : Type 0} (shows : A → X) where
  -- what was looked at is what is taken
  pub first_taken : (s t rest : List X) (x : X) (r : Option A) → s ≡ x ∷ rest → TakesFirst shows s r t → s ≡ x ∷ t
  first_taken s t rest x None is takes = absurd (cons_not_nil x rest (sym is ∙ takes.0))
  first_taken s t rest x (Some y) is takes =
      is ∙ ap (λ (l : List X). x ∷ l) (tails x (shows y) rest t (sym is ∙ takes))

  pub last_was : (s t rest : List X) (x : X) (r : Option A) → s ≡ rest ++ x ∷ [] → TakesLast shows s r t → s ≡ t ++ x ∷ []
  last_was s t rest x None is takes = absurd (push_not_nil rest x (sym is ∙ takes.0))
  last_was s t rest x (Some y) is takes =
      is ∙ ap (λ (l : List X). l ++ x ∷ []) (fronts rest t x (shows y) (sym is ∙ takes))

module _ {K X : Type 0} where
  abbrev told : Option (K × X) → Option (Option (K × X))
  told o = Some o

  no_entry : (x : K × X) → told None ≡ told (Some x) → ⊥
  no_entry x e = some_not_none x (sym (somes None (Some x) e))

  both_some : (x y : K × X) → told (Some x) ≡ told (Some y) → x ≡ y
  both_some x y e = somes x y (somes (Some x) (Some y) e)

module _ {A K X : Type 0} (shows : A → K × X) (key : K) where
  pub step_first : (P : Type 0) (r : Option (Option A)) (a : Option X) (s t : List (K × X))
      → option_map (option_map shows) r ≡ answered key a → s ≡ in_front a key t → P
      → MatchOption r ((s ≡ t) × P) (λ q. TakesFirst shows s q t)
  step_first P None None s t is takes p = (takes, p)
  step_first P (Some q) None s t is takes p = absurd (some_not_none (option_map shows q) is)
  step_first P None (Some x) s t is takes p = absurd (some_not_none {A = Option (K × X)} (Some (key, x)) (sym is))
  step_first P (Some None) (Some x) s t is takes p = absurd (no_entry (key, x) is)
  step_first P (Some (Some y)) (Some x) s t is takes p =
      takes ∙ ap (λ (z : K × X). z ∷ t) (sym (both_some (shows y) (key, x) is))

  pub step_last : (P : Type 0) (r : Option (Option A)) (a : Option X) (s t : List (K × X))
      → option_map (option_map shows) r ≡ answered key a → s ≡ behind a key t → P
      → MatchOption r ((s ≡ t) × P) (λ q. TakesLast shows s q t)
  step_last P None None s t is takes p = (takes, p)
  step_last P (Some q) None s t is takes p = absurd (some_not_none (option_map shows q) is)
  step_last P None (Some x) s t is takes p = absurd (some_not_none {A = Option (K × X)} (Some (key, x)) (sym is))
  step_last P (Some None) (Some x) s t is takes p = absurd (no_entry (key, x) is)
  step_last P (Some (Some y)) (Some x) s t is takes p =
      takes ∙ ap (λ (z : K × X). t ++ z ∷ []) (sym (both_some (shows y) (key, x) is))

module _ {X : Type 0} where
  pub shorter : (s t : List X) (x : X) → s ≡ x ∷ t → length t < length s
  shorter s t x is = let count : length s ≡ suc (length t) = ap (λ (l : List X). length l) is in omega (arith, count)

  pub shorter_front : (s t : List X) (x : X) → s ≡ t ++ x ∷ [] → length t < length s
  shorter_front s t x is =
      let count : length s ≡ length t + 1 = ap (λ (l : List X). length l) is ∙ length-append t (x ∷ []) in omega (arith, count)

module _ {K X : Type 0} {cmp : K → K → Ordering} (o : IsTotalOrder cmp) where
  pub sorted_but_last : (s t : List (K × X)) (x : K × X) → s ≡ t ++ x ∷ [] → Sorted cmp s → Sorted cmp t
  sorted_but_last s t x is sorted = (sorted_front o t x (subst (λ (l : List (K × X)). Sorted cmp l) is sorted)).0

  all_above : (s t : List (K × X)) (x : K × X) (k : K) → s ≡ x ∷ t → Sorted cmp s → cmp x.0 k ≡ Greater → Above cmp k s
  all_above s t x k is sorted p =
      let less : cmp k x.0 ≡ Less = greater_less o x.0 k p in
      subst (λ (l : List (K × X)). Above cmp k l) (sym is)
      (less, above_trans o k x.0 less t (subst (λ (l : List (K × X)). Sorted cmp l) is sorted).0)

  all_below : (s t : List (K × X)) (x : K × X) (k : K) → s ≡ t ++ x ∷ [] → Sorted cmp s → cmp x.0 k ≡ Less → Below cmp k s
  all_below s t x k is sorted p =
      subst (λ (l : List (K × X)). Below cmp k l) (sym is)
      (below_more o k t x (below_trans o x.0 k p t (sorted_front o t x (subst (λ (l : List (K × X)). Sorted cmp l) is sorted)).1) p)

module _ {K W : Type 0} {cmp : K → K → Ordering} (o : IsTotalOrder cmp) (es : List (K × Active W)) (ns ms : List (K × Note W))
    (m : K × Note W) where
  abbrev sorted_as : {X : Type 0} (s t : List (K × X)) → s ≡ t → Sorted cmp s → Sorted cmp t
  sorted_as s t is sorted = subst (λ l. Sorted cmp l) is sorted

  -- ---- from the front

  -- the notes begin with one whose key is before all entries
  pub front_note : ns ≡ m ∷ ms → Sorted cmp ns → Above cmp m.0 es
      → taken_back cmp es ns ≡ in_front (recalled None m.1) m.0 (taken_back cmp es ms)
  front_note notes sorted above =
      ap (λ (l : List (K × Note W)). taken_back cmp es l) notes ∙ first_note o es m ms (sorted_as ns (m ∷ ms) notes sorted) above

  pub front_none : ns ≡ m ∷ ms → Sorted cmp ns → es ≡ []
      → taken_back cmp es ns ≡ in_front (recalled None m.1) m.0 (taken_back cmp es ms)
  front_none notes sorted none = front_note notes sorted (subst (λ (l : List (K × Active W)). Above cmp m.0 l) (sym none) tt)

  pub front_later : (fs : List (K × Active W)) (c : K × Active W) → es ≡ c ∷ fs → ns ≡ m ∷ ms → Sorted cmp es → Sorted cmp ns → cmp c.0 m.0 ≡ Greater
      → taken_back cmp es ns ≡ in_front (recalled None m.1) m.0 (taken_back cmp es ms)
  front_later fs c entries notes se sn p = front_note notes sn (all_above o es fs c m.0 entries se p)

  pub front_both : (fs : List (K × Active W)) (c : K × Active W) → es ≡ c ∷ fs → ns ≡ m ∷ ms → Sorted cmp ns → cmp c.0 m.0 ≡ Equal
      → taken_back cmp es ns ≡ in_front (recalled (Some c.1) m.1) c.0 (taken_back cmp fs ms)
  front_both fs c entries notes sn p =
      ap₂ (λ (x : List (K × Active W)) (y : List (K × Note W)). taken_back cmp x y) entries notes
      ∙ first_both o c fs m ms (sorted_as ns (m ∷ ms) notes sn) p

  pub front_entry : (fs : List (K × Active W)) (c : K × Active W) → es ≡ c ∷ fs → ns ≡ m ∷ ms → Sorted cmp ns → cmp c.0 m.0 ≡ Less
      → taken_back cmp es ns ≡ c ∷ taken_back cmp fs ns
  front_entry fs c entries notes sn p =
      ap₂ (λ (x : List (K × Active W)) (y : List (K × Note W)). taken_back cmp x y) entries notes
      ∙ first_entry o c fs m ms (sorted_as ns (m ∷ ms) notes sn) p
      ∙ ap (λ (y : List (K × Note W)). c ∷ taken_back cmp fs y) (sym notes)

  -- ---- from the back

  pub back_note : ns ≡ ms ++ m ∷ [] → Sorted cmp ns → Below cmp m.0 es
      → taken_back cmp es ns ≡ behind (recalled None m.1) m.0 (taken_back cmp es ms)
  back_note notes sorted below =
      ap (λ (l : List (K × Note W)). taken_back cmp es l) notes ∙ last_note o es ms m (sorted_as ns (ms ++ m ∷ []) notes sorted) below

  pub back_none : ns ≡ ms ++ m ∷ [] → Sorted cmp ns → es ≡ []
      → taken_back cmp es ns ≡ behind (recalled None m.1) m.0 (taken_back cmp es ms)
  back_none notes sorted none = back_note notes sorted (subst (λ (l : List (K × Active W)). Below cmp m.0 l) (sym none) tt)

  pub back_later : (fs : List (K × Active W)) (c : K × Active W) → es ≡ fs ++ c ∷ [] → ns ≡ ms ++ m ∷ [] → Sorted cmp es → Sorted cmp ns → cmp c.0 m.0 ≡ Less
      → taken_back cmp es ns ≡ behind (recalled None m.1) m.0 (taken_back cmp es ms)
  back_later fs c entries notes se sn p = back_note notes sn (all_below o es fs c m.0 entries se p)

  pub back_both : (fs : List (K × Active W)) (c : K × Active W) → es ≡ fs ++ c ∷ [] → ns ≡ ms ++ m ∷ [] → Sorted cmp es → Sorted cmp ns → cmp c.0 m.0 ≡ Equal
      → taken_back cmp es ns ≡ behind (recalled (Some c.1) m.1) c.0 (taken_back cmp fs ms)
  back_both fs c entries notes se sn p =
      ap₂ (λ (x : List (K × Active W)) (y : List (K × Note W)). taken_back cmp x y) entries notes
      ∙ last_both o fs c ms m (sorted_as es (fs ++ c ∷ []) entries se) (sorted_as ns (ms ++ m ∷ []) notes sn) p

  pub back_entry : (fs : List (K × Active W)) (c : K × Active W) → es ≡ fs ++ c ∷ [] → ns ≡ ms ++ m ∷ [] → Sorted cmp ns → cmp c.0 m.0 ≡ Greater
      → taken_back cmp es ns ≡ taken_back cmp fs ns ++ c ∷ []
  back_entry fs c entries notes sn p =
      ap₂ (λ (x : List (K × Active W)) (y : List (K × Note W)). taken_back cmp x y) entries notes
      ∙ last_entry o fs c ms m (sorted_as ns (ms ++ m ∷ []) notes sn) (greater_less o c.0 m.0 p)
      ∙ ap (λ (y : List (K × Note W)). taken_back cmp fs y ++ c ∷ []) (sym notes)

module _ {A K X : Type 0} {cmp : K → K → Ordering} (o : IsTotalOrder cmp) (shows : A → K × X) where
  pub sorted_after : (s t : List (K × X)) (r : Option A) → TakesLast shows s r t → Sorted cmp s → Sorted cmp t
  sorted_after s t None takes sorted = subst (λ (l : List (K × X)). Sorted cmp l) (sym takes.1) tt
  sorted_after s t (Some x) takes sorted = sorted_but_last o s t (shows x) takes sorted
