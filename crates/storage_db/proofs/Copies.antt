-- Copies of the active keys, and what is found in them.
use Rattle.std.proofs.Common.{◌≡◌, ℕ, Bool, true, false, cond, not, ◌&&◌, List, [], ◌∷◌, ◌++◌, Option, Some, None, unwrap_or, option_map, slice_get, filter, Ordering, is_eq, is_lt, is_le, refl, sym, ap, ◌∙◌, subst}
use Rattle.std.specs.Prelude.{MatchOption, IsSomeAnd}
use Rattle.std.specs.Cmp.{alike_right}
use Rattle.std.specs.List.{AllZip}
use Rattle.std.specs.declared.ops.Bound.TheVariants.{Excluded, Unbounded}
use Rattle.std.specs.BTreeMap.Range.{range_contains, entries_between}
use Rattle.storage_current.specs.Keys.{Keyed, IsKeyed}
use Rattle.storage_db.specs.declared.db.active.Active.{Active}
use Rattle.storage_db.specs.Rings.{last_of, around, next_key}
use Rattle.storage_db.specs.Databases.{active_at}
use Rattle.storage_db.specs.Kept.{IsCopy}
use Rattle.storage_db.proofs.Cases.{by_bool, some_not_none}

-- ---- lists that are alike, place by place

pub zip_imply : {A B : Type 0} (P Q : A → B → Type 0) → ((x : A) (y : B) → P x y → Q x y) → (xs : List A) (ys : List B)
    → AllZip P xs ys → AllZip Q xs ys
zip_imply P Q f [] [] h = tt
zip_imply P Q f [] (y ∷ ys) h = absurd h
zip_imply P Q f (x ∷ xs) [] h = absurd h
zip_imply P Q f (x ∷ xs) (y ∷ ys) h = (f x y h.0, zip_imply P Q f xs ys h.1)

pub zip_append : {A B : Type 0} (R : A → B → Type 0) (xs us : List A) (ys vs : List B) → AllZip R xs ys → AllZip R us vs
    → AllZip R (xs ++ us) (ys ++ vs)
zip_append R [] us [] vs h k = k
zip_append R [] us (y ∷ ys) vs h k = absurd h
zip_append R (x ∷ xs) us [] vs h k = absurd h
zip_append R (x ∷ xs) us (y ∷ ys) vs h k = (h.0, zip_append R xs us ys vs h.1 k)

module _ {K W Y : Type 0} (e : Keyed K W) (seen : W → Y) (is : IsKeyed e) where
  -- what an active key has, its value as it is written
  abbrev pub seen_of : Active W → List ℕ × ℕ
  seen_of a = (e.value a.value, a.location)

  pub turn : (c d : K × Active W) (k l : K) → IsCopy e seen c d → e.key l ≡ e.key k → e.cmp l d.0 ≡ e.cmp k c.0
  turn c d k l copy same =
      is.total.congr l k d.0 (is.alike l k same) ∙ alike_right is.total d.0 c.0 k (is.alike d.0 c.0 copy.key)

  -- what is the same of each active key and its copy is the same of what a key has in both
  pub lookup_by : {Z : Type 0} (f : Active W → Z) → ((c d : K × Active W) → IsCopy e seen c d → f d.1 ≡ f c.1)
      → (es fs : List (K × Active W)) → AllZip (IsCopy e seen) es fs → (k : K)
      → option_map f (active_at e fs k) ≡ option_map f (active_at e es k)
  lookup_by f same [] [] h k = refl
  lookup_by f same [] (d ∷ fs) h k = absurd h
  lookup_by f same (c ∷ es) [] h k = absurd h
  lookup_by f same (c ∷ es) (d ∷ fs) h k =
      let alike : is_eq (e.cmp k d.0) ≡ is_eq (e.cmp k c.0) = ap is_eq (turn c d k k h.0 refl) in
      let here : option_map f (Some d.1) ≡ option_map f (Some c.1) = ap Some (same c d h.0) in
      let P : Bool → Bool → Type 0 = λ x y. option_map f (cond x (Some d.1) (active_at e fs k))
      ≡ option_map f (cond y (Some c.1) (active_at e es k)) in
      by_bool (is_eq (e.cmp k c.0))
      (λ holds. subst (λ (y : Bool). P (is_eq (e.cmp k d.0)) y) (sym holds)
      (subst (λ (x : Bool). P x true) (sym (alike ∙ holds)) here))
      (λ fails. subst (λ (y : Bool). P (is_eq (e.cmp k d.0)) y) (sym fails)
      (subst (λ (x : Bool). P x false) (sym (alike ∙ fails)) (lookup_by f same es fs h.1 k)))

  pub lookup_copy : (es fs : List (K × Active W)) → AllZip (IsCopy e seen) es fs → (k : K)
      → option_map seen_of (active_at e fs k) ≡ option_map seen_of (active_at e es k)
  lookup_copy = lookup_by seen_of (λ c d copy.
      let pair : List ℕ → ℕ → List ℕ × ℕ = λ v l. (v, l) in
      ap (λ (v : List ℕ). pair v d.1.location) copy.value ∙ ap (λ (l : ℕ). pair (e.value c.1.value) l) copy.location)

  pub filter_copy : (p q : K → Bool) → ((c d : K × Active W) → IsCopy e seen c d → q d.0 ≡ p c.0) → (es fs : List (K × Active W))
      → AllZip (IsCopy e seen) es fs
      → AllZip (IsCopy e seen) (filter (λ (c : K × Active W). p c.0) es) (filter (λ (d : K × Active W). q d.0) fs)
  filter_copy p q alike [] [] h = tt
  filter_copy p q alike [] (d ∷ fs) h = absurd h
  filter_copy p q alike (c ∷ es) [] h = absurd h
  filter_copy p q alike (c ∷ es) (d ∷ fs) h =
      let more : List (K × Active W) = filter (λ (x : K × Active W). p x.0) es in
      let rest : List (K × Active W) = filter (λ (x : K × Active W). q x.0) fs in
      let P : Bool → Bool → Type 0 = λ x y. AllZip (IsCopy e seen) (cond x (c ∷ more) more) (cond y (d ∷ rest) rest) in
      let later : AllZip (IsCopy e seen) more rest = filter_copy p q alike es fs h.1 in
      by_bool (p c.0)
      (λ holds. subst (λ (x : Bool). P x (q d.0)) (sym holds)
      (subst (λ (y : Bool). P true y) (sym (alike c d h.0 ∙ holds)) (h.0, later)))
      (λ fails. subst (λ (x : Bool). P x (q d.0)) (sym fails)
      (subst (λ (y : Bool). P false y) (sym (alike c d h.0 ∙ fails)) later))

  pub around_copy : (es fs : List (K × Active W)) → AllZip (IsCopy e seen) es fs → (k l : K) → e.key l ≡ e.key k
      → AllZip (IsCopy e seen) (around e.cmp es k) (around e.cmp fs l)
  around_copy es fs h k l same =
      zip_append (IsCopy e seen) (entries_between e.cmp (Excluded k) Unbounded es) (entries_between e.cmp Unbounded (Excluded k) es)
      (entries_between e.cmp (Excluded l) Unbounded fs) (entries_between e.cmp Unbounded (Excluded l) fs)
      (filter_copy (range_contains e.cmp (Excluded k) Unbounded) (range_contains e.cmp (Excluded l) Unbounded)
      (λ c d copy. ap (λ (r : Ordering). is_lt r && true) (turn c d k l copy same)) es fs h)
      (filter_copy (range_contains e.cmp Unbounded (Excluded k)) (range_contains e.cmp Unbounded (Excluded l))
      (λ c d copy. ap (λ (r : Ordering). not (is_le r)) (turn c d k l copy same)) es fs h)

  -- ---- the key after a key, and the entry before it

  key_first : (es fs : List (K × Active W)) → AllZip (IsCopy e seen) es fs → (k l : K) → e.key l ≡ e.key k
      → e.key (unwrap_or (option_map (λ (c : K × Active W). c.0) (slice_get fs 0)) l)
      ≡ e.key (unwrap_or (option_map (λ (c : K × Active W). c.0) (slice_get es 0)) k)
  key_first [] [] h k l same = same
  key_first [] (d ∷ fs) h k l same = absurd h
  key_first (c ∷ es) [] h k l same = absurd h
  key_first (c ∷ es) (d ∷ fs) h k l same = h.0.key

  pub next_copy : (es fs : List (K × Active W)) → AllZip (IsCopy e seen) es fs → (k l : K) → e.key l ≡ e.key k
      → e.key (next_key e.cmp fs l) ≡ e.key (next_key e.cmp es k)
  next_copy es fs h k l same =
      key_first (around e.cmp es k) (around e.cmp fs l) (around_copy es fs h k l same) k l same

  -- what is found in one list is copied in the other
  abbrev pub AreCopied : Option (K × Active W) → Option (K × Active W) → Type 0
  AreCopied entry copy = MatchOption entry (copy ≡ None) (λ c. IsSomeAnd copy (IsCopy e seen c))

  either : (o p : Option (K × Active W)) (c d : K × Active W) → AreCopied o p → IsCopy e seen c d
      → IsCopy e seen (unwrap_or o c) (unwrap_or p d)
  either None None c d h copy = copy
  either None (Some y) c d h copy = absurd (some_not_none y h)
  either (Some x) None c d h copy = absurd h
  either (Some x) (Some y) c d h copy = h

  pub last_copy : (es fs : List (K × Active W)) → AllZip (IsCopy e seen) es fs → AreCopied (last_of es) (last_of fs)
  last_copy [] [] h = refl
  last_copy [] (d ∷ fs) h = absurd h
  last_copy (c ∷ es) [] h = absurd h
  last_copy (c ∷ es) (d ∷ fs) h = either (last_of es) (last_of fs) c d (last_copy es fs h.1) h.0
