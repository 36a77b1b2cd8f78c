-- The first and the last of the entries, in the order of their keys, whose keys pass a test.
use Rattle.std.proofs.Common.{◌≡◌, Bool, true, false, List, [], ◌∷◌, Option, Some, is_some, IsSome, unwrap_or, filter, Ordering, Less, Equal, is_eq, is_lt, refl, sym, ap, ◌∙◌, subst}
use Rattle.std.specs.Cmp.{IsTotalOrder, alike_right, tied_back}
use Rattle.std.specs.BTreeMap.{is_at}
use Rattle.std.specs.Map.{lookup}
use Rattle.storage_db.specs.Rings.{last_of}
use Rattle.storage_db.proofs.Cases.{by_bool, by_option, clash, cond_yes, cond_no, equal_of, cons_not_nil, some_not_none, heads, somes, last_none}
use Rattle.storage_db.proofs.Entries.{Sorted, less_greater, hit, past, some_past, above_found, not_first}

module _ {K X : Type 0} {cmp : K → K → Ordering} (o : IsTotalOrder cmp) (p : K → Bool)
    (respects : (a b : K) → cmp a b ≡ Equal → p a ≡ p b) where
  abbrev passing : List (K × X) → List (K × X)
  passing es = filter (λ (c : K × X). p c.0) es

  -- an entry that passes, and whose key no other that passes is below
  pub record IsFirst (es : List (K × X)) (x : K × X) : Type 0 where
    pub passes : p x.0 ≡ true
    pub there : lookup (is_at (cmp x.0)) es ≡ Some x.1
    pub least : (q : K) → IsSome (lookup (is_at (cmp q)) es) → p q ≡ true → is_lt (cmp q x.0) ≡ false

  -- or above
  pub record IsLast (es : List (K × X)) (x : K × X) : Type 0 where
    pub passes : p x.0 ≡ true
    pub there : lookup (is_at (cmp x.0)) es ≡ Some x.1
    pub greatest : (q : K) → IsSome (lookup (is_at (cmp q)) es) → p q ≡ true → is_lt (cmp x.0 q) ≡ false

  pub none_passes : (es : List (K × X)) → passing es ≡ [] → (q : K) → IsSome (lookup (is_at (cmp q)) es) → p q ≡ false
  none_passes [] e q h = absurd (clash _ h refl)
  none_passes (c ∷ es) e q h =
      by_bool (p c.0)
      (λ holds. absurd (cons_not_nil c (passing es) (sym (cond_yes (p c.0) (c ∷ passing es) (passing es) holds) ∙ e)))
      (λ fails. by_bool (is_eq (cmp q c.0))
      (λ same. respects q c.0 (equal_of _ same) ∙ fails)
      (λ apart. none_passes es (sym (cond_no (p c.0) (c ∷ passing es) (passing es) fails) ∙ e) q (some_past o c es q apart h)))

  pub first_passes : (es : List (K × X)) → Sorted cmp es → (x : K × X) (xs : List (K × X)) → passing es ≡ x ∷ xs
      → IsFirst es x
  first_passes [] s x xs e = absurd (cons_not_nil x xs (sym e))
  first_passes (c ∷ es) s x xs e =
      by_bool (p c.0)
      (λ holds.
      let is : c ≡ x = heads c x (passing es) xs (sym (cond_yes (p c.0) (c ∷ passing es) (passing es) holds) ∙ e) in
      let here : IsFirst (c ∷ es) c = record {
        passes = holds;
        there = hit o c es;
        least = λ q held pass. by_bool (is_eq (cmp q c.0))
            (λ same. ap is_lt (equal_of _ same))
            (λ apart. ap is_lt (less_greater o c.0 q (above_found o c.0 es s.0 q (some_past o c es q apart held))));
      } in
      subst (λ (z : K × X). IsFirst (c ∷ es) z) is here)
      (λ fails.
      let r : IsFirst es x = first_passes es s.1 x xs (sym (cond_no (p c.0) (c ∷ passing es) (passing es) fails) ∙ e) in
      let later : is_eq (cmp x.0 c.0) ≡ false = not_first o c es s.0 x.0 (ap is_some r.there) in
      record {
        passes = r.passes;
        there = past o c es x.0 later ∙ r.there;
        least = λ q held pass. by_bool (is_eq (cmp q c.0))
            (λ same. absurd (clash (p q) pass (respects q c.0 (equal_of _ same) ∙ fails)))
            (λ apart. r.least q (some_past o c es q apart held) pass);
      })

  -- the last of the others stays the last one
  later_last : (c : K × X) (es : List (K × X)) → Sorted cmp (c ∷ es) → (x : K × X) → IsLast es x → IsLast (c ∷ es) x
  later_last c es s x r =
      let above : cmp c.0 x.0 ≡ Less = above_found o c.0 es s.0 x.0 (ap is_some r.there) in
      record {
        passes = r.passes;
        there = past o c es x.0 (not_first o c es s.0 x.0 (ap is_some r.there)) ∙ r.there;
        greatest = λ q held pass. by_bool (is_eq (cmp q c.0))
            (λ same. ap is_lt (alike_right o q c.0 x.0 (equal_of _ same) ∙ less_greater o c.0 x.0 above))
            (λ apart. r.greatest q (some_past o c es q apart held) pass);
      }

  pub last_passes : (es : List (K × X)) → Sorted cmp es → (x : K × X) → last_of (passing es) ≡ Some x → IsLast es x
  last_passes [] s x e = absurd (some_not_none x (sym e))
  last_passes (c ∷ es) s x e =
      by_bool (p c.0)
      (λ holds.
      let whole : Some (unwrap_or (last_of (passing es)) c) ≡ Some x
      = sym (ap last_of (cond_yes (p c.0) (c ∷ passing es) (passing es) holds)) ∙ e in
      let last : unwrap_or (last_of (passing es)) c ≡ x = somes _ x whole in
      by_option (last_of (passing es))
      (λ none.
      let is : c ≡ x = sym (ap (λ (l : Option (K × X)). unwrap_or l c) none) ∙ last in
      let here : IsLast (c ∷ es) c = record {
        passes = holds;
        there = hit o c es;
        greatest = λ q held pass. by_bool (is_eq (cmp q c.0))
            (λ same. ap is_lt (tied_back o q c.0 (equal_of _ same)))
            (λ apart. absurd (clash (p q) pass
            (none_passes es (last_none (passing es) none) q (some_past o c es q apart held))));
      } in
      subst (λ (z : K × X). IsLast (c ∷ es) z) is here)
      (λ z at.
      let is : z ≡ x = sym (ap (λ (l : Option (K × X)). unwrap_or l c) at) ∙ last in
      subst (λ (y : K × X). IsLast (c ∷ es) y) is (later_last c es s z (last_passes es s.1 z at))))
      (λ fails. later_last c es s x
      (last_passes es s.1 x (sym (ap last_of (cond_no (p c.0) (c ∷ passing es) (passing es) fails)) ∙ e)))
