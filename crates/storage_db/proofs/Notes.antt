-- What the last commit had, as the notes have it.
use Rattle.std.proofs.Common.{◌≡◌, ℕ, Bool, true, false, cond, not, ◌&&◌, List, [], ◌∷◌, Option, Some, None, is_some, option_map, filter, Ordering, Less, Equal, Greater, is_eq, is_lt, is_le, refl, sym, ap, ap₂, ◌∙◌, subst}
use Rattle.std.specs.Ordering.{match_ordering}
use Rattle.std.specs.Cmp.{IsTotalOrder, alike_right, tied_itself}
use Rattle.std.specs.BTreeMap.{insert_entry, is_at}
use Rattle.std.specs.BTreeMap.Range.{entries_between, is_from_start, is_past_end, range_contains}
use Rattle.std.specs.Map.{lookup, remove_entry, set_value}
use Rattle.std.specs.declared.ops.Bound.{Bound}
use Rattle.std.specs.declared.ops.Bound.TheVariants.{Included, Excluded, Unbounded}
use Rattle.storage_db.specs.declared.db.active.Active.{Active}
use Rattle.storage_db.specs.declared.db.notes.Note.{Note}
use Rattle.storage_db.specs.declared.db.notes.Note.TheVariants.{Absent, Moved, Replaced}
use Rattle.storage_db.specs.Notes.{AreAlike, back_at, put_at, recalled, settled, settled_to, taken_back}
use Rattle.storage_db.specs.Parts.{moved, moved_to}
use Rattle.storage_db.proofs.Cases.{by_bool, by_order, clash, cond_yes, cond_no, equal_of, none_of, some_not_none, somes}
use Rattle.storage_db.proofs.Changing.{set_is_insert}
use Rattle.storage_db.proofs.Entries.{Above, Sorted, above_found, above_trans, eq_symm, found, greater_less, hit, lookup-insert, lookup-remove, lookup_alike, not_first, past, sorted-insert, sorted-remove}

-- what a key finds
abbrev pub look : {K X : Type 0} → (K → K → Ordering) → List (K × X) → K → Option X
look cmp entries key = lookup (is_at (cmp key)) entries

-- what the last commit had of a key, by its note, if it has one
abbrev pub remembered : {W : Type 0} → Option (Note W) → Option (Active W) → Option (Active W)
remembered None now = now
remembered (Some note) now = recalled now note

module _ {K W : Type 0} {cmp : K → K → Ordering} (o : IsTotalOrder cmp) where
  -- ---- what each key finds in the entries of the last commit

  look-put : (r : Option (Active W)) (q k : K) (es : List (K × Active W)) → Sorted cmp es
      → lookup (is_at (cmp q)) (put_at cmp r k es) ≡ cond (is_eq (cmp k q)) r (lookup (is_at (cmp q)) es)
  look-put None q k es sorted = lookup-remove o q k es sorted
  look-put (Some a) q k es sorted = lookup-insert o q k a es

  sorted-put : (r : Option (Active W)) (k : K) (es : List (K × Active W)) → Sorted cmp es → Sorted cmp (put_at cmp r k es)
  sorted-put None k es sorted = sorted-remove o k es sorted
  sorted-put (Some a) k es sorted = sorted-insert o k a es sorted

  pub sorted-taken : (ns : List (K × Note W)) (es : List (K × Active W)) → Sorted cmp es → Sorted cmp (taken_back cmp es ns)
  sorted-taken [] es sorted = sorted
  sorted-taken (m ∷ ns) es sorted = sorted-taken ns (back_at cmp es m.0 m.1) (sorted-put _ m.0 es sorted)

  pub look-taken : (ns : List (K × Note W)) (es : List (K × Active W)) → Sorted cmp es → Sorted cmp ns → (q : K)
      → lookup (is_at (cmp q)) (taken_back cmp es ns)
      ≡ remembered (lookup (is_at (cmp q)) ns) (lookup (is_at (cmp q)) es)
  look-taken [] es sorted in_order q = refl
  look-taken (m ∷ ns) es sorted in_order q =
      let back : List (K × Active W) = back_at cmp es m.0 m.1 in
      let r : Option (Active W) = recalled (lookup (is_at (cmp m.0)) es) m.1 in
      let at : Option (Active W) = lookup (is_at (cmp q)) es in
      let P : Option (Note W) → Type 0 = λ n. remembered n (lookup (is_at (cmp q)) back)
      ≡ remembered (cond (is_eq (cmp q m.0)) (Some m.1) n) at in
      look-taken ns back (sorted-put r m.0 es sorted) in_order.1 q
      ∙ by_bool (is_eq (cmp q m.0))
      (λ holds.
      let none : lookup (is_at (cmp q)) ns ≡ None
      = none_of (lookup (is_at (cmp q)) ns) (λ held. clash _ holds (not_first o m ns in_order.0 q held)) in
      let turned : is_eq (cmp m.0 q) ≡ true = eq_symm o m.0 q ∙ holds in
      let alike : lookup (is_at (cmp m.0)) es ≡ at = lookup_alike o m.0 q (equal_of _ turned) es in
      subst P (sym none)
      (look-put r q m.0 es sorted ∙ cond_yes _ r at turned
      ∙ ap (λ (a : Option (Active W)). recalled a m.1) alike
      ∙ sym (ap (λ (n : Option (Note W)). remembered n at) (cond_yes _ (Some m.1) None holds))))
      (λ fails.
      let apart : is_eq (cmp m.0 q) ≡ false = eq_symm o m.0 q ∙ fails in
      ap (λ (a : Option (Active W)). remembered (lookup (is_at (cmp q)) ns) a)
      (look-put r q m.0 es sorted ∙ cond_no _ r at apart)
      ∙ sym (ap (λ (n : Option (Note W)). remembered n at) (cond_no _ (Some m.1) (lookup (is_at (cmp q)) ns) fails)))

module _ {K X : Type 0} {cmp : K → K → Ordering} (o : IsTotalOrder cmp) where
  -- ---- entries in the order of their keys, in which each key finds the same

  pub before_all : (k : K) (es : List (K × X)) → Above cmp k es → lookup (is_at (cmp k)) es ≡ None
  before_all k es above = none_of _ (λ held. absurd (clash (is_lt (cmp k k))
      (ap is_lt (above_found o k es above k held)) (ap is_lt (tied_itself o k))))

  not_before : (x y : K × X) (xs ys : List (K × X)) → Sorted cmp (y ∷ ys)
      → lookup (is_at (cmp x.0)) (x ∷ xs) ≡ lookup (is_at (cmp x.0)) (y ∷ ys) → cmp x.0 y.0 ≡ Less → ⊥
  not_before x y xs ys sorted same less =
      some_not_none x.1 (sym (hit o x xs) ∙ same
      ∙ before_all x.0 (y ∷ ys) (less, above_trans o x.0 y.0 less ys sorted.0))

  pub alike_by : (xs ys : List (K × X)) → Sorted cmp xs → Sorted cmp ys
      → ((q : K) → lookup (is_at (cmp q)) xs ≡ lookup (is_at (cmp q)) ys) → AreAlike cmp xs ys
  alike_by [] [] sx sy same = tt
  alike_by [] (y ∷ ys) sx sy same = absurd (some_not_none y.1 (sym (same y.0 ∙ hit o y ys)))
  alike_by (x ∷ xs) [] sx sy same = absurd (some_not_none x.1 (sym (hit o x xs) ∙ same x.0))
  alike_by (x ∷ xs) (y ∷ ys) sx sy same =
      let first : cmp x.0 y.0 ≡ Equal = by_order (cmp x.0 y.0)
      (λ less. absurd (not_before x y xs ys sy (same x.0) less))
      (λ equal. equal)
      (λ greater. absurd (not_before y x ys xs sx (sym (same y.0)) (greater_less o x.0 y.0 greater))) in
      let value : x.1 ≡ y.1 = somes x.1 y.1 (sym (hit o x xs) ∙ same x.0 ∙ found o y ys x.0 (ap is_eq first)) in
      let turn : (q : K) → is_eq (cmp q x.0) ≡ is_eq (cmp q y.0) = λ q. ap is_eq (alike_right o x.0 y.0 q first) in
      let rest : (q : K) → lookup (is_at (cmp q)) xs ≡ lookup (is_at (cmp q)) ys = λ q. by_bool (is_eq (cmp q x.0))
      (λ holds.
      none_of _ (λ held. clash _ holds (not_first o x xs sx.0 q held))
      ∙ sym (none_of _ (λ held. clash _ (sym (turn q) ∙ holds) (not_first o y ys sy.0 q held))))
      (λ fails. sym (past o x xs q fails) ∙ same q ∙ past o y ys q (sym (turn q) ∙ fails)) in
      (record { key = first; same = sym value }, alike_by xs ys sx.1 sy.1 rest)

  pub alike_itself : (xs : List (K × X)) → AreAlike cmp xs xs
  alike_itself [] = tt
  alike_itself (x ∷ xs) = (record { key = tied_itself o x.0; same = refl }, alike_itself xs)

  pub alike_trans : (xs ys zs : List (K × X)) → AreAlike cmp xs ys → AreAlike cmp ys zs → AreAlike cmp xs zs
  alike_trans [] [] [] h k = tt
  alike_trans [] [] (z ∷ zs) h k = absurd k
  alike_trans [] (y ∷ ys) zs h k = absurd h
  alike_trans (x ∷ xs) [] zs h k = absurd h
  alike_trans (x ∷ xs) (y ∷ ys) [] h k = absurd k
  alike_trans (x ∷ xs) (y ∷ ys) (z ∷ zs) h k = (
    record { key = o.congr x.0 y.0 z.0 h.0.key ∙ k.0.key; same = k.0.same ∙ h.0.same },
    alike_trans xs ys zs h.1 k.1,
  )

  -- ---- those whose keys pass a test

  module _ (p : K → Bool) (respects : (a b : K) → cmp a b ≡ Equal → p a ≡ p b) where
    abbrev passing : List (K × X) → List (K × X)
    passing es = filter (λ (c : K × X). p c.0) es

    look-passing : (q : K) (es : List (K × X))
        → lookup (is_at (cmp q)) (passing es) ≡ cond (p q) (lookup (is_at (cmp q)) es) None
    look-passing q [] = by_bool (p q) (λ holds. sym (cond_yes _ None None holds)) (λ fails. sym (cond_no _ None None fails))
    look-passing q (c ∷ es) =
        let at : List (K × X) → Option X = λ l. lookup (is_at (cmp q)) l in
        by_bool (p c.0)
        (λ holds. ap at (cond_yes (p c.0) (c ∷ passing es) (passing es) holds) ∙ by_bool (is_eq (cmp q c.0))
        (λ here.
        let pass : p q ≡ true = respects q c.0 (equal_of _ here) ∙ holds in
        found o c (passing es) q here ∙ sym (cond_yes (p q) (at (c ∷ es)) None pass ∙ found o c es q here))
        (λ apart. past o c (passing es) q apart ∙ look-passing q es
        ∙ ap (λ (l : Option X). cond (p q) l None) (sym (past o c es q apart))))
        (λ fails. ap at (cond_no (p c.0) (c ∷ passing es) (passing es) fails) ∙ look-passing q es
        ∙ by_bool (is_eq (cmp q c.0))
        (λ here.
        let out : p q ≡ false = respects q c.0 (equal_of _ here) ∙ fails in
        cond_no (p q) (at es) None out ∙ sym (cond_no (p q) (at (c ∷ es)) None out))
        (λ apart. ap (λ (l : Option X). cond (p q) l None) (sym (past o c es q apart))))

    above-passing : (k : K) (es : List (K × X)) → Above cmp k es → Above cmp k (passing es)
    above-passing k [] above = tt
    above-passing k (c ∷ es) above = by_bool (p c.0)
        (λ holds. subst (Above cmp k) (sym (cond_yes (p c.0) (c ∷ passing es) (passing es) holds))
        (above.0, above-passing k es above.1))
        (λ fails. subst (Above cmp k) (sym (cond_no (p c.0) (c ∷ passing es) (passing es) fails))
        (above-passing k es above.1))

    sorted-passing : (es : List (K × X)) → Sorted cmp es → Sorted cmp (passing es)
    sorted-passing [] sorted = tt
    sorted-passing (c ∷ es) sorted = by_bool (p c.0)
        (λ holds. subst (Sorted cmp) (sym (cond_yes (p c.0) (c ∷ passing es) (passing es) holds))
        (above-passing c.0 es sorted.0, sorted-passing es sorted.1))
        (λ fails. subst (Sorted cmp) (sym (cond_no (p c.0) (c ∷ passing es) (passing es) fails))
        (sorted-passing es sorted.1))

-- bounds that hold the same keys hold the same entries
pub between_same : {K X : Type 0} (cmp : K → K → Ordering) (lo hi first last : Bound K)
    → ((k : K) → range_contains cmp lo hi k ≡ range_contains cmp first last k) → (es : List (K × X))
    → entries_between cmp lo hi es ≡ entries_between cmp first last es
between_same cmp lo hi first last same [] = refl
between_same {K} {X} cmp lo hi first last same (c ∷ es) =
    ap₂ (λ (b : Bool) (l : List (K × X)). cond b (c ∷ l) l) (same c.0) (between_same cmp lo hi first last same es)

module _ {K : Type 0} {cmp : K → K → Ordering} (o : IsTotalOrder cmp) where
  start_respects : (lo : Bound K) (a b : K) → cmp a b ≡ Equal → is_from_start cmp lo a ≡ is_from_start cmp lo b
  start_respects (Included x) a b same = ap is_le (alike_right o a b x same)
  start_respects (Excluded x) a b same = ap is_lt (alike_right o a b x same)
  start_respects Unbounded a b same = refl

  end_respects : (hi : Bound K) (a b : K) → cmp a b ≡ Equal → is_past_end cmp hi a ≡ is_past_end cmp hi b
  end_respects (Included x) a b same = ap is_lt (alike_right o a b x same)
  end_respects (Excluded x) a b same = ap is_le (alike_right o a b x same)
  end_respects Unbounded a b same = refl

  in_range : (lo hi : Bound K) (a b : K) → cmp a b ≡ Equal → range_contains cmp lo hi a ≡ range_contains cmp lo hi b
  in_range lo hi a b same = ap₂ (λ (x y : Bool). x && not y) (start_respects lo a b same) (end_respects hi a b same)

  pub sorted-between : {X : Type 0} (lo hi : Bound K) (es : List (K × X)) → Sorted cmp es
      → Sorted cmp (entries_between cmp lo hi es)
  sorted-between lo hi es sorted = sorted-passing o (range_contains cmp lo hi) (in_range lo hi) es sorted

  both_none : {W : Type 0} (b : Bool) (n : Option (Note W)) (a : Option (Active W))
      → cond b (remembered n a) None ≡ remembered (cond b n None) (cond b a None)
  both_none true n a = refl
  both_none false n a = refl

  -- a range of the entries of the last commit
  pub between_taken : {W : Type 0} (lo hi : Bound K) (es : List (K × Active W)) (ns : List (K × Note W)) → Sorted cmp es
      → Sorted cmp ns → AreAlike cmp (entries_between cmp lo hi (taken_back cmp es ns))
      (taken_back cmp (entries_between cmp lo hi es) (entries_between cmp lo hi ns))
  between_taken {W} lo hi es ns sorted in_order =
      let p : K → Bool = range_contains cmp lo hi in
      alike_by o (entries_between cmp lo hi (taken_back cmp es ns))
      (taken_back cmp (entries_between cmp lo hi es) (entries_between cmp lo hi ns))
      (sorted-between lo hi (taken_back cmp es ns) (sorted-taken o ns es sorted))
      (sorted-taken o (entries_between cmp lo hi ns) (entries_between cmp lo hi es) (sorted-between lo hi es sorted))
      (λ q.
      look-passing o p (in_range lo hi) q (taken_back cmp es ns)
      ∙ ap (λ (a : Option (Active W)). cond (p q) a None) (look-taken o ns es sorted in_order q)
      ∙ both_none (p q) (lookup (is_at (cmp q)) ns) (lookup (is_at (cmp q)) es)
      ∙ ap₂ (λ (n : Option (Note W)) (a : Option (Active W)). remembered n a)
      (sym (look-passing o p (in_range lo hi) q ns)) (sym (look-passing o p (in_range lo hi) q es))
      ∙ sym (look-taken o (entries_between cmp lo hi ns) (entries_between cmp lo hi es) (sorted-between lo hi es sorted)
      (sorted-between lo hi ns in_order) q))

module _ {K W : Type 0} {cmp : K → K → Ordering} (o : IsTotalOrder cmp) where
  -- ---- changes that leave the entries of the last commit as they were

  changed_alike : (es fs : List (K × Active W)) (ns ms : List (K × Note W)) → Sorted cmp es → Sorted cmp fs → Sorted cmp ns
      → Sorted cmp ms → ((q : K) → remembered (look cmp ns q) (look cmp es q) ≡ remembered (look cmp ms q) (look cmp fs q))
      → AreAlike cmp (taken_back cmp es ns) (taken_back cmp fs ms)
  changed_alike es fs ns ms se sf sn sm same =
      alike_by o (taken_back cmp es ns) (taken_back cmp fs ms) (sorted-taken o ns es se) (sorted-taken o ms fs sf)
      (λ q. look-taken o ns es se sn q ∙ same q ∙ sym (look-taken o ms fs sf sm q))

  -- what a key has is put there: nothing changes
  put_same : (k : K) (es : List (K × Active W)) → Sorted cmp es → (r : Option (Active W)) → look cmp es k ≡ r → put_at cmp r k es ≡ es
  put_same k [] sorted None is = refl
  put_same k [] sorted (Some a) is = absurd (some_not_none a (sym is))
  put_same k (c ∷ es) sorted None is = by_bool (is_eq (cmp k c.0))
      (λ holds. absurd (some_not_none c.1 (sym (found o c es k holds) ∙ is)))
      (λ fails. cond_no (is_eq (cmp k c.0)) es (c ∷ remove_entry (is_at (cmp k)) es) fails
      ∙ ap (λ (l : List (K × Active W)). c ∷ l) (put_same k es sorted.1 None (sym (past o c es k fails) ∙ is)))
  put_same k (c ∷ es) sorted (Some a) is =
      let more : List (K × Active W) = insert_entry cmp es k a in
      let pick : (r : Ordering) → cmp k c.0 ≡ r
      → insert_entry cmp (c ∷ es) k a ≡ match_ordering r ((k, a) ∷ c ∷ es) ((c.0, a) ∷ es) (c ∷ more)
      = λ r p. ap (λ (s : Ordering). match_ordering s ((k, a) ∷ c ∷ es) ((c.0, a) ∷ es) (c ∷ more)) p in
      by_order (cmp k c.0)
      (λ less. absurd (some_not_none a (sym is ∙ before_all o k (c ∷ es) (less, above_trans o k c.0 less es sorted.0))))
      (λ equal. pick Equal equal
      ∙ ap (λ (b : Active W). (c.0, b) ∷ es) (somes a c.1 (sym is ∙ found o c es k (ap is_eq equal))))
      (λ greater. pick Greater greater
      ∙ ap (λ (l : List (K × Active W)). c ∷ l)
      (put_same k es sorted.1 (Some a) (sym (past o c es k (ap is_eq greater)) ∙ is)))

  -- a key is noted, with what it has: nothing changes
  pub noted_same : (ns : List (K × Note W)) (es : List (K × Active W)) → Sorted cmp es → (k : K) (n : Note W)
      → look cmp ns k ≡ None → recalled (look cmp es k) n ≡ look cmp es k
      → taken_back cmp es (insert_entry cmp ns k n) ≡ taken_back cmp es ns
  noted_same [] es sorted k n fresh neutral = put_same k es sorted (recalled (look cmp es k) n) (sym neutral)
  noted_same (m ∷ ns) es sorted k n fresh neutral =
      let more : List (K × Note W) = insert_entry cmp ns k n in
      let pick : (r : Ordering) → cmp k m.0 ≡ r → taken_back cmp es (insert_entry cmp (m ∷ ns) k n)
      ≡ taken_back cmp es (match_ordering r ((k, n) ∷ m ∷ ns) ((m.0, n) ∷ ns) (m ∷ more))
      = λ r p. ap (λ (s : Ordering). taken_back cmp es (match_ordering s ((k, n) ∷ m ∷ ns) ((m.0, n) ∷ ns) (m ∷ more))) p in
      let back : List (K × Active W) = back_at cmp es m.0 m.1 in
      by_order (cmp k m.0)
      (λ less. pick Less less
      ∙ ap (λ (l : List (K × Active W)). taken_back cmp l (m ∷ ns)) (put_same k es sorted (recalled (look cmp es k) n) (sym neutral)))
      (λ equal. absurd (some_not_none m.1 (sym (found o m ns k (ap is_eq equal)) ∙ fresh)))
      (λ greater.
      let apart : is_eq (cmp m.0 k) ≡ false = eq_symm o m.0 k ∙ ap is_eq greater in
      let r : Option (Active W) = recalled (look cmp es m.0) m.1 in
      let stays : look cmp back k ≡ look cmp es k = look-put o r k m.0 es sorted ∙ cond_no _ r (look cmp es k) apart in
      pick Greater greater
      ∙ noted_same ns back (sorted-put o r m.0 es sorted) k n (sym (past o m ns k (ap is_eq greater)) ∙ fresh)
      (ap (λ (a : Option (Active W)). recalled a n) stays ∙ neutral ∙ sym stays))

  settled_recalls : (a x : Option (Active W)) (n : Note W)
      → recalled a n ≡ recalled x (settled (option_map (λ (b : Active W). b.value) a) n)
  settled_recalls a x Absent = refl
  settled_recalls None x (Moved l) = refl
  settled_recalls (Some a) x (Moved l) = refl
  settled_recalls a x (Replaced b) = refl

  -- the note of a key is settled, and the key has something else from now on
  module _ (es : List (K × Active W)) (ns : List (K × Note W)) (se : Sorted cmp es) (sn : Sorted cmp ns) (k : K) (n : Note W)
      (there : look cmp ns k ≡ Some n) where
    abbrev pub settled_notes : List (K × Note W)
    settled_notes = settled_to cmp (look cmp ns k) (option_map (λ (b : Active W). b.value) (look cmp es k)) k ns

    settled_is : settled_notes ≡ insert_entry cmp ns k (settled (option_map (λ (b : Active W). b.value) (look cmp es k)) n)
    settled_is =
        ap (λ (x : Option (Note W)). settled_to cmp x (option_map (λ (b : Active W). b.value) (look cmp es k)) k ns) there
        ∙ set_is_insert o k k (tied_itself o k) ns sn (ap is_some there)
        (settled (option_map (λ (b : Active W). b.value) (look cmp es k)) n)

    pub settled_alike : (fs : List (K × Active W)) → Sorted cmp fs → (x : Option (Active W))
        → ((q : K) → look cmp fs q ≡ cond (is_eq (cmp k q)) x (look cmp es q))
        → AreAlike cmp (taken_back cmp es ns) (taken_back cmp fs settled_notes)
    settled_alike fs sf x finds =
        let m : Note W = settled (option_map (λ (b : Active W). b.value) (look cmp es k)) n in
        subst (λ (ms : List (K × Note W)). AreAlike cmp (taken_back cmp es ns) (taken_back cmp fs ms)) (sym settled_is)
        (changed_alike es fs ns (insert_entry cmp ns k m) se sf sn (sorted-insert o k m ns sn)
        (λ q. by_bool (is_eq (cmp k q))
        (λ holds.
        let same_note : look cmp ns q ≡ Some n = sym (lookup_alike o k q (equal_of _ holds) ns) ∙ there in
        let same_entry : look cmp es k ≡ look cmp es q = lookup_alike o k q (equal_of _ holds) es in
        ap₂ (λ (y : Option (Note W)) (a : Option (Active W)). remembered y a) same_note (sym same_entry)
        ∙ settled_recalls (look cmp es k) x n
        ∙ sym (ap₂ (λ (y : Option (Note W)) (a : Option (Active W)). remembered y a)
        (lookup-insert o q k m ns ∙ cond_yes _ (Some m) (look cmp ns q) holds) (finds q ∙ cond_yes _ x (look cmp es q) holds)))
        (λ fails. ap₂ (λ (y : Option (Note W)) (a : Option (Active W)). remembered y a)
        (sym (lookup-insert o q k m ns ∙ cond_no _ (Some m) (look cmp ns q) fails))
        (sym (finds q ∙ cond_no _ x (look cmp es q) fails)))))

    pub put_alike : (a : Active W)
        → AreAlike cmp (taken_back cmp es ns) (taken_back cmp (insert_entry cmp es k a) settled_notes)
    put_alike a = settled_alike (insert_entry cmp es k a) (sorted-insert o k a es se) (Some a)
        (λ q. lookup-insert o q k a es)

    pub removed_alike : AreAlike cmp (taken_back cmp es ns) (taken_back cmp (remove_entry (is_at (cmp k)) es) settled_notes)
    removed_alike = settled_alike (remove_entry (is_at (cmp k)) es) (sorted-remove o k es se) None
        (λ q. lookup-remove o q k es se)

    relocated : (a : Active W) (l : ℕ) (m : Note W)
        → recalled (Some a) m ≡ recalled (Some (record { value = a.value; location = l })) m
    relocated a l Absent = refl
    relocated a l (Moved x) = refl
    relocated a l (Replaced b) = refl

    moved_by : (r : Option (Active W)) → look cmp es k ≡ r → (l : ℕ)
        → AreAlike cmp (taken_back cmp es ns) (taken_back cmp (moved_to r (is_at (cmp k)) es l) ns)
    moved_by None none l = alike_itself o (taken_back cmp es ns)
    moved_by (Some a) held l =
        let b : Active W = record { value = a.value; location = l } in
        let is : set_value (is_at (cmp k)) es b ≡ insert_entry cmp es k b
        = set_is_insert o k k (tied_itself o k) es se (ap is_some held) b in
        subst (λ (fs : List (K × Active W)). AreAlike cmp (taken_back cmp es ns) (taken_back cmp fs ns)) (sym is)
        (changed_alike es (insert_entry cmp es k b) ns ns se (sorted-insert o k b es se) sn sn
        (λ q. by_bool (is_eq (cmp k q))
        (λ holds.
        let same_note : look cmp ns q ≡ Some n = sym (lookup_alike o k q (equal_of _ holds) ns) ∙ there in
        let same_entry : look cmp es q ≡ Some a = sym (lookup_alike o k q (equal_of _ holds) es) ∙ held in
        ap₂ (λ (y : Option (Note W)) (z : Option (Active W)). remembered y z) same_note same_entry
        ∙ relocated a l n
        ∙ sym (ap₂ (λ (y : Option (Note W)) (z : Option (Active W)). remembered y z) same_note
        (lookup-insert o q k b es ∙ cond_yes _ (Some b) (look cmp es q) holds)))
        (λ fails. ap (λ (z : Option (Active W)). remembered (look cmp ns q) z)
        (sym (lookup-insert o q k b es ∙ cond_no _ (Some b) (look cmp es q) fails)))))

    pub moved_alike : (l : ℕ) → AreAlike cmp (taken_back cmp es ns) (taken_back cmp (moved (is_at (cmp k)) es l) ns)
    moved_alike l = moved_by (look cmp es k) refl l
