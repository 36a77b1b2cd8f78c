-- A key is noted, and what its note becomes: what is noted stays so, and what the last commit had stays.
use Rattle.std.proofs.Common.{◌≡◌, ℕ, Bool, true, false, List, Option, Some, None, is_some, option_map, Ordering, Equal, is_eq, refl, sym, ap, ◌∙◌, subst}
use Rattle.std.specs.Cmp.{IsTotalOrder, tied_itself}
use Rattle.std.specs.BTreeMap.{insert_entry, is_at}
use Rattle.std.specs.Map.{remove_entry}
use Rattle.storage_db.specs.declared.db.active.Active.{Active}
use Rattle.storage_db.specs.declared.db.notes.Note.{Note}
use Rattle.storage_db.specs.Notes.{AreAlike, recalled, settled, settled_to, taken_back}
use Rattle.storage_db.specs.Parts.{moved}
use Rattle.storage_db.proofs.Cases.{by_bool, cond_yes, cond_no, equal_of, none_if, some_of}
use Rattle.storage_db.proofs.Changing.{set_is_insert}
use Rattle.storage_db.proofs.Entries.{Sorted, lookup-insert, lookup_alike}
use Rattle.storage_db.proofs.Notes.{look, moved_alike, noted_same, put_alike, removed_alike}

-- a copy of a key, which is written as the key, compares as it
pub copy_equal : {K : Type 0} (text : K → List ℕ) (cmp : K → K → Ordering) (eq : K → K → Bool)
    → ((a b : K) → eq a b ≡ is_eq (cmp a b)) → ((a b : K) → (eq a b ≡ true → text a ≡ text b) × (text a ≡ text b → eq a b ≡ true))
    → (copy key : K) → text copy ≡ text key → cmp copy key ≡ Equal
copy_equal text cmp eq eq_is same copy key written = equal_of (cmp copy key) (sym (eq_is copy key) ∙ (same copy key).1 written)

module _ {K X : Type 0} {cmp : K → K → Ordering} (o : IsTotalOrder cmp) where
  stays_some : (k q : K) (v : X) (ns : List (K × X)) → is_some (look cmp ns q) ≡ true
      → is_some (look cmp (insert_entry cmp ns k v) q) ≡ true
  stays_some k q v ns held = by_bool (is_eq (cmp k q))
      (λ holds. ap is_some (lookup-insert o q k v ns ∙ cond_yes _ (Some v) (look cmp ns q) holds))
      (λ fails. ap is_some (lookup-insert o q k v ns ∙ cond_no _ (Some v) (look cmp ns q) fails) ∙ held)

module _ {K W : Type 0} {cmp : K → K → Ordering} (o : IsTotalOrder cmp) where
  module _ (es : List (K × Active W)) (ns : List (K × Note W)) (key copy : K) (same : cmp copy key ≡ Equal) (n : Note W) where
    pub noted_now : is_some (look cmp (insert_entry cmp ns copy n) key) ≡ true
    noted_now = ap is_some (lookup-insert o key copy n ns ∙ cond_yes _ (Some n) (look cmp ns key) (ap is_eq same))

    pub others_noted : (q : K) → is_some (look cmp ns q) ≡ true → is_some (look cmp (insert_entry cmp ns copy n) q) ≡ true
    others_noted q held = stays_some o copy q n ns held

    pub nothing_changed : Sorted cmp es → is_some (look cmp ns key) ≡ false → recalled (look cmp es key) n ≡ look cmp es key
        → taken_back cmp es (insert_entry cmp ns copy n) ≡ taken_back cmp es ns
    nothing_changed sorted fresh neutral =
        let entry : look cmp es copy ≡ look cmp es key = lookup_alike o copy key same es in
        noted_same o ns es sorted copy n (lookup_alike o copy key same ns ∙ none_if _ fresh)
        (ap (λ (a : Option (Active W)). recalled a n) entry ∙ neutral ∙ sym entry)

  -- ---- settled notes

  settled_some : (ns : List (K × Note W)) → Sorted cmp ns → (k : K) (before : Option W) (r : Option (Note W)) → look cmp ns k ≡ r
      → (q : K) → is_some (look cmp ns q) ≡ true → is_some (look cmp (settled_to cmp r before k ns) q) ≡ true
  settled_some ns sorted k before None is q held = held
  settled_some ns sorted k before (Some n) is q held =
      ap (λ (l : List (K × Note W)). is_some (look cmp l q))
      (set_is_insert o k k (tied_itself o k) ns sorted (ap is_some is) (settled before n))
      ∙ stays_some o k q (settled before n) ns held

  module _ (es fs : List (K × Active W)) (ns ms : List (K × Note W)) (sn : Sorted cmp ns) (k : K)
      (settles : ms ≡ settled_to cmp (look cmp ns k) (option_map (λ (b : Active W). b.value) (look cmp es k)) k ns) where
    pub stay_noted : (q : K) → is_some (look cmp ns q) ≡ true → is_some (look cmp ms q) ≡ true
    stay_noted q held =
        ap (λ (l : List (K × Note W)). is_some (look cmp l q)) settles
        ∙ settled_some ns sn k (option_map (λ (b : Active W). b.value) (look cmp es k)) (look cmp ns k) refl q held

    pub stays_put : Sorted cmp es → (a : Active W) → fs ≡ insert_entry cmp es k a → is_some (look cmp ns k) ≡ true
        → AreAlike cmp (taken_back cmp es ns) (taken_back cmp fs ms)
    stays_put se a puts noted =
        let n = some_of (look cmp ns k) noted in
        subst (λ (l : List (K × Active W)). AreAlike cmp (taken_back cmp es ns) (taken_back cmp l ms)) (sym puts)
        (subst (λ (l : List (K × Note W)). AreAlike cmp (taken_back cmp es ns) (taken_back cmp (insert_entry cmp es k a) l))
        (sym settles) (put_alike o es ns se sn k n.0 n.1 a))

    pub stays_removed : Sorted cmp es → fs ≡ remove_entry (is_at (cmp k)) es → is_some (look cmp ns k) ≡ true
        → AreAlike cmp (taken_back cmp es ns) (taken_back cmp fs ms)
    stays_removed se removes noted =
        let n = some_of (look cmp ns k) noted in
        subst (λ (l : List (K × Active W)). AreAlike cmp (taken_back cmp es ns) (taken_back cmp l ms)) (sym removes)
        (subst (λ (l : List (K × Note W)). AreAlike cmp (taken_back cmp es ns) (taken_back cmp (remove_entry (is_at (cmp k)) es) l))
        (sym settles) (removed_alike o es ns se sn k n.0 n.1))

  pub stays_moved : (es fs : List (K × Active W)) (ns : List (K × Note W)) → Sorted cmp es → Sorted cmp ns → (k : K) (l : ℕ)
      → fs ≡ moved (is_at (cmp k)) es l → is_some (look cmp ns k) ≡ true
      → AreAlike cmp (taken_back cmp es ns) (taken_back cmp fs ns)
  stays_moved es fs ns se sn k l moves noted =
      let n = some_of (look cmp ns k) noted in
      subst (λ (x : List (K × Active W)). AreAlike cmp (taken_back cmp es ns) (taken_back cmp x ns)) (sym moves)
      (moved_alike o es ns se sn k n.0 n.1 l)
