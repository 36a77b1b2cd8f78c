-- The parts of a database, once a put or a delete has changed them.
use Rattle.std.proofs.Common.{◌≡◌, ℕ, ◌+◌, ◌≤◌, ◌^◌, subst, arith, Bool, true, false, List, [], ◌∷◌, ◌++◌, length, map, Option, Some, None, is_some, IsSome, option_map, Ordering, Less, Equal, Greater, is_eq, refl, sym, ap, ◌∙◌}
use Rattle.std.specs.Cmp.{IsTotalOrder}
use Rattle.std.specs.Ordering.{match_ordering}
use Rattle.std.specs.Global.{Vec}
use Rattle.std.specs.List.{AllByRecursion}
use Rattle.std.specs.List.Sorted.{IsStrictlySortedBy}
use Rattle.std.specs.BTreeMap.{insert_entry, is_at}
use Rattle.std.specs.Map.{keys_of, lookup, remove_entry, set_value}
use Rattle.std.specs.Prelude.{if◌then◌else◌, Result, IfErr}
use Rattle.std.specs.Result.{IsErrAnd}
use Rattle.std.proofs.lemmas.Bool.{le-ltb}
use Rattle.std.proofs.lemmas.List.{map-append, length-append, length-map}
use Rattle.storage_ops.specs.Operations as operation
use Rattle.storage_current.specs.Keys.{Keyed, update_text, IsKeyed}
use Rattle.storage_db.specs.declared.db.active.Active.{Active}
use Rattle.storage_db.specs.declared.db.error.Error.{Error}
use Rattle.storage_db.specs.declared.db.error.Error.TheVariants.{Full, Memory}
use Rattle.storage_db.specs.declared.db.log.Log.{Log}
use Rattle.storage_db.specs.Rings.{next_key, previous}
use Rattle.storage_db.specs.Databases.{Committed, Database, without, active_at, updated, relinked, removed, put, delete}
use Rattle.storage_db.specs.Parts.{texts, database_of, moved, moved_to}
use Rattle.storage_db.specs.Logs.{IsTooMany}
use Rattle.storage_db.proofs.Cases.{by_bool, clash, cond_yes, cond_no, equal_of, err_and, somes}
use Rattle.storage_db.proofs.Entries.{Above, Sorted, less_greater, some_past, above_found, lookup_alike, lookup-insert, lookup-remove}
use Rattle.storage_db.proofs.Nexts.{IsPrevious, previous_some}

-- ---- entries in the order of their keys

above_of : {K X : Type 0} (cmp : K → K → Ordering) (k : K) (es : List (K × X))
    → AllByRecursion (λ y. cmp k y ≡ Less) (keys_of es) → Above cmp k es
above_of cmp k [] h = tt
above_of cmp k (c ∷ es) h = (h.0, above_of cmp k es h.1)

pub sorted_of : {K X : Type 0} (cmp : K → K → Ordering) (es : List (K × X)) → IsStrictlySortedBy cmp (keys_of es)
    → Sorted cmp es
unfolding IsStrictlySortedBy
sorted_of cmp [] h = tt
sorted_of cmp (c ∷ es) h = (above_of cmp c.0 es h.0, sorted_of cmp es h.1)

module _ {K X : Type 0} {cmp : K → K → Ordering} (o : IsTotalOrder cmp) (k q : K) (same : cmp k q ≡ Equal) where
  -- a new value of a key that is there goes to its place
  pub set_is_insert : (es : List (K × X)) → Sorted cmp es → IsSome (lookup (is_at (cmp q)) es) → (v : X)
      → set_value (is_at (cmp k)) es v ≡ insert_entry cmp es q v
  set_is_insert [] h there v = absurd (clash _ there refl)
  set_is_insert (c ∷ es) h there v =
      let turn : is_eq (cmp k c.0) ≡ is_eq (cmp q c.0) = ap is_eq (o.congr k q c.0 same) in
      let whole : List (K × X) = (q, v) ∷ c ∷ es in
      let here : List (K × X) = (c.0, v) ∷ es in
      let more : List (K × X) = c ∷ insert_entry cmp es q v in
      let less : List (K × X) = c ∷ set_value (is_at (cmp k)) es v in
      let pick : (r : Ordering) → cmp q c.0 ≡ r → match_ordering r whole here more ≡ insert_entry cmp (c ∷ es) q v
      = λ r p. sym (ap (λ (s : Ordering). match_ordering s whole here more) p) in
      by_bool (is_eq (cmp q c.0))
      (λ holds. cond_yes _ here less (turn ∙ holds) ∙ pick Equal (equal_of _ holds))
      (λ fails.
      let later : IsSome (lookup (is_at (cmp q)) es) = some_past o c es q fails there in
      cond_no _ here less (turn ∙ fails) ∙ ap (λ (l : List (K × X)). c ∷ l) (set_is_insert es h.1 later v)
      ∙ pick Greater (less_greater o c.0 q (above_found o c.0 es h.0 q later)))

-- ---- parts

pub texts_more : (log after : Log) (bytes : Vec ℕ) → after.operations.items ≡ log.operations.items ++ bytes ∷ []
    → texts after ≡ texts log ++ bytes.items ∷ []
texts_more log after bytes more = ap (map (λ (v : Vec ℕ). v.items)) more ∙ map-append _ _ _

pub count_of_texts : (log : Log) → length log.operations.items ≡ length (texts log)
count_of_texts log = sym (length-map _ _)

module _ {K W : Type 0} where
  abbrev pub made : List (List ℕ) → List Bool → List (K × Active W) → Option (Committed K W) → Database K W
  made operations bits entries last = record { operations = operations; bits = bits; entries = entries; last = last }

  pub same_parts : (o p : List (List ℕ)) (b c : List Bool) (m n : List (K × Active W)) (last : Option (Committed K W))
      → o ≡ p → b ≡ c → m ≡ n → made o b m last ≡ made p c n last
  same_parts o p b c m n last operations bits entries =
      ap (λ (x : List (List ℕ)). made x b m last) operations ∙ ap (λ (x : List Bool). made p x m last) bits
      ∙ ap (λ (x : List (K × Active W)). made p c x last) entries

  -- the room made for more changes nothing
  pub same_database : (log after : Log) → after.operations.items ≡ log.operations.items → after.bits.items ≡ log.bits.items
      → (m : List (K × Active W)) (last : Option (Committed K W)) → database_of after m last ≡ database_of log m last
  same_database log after operations bits m last =
      same_parts _ _ _ _ m m last (ap (map (λ (v : Vec ℕ). v.items)) operations) bits refl

module _ {K W : Type 0} (e : Keyed K W) where
  abbrev placed_at : W → ℕ → Active W
  placed_at value location = record { value = value; location = location }

  -- an update was appended, of a key that names one written as the next key
  pub updated_parts : (log after : Log) (m n : List (K × Active W)) (last : Option (Committed K W)) (key : K) (value : W)
      (named next : K) (bytes : Vec ℕ) → e.key named ≡ e.key next → bytes.items ≡ update_text e key value named
      → after.operations.items ≡ log.operations.items ++ bytes ∷ []
      → after.bits.items ≡ without (active_at e m key) log.bits.items ++ true ∷ []
      → n ≡ insert_entry e.cmp m key (placed_at value (length log.operations.items))
      → database_of after n last ≡ updated e (database_of log m last) key value next
  updated_parts log after m n last key value named next bytes same written operations bits entries =
      let one : bytes.items ≡ update_text e key value next
      = written ∙ ap (λ (t : List ℕ). e.operation (operation.Update (e.key key ++ e.value value ++ t))) same in
      same_parts _ _ _ _ _ _ last
      (texts_more log after bytes operations ∙ ap (λ (t : List ℕ). texts log ++ t ∷ []) one)
      bits
      (entries ∙ ap (λ (l : ℕ). insert_entry e.cmp m key (placed_at value l)) (count_of_texts log))

  -- a deletion was appended
  pub removed_parts : (log after : Log) (m n : List (K × Active W)) (last : Option (Committed K W)) (key : K) (bytes : Vec ℕ)
      → bytes.items ≡ e.operation (operation.Delete (e.key key))
      → after.operations.items ≡ log.operations.items ++ bytes ∷ []
      → after.bits.items ≡ without (active_at e m key) log.bits.items ++ false ∷ []
      → n ≡ remove_entry (is_at (e.cmp key)) m
      → database_of after n last ≡ removed e (database_of log m last) key
  removed_parts log after m n last key bytes written operations bits entries =
      same_parts _ _ _ _ _ _ last
      (texts_more log after bytes operations ∙ ap (λ (t : List ℕ). texts log ++ t ∷ []) written) bits entries

  module _ (is : IsKeyed e) where
    -- the update of an active key, its value kept, was appended
    pub renewed_parts : (log after : Log) (m n : List (K × Active W)) (last : Option (Committed K W)) (copy : K)
        (entry : K × Active W) (named next : K) (bytes : Vec ℕ)
        → e.key copy ≡ e.key entry.0 → Sorted e.cmp m → active_at e m entry.0 ≡ Some entry.1
        → e.key named ≡ e.key next → bytes.items ≡ update_text e entry.0 entry.1.value named
        → after.operations.items ≡ log.operations.items ++ bytes ∷ []
        → after.bits.items ≡ without (lookup (is_at (e.cmp copy)) m) log.bits.items ++ true ∷ []
        → n ≡ moved (is_at (e.cmp copy)) m (length log.operations.items)
        → database_of after n last ≡ updated e (database_of log m last) entry.0 entry.1.value next
    renewed_parts log after m n last copy entry named next bytes alike sorted there same written operations bits entries =
        let equal : e.cmp copy entry.0 ≡ Equal = is.alike copy entry.0 alike in
        let found : lookup (is_at (e.cmp copy)) m ≡ active_at e m entry.0 = lookup_alike is.total copy entry.0 equal m in
        let location : ℕ = length log.operations.items in
        updated_parts log after m n last entry.0 entry.1.value named next bytes same written operations
        (bits ∙ ap (λ (o : Option (Active W)). without o log.bits.items ++ true ∷ []) found)
        (entries
        ∙ ap (λ (o : Option (Active W)). moved_to o (is_at (e.cmp copy)) m location) (found ∙ there)
        ∙ set_is_insert is.total copy entry.0 equal m sorted (ap is_some there) (placed_at entry.1.value location))

    -- ---- a put of a new key, and a delete, where there is another key

    module _ (d : Database K W) (sorted : Sorted e.cmp d.entries) (key : K) (entry : K × Active W)
        (at : previous e.cmp d.entries key ≡ Some entry) where
      before : IsPrevious e is d.entries sorted key entry
      before = previous_some e is d.entries sorted key entry at

      apart : is_eq (e.cmp key entry.0) ≡ false
      apart = by_bool (is_eq (e.cmp key entry.0))
          (λ holds. absurd (before.other.apart (sym (is.exact key entry.0 (equal_of _ holds)))))
          (λ fails. fails)

      pub stays_put : (value : W) (next : K)
          → active_at e (updated e d key value next).entries entry.0 ≡ Some entry.1
      stays_put value next =
          lookup-insert is.total entry.0 key (placed_at value (length d.operations)) d.entries
          ∙ cond_no _ (Some (placed_at value (length d.operations))) (active_at e d.entries entry.0) apart ∙ before.there

      pub stays_removed : active_at e (removed e d key).entries entry.0 ≡ Some entry.1
      stays_removed =
          lookup-remove is.total entry.0 key d.entries sorted
          ∙ cond_no _ None (active_at e d.entries entry.0) apart ∙ before.there

      pub put_is : (value : W) → is_some (active_at e d.entries key) ≡ false
          → updated e (updated e d key value (next_key e.cmp d.entries key)) entry.0 entry.1.value key ≡ put e d key value
      put_is value fresh =
          let after : Database K W = updated e d key value (next_key e.cmp d.entries key) in
          sym (cond_no _ after (relinked e after (previous e.cmp d.entries key) key) fresh
          ∙ ap (λ (o : Option (K × Active W)). relinked e after o key) at)

      pub delete_is : is_some (active_at e d.entries key) ≡ true
          → updated e (removed e d key) entry.0 entry.1.value (next_key e.cmp d.entries key) ≡ delete e d key
      delete_is held =
          let next : K = next_key e.cmp d.entries key in
          sym (cond_yes _ (relinked e (removed e d key) (previous e.cmp d.entries key) next) d held
          ∙ ap (λ (o : Option (K × Active W)). relinked e (removed e d key) o next) at)

  -- ---- how many operations a command appends: its own, and where there is a key before, that key's update

  linked_count : (d after : Database K W) (o : Option (K × Active W)) (next : K)
      → length after.operations ≡ length d.operations + 1
      → length d.operations + (if is_some o then 2 else 1) ≡ length (relinked e after o next).operations
  linked_count d after None next one = sym one
  linked_count d after (Some entry) next one = simp length-append (omega (arith, one))

  -- as the key before was found
  seen_count : {T : Type 0} (f : T → K × Active W) (o : Option T) (p : Option (K × Active W)) → option_map f o ≡ p
      → (n : ℕ) → n ≡ (if is_some o then 2 else 1) → n ≡ (if is_some p then 2 else 1)
  seen_count f None p same n is = is ∙ ap (λ (q : Option (K × Active W)). if is_some q then 2 else 1) same
  seen_count f (Some x) p same n is = is ∙ ap (λ (q : Option (K × Active W)). if is_some q then 2 else 1) same

  module _ (log : Log) (m : List (K × Active W)) (key : K) where
    pub update_count : (value : W) → is_some (active_at e m key) ≡ true → (last : Option (Committed K W))
        → length (texts log) + 1 ≡ length (put e (database_of log m last) key value).operations
    update_count value held last =
        let d : Database K W = database_of log m last in
        let after : Database K W = updated e d key value (next_key e.cmp m key) in
        sym (length-append (texts log) _) ∙ ap (λ (x : Database K W). length x.operations)
        (sym (cond_yes _ after (relinked e after (previous e.cmp m key) key) held))

    module _ {T : Type 0} (f : T → K × Active W) (o : Option T) (at : option_map f o ≡ previous e.cmp m key) (n : ℕ)
        (is : n ≡ (if is_some o then 2 else 1)) where
      pub put_count : (value : W) → is_some (active_at e m key) ≡ false → (last : Option (Committed K W))
          → length (texts log) + n ≡ length (put e (database_of log m last) key value).operations
      put_count value fresh last =
          let d : Database K W = database_of log m last in
          let after : Database K W = updated e d key value (next_key e.cmp m key) in
          ap (λ (k : ℕ). length (texts log) + k) (seen_count f o _ at n is)
          ∙ linked_count d after (previous e.cmp m key) key (length-append (texts log) _)
          ∙ ap (λ (x : Database K W). length x.operations)
          (sym (cond_no _ after (relinked e after (previous e.cmp m key) key) fresh))

      pub delete_count : is_some (active_at e m key) ≡ true → (last : Option (Committed K W))
          → length (texts log) + n ≡ length (delete e (database_of log m last) key).operations
      delete_count held last =
          let d : Database K W = database_of log m last in
          let next : K = next_key e.cmp m key in
          ap (λ (k : ℕ). length (texts log) + k) (seen_count f o _ at n is)
          ∙ linked_count d (removed e d key) (previous e.cmp m key) next (length-append (texts log) _)
          ∙ ap (λ (x : Database K W). length x.operations)
          (sym (cond_yes _ (relinked e (removed e d key) (previous e.cmp m key) next) d held))

-- ---- why a command is refused that appends so many operations

module _ {K W : Type 0} (log : Log) (m : List (K × Active W)) (step : Database K W → Database K W) (n : ℕ)
    (count : (last : Option (Committed K W)) → length (texts log) + n ≡ length (step (database_of log m last)).operations)
    {T F : Type 0} (r : Result T (Error F)) where
  abbrev IsTold : Type 0
  IsTold = IfErr r (λ error. (last : Option (Committed K W)) → IsTooMany (length log.operations.items)
      (length (step (database_of log m last)).operations) error)

  told : (error : Error F) → IsTooMany (length log.operations.items) (length log.operations.items + n) error
      → (last : Option (Committed K W))
      → IsTooMany (length log.operations.items) (length (step (database_of log m last)).operations) error
  told error why last =
      subst (λ (k : ℕ). IsTooMany (length log.operations.items) k error)
      (ap (λ (k : ℕ). k + n) (count_of_texts log) ∙ count last) why

  -- as the making of room was
  pub no_room : (e : Error F) → IsTooMany (length log.operations.items) (length log.operations.items + n) e
      → IsErrAnd r (λ error. error ≡ e) → IsTold
  no_room e why h = err_and _ _ r (λ error same. told error (same ∙ why)) h

  -- once there was room, for want of memory
  pub no_memory : length log.operations.items + n ≤ 2 ^ 62 → IsErrAnd r (λ error. error ≡ Memory) → IsTold
  no_memory few h =
      let why : IsTooMany {F = F} (length log.operations.items) (length log.operations.items + n) Memory
      = sym (cond_no _ (Full (length log.operations.items)) Memory (le-ltb _ _ few)) in
      no_room Memory why h

-- the value that a key has, written again
pub set_held : {K X : Type 0} (test : K → Bool) (es : List (K × X)) (x : X) → lookup test es ≡ Some x → set_value test es x ≡ es
set_held test [] x held = refl
set_held {K} {X} test (c ∷ es) x held = by_bool (test c.0)
    (λ holds.
    let same : x ≡ c.1 = somes x c.1 (sym held ∙ cond_yes (test c.0) (Some c.1) (lookup test es) holds) in
    cond_yes (test c.0) ((c.0, x) ∷ es) (c ∷ set_value test es x) holds ∙ ap (λ (y : X). (c.0, y) ∷ es) same)
    (λ fails. cond_no (test c.0) ((c.0, x) ∷ es) (c ∷ set_value test es x) fails
    ∙ ap (λ (l : List (K × X)). c ∷ l)
    (set_held test es x (sym (cond_no (test c.0) (Some c.1) (lookup test es) fails) ∙ held)))
