-- Commands that are written alike keep databases the same.
use Rattle.std.proofs.Common.{◌≡◌, ℕ, ◌-◌, Bool, true, false, List, [], ◌∷◌, ◌++◌, length, map, min, fold, slice_set, cond, Option, Some, None, is_some, option_map, nat_lt, Ordering, Less, Equal, Greater, is_eq, refl, sym, ap, ◌∙◌, subst}
use Rattle.std.specs.Prelude.{MatchOption, IsSomeAnd}
use Rattle.std.specs.List.{AllZip}
use Rattle.std.specs.Ordering.{match_ordering}
use Rattle.std.specs.BTreeMap.{insert_entry, is_at}
use Rattle.std.specs.Map.{lookup, remove_entry, values_of}
use Rattle.storage_ops.specs.Operations as operation
use Rattle.storage_current.specs.Keys.{Keyed, update_text, commit_text, IsKeyed}
use Rattle.storage_current.specs.Snapshots.{Snapshot}
use Rattle.storage_merkle.specs.Shape.{max_leaves}
use Rattle.storage_db.specs.declared.db.active.Active.{Active}
use Rattle.storage_db.specs.Rings.{next_key, previous, around}
use Rattle.storage_db.specs.Databases.{Command, Commit, Committed, Database, Delete, Put, active_at, commit, delete, done, empty, least_location, put, relinked, removed, updated, without, without_commit}
use Rattle.storage_db.specs.Kept.{IsCopy}
use Rattle.storage_db.specs.Opening.{IsSame, IsSameCommit, own_text}
use Rattle.storage_db.specs.Replays.{HasOwn, IsAlike, IsDoing}
use Rattle.storage_db.proofs.Cases.{by_bool, by_order, some_not_none}
use Rattle.storage_db.proofs.Copies.{AreCopied, around_copy, last_copy, lookup_by, next_copy, turn}
use Rattle.storage_db.proofs.Entries.{lookup_alike}

module _ {K W Y : Type 0} (e : Keyed K W) (seen : W → Y) where
  pub empty_same : IsSame e seen empty empty
  empty_same = record { operations = refl; bits = refl; entries = tt; last = refl }

module _ {W : Type 0} where
  abbrev at_location : Active W → ℕ
  at_location a = a.location

  -- which bit is cleared is settled by the location
  without_at : (o p : Option (Active W)) → option_map at_location p ≡ option_map at_location o → (bits : List Bool)
      → without p bits ≡ without o bits
  without_at None None same bits = refl
  without_at None (Some b) same bits = absurd (some_not_none _ same)
  without_at (Some a) None same bits = absurd (some_not_none _ (sym same))
  without_at (Some a) (Some b) same bits =
      let at : b.location ≡ a.location = cc in
      ap (λ (l : ℕ). slice_set bits l false) at

  is_some_at : (o p : Option (Active W)) → option_map at_location p ≡ option_map at_location o → is_some p ≡ is_some o
  is_some_at None None same = refl
  is_some_at None (Some b) same = absurd (some_not_none _ same)
  is_some_at (Some a) None same = absurd (some_not_none _ (sym same))
  is_some_at (Some a) (Some b) same = refl

module _ {K W Y : Type 0} (e : Keyed K W) (seen : W → Y) (is : IsKeyed e) where
  -- ---- the active keys

  abbrev AreCopies : List (K × Active W) → List (K × Active W) → Type 0
  AreCopies es fs = AllZip (IsCopy e seen) es fs

  module _ (k l : K) (same : e.key l ≡ e.key k) where
    -- where the active update of a key stands
    location_copy : (es fs : List (K × Active W)) → AreCopies es fs
        → option_map at_location (lookup (is_at (e.cmp l)) fs) ≡ option_map at_location (lookup (is_at (e.cmp k)) es)
    location_copy es fs copies =
        ap (option_map at_location) (lookup_alike is.total l k (is.alike l k same) fs)
        ∙ lookup_by e seen is at_location (λ c d copy. copy.location) es fs copies k

    held_copy : (es fs : List (K × Active W)) → AreCopies es fs
        → is_some (lookup (is_at (e.cmp l)) fs) ≡ is_some (lookup (is_at (e.cmp k)) es)
    held_copy es fs copies = is_some_at _ _ (location_copy es fs copies)

    insert_copy : (a b : Active W) → IsCopy e seen (k, a) (l, b) → (es fs : List (K × Active W)) → AreCopies es fs
        → AreCopies (insert_entry e.cmp es k a) (insert_entry e.cmp fs l b)
    insert_copy a b new [] [] copies = (new, tt)
    insert_copy a b new [] (d ∷ fs) copies = absurd copies
    insert_copy a b new (c ∷ es) [] copies = absurd copies
    insert_copy a b new (c ∷ es) (d ∷ fs) copies =
        let P : Ordering → Ordering → Type 0 = λ r s. AreCopies
        (match_ordering r ((k, a) ∷ c ∷ es) ((c.0, a) ∷ es) (c ∷ insert_entry e.cmp es k a))
        (match_ordering s ((l, b) ∷ d ∷ fs) ((d.0, b) ∷ fs) (d ∷ insert_entry e.cmp fs l b)) in
        let here : IsCopy e seen (c.0, a) (d.0, b) = record {
          key = copies.0.key;
          value = new.value;
          seen_value = new.seen_value;
          location = new.location;
        } in
        let both : (r : Ordering) → e.cmp k c.0 ≡ r → P r r → P (e.cmp k c.0) (e.cmp l d.0) = λ r at holds.
        subst (λ (s : Ordering). P (e.cmp k c.0) s) (sym (turn e seen is c d k l copies.0 same ∙ at))
        (subst (λ (q : Ordering). P q r) (sym at) holds) in
        by_order (e.cmp k c.0)
        (λ at. both Less at (new, copies))
        (λ at. both Equal at (here, copies.1))
        (λ at. both Greater at (copies.0, insert_copy a b new es fs copies.1))

    remove_copy : (es fs : List (K × Active W)) → AreCopies es fs
        → AreCopies (remove_entry (is_at (e.cmp k)) es) (remove_entry (is_at (e.cmp l)) fs)
    remove_copy [] [] copies = tt
    remove_copy [] (d ∷ fs) copies = absurd copies
    remove_copy (c ∷ es) [] copies = absurd copies
    remove_copy (c ∷ es) (d ∷ fs) copies =
        let P : Bool → Bool → Type 0 = λ x y. AreCopies (cond x es (c ∷ remove_entry (is_at (e.cmp k)) es))
        (cond y fs (d ∷ remove_entry (is_at (e.cmp l)) fs)) in
        let both : (x : Bool) → is_eq (e.cmp k c.0) ≡ x → P x x → P (is_eq (e.cmp k c.0)) (is_eq (e.cmp l d.0)) = λ x at holds.
        subst (λ (y : Bool). P (is_eq (e.cmp k c.0)) y) (sym (ap is_eq (turn e seen is c d k l copies.0 same) ∙ at))
        (subst (λ (z : Bool). P z x) (sym at) holds) in
        by_bool (is_eq (e.cmp k c.0))
        (λ at. both true at copies.1)
        (λ at. both false at (copies.0, remove_copy es fs copies.1))

    previous_alike : (es fs : List (K × Active W)) → AreCopies es fs
        → AreCopied e seen is (previous e.cmp es k) (previous e.cmp fs l)
    previous_alike es fs copies =
        last_copy e seen is (around e.cmp es k) (around e.cmp fs l) (around_copy e seen is es fs copies k l same)

  locations_copy : (es fs : List (K × Active W)) → AreCopies es fs
      → map at_location (values_of fs) ≡ map at_location (values_of es)
  locations_copy [] [] copies = refl
  locations_copy [] (d ∷ fs) copies = absurd copies
  locations_copy (c ∷ es) [] copies = absurd copies
  locations_copy (c ∷ es) (d ∷ fs) copies =
      ap (λ (n : ℕ). n ∷ map at_location (values_of fs)) copies.0.location
      ∙ ap (λ (ns : List ℕ). c.1.location ∷ ns) (locations_copy es fs copies.1)

  least_copy : (es fs : List (K × Active W)) → AreCopies es fs → (n : ℕ) → least_location fs n ≡ least_location es n
  least_copy es fs copies n = ap (fold min n) (locations_copy es fs copies)

  -- ---- what operations are written as

  update_alike : (k l : K) (v w : W) (m n : K) → e.key l ≡ e.key k → e.value w ≡ e.value v → e.key n ≡ e.key m
      → update_text e l w n ≡ update_text e k v m
  update_alike k l v w m n key value next =
      let text : List ℕ → List ℕ → List ℕ → List ℕ = λ x y z. e.operation (operation.Update (x ++ y ++ z)) in
      ap (λ (x : List ℕ). text x (e.value w) (e.key n)) key ∙ ap (λ (x : List ℕ). text (e.key k) x (e.key n)) value
      ∙ ap (λ (x : List ℕ). text (e.key k) (e.value v) x) next

  commit_alike : (m n : Option W) → option_map e.value n ≡ option_map e.value m → (a b : ℕ) → b ≡ a
      → commit_text e n b ≡ commit_text e m a
  commit_alike m n value a b floor =
      ap (λ (x : Option (List ℕ)). e.operation (operation.CommitFloor x b)) value ∙ ap (commit_text e m) floor

  module _ (d c : Database K W) (same : IsSame e seen d c) where
    count_same : length c.operations ≡ length d.operations
    count_same = ap (λ (l : List (List ℕ)). length l) same.operations

    floor_same : least_location c.entries (length c.operations) ≡ least_location d.entries (length d.operations)
    floor_same = ap (least_location c.entries) count_same ∙ least_copy d.entries c.entries same.entries (length d.operations)

    pub own_same : (x y : Command K W) → IsAlike e seen x y → own_text e c y ≡ own_text e d x
    own_same (Put k v) (Put l w) alike = update_alike k l v w (next_key e.cmp d.entries k) (next_key e.cmp c.entries l) alike.0 alike.1
        (next_copy e seen is d.entries c.entries same.entries k l alike.0)
    own_same (Put k v) (Delete l) alike = absurd alike
    own_same (Put k v) (Commit n) alike = absurd alike
    own_same (Delete k) (Put l w) alike = absurd alike
    own_same (Delete k) (Delete l) alike = ap (λ (x : List ℕ). e.operation (operation.Delete x)) alike
    own_same (Delete k) (Commit n) alike = absurd alike
    own_same (Commit m) (Put l w) alike = absurd alike
    own_same (Commit m) (Delete l) alike = absurd alike
    own_same (Commit m) (Commit n) alike = commit_alike m n alike.0 _ _ floor_same

    own_held : (x y : Command K W) → IsAlike e seen x y → HasOwn e c y → HasOwn e d x
    own_held (Put k v) (Put l w) alike has = tt
    own_held (Put k v) (Delete l) alike has = absurd alike
    own_held (Put k v) (Commit n) alike has = absurd alike
    own_held (Delete k) (Put l w) alike has = absurd alike
    own_held (Delete k) (Delete l) alike has = sym (held_copy k l alike d.entries c.entries same.entries) ∙ has
    own_held (Delete k) (Commit n) alike has = absurd alike
    own_held (Commit m) (Put l w) alike has = absurd alike
    own_held (Commit m) (Delete l) alike has = absurd alike
    own_held (Commit m) (Commit n) alike has = tt

    -- ---- an update and a deletion

    updated_same : (k l : K) (v w : W) (m n : K) → e.key l ≡ e.key k → e.value w ≡ e.value v → seen w ≡ seen v
        → e.key n ≡ e.key m → IsSame e seen (updated e d k v m) (updated e c l w n)
    updated_same k l v w m n key value shown next = record {
      operations = ap (λ (x : List (List ℕ)). x ++ update_text e l w n ∷ []) same.operations
          ∙ ap (λ (t : List ℕ). d.operations ++ t ∷ []) (update_alike k l v w m n key value next);
      bits = ap (λ (x : List Bool). x ++ true ∷ [])
          (ap (λ (b : List Bool). without (active_at e c.entries l) b) same.bits
          ∙ without_at _ _ (location_copy k l key d.entries c.entries same.entries) d.bits);
      entries = insert_copy k l key (record { value = v; location = length d.operations })
          (record { value = w; location = length c.operations })
          (record { key = key; value = value; seen_value = shown; location = count_same }) d.entries c.entries same.entries;
      last = same.last;
    }

    removed_same : (k l : K) → e.key l ≡ e.key k → IsSame e seen (removed e d k) (removed e c l)
    removed_same k l key = record {
      operations = ap (λ (x : List (List ℕ)). x ++ e.operation (operation.Delete (e.key l)) ∷ []) same.operations
          ∙ ap (λ (t : List ℕ). d.operations ++ e.operation (operation.Delete t) ∷ []) key;
      bits = ap (λ (x : List Bool). x ++ false ∷ [])
          (ap (λ (b : List Bool). without (active_at e c.entries l) b) same.bits
          ∙ without_at _ _ (location_copy k l key d.entries c.entries same.entries) d.bits);
      entries = remove_copy k l key d.entries c.entries same.entries;
      last = same.last;
    }

    relinked_same : (o p : Option (K × Active W)) → AreCopied e seen is o p → (m n : K) → e.key n ≡ e.key m
        → IsSame e seen (relinked e d o m) (relinked e c p n)
    relinked_same None None copied m n next = same
    relinked_same None (Some y) copied m n next = absurd (some_not_none y copied)
    relinked_same (Some x) None copied m n next = absurd copied
    relinked_same (Some x) (Some y) copied m n next =
        updated_same x.0 y.0 x.1.value y.1.value m n copied.key copied.value copied.seen_value next

    -- ---- a commit

    place_same : (o p : Option (Committed K W)) → MatchOption o (p ≡ None) (λ x. IsSomeAnd p (IsSameCommit e seen x))
        → (bits : List Bool) → without_commit p bits ≡ without_commit o bits
    place_same None None alike bits = refl
    place_same None (Some y) alike bits = absurd (some_not_none y alike)
    place_same (Some x) None alike bits = absurd alike
    place_same (Some x) (Some y) alike bits =
        ap (λ (s : Snapshot). slice_set bits (length s.operations - 1) false) alike.snapshot

    commit_same : (m n : Option W) → option_map e.value n ≡ option_map e.value m → option_map seen n ≡ option_map seen m
        → IsSame e seen (commit e d m) (commit e c n)
    commit_same m n value shown =
        let operations : (commit e c n).operations ≡ (commit e d m).operations
        = ap (λ (x : List (List ℕ)). x ++ own_text e c (Commit n) ∷ []) same.operations
        ∙ ap (λ (t : List ℕ). d.operations ++ t ∷ []) (commit_alike m n value _ _ floor_same) in
        let bits : (commit e c n).bits ≡ (commit e d m).bits
        = ap (λ (x : List Bool). x ++ true ∷ []) (ap (without_commit c.last) same.bits ∙ place_same d.last c.last same.last d.bits) in
        let S : List (List ℕ) → List Bool → ℕ → Snapshot = λ o b f. record { operations = o; bits = b; floor = f } in
        record {
          operations = operations;
          bits = bits;
          entries = same.entries;
          last = record {
            metadata = value;
            seen_metadata = shown;
            entries = same.entries;
            snapshot = ap (λ (o : List (List ℕ)). S o (commit e c n).bits (least_location c.entries (length c.operations))) operations
                ∙ ap (λ (b : List Bool). S (commit e d m).operations b (least_location c.entries (length c.operations))) bits
                ∙ ap (λ (f : ℕ). S (commit e d m).operations (commit e d m).bits f) floor_same;
          };
        }

  module _ (d c : Database K W) (same : IsSame e seen d c) where
    put_same : (k l : K) (v w : W) → e.key l ≡ e.key k → e.value w ≡ e.value v → seen w ≡ seen v
        → IsSame e seen (put e d k v) (put e c l w)
    put_same k l v w key value shown =
        let m : K = next_key e.cmp d.entries k in
        let n : K = next_key e.cmp c.entries l in
        let one : IsSame e seen (updated e d k v m) (updated e c l w n) = updated_same d c same k l v w m n key value shown
        (next_copy e seen is d.entries c.entries same.entries k l key) in
        let two : IsSame e seen (relinked e (updated e d k v m) (previous e.cmp d.entries k) k)
        (relinked e (updated e c l w n) (previous e.cmp c.entries l) l)
        = relinked_same (updated e d k v m) (updated e c l w n) one (previous e.cmp d.entries k) (previous e.cmp c.entries l)
        (previous_alike k l key d.entries c.entries same.entries) k l key in
        let P : Bool → Bool → Type 0 = λ x y. IsSame e seen
        (cond x (updated e d k v m) (relinked e (updated e d k v m) (previous e.cmp d.entries k) k))
        (cond y (updated e c l w n) (relinked e (updated e c l w n) (previous e.cmp c.entries l) l)) in
        let held : is_some (active_at e c.entries l) ≡ is_some (active_at e d.entries k)
        = held_copy k l key d.entries c.entries same.entries in
        subst (λ (y : Bool). P (is_some (active_at e d.entries k)) y) (sym held)
        (by_bool (is_some (active_at e d.entries k))
        (λ at. subst (λ (x : Bool). P x x) (sym at) one)
        (λ at. subst (λ (x : Bool). P x x) (sym at) two))

    delete_same : (k l : K) → e.key l ≡ e.key k → IsSame e seen (delete e d k) (delete e c l)
    delete_same k l key =
        let two : IsSame e seen (relinked e (removed e d k) (previous e.cmp d.entries k) (next_key e.cmp d.entries k))
        (relinked e (removed e c l) (previous e.cmp c.entries l) (next_key e.cmp c.entries l))
        = relinked_same (removed e d k) (removed e c l) (removed_same d c same k l key) (previous e.cmp d.entries k)
        (previous e.cmp c.entries l) (previous_alike k l key d.entries c.entries same.entries) (next_key e.cmp d.entries k)
        (next_key e.cmp c.entries l) (next_copy e seen is d.entries c.entries same.entries k l key) in
        let P : Bool → Bool → Type 0 = λ x y. IsSame e seen
        (cond x (relinked e (removed e d k) (previous e.cmp d.entries k) (next_key e.cmp d.entries k)) d)
        (cond y (relinked e (removed e c l) (previous e.cmp c.entries l) (next_key e.cmp c.entries l)) c) in
        let held : is_some (active_at e c.entries l) ≡ is_some (active_at e d.entries k)
        = held_copy k l key d.entries c.entries same.entries in
        subst (λ (y : Bool). P (is_some (active_at e d.entries k)) y) (sym held)
        (by_bool (is_some (active_at e d.entries k))
        (λ at. subst (λ (x : Bool). P x x) (sym at) two)
        (λ at. subst (λ (x : Bool). P x x) (sym at) same))

    -- what commands that are alike leave is the same
    pub done_same : (x y : Command K W) → IsAlike e seen x y → IsSame e seen (done e d x) (done e c y)
    done_same (Put k v) (Put l w) alike = put_same k l v w alike.0 alike.1 alike.2
    done_same (Put k v) (Delete l) alike = absurd alike
    done_same (Put k v) (Commit n) alike = absurd alike
    done_same (Delete k) (Put l w) alike = absurd alike
    done_same (Delete k) (Delete l) alike = delete_same k l alike
    done_same (Delete k) (Commit n) alike = absurd alike
    done_same (Commit m) (Put l w) alike = absurd alike
    done_same (Commit m) (Delete l) alike = absurd alike
    done_same (Commit m) (Commit n) alike = commit_same d c same m n alike.0 alike.1

    -- and where the one can be done so can the other
    pub doing_same : (x y : Command K W) → IsAlike e seen x y → IsDoing e c y → IsDoing e d x
    doing_same x y alike doing = record {
      few = ap (λ (l : List (List ℕ)). nat_lt max_leaves (length l)) (sym (done_same x y alike).operations) ∙ doing.few;
      own = own_held d c same x y alike doing.own;
    }

module _ {K W Y : Type 0} (e : Keyed K W) (seen : W → Y) where
  copies_itself : (es : List (K × Active W)) → AllZip (IsCopy e seen) es es
  copies_itself [] = tt
  copies_itself (c ∷ es) = (record { key = refl; value = refl; seen_value = refl; location = refl }, copies_itself es)

  last_itself : (o : Option (Committed K W)) → MatchOption o (o ≡ None) (λ x. IsSomeAnd o (IsSameCommit e seen x))
  last_itself None = refl
  last_itself (Some x) =
      record { metadata = refl; seen_metadata = refl; entries = copies_itself x.entries; snapshot = refl }

  pub same_itself : (d : Database K W) → IsSame e seen d d
  same_itself d =
      record { operations = refl; bits = refl; entries = copies_itself d.entries; last = last_itself d.last }
