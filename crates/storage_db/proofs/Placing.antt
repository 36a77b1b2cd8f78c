-- Databases whose active keys each have an update, and how it is named, as updates and deletions are appended.
use Rattle.std.proofs.Common.{◌≡◌, ◌⊎◌, ℕ, ◌-◌, ◌<◌, ◌^◌, Bool, true, false, cond, List, ◌++◌, length, Option, Some, None, is_some, option_map, is_eq, inl, inr, refl, sym, ap, ◌∙◌, subst}
use Rattle.std.specs.Prelude.{MatchOption}
use Rattle.storage_ops.specs.Operations as operation
use Rattle.storage_current.specs.Keys.{Keyed, update_text, commit_text, IsKeyed}
use Rattle.storage_current.specs.Snapshots.{Snapshot, IsActive}
use Rattle.storage_db.specs.declared.db.active.Active.{Active}
use Rattle.storage_db.specs.Databases.{Committed, Database, without, active_at, updated, removed}
use Rattle.storage_db.proofs.Cases.{by_bool, by_option, clash, cond_yes, cond_no, equal_of, somes, some_not_none, match_map}
use Rattle.storage_db.proofs.Entries.{Sorted, lookup_alike, lookup-insert, sorted-insert, lookup-remove, sorted-remove}
use Rattle.storage_db.proofs.Nexts.{Has}
use Rattle.storage_db.proofs.Appends.{IsNot, IsCleared, none_cleared, one_cleared, IsAppended, appended}

-- the operations and bits of a database
abbrev pub here : {K W : Type 0} → Database K W → Snapshot
here d = record { operations = d.operations; bits = d.bits; floor = 0 }

-- where the last commit stands
abbrev pub commit_place : {K W : Type 0} → Option (Committed K W) → Option ℕ
commit_place {K} {W} last = option_map (λ (c : Committed K W). length c.snapshot.operations - 1) last

-- what the place of an active update is
abbrev pub place : {W : Type 0} → Option (Active W) → Option ℕ
place {W} o = option_map (λ (a : Active W). a.location) o

pub without_cleared : {W : Type 0} (o : Option (Active W)) (bits : List Bool) → IsCleared bits (without o bits) (place o)
without_cleared None bits = none_cleared bits
without_cleared (Some a) bits = one_cleared bits a.location

-- a location is that of the last commit
abbrev pub IsCommitAt : {K W : Type 0} → Option (Committed K W) → ℕ → Type 0
IsCommitAt {K} {W} last i = MatchOption last ⊥ (λ (c : Committed K W). i ≡ length c.snapshot.operations - 1)

module _ {K W : Type 0} (e : Keyed K W) (is : IsKeyed e) where
  -- the active update of a key names the next key
  pub record Named (d : Database K W) (q m : K) : Type 0 where
    pub active : Active W
    pub there : active_at e d.entries q ≡ Some active
    pub written : IsActive (here d) active.location (update_text e q active.value m)

  -- the active commit
  pub record IsCommit (s : Snapshot) (c : Committed K W) : Type 0 where
    pub value : Option W
    pub floor : ℕ
    pub small : floor < 2 ^ 64
    pub written : IsActive s (length c.snapshot.operations - 1) (commit_text e value floor)

  -- each active key has its update, and what is active is the update of an active key or the last commit
  pub record Placed (d : Database K W) : Type 0 where
    pub bit_each : length d.bits ≡ length d.operations
    pub sorted : Sorted e.cmp d.entries
    pub named : (q : K) → Has e is d.entries q → (m : K) × Named d q m
    pub only : (i : ℕ) (op : List ℕ) → IsActive (here d) i op
        → ((q : K) × (a : Active W) × (active_at e d.entries q ≡ Some a) × (a.location ≡ i)) ⊎ IsCommitAt d.last i
    pub commit : MatchOption d.last (Unit {0}) (IsCommit (here d))

  pub one_operation : (s : Snapshot) (i j : ℕ) (a b : List ℕ) → i ≡ j → IsActive s i a → IsActive s j b → a ≡ b
  one_operation s i j a b same p q = sym p.there ∙ (subst (λ (l : ℕ). IsActive s l b) (sym same) q).there

  -- the update of another key stands elsewhere
  pub elsewhere : (d : Database K W) → Placed d → (k q m : K) → (e.key q ≡ e.key k → ⊥) → (n : Named d q m)
      → IsNot (place (active_at e d.entries k)) n.active.location
  elsewhere d placed k q m apart n =
      let P : Option (Active W) → Type 0 = λ o. IsNot (place o) n.active.location in
      by_option (active_at e d.entries k)
      (λ none. subst P (sym none) tt)
      (λ a at. subst P (sym at) (λ same.
      let other = (placed.named k (ap is_some at)).1 in
      let one : a ≡ other.active = somes a other.active (sym at ∙ other.there) in
      apart (is.one q k n.active.value other.active.value m (placed.named k (ap is_some at)).0
      (one_operation (here d) _ _ _ _ (same ∙ ap (λ (b : Active W). b.location) one) n.written other.written)).0))

  -- and so does the last commit
  pub commit_elsewhere : (d : Database K W) → Placed d → (k : K) (c : Committed K W) → IsCommit (here d) c
      → IsNot (place (active_at e d.entries k)) (length c.snapshot.operations - 1)
  commit_elsewhere d placed k c past_commit =
      let P : Option (Active W) → Type 0 = λ o. IsNot (place o) (length c.snapshot.operations - 1) in
      by_option (active_at e d.entries k)
      (λ none. subst P (sym none) tt)
      (λ a at. subst P (sym at) (λ same.
      let other = (placed.named k (ap is_some at)).1 in
      let one : a ≡ other.active = somes a other.active (sym at ∙ other.there) in
      is.apart k other.active.value (placed.named k (ap is_some at)).0 past_commit.value past_commit.floor past_commit.small
      (sym (one_operation (here d) _ _ _ _ (same ∙ ap (λ (b : Active W). b.location) one) past_commit.written other.written))))

  -- ---- an update is appended

  module _ (d : Database K W) (placed : Placed d) (k : K) (v : W) (n : K) where
    abbrev after : Database K W
    after = updated e d k v n

    abbrev fresh : Active W
    fresh = record { value = v; location = length d.operations }

    grown : IsAppended (here d) (here after) (update_text e k v n) true (place (active_at e d.entries k))
    grown = appended (here d) placed.bit_each (update_text e k v n) true (without (active_at e d.entries k) d.bits)
        (place (active_at e d.entries k)) (without_cleared (active_at e d.entries k) d.bits) 0

    found_at : (q : K) → active_at e after.entries q ≡ cond (is_eq (e.cmp k q)) (Some fresh) (active_at e d.entries q)
    found_at q = lookup-insert is.total q k fresh d.entries

    found_own : (q : K) → is_eq (e.cmp k q) ≡ true → active_at e after.entries q ≡ Some fresh
    found_own q holds = found_at q ∙ cond_yes (is_eq (e.cmp k q)) (Some fresh) (active_at e d.entries q) holds

    pub updated_other : (q : K) → is_eq (e.cmp k q) ≡ false → active_at e after.entries q ≡ active_at e d.entries q
    updated_other q fails = found_at q ∙ cond_no (is_eq (e.cmp k q)) (Some fresh) (active_at e d.entries q) fails

    pub same_key : (q : K) → is_eq (e.cmp k q) ≡ true → e.key q ≡ e.key k
    same_key q holds = sym (is.exact k q (equal_of _ holds))

    pub other_key : (q : K) → is_eq (e.cmp k q) ≡ false → e.key q ≡ e.key k → ⊥
    other_key q fails same = clash _ (ap is_eq (is.alike k q (sym same))) fails

    pub own_named : (q m : K) → e.key q ≡ e.key k → e.key m ≡ e.key n → Named after q m
    own_named q m same same_m = record {
      active = fresh;
      there = found_own q (ap is_eq (is.alike k q (sym same)));
      written = subst (λ (t : List ℕ). IsActive (here after) (length d.operations) t)
          (ap (λ (t : List ℕ). e.operation (operation.Update (t ++ e.value v ++ e.key n))) (sym same)
          ∙ ap (λ (t : List ℕ). e.operation (operation.Update (e.key q ++ e.value v ++ t))) (sym same_m))
          (grown.new refl);
    }

    pub other_named : (q m : K) → (e.key q ≡ e.key k → ⊥) → Named d q m → Named after q m
    other_named q m apart h = record {
      active = h.active;
      there = by_bool (is_eq (e.cmp k q)) (λ holds. absurd (apart (same_key q holds))) (λ fails. updated_other q fails ∙ h.there);
      written = grown.stays h.active.location (update_text e q h.active.value m) h.written (elsewhere d placed k q m apart h);
    }

    -- each key of before and the new one are active
    pub updated_has : (q : K) → Has e is d.entries q ⊎ (e.key q ≡ e.key k) → Has e is after.entries q
    updated_has q h = by_bool (is_eq (e.cmp k q))
        (λ holds. ap is_some (found_own q holds))
        (λ fails. elim h [
          | inl has ↦ ap is_some (updated_other q fails) ∙ has
          | inr same ↦ absurd (other_key q fails same)
        ])

    pub has_updated : (q : K) → Has e is after.entries q → Has e is d.entries q ⊎ (e.key q ≡ e.key k)
    has_updated q h = by_bool (is_eq (e.cmp k q))
        (λ holds. inr (same_key q holds))
        (λ fails. inl (sym (ap is_some (updated_other q fails)) ∙ h))

    -- what an update names after it
    pub named_updated : (q m : K) → Named after q m
        → ((e.key q ≡ e.key k) × (e.key m ≡ e.key n)) ⊎ ((e.key q ≡ e.key k → ⊥) × Named d q m)
    named_updated q m h =
        by_bool (is_eq (e.cmp k q))
        (λ holds.
        let is_fresh : h.active ≡ fresh = somes _ _ (sym h.there ∙ found_own q holds) in
        inl (
          same_key q holds,
          (is.one q k h.active.value v m n (one_operation (here after) _ _ _ _
              (ap (λ (b : Active W). b.location) is_fresh) h.written (grown.new refl))).2,
        ))
        (λ fails.
        let at : active_at e d.entries q ≡ Some h.active = sym (updated_other q fails) ∙ h.there in
        inr (
          other_key q fails,
          record {
            active = h.active;
            there = at;
            written = elim (grown.back h.active.location (update_text e q h.active.value m) h.written) [
              | inl at_end ↦ absurd (other_key q fails (is.one q k h.active.value v m n at_end.1).0)
              | inr stood ↦ stood.0
            ];
          },
        ))

    pub updated_placed : Placed after
    updated_placed = record {
      bit_each = grown.bit_each;
      sorted = sorted-insert is.total k fresh d.entries placed.sorted;
      named = λ q h. by_bool (is_eq (e.cmp k q))
          (λ holds. (n, own_named q n (same_key q holds) refl))
          (λ fails.
          let was = placed.named q (sym (ap is_some (updated_other q fails)) ∙ h) in
          (was.0, other_named q was.0 (other_key q fails) was.1));
      only = λ i op h. elim (grown.back i op h) [
        | inl at_end ↦ inl (k, fresh, found_own k (ap is_eq (is.alike k k refl)), sym at_end.0)
        | inr stood ↦ elim (placed.only i op stood.0) [
          | inl r ↦ by_bool (is_eq (e.cmp k r.0))
              (λ holds.
              let at : active_at e d.entries k ≡ Some r.1
              = lookup_alike is.total k r.0 (equal_of _ holds) d.entries ∙ r.2 in
              let not : i ≡ r.1.location → ⊥ = subst (λ (o : Option (Active W)). IsNot (place o) i) at stood.1 in
              absurd (not (sym r.3)))
              (λ fails. inl (r.0, r.1, updated_other r.0 fails ∙ r.2, r.3))
          | inr last ↦ inr last
        ]
      ];
      commit = match_map (IsCommit (here d)) (IsCommit (here after)) (λ c past_commit. record {
        value = past_commit.value;
        floor = past_commit.floor;
        small = past_commit.small;
        written = grown.stays _ _ past_commit.written (commit_elsewhere d placed k c past_commit);
      }) d.last placed.commit;
    }

  -- ---- a deletion is appended

  module _ (d : Database K W) (placed : Placed d) (k : K) where
    abbrev less : Database K W
    less = removed e d k

    shrunk : IsAppended (here d) (here less) (e.operation (operation.Delete (e.key k))) false (place (active_at e d.entries k))
    shrunk = appended (here d) placed.bit_each (e.operation (operation.Delete (e.key k))) false
        (without (active_at e d.entries k) d.bits) (place (active_at e d.entries k))
        (without_cleared (active_at e d.entries k) d.bits) 0

    left_at : (q : K) → active_at e less.entries q ≡ cond (is_eq (e.cmp k q)) None (active_at e d.entries q)
    left_at q = lookup-remove is.total q k d.entries placed.sorted

    gone : (q : K) → is_eq (e.cmp k q) ≡ true → active_at e less.entries q ≡ None
    gone q holds = left_at q ∙ cond_yes (is_eq (e.cmp k q)) None (active_at e d.entries q) holds

    pub removed_other : (q : K) → is_eq (e.cmp k q) ≡ false → active_at e less.entries q ≡ active_at e d.entries q
    removed_other q fails = left_at q ∙ cond_no (is_eq (e.cmp k q)) None (active_at e d.entries q) fails

    pub has_removed : (q : K) → Has e is less.entries q → Has e is d.entries q × (e.key q ≡ e.key k → ⊥)
    has_removed q h = by_bool (is_eq (e.cmp k q))
        (λ holds. absurd (clash _ h (ap is_some (gone q holds))))
        (λ fails. (
          sym (ap is_some (removed_other q fails)) ∙ h,
          λ same. clash _ (ap is_eq (is.alike k q (sym same))) fails,
        ))

    pub removed_has : (q : K) → Has e is d.entries q → (e.key q ≡ e.key k → ⊥) → Has e is less.entries q
    removed_has q h apart = by_bool (is_eq (e.cmp k q))
        (λ holds. absurd (apart (sym (is.exact k q (equal_of _ holds)))))
        (λ fails. ap is_some (removed_other q fails) ∙ h)

    pub left_named : (q m : K) → (e.key q ≡ e.key k → ⊥) → Named d q m → Named less q m
    left_named q m apart h = record {
      active = h.active;
      there = by_bool (is_eq (e.cmp k q))
          (λ holds. absurd (apart (sym (is.exact k q (equal_of _ holds)))))
          (λ fails. removed_other q fails ∙ h.there);
      written = shrunk.stays h.active.location (update_text e q h.active.value m) h.written (elsewhere d placed k q m apart h);
    }

    pub named_removed : (q m : K) → Named less q m → Named d q m
    named_removed q m h = record {
      active = h.active;
      there = by_bool (is_eq (e.cmp k q))
          (λ holds. absurd (some_not_none _ (sym h.there ∙ gone q holds)))
          (λ fails. sym (removed_other q fails) ∙ h.there);
      written = elim (shrunk.back h.active.location (update_text e q h.active.value m) h.written) [
        | inl at_end ↦ absurd (clash _ at_end.2 refl)
        | inr stood ↦ stood.0
      ];
    }

    pub removed_placed : Placed less
    removed_placed = record {
      bit_each = shrunk.bit_each;
      sorted = sorted-remove is.total k d.entries placed.sorted;
      named = λ q h.
          let was = has_removed q h in
          let at = placed.named q was.0 in
          (at.0, left_named q at.0 was.1 at.1);
      only = λ i op h. elim (shrunk.back i op h) [
        | inl at_end ↦ absurd (clash _ at_end.2 refl)
        | inr stood ↦ elim (placed.only i op stood.0) [
          | inl r ↦ by_bool (is_eq (e.cmp k r.0))
              (λ holds.
              let at : active_at e d.entries k ≡ Some r.1
              = lookup_alike is.total k r.0 (equal_of _ holds) d.entries ∙ r.2 in
              let not : i ≡ r.1.location → ⊥ = subst (λ (o : Option (Active W)). IsNot (place o) i) at stood.1 in
              absurd (not (sym r.3)))
              (λ fails. inl (r.0, r.1, removed_other r.0 fails ∙ r.2, r.3))
          | inr last ↦ inr last
        ]
      ];
      commit = match_map (IsCommit (here d)) (IsCommit (here less)) (λ c past_commit. record {
        value = past_commit.value;
        floor = past_commit.floor;
        small = past_commit.small;
        written = shrunk.stays _ _ past_commit.written (commit_elsewhere d placed k c past_commit);
      }) d.last placed.commit;
    }
