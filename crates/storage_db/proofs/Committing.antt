-- What a commit leaves: a well-formed snapshot of the map.
use Rattle.std.proofs.Common.{◌≡◌, ℕ, ◌+◌, ◌-◌, ◌<◌, ◌≤◌, ◌^◌, min, Bool, true, List, [], ◌∷◌, ◌++◌, length, Option, Some, None, is_some, option_map, is_eq, inl, inr, refl, sym, ap, ◌∙◌, subst, arith}
use Rattle.std.specs.Prelude.{MatchOption}
use Rattle.std.specs.BTreeMap.{is_at}
use Rattle.std.specs.Cmp.{IsTotalOrder}
use Rattle.std.specs.Map.{lookup}
use Rattle.std.specs.declared.cmp.Ordering.{Ordering}
use Rattle.storage_ops.specs.Operations as operation
use Rattle.storage_current.specs.Keys.{Keyed, update_text, commit_text, Adjoin, HasKey, IsWellFormed, IsKeyed}
use Rattle.storage_current.specs.Snapshots.{Snapshot, IsSnapshot, IsActive}
use Rattle.storage_db.specs.declared.db.active.Active.{Active}
use Rattle.storage_db.specs.Databases.{Committed, Database, without_commit, least_location, active_at, value_at}
use Rattle.storage_db.specs.Promises.{IsSnapshotOf}
use Rattle.storage_db.proofs.Cases.{by_bool, by_option, somes, some_not_none}
use Rattle.storage_db.proofs.Entries.{found, past, lookup_alike}
use Rattle.storage_db.proofs.Neighbours.{fewer}
use Rattle.storage_db.proofs.Nexts.{Has}
use Rattle.storage_db.proofs.Appends.{IsNot, IsCleared, none_cleared, one_cleared, IsAppended, appended}
use Rattle.storage_db.proofs.Said.{commit_said}
use Rattle.storage_db.proofs.Placing.{here, commit_place, IsCommitAt, Named, IsCommit, Placed, one_operation}

lower : (a b c : ℕ) → a ≤ min b c → a ≤ b
lower a b c h = omega arith

lower_right : (a b c : ℕ) → a ≤ min b c → a ≤ c
lower_right a b c h = omega arith

itself : (a : ℕ) → a ≤ a
itself a = omega arith

pub least_end : {K W : Type 0} (es : List (K × Active W)) (end : ℕ) → least_location es end ≤ end
least_end [] end = itself end
least_end (c ∷ es) end = lower _ end c.1.location (least_end es (min end c.1.location))

pub least_found : {K W : Type 0} {cmp : K → K → Ordering} (o : IsTotalOrder cmp) (es : List (K × Active W)) (end : ℕ) (q : K)
    (a : Active W) → lookup (is_at (cmp q)) es ≡ Some a → least_location es end ≤ a.location
least_found o [] end q a at = absurd (some_not_none a (sym at))
least_found {K} {W} {cmp} o (c ∷ es) end q a at =
    by_bool (is_eq (cmp q c.0))
    (λ holds.
    let one : c.1 ≡ a = somes c.1 a (sym (found o c es q holds) ∙ at) in
    let P : Active W → Type 0 = λ b. least_location (c ∷ es) end ≤ b.location in
    subst P one (lower_right _ end c.1.location (least_end es (min end c.1.location))))
    (λ fails. least_found o es (min end c.1.location) q a (sym (past o c es q fails) ∙ at))

pub commit_cleared : {K W : Type 0} (o : Option (Committed K W)) (bits : List Bool)
    → IsCleared bits (without_commit o bits) (commit_place o)
commit_cleared None bits = none_cleared bits
commit_cleared (Some c) bits = one_cleared bits (length c.snapshot.operations - 1)

pub commit_clash : {K W : Type 0} (o : Option (Committed K W)) (i : ℕ) → IsCommitAt o i → IsNot (commit_place o) i → ⊥
commit_clash None i at not = at
commit_clash (Some c) i at not = not at

module _ {K W : Type 0} (e : Keyed K W) (is : IsKeyed e) where
  -- each active update names the next greater of the active keys, and that of the greatest the least
  abbrev pub Ring : Database K W → Type 0
  Ring d = (q m : K) → Named e is d q m → Has e is d.entries m × Adjoin e (Has e is d.entries) q m

  module _ (d : Database K W) (placed : Placed e is d) (ring : Ring d) (metadata : Option W)
      (few : length d.operations + 1 ≤ 2 ^ 62) where
    abbrev pub floor : ℕ
    floor = least_location d.entries (length d.operations)

    abbrev pub text : List ℕ
    text = commit_text e metadata floor

    abbrev pub whole : Snapshot
    whole = record {
      operations = d.operations ++ text ∷ [];
      bits = without_commit d.last d.bits ++ true ∷ [];
      floor = floor;
    }

    made_with : (f : ℕ) → IsAppended (here d) (record whole { floor = f }) text true (commit_place d.last)
    made_with f = appended (here d) placed.bit_each text true (without_commit d.last d.bits) (commit_place d.last)
        (commit_cleared d.last d.bits) f

    made : IsAppended (here d) whole text true (commit_place d.last)
    made = made_with floor

    within : floor ≤ length d.operations
    within = least_end d.entries (length d.operations)

    small : floor < 2 ^ 64
    small = omega (arith, within, few)

    position : length whole.operations - 1 ≡ length d.operations
    position = omega (arith, made.count)

    -- the last commit is no update
    not_commit : (q m : K) (n : Named e is d q m) → IsNot (commit_place d.last) n.active.location
    not_commit q m n =
        let P : Option (Committed K W) → Type 0 = λ o. IsNot (commit_place o) n.active.location in
        by_option d.last
        (λ none. subst P (sym none) tt)
        (λ c at. subst P (sym at) (λ same.
        let past_commit : IsCommit e is (here d) c
        = subst (λ (o : Option (Committed K W)). MatchOption o (Unit {0}) (IsCommit e is (here d))) at placed.commit in
        is.apart q n.active.value m past_commit.value past_commit.floor past_commit.small
        (one_operation e is (here d) n.active.location (length c.snapshot.operations - 1) _ _ same n.written past_commit.written)))

    -- an update that is active in the snapshot is that of an active key
    record Resolved (i : ℕ) (q : K) (v : W) (m : K) : Type 0 where
      active : Active W
      there : active_at e d.entries q ≡ Some active
      place : active.location ≡ i
      value : e.value active.value ≡ e.value v
      stands : IsActive (here d) i (update_text e q v m)

    resolved : (i : ℕ) (q : K) (v : W) (m : K) → IsActive whole i (update_text e q v m) → Resolved i q v m
    resolved i q v m h = elim (made.back i (update_text e q v m) h) [
      | inl at_end ↦ absurd (is.apart q v m metadata floor small at_end.1)
      | inr stood ↦ elim (placed.only i (update_text e q v m) stood.0) [
        | inl r ↦
            let n = placed.named r.0 (ap is_some r.2) in
            let one : n.1.active ≡ r.1 = somes n.1.active r.1 (sym n.1.there ∙ r.2) in
            let same : n.1.active.location ≡ i = ap (λ (b : Active W). b.location) one ∙ r.3 in
            let texts = is.one r.0 q n.1.active.value v n.0 m
            (one_operation e is (here d) n.1.active.location i _ _ same n.1.written stood.0) in
            record {
              active = r.1;
              there = lookup_alike is.total q r.0 (is.alike q r.0 (sym texts.0)) d.entries ∙ r.2;
              place = r.3;
              value = ap (λ (b : Active W). e.value b.value) (sym one) ∙ texts.1;
              stands = stood.0;
            }
        | inr last ↦ absurd (commit_clash d.last i last stood.1)
      ]
    ]

    pub kept_active : (q m : K) (n : Named e is d q m) → IsActive whole n.active.location (update_text e q n.active.value m)
    kept_active q m n = made.stays n.active.location (update_text e q n.active.value m) n.written (not_commit q m n)

    has_of : (q : K) → HasKey e whole q → Has e is d.entries q
    has_of q h = ap is_some (resolved h.0 q h.1 h.2 h.3).there

    of_has : (q : K) → Has e is d.entries q → HasKey e whole q
    of_has q h =
        let n = placed.named q h in
        (n.1.active.location, n.1.active.value, n.0, kept_active q n.0 n.1)

    named_of : (i : ℕ) (q : K) (v : W) (m : K) → Resolved i q v m → Named e is d q m
    named_of i q v m r = record {
      active = r.active;
      there = r.there;
      written = subst (λ (l : ℕ). IsActive (here d) l (update_text e q r.active.value m)) (sym r.place)
          (subst (λ (t : List ℕ). IsActive (here d) i (e.operation (operation.Update (e.key q ++ t ++ e.key m)))) (sym r.value)
          r.stands);
    }

    pub is_snapshot : IsSnapshot whole
    is_snapshot = record {
      bit_each = made.bit_each;
      floor_within = omega (arith, within, made.count);
      few = omega (arith, few, made.count);
    }

    -- the commit itself is active
    pub commit_active : IsActive whole (length whole.operations - 1) (commit_text e metadata floor)
    commit_active = subst (λ (i : ℕ). IsActive whole i (commit_text e metadata floor)) (sym position) (made.new refl)

    pub commit_position : length whole.operations - 1 ≡ length d.operations
    commit_position = position

    pub is_well_formed : IsWellFormed e whole
    is_well_formed = record {
      committed = (metadata, commit_active);
      updates = λ location op active further. elim (made.back location op active) [
        | inl at_end ↦ absurd (omega (arith, further, made.count, at_end.0))
        | inr stood ↦ elim (placed.only location op stood.0) [
          | inl r ↦
              let n = placed.named r.0 (ap is_some r.2) in
              let one : n.1.active ≡ r.1 = somes n.1.active r.1 (sym n.1.there ∙ r.2) in
              let same : location ≡ n.1.active.location = sym r.3 ∙ ap (λ (b : Active W). b.location) (sym one) in (
                subst (λ (l : ℕ). floor ≤ l) r.3 (least_found is.total d.entries (length d.operations) r.0 r.1 r.2),
                (
                  r.0,
                  n.1.active.value,
                  n.0,
                  one_operation e is (here d) location n.1.active.location op _ same stood.0 n.1.written,
                ),
              )
          | inr last ↦ absurd (commit_clash d.last location last stood.1)
        ]
      ];
      distinct = λ i j key m n v w u x.
          let a = resolved i key v m u in
          let b = resolved j key w n x in
          let one : a.active ≡ b.active = somes a.active b.active (sym a.there ∙ b.there) in
          sym a.place ∙ ap (λ (c : Active W). c.location) one ∙ b.place;
      ring = λ location key value next u.
          let r = ring key next (named_of location key value next (resolved location key value next u)) in
          (of_has next r.0, fewer e is (Has e is d.entries) (HasKey e whole) has_of key next r.1);
    }

    pub is_snapshot_of : (map : K → Option W) → ((key : K) → value_at e d.entries key ≡ map key) → IsSnapshotOf e whole map
    is_snapshot_of map agrees = record {
      snapshot = is_snapshot;
      well_formed = is_well_formed;
      values = λ key v at. by_option (active_at e d.entries key)
          (λ none. absurd (some_not_none v (sym (agrees key ∙ at)
          ∙ ap (option_map (λ (b : Active W). b.value)) none)))
          (λ a is_a.
          let value_is : a.value ≡ v = somes a.value v
          (sym (ap (option_map (λ (b : Active W). b.value)) is_a) ∙ agrees key ∙ at) in
          let n = placed.named key (ap is_some is_a) in
          let one : n.1.active ≡ a = somes n.1.active a (sym n.1.there ∙ is_a) in
          let same : n.1.active.value ≡ v = ap (λ (b : Active W). b.value) one ∙ value_is in
          record {
            updated = (
              n.1.active.location,
              n.0,
              subst (λ (w : W). IsActive whole n.1.active.location (update_text e key w n.0)) same (kept_active key n.0 n.1),
            );
            only = λ location other next u.
                let r = resolved location key other next u in
                let same_r : r.active ≡ a = somes r.active a (sym r.there ∙ is_a) in
                sym r.value ∙ ap (λ (b : Active W). e.value b.value) same_r ∙ ap e.value value_is;
          });
      absent = λ key at location v next u.
          let r = resolved location key v next u in
          some_not_none r.active.value (sym (ap (option_map (λ (b : Active W). b.value)) r.there) ∙ agrees key ∙ at);
    }

    -- ---- the database after it

    abbrev done_ : Database K W
    done_ = commit_said e d metadata

    made_here : IsAppended (here d) (here done_) text true (commit_place d.last)
    made_here = made_with 0

    pub commit_placed : Placed e is done_
    commit_placed = record {
      bit_each = made_here.bit_each;
      sorted = placed.sorted;
      named = λ q h.
          let n = placed.named q h in (
            n.0,
            record {
              active = n.1.active;
              there = n.1.there;
              written = made_here.stays n.1.active.location (update_text e q n.1.active.value n.0) n.1.written
                  (not_commit q n.0 n.1);
            },
          );
      only = λ i op h. elim (made_here.back i op h) [
        | inl at_end ↦ inr (at_end.0 ∙ sym position)
        | inr stood ↦ elim (placed.only i op stood.0) [
          | inl r ↦ inl r
          | inr last ↦ absurd (commit_clash d.last i last stood.1)
        ]
      ];
      commit = record {
        value = metadata;
        floor = floor;
        small = small;
        written = subst (λ (i : ℕ). IsActive (here done_) i (commit_text e metadata floor)) (sym position)
            (made_here.new refl);
      };
    }

    pub commit_ring : Ring done_
    commit_ring q m n = ring q m (record {
      active = n.active;
      there = n.there;
      written = elim (made_here.back n.active.location (update_text e q n.active.value m) n.written) [
        | inl at_end ↦ absurd (is.apart q n.active.value m metadata floor small at_end.1)
        | inr stood ↦ stood.0
      ];
    })
