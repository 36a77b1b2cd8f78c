-- What a put and a delete keep, and what they do to the map.
use Rattle.std.proofs.Common.{◌≡◌, ◌⊎◌, Bool, true, false, cond, List, length, Option, Some, None, is_some, option_map, is_eq, inl, inr, refl, sym, ap, ◌∙◌, subst}
use Rattle.storage_current.specs.Keys.{Keyed, Adjoin, IsKeyed}
use Rattle.storage_db.specs.declared.db.active.Active.{Active}
use Rattle.storage_db.specs.Rings.{next_key, previous}
use Rattle.storage_db.specs.Databases.{Database, active_at, value_at, updated, relinked, removed, delete}
use Rattle.storage_db.proofs.Cases.{by_bool, by_option, clash, cond_yes, cond_no, equal_of}
use Rattle.storage_db.proofs.Entries.{lookup_alike, lookup-insert, lookup-remove}
use Rattle.storage_db.proofs.Neighbours.{fewer, adjoin_alike, first_half, second_half, others_stay, alone, joined, one_before}
use Rattle.storage_db.proofs.Nexts.{Has, has_alike, Other, next_is, IsPrevious, previous_some, previous_none}
use Rattle.storage_db.proofs.Placing.{Placed, updated_other, updated_has, has_updated, named_updated, updated_placed, removed_other, has_removed, removed_has, named_removed, removed_placed}
use Rattle.storage_db.proofs.Committing.{Ring}
use Rattle.storage_db.proofs.Said.{put_said}

map_cond : {A B : Type 0} (f : A → B) (b : Bool) (o p : Option A)
    → option_map f (cond b o p) ≡ cond b (option_map f o) (option_map f p)
map_cond f true o p = refl
map_cond f false o p = refl

module _ {K W : Type 0} (e : Keyed K W) (is : IsKeyed e) where
  abbrev value_of : Active W → W
  value_of a = a.value

  pub value_alike : (entries : List (K × Active W)) (a b : K) → is_eq (e.cmp a b) ≡ true
      → value_at e entries a ≡ value_at e entries b
  value_alike entries a b holds = ap (option_map value_of) (lookup_alike is.total a b (equal_of _ holds) entries)

  value_updated : (d : Database K W) (k : K) (v : W) (n q : K)
      → value_at e (updated e d k v n).entries q ≡ cond (is_eq (e.cmp k q)) (Some v) (value_at e d.entries q)
  value_updated d k v n q =
      ap (option_map value_of) (lookup-insert is.total q k (record { value = v; location = length d.operations }) d.entries)
      ∙ map_cond value_of (is_eq (e.cmp k q)) (Some (record { value = v; location = length d.operations }))
      (active_at e d.entries q)

  -- an update of a key to its value changes no value
  pub value_relinked : (d : Database K W) (p : K) (w : W) (n : K) → value_at e d.entries p ≡ Some w → (q : K)
      → value_at e (updated e d p w n).entries q ≡ value_at e d.entries q
  value_relinked d p w n at q =
      value_updated d p w n q
      ∙ by_bool (is_eq (e.cmp p q))
      (λ holds. cond_yes _ (Some w) (value_at e d.entries q) holds ∙ sym at ∙ value_alike d.entries p q holds)
      (λ fails. cond_no _ (Some w) (value_at e d.entries q) fails)

  module _ (d : Database K W) (placed : Placed e is d) (ring : Ring e is d) (k : K) where
    abbrev n : K
    n = next_key e.cmp d.entries k

    -- what is active is another key, or the key
    other_or : (x : K) → Has e is d.entries x → Other e is d.entries k x ⊎ (e.key x ≡ e.key k)
    other_or x has = by_bool (is_eq (e.cmp k x))
        (λ holds. inr (sym (is.exact k x (equal_of _ holds))))
        (λ fails. inl (record { has = has; apart = λ same. clash _ (ap is_eq (is.alike k x (sym same))) fails }))

    -- ---- a put

    module _ (v : W) where
      abbrev after : Database K W
      after = updated e d k v n

      after_placed : Placed e is after
      after_placed = updated_placed e is d placed k v n

      after_or : (x : K) → Has e is after.entries x → Other e is d.entries k x ⊎ (e.key x ≡ e.key k)
      after_or x has = elim (has_updated e is d placed k v n x has) [
        | inl was ↦ other_or x was
        | inr same ↦ inr same
      ]

      -- the update of the key itself, where there is no other key
      own_alone : ((x : K) → Other e is d.entries k x → ⊥) → (q m : K) → e.key q ≡ e.key k → e.key m ≡ e.key k
          → Has e is after.entries m × Adjoin e (Has e is after.entries) q m
      own_alone none q m same same_m = (
        updated_has e is d placed k v n m (inr same_m),
        adjoin_alike e is (Has e is after.entries) k k q m (sym same) (sym same_m)
            (alone e is (Has e is after.entries) k (λ x has. elim (after_or x has) [
              | inl other ↦ absurd (none x other)
              | inr here ↦ here
            ])),
      )

      -- an active key
      ring_active : Has e is d.entries k → Ring e is after
      ring_active has q m h = elim (named_updated e is d placed k v n q m h) [
        | inl same ↦ elim (next_is e is d.entries placed.sorted k) [
          | inl lone ↦ own_alone lone.0 q m same.0 (same.1 ∙ ap e.key lone.1)
          | inr r ↦ (
            updated_has e is d placed k v n m (inl (has_alike e is d.entries n m (sym same.1) r.0.has)),
            adjoin_alike e is (Has e is after.entries) k n q m (sym same.0) (sym same.1)
                (second_half e is (Other e is d.entries k) (Has e is after.entries) k after_or n r.0 r.1),
          )
        ]
        | inr stood ↦
            let r = ring q m stood.1 in
            let was : (x : K) → Has e is after.entries x → Has e is d.entries x
            = λ x now. elim (has_updated e is d placed k v n x now) [
              | inl before ↦ before
              | inr same ↦ has_alike e is d.entries k x (sym same) has
            ] in (
              updated_has e is d placed k v n m (inl r.0),
              fewer e is (Has e is d.entries) (Has e is after.entries) was q m r.1,
            )
      ]

      -- the first key
      ring_first : ((x : K) → Other e is d.entries k x → ⊥) → Ring e is after
      ring_first none q m h = elim (named_updated e is d placed k v n q m h) [
        | inl same ↦ elim (next_is e is d.entries placed.sorted k) [
          | inl lone ↦ own_alone none q m same.0 (same.1 ∙ ap e.key lone.1)
          | inr r ↦ absurd (none n r.0)
        ]
        | inr stood ↦ absurd (none q (record { has = ap is_some stood.1.there; apart = stood.0 }))
      ]

      -- another key
      module _ (fresh : Has e is d.entries k → ⊥) (p : K × Active W) (last : IsPrevious e is d.entries placed.sorted k p) where
        abbrev both : Database K W
        both = updated e after p.0 p.1.value k

        other_of : (x : K) → Has e is d.entries x → Other e is d.entries k x
        other_of x has = record { has = has; apart = λ same. fresh (has_alike e is d.entries x k same has) }

        both_or : (x : K) → Has e is both.entries x → Other e is d.entries k x ⊎ (e.key x ≡ e.key k)
        both_or x has = elim (has_updated e is after after_placed p.0 p.1.value k x has) [
          | inl was ↦ after_or x was
          | inr same ↦ inl (other_of x (has_alike e is d.entries p.0 x (sym same) last.other.has))
        ]

        to_both : (x : K) → Has e is d.entries x ⊎ (e.key x ≡ e.key k) → Has e is both.entries x
        to_both x h = updated_has e is after after_placed p.0 p.1.value k x (inl (updated_has e is d placed k v n x h))

        ring_both : Ring e is both
        ring_both q m h = elim (named_updated e is after after_placed p.0 p.1.value k q m h) [
          | inl same ↦ (
            to_both m (inr same.1),
            adjoin_alike e is (Has e is both.entries) p.0 k q m (sym same.0) (sym same.1)
                (first_half e is (Other e is d.entries k) (Has e is both.entries) k both_or p.0 last.other last.adjoin),
          )
          | inr stood ↦ elim (named_updated e is d placed k v n q m stood.1) [
            | inl same ↦ elim (next_is e is d.entries placed.sorted k) [
              | inl lone ↦ absurd (lone.0 p.0 last.other)
              | inr r ↦ (
                to_both m (inl (has_alike e is d.entries n m (sym same.1) r.0.has)),
                adjoin_alike e is (Has e is both.entries) k n q m (sym same.0) (sym same.1)
                    (second_half e is (Other e is d.entries k) (Has e is both.entries) k both_or n r.0 r.1),
              )
            ]
            | inr old ↦
                let r = ring q m old.1 in (
                  to_both m (inl r.0),
                  others_stay e is (Other e is d.entries k) (Has e is both.entries) k both_or p.0 q m last.other
                      (other_of q (ap is_some old.1.there)) (other_of m r.0) stood.0 last.adjoin
                      (fewer e is (Has e is d.entries) (Other e is d.entries k) (λ x other. other.has) q m r.1),
                )
          ]
        ]

      -- what holds of the database after a put holds in each case
      pub by_put : (P : Database K W → Type 0) → (Has e is d.entries k → P after)
          → ((Has e is d.entries k → ⊥) → ((x : K) → Other e is d.entries k x → ⊥) → P after)
          → ((Has e is d.entries k → ⊥) → (p : K × Active W) → IsPrevious e is d.entries placed.sorted k p
          → P (updated e after p.0 p.1.value k)) → P (put_said e d k v)
      by_put P active first more =
          let linked : Database K W = relinked e after (previous e.cmp d.entries k) k in
          let Q : Bool → Type 0 = λ b. P (cond b after linked) in
          by_bool (is_some (active_at e d.entries k))
          (λ holds. subst Q (sym holds) (active holds))
          (λ fails.
          let none : Has e is d.entries k → ⊥ = λ has. clash _ has fails in
          subst Q (sym fails)
          (by_option (previous e.cmp d.entries k)
          (λ at. subst (λ (o : Option (K × Active W)). P (relinked e after o k)) (sym at)
          (first none (previous_none e is d.entries placed.sorted k at)))
          (λ p at. subst (λ (o : Option (K × Active W)). P (relinked e after o k)) (sym at)
          (more none p (previous_some e is d.entries placed.sorted k p at)))))

      pub put_placed : Placed e is (put_said e d k v)
      put_placed = by_put (λ c. Placed e is c) (λ has. after_placed) (λ none alone. after_placed)
          (λ none p last. updated_placed e is after after_placed p.0 p.1.value k)

      pub put_ring : Ring e is (put_said e d k v)
      put_ring = by_put (λ c. Ring e is c) ring_active (λ none alone. ring_first alone) ring_both

      pub put_last : (put_said e d k v).last ≡ d.last
      put_last = by_put (λ c. c.last ≡ d.last) (λ has. refl) (λ none alone. refl) (λ none p last. refl)

      pub put_value : (q : K) → value_at e (put_said e d k v).entries q
          ≡ cond (is_eq (e.cmp k q)) (Some v) (value_at e d.entries q)
      put_value q = by_put
          (λ c. value_at e c.entries q ≡ cond (is_eq (e.cmp k q)) (Some v) (value_at e d.entries q))
          (λ has. value_updated d k v n q)
          (λ none alone. value_updated d k v n q)
          (λ none p last.
          let apart : is_eq (e.cmp k p.0) ≡ false = by_bool (is_eq (e.cmp k p.0))
          (λ holds. absurd (last.other.apart (sym (is.exact k p.0 (equal_of _ holds))))) (λ fails. fails) in
          let at : value_at e after.entries p.0 ≡ Some p.1.value
          = ap (option_map value_of) (updated_other e is d placed k v n p.0 apart ∙ last.there) in
          value_relinked after p.0 p.1.value k at q ∙ value_updated d k v n q)

    -- ---- a delete

    abbrev less : Database K W
    less = removed e d k

    less_placed : Placed e is less
    less_placed = removed_placed e is d placed k

    -- the last key
    ring_last : ((x : K) → Other e is d.entries k x → ⊥) → Ring e is less
    ring_last none q m h =
        let was = has_removed e is d placed k q (ap is_some h.there) in
        absurd (none q (record { has = was.0; apart = was.1 }))

    module _ (p : K × Active W) (last : IsPrevious e is d.entries placed.sorted k p) where
      abbrev joint : Database K W
      joint = updated e less p.0 p.1.value n

      to_other : (x : K) → Has e is joint.entries x → Other e is d.entries k x
      to_other x has = elim (has_updated e is less less_placed p.0 p.1.value n x has) [
        | inl left ↦
            let was = has_removed e is d placed k x left in
            record { has = was.0; apart = was.1 }
        | inr same ↦ record {
          has = has_alike e is d.entries p.0 x (sym same) last.other.has;
          apart = λ at_k. last.other.apart (sym same ∙ at_k);
        }
      ]

      of_other : (x : K) → Other e is d.entries k x → Has e is joint.entries x
      of_other x other = updated_has e is less less_placed p.0 p.1.value n x
          (inl (removed_has e is d placed k x other.has other.apart))

      ring_joint : Ring e is joint
      ring_joint q m h = elim (named_updated e is less less_placed p.0 p.1.value n q m h) [
        | inl same ↦ elim (next_is e is d.entries placed.sorted k) [
          | inl lone ↦ absurd (lone.0 p.0 last.other)
          | inr r ↦ (
            has_alike e is joint.entries n m (sym same.1) (of_other n r.0),
            adjoin_alike e is (Has e is joint.entries) p.0 n q m (sym same.0) (sym same.1)
                (fewer e is (Other e is d.entries k) (Has e is joint.entries) to_other p.0 n
                (joined e is (Other e is d.entries k) p.0 k n (λ x other. other.apart) last.other last.adjoin r.1)),
          )
        ]
        | inr stood ↦
            let r = ring q m (named_removed e is d placed k q m stood.1) in
            let was = has_removed e is d placed k q (ap is_some stood.1.there) in
            let apart : e.key m ≡ e.key k → ⊥ = λ same. stood.0
            (one_before e is (Has e is d.entries) (Other e is d.entries k) (λ x other. other.has) p.0 q k m last.other
            (record { has = was.0; apart = was.1 }) same last.adjoin r.1) in (
              of_other m (record { has = r.0; apart = apart }),
              fewer e is (Has e is d.entries) (Has e is joint.entries) (λ x has. (to_other x has).has) q m r.1,
            )
      ]

    pub by_delete : (P : Database K W → Type 0) → ((Has e is d.entries k → ⊥) → P d)
        → (Has e is d.entries k → ((x : K) → Other e is d.entries k x → ⊥) → P less)
        → (Has e is d.entries k → (p : K × Active W) → IsPrevious e is d.entries placed.sorted k p
        → P (updated e less p.0 p.1.value n)) → P (delete e d k)
    by_delete P absent last more =
        let linked : Database K W = relinked e less (previous e.cmp d.entries k) n in
        let Q : Bool → Type 0 = λ b. P (cond b linked d) in
        by_bool (is_some (active_at e d.entries k))
        (λ holds. subst Q (sym holds)
        (by_option (previous e.cmp d.entries k)
        (λ at. subst (λ (o : Option (K × Active W)). P (relinked e less o n)) (sym at)
        (last holds (previous_none e is d.entries placed.sorted k at)))
        (λ p at. subst (λ (o : Option (K × Active W)). P (relinked e less o n)) (sym at)
        (more holds p (previous_some e is d.entries placed.sorted k p at)))))
        (λ fails. subst Q (sym fails) (absent (λ has. clash _ has fails)))

    pub delete_placed : Placed e is (delete e d k)
    delete_placed = by_delete (λ c. Placed e is c) (λ none. placed) (λ has alone. less_placed)
        (λ has p last. updated_placed e is less less_placed p.0 p.1.value n)

    pub delete_ring : Ring e is (delete e d k)
    delete_ring = by_delete (λ c. Ring e is c) (λ none. ring) (λ has alone. ring_last alone) (λ has. ring_joint)

    pub delete_last : (delete e d k).last ≡ d.last
    delete_last = by_delete (λ c. c.last ≡ d.last) (λ none. refl) (λ has alone. refl) (λ has p last. refl)

    value_less : (q : K) → value_at e less.entries q ≡ cond (is_eq (e.cmp k q)) None (value_at e d.entries q)
    value_less q = ap (option_map value_of) (lookup-remove is.total q k d.entries placed.sorted)
        ∙ map_cond value_of (is_eq (e.cmp k q)) None (active_at e d.entries q)

    pub delete_value : (q : K) → value_at e (delete e d k).entries q
        ≡ cond (is_eq (e.cmp k q)) None (value_at e d.entries q)
    delete_value q = by_delete
        (λ c. value_at e c.entries q ≡ cond (is_eq (e.cmp k q)) None (value_at e d.entries q))
        (λ none. by_bool (is_eq (e.cmp k q))
        (λ holds.
        let gone : value_at e d.entries q ≡ None = by_option (active_at e d.entries q)
        (λ at. ap (option_map value_of) at)
        (λ a at. absurd (none (has_alike e is d.entries q k (sym (is.exact k q (equal_of _ holds))) (ap is_some at)))) in
        gone ∙ sym (cond_yes _ None (value_at e d.entries q) holds))
        (λ fails. sym (cond_no _ None (value_at e d.entries q) fails)))
        (λ has alone. value_less q)
        (λ has p last.
        let apart : is_eq (e.cmp k p.0) ≡ false = by_bool (is_eq (e.cmp k p.0))
        (λ holds. absurd (last.other.apart (sym (is.exact k p.0 (equal_of _ holds))))) (λ fails. fails) in
        let at : value_at e less.entries p.0 ≡ Some p.1.value
        = ap (option_map value_of) (removed_other e is d placed k p.0 apart ∙ last.there) in
        value_relinked less p.0 p.1.value n at q ∙ value_less q)
