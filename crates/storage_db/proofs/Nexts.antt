-- The keys that come after and before a key among the active ones.
use Rattle.std.proofs.Common.{◌≡◌, ◌⊎◌, Bool, true, false, List, [], ◌++◌, Some, None, is_some, IsSome, unwrap_or, option_map, slice_get, Ordering, Less, Equal, Greater, is_lt, is_gt, inl, inr, refl, sym, ap, ◌∙◌, subst}
use Rattle.std.specs.Cmp.{alike_right}
use Rattle.std.specs.Ordering.{ordering_reverse}
use Rattle.std.specs.declared.ops.Bound.TheVariants.{Excluded, Unbounded}
use Rattle.std.specs.BTreeMap.Range.{range_contains, entries_between}
use Rattle.storage_current.specs.Keys.{Keyed, before, Adjoin, IsKeyed}
use Rattle.storage_db.specs.declared.db.active.Active.{Active}
use Rattle.storage_db.specs.Rings.{last_of, next_key, previous}
use Rattle.storage_db.specs.Databases.{active_at}
use Rattle.storage_db.proofs.Cases.{by_bool, by_option, by_list, clash, not_true, and_true, not_le, some_not_none, last_none, last_left, last_right, somes}
use Rattle.storage_db.proofs.Entries.{Sorted, lookup_alike}
use Rattle.storage_db.proofs.Filters.{none_passes, first_passes, last_passes}
use Rattle.storage_db.proofs.Neighbours.{neither, before_left, before_right, not_itself}

gt_reverse : (r : Ordering) → is_gt (ordering_reverse r) ≡ is_lt r
gt_reverse Less = refl
gt_reverse Equal = refl
gt_reverse Greater = refl

module _ {K W : Type 0} (e : Keyed K W) (is : IsKeyed e) where
  -- a key is active; another than a key is
  abbrev pub Has : List (K × Active W) → K → Type 0
  Has entries q = IsSome (active_at e entries q)

  pub record Other (entries : List (K × Active W)) (k q : K) : Type 0 where
    pub has : Has entries q
    pub apart : e.key q ≡ e.key k → ⊥

  pub has_alike : (entries : List (K × Active W)) (a b : K) → e.key a ≡ e.key b → Has entries a → Has entries b
  has_alike entries a b same h = sym (ap is_some (lookup_alike is.total a b (is.alike a b same) entries)) ∙ h

  module _ (entries : List (K × Active W)) (sorted : Sorted e.cmp entries) (k : K) where
    abbrev after_k : List (K × Active W)
    after_k = entries_between e.cmp (Excluded k) Unbounded entries

    abbrev before_k : List (K × Active W)
    before_k = entries_between e.cmp Unbounded (Excluded k) entries

    abbrev pass_after : K → Bool
    pass_after q = range_contains e.cmp (Excluded k) Unbounded q

    abbrev pass_before : K → Bool
    pass_before q = range_contains e.cmp Unbounded (Excluded k) q

    after_is : (q : K) → range_contains e.cmp (Excluded k) Unbounded q ≡ before e k q
    after_is q = and_true (is_lt (e.cmp k q))

    before_is : (q : K) → range_contains e.cmp Unbounded (Excluded k) q ≡ is_gt (e.cmp k q)
    before_is q = not_le (e.cmp k q)

    turned : (q : K) → is_gt (e.cmp k q) ≡ before e q k
    turned q = ap (λ (r : Ordering). is_gt r) (is.total.antisymm k q) ∙ gt_reverse (e.cmp q k)

    in_after : (a b : K) → e.cmp a b ≡ Equal
        → range_contains e.cmp (Excluded k) Unbounded a ≡ range_contains e.cmp (Excluded k) Unbounded b
    in_after a b same = after_is a ∙ ap is_lt (alike_right is.total a b k same) ∙ sym (after_is b)

    in_before : (a b : K) → e.cmp a b ≡ Equal
        → range_contains e.cmp Unbounded (Excluded k) a ≡ range_contains e.cmp Unbounded (Excluded k) b
    in_before a b same = before_is a ∙ ap is_gt (alike_right is.total a b k same) ∙ sym (before_is b)

    -- no active key comes after, or before
    none_after : after_k ≡ [] → (q : K) → Has entries q → before e k q ≡ false
    none_after none q h = sym (after_is q) ∙ none_passes is.total pass_after in_after entries none q h

    none_before : before_k ≡ [] → (q : K) → Has entries q → before e q k ≡ false
    none_before none q h = sym (before_is q ∙ turned q) ∙ none_passes is.total pass_before in_before entries none q h

    -- an active key that is not after is before, and the other way round
    other_before : (q : K) → Other entries k q → before e k q ≡ false → before e q k ≡ true
    other_before q h fails = by_bool (before e q k) (λ holds. holds) (λ none. absurd (h.apart (neither e is q k none fails)))

    other_after : (q : K) → Other entries k q → before e q k ≡ false → before e k q ≡ true
    other_after q h fails = by_bool (before e k q) (λ holds. holds) (λ none. absurd (h.apart (neither e is q k fails none)))

    no_other : after_k ≡ [] → before_k ≡ [] → (q : K) → Other entries k q → ⊥
    no_other none_a none_b q h = h.apart (neither e is q k (none_before none_b q h.has) (none_after none_a q h.has))

    is_other_after : (q : K) → Has entries q → before e k q ≡ true → Other entries k q
    is_other_after q h holds = record {
      has = h;
      apart = λ same. clash _ holds (before_right e is q k k same ∙ not_itself e is k);
    }

    is_other_before : (q : K) → Has entries q → before e q k ≡ true → Other entries k q
    is_other_before q h holds = record {
      has = h;
      apart = λ same. clash _ holds (before_left e is q k k same ∙ not_itself e is k);
    }

    -- what comes after a key: itself where there is no other, else the first of the others from it on
    pub next_is : (((q : K) → Other entries k q → ⊥) × (next_key e.cmp entries k ≡ k))
        ⊎ (Other entries k (next_key e.cmp entries k) × Adjoin e (Other entries k) k (next_key e.cmp entries k))
    next_is =
        let key_of : List (K × Active W) → K = λ l. unwrap_or (option_map (λ (c : K × Active W). c.0) (slice_get l 0)) k in
        let P : K → Type 0 = λ n. Other entries k n × Adjoin e (Other entries k) k n in
        by_list after_k
        (λ none_a. by_list before_k
        (λ none_b. inl (no_other none_a none_b, ap key_of (ap (λ (l : List (K × Active W)). l ++ before_k) none_a) ∙ ap key_of none_b))
        (λ y ys at.
        let r = first_passes is.total pass_before in_before entries sorted y ys at in
        let y_k : before e y.0 k ≡ true = sym (before_is y.0 ∙ turned y.0) ∙ r.passes in
        let eq : next_key e.cmp entries k ≡ y.0 = ap key_of (ap (λ (l : List (K × Active W)). l ++ before_k) none_a) ∙ ap key_of at in
        inr (subst P (sym eq) (
          is_other_before y.0 (ap is_some r.there) y_k,
          inr (
            λ q h. none_after none_a q h.has,
            λ q h. r.least q h.has (before_is q ∙ turned q ∙ other_before q h (none_after none_a q h.has)),
          ),
        ))))
        (λ x xs at.
        let r = first_passes is.total pass_after in_after entries sorted x xs at in
        let k_x : before e k x.0 ≡ true = sym (after_is x.0) ∙ r.passes in
        let eq : next_key e.cmp entries k ≡ x.0 = ap key_of (ap (λ (l : List (K × Active W)). l ++ before_k) at) in
        inr (subst P (sym eq) (
          is_other_after x.0 (ap is_some r.there) k_x,
          inl (k_x, λ q h k_q. r.least q h.has (after_is q ∙ k_q)),
        )))

    -- an entry that comes last before a key
    pub record IsPrevious (x : K × Active W) : Type 0 where
      pub there : active_at e entries x.0 ≡ Some x.1
      pub other : Other entries k x.0
      pub adjoin : Adjoin e (Other entries k) x.0 k

    previous_in : (x : K × Active W) → last_of before_k ≡ Some x → IsPrevious x
    previous_in x at =
        let r = last_passes is.total pass_before in_before entries sorted x at in
        let x_k : before e x.0 k ≡ true = sym (before_is x.0 ∙ turned x.0) ∙ r.passes in
        record {
          there = r.there;
          other = is_other_before x.0 (ap is_some r.there) x_k;
          adjoin = inl (
            x_k,
            λ q h x_q. not_true (before e q k) (λ q_k. clash _ x_q
                (r.greatest q h.has (before_is q ∙ turned q ∙ q_k))),
          );
        }

    previous_around : before_k ≡ [] → (x : K × Active W) → last_of after_k ≡ Some x → IsPrevious x
    previous_around none_b x at =
        let r = last_passes is.total pass_after in_after entries sorted x at in
        let k_x : before e k x.0 ≡ true = sym (after_is x.0) ∙ r.passes in
        record {
          there = r.there;
          other = is_other_after x.0 (ap is_some r.there) k_x;
          adjoin = inr (
            λ q h. r.greatest q h.has (after_is q ∙ other_after q h (none_before none_b q h.has)),
            λ q h. none_before none_b q h.has,
          );
        }

    pub previous_some : (x : K × Active W) → previous e.cmp entries k ≡ Some x → IsPrevious x
    previous_some x at =
        by_option (last_of before_k)
        (λ none. previous_around (last_none before_k none) x (sym (last_left after_k before_k none) ∙ at))
        (λ y is_y.
        let eq : y ≡ x = somes y x (sym (last_right after_k before_k y is_y) ∙ at) in
        subst IsPrevious eq (previous_in y is_y))

    pub previous_none : previous e.cmp entries k ≡ None → (q : K) → Other entries k q → ⊥
    previous_none none =
        by_option (last_of before_k)
        (λ none_b. no_other
        (last_none after_k (sym (last_left after_k before_k none_b) ∙ none)) (last_none before_k none_b))
        (λ y is_y q h. some_not_none y (sym (last_right after_k before_k y is_y) ∙ none))
