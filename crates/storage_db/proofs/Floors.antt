-- The floor that is found by the bits is the least location of an active update.
use Rattle.std.proofs.Common.{◌≡◌, ◌⊎◌, ℕ, zero, suc, ◌-◌, ◌<◌, ◌≤◌, ◌^◌, min, Bool, true, false, cond, List, [], ◌∷◌, length, get_or, Option, Some, None, is_some, is_eq, nat_lt, inl, inr, refl, sym, ap, ◌∙◌, subst, arith, ltb-true, ltb-false}
use Rattle.std.specs.Prelude.{MatchOption, IsSomeAnd}
use Rattle.std.specs.BTreeMap.{is_at}
use Rattle.std.specs.Cmp.{IsTotalOrder}
use Rattle.std.specs.List.{All}
use Rattle.std.specs.Map.{lookup}
use Rattle.std.specs.declared.cmp.Ordering.{Ordering}
use Rattle.std.proofs.lemmas.List.{length-append}
use Rattle.std.proofs.lemmas.List.Elements.{All-cons}
use Rattle.storage_codec.specs.Digests.{HashFunction}
use Rattle.storage_ops.specs.Operations as operation
use Rattle.storage_current.specs.Keys.{Keyed, commit_text, update_text, IsKeyed}
use Rattle.storage_current.specs.Snapshots.{Grafting}
use Rattle.storage_db.specs.declared.db.active.Active.{Active}
use Rattle.storage_db.specs.declared.db.log.Log.{Log}
use Rattle.storage_db.specs.Rings.{next_key}
use Rattle.storage_db.specs.Databases.{Command, Put, Delete, Commit, Committed, Database, active_at, delete, done, empty, is_full, least_location, removed, run, updated}
use Rattle.storage_db.specs.Floors.{AreMarked, IsFirstMarked, IsMarked, floor_of}
use Rattle.storage_db.specs.Kept.{IsMade, KeptCommit, KeptDatabase, KeepsCommit}
use Rattle.storage_db.specs.Parts.{place_of}
use Rattle.storage_db.proofs.Cases.{by_bool, clash, cond_yes, cond_no, some_not_none, somes}
use Rattle.storage_db.proofs.Entries.{Sorted, hit, past, not_first, lookup-insert, lookup-remove}
use Rattle.storage_db.proofs.Appends.{IsNot}
use Rattle.storage_db.proofs.Placing.{IsCommit, Placed, commit_elsewhere, commit_place, here, place}
use Rattle.storage_db.proofs.Committing.{commit_clash, least_end, least_found}
use Rattle.storage_db.proofs.Said.{AreSaid, commit_said, put_said}
use Rattle.storage_db.proofs.Steps.{by_delete, by_put, delete_last, put_last}
use Rattle.storage_db.proofs.Lists.{Kept, done_kept, empty_kept}

-- ---- the first bit that is set is that of the least location

either_least : (a b : ℕ) → (min a b ≡ a) ⊎ (min a b ≡ b)
either_least a b = by_bool (nat_lt a b)
    (λ less. let lt : a < b = ltb-true a b less in inl (omega (arith, lt)))
    (λ more. let ge : b ≤ a = ltb-false a b more in inr (omega (arith, ge)))

module _ {K W : Type 0} where
  -- the least location is that of an entry, or the end
  pub least_reached : (P : K × Active W → Type 0) (es : List (K × Active W)) (end : ℕ) → All P es
      → (least_location es end ≡ end) ⊎ ((c : K × Active W) × P c × (c.1.location ≡ least_location es end))
  least_reached P [] end each = inl refl
  least_reached P (c ∷ es) end each =
      let rest : All P es = λ k d within. each (suc k) d (omega (arith, within)) in
      elim (least_reached P es (min end c.1.location) rest) [
        | inl same ↦ elim (either_least end c.1.location) [
          | inl is_end ↦ inl (same ∙ is_end)
          | inr is_here ↦ inr (c, each 0 c (omega arith), sym (same ∙ is_here))
        ]
        | inr found ↦ inr found
      ]

  pub first_is_least : {cmp : K → K → Ordering} → IsTotalOrder cmp → (bits : List Bool) (last : Option ℕ) (start found : ℕ)
      (es : List (K × Active W)) → AreMarked cmp bits last start es
      → (start ≤ length bits → IsFirstMarked bits last start found) → found ≡ least_location es (length bits)
  first_is_least {cmp} o bits last start found es marked finds =
      let first : IsFirstMarked bits last start found = finds marked.within in
      let least : ℕ = least_location es (length bits) in
      let low : found ≤ least
      = elim (least_reached (λ c. (start ≤ c.1.location) × IsMarked bits last c.1.location) es (length bits) marked.each) [
        | inl same ↦ omega (arith, same, first.within)
        | inr (c, is, at) ↦ by_bool (nat_lt c.1.location found)
            (λ less. absurd (first.passed c.1.location is.0 (ltb-true _ _ less) is.1))
            (λ more. let ge : found ≤ c.1.location = ltb-false _ _ more in omega (arith, ge, at))
      ] in
      let high : least ≤ found
      = by_bool (nat_lt found (length bits))
      (λ less.
      let at = marked.only found (first.stops (ltb-true _ _ less)) in
      let lower : least ≤ at.1.location = least_found o es (length bits) at.0 at.1 at.2 in
      omega (arith, lower, at.3))
      (λ more. let ge : length bits ≤ found = ltb-false _ _ more in
      let end : least ≤ length bits = least_end es (length bits) in
      omega (arith, ge, end)) in
      omega (arith, low, high)

  -- as a commit finds it
  pub floor_found : {cmp : K → K → Ordering} → IsTotalOrder cmp → (log room : Log) (es : List (K × Active W))
      (last : Option ℕ) (start : ℕ) → AreMarked cmp log.bits.items last start es → room.bits.items ≡ log.bits.items
      → (place : Option ℕ) → place ≡ last → (from : ℕ) → from ≡ start → (found : ℕ)
      → (from ≤ length room.bits.items → IsFirstMarked room.bits.items place from found)
      → found ≡ least_location es (length room.operations.items)
  floor_found {cmp} o log room es last start marked bits place place_is from from_is found finds =
      let one = subst (λ (b : List Bool). AreMarked cmp b last start es) (sym bits) marked in
      let two = subst (λ (l : Option ℕ). AreMarked cmp room.bits.items l start es) (sym place_is) one in
      let three = subst (λ (n : ℕ). AreMarked cmp room.bits.items place n es) (sym from_is) two in
      let count : length room.bits.items ≡ length room.operations.items = omega (arith, room.each) in
      first_is_least o room.bits.items place from found es three finds ∙ ap (least_location es) count

  -- and it stands at or behind the start of the search
  pub floor_later : {cmp : K → K → Ordering} → (log room : Log) (es : List (K × Active W)) (last : Option ℕ) (start : ℕ)
      → AreMarked cmp log.bits.items last start es → room.bits.items ≡ log.bits.items → (place : Option ℕ) (from : ℕ) → from ≡ start
      → (found : ℕ) → (from ≤ length room.bits.items → IsFirstMarked room.bits.items place from found)
      → (floor : ℕ) → floor ≡ found → start ≤ floor
  floor_later log room es last start marked bits place from from_is found finds floor floor_is =
      let count : length room.bits.items ≡ length log.bits.items = ap (λ (b : List Bool). length b) bits in
      let first : IsFirstMarked room.bits.items place from found = finds (omega (arith, marked.within, from_is, count)) in
      omega (arith, first.from, from_is, floor_is)

  -- what holds of what each key finds holds of each entry
  pub each_of : {cmp : K → K → Ordering} → IsTotalOrder cmp → (P : Active W → Type 0) (es : List (K × Active W)) → Sorted cmp es
      → ((q : K) (a : Active W) → lookup (is_at (cmp q)) es ≡ Some a → P a) → All (λ (c : K × Active W). P c.1) es
  each_of o P [] sorted holds = λ k d within. absurd (omega (arith, within))
  each_of o P (c ∷ es) sorted holds = All-cons (λ (d : K × Active W). P d.1) c es
      (holds c.0 c.1 (hit o c es))
      (each_of o P es sorted.1 (λ q a at.
      holds q a (past o c es q (not_first o c es sorted.0 q (ap is_some at)) ∙ at)))

-- ---- no update before the floor of the last commit is active

module _ {K W : Type 0} (e : Keyed K W) (is : IsKeyed e) where
  pub record IsPast (floor : ℕ) (d : Database K W) : Type 0 where
    pub within : floor ≤ length d.operations
    pub each : (q : K) (a : Active W) → active_at e d.entries q ≡ Some a → floor ≤ a.location

  past_updated : (floor : ℕ) (d : Database K W) → IsPast floor d → (k : K) (v : W) (n : K)
      → IsPast floor (updated e d k v n)
  past_updated floor d stood k v n =
      let fresh : Active W = record { value = v; location = length d.operations } in
      let within : floor ≤ length d.operations = stood.within in
      record {
        within = let more = length-append d.operations (update_text e k v n ∷ []) in omega (arith, within, more);
        each = λ q a at.
            let found = lookup-insert is.total q k fresh d.entries in
            by_bool (is_eq (e.cmp k q))
            (λ holds.
            let one : fresh ≡ a = somes fresh a (sym (found ∙ cond_yes _ (Some fresh) (active_at e d.entries q) holds) ∙ at) in
            subst (λ (b : Active W). floor ≤ b.location) one within)
            (λ fails. stood.each q a (sym (found ∙ cond_no _ (Some fresh) (active_at e d.entries q) fails) ∙ at));
      }

  past_removed : (floor : ℕ) (d : Database K W) → Placed e is d → IsPast floor d → (k : K) → IsPast floor (removed e d k)
  past_removed floor d placed stood k =
      let within : floor ≤ length d.operations = stood.within in
      record {
        within = let more = length-append d.operations (e.operation (operation.Delete (e.key k)) ∷ []) in omega (arith, within, more);
        each = λ q a at.
            let found = lookup-remove is.total q k d.entries placed.sorted in
            by_bool (is_eq (e.cmp k q))
            (λ holds. absurd (some_not_none a (sym at ∙ found ∙ cond_yes _ None (active_at e d.entries q) holds)))
            (λ fails. stood.each q a (sym (found ∙ cond_no _ None (active_at e d.entries q) fails) ∙ at));
      }

  -- the floor of the last commit of a definition's database
  abbrev pub last_floor : Option (Committed K W) → ℕ
  last_floor None = 0
  last_floor (Some commit) = commit.snapshot.floor

  abbrev pub IsFloored : Database K W → Type 0
  IsFloored d = IsPast (last_floor d.last) d

  floored_on : (d c : Database K W) → c.last ≡ d.last → IsPast (last_floor d.last) c → IsFloored c
  floored_on d c same stood = subst (λ (o : Option (Committed K W)). IsPast (last_floor o) c) (sym same) stood

  commit_floored : (d : Database K W) (metadata : Option W) → IsFloored (commit_said e d metadata)
  commit_floored d metadata =
      let end : least_location d.entries (length d.operations) ≤ length d.operations
      = least_end d.entries (length d.operations) in
      record {
        within =
            let more = length-append d.operations (commit_text e metadata (least_location d.entries (length d.operations)) ∷ []) in
            omega (arith, end, more);
        each = λ q a at. least_found is.total d.entries (length d.operations) q a at;
      }

  module _ (said : AreSaid e) where
    put_floored : (d : Database K W) (kept : Kept e is said d) → IsFloored d → (k : K) (v : W) → IsFloored (put_said e d k v)
    put_floored d kept stood k v =
        let n : K = next_key e.cmp d.entries k in
        let after : IsPast (last_floor d.last) (updated e d k v n) = past_updated _ d stood k v n in
        floored_on d (put_said e d k v) (put_last e is d kept.placed kept.ring k v)
        (by_put e is d kept.placed kept.ring k v (λ c. IsPast (last_floor d.last) c) (λ has. after) (λ none alone. after)
        (λ none p last. past_updated _ (updated e d k v n) after p.0 p.1.value k))

    delete_floored : (d : Database K W) (kept : Kept e is said d) → IsFloored d → (k : K) → IsFloored (delete e d k)
    delete_floored d kept stood k =
        let n : K = next_key e.cmp d.entries k in
        let less : IsPast (last_floor d.last) (removed e d k) = past_removed _ d kept.placed stood k in
        floored_on d (delete e d k) (delete_last e is d kept.placed kept.ring k)
        (by_delete e is d kept.placed kept.ring k (λ c. IsPast (last_floor d.last) c) (λ none. stood) (λ has alone. less)
        (λ has p last. past_updated _ (removed e d k) less p.0 p.1.value n))

    done_floored : (d : Database K W) → Kept e is said d → IsFloored d → (command : Command K W) → IsFloored (done e d command)
    done_floored d kept stood (Put k v) = subst IsFloored (sym (said.put_is d k v)) (put_floored d kept stood k v)
    done_floored d kept stood (Delete k) = delete_floored d kept stood k
    done_floored d kept stood (Commit metadata) = subst IsFloored (sym (said.commit_is d metadata)) (commit_floored d metadata)

    all_floored : (commands : List (Command K W)) (d : Database K W) → Kept e is said d → IsFloored d
        → Kept e is said (run e d commands) × IsFloored (run e d commands)
    all_floored [] d kept stood = (kept, stood)
    all_floored (c ∷ commands) d kept stood =
        let P : Bool → Type 0 = λ b. Kept e is said (run e (cond b d (done e d c)) commands)
        × IsFloored (run e (cond b d (done e d c)) commands) in
        by_bool (is_full e d c)
        (λ holds. subst P (sym holds) (all_floored commands d kept stood))
        (λ fails.
        let few : length (done e d c).operations ≤ 2 ^ 62 = ltb-false (2 ^ 62) (length (done e d c).operations) fails in
        subst P (sym fails) (all_floored commands (done e d c) (done_kept e is said d kept c few) (done_floored d kept stood c)))

    pub made_floored : (commands : List (Command K W)) → Kept e is said (run e empty commands) × IsFloored (run e empty commands)
    made_floored commands = all_floored commands empty (empty_kept e is said) (record {
      within = omega arith;
      each = λ q a at. omega arith;
    })

  -- ---- so the bits from it on are those of the active updates

  within_of : (bits : List Bool) (i : ℕ) → get_or bits i false ≡ true → i < length bits
  within_of [] i set = absurd (clash _ set refl)
  within_of (b ∷ bits) zero set = omega arith
  within_of (b ∷ bits) (suc i) set = let less : i < length bits = within_of bits i set in omega (arith, less)

  not_last : (d : Database K W) (placed : Placed e is d) (q : K) (a : Active W) → active_at e d.entries q ≡ Some a
      → (o : Option (Committed K W)) → d.last ≡ o → IsNot (commit_place o) a.location
  not_last d placed q a at None last = tt
  not_last d placed q a at (Some c) last = λ same.
      let past_commit : IsCommit e is (here d) c
      = subst (λ (o : Option (Committed K W)). MatchOption o (Unit {0}) (IsCommit e is (here d))) last placed.commit in
      let apart : IsNot (place (Some a)) (length c.snapshot.operations - 1)
      = subst (λ (o : Option (Active W)). IsNot (place o) (length c.snapshot.operations - 1)) at
      (commit_elsewhere e is d placed q c past_commit) in
      apart (sym same)

  pub marked_of : (d : Database K W) → Placed e is d → IsFloored d
      → AreMarked e.cmp d.bits (commit_place d.last) (last_floor d.last) d.entries
  marked_of d placed stood = record {
    within = let low : last_floor d.last ≤ length d.operations = stood.within in omega (arith, low, placed.bit_each);
    each = each_of is.total (λ a. (last_floor d.last ≤ a.location) × IsMarked d.bits (commit_place d.last) a.location)
        d.entries placed.sorted (λ q a at.
        let n = placed.named q (ap is_some at) in
        let one : n.1.active ≡ a = somes n.1.active a (sym n.1.there ∙ at) in (
          stood.each q a at,
          record {
            bit = subst (λ (b : Active W). get_or d.bits b.location false ≡ true) one n.1.written.bit;
            apart = not_last d placed q a at d.last refl;
          },
        ));
    only = λ i marked.
        let within : i < length d.bits = within_of d.bits i marked.bit in
        elim (placed.only i (get_or d.operations i []) (record {
          within = omega (arith, within, placed.bit_each);
          there = refl;
          bit = marked.bit;
        })) [
          | inl r ↦ r
          | inr at_last ↦ absurd (commit_clash d.last i at_last marked.apart)
        ];
  }

-- the same of a database in memory
module _ {K W Y : Type 0} (e : Keyed K W) (is : IsKeyed e) (said : AreSaid e) (seen : W → Y) (h : HashFunction)
    (g : Grafting) where
  place_is : (o : Option (Committed K W)) (l : Option (KeptCommit K W))
      → MatchOption o (l ≡ None) (λ commit. IsSomeAnd l (λ c. KeepsCommit e seen h g c commit))
      → (commit_place o ≡ place_of l) × (last_floor e is o ≡ floor_of l)
  place_is None l last = (
    ap (λ (x : Option (KeptCommit K W)). place_of x) (sym last),
    ap (λ (x : Option (KeptCommit K W)). floor_of x) (sym last),
  )
  place_is (Some commit) None last = absurd last
  place_is (Some commit) (Some c) last = (ap (λ (n : ℕ). Some (n - 1)) (sym last.count), sym last.floor)

  pub made_marked : (kept : KeptDatabase K W) → IsMade e seen h g kept
      → AreMarked e.cmp kept.bits (place_of kept.last) (floor_of kept.last) kept.entries
  made_marked kept made =
      let d : Database K W = run e empty made.0 in
      let all = made_floored e is said made.0 in
      let marked = marked_of e is d all.0.placed all.1 in
      let at = place_is d.last kept.last made.1.last in
      let bits = subst (λ (b : List Bool). AreMarked e.cmp b (commit_place d.last) (last_floor e is d.last) d.entries)
      (sym made.1.bits) marked in
      let places = subst (λ (o : Option ℕ). AreMarked e.cmp kept.bits o (last_floor e is d.last) d.entries) at.0 bits in
      let floors = subst (λ (n : ℕ). AreMarked e.cmp kept.bits (place_of kept.last) n d.entries) at.1 places in
      subst (λ (m : List (K × Active W)). AreMarked e.cmp kept.bits (place_of kept.last) (floor_of kept.last) m)
      (sym made.1.entries) floors
