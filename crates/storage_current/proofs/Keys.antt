-- What a well-formed snapshot says of keys.
use Rattle.std.proofs.Common.{◌≡◌, ℕ, ◌+◌, ◌-◌, ◌<◌, ◌≤◌, ◌^◌, Bool, true, false, List, ◌++◌, length, Option, Ordering, Less, Equal, Greater, is_lt, inl, inr, refl, sym, ap, ◌∙◌, subst, arith}
use Rattle.std.specs.Prelude.{IfSome}
use Rattle.std.specs.Cmp.{IsTotalOrder}
use Rattle.std.specs.Ordering.{is_eq, ordering_reverse}
use Rattle.std.proofs.lemmas.Bool.{false≢true}
use Rattle.storage_ops.specs.Operations.{OperationView, Update, CommitFloor, operation_map, operation_floor}
use Rattle.storage_ops.specs.PrefixFree.{IsPrefixFree}
use Rattle.storage_ops.specs.Laws.PrefixFree.{three_parts}
use Rattle.storage_current.specs.Snapshots.{Snapshot, IsActive}
use Rattle.storage_current.specs.Keys.{IsKeyed, Keyed, update_text, commit_text, before, UpdatesAreValues, ExcludedAreAbsent, NoneAtItsFloor}

abbrev text_view : OperationView (List ℕ) (List ℕ) (List ℕ) → OperationView (List ℕ) (List ℕ) (List ℕ)
text_view x = x

updates_same : (a b : List ℕ) → text_view (Update a) ≡ Update b → a ≡ b
updates_same a b e = cc

update_no_commit : (a : List ℕ) (o : Option (List ℕ)) (n : ℕ) → text_view (Update a) ≡ CommitFloor o n → ⊥
update_no_commit a o n e = cc

commits_same : (a b : Option (List ℕ)) (m n : ℕ) → text_view (CommitFloor a m) ≡ CommitFloor b n → m ≡ n
commits_same a b m n e = cc

tested : (o : Ordering) → is_eq o ≡ true → o ≡ Equal
tested Less h = absurd (false≢true h)
tested Equal h = refl
tested Greater h = absurd (false≢true h)

-- Codecs of keys and values, and of operations whose updates are written as their parts, give them.
pub keyed_of : {K V U X Y : Type 0} (key : K → List ℕ) (value : V → List ℕ)
    (operation : OperationView (List ℕ) (List ℕ) (List ℕ) → List ℕ) (cmp : K → K → Ordering)
    (kview : K → X) (vview : V → Y) (update : U → List ℕ) (make : K → V → K → U)
    → ((k : K) (v : V) (n : K) → update (make k v n) ≡ key k ++ value v ++ key n)
    → ((x y : OperationView K U V) → IfSome (operation_floor x) (λ n. n < 2 ^ 64)
    → IfSome (operation_floor y) (λ n. n < 2 ^ 64)
    → operation (operation_map key update value x) ≡ operation (operation_map key update value y)
    → operation_map key update value x ≡ operation_map key update value y)
    → IsPrefixFree key kview → IsPrefixFree value vview → IsTotalOrder cmp
    → (eq : K → K → Bool) → ((a b : K) → eq a b ≡ is_eq (cmp a b))
    → ((a b : K) → (eq a b ≡ true → key a ≡ key b) × (key a ≡ key b → eq a b ≡ true))
    → IsKeyed (record { key = key; value = value; operation = operation; cmp = cmp })
keyed_of {K} {V} key value operation cmp kview vview update make made parts kis vis total eq eq_is same =
    let text : K → V → K → OperationView (List ℕ) (List ℕ) (List ℕ) = λ k v n. Update (key k ++ value v ++ key n) in
    let seen : (k : K) (v : V) (n : K) → operation_map {K = K} {V = V} key update value (Update (make k v n))
    ≡ text k v n = λ k v n. ap (λ t. Update t) (made k v n) in
    record {
      one = λ a b v w m n e.
          let whole = parts (Update (make a v m)) (Update (make b w n)) tt tt (ap operation (seen a v m) ∙ e
          ∙ sym (ap operation (seen b w n))) in
          three_parts key value kview vview kis vis a b v w m n
          (updates_same _ _ (sym (seen a v m) ∙ whole ∙ seen b w n));
      apart = λ a v m o floor small e.
          let whole = parts (Update (make a v m)) (CommitFloor o floor) tt small (ap operation (seen a v m) ∙ e) in
          update_no_commit _ _ _ (sym (seen a v m) ∙ whole);
      floors = λ o p m n small_m small_n e.
          commits_same _ _ _ _ (parts (CommitFloor o m) (CommitFloor p n) small_m small_n e);
      total = total;
      exact = λ a b e. (same a b).0 (eq_is a b ∙ ap is_eq e);
      alike = λ a b e. tested (cmp a b) (sym (eq_is a b) ∙ (same a b).1 e);
    }

same_active : (s : Snapshot) (location : ℕ) (a b : List ℕ) → IsActive s location a → IsActive s location b → a ≡ b
same_active s location a b p q = sym p.there ∙ q.there

less : (o : Ordering) → is_lt o ≡ true → o ≡ Less
less Less h = refl
less Equal h = absurd (false≢true h)
less Greater h = absurd (false≢true h)

equal : (o : Ordering) → is_lt o ≡ false → is_lt (ordering_reverse o) ≡ false → o ≡ Equal
equal Less h g = absurd (false≢true (sym h))
equal Equal h g = refl
equal Greater h g = absurd (false≢true (sym g))

module _ {K V : Type 0} (e : Keyed K V) (is : IsKeyed e) where
  before_not : (a b : K) → before e a b ≡ false → before e b a ≡ false → e.key a ≡ e.key b
  before_not a b p q = is.exact a b (equal _ p (rw (is.total.antisymm b a) at q))

  pub values : UpdatesAreValues e
  values s well location key value next u = record {
    updated = (location, next, u);
    only = λ m other n w.
        let at : m ≡ location = well.distinct m location key n next other value w u in
        let here = subst (λ i. IsActive s i (update_text e key other n)) at w in
        (is.one key key other value n next (same_active s location _ _ here u)).1;
  }

  pub absent : ExcludedAreAbsent e
  absent s well location start value next u key excluded i v n w =
      let r = well.ring location start value next u in
      let inside = excluded.spanned in
      let other : before e key start ≡ false → before e start key ≡ false → ⊥ =
      λ p q. excluded.other (before_not key start p q) in
      elim r.1 [
        | inl (up, none) ↦
            let far = none key (i, v, n, w) in
            grind (arith, other, far)
        | inr (greatest, least) ↦
            let next_not = greatest next r.0 in
            let key_not = greatest key (i, v, n, w) in
            let key_least = least key (i, v, n, w) in
            grind (arith, other, next_not, key_not, key_least)
      ]

  pub none_at_floor : NoneAtItsFloor e
  none_at_floor s snapshot well location value c key i v n u =
      let few = snapshot.few in
      let floor_within = snapshot.floor_within in
      let within : location < length s.operations = c.within in
      let there : i < length s.operations = u.within in
      let small : location < 2 ^ 64 = omega arith in
      let last : location + 1 < length s.operations → ⊥ = λ h.
      let r = (well.updates location _ c h).1 in
      is.apart r.0 r.1 r.2 value location small (sym r.3) in
      let final : length s.operations - 1 ≡ location = grind (arith, last) in
      let at_end = subst (λ j. IsActive s j (commit_text e well.committed.0 s.floor)) final well.committed.1 in
      let floors : location ≡ s.floor =
      is.floors value well.committed.0 location s.floor small (omega arith) (same_active s location _ _ c at_end) in
      let here : i ≡ location → ⊥ = λ same.
      is.apart key v n value location small
      (same_active s location _ _ (subst (λ j. IsActive s j (update_text e key v n)) same u) c) in
      let past : i + 1 < length s.operations → s.floor ≤ i = λ h. (well.updates i _ u h).0 in
      grind (arith, here, past)
