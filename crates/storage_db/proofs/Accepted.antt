-- The proofs at a commit are accepted against its root.
use Rattle.std.proofs.Common.{◌≡◌, ℕ, ◌+◌, ◌-◌, ◌≤◌, ◌^◌, Bool, true, false, not, ◌&&◌, ◌||◌, if◌then◌else◌, List, [], ◌∷◌, ◌++◌, length, Option, Some, None, is_some, option_map, inl, inr, refl, sym, ap, ◌∙◌, subst}
use Rattle.storage_codec.specs.Digests.{HashFunction}
use Rattle.storage_ops.specs.Operations as operation
use Rattle.storage_current.specs.CurrentProofs.{IsActiveCurrent}
use Rattle.storage_current.specs.CurrentSoundness.{OwnOperationProofsAreAccepted}
use Rattle.storage_current.specs.KeyProofs.{Exclusion, KeyValue, Commit, Allows, proof_in, shown_text}
use Rattle.storage_current.specs.Keys.{Keyed, update_text, commit_text, before, in_span, IsKeyed}
use Rattle.storage_current.specs.Snapshots.{Grafting, IsGrafting, Snapshot, IsSnapshot, IsActive, OperationProof, canonical_root, own_operation_proof}
use Rattle.storage_db.specs.declared.db.active.Active.{Active}
use Rattle.storage_db.specs.Rings.{next_key, previous}
use Rattle.storage_db.specs.Databases.{Committed, Database, active_at, least_location}
use Rattle.storage_db.specs.Shown.{IsValueProof, IsAbsenceProof, absence_by}
use Rattle.storage_db.specs.Promises.{AreAccepted, IsOwnProof}
use Rattle.storage_db.proofs.Cases.{by_bool, clash, not_true, somes}
use Rattle.storage_db.proofs.Entries.{Sorted, hit, lookup_alike}
use Rattle.storage_db.proofs.Neighbours.{neither, before_left, before_right, before_trans, not_itself}
use Rattle.storage_db.proofs.Nexts.{Has, Other, next_is, IsPrevious, previous_some, previous_none}
use Rattle.storage_db.proofs.Following.{named_is_next}
use Rattle.storage_db.proofs.Placing.{Placed}
use Rattle.storage_db.proofs.Committing.{Ring, whole, kept_active, commit_active, commit_position}

or_not : (b : Bool) → (not b || b) ≡ true
or_not true = refl
or_not false = refl

no_kind : {U V : Type 0} (p q : OperationProof) (u : U) (v : Option V) → KeyValue p u ≡ Commit q v → ⊥
no_kind p q u v e = cc

-- what an exclusion shows, as it is written
abbrev Shown : Type 0
Shown = Exclusion (List ℕ × List ℕ × List ℕ) (List ℕ)

abbrev update_shown : OperationProof → List ℕ → List ℕ → List ℕ → Shown
update_shown proof key value next = KeyValue proof (key, value, next)

abbrev commit_shown : OperationProof → Option (List ℕ) → Shown
commit_shown proof value = Commit proof value

-- what two updates or two commits that are shown alike have alike
record AreUpdates (p q : OperationProof) (a b v w m n : List ℕ) : Type 0 where
  proof : p ≡ q
  key : a ≡ b
  value : v ≡ w
  next : m ≡ n

updates_alike : (p q : OperationProof) (a b v w m n : List ℕ) → update_shown p a v m ≡ update_shown q b w n
    → AreUpdates p q a b v w m n
updates_alike p q a b v w m n e =
    let first : List ℕ × List ℕ × List ℕ = (a, v, m) in
    let second : List ℕ × List ℕ × List ℕ = (b, w, n) in
    let update : first ≡ second = cc in
    record {
      proof = cc;
      key = ap (λ (u : List ℕ × List ℕ × List ℕ). u.0) update;
      value = ap (λ (u : List ℕ × List ℕ × List ℕ). u.1) update;
      next = ap (λ (u : List ℕ × List ℕ × List ℕ). u.2) update;
    }

commits_alike : (p q : OperationProof) (v w : Option (List ℕ)) → commit_shown p v ≡ commit_shown q w → (p ≡ q) × (v ≡ w)
commits_alike p q v w e = (cc, cc)

or_right : (a b : Bool) → b ≡ true → (a || b) ≡ true
or_right true b h = refl
or_right false b h = h

module _ {K W : Type 0} (e : Keyed K W) (is : IsKeyed e) where
  -- of two keys one comes before the other, not both
  not_back : (a b : K) → before e a b ≡ true → before e b a ≡ false
  not_back a b up = not_true (before e b a) (λ back. clash _ (before_trans e is a b a up back) (not_itself e is a))

  -- ---- the span of the key before a key that is not active holds it

  module _ (entries : List (K × Active W)) (sorted : Sorted e.cmp entries) (k : K) (none : active_at e entries k ≡ None)
      (p : K × Active W) (at : IsPrevious e is entries sorted k p) where
    abbrev n : K
    n = next_key e.cmp entries p.0

    -- an active key is another one
    other : (q : K) → Has e is entries q → Other e is entries k q
    other q has = record {
      has = has;
      apart = λ same. clash _ has (ap is_some (lookup_alike is.total q k (is.alike q k same) entries ∙ none));
    }

    between : (q : K) → Has e is entries q → before e q k ≡ false → before e k q ≡ true
    between q has fails = by_bool (before e k q) (λ holds. holds)
        (λ back. absurd ((other q has).apart (neither e is q k fails back)))

    pub spanned : in_span e p.0 n k ≡ true
    spanned =
        let P : Bool → Type 0 = λ x. (if x then not (before e k p.0) && before e k n
        else not (before e k p.0) || before e k n) ≡ true in
        let back : before e p.0 k ≡ true → not (before e k p.0) ≡ true = λ up. ap not (not_back p.0 k up) in
        elim (next_is e is entries sorted p.0) as (λ x. in_span e p.0 n k ≡ true) [
          | inl lone ↦
              subst P (sym (ap (λ (x : K). before e p.0 x) lone.1 ∙ not_itself e is p.0))
              (ap (λ (x : K). not (before e k p.0) || before e k x) lone.1 ∙ or_not (before e k p.0))
          | inr r ↦ elim r.1 as (λ x. in_span e p.0 n k ≡ true) [
            | inl (p_n, none_n) ↦ elim at.adjoin as (λ x. in_span e p.0 n k ≡ true) [
              | inl (p_k, none_k) ↦
                  subst P (sym p_n)
                  (ap (λ (x : Bool). x && before e k n) (back p_k)
                  ∙ between n r.0.has (none_k n (other n r.0.has) p_n))
              | inr (greatest_k, least_k) ↦ absurd (clash _ p_n (greatest_k n (other n r.0.has)))
            ]
            | inr (greatest_n, least_n) ↦
                subst P (sym (greatest_n n r.0))
                (elim at.adjoin as (λ x. (not (before e k p.0) || before e k n) ≡ true) [
                  | inl (p_k, none_k) ↦ ap (λ (x : Bool). x || before e k n) (back p_k)
                  | inr (greatest_k, least_k) ↦ or_right (not (before e k p.0)) (before e k n)
                      (between n r.0.has (least_k n (other n r.0.has)))
                ])
          ]
        ]

  -- keys that are written alike span the same
  span_alike : (a b m n k : K) → e.key a ≡ e.key b → e.key m ≡ e.key n → in_span e b n k ≡ in_span e a m k
  span_alike a b m n k p q =
      let one : in_span e b n k ≡ in_span e b m k
      = ap (λ (x : Bool). if x then not (before e k b) && before e k n else not (before e k b) || before e k n)
      (before_right e is n m b (sym q))
      ∙ ap (λ (x : Bool). if before e b m then not (before e k b) && x else not (before e k b) || x)
      (before_right e is n m k (sym q)) in
      one
      ∙ ap (λ (x : Bool). if x then not (before e k b) && before e k m else not (before e k b) || before e k m)
      (before_left e is b a m (sym p))
      ∙ ap (λ (x : Bool). if before e a m then not x && before e k m else not x || before e k m)
      (before_right e is b a k (sym p))

  -- no key is active
  no_entries : (entries : List (K × Active W)) → ((q : K) → Has e is entries q → ⊥) → entries ≡ []
  no_entries [] none = refl
  no_entries (c ∷ es) none = absurd (none c.0 (ap is_some (hit is.total c es)))

  other_of : (entries : List (K × Active W)) (k : K) → active_at e entries k ≡ None → (q : K) → Has e is entries q
      → Other e is entries k q
  other_of entries k none q has = record {
    has = has;
    apart = λ same. clash _ has (ap is_some (lookup_alike is.total q k (is.alike q k same) entries ∙ none));
  }

  module _ (d : Database K W) (placed : Placed e is d) (ring : Ring e is d) (metadata : Option W)
      (few : length d.operations + 1 ≤ 2 ^ 62) where
    abbrev s : Snapshot
    s = whole e is d placed ring metadata few

    abbrev commit_of : Committed K W
    commit_of = record { metadata = metadata; entries = d.entries; snapshot = s }

    -- the update of an active key, as it is written, names the key after it
    update_active : (q : K) (a : Active W) → active_at e d.entries q ≡ Some a → (key : K) (value : W) (next : K)
        → e.key key ≡ e.key q → e.value value ≡ e.value a.value → e.key next ≡ e.key (next_key e.cmp d.entries q)
        → IsActive s a.location (update_text e key value next)
    update_active q a there key value next key_is value_is next_is_ =
        let n = placed.named q (ap is_some there) in
        let one : n.1.active ≡ a = somes n.1.active a (sym n.1.there ∙ there) in
        let r = ring q n.0 n.1 in
        let follows : e.key next ≡ e.key n.0 = next_is_ ∙ sym (named_is_next e is d.entries q placed.sorted n.0 r.0 r.1) in
        let text : List ℕ → List ℕ → List ℕ → List ℕ = λ x y z. e.operation (operation.Update (x ++ y ++ z)) in
        let written : update_text e q n.1.active.value n.0 ≡ update_text e key value next
        = ap (λ (x : List ℕ). text x (e.value n.1.active.value) (e.key n.0)) (sym key_is)
        ∙ ap (λ (x : List ℕ). text (e.key key) x (e.key n.0))
        (ap (λ (b : Active W). e.value b.value) one ∙ sym value_is)
        ∙ ap (λ (x : List ℕ). text (e.key key) (e.value value) x) (sym follows) in
        subst (λ (l : ℕ). IsActive s l (update_text e key value next)) (ap (λ (b : Active W). b.location) one)
        (subst (λ (t : List ℕ). IsActive s n.1.active.location t) written (kept_active e is d placed ring metadata few q n.0 n.1))

    module _ (h : HashFunction) (g : Grafting) (grafting : IsGrafting g) (whole_is : IsSnapshot s)
        (own : OwnOperationProofsAreAccepted) where
      owned : (location : ℕ) (text : List ℕ) (proof : OperationProof) → IsActive s location text
          → proof ≡ own_operation_proof h g s location → IsOwnProof h g s proof text
      owned location text proof active is_own =
          let place : location ≡ proof.location = sym (ap (λ (x : OperationProof). x.location) is_own) in
          record {
            own = is_own ∙ ap (own_operation_proof h g s) place;
            active = subst (λ (l : ℕ). IsActive s l text) place active;
          }

      accepted : (proof : OperationProof) (text : List ℕ) → IsOwnProof h g s proof text
          → IsActiveCurrent h g proof text (canonical_root h g s)
      accepted proof text shown =
          subst (λ (x : OperationProof). IsActiveCurrent h g x text (canonical_root h g s)) (sym shown.own)
          (own h g grafting s whole_is proof.location text shown.active)

      value_of : (key : K) (value : W) (next : K) (proof : OperationProof)
          → IsValueProof e h g commit_of key value next proof → IsOwnProof h g s proof (update_text e key value next)
      value_of key value next proof shown = owned shown.active.location (update_text e key value next) proof
          (update_active key shown.active shown.there key value next refl shown.value_is shown.next_is) shown.own

      -- the proof of an absence is the snapshot's own of an active operation, which excludes the key
      record IsShown (key : K) (x : Exclusion (K × W × K) W) : Type 0 where
        allowed : Allows e x key
        is_own : IsOwnProof h g s (proof_in x) (shown_text e x)

      absence_of : (key : K) (x : Exclusion (K × W × K) W) → IsAbsenceProof e h g commit_of key x
          → (o : Option (K × Active W)) → previous e.cmp d.entries key ≡ o → IsShown key x
      absence_of key (KeyValue proof u) absence (Some p) at =
          let shown : KeyValue proof (e.key u.0, e.value u.1, e.key u.2) ≡ absence_by e h g commit_of (Some p)
          = absence.own ∙ ap (absence_by e h g commit_of) at in
          let alike = updates_alike proof (own_operation_proof h g s p.1.location) (e.key u.0) (e.key p.0) (e.value u.1)
          (e.value p.1.value) (e.key u.2) (e.key (next_key e.cmp d.entries p.0)) shown in
          let before_it : IsPrevious e is d.entries placed.sorted key p = previous_some e is d.entries placed.sorted key p at in
          record {
            allowed = record {
              other = λ same. before_it.other.apart (sym alike.key ∙ sym same);
              spanned = span_alike p.0 u.0 (next_key e.cmp d.entries p.0) u.2 key (sym alike.key) (sym alike.next)
                  ∙ spanned d.entries placed.sorted key absence.absent p before_it;
            };
            is_own = owned p.1.location (update_text e u.0 u.1 u.2) proof
                (update_active p.0 p.1 before_it.there u.0 u.1 u.2 alike.key alike.value alike.next) alike.proof;
          }
      absence_of key (Commit proof v) absence None at =
          let shown : Commit proof (option_map e.value v) ≡ absence_by e h g commit_of None
          = absence.own ∙ ap (absence_by e h g commit_of) at in
          let alike = commits_alike proof (own_operation_proof h g s (length s.operations - 1)) (option_map e.value v)
          (option_map e.value metadata) shown in
          let empty : d.entries ≡ [] = no_entries d.entries
          (λ q has. previous_none e is d.entries placed.sorted key at q (other_of d.entries key absence.absent q has)) in
          let place : proof.location ≡ length s.operations - 1 = ap (λ (x : OperationProof). x.location) alike.0 in
          let floor_is : least_location d.entries (length d.operations) ≡ proof.location
          = ap (λ (es : List (K × Active W)). least_location es (length d.operations)) empty
          ∙ sym (commit_position e is d placed ring metadata few) ∙ sym place in
          let text : Option (List ℕ) → ℕ → List ℕ = λ o l. e.operation (operation.CommitFloor o l) in
          let written : commit_text e metadata (least_location d.entries (length d.operations)) ≡ commit_text e v proof.location
          = ap (λ (o : Option (List ℕ)). text o (least_location d.entries (length d.operations))) (sym alike.1)
          ∙ ap (λ (l : ℕ). text (option_map e.value v) l) floor_is in
          record {
            allowed = tt;
            is_own = owned (length s.operations - 1) (commit_text e v proof.location) proof
                (subst (λ (t : List ℕ). IsActive s (length s.operations - 1) t) written
                (commit_active e is d placed ring metadata few)) alike.0;
          }
      absence_of key (KeyValue proof u) absence None at =
          let shown : KeyValue proof (e.key u.0, e.value u.1, e.key u.2) ≡ absence_by e h g commit_of None
          = absence.own ∙ ap (absence_by e h g commit_of) at in
          absurd (no_kind proof _ _ _ shown)
      absence_of key (Commit proof v) absence (Some p) at =
          let shown : absence_by e h g commit_of (Some p) ≡ Commit proof (option_map e.value v)
          = sym (absence.own ∙ ap (absence_by e h g commit_of) at) in
          absurd (no_kind _ _ _ _ shown)

      absence : (key : K) (x : Exclusion (K × W × K) W) → IsAbsenceProof e h g commit_of key x → IsShown key x
      absence key x shown = absence_of key x shown (previous e.cmp d.entries key) refl

      pub are_accepted : AreAccepted e h g commit_of
      are_accepted = record {
        values = λ key value next proof shown. accepted proof (update_text e key value next)
            (value_of key value next proof shown);
        absences = λ key x shown. record {
          allowed = (absence key x shown).allowed;
          accepted = accepted (proof_in x) (shown_text e x) (absence key x shown).is_own;
        };
        own_values = value_of;
        own_absences = λ key x shown. (absence key x shown).is_own;
      }
