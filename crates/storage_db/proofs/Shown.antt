-- The proofs of a commit that is kept in memory: they show what it gave its keys.
use Rattle.std.proofs.Common.{◌≡◌, ℕ, ◌-◌, false, List, length, Option, Some, None, is_some, option_map, refl, sym, ap, ◌∙◌, subst}
use Rattle.std.specs.Prelude.{MatchOption, IsSomeAnd}
use Rattle.std.specs.List.{AllZip}
use Rattle.storage_codec.specs.Digests.{HashFunction}
use Rattle.storage_current.specs.HeldKeys.{exclusion_seen}
use Rattle.storage_current.specs.KeyProofs.{Exclusion, KeyValue, Commit}
use Rattle.storage_current.specs.Keys.{Keyed, IsKeyed}
use Rattle.storage_current.specs.Snapshots.{Grafting, OperationProof, own_operation_proof}
use Rattle.storage_db.specs.declared.db.active.Active.{Active}
use Rattle.storage_db.specs.Rings.{next_key, previous}
use Rattle.storage_db.specs.Databases.{Committed, Database, active_at}
use Rattle.storage_db.specs.Kept.{KeptDatabase, KeptCommit, IsCopy, Keeps, KeepsCommit}
use Rattle.storage_db.specs.Shown.{IsValueProof, IsAbsenceProof, absence_by}
use Rattle.storage_db.proofs.Cases.{by_option, some_not_none, somes, none_if}
use Rattle.storage_db.proofs.Copies.{seen_of, lookup_copy, next_copy, AreCopied}

-- of a commit in memory, as its parts and as its value
module _ {K W Y : Type 0} (e : Keyed K W) (seen : W → Y) (h : HashFunction) (g : Grafting) (inside kept : KeptCommit K W)
    (view : inside ≡ kept) (commit : Committed K W) (keeps : KeepsCommit e seen h g kept commit) where
  pub keeps_inside : KeepsCommit e seen h g inside commit
  keeps_inside = subst (λ (c : KeptCommit K W). KeepsCommit e seen h g c commit) (sym view) keeps

  -- the absence of each key is shown by the commit itself
  pub shown_by_commit : (metadata : Option W) (proof : OperationProof)
      → option_map e.value metadata ≡ option_map e.value inside.metadata
      → proof ≡ own_operation_proof h g commit.snapshot (kept.count - 1)
      → exclusion_seen e.key e.value (Commit proof metadata) ≡ absence_by e h g commit None
  shown_by_commit metadata proof metadata_is own =
      let owned : proof ≡ own_operation_proof h g commit.snapshot (length commit.snapshot.operations - 1)
      = own ∙ ap (λ (n : ℕ). own_operation_proof h g commit.snapshot (n - 1)) keeps.count in
      let value : option_map e.value metadata ≡ option_map e.value commit.metadata
      = metadata_is ∙ ap (option_map e.value) keeps_inside.metadata in
      cc

module _ {K W Y : Type 0} (e : Keyed K W) (seen : W → Y) (is : IsKeyed e) where
  -- what copies have of a key
  module _ (es fs : List (K × Active W)) (copies : AllZip (IsCopy e seen) es fs) (k : K) where
    pub absent_of : active_at e fs k ≡ None → active_at e es k ≡ None
    absent_of none = by_option (active_at e es k) (λ lone. lone) (λ a there. absurd (some_not_none (seen_of e seen is a)
        (sym (ap (option_map (seen_of e seen is)) there) ∙ sym (lookup_copy e seen is es fs copies k)
        ∙ ap (option_map (seen_of e seen is)) none)))

    pub present_of : (a : Active W) → active_at e fs k ≡ Some a
        → (b : Active W) × (active_at e es k ≡ Some b) × (e.value a.value ≡ e.value b.value) × (a.location ≡ b.location)
    present_of a found =
        let same = lookup_copy e seen is es fs copies k in
        by_option (active_at e es k)
        (λ none. absurd (some_not_none (seen_of e seen is a) (sym (ap (option_map (seen_of e seen is)) found) ∙ same
        ∙ ap (option_map (seen_of e seen is)) none)))
        (λ b there.
        let pair : seen_of e seen is a ≡ seen_of e seen is b
        = somes _ _ (sym (ap (option_map (seen_of e seen is)) found) ∙ same ∙ ap (option_map (seen_of e seen is)) there) in
        (b, there, ap (λ (p : List ℕ × ℕ). p.0) pair, ap (λ (p : List ℕ × ℕ). p.1) pair))

  module _ (h : HashFunction) (g : Grafting) (inside kept : KeptCommit K W) (view : inside ≡ kept) (commit : Committed K W)
      (keeps : KeepsCommit e seen h g kept commit) (k : K) where
    within : KeepsCommit e seen h g inside commit
    within = keeps_inside e seen h g inside kept view commit keeps

    -- ---- a value

    pub value_proof : (a : Active W) → active_at e inside.entries k ≡ Some a → (value : W) (next : K) (proof : OperationProof)
        → e.value value ≡ e.value a.value → e.key next ≡ e.key (next_key e.cmp inside.entries k)
        → proof ≡ own_operation_proof h g commit.snapshot a.location → IsValueProof e h g commit k value next proof
    value_proof a found value next proof value_is next_is own =
        let b = present_of commit.entries inside.entries within.entries k a found in
        record {
          active = b.0;
          there = b.1;
          value_is = value_is ∙ b.2;
          next_is = next_is ∙ next_copy e seen is commit.entries inside.entries within.entries k k refl;
          own = own ∙ ap (own_operation_proof h g commit.snapshot) b.3;
        }

    -- ---- an absence, by the key before

    -- by the update of a key, of whose entry what is kept is a copy
    pub shown_by_update : (a : Active W) (c : K × Active W) → IsCopy e seen c (k, a) → (key : K) (value : W) (next : K)
        (proof : OperationProof) → e.key key ≡ e.key k → e.value value ≡ e.value a.value
        → e.key next ≡ e.key (next_key e.cmp inside.entries k) → proof ≡ own_operation_proof h g commit.snapshot a.location
        → exclusion_seen e.key e.value (KeyValue proof (key, value, next)) ≡ absence_by e h g commit (Some c)
    shown_by_update a c copy key value next proof key_is value_is next_is own =
        let owned : proof ≡ own_operation_proof h g commit.snapshot c.1.location
        = own ∙ ap (own_operation_proof h g commit.snapshot) copy.location in
        let first : e.key key ≡ e.key c.0 = key_is ∙ copy.key in
        let second : e.value value ≡ e.value c.1.value = value_is ∙ copy.value in
        let third : e.key next ≡ e.key (next_key e.cmp commit.entries c.0)
        = next_is ∙ next_copy e seen is commit.entries inside.entries within.entries c.0 k copy.key in
        cc

    pub absence_by_update : is_some (active_at e inside.entries k) ≡ false → (before : K × Active W)
        → AreCopied e seen is (previous e.cmp commit.entries k) (Some before) → (x : Exclusion (K × W × K) W)
        → ((c : K × Active W) → IsCopy e seen c before → exclusion_seen e.key e.value x ≡ absence_by e h g commit (Some c))
        → IsAbsenceProof e h g commit k x
    absence_by_update none before copied x shown =
        let P : Option (K × Active W) → Type 0 = λ o. AreCopied e seen is o (Some before) in
        record {
          absent = absent_of commit.entries inside.entries within.entries k (none_if _ none);
          own = by_option (previous e.cmp commit.entries k)
              (λ lone. absurd (some_not_none before (subst P lone copied)))
              (λ c there. shown c (subst P there copied) ∙ ap (absence_by e h g commit) (sym there));
        }

    pub absence_by_commit : is_some (active_at e inside.entries k) ≡ false
        → AreCopied e seen is (previous e.cmp commit.entries k) None
        → (x : Exclusion (K × W × K) W) → exclusion_seen e.key e.value x ≡ absence_by e h g commit None
        → IsAbsenceProof e h g commit k x
    absence_by_commit none copied x shown =
        let P : Option (K × Active W) → Type 0 = λ o. AreCopied e seen is o None in
        record {
          absent = absent_of commit.entries inside.entries within.entries k (none_if _ none);
          own = by_option (previous e.cmp commit.entries k)
              (λ lone. shown ∙ ap (absence_by e h g commit) (sym lone))
              (λ c there. absurd (subst P there copied));
        }

    -- ---- what is told of a key

    pub told_absent : (P : Type 0) (Q : Active W → Type 0) → active_at e inside.entries k ≡ None → P
        → MatchOption (active_at e commit.entries k) P Q
    told_absent P Q none p = subst (λ (o : Option (Active W)). MatchOption o P Q)
        (sym (absent_of commit.entries inside.entries within.entries k none)) p

    pub told_present : (P Q : Type 0) (a : Active W) → active_at e inside.entries k ≡ Some a → Q
        → MatchOption (active_at e commit.entries k) P (λ b. Q)
    told_present P Q a found q = subst (λ (o : Option (Active W)). MatchOption o P (λ b. Q))
        (sym (present_of commit.entries inside.entries within.entries k a found).1) q

-- the last commit of a database in memory, as its parts and as its value
module _ {K W Y : Type 0} (e : Keyed K W) (seen : W → Y) (h : HashFunction) (g : Grafting) (inside kept : KeptDatabase K W) (view : inside ≡ kept)
    (d : Database K W) (keeps : Keeps e seen h g kept d) where
  abbrev AreLast : Option (Committed K W) → Option (KeptCommit K W) → Type 0
  AreLast last copy = MatchOption last (copy ≡ None) (λ commit. IsSomeAnd copy (λ c. KeepsCommit e seen h g c commit))

  are_last : AreLast d.last inside.last
  are_last = subst (λ (k : KeptDatabase K W). AreLast d.last k.last) (sym view) keeps.last

  -- what holds of each commit that is kept as this one holds of the last one, and there is one
  module _ (c : KeptCommit K W) (there : inside.last ≡ Some c) where
    pub last_commit : (commit : Committed K W) × (d.last ≡ Some commit) × KeepsCommit e seen h g c commit
    last_commit =
        let P : Option (Committed K W) → Type 0 = λ o. AreLast o (Some c) in
        let at : P d.last = subst (AreLast d.last) there are_last in
        by_option d.last
        (λ none. absurd (some_not_none c (subst P none at)))
        (λ commit found. (commit, found, subst P found at))

    pub shown_at_last : (P : Committed K W → Type 0) → ((commit : Committed K W) → KeepsCommit e seen h g c commit → P commit)
        → IsSomeAnd d.last P
    shown_at_last P f =
        subst (λ (o : Option (Committed K W)). IsSomeAnd o P) (sym last_commit.1) (f last_commit.0 last_commit.2)

    pub told_at_last : (P : Type 0) (Q : Committed K W → Type 0)
        → ((commit : Committed K W) → KeepsCommit e seen h g c commit → Q commit) → MatchOption d.last P Q
    told_at_last P Q f =
        subst (λ (o : Option (Committed K W)). MatchOption o P Q) (sym last_commit.1) (f last_commit.0 last_commit.2)

  pub told_before : (P : Type 0) (Q : Committed K W → Type 0) → inside.last ≡ None → P → MatchOption d.last P Q
  told_before P Q none p =
      let R : Option (Committed K W) → Type 0 = λ o. AreLast o None in
      let at : R d.last = subst (AreLast d.last) none are_last in
      by_option d.last
      (λ lone. subst (λ (o : Option (Committed K W)). MatchOption o P Q) (sym lone) p)
      (λ commit found. absurd (subst R found at))
