-- What a database in memory tells of its last commit: a value, found in copies of the keys that were active, and the root.
use Rattle.std.proofs.Common.{◌≡◌, ℕ, List, Option, Some, None, option_map, refl, sym, ap, ◌∙◌, subst}
use Rattle.std.specs.Prelude.{MatchOption, IsSomeAnd, option_and_then}
use Rattle.std.specs.List.{AllZip}
use Rattle.storage_codec.specs.Digests.{HashFunction}
use Rattle.storage_current.specs.Keys.{Keyed, IsKeyed}
use Rattle.storage_current.specs.KeptSnapshots.{KeptSnapshot, StandsForSnapshot}
use Rattle.storage_current.specs.Snapshots.{Grafting, Snapshot, canonical_root}
use Rattle.storage_db.specs.declared.db.active.Active.{Active}
use Rattle.storage_db.specs.Databases.{Committed, Database, active_at, value_at}
use Rattle.storage_db.specs.Kept.{KeptDatabase, KeptCommit, IsCopy, Keeps, KeepsCommit}
use Rattle.storage_db.proofs.Cases.{some_not_none}
use Rattle.storage_db.proofs.Copies.{lookup_by}

map_twice : {A B C : Type 0} (f : A → B) (g : B → C) (o : Option A)
    → option_map (λ (x : A). g (f x)) o ≡ option_map g (option_map f o)
map_twice f g None = refl
map_twice f g (Some x) = refl

module _ {K W Y : Type 0} (e : Keyed K W) (seen : W → Y) (is : IsKeyed e) where
  -- what is the same of each value and its copy: what it is written as, and what is seen of it
  abbrev pub IsSame : {Z : Type 0} → (W → Z) → Type 0
  IsSame f = (c d : K × Active W) → IsCopy e seen c d → f d.1.value ≡ f c.1.value

  pub value_copied : {Z : Type 0} (f : W → Z) → IsSame f → (es fs : List (K × Active W)) → AllZip (IsCopy e seen) es fs
      → (key : K) → option_map f (value_at e fs key) ≡ option_map f (value_at e es key)
  value_copied f same es fs copies key =
      let whole : (o : Option (Active W)) → option_map (λ (a : Active W). f a.value) o
      ≡ option_map f (option_map (λ (a : Active W). a.value) o) = λ o. map_twice (λ (a : Active W). a.value) f o in
      sym (whole (active_at e fs key)) ∙ lookup_by e seen is (λ (a : Active W). f a.value) same es fs copies key
      ∙ whole (active_at e es key)

  -- the value of an active key of a commit
  pub value_found : {Z : Type 0} (f : W → Z) → IsSame f → (es fs : List (K × Active W)) → AllZip (IsCopy e seen) es fs
      → (key : K) (a : Active W) → active_at e fs key ≡ Some a → (value : W) → f value ≡ f a.value
      → option_map f (value_at e es key) ≡ Some (f value)
  value_found f same es fs copies key a found value is_value =
      sym (value_copied f same es fs copies key)
      ∙ ap (λ (o : Option (Active W)). option_map f (option_map (λ (b : Active W). b.value) o)) found ∙ ap Some (sym is_value)

  module _ (h : HashFunction) (g : Grafting) {Z : Type 0} (f : W → Z) (same : IsSame f) where
    abbrev AreLast : Option (Committed K W) → Option (KeptCommit K W) → Type 0
    AreLast last copy = MatchOption last (copy ≡ None) (λ commit. IsSomeAnd copy (λ c. KeepsCommit e seen h g c commit))

    value_committed : (o : Option (Committed K W)) (l : Option (KeptCommit K W)) → AreLast o l → (key : K)
        → option_map f (option_and_then (λ (c : KeptCommit K W). value_at e c.entries key) l)
        ≡ option_map f (option_and_then (λ (commit : Committed K W). value_at e commit.entries key) o)
    value_committed None l last key =
        ap (λ (x : Option (KeptCommit K W)). option_map f
        (option_and_then (λ (c : KeptCommit K W). value_at e c.entries key) x)) last
    value_committed (Some commit) None last key = absurd last
    value_committed (Some commit) (Some c) last key = value_copied f same commit.entries c.entries last.entries key

    -- of a database in memory, as its parts and as its value
    module _ (inside kept : KeptDatabase K W) (view : inside ≡ kept) (d : Database K W) (keeps : Keeps e seen h g kept d)
        (key : K) where
      abbrev committed_value : Option Z
      committed_value = option_map f
          (option_and_then (λ (commit : Committed K W). value_at e commit.entries key) d.last)

      told_of_last : option_map f (option_and_then (λ (c : KeptCommit K W). value_at e c.entries key) inside.last)
          ≡ committed_value
      told_of_last = value_committed d.last inside.last
          (subst (λ (k : KeptDatabase K W). AreLast d.last k.last) (sym view) keeps.last) key

      pub told_at_last : (c : KeptCommit K W) → inside.last ≡ Some c → {A : Type 0} (at : A → W) (o : Option A)
          → option_map at o ≡ value_at e c.entries key → option_map (λ (x : A). f (at x)) o ≡ committed_value
      told_at_last c there at o value =
          map_twice at f o ∙ ap (option_map f) value
          ∙ ap (λ (l : Option (KeptCommit K W)). option_map f
          (option_and_then (λ (k : KeptCommit K W). value_at e k.entries key) l)) (sym there)
          ∙ told_of_last

      pub told_before : inside.last ≡ None → None ≡ committed_value
      told_before none =
          ap (λ (l : Option (KeptCommit K W)). option_map f
          (option_and_then (λ (k : KeptCommit K W). value_at e k.entries key) l)) (sym none)
          ∙ told_of_last

-- what the last commit in memory has as the definition's one has it
module _ {K W Y : Type 0} (e : Keyed K W) (seen : W → Y) (h : HashFunction) (g : Grafting) where
  both : (P : Option (Committed K W) → Option (KeptCommit K W) → Type 0) → P None None
      → ((commit : Committed K W) (c : KeptCommit K W) → KeepsCommit e seen h g c commit → P (Some commit) (Some c))
      → (o : Option (Committed K W)) (l : Option (KeptCommit K W))
      → MatchOption o (l ≡ None) (λ commit. IsSomeAnd l (λ c. KeepsCommit e seen h g c commit)) → P o l
  both P none some None l last = subst (λ (x : Option (KeptCommit K W)). P None x) (sym last) none
  both P none some (Some commit) None last = absurd last
  both P none some (Some commit) (Some c) last = some commit c last

  module _ (inside kept : KeptDatabase K W) (view : inside ≡ kept) (d : Database K W) (keeps : Keeps e seen h g kept d) where
    last_of : (P : Option (Committed K W) → Option (KeptCommit K W) → Type 0) → P None None
        → ((commit : Committed K W) (c : KeptCommit K W) → KeepsCommit e seen h g c commit → P (Some commit) (Some c))
        → P d.last inside.last
    last_of P none some = subst (λ (k : KeptDatabase K W). P d.last k.last) (sym view) (both P none some d.last kept.last keeps.last)

    pub floor_told : option_map (λ (c : KeptCommit K W). c.floor) inside.last
        ≡ option_map (λ (commit : Committed K W). commit.snapshot.floor) d.last
    floor_told = last_of (λ o l. option_map (λ (c : KeptCommit K W). c.floor) l
        ≡ option_map (λ (commit : Committed K W). commit.snapshot.floor) o) refl (λ commit c keeps. ap Some keeps.floor)

    pub metadata_told : option_and_then (λ (c : KeptCommit K W). c.metadata) inside.last
        ≡ option_and_then (λ (commit : Committed K W). commit.metadata) d.last
    metadata_told = last_of (λ o l. option_and_then (λ (c : KeptCommit K W). c.metadata) l
        ≡ option_and_then (λ (commit : Committed K W). commit.metadata) o) refl (λ commit c keeps. keeps.metadata)

-- of the snapshot of the last commit, where there is one, the root
module _ {K W S : Type 0} (h : HashFunction) (g : Grafting) (kept : S → KeptSnapshot) (told : Option S) where
  abbrev AreTold : Option (Committed K W) → Option S → Type 0
  AreTold last shown = MatchOption last (shown ≡ None)
      (λ commit. IsSomeAnd shown (λ s. StandsForSnapshot h g (kept s) commit.snapshot))

  abbrev root_of : Option (Committed K W) → Option (List ℕ)
  root_of last = option_map (λ (commit : Committed K W). canonical_root h g commit.snapshot) last

  pub root_at_last : (last : Option (Committed K W)) → AreTold last told → (s : S) → told ≡ Some s → (root : List ℕ)
      → ((x : Snapshot) → StandsForSnapshot h g (kept s) x → root ≡ canonical_root h g x) → Some root ≡ root_of last
  root_at_last None none s there root stands = absurd (some_not_none s (sym there ∙ none))
  root_at_last (Some commit) held s there root stands =
      ap Some (stands commit.snapshot (subst (AreTold (Some commit)) there held))

  pub root_before : (last : Option (Committed K W)) → AreTold last told → told ≡ None → None ≡ root_of last
  root_before None held none = refl
  root_before (Some commit) held none = absurd (subst (AreTold (Some commit)) none held)
