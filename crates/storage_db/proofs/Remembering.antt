-- What is kept of the last commit, as its entries are found another way.
use Rattle.std.proofs.Common.{◌≡◌, ℕ, ◌^◌, false, true, List, [], ◌∷◌, length, Option, Some, None, is_some, option_map, nat_lt, refl, sym, ap, ap₂, ◌∙◌}
use Rattle.std.specs.List.{AllZip}
use Rattle.std.specs.declared.cmp.Ordering.{Ordering}
use Rattle.std.specs.Prelude.{MatchOption, IsSomeAnd, Result, Ok, Err, OnOk, OnErr}
use Rattle.storage_codec.specs.Digests.{HashFunction}
use Rattle.storage_current.specs.Keys.{Keyed, IsKeyed}
use Rattle.storage_current.specs.Snapshots.{Grafting}
use Rattle.storage_db.specs.declared.db.active.Active.{Active}
use Rattle.storage_db.specs.declared.db.active.ActiveKeys.{ActiveKeys}
use Rattle.storage_db.specs.declared.db.log.Log.{Log}
use Rattle.storage_db.specs.declared.db.notes.Note.{Note}
use Rattle.storage_db.specs.Databases.{Committed, Database}
use Rattle.storage_db.specs.Kept.{HeldCommit, IsCopy, KeepsCommit, Keeps, KeptCommit, KeptDatabase, forgetting, pruned_of, with_keys}
use Rattle.storage_db.specs.Notes.{AreAlike, IsAlike, taken_back}
use Rattle.storage_db.specs.Parts.{IsSince, committed_of, kept_of, kept_with}
use Rattle.storage_db.specs.Rings.{around, last_of, previous}
use Rattle.storage_db.proofs.Cases.{some_not_none}
use Rattle.storage_db.proofs.Copies.{AreCopied, around_copy, last_copy, zip_imply}

-- what is held of a commit, with these entries, if there is one
abbrev pub with_all : {K W : Type 0} → List (K × Active W) → Option (HeldCommit W) → Option (KeptCommit K W)
with_all {K} {W} entries last = option_map (λ (commit : HeldCommit W). with_keys commit entries) last

module _ {K W : Type 0} where
  -- which entries does not matter for its operations
  pub since_any : (log : Log) (es fs : List (K × Active W)) (last : Option (HeldCommit W)) → IsSince log (with_all es last)
      → IsSince log (with_all fs last)
  since_any log es fs None since = tt
  since_any log es fs (Some c) since = record {
    some = since.some;
    committed = since.committed;
    cleared = since.cleared;
  }

  -- nor for how many are forgotten
  pruned_any : (es fs : List (K × Active W)) (last : Option (HeldCommit W)) → pruned_of (with_all es last) ≡ pruned_of (with_all fs last)
  pruned_any es fs None = refl
  pruned_any es fs (Some c) = refl

  pub kept_same_with : (log : Log) (m n es fs : List (K × Active W)) (last : Option (HeldCommit W)) → n ≡ m → fs ≡ es
      → kept_of log n (with_all fs last) ≡ kept_of log m (with_all es last)
  kept_same_with log m n es fs last entries same =
      ap₂ (λ (x y : List (K × Active W)). kept_of log x (with_all y last)) entries same

  -- once the notes are forgotten, the entries of the last commit are those of now
  pub forgotten : (cmp : K → K → Ordering) (active : ActiveKeys K W) (m : List (K × Active W)) (log : Log)
      (last : Option (HeldCommit W)) → active.present.entries ≡ m → active.notes.entries ≡ []
      → kept_of log active.present.entries (kept_with cmp active last) ≡ kept_of log m (with_all m last)
  forgotten cmp active m log last entries none =
      kept_same_with log m active.present.entries m (committed_of cmp active) last entries
      (ap₂ (λ (x : List (K × Active W)) (y : List (K × Note W)). taken_back cmp x y) entries none)

  pub view_with : (es : List (K × Active W)) (inside kept : HeldCommit W) → inside ≡ kept
      → with_keys inside es ≡ with_keys kept es
  view_with es inside kept view = ap (λ (c : HeldCommit W). with_keys c es) view

module _ {K W Y : Type 0} (e : Keyed K W) (seen : W → Y) where
  pub copy_itself : (xs : List (K × Active W)) → AllZip (IsCopy e seen) xs xs
  copy_itself [] = tt
  copy_itself (x ∷ xs) = (record { key = refl; value = refl; seen_value = refl; location = refl }, copy_itself xs)

  copy_trans : (xs ys zs : List (K × Active W)) → AllZip (IsCopy e seen) xs ys → AllZip (IsCopy e seen) ys zs
      → AllZip (IsCopy e seen) xs zs
  copy_trans [] [] [] h k = tt
  copy_trans [] [] (z ∷ zs) h k = absurd k
  copy_trans [] (y ∷ ys) zs h k = absurd h
  copy_trans (x ∷ xs) [] zs h k = absurd h
  copy_trans (x ∷ xs) (y ∷ ys) [] h k = absurd k
  copy_trans (x ∷ xs) (y ∷ ys) (z ∷ zs) h k = (
    record {
      key = k.0.key ∙ h.0.key;
      value = k.0.value ∙ h.0.value;
      seen_value = k.0.seen_value ∙ h.0.seen_value;
      location = k.0.location ∙ h.0.location;
    },
    copy_trans xs ys zs h.1 k.1,
  )

  module _ (is : IsKeyed e) where
    pub alike_copy : (x y : K × Active W) → IsAlike e.cmp x y → IsCopy e seen x y
    alike_copy x y alike = record {
      key = sym (is.exact x.0 y.0 alike.key);
      value = ap (λ (a : Active W). e.value a.value) alike.same;
      seen_value = ap (λ (a : Active W). seen a.value) alike.same;
      location = ap (λ (a : Active W). a.location) alike.same;
    }

    pub alike_copies : (es xs ys : List (K × Active W)) → AllZip (IsCopy e seen) es xs → AreAlike e.cmp xs ys
        → AllZip (IsCopy e seen) es ys
    alike_copies es xs ys copies alike =
        copy_trans es xs ys copies (zip_imply (IsAlike e.cmp) (IsCopy e seen) alike_copy xs ys alike)

    -- the entry before a key, as it is found in entries that are alike
    pub previous_found : (es fs others : List (K × Active W)) → AllZip (IsCopy e seen) es fs → (k : K)
        → AreAlike e.cmp (around e.cmp fs k) others → AreCopied e seen is (previous e.cmp es k) (last_of others)
    previous_found es fs others copies k alike =
        last_copy e seen is (around e.cmp es k) others
        (alike_copies (around e.cmp es k) (around e.cmp fs k) others (around_copy e seen is es fs copies k k refl) alike)

    module _ (h : HashFunction) (g : Grafting) where
      abbrev AreLast : Option (Committed K W) → Option (KeptCommit K W) → Type 0
      AreLast o l = MatchOption o (l ≡ None) (λ commit. IsSomeAnd l (λ c. KeepsCommit e seen h g c commit))

      last_alike : (es fs : List (K × Active W)) (o : Option (Committed K W)) (l : Option (HeldCommit W))
          → (is_some l ≡ true → AreAlike e.cmp es fs) → AreLast o (with_all es l) → AreLast o (with_all fs l)
      last_alike es fs None None alike last = refl
      last_alike es fs None (Some c) alike last = absurd (some_not_none (with_keys c es) last)
      last_alike es fs (Some commit) None alike last = absurd last
      last_alike es fs (Some commit) (Some c) alike last = record {
        metadata = last.metadata;
        floor = last.floor;
        count = last.count;
        pruned = last.pruned;
        entries = alike_copies commit.entries es fs last.entries (alike refl);
        whole = last.whole;
        snapshot = last.snapshot;
        bits = last.bits;
      }

      -- a database that is kept with entries is kept with ones that are alike
      keeps_alike : (log : Log) (n es fs : List (K × Active W)) (last : Option (HeldCommit W)) (d : Database K W)
          → (is_some last ≡ true → AreAlike e.cmp es fs) → Keeps e seen h g (kept_of log n (with_all es last)) d
          → Keeps e seen h g (kept_of log n (with_all fs last)) d
      keeps_alike log n es fs last d alike keeps = record {
        operations = keeps.operations ∙ ap (λ (p : ℕ). forgetting p d.operations) (pruned_any es fs last);
        bits = keeps.bits;
        entries = keeps.entries;
        last = last_alike es fs d.last last alike keeps.last;
        prefix = keeps.prefix;
      }

      -- a command that leaves one with entries leaves one with ones that are alike
      module _ (after : Log) (n es fs : List (K × Active W)) (last : Option (HeldCommit W)) (old : KeptDatabase K W)
          (step : Database K W → Database K W) where
        abbrev IsStep : KeptDatabase K W → Type 0
        IsStep new = (d : Database K W) → Keeps e seen h g old d
            → (nat_lt (2 ^ 62) (length (step d).operations) ≡ false) × Keeps e seen h g new (step d)
            × (pruned_of new.last ≡ pruned_of old.last)

        pub step_with : (is_some last ≡ true → AreAlike e.cmp es fs) → IsStep (kept_of after n (with_all es last))
            → IsStep (kept_of after n (with_all fs last))
        step_with alike does d keeps =
            let result = does d keeps in
            (result.0, keeps_alike after n es fs last (step d) alike result.1, pruned_any fs es last ∙ result.2)

        pub ok_with : {T E : Type 0} (r : Result T E) → OnOk r (is_some last ≡ true → AreAlike e.cmp es fs)
            → OnOk r (IsStep (kept_of after n (with_all es last))) → OnOk r (IsStep (kept_of after n (with_all fs last)))
        ok_with (Ok x) alike does = step_with alike does
        ok_with (Err y) alike does = tt

        pub err_with : {T E : Type 0} (r : Result T E) → OnErr r (fs ≡ es)
            → OnErr r (kept_of after n (with_all es last) ≡ old) → OnErr r (kept_of after n (with_all fs last) ≡ old)
        err_with (Ok x) same kept = tt
        err_with (Err y) same kept = kept_same_with after n n es fs last refl same ∙ kept

-- of a commit that was made, as its parts and with its entries
pub some_with : {K W : Type 0} (P : KeptCommit K W → Type 0) (entries : List (K × Active W)) (last : Option (HeldCommit W))
    → IsSomeAnd last (λ c. P (with_keys c entries)) → IsSomeAnd (with_all entries last) P
some_with P entries None is = absurd is
some_with P entries (Some c) is = is

-- the same, of one that there may be
pub made_with : {K W X : Type 0} (P : X → KeptCommit K W → Type 0) (entries : List (K × Active W)) (last : Option X)
    (made : Option (HeldCommit W)) → MatchOption last (made ≡ None) (λ x. IsSomeAnd made (λ c. P x (with_keys c entries)))
    → MatchOption last (with_all entries made ≡ None) (λ x. IsSomeAnd (with_all entries made) (P x))
made_with P entries None made is = ap (with_all entries) is
made_with P entries (Some x) made is = some_with (P x) entries made is
