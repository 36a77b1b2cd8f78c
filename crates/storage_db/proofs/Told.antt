-- What a database in memory tells of its keys, and a deletion of one that has no value.
use Rattle.std.proofs.Common.{◌≡◌, ℕ, ◌≤◌, ◌^◌, true, false, List, length, Option, is_some, nat_lt, refl, sym, ap, ◌∙◌, subst, arith}
use Rattle.std.proofs.lemmas.Bool.{le-ltb}
use Rattle.storage_codec.specs.Digests.{HashFunction}
use Rattle.storage_current.specs.Keys.{Keyed}
use Rattle.storage_current.specs.Snapshots.{Grafting}
use Rattle.storage_db.specs.declared.db.active.Active.{Active}
use Rattle.storage_db.specs.declared.db.log.Log.{Log}
use Rattle.storage_db.specs.Rings.{next_key, previous}
use Rattle.storage_db.specs.Databases.{Database, active_at, relinked, removed, delete}
use Rattle.storage_db.specs.Kept.{KeptDatabase, KeptCommit, Keeps, pruned_of}
use Rattle.storage_db.specs.Parts.{kept_of}
use Rattle.storage_db.proofs.Cases.{cond_no}
use Rattle.storage_db.proofs.Changing.{count_of_texts}
use Rattle.storage_db.proofs.Forgetting.{counted}

-- there are no more operations than a tree may have
pub no_more : (log : Log) → length log.operations.items ≤ 2 ^ 62
no_more log = omega arith

module _ {K W Y : Type 0} (e : Keyed K W) (seen : W → Y) where
  -- whether a key has a value
  pub held_now : (h : HashFunction) (g : Grafting) (old : KeptDatabase K W) (d : Database K W) → Keeps e seen h g old d → (key : K)
      → is_some (active_at e old.entries key) ≡ is_some (active_at e d.entries key)
  held_now h g old d keeps key = ap (λ (entries : List (K × Active W)). is_some (active_at e entries key)) keeps.entries

  -- one that has a value in memory has it
  pub still_held : (h : HashFunction) (g : Grafting) (inside old : KeptDatabase K W) → inside ≡ old → (key : K)
      → is_some (active_at e inside.entries key) ≡ true → (d : Database K W) → Keeps e seen h g old d
      → is_some (active_at e d.entries key) ≡ true
  still_held h g inside old is key held d keeps =
      sym (held_now h g old d keeps key)
      ∙ ap (λ (k : KeptDatabase K W). is_some (active_at e k.entries key)) (sym is) ∙ held

  -- a deletion of a key that has none changes nothing
  pub nothing_deleted : (h : HashFunction) (g : Grafting) (log : Log) (m : List (K × Active W)) (last : Option (KeptCommit K W))
      (old : KeptDatabase K W) → kept_of log m last ≡ old → (key : K)
      → is_some (active_at e m key) ≡ false → (d : Database K W) → Keeps e seen h g old d
      → (nat_lt (2 ^ 62) (length (delete e d key).operations) ≡ false) × Keeps e seen h g old (delete e d key)
      × (pruned_of old.last ≡ pruned_of old.last)
  nothing_deleted h g log m last old is key absent d keeps =
      let entries : m ≡ d.entries = ap (λ (k : KeptDatabase K W). k.entries) is ∙ keeps.entries in
      let operations : length log.operations.items ≡ length d.operations
      = count_of_texts log ∙ ap (λ (k : KeptDatabase K W). length k.operations) is ∙ counted e seen h g old d keeps in
      let none : is_some (active_at e d.entries key) ≡ false
      = ap (λ (es : List (K × Active W)). is_some (active_at e es key)) (sym entries) ∙ absent in
      let same : delete e d key ≡ d
      = cond_no _ (relinked e (removed e d key) (previous e.cmp d.entries key) (next_key e.cmp d.entries key)) d none in
      let P : Database K W → Type 0 = λ x. (nat_lt (2 ^ 62) (length x.operations) ≡ false) × Keeps e seen h g old x
      × (pruned_of old.last ≡ pruned_of old.last) in
      subst P (sym same) (le-ltb _ _ (subst (λ (n : ℕ). n ≤ 2 ^ 62) operations (no_more log)), keeps, refl)
