-- The root of a database's last commit, as it is asked for.
use Rattle.std.proofs.Common.{◌≡◌, ◌↔◌, ◌∙◌, Bool, true, false, IsTrue, ℕ, List, Option, Some, None, sym}
use Rattle.std.specs.Prelude.{option_map, IsSomeAnd}
use Rattle.std.proofs.lemmas.Bool.{false≢true}
use Rattle.storage_codec.specs.Digests.{HashFunction}
use Rattle.storage_current.specs.Snapshots.{Grafting, canonical_root}
use Rattle.storage_db.specs.Databases.{Committed, Database}
use Rattle.storage_db.specs.Trusted.{HasRoot}

module _ {K W : Type 0} (h : HashFunction) (g : Grafting) where
  abbrev root_at : Committed K W → List ℕ
  root_at commit = canonical_root h g commit.snapshot

  at_last : (last : Option (Committed K W)) (found root : List ℕ) → Some found ≡ option_map root_at last
      → (found ≡ root) ↔ IsSomeAnd last (λ commit. root_at commit ≡ root)
  at_last None found root is = absurd (cc)
  at_last (Some commit) found root is =
      let same : found ≡ root_at commit = cc in
      (λ e. sym same ∙ e, λ e. same ∙ e)

  pub none_at : (last : Option (Committed K W)) (root : List ℕ) → None ≡ option_map root_at last
      → IsSomeAnd last (λ commit. root_at commit ≡ root) → ⊥
  none_at None root is has = has
  none_at (Some commit) root is has = absurd (cc)

  pub root_found : {D : Type 0} (text : D → List ℕ) (d : Database K W) (found root : D)
      → Some (text found) ≡ option_map root_at d.last → (answer equal : Bool) → answer ≡ equal
      → (equal ≡ true) ↔ (text found ≡ text root) → IsTrue answer ↔ HasRoot h g d (text root)
  root_found text d found root is answer equal e same =
      let at = at_last d.last (text found) (text root) is in
      (λ true_is. at.0 (same.0 (sym e ∙ true_is)), λ has. e ∙ same.1 (at.1 has))

  pub root_missing : (d : Database K W) (root : List ℕ) → None ≡ option_map root_at d.last → IsTrue false ↔ HasRoot h g d root
  root_missing d root is = (λ e. absurd (false≢true e), λ has. absurd (none_at d.last root is has))
