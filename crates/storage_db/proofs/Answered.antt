-- What a client takes from a proof that it said yes to is what the map has.
use Rattle.std.proofs.Common.{◌≡◌, ℕ, List, Option, Some, None, option_map, inl, inr, refl, ap, ◌∙◌}
use Rattle.std.specs.Prelude.{MatchOption}
use Rattle.storage_codec.specs.Digests.{HashFunction}
use Rattle.storage_current.specs.Keys.{Keyed, IsValue, IsAbsent, IsKeyed}
use Rattle.storage_current.specs.Snapshots.{Grafting, Snapshot}
use Rattle.storage_db.specs.Databases.{Committed, Command, empty, run, no_maps, maps_after}
use Rattle.storage_db.specs.Promises.{IsSnapshotOf, AreTrueOf}
use Rattle.storage_db.proofs.Cases.{by_option}
use Rattle.storage_db.proofs.Said.{AreSaid}
use Rattle.storage_db.proofs.Lists.{Committed_is, each_list}

module _ {K W : Type 0} (e : Keyed K W) where
  module _ (s : Snapshot) (map : K → Option W) (of : IsSnapshotOf e s map) where
    -- a value that the snapshot has is the map's
    value_of : (key : K) (value : W) → IsValue e s key value → option_map e.value (map key) ≡ Some (e.value value)
    value_of key value is =
        by_option (map key)
        (λ none. absurd (of.absent key none is.updated.0 value is.updated.1 is.updated.2))
        (λ held at.
        let found = (of.values key held at).updated in
        ap (option_map e.value) at ∙ ap (λ (text : List ℕ). Some text) (is.only found.0 held found.1 found.2))

    -- and a key that it does not have has none
    none_of : (key : K) → IsAbsent e s key → map key ≡ None
    none_of key is =
        by_option (map key)
        (λ none. none)
        (λ held at.
        let found = (of.values key held at).updated in
        absurd (is found.0 held found.1 found.2))

    are_true : (h : HashFunction) (g : Grafting) → AreTrueOf e h g s map
    are_true h g = record {
      values = λ key value next proof means. elim (means s of.snapshot refl) [
        | inl honest ↦ inl (value_of key value (honest.2 of.well_formed))
        | inr cross ↦ inr cross
      ];
      absences = λ key x means. elim (means s of.snapshot refl) [
        | inl honest ↦ inl (none_of key (honest.2 of.well_formed))
        | inr cross ↦ inr cross
      ];
    }

  last_true : (keyed : IsKeyed e) (said : AreSaid e) (h : HashFunction) (g : Grafting) (map : K → Option W) (last : Option (Committed K W))
      → MatchOption last ((key : K) → map key ≡ None) (Committed_is e keyed said map)
      → MatchOption last (Unit {0}) (λ (c : Committed K W). AreTrueOf e h g c.snapshot map)
  last_true keyed said h g map None kept = tt
  last_true keyed said h g map (Some last) kept = are_true last.snapshot map kept.0 h g

  pub each_true : IsKeyed e → AreSaid e → (h : HashFunction) (g : Grafting) (commands : List (Command K W))
      → MatchOption (run e empty commands).last (Unit {0})
      (λ (c : Committed K W). AreTrueOf e h g c.snapshot (maps_after e empty no_maps commands).committed)
  each_true keyed said h g commands =
      last_true keyed said h g (maps_after e empty no_maps commands).committed (run e empty commands).last
      (each_list e keyed said commands).committed
