-- The floor of a commit that is done again is found by the bits.
use Rattle.std.proofs.Common.{◌≡◌, ℕ, ◌-◌, ◌<◌, ◌≤◌, List, length, Option, None, Some, refl, sym, ap, ◌∙◌, subst}
use Rattle.std.specs.Prelude.{MatchOption}
use Rattle.storage_current.specs.Keys.{Keyed, IsKeyed}
use Rattle.storage_db.specs.declared.db.active.Active.{Active}
use Rattle.storage_db.specs.declared.db.log.Log.{Log}
use Rattle.storage_db.specs.Databases.{Command, Committed, Database, empty, least_location, run}
use Rattle.storage_db.specs.Floors.{AreMarked, IsFirstMarked}
use Rattle.storage_db.specs.Replays.{IsReplayOf, floor_kept}
use Rattle.storage_db.proofs.Floors.{floor_found, last_floor, made_floored, marked_of}
use Rattle.storage_db.proofs.OpeningReplays.{IsPlace}
use Rattle.storage_db.proofs.Placing.{commit_place}
use Rattle.storage_db.proofs.Said.{AreSaid}

module _ {K W : Type 0} (e : Keyed K W) (is : IsKeyed e) where
  last_place : (committed : ℕ) (last : Option (Option W × ℕ)) (before : Option ℕ) → IsPlace committed before
      → (o : Option (Committed K W)) → MatchOption o ((committed ≡ 0) × (last ≡ None)) (λ c. (0 < committed)
      × (length c.snapshot.operations ≡ committed) × (last ≡ Some (c.metadata, c.snapshot.floor)))
      → (before ≡ commit_place o) × (floor_kept last ≡ last_floor e is o)
  last_place committed last before place None kept = (place.none kept.0, ap (λ (l : Option (Option W × ℕ)). floor_kept l) kept.1)
  last_place committed last before place (Some c) kept = (
    place.some kept.0 ∙ ap (λ (n : ℕ). Some (n - 1)) (sym kept.1),
    ap (λ (l : Option (Option W × ℕ)). floor_kept l) kept.2,
  )

  pub floor_again : (said : AreSaid e) (log : Log) (es : List (K × Active W)) (last : Option (Option W × ℕ))
      (commands : List (Command K W)) → IsReplayOf log es last (run e empty commands)
      → (before : Option ℕ) → IsPlace log.committed before → (from : ℕ) → from ≡ floor_kept last → (found : ℕ)
      → (from ≤ length log.bits.items → IsFirstMarked log.bits.items before from found)
      → found ≡ least_location es (length log.operations.items)
  floor_again said log es last commands replay before place from from_is found finds =
      let d : Database K W = run e empty commands in
      let made = made_floored e is said commands in
      let marked = subst (λ (x : Database K W). AreMarked e.cmp x.bits (commit_place d.last) (last_floor e is d.last) x.entries)
      (sym replay.is) (marked_of e is d made.0.placed made.1) in
      let at = last_place log.committed last before place d.last replay.last_is in
      floor_found is.total log log es (commit_place d.last) (last_floor e is d.last) marked refl
      before at.0 from (from_is ∙ at.1) found finds
