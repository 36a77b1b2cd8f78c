-- Databases in memory that commands left, and one command more.
use Rattle.std.proofs.Common.{◌≡◌, ℕ, List, [], ◌∷◌, ◌++◌, cond, refl, sym, ◌∙◌, subst}
use Rattle.std.specs.Prelude.{Result, Ok, Err, OnOk, OnErr}
use Rattle.storage_codec.specs.Digests.{HashFunction}
use Rattle.std.specs.declared.cmp.Ordering.{Ordering}
use Rattle.storage_current.specs.Keys.{Keyed, keyed_by}
use Rattle.storage_ops.specs.Operations.{OperationView}
use Rattle.storage_current.specs.Snapshots.{Grafting}
use Rattle.storage_db.specs.Databases.{Database, Command, empty, done, is_full, run, Maps, no_maps, changed, maps_after}
use Rattle.storage_db.specs.Kept.{KeptDatabase, Keeps, IsMade, IsDone}
use Rattle.storage_db.specs.Promises.{EachCallIsKept}
use Rattle.storage_db.proofs.Cases.{cond_no}

module _ {K W : Type 0} (e : Keyed K W) where
  pub run_more : (commands : List (Command K W)) (command : Command K W) (d : Database K W)
      → run e d (commands ++ command ∷ [])
      ≡ cond (is_full e (run e d commands) command) (run e d commands) (done e (run e d commands) command)
  run_more [] command d = refl
  run_more (c ∷ commands) command d = run_more commands command (cond (is_full e d c) d (done e d c))

  maps_more : (commands : List (Command K W)) (command : Command K W) (d : Database K W) (m : Maps K W)
      → maps_after e d m (commands ++ command ∷ [])
      ≡ cond (is_full e (run e d commands) command) (maps_after e d m commands)
      (changed e (maps_after e d m commands) command)
  maps_more [] command d m = refl
  maps_more (c ∷ commands) command d m = maps_more commands command (cond (is_full e d c) d (done e d c))
      (cond (is_full e d c) m (changed e m c))

-- what operations are written as, by another name
module _ {K W Y : Type 0} (key : K → List ℕ) (value : W → List ℕ) (cmp : K → K → Ordering) (seen : W → Y)
    (h : HashFunction) (g : Grafting) (text named : OperationView (List ℕ) (List ℕ) (List ℕ) → List ℕ)
    (same : text ≡ named) where
  pub made_as : (kept : KeptDatabase K W)
      → IsMade (keyed_by key value named cmp) seen h g kept → IsMade (keyed_by key value text cmp) seen h g kept
  made_as kept made = subst
      (λ (t : OperationView (List ℕ) (List ℕ) (List ℕ) → List ℕ). IsMade (keyed_by key value t cmp) seen h g kept)
      (sym same) made

  -- a step from one database to the next
  pub made_over : (old new : KeptDatabase K W)
      → (IsMade (keyed_by key value text cmp) seen h g old → IsMade (keyed_by key value text cmp) seen h g new)
      → IsMade (keyed_by key value named cmp) seen h g old → IsMade (keyed_by key value named cmp) seen h g new
  made_over old new step made = subst
      (λ (t : OperationView (List ℕ) (List ℕ) (List ℕ) → List ℕ). IsMade (keyed_by key value t cmp) seen h g new)
      same (step (made_as old made))

module _ {K W Y : Type 0} (e : Keyed K W) (seen : W → Y) (h : HashFunction) (g : Grafting) where
  pub each_call : EachCallIsKept e seen h g
  each_call old new command is_done commands keeps =
      let next = is_done (run e empty commands) keeps in (
        subst (λ (x : Database K W). Keeps e seen h g new x)
            (sym (run_more e commands command empty ∙ cond_no _ _ _ next.0)) next.1,
        maps_more e commands command empty no_maps ∙ cond_no _ _ _ next.0,
      )

  pub made_more : (old new : KeptDatabase K W) (command : Command K W) → IsDone e seen h g old new command
      → IsMade e seen h g old → IsMade e seen h g new
  made_more old new command is_done made =
      (made.0 ++ command ∷ [], (each_call old new command is_done made.0 made.1).0)

  -- a command that is done, or is refused and changes nothing
  pub made_either : (old new : KeptDatabase K W) (command : Command K W) {T E : Type 0} (r : Result T E)
      → OnOk r (IsDone e seen h g old new command) → OnErr r (new ≡ old) → IsMade e seen h g old → IsMade e seen h g new
  made_either old new command (Ok x) is_done same made = made_more old new command is_done made
  made_either old new command (Err y) is_done same made =
      subst (λ (k : KeptDatabase K W). IsMade e seen h g k) (sym same) made
