-- No more pages are taken than operations were left.
use Rattle.std.proofs.Common.{◌≡◌, ℕ, ◌+◌, ◌<◌, ◌≤◌, Bool, List, [], ◌∷◌, ◌++◌, length, Some, sym, ap, ◌∙◌, arith, length-append}
use Rattle.storage_codec.specs.Digests.{HashFunction}
use Rattle.storage_current.specs.Snapshots.{Grafting}
use Rattle.storage_sync.specs.Syncs.{Taken, IsTaken, leaves_with, place}
use Rattle.storage_sync.specs.Runs.{IsRun}
use Rattle.storage_sync.proofs.Kept.{some_is}

module _ (h : HashFunction) (g : Grafting) (there : Bool) (d : ℕ) where
  -- a page adds operations, of those that are left
  one_more : (old new : Taken) (bytes : List ℕ) → IsTaken h g there d old new bytes → place old < place new
  one_more old new bytes taken =
      let some = taken.asked.some in
      let all : place new ≡ old.begin + length (old.operations ++ taken.page.operations) = ap place taken.new_is in
      omega (arith, length-append old.operations taken.page.operations)

  within : (old new : Taken) (bytes : List ℕ) (leaves : ℕ) → IsTaken h g there d old new bytes → new.leaves ≡ Some leaves
      → place new ≤ leaves
  within old new bytes leaves taken known =
      let inside = taken.asked.within in
      let same : leaves_with old taken.page ≡ leaves =
      some_is (leaves_with old taken.page) leaves (sym (ap (λ (t : Taken). t.leaves) taken.new_is) ∙ known) in
      let all : place new ≡ old.begin + length (old.operations ++ taken.page.operations) = ap place taken.new_is in
      omega (arith, length-append old.operations taken.page.operations)

  pub ends : (bytes : List ℕ) (more : List (List ℕ)) (old new : Taken) → IsRun h g there d (bytes ∷ more) old new → (leaves : ℕ)
      → new.leaves ≡ Some leaves → place old + length (bytes ∷ more) ≤ leaves
  ends bytes [] old new (between, taken, same) leaves known =
      let further = one_more old between bytes taken in
      let inside = within old between bytes leaves taken (sym (ap (λ (t : Taken). t.leaves) same) ∙ known) in
      omega arith
  ends bytes (next ∷ more) old new (between, taken, run) leaves known =
      let further = one_more old between bytes taken in
      let rest = ends next more between new run leaves known in
      omega arith
