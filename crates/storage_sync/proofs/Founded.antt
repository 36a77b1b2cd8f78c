-- A copy with a floor, as its parts are held.
use Rattle.std.proofs.Common.{◌≡◌, ℕ, Bool, true, false, not, List, length, map, refl, sym, subst}
use Rattle.std.specs.Global.{Vec}
use Rattle.std.proofs.lemmas.Bool.{false≢true}
use Rattle.std.proofs.lemmas.List.{length-map}
use Rattle.storage_bitmap.specs.Chunks.{Retained}
use Rattle.storage_current.specs.Snapshots.{Snapshot}
use Rattle.storage_sync.specs.Founded.{AreCounted}
use Rattle.storage_sync.specs.Pages.{with_floor}

-- what holds of a snapshot holds of that of equal parts
pub snapshot_of_equal : (P : Snapshot → Type 0) (vs ws : List (Vec ℕ)) (r t : Retained) (a b : ℕ) → vs ≡ ws → r ≡ t → a ≡ b
    → P (with_floor (map (λ v. v.items) vs) r.bits a) → P (with_floor (map (λ v. v.items) ws) t.bits b)
snapshot_of_equal P vs ws r t a b operations status floor holds =
    subst (λ (x : List (Vec ℕ)). P (with_floor (map (λ v. v.items) x) t.bits b)) operations
    (subst (λ (x : Retained). P (with_floor (map (λ v. v.items) vs) x.bits b)) status
    (subst (λ (x : ℕ). P (with_floor (map (λ v. v.items) vs) r.bits x)) floor holds))

pub counted_items : (n : ℕ) (vs : List (Vec ℕ)) (r : Retained) → AreCounted n (length vs) r
    → AreCounted n (length (map (λ v. v.items) vs)) r
counted_items n vs r counted =
    subst (λ (k : ℕ). AreCounted n k r) (sym (length-map vs (λ v. v.items))) counted

-- what `!=` answers of two digests
pub equal : (b : Bool) → false ≡ not b → b ≡ true
equal true e = refl
equal false e = absurd (false≢true e)

pub unequal : (b : Bool) → true ≡ not b → b ≡ false
unequal true e = absurd (false≢true (sym e))
unequal false e = refl
