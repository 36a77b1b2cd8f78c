-- Inactive peaks and heights of chunks, one step each.
use Rattle.std.proofs.Common.{◌≡◌, ℕ, zero, suc, ◌*◌, ◌<◌, ◌≤◌, ◌^◌, List, [], ◌∷◌, length, take, Bool, true, false, if◌then◌else◌, refl, ap, sym, ◌∙◌, arith, pow_pos}
use Rattle.storage_bitmap.specs.Chunks.{IsChunkSize}
use Rattle.storage_merkle.specs.Laws.Digits.{floor_log2_bounds}
use Rattle.storage_merkle.specs.Digits.{floor_log2}
use Rattle.storage_merkle.specs.Mmr.{mmr}
use Rattle.storage_merkle.specs.Shape.{Shape, leaves_under}
use Rattle.storage_current.specs.Laws.Grafting.{chunk_height, height_is}
use Rattle.storage_current.specs.Snapshots.{greatest, height}

-- the greatest number up to none, up to one that meets the test, and up to one that does not
pub greatest_none : (P : ℕ → Bool) (b : ℕ) → b ≡ 0 → 0 ≡ greatest P b
unfolding greatest
greatest_none P b e = rw e refl

pub greatest_here : (P : ℕ → Bool) (j b : ℕ) → b ≡ suc j → P b ≡ true → b ≡ greatest P b
unfolding greatest
greatest_here P j b e t =
    let at : P (suc j) ≡ true = ap P (sym e) ∙ t in
    rw e (ap (λ (x : Bool). if x then suc j else greatest P j) (sym at))

pub greatest_lower : (P : ℕ → Bool) (j b r : ℕ) → b ≡ suc j → P b ≡ false → r ≡ greatest P j → r ≡ greatest P b
unfolding greatest
greatest_lower P j b r e f h =
    let at : P (suc j) ≡ false = ap P (sym e) ∙ f in
    rw e (h ∙ ap (λ (x : Bool). if x then suc j else greatest P j) (sym at))

-- leaves of leading peaks
pub leaves_take : (b : ℕ) (hs : List ℕ) → leaves_under (take b hs) ≤ leaves_under hs
unfolding leaves_under
leaves_take zero hs = omega arith
leaves_take (suc b) [] = omega arith
leaves_take (suc b) (h ∷ hs) = omega (arith, leaves_take b hs)

pub leaves_none : (hs : List ℕ) → length hs ≡ 0 → 0 ≡ leaves_under hs
unfolding leaves_under
leaves_none [] e = refl
leaves_none (h ∷ hs) e = absurd (omega arith)

-- the height of a chunk
pub eight_some : (n : ℕ) → IsChunkSize n → 0 < 8 * n
eight_some n size =
    let h = chunk_height (record { shape = mmr; bytes = n }) size in
    omega (arith, h.bits, pow_pos (height (record { shape = mmr; bytes = n })))

pub height_from : (n r : ℕ) → IsChunkSize n → r ≡ floor_log2 (8 * n) → (S : Shape)
    → r ≡ height (record { shape = S; bytes = n })
height_from n r size e S =
    let b = floor_log2_bounds (8 * n) (eight_some n size) in
    height_is (record { shape = S; bytes = n }) r (rw e b.0) (rw e b.1)

pub height_bits : (n r : ℕ) → IsChunkSize n → r ≡ height (record { shape = mmr; bytes = n })
    → (2 ^ r ≡ 8 * n) × (r ≤ 62)
height_bits n r size e =
    let h = chunk_height (record { shape = mmr; bytes = n }) size in
    (ap (λ (k : ℕ). 2 ^ k) e ∙ h.bits, rw e h.small)
