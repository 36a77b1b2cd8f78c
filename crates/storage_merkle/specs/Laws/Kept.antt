-- Nodes read their own leaves alone; and room for leaves, once some of them are appended.
use Rattle.std.proofs.Common.{◌≡◌, ℕ, zero, suc, ◌+◌, ◌^◌, ◌<◌, ◌≤◌, List, [], ◌∷◌, length, get_or, refl, ap, ap₂, arith}
use Rattle.std.proofs.lemmas.Nat.{pow_pos}
use Rattle.storage_codec.specs.Digests.{HashFunction}
use Rattle.storage_merkle.specs.Shape.{Shape, Laws, leaves_under, size}
use Rattle.storage_merkle.specs.Trees.{Layout}
use Rattle.storage_merkle.specs.Hashing.{join_digest, node_over}
use Rattle.storage_merkle.specs.Laws.Multiples.{pow_two}
use Rattle.storage_merkle.specs.Laws.Shape.{grows_at_most}
use Rattle.storage_merkle.specs.Kept.{HasRoomFor, Kept, at_peaks}

module _ (h : HashFunction) (T : Layout) (chunk : ℕ → List ℕ) where
  pub node_same : (xs ys : List (List ℕ)) (k a : ℕ) → ((j : ℕ) → a ≤ j → j < a + 2 ^ k
      → get_or xs j [] ≡ get_or ys j []) → node_over h T chunk xs k a ≡ node_over h T chunk ys k a
  node_same xs ys zero a same = same a (omega arith) (omega (arith, pow_pos 0))
  node_same xs ys (suc k) a same =
      ap₂ (join_digest h T chunk a (suc k))
      (node_same xs ys k a (λ j u w. same j u (omega (arith, pow_two k))))
      (node_same xs ys k (a + 2 ^ k) (λ j u w. same j (omega arith) (omega (arith, pow_two k))))

  pub peaks_same : (xs ys : List (List ℕ)) (hs : List ℕ) (s : ℕ)
      → ((j : ℕ) → s ≤ j → j < s + leaves_under hs → get_or xs j [] ≡ get_or ys j [])
      → at_peaks (node_over h T chunk xs) s hs ≡ at_peaks (node_over h T chunk ys) s hs
  unfolding leaves_under
  peaks_same xs ys [] s same = refl
  peaks_same xs ys (k ∷ hs) s same =
      ap₂ (λ x y. x ∷ y)
      (node_same xs ys k s (λ j u w. same j u (omega arith)))
      (peaks_same xs ys hs (s + 2 ^ k) (λ j u w. same j (omega arith) (omega arith)))

pub length_at_peaks : (node : ℕ → ℕ → List ℕ) (hs : List ℕ) (s : ℕ) → length (at_peaks node s hs) ≡ length hs
length_at_peaks node [] s = refl
length_at_peaks node (k ∷ hs) s = ap suc (length_at_peaks node hs (s + 2 ^ k))

-- room for some leaves is room for fewer
pub room_for_fewer : {D : Type 0} (S : Shape) → Laws S → (m : Kept D) (fewer count : ℕ) → fewer ≤ count
    → HasRoomFor S count m → HasRoomFor S fewer m
room_for_fewer S L m fewer count less room =
    let up : size S (m.leaves + fewer) ≤ size S (m.leaves + count) =
    grows_at_most (size S) L.grows _ _ (let l : m.leaves + fewer ≤ m.leaves + count = omega (arith, less) in l) in
    omega (arith, up, room)

-- after one of some leaves is appended there is room for the others
pub room_after_one : {D : Type 0} (S : Shape) (m n : Kept D) (count : ℕ) → HasRoomFor S (count + 1) m
    → n.leaves ≡ m.leaves + 1 → n.boundary ≡ m.boundary → m.room ≤ n.room → HasRoomFor S count n
room_after_one S m n count room leaves boundary more =
    let end : size S (n.leaves + count) ≡ size S (m.leaves + (count + 1)) =
    ap (size S) (let e : n.leaves + count ≡ m.leaves + (count + 1) = omega (arith, leaves) in e) in
    omega (arith, room, end, more, ap (size S) boundary)
