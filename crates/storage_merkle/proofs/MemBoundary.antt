-- A tree in memory has the nodes from its boundary on.
use Rattle.std.proofs.Common.{◌≡◌, ℕ, ◌+◌, ◌-◌, ◌<◌, ◌≤◌, List, [], length, map, get_or, Some, option_map, if◌then◌else◌, le-leb, sym, ap, ◌∙◌, arith}
use Rattle.std.specs.List.{slice_get}
use Rattle.std.proofs.lemmas.Option.{slice_get-get_or, slice_get-map}
use Rattle.std.proofs.lemmas.List.{length-map}
use Rattle.storage_merkle.specs.Shape.{Shape, size}
use Rattle.storage_merkle.specs.Nodes.{IsNode}
use Rattle.storage_merkle.specs.Kept.{Kept, HoldsDigests, kept_at, paired, pins}
use Rattle.storage_merkle.proofs.MemNodes.{clean_none}

pub retained : {D : Type 0} (text : D → List ℕ) (S : Shape) (node : ℕ → ℕ → List ℕ) (list : List (List ℕ)) (m : Kept D)
    → length m.nodes + size S m.boundary ≡ size S m.leaves → m.leaves ≡ length list
    → HoldsDigests S node [] m.boundary (size S m.leaves) (map text m.pinned) (map text m.nodes)
    → (p a k : ℕ) → IsNode S p a k → size S m.boundary ≤ p → p < size S (length list)
    → option_map text (kept_at S m.boundary m.pinned m.nodes p) ≡ Some (node k a)
retained text S node list m count leaves holds p a k n from within =
    let low : size S m.boundary ≤ S.position a k = omega (arith, n.at) in
    let sizes : size S m.leaves ≡ size S (length list) = ap (size S) leaves in
    let high : S.position a k < size S m.leaves = omega (arith, n.at) in
    let here : p - size S m.boundary ≡ S.position a k - size S m.boundary =
    ap (λ q. q - size S m.boundary) (sym n.at) in
    let room : p - size S m.boundary < length (map text m.nodes) = rw length-map (omega (arith, count)) in
    ap (λ b. option_map text (if b then slice_get m.nodes (p - size S m.boundary)
    else paired p (pins S m.boundary) m.pinned)) (le-leb _ _ from)
    ∙ sym (slice_get-map text m.nodes (p - size S m.boundary))
    ∙ slice_get-get_or (map text m.nodes) (p - size S m.boundary) [] room
    ∙ ap Some (ap (λ i. get_or (map text m.nodes) i []) here ∙ holds.from a k n.aligned low high (clean_none a k))
