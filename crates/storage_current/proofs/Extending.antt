-- What stands of a snapshot that is extended.
use Rattle.std.proofs.Common.{◌≡◌, ◌≢◌, ℕ, zero, suc, ◌+◌, ◌-◌, ◌*◌, ◌/◌, ◌%◌, ◌^◌, ◌<◌, ◌≤◌, List, [], ◌∷◌, ◌++◌, length, map, drop, set, get_or, Contains, Bool, false, refl, sym, ap, ap₂, ◌∙◌, arith, inl, inr, get_or-drop, get_or-set_other, length-set, pow_pos}
use Rattle.std.proofs.lemmas.List.{get_or_append_left, length-append}
use Rattle.std.proofs.lemmas.List.Elements.{Contains-append_right}
use Rattle.std.proofs.lemmas.Bool.{cases_lt}
use Rattle.std.proofs.lemmas.Nat.{shl-shr, div-mul-add, mul-le}
use Rattle.storage_codec.specs.Digests.{HashFunction}
use Rattle.storage_merkle.specs.Shape.{Shape, Laws, size}
use Rattle.storage_merkle.specs.Calc.{be8, grafted_digest}
use Rattle.storage_merkle.specs.Laws.Multiples.{pow_two}
use Rattle.storage_merkle.specs.Trees.{ungrafted, listed, tree_node}
use Rattle.storage_bitmap.specs.Chunks.{digit_of, number_of, packed_bytes, chunk}
use Rattle.storage_current.specs.Extended.{cleared, extended}
use Rattle.storage_current.specs.Laws.Grafting.{Height, chunk_height}
use Rattle.storage_current.specs.Snapshots.{Grafting, IsGrafting, Snapshot, IsSnapshot, graftable, height, view_node}
use Rattle.storage_current.proofs.MemViews.{chunk_node_at}
use Rattle.storage_current.proofs.NodeSteps.{view_at, chunk_there}

number_zero : (k : ℕ) (bs : List Bool) → ((t : ℕ) → t < k → get_or bs t false ≡ false) → number_of k bs ≡ 0
unfolding number_of
number_zero zero bs z = refl
number_zero (suc k) [] z = refl
number_zero (suc k) (b ∷ bs) z =
    let e : digit_of b ≡ 0 = ap digit_of (z 0 (omega arith)) in
    omega (arith, e, number_zero k bs (λ t l. z (suc t) (omega arith)))

number_same : (k : ℕ) (xs ys : List Bool) → ((t : ℕ) → t < k → get_or xs t false ≡ get_or ys t false)
    → number_of k xs ≡ number_of k ys
unfolding number_of
number_same zero xs ys same = refl
number_same (suc k) [] [] same = refl
number_same (suc k) [] (y ∷ ys) same = sym (number_zero (suc k) (y ∷ ys) (λ t l. sym (same t l)))
number_same (suc k) (x ∷ xs) [] same = number_zero (suc k) (x ∷ xs) same
number_same (suc k) (x ∷ xs) (y ∷ ys) same =
    ap₂ (λ u v. digit_of u + 2 * v) (same 0 (omega arith)) (number_same k xs ys (λ t l. same (suc t) (omega arith)))

bytes_same : (n : ℕ) (xs ys : List Bool) → ((t : ℕ) → t < 8 * n → get_or xs t false ≡ get_or ys t false)
    → packed_bytes n xs ≡ packed_bytes n ys
unfolding packed_bytes
bytes_same zero xs ys same = refl
bytes_same (suc n) xs ys same =
    ap₂ (λ x y. x ∷ y)
    (number_same 8 xs ys (λ t l. same t (omega arith)))
    (bytes_same n (drop 8 xs) (drop 8 ys) (λ t l. get_or-drop 8 xs t false ∙ same (8 + t) (omega arith)
    ∙ sym (get_or-drop 8 ys t false)))

chunk_same : (n j : ℕ) (xs ys : List Bool) → ((t : ℕ) → t < 8 * n
    → get_or xs (j * (8 * n) + t) false ≡ get_or ys (j * (8 * n) + t) false) → chunk n xs j ≡ chunk n ys j
unfolding chunk
chunk_same n j xs ys same = bytes_same n _ _ (λ t l. get_or-drop (j * (8 * n)) xs t false ∙ same t l
    ∙ sym (get_or-drop (j * (8 * n)) ys t false))

pub length-cleared : (clear : List ℕ) (bits : List Bool) → length (cleared clear bits) ≡ length bits
length-cleared [] bits = refl
length-cleared (l ∷ ls) bits = length-cleared ls (set bits l false) ∙ length-set bits l false

pub cleared_other : (clear : List ℕ) (bits : List Bool) (i : ℕ) → ((l : ℕ) → Contains clear l → i ≢ l)
    → get_or (cleared clear bits) i false ≡ get_or bits i false
cleared_other [] bits i other = refl
cleared_other (l ∷ ls) bits i other =
    cleared_other ls (set bits l false) i (λ j m. other j (Contains-append_right (l ∷ []) ls j m))
    ∙ get_or-set_other bits l i false false (other l (0, omega arith, refl))

-- a chunk that was complete, and has no location that is cleared, stands
pub chunk_stands : (n : ℕ) (bits more : List Bool) (clear : List ℕ) (j : ℕ) → (j + 1) * (8 * n) ≤ length bits
    → ((l : ℕ) → Contains clear l → l / (8 * n) ≢ j) → chunk n (cleared clear bits ++ more) j ≡ chunk n bits j
chunk_stands n bits more clear j whole apart =
    chunk_same n j (cleared clear bits ++ more) bits (λ t l.
    let end : (j + 1) * (8 * n) ≡ j * (8 * n) + 8 * n = grind arith in
    let inside : j * (8 * n) + t < length (cleared clear bits) = omega (arith, end, whole, length-cleared clear bits) in
    get_or_append_left (cleared clear bits) more false (j * (8 * n) + t) inside
    ∙ cleared_other clear bits (j * (8 * n) + t) (λ x m same.
    apart x m (ap (λ (y : ℕ). y / (8 * n)) (sym same) ∙ div-mul-add j (8 * n) t l)))

-- nodes over operations stand once more are appended
pub node_stands : (h : HashFunction) (S : Shape) (xs ys : List (List ℕ)) (k a : ℕ) → a + 2 ^ k ≤ length xs
    → tree_node h (ungrafted S) (listed (xs ++ ys)) a k ≡ tree_node h (ungrafted S) (listed xs) a k
node_stands h S xs ys zero a l =
    ap (λ x. h (be8 (S.position a 0) ++ x)) (get_or_append_left xs ys [] a (omega arith))
node_stands h S xs ys (suc k) a l =
    ap₂ (λ l r. h (be8 (S.position a (suc k)) ++ (l ++ r))) (node_stands h S xs ys k a (omega (arith, pow_two k)))
    (node_stands h S xs ys k (a + 2 ^ k) (omega (arith, pow_two k)))

-- and its graft stands
pub graft_stands : (h : HashFunction) (g : Grafting) → IsGrafting g → (s : Snapshot) (operations : List (List ℕ))
    (bits : List Bool) (clear : List ℕ) (floor j : ℕ) → IsSnapshot s → j < graftable g (length s.operations)
    → ((l : ℕ) → Contains clear l → l / 2 ^ height g ≢ j)
    → view_node h g (extended s operations bits clear floor) (j * 2 ^ height g) (height g)
    ≡ view_node h g s (j * 2 ^ height g) (height g)
graft_stands h g grafting s operations bits clear floor j snapshot below apart =
    let S = g.shape in
    let L = grafting.laws in
    let r : ℕ = height g in
    let a : ℕ = j * 2 ^ height g in
    let t : Snapshot = extended s operations bits clear floor in
    let c : Height g = chunk_height g grafting.size in
    let one : 1 ≤ height g = omega (arith, c.is) in
    let at = chunk_node_at S L (length s.operations) (height g) j below in
    let more : length t.operations ≡ length s.operations + length operations = length-append s.operations operations in
    let old = view_at h g s a (height g) refl one at.aligned
    (chunk_there g L (length s.operations) a at.aligned at.born) in
    let new = view_at h g t a (height g) refl one at.aligned
    (chunk_there g L (length t.operations) a at.aligned (omega (arith, more, at.born))) in
    let place : a / 2 ^ height g ≡ j = shl-shr j (height g) in
    let end : (j + 1) * (8 * g.bytes) ≡ j * 2 ^ height g + 2 ^ height g = rw c.bits (grind arith) in
    let chunks : chunk g.bytes t.bits (a / 2 ^ height g) ≡ chunk g.bytes s.bits (a / 2 ^ height g) =
    rw place (chunk_stands g.bytes s.bits bits clear j (omega (arith, end, at.ends, snapshot.bit_each))
    (λ l m. rw (← c.bits) (apart l m))) in
    new ∙ ap₂ (λ x y. grafted_digest h x y) chunks (node_stands h S s.operations operations (height g) a at.ends) ∙ sym old

pub graftable_grows : (g : Grafting) → Laws g.shape → (m n : ℕ) → m ≤ n → graftable g m ≤ graftable g n
graftable_grows g L m n le =
    elim (cases_lt 0 (graftable g m)) [
      | inl some ↦
          let j : ℕ = graftable g m - 1 in
          let at = chunk_node_at g.shape L m (height g) j (omega arith) in
          let there : j * 2 ^ height g / 2 ^ height g < graftable g n =
          chunk_there g L n (j * 2 ^ height g) at.aligned (omega (arith, at.born)) in
          omega (arith, there, shl-shr j (height g))
      | inr none ↦ omega arith
    ]
