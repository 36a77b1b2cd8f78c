-- The length of supplied chunks, over the nodes that a check hashes.
use Rattle.std.proofs.Common.{◌≡◌, ◌≢◌, ℕ, suc, ◌+◌, ◌*◌, ◌/◌, ◌%◌, ◌^◌, ◌<◌, ◌≤◌, List, [], ◌∷◌, length, Bool, true, ◌&&◌, leb, leb-true, leb-false, ltb, eqb, eqb-true, inl, inr, ap, arith, suc-mul, lt_of_mul-lt-mul_right}
use Rattle.std.specs.List.{All}
use Rattle.std.proofs.lemmas.Bool.{ltb-true, not-false}
use Rattle.std.proofs.lemmas.List.Elements.{All-head, All-tail}
use Rattle.storage_codec.specs.Digests.{HashFunction}
use Rattle.storage_merkle.specs.Shape.{Shape, Laws, Inside}
use Rattle.storage_merkle.specs.Laws.Multiples.{quotient, out_of_units}
use Rattle.storage_merkle.specs.declared.merkle.bagging.Bagging.TheVariants.{BackwardFold}
use Rattle.storage_merkle.specs.Extracted.{HoldsOfEach}
use Rattle.storage_merkle.specs.Trees.{Layout, Content, content_of}
use Rattle.storage_merkle.specs.Chunked.{AreChunks}
use Rattle.storage_merkle.specs.Multi.{Claim, IsMultiOwn, IsMultiProved, locations, multi_strings, touched, untouched}
use Rattle.storage_merkle.specs.RangeProofs.{AreDigests, Proof, apart}
use Rattle.storage_current.specs.Combined.{over_chunks}
use Rattle.storage_current.specs.Grafted.{grafted_over, supplied}
use Rattle.storage_current.specs.Laws.Grafting.{and-true, or-true}
use Rattle.storage_current.specs.HeldOfViews.{AreSupplied, HoldsOfViews, view_at}
use Rattle.storage_current.specs.Snapshots.{graftable_at}
use Rattle.storage_current.proofs.Padding.{supplied-whole}
use Rattle.storage_current.proofs.RangeOwn.{or-false}

module _ (size height r start : ℕ) (chunks : List (List ℕ)) (S : Shape) where
  abbrev layout : Layout
  layout = record { shape = S; position = S.position; grafted = grafted_over height r }

  abbrev chunk : ℕ → List ℕ
  chunk a = supplied start chunks (a / 2 ^ height)

  -- over a node that reaches past the first supplied leaf, and begins before the last one
  one_chunk : AreDigests size chunks → (a k : ℕ) → grafted_over height r a k ≡ true → start * 2 ^ height < a + 2 ^ k
      → a < (start + length chunks) * 2 ^ height → length (chunk a) ≡ size
  one_chunk each a k g from to =
      let both = and-true (eqb k height) _ g in
      let two = and-true (eqb (a % 2 ^ height) 0) _ both.1 in
      let same : k ≡ height = eqb-true k height both.0 in
      let power : 2 ^ k ≡ 2 ^ height = ap (λ i. 2 ^ i) same in
      let whole : a ≡ a / 2 ^ height * 2 ^ height = quotient a (2 ^ height) (eqb-true (a % 2 ^ height) 0 two.0) in
      let low : start * 2 ^ height < suc (a / 2 ^ height) * 2 ^ height =
      omega (arith, suc-mul (a / 2 ^ height) (2 ^ height)) in
      let high : a / 2 ^ height * 2 ^ height < (start + length chunks) * 2 ^ height = omega arith in
      let first : start < suc (a / 2 ^ height) = lt_of_mul-lt-mul_right (2 ^ height) low in
      let last : a / 2 ^ height < start + length chunks = lt_of_mul-lt-mul_right (2 ^ height) high in
      supplied-whole size start chunks each (a / 2 ^ height) (omega arith) (omega arith)

  pub range_chunks : (leaves low high : ℕ) → AreSupplied size height start chunks low high
      → AreChunks size layout leaves (apart low high) chunk
  range_chunks leaves low high given = λ a k one g multiple inside touches.
      let r = or-false (leb (a + 2 ^ k) low) (leb high a) touches in
      let x : low < a + 2 ^ k = leb-false (a + 2 ^ k) low r.0 in
      let y : a < high = leb-false high a r.1 in
      let from = given.from in
      let to = given.to in
      one_chunk given.each a k g (omega arith) (omega arith)

  abbrev Over : ℕ → Type 0
  Over l = AreSupplied size height start chunks l (l + 1)

  over_location : (a k : ℕ) → grafted_over height r a k ≡ true → (ls : List ℕ) → All Over ls → touched ls a k ≡ true
      → length (chunk a) ≡ size
  over_location a k g [] all t = cc
  over_location a k g (l ∷ ls) all t =
      let given : AreSupplied size height start chunks l (l + 1) = All-head Over l ls all in
      let rest : touched ls a k ≡ true → length (chunk a) ≡ size =
      λ later. over_location a k g ls (All-tail Over l ls all) later in
      elim (or-true (leb a l && ltb l (a + 2 ^ k)) (touched ls a k) t) [
        | inr later ↦ rest later
        | inl here ↦
            let both = and-true (leb a l) (ltb l (a + 2 ^ k)) here in
            let x : a ≤ l = leb-true a l both.0 in
            let y : l < a + 2 ^ k = ltb-true l (a + 2 ^ k) both.1 in
            let from : start * 2 ^ height ≤ l = given.from in
            let to : l + 1 ≤ (start + length chunks) * 2 ^ height = given.to in
            let low : start * 2 ^ height < a + 2 ^ k = omega arith in
            let high : a < (start + length chunks) * 2 ^ height = omega arith in
            one_chunk given.each a k g low high
      ]

  pub location_chunks : (leaves : ℕ) (ls : List ℕ) → All (λ l. AreSupplied size height start chunks l (l + 1)) ls
      → AreChunks size layout leaves (untouched ls) chunk
  location_chunks leaves ls all = λ a k one g multiple inside out.
      over_location a k g ls all (not-false (touched ls a k) out)

  module _ (d : ℕ) (h : HashFunction) (other : size ≢ 8 + d) (leaves : ℕ) (all : r ≡ graftable_at S height leaves)
      (strings : List (List ℕ)) (root : List ℕ) (P : Layout → Content → ℕ → Type 0) where
    abbrev over : ℕ → ℕ → ℕ → Bool
    over n = grafted_over height (graftable_at S height n)

    same : layout ≡ view_at S height leaves
    same = ap (λ x. record { shape = S; position = S.position; grafted = grafted_over height x }) all

    pub of_views : (low : ℕ) (elements : List (List ℕ))
        → AreSupplied size height start chunks low (low + length elements)
        → HoldsOfEach d h layout BackwardFold leaves low (content_of elements chunk) strings root P
        → HoldsOfViews size h S height strings root P
    of_views low elements given holds =
        holds size over same other (range_chunks leaves low (low + length elements) given)

  pub of_multi_views : (d : ℕ) (h : HashFunction) → size ≢ 8 + d → (proof : Proof)
      → r ≡ graftable_at S height proof.leaves → (claims : List Claim) (root : List ℕ)
      → All (λ l. AreSupplied size height start chunks l (l + 1)) (locations claims)
      → IsMultiProved d h layout BackwardFold proof claims chunk root
      → HoldsOfViews size h S height (multi_strings h layout BackwardFold proof claims chunk) root
      (λ U content inactive. IsMultiOwn h U proof claims content inactive)
  of_multi_views d h other proof all claims root given proved =
      proved size (λ n. grafted_over height (graftable_at S height n))
      (ap (λ x. record { shape = S; position = S.position; grafted = grafted_over height x }) all) other
      (location_chunks proof.leaves (locations claims) given)

-- in a tree over chunks
pub raised_chunks : (T : Layout) → Laws T.shape → (size g : ℕ) (cut : ℕ → ℕ → Bool) (chunk : ℕ → List ℕ)
    → ((n : ℕ) → AreChunks size T n cut chunk) → (leaves : ℕ)
    → AreChunks size (over_chunks g T) leaves (λ a k. cut (a * 2 ^ g) (k + g)) (λ a. chunk (a * 2 ^ g))
raised_chunks T L size g cut chunk f leaves = λ a k one t multiple inside out.
    let n : ℕ = T.shape.birth (a * 2 ^ g) (k + g) in
    let up : a * 2 ^ g % 2 ^ (k + g) ≡ 0 = out_of_units a k g multiple in
    let here : Inside (T.shape.peaks n) 0 (a * 2 ^ g) (k + g) =
    (L.inside n (a * 2 ^ g) (k + g) up).1 (omega arith) in
    f n (a * 2 ^ g) (k + g) (omega arith) t up here out
