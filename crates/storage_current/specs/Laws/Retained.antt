-- What stays where the operations of some chunks are forgotten.
use Rattle.std.proofs.Common.{◌≡◌, ℕ, suc, ◌+◌, ◌-◌, ◌*◌, ◌/◌, ◌%◌, ◌^◌, ◌<◌, ◌≤◌, ◌||◌, true, leb, le-leb, Bool, false, List, [], ◌∷◌, drop, slice_set, refl, Option, Some, pow_pos, sym, ◌∙◌, subst, ap, arith, inl, inr}
use Rattle.std.specs.List.{Contains}
use Rattle.std.proofs.lemmas.Bool.{cases_lt}
use Rattle.std.proofs.Math.Nat.{div-lt_iff_lt-mul, div-mul-le_self, lt-div-mul-add, mul-le-mul_right, zero-mul}
use Rattle.storage_merkle.specs.Laws.Multiples.{is_multiple, multiple_add, multiple_down, next, power_multiple}
use Rattle.storage_merkle.specs.Laws.Shape.{inside_before, same_node}
use Rattle.storage_merkle.specs.Nodes.{IsNode}
use Rattle.storage_merkle.specs.Plans.{GreatestNodesArePlanned, InTree, IsGreatestApart, planned}
use Rattle.storage_merkle.specs.RangeProofs.{apart}
use Rattle.storage_merkle.specs.Shape.{Inside, Laws, Shape, size}
use Rattle.storage_bitmap.specs.Chunks.{IsRest, Retained}
use Rattle.storage_current.specs.Extended.{cleared, cleared_from}
use Rattle.storage_current.specs.KeptSnapshots.{pruned_operations}
use Rattle.storage_current.specs.Laws.Grafting.{graftable_by_birth}
use Rattle.storage_current.specs.NodeLists.{AreNodes, IsRetained}
use Rattle.storage_current.specs.Snapshots.{Grafting, graftable, graftable_at, height}

module _ (S : Shape) (L : Laws S) where
  -- a node over leaves behind a boundary stands behind it
  pub behind : (b a k : ℕ) → a % 2 ^ k ≡ 0 → b ≤ a → size S b ≤ S.position a k
  behind b a k al after = elim (cases_lt (S.position a k) (size S b)) [
    | inl before ↦
        let born : S.birth a k ≤ b = (L.born b a k al).0 before in
        absurd (omega (arith, L.late a k, born, pow_pos k))
    | inr there ↦ there
  ]

  -- a node below the height of chunks that holds a leaf of a graftable chunk is none of the greatest without the leaves from some
  -- place behind that chunk on
  not_greatest : (n low high g j a k : ℕ) → j < graftable_at S g n → j * 2 ^ g + 2 ^ g ≤ low → j * 2 ^ g ≤ a
      → a < j * 2 ^ g + 2 ^ g → k < g → IsGreatestApart S n low high a k → ⊥
  not_greatest n low high g j a k there ends from before less greatest =
      let start : j * 2 ^ g % 2 ^ g ≡ 0 = is_multiple j (2 ^ g) (pow_pos g) in
      let inside : Inside (S.peaks n) 0 (j * 2 ^ g) g = (graftable_by_birth S L g n j).1 there in
      let tree : InTree S n (j * 2 ^ g) g =
      record { aligned = start; inside = inside_before S L n (j * 2 ^ g) g start inside } in
      let outside : apart low high (j * 2 ^ g) g ≡ true =
      ap (λ b. b || leb high (j * 2 ^ g)) (le-leb (j * 2 ^ g + 2 ^ g) low ends) in
      let end : (j * 2 ^ g + 2 ^ g) % 2 ^ k ≡ 0 = multiple_add (j * 2 ^ g) (2 ^ g) (2 ^ k) (pow_pos k)
      (multiple_down (j * 2 ^ g) k g (omega arith) start) (power_multiple g k (omega arith)) in
      let up : a + 2 ^ k ≤ j * 2 ^ g + 2 ^ g =
      next a (j * 2 ^ g + 2 ^ g) (2 ^ k) greatest.tree.aligned end before in
      let same = greatest.greatest (j * 2 ^ g) g tree outside from up in
      omega (arith, same.1, less)

-- Where some of the graftable chunks are forgotten, each node that is planned of a range behind them stays.
pub planned_retained : GreatestNodesArePlanned → (g : Grafting) → Laws g.shape → (n low high r p a k : ℕ) → r ≤ graftable g n
    → r * 2 ^ height g ≤ low → Contains (planned g.shape n low high) p → IsNode g.shape p a k
    → IsRetained g.shape (height g) (r * 2 ^ height g) p k
planned_retained are g L n low high r p a k few from planned_there node =
    let S = g.shape in
    let found = (are S L n low high p).0 planned_there in
    let same = same_node S L p found.0 found.1 a k found.2 node in
    let greatest : IsGreatestApart S n low high a k = rw (same.0, same.1) at found.3 in
    elim (cases_lt k (height g)) [
      | inr high_enough ↦ inl high_enough
      | inl less ↦ elim (cases_lt a (r * 2 ^ height g)) [
        | inr after ↦ inr (subst (λ (q : ℕ). size S (r * 2 ^ height g) ≤ q) node.at
            (behind S L (r * 2 ^ height g) a k node.aligned after))
        | inl before ↦
            let j : ℕ = a / 2 ^ height g in
            let place : j < r = (div-lt_iff_lt-mul (pow_pos (height g))).1 before in
            let upto : suc j * 2 ^ height g ≤ r * 2 ^ height g = mul-le-mul_right (2 ^ height g) (omega arith) in
            let step : suc j * 2 ^ height g ≡ j * 2 ^ height g + 2 ^ height g = grind arith in
            absurd (not_greatest S L n low high (height g) j a k (omega (arith, place, few)) (omega (arith, upto, step, from))
            (div-mul-le_self a (2 ^ height g)) (lt-div-mul-add (pow_pos (height g))) less greatest)
      ]
    ]

-- Where no chunk is forgotten, each node stays.
pub unpruned_retained : (g : Grafting) (status : Retained) (p k : ℕ) → status.pruned ≡ 0
    → IsRetained g.shape (height g) (pruned_operations g status) p k
unpruned_retained g status p k none =
    let S = g.shape in
    let start : pruned_operations g status ≡ 0 = ap (λ (n : ℕ). n * 2 ^ height g) none ∙ zero-mul (2 ^ height g) in
    inr (omega (arith, ap (size S) start))

-- What is told of a node is its digest.
pub told_true : (S : Shape) (g boundary n : ℕ) (digest_of : ℕ → ℕ → List ℕ) (told : ℕ → Option (List ℕ))
    → AreNodes S g boundary n digest_of told → (p a k : ℕ) (digest : List ℕ) → IsNode S p a k → told p ≡ Some digest
    → digest ≡ digest_of a k
told_true S g boundary n digest_of told nodes p a k digest node is = elim (cases_lt p (size S n)) [
  | inr past ↦ let none = sym is ∙ nodes.past p past in absurd (cc)
  | inl within ↦ elim (cases_lt k g) [
    | inr high ↦ let same = sym is ∙ nodes.are p a k node within (inl high) in cc
    | inl low ↦ elim (cases_lt p (size S boundary)) [
      | inr there ↦ let same = sym is ∙ nodes.are p a k node within (inr there) in cc
      | inl before ↦
          let gone : IsRetained S g boundary p k → ⊥ =
          λ r. elim r [ inl high ↦ omega (arith, high, low) | inr there ↦ omega (arith, there, before) ] in
          let none = sym is ∙ nodes.forgotten p a k node within gone in
          absurd (cc)
    ]
  ]
]

-- Where no bit is forgotten, all bits are left.
pub rest_first : (n : ℕ) (status : Retained) (bits : List Bool) → IsRest n status bits → status.pruned ≡ 0
    → status.bits ≡ bits
rest_first n status bits rest none =
    let start : status.pruned * (8 * n) ≡ 0 = ap (λ (p : ℕ). p * (8 * n)) none ∙ zero-mul (8 * n) in
    rest.rest ∙ ap (λ (i : ℕ). drop i bits) start

-- And they are cleared as in the whole list.
pub cleared_from_first : (start : ℕ) (clear : List ℕ) (bits : List Bool) → start ≡ 0
    → cleared_from start clear bits ≡ cleared clear bits
cleared_from_first start [] bits first = refl
cleared_from_first start (l ∷ ls) bits first =
    let place : l - start ≡ l = omega arith in
    ap (λ (i : ℕ). cleared_from start ls (slice_set bits i false)) place
    ∙ cleared_from_first start ls (slice_set bits l false) first
