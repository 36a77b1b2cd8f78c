-- The check of a range proof, one step each.
use Rattle.std.proofs.Common.{◌≡◌, ℕ, ◌+◌, ◌-◌, ◌<◌, false, ◌==◌, List, [], ◌∷◌, ◌++◌, length, map, get_or, refl, ap, ap₂, sym, ◌∙◌, arith}
use Rattle.std.proofs.lemmas.List.{map-append}
use Rattle.storage_codec.specs.Digests.{HashFunction}
use Rattle.storage_merkle.specs.Calc.{Site, Values, eval, front, back, given}
use Rattle.storage_merkle.specs.Hashing.{bagged}
use Rattle.storage_merkle.specs.Laws.Hashing.{eval-bag}
use Rattle.storage_merkle.specs.RangeProofs.{Proof, apart, leading, not_leading, up_to, trailing, one_for, look_up, sites, recomputed_root}
use Rattle.storage_merkle.specs.Trees.{Layout, Content, Peak, eval_bag, folded, unfolded, part, peaks_of, root_head}
use Rattle.storage_merkle.specs.declared.merkle.bagging.Bagging.{Bagging}
use Rattle.reference.specs.Layouts.{valued}
use Rattle.reference.specs.Sites.{bag_of_claim}
use Rattle.reference.proofs.Sites.{map_twice}

module _ (h : HashFunction) (v : Values) (T : Layout) (low high : ℕ)
    (xs ys before others reached past : List Peak) where
  abbrev each : Peak → List ℕ
  each p = eval h v (part T (apart low high) p)

  -- what is bagged, from the digests of its parts
  pub claimed_from : before ≡ leading low xs → others ≡ not_leading low xs → reached ≡ up_to high ys
      → past ≡ trailing high ys
      → (fronts rest : List (List ℕ)) (out : List ℕ) → fronts ≡ map (eval h v) (one_for (given front) before) ++ map each others
      → rest ≡ map each reached ++ map (eval h v) (one_for (given back) past)
      → out ≡ bagged h fronts rest → out ≡ eval_bag h v (bag_of_claim T low high xs ys)
  claimed_from eb eo er ep fronts rest out front_is rest_is e =
      let fs = one_for (given front) (leading low xs) in
      let gs = map (part T (apart low high)) (not_leading low xs) in
      let hs = map (part T (apart low high)) (up_to high ys) in
      let bs = one_for (given back) (trailing high ys) in
      let front_all : fronts ≡ map (eval h v) (fs ++ gs) =
      front_is ∙ ap₂ (λ (b o : List Peak). map (eval h v) (one_for (given front) b) ++ map each o) eb eo
      ∙ ap (λ (ds : List (List ℕ)). map (eval h v) fs ++ ds)
      (map_twice (eval h v) (part T (apart low high)) (not_leading low xs)) ∙ sym (map-append (eval h v) fs gs) in
      let rest_all : rest ≡ map (eval h v) (hs ++ bs) =
      rest_is ∙ ap₂ (λ (r p : List Peak). map each r ++ map (eval h v) (one_for (given back) p)) er ep
      ∙ ap (λ (ds : List (List ℕ)). ds ++ map (eval h v) bs)
      (map_twice (eval h v) (part T (apart low high)) (up_to high ys)) ∙ sym (map-append (eval h v) hs bs) in
      e ∙ ap₂ (bagged h) front_all rest_all ∙ sym (eval-bag h v (fs ++ gs) (hs ++ bs))

-- the root that a check recomputes, from what is bagged
pub recomputed_from : (h : HashFunction) (T : Layout) (b : Bagging) (proof : Proof) (start : ℕ) (claim : Content)
    (n end : ℕ) (ss : List Site) (ds : List (List ℕ)) (ps xs ys : List Peak) (bag root : List ℕ)
    → n ≡ proof.leaves → end ≡ start + length claim.elements → ps ≡ peaks_of T n → xs ≡ folded b proof.inactive ps
    → ys ≡ unfolded b proof.inactive ps
    → ss ≡ sites T start end b n proof.inactive → ds ≡ proof.digests
    → bag ≡ eval_bag h (valued (look_up (h []) ss ds) (λ j. get_or claim.elements (j - start) []) claim.chunk)
    (bag_of_claim T start end xs ys)
    → root ≡ h (root_head T b n proof.inactive ++ bag) → root ≡ recomputed_root h T b proof start claim
recomputed_from h T b proof start claim n end ss ds ps xs ys bag root en ee ep ex ey es ed eb e =
    e ∙ rw (eb, ex, ey, ep, es, ed, en, ee) refl

-- whether there are elements
pub some_elements : {E A : Type 0} (items : E → A) (es : List E) → false ≡ (length es == 0)
    → 0 < length (map items es)
some_elements items [] e = cc
some_elements items (x ∷ es) e = omega arith
