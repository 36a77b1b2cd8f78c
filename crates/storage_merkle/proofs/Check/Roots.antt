-- The root that a check gives is the recomputed one, and it gives one exactly where the counts fit.
use Rattle.std.proofs.Common.{◌≡◌, ℕ, zero, suc, ◌+◌, ◌-◌, ◌<◌, ◌≤◌, ◌^◌, List, [], ◌∷◌, ◌++◌, length, map, take, drop, Bool, true, false, if◌then◌else◌, refl, sym, ap, ap₂, ◌∙◌, arith, subst, leb, ltb, Option}
use Rattle.std.specs.Int.{from_bool}
use Rattle.std.proofs.lemmas.Bool.{lt-ltb}
use Rattle.std.proofs.lemmas.List.{length-map, length-append, map-append, take-map, drop-map}
use Rattle.storage_codec.specs.Digests.{HashFunction, or_nothing}
use Rattle.storage_merkle.specs.Shape.{Shape}
use Rattle.storage_merkle.specs.Calc.{Site, front, back, node, given, Values, eval}
use Rattle.storage_merkle.specs.declared.merkle.bagging.Bagging.{Bagging}
use Rattle.storage_merkle.specs.Trees.{Layout, Content, Peak, peaks_of, part, node_calc, join_calc, ungrafted, folded, unfolded, root_head}
use Rattle.storage_merkle.specs.RangeProofs.{Proof, apart, leading, not_leading, up_to, trailing, one_for, sites_of, sites_in, position_of, place_in, by_position, sites, check_values, CountsFit, recomputed_root}
use Rattle.storage_merkle.specs.Rests.{peaks_from, AreFolded, AreAfterLeading}
use Rattle.storage_merkle.specs.Siblings.{sibling_sites}
use Rattle.storage_merkle.specs.CheckParts.{front_before, top_sites, folded_before, bag_onto}
use Rattle.storage_merkle.proofs.RangeSound.{folded-all}
use Rattle.storage_merkle.proofs.Agreeing.{AgreeAt}
use Rattle.storage_merkle.proofs.Distinct.{each_once, read_all}
use Rattle.storage_merkle.proofs.Siblings.{sites-join}
use Rattle.storage_merkle.proofs.Check.Sites.{sites_are}
use Rattle.storage_merkle.proofs.Check.Bags.{bag_is}

-- sites do not depend on grafting
module _ (T : Layout) where
  plain_node : (cut : ℕ → ℕ → Bool) (k a : ℕ)
      → sites_of (node_calc T cut k a) ≡ sites_of (node_calc (ungrafted T.shape) cut k a)
  plain_node cut zero a = refl
  plain_node cut (suc k) a =
      let l = node_calc T cut k a in
      let r = node_calc T cut k (a + 2 ^ k) in
      let l' = node_calc (ungrafted T.shape) cut k a in
      let r' = node_calc (ungrafted T.shape) cut k (a + 2 ^ k) in
      elim (cut a (suc k)) as (λ b. sites_of (if b then given (node a (suc k)) else join_calc T a (suc k) l r)
      ≡ sites_of (if b then given (node a (suc k)) else join_calc (ungrafted T.shape) a (suc k) l' r')) [
        | true ↦ refl
        | false ↦
            sites-join T a (suc k) l r ∙ ap₂ (λ ss ts. ss ++ ts) (plain_node cut k a) (plain_node cut k (a + 2 ^ k))
      ]

  pub plain_in : (cut : ℕ → ℕ → Bool) (ps : List Peak) → sites_in T cut ps ≡ sites_in (ungrafted T.shape) cut ps
  plain_in cut [] = refl
  plain_in cut (p ∷ ps) = ap₂ (λ ss ts. ss ++ ts) (plain_node cut p.height p.first) (plain_in cut ps)

  plain_position : (s : Site) → position_of T s ≡ position_of (ungrafted T.shape) s
  plain_position front = refl
  plain_position back = refl
  plain_position (node a k) = refl

  plain_place : (s : Site) (ss : List Site) → place_in T s ss ≡ place_in (ungrafted T.shape) s ss
  plain_place s [] = refl
  plain_place s (t ∷ ts) =
      ap₂ (λ x y. if leb x y then s ∷ t ∷ ts else t ∷ place_in T s ts) (plain_position s) (plain_position t)
      ∙ ap (λ us. if leb (position_of (ungrafted T.shape) s) (position_of (ungrafted T.shape) t) then s ∷ t ∷ ts
      else t ∷ us) (plain_place s ts)

  pub plain_sorted : (ss : List Site) → by_position T ss ≡ by_position (ungrafted T.shape) ss
  plain_sorted [] = refl
  plain_sorted (s ∷ ss) = plain_place s (by_position T ss) ∙ ap (place_in (ungrafted T.shape) s) (plain_sorted ss)

  plain_siblings : (n low high : ℕ) → sibling_sites T n low high ≡ sibling_sites (ungrafted T.shape) n low high
  plain_siblings n low high =
      let ps = up_to high (not_leading low (peaks_of T n)) in
      plain_sorted (sites_in T (apart low high) ps)
      ∙ ap (by_position (ungrafted T.shape)) (plain_in (apart low high) ps)

pub plain_sites : (U : Layout) (low high : ℕ) (b : Bagging) (n i : ℕ)
    → sites U low high b n i ≡ sites (ungrafted U.shape) low high b n i
plain_sites U low high b n i =
    let xs = folded b i (peaks_of U n) in
    let ys = unfolded b i (peaks_of U n) in
    let W = ungrafted U.shape in
    let cut = apart low high in
    let F = one_for front (leading low xs) in
    let C = one_for back (trailing high ys) in
    let K : List Site → List Site → List Site → List Site = λ A B P. F ++ (A ++ (B ++ (C ++ P))) in
    let D : Layout → List Site =
    λ V. sites_in V cut (up_to high (not_leading low xs)) ++ sites_in V cut (up_to high (not_leading low ys)) in
    let both : D U ≡ D W = ap₂ (λ us ws. us ++ ws) (plain_in U cut (up_to high (not_leading low xs)))
    (plain_in U cut (up_to high (not_leading low ys))) in
    ap₂ (λ A B. K A B (by_position U (D U))) (plain_in U cut (leading low ys))
    (plain_in U cut (trailing high (not_leading low xs)))
    ∙ ap (K (sites_in W cut (leading low ys)) (sites_in W cut (trailing high (not_leading low xs))))
    (plain_sorted U (D U) ∙ ap (by_position W) both)

pub agree_itself : (v : Values) (ss : List Site) → AgreeAt v v ss
agree_itself v [] = tt
agree_itself v (s ∷ ss) = (refl, agree_itself v ss)

-- a proof and a claim over a range, and the walk past the leading peaks: f of the peaks over n leaves are folded from the left,
-- and after those that lead come the peaks over r leaves from the leaf a on, of which g are folded from the left
pub record Walk {D : Type 0} (S : Shape) (text : D → List ℕ) : Type 0 where
  pub h : HashFunction
  pub T : Layout
  pub same : T.shape ≡ S
  pub b : Bagging
  pub n : ℕ
  pub i : ℕ
  pub low : ℕ
  pub elements : List (List ℕ)
  pub chunk : ℕ → List ℕ
  pub items : List D
  pub high : ℕ
  pub f : ℕ
  pub a : ℕ
  pub r : ℕ
  pub g : ℕ
  pub range : high ≡ low + length elements
  pub parts : AreFolded S b i n f
  pub after : AreAfterLeading S low 0 n f a r g

module _ {D : Type 0} {S : Shape} {text : D → List ℕ} (w : Walk S text) where
  abbrev pub proof_over : ℕ → Proof
  proof_over m = record { leaves = m; inactive = w.i; digests = map text w.items }

  abbrev pub claim : Content
  claim = record { elements = w.elements; chunk = w.chunk }

  -- the counts fit, where the tree has m leaves and the range begins at `start`
  abbrev pub Fits : ℕ → ℕ → Type 0
  Fits m start = CountsFit w.h w.T w.b (proof_over m) start claim

  abbrev proof : Proof
  proof = proof_over w.n

  abbrev pub tops : List Site
  tops = front_before w.a ++ top_sites w.low w.high (peaks_from S w.a w.r) w.g

  abbrev pub siblings : List Site
  siblings = sibling_sites (ungrafted S) w.n w.low w.high

  abbrev all : List Site
  all = sites w.T w.low (w.low + length w.elements) w.b w.n w.i

  parts_here : AreFolded w.T.shape w.b w.i w.n w.f
  parts_here = subst (λ U. AreFolded U w.b w.i w.n w.f) (sym w.same) w.parts

  after_here : AreAfterLeading w.T.shape w.low 0 w.n w.f w.a w.r w.g
  after_here = subst (λ U. AreAfterLeading U w.low 0 w.n w.f w.a w.r w.g) (sym w.same) w.after

  pub split : w.low < w.high → all ≡ tops ++ siblings
  split some =
      ap (λ z. sites w.T w.low z w.b w.n w.i) (sym w.range)
      ∙ sites_are w.T w.low w.high w.b w.n w.i w.f w.a w.r w.g some parts_here after_here
      ∙ ap₂ (λ us vs. us ++ vs) (ap (λ U. front_before w.a ++ top_sites w.low w.high (peaks_from U w.a w.r) w.g) w.same)
      (plain_siblings w.T w.n w.low w.high ∙ ap (λ U. sibling_sites (ungrafted U) w.n w.low w.high) w.same)

  pub counted : w.low < w.high → length all ≡ length tops + length siblings
  counted some = ap length (split some) ∙ length-append tops siblings

  -- the counts don't fit
  pub too_few : (m : ℕ) → m ≡ length tops → length w.items < m → Fits w.n w.low → ⊥
  too_few m em less fit =
      let some = fit.some in
      let few : length (map text w.items) ≡ length all = fit.count in
      omega (arith, counted (omega (arith, w.range)), length-map w.items text)

  pub not_as_many : (m k : ℕ) → m ≡ length tops → k ≡ length siblings → (length w.items - m ≡ k → ⊥)
      → Fits w.n w.low → ⊥
  not_as_many m k em ek ne fit =
      let some = fit.some in
      let few : length (map text w.items) ≡ length all = fit.count in
      ne (omega (arith, counted (omega (arith, w.range)), length-map w.items text))

  -- the counts fit
  module _ (m k : ℕ) (em : m ≡ length tops) (ek : k ≡ length siblings) (enough : m ≤ length w.items)
      (as_many : length w.items - m ≡ k) (some : w.low < w.high) where
    abbrev pub values : Values
    values = check_values w.h w.T w.b proof w.low claim

    count : length (map text w.items) ≡ length all
    count = omega (arith, counted some, length-map w.items text)

    pub fit : w.n ≤ 2 ^ 62 → w.i ≤ length (S.peaks w.n) → w.high ≤ w.n → Fits w.n w.low
    fit few peaks within =
        record {
          few = few;
          peaks = subst (λ (U : Shape). w.i ≤ length (U.peaks w.n)) (sym w.same) peaks;
          some = omega (arith, w.range);
          within = omega (arith, w.range);
          count = count;
        }

    read : map text w.items ≡ map values.digest tops ++ map values.digest siblings
    read =
        read_all (w.h []) all (map text w.items) values values.element values.chunk count
        (each_once w.T w.low (w.low + length w.elements) (folded w.b w.i (peaks_of w.T w.n))
        (unfolded w.b w.i (peaks_of w.T w.n)) (w.T.shape.peaks w.n)
        (folded-all w.b w.i (peaks_of w.T w.n)))
        (agree_itself values all)
        ∙ ap (map values.digest) (split some) ∙ map-append values.digest tops siblings

    take_front : (j : ℕ) (xs ys : List (List ℕ)) → j ≡ length xs → take j (xs ++ ys) ≡ xs
    take_front zero [] ys e = refl
    take_front (suc j) [] ys e = absurd (omega arith)
    take_front zero (x ∷ xs) ys e = absurd (omega arith)
    take_front (suc j) (x ∷ xs) ys e = ap (λ zs. x ∷ zs) (take_front j xs ys (omega arith))

    drop_front : (j : ℕ) (xs ys : List (List ℕ)) → j ≡ length xs → drop j (xs ++ ys) ≡ ys
    drop_front zero [] ys e = refl
    drop_front (suc j) [] ys e = absurd (omega arith)
    drop_front zero (x ∷ xs) ys e = absurd (omega arith)
    drop_front (suc j) (x ∷ xs) ys e = drop_front j xs ys (omega arith)

    pub tops_read : map text (take m w.items) ≡ map values.digest tops
    tops_read = sym (take-map text m w.items) ∙ ap (take m) read ∙ take_front m (map values.digest tops)
        (map values.digest siblings) (omega (arith, length-map tops values.digest))

    pub siblings_read : map text (drop m w.items) ≡ map values.digest siblings
    siblings_read = sym (drop-map text m w.items) ∙ ap (drop m) read ∙ drop_front m (map values.digest tops)
        (map values.digest siblings) (omega (arith, length-map tops values.digest))

    pub root_is : (x : List ℕ) (bagged : Option (List ℕ))
        → bagged ≡ bag_onto w.h (λ p. eval w.h values (part w.T (apart w.low w.high) p)) (values.digest back) w.high
        (folded_before (values.digest front) w.a) (peaks_from S w.a w.r) w.g
        → x ≡ w.h (root_head w.T w.b w.n w.i ++ or_nothing bagged)
        → x ≡ recomputed_root w.h w.T w.b proof w.low claim
    root_is x bagged e ex =
        let item : ℕ → Peak → List ℕ = λ z p. eval w.h values (part w.T (apart w.low z) p) in
        let one : bagged ≡ bag_onto w.h (item w.high) (values.digest back) w.high (folded_before (values.digest front) w.a)
        (peaks_from w.T.shape w.a w.r) w.g = e ∙ ap (λ U. bag_onto w.h (item w.high) (values.digest back) w.high
        (folded_before (values.digest front) w.a) (peaks_from U w.a w.r) w.g) (sym w.same) in
        let two : bagged ≡ bag_onto w.h (item (w.low + length w.elements)) (values.digest back) (w.low + length w.elements)
        (folded_before (values.digest front) w.a) (peaks_from w.T.shape w.a w.r) w.g = one ∙ ap (λ z. bag_onto w.h (item z)
        (values.digest back) z (folded_before (values.digest front) w.a) (peaks_from w.T.shape w.a w.r) w.g) w.range in
        ex ∙ ap (λ y. w.h (root_head w.T w.b w.n w.i ++ y)) (ap or_nothing two
        ∙ bag_is w.h w.T values w.low (w.low + length w.elements) w.b w.n w.i w.f w.a w.r w.g parts_here after_here)

-- how many digests stand before the siblings
pub apart_count : (a m k : ℕ) (ts : List Site) → m ≡ from_bool (ltb 0 a) → k ≡ length ts
    → m + k ≡ length (front_before a ++ ts)
apart_count zero m k ts em ek = omega arith
apart_count (suc a) m k ts em ek =
    let some : from_bool (ltb 0 (suc a)) ≡ 1 = ap from_bool (lt-ltb 0 (suc a) (omega arith)) in
    omega arith

pub after_all : (S : Shape) (low n f b s a r g : ℕ) → b ≡ 0 → s ≡ n → AreAfterLeading S low b s f a r g
    → AreAfterLeading S low 0 n f a r g
after_all S low n f b s a r g eb es x =
    subst (λ z. AreAfterLeading S low 0 z f a r g) es (subst (λ z. AreAfterLeading S low z s f a r g) eb x)

-- a claim on the number of leaves and the start
pub claim_on : (P : ℕ → ℕ → Type 0) (n m low start : ℕ) → n ≡ m → low ≡ start → P n low → P m start
claim_on P n m low start en el x = subst (λ z. P z start) en (subst (P n) el x)
