-- Where no chunk is grafted, the chunks that a check is given do not matter.
use Rattle.std.proofs.Common.{◌≡◌, ℕ, zero, suc, ◌+◌, ◌^◌, List, [], ◌∷◌, ◌++◌, length, map, Bool, true, false, if◌then◌else◌, refl, sym, ap, ap₂, ◌∙◌, subst, Option, Some, None, option_map, Result}
use Rattle.std.proofs.lemmas.List.{map-append}
use Rattle.std.specs.Result.{IfOk}
use Rattle.std.proofs.lemmas.Result.{IfOk-weaker}
use Rattle.storage_codec.specs.Digests.{HashFunction}
use Rattle.storage_merkle.specs.Shape.{Shape}
use Rattle.storage_merkle.specs.Calc.{Site, node, Calc, given, leaf, Values, be8, eval, front, back}
use Rattle.storage_merkle.specs.Hashing.{bagged}
use Rattle.storage_merkle.specs.Laws.Hashing.{eval-bag}
use Rattle.storage_merkle.specs.declared.merkle.bagging.Bagging.{Bagging}
use Rattle.storage_merkle.specs.Trees.{Layout, Content, Peak, ungrafted, listed, node_calc, join_calc, part, peaks_of, folded, unfolded, eval_bag, root_head}
use Rattle.storage_merkle.specs.RangeProofs.{Proof, CountsFit, apart, leading, not_leading, up_to, trailing, one_for, check_bag, check_values, recomputed_root}
use Rattle.storage_merkle.specs.Checks.{IsRecomputed}

module _ (h : HashFunction) (S : Shape) (digest : Site → List ℕ) (element : ℕ → List ℕ) (c d : ℕ → List ℕ) where
  abbrev v : Values
  v = record { digest = digest; element = element; chunk = c }

  abbrev w : Values
  w = record { digest = digest; element = element; chunk = d }

  node_plain : (cut : ℕ → ℕ → Bool) (k a : ℕ)
      → eval h v (node_calc (ungrafted S) cut k a) ≡ eval h w (node_calc (ungrafted S) cut k a)
  node_plain cut zero a =
      elim (cut a zero) as (λ t. eval h v (if t then given (node a zero) else leaf (be8 (S.position a zero)) a)
      ≡ eval h w (if t then given (node a zero) else leaf (be8 (S.position a zero)) a)) [
        | true ↦ refl
        | false ↦ refl
      ]
  node_plain cut (suc k) a =
      let l = node_calc (ungrafted S) cut k a in
      let r = node_calc (ungrafted S) cut k (a + 2 ^ k) in
      elim (cut a (suc k)) as (λ t. eval h v (if t then given (node a (suc k)) else join_calc (ungrafted S) a
      (suc k) l r) ≡ eval h w (if t then given (node a (suc k)) else join_calc (ungrafted S) a (suc k) l r)) [
        | true ↦ refl
        | false ↦
            ap₂ (λ x y. h (be8 (S.position a (suc k)) ++ (x ++ y))) (node_plain cut k a) (node_plain cut k (a + 2 ^ k))
      ]

  parts_plain : (cut : ℕ → ℕ → Bool) (ps : List Peak)
      → map (eval h v) (map (part (ungrafted S) cut) ps) ≡ map (eval h w) (map (part (ungrafted S) cut) ps)
  parts_plain cut [] = refl
  parts_plain cut (p ∷ ps) = ap₂ (λ x xs. x ∷ xs) (node_plain cut p.height p.first) (parts_plain cut ps)

  one_plain : (s : Site) (ps : List Peak) → map (eval h v) (one_for (given s) ps) ≡ map (eval h w) (one_for (given s) ps)
  one_plain s [] = refl
  one_plain s (p ∷ ps) = refl

  append_plain : (ts us : List Calc) → map (eval h v) ts ≡ map (eval h w) ts → map (eval h v) us ≡ map (eval h w) us
      → map (eval h v) (ts ++ us) ≡ map (eval h w) (ts ++ us)
  append_plain ts us e f =
      map-append (eval h v) ts us ∙ (ap₂ (λ xs ys. xs ++ ys) e f ∙ sym (map-append (eval h w) ts us))

  pub bag_plain : (b : Bagging) (low high n i : ℕ)
      → eval_bag h v (check_bag (ungrafted S) low high b n i) ≡ eval_bag h w (check_bag (ungrafted S) low high b n i)
  bag_plain b low high n i =
      let xs = folded b i (peaks_of (ungrafted S) n) in
      let ys = unfolded b i (peaks_of (ungrafted S) n) in
      let cut = apart low high in
      let first = one_for (given front) (leading low xs) ++ map (part (ungrafted S) cut) (not_leading low xs) in
      let second = map (part (ungrafted S) cut) (up_to high ys) ++ one_for (given back) (trailing high ys) in
      eval-bag h v first second
      ∙ (ap₂ (bagged h)
      (append_plain (one_for (given front) (leading low xs)) (map (part (ungrafted S) cut) (not_leading low xs))
      (one_plain front (leading low xs)) (parts_plain cut (not_leading low xs)))
      (append_plain (map (part (ungrafted S) cut) (up_to high ys)) (one_for (given back) (trailing high ys))
      (parts_plain cut (up_to high ys)) (one_plain back (trailing high ys)))
      ∙ sym (eval-bag h w first second))

module _ (h : HashFunction) (S : Shape) (b : Bagging) (proof : Proof) (start : ℕ) (es : List (List ℕ))
    (c : ℕ → List ℕ) where
  abbrev claim : Content
  claim = record { elements = es; chunk = c }

  plain_fits : CountsFit h (ungrafted S) b proof start claim → CountsFit h (ungrafted S) b proof start (listed es)
  plain_fits ok = record { few = ok.few; peaks = ok.peaks; some = ok.some; within = ok.within; count = ok.count }

  fits_plain : CountsFit h (ungrafted S) b proof start (listed es) → CountsFit h (ungrafted S) b proof start claim
  fits_plain ok = record { few = ok.few; peaks = ok.peaks; some = ok.some; within = ok.within; count = ok.count }

  root_plain : recomputed_root h (ungrafted S) b proof start claim
      ≡ recomputed_root h (ungrafted S) b proof start (listed es)
  root_plain =
      let values = check_values h (ungrafted S) b proof start (listed es) in
      ap (λ x. h (root_head (ungrafted S) b proof.leaves proof.inactive ++ x)) (bag_plain h S values.digest
      values.element c (λ a. []) b start (start + length es) proof.leaves proof.inactive)

  plain : (computed : Option (List ℕ)) → IsRecomputed h (ungrafted S) b proof start claim computed
      → IsRecomputed h (ungrafted S) b proof start (listed es) computed
  plain None r = λ ok. r (fits_plain ok)
  plain (Some x) r = (plain_fits r.0, r.1 ∙ root_plain)

  pub recomputed_plain : (T : Layout) → T ≡ ungrafted S → (computed : Option (List ℕ))
      → IsRecomputed h T b proof start claim computed → IsRecomputed h (ungrafted S) b proof start (listed es) computed
  recomputed_plain T same computed r =
      plain computed (subst (λ U. IsRecomputed h U b proof start claim computed) same r)

  -- the same of what a call answered
  pub answered_plain : {D E : Type 0} (text : D → List ℕ) (r : Result (Option D) E) (T : Layout) → T ≡ ungrafted S
      → IfOk r (λ o. IsRecomputed h T b proof start claim (option_map text o))
      → IfOk r (λ o. IsRecomputed h (ungrafted S) b proof start (listed es) (option_map text o))
  answered_plain text r T same a = IfOk-weaker r (λ o. IsRecomputed h T b proof start claim (option_map text o))
      (λ o. IsRecomputed h (ungrafted S) b proof start (listed es) (option_map text o))
      (λ o x. recomputed_plain T same (option_map text o) x) a

pub answered_at : {D E : Type 0} (text : D → List ℕ) (r : Result (Option D) E) (h : HashFunction) (T : Layout)
    (b : Bagging) (ds es : List (List ℕ)) (leaves n start low : ℕ) → leaves ≡ n → start ≡ low
    → IfOk r (λ o. IsRecomputed h T b (record { leaves = leaves; inactive = 0; digests = ds }) start (listed es)
    (option_map text o)) → IfOk r (λ o.
    IsRecomputed h T b (record { leaves = n; inactive = 0; digests = ds }) low (listed es) (option_map text o))
answered_at text r h T b ds es leaves n start low e f a =
    subst (λ m. IfOk r (λ o.
    IsRecomputed h T b (record { leaves = m; inactive = 0; digests = ds }) low (listed es) (option_map text o))) e
    (subst (λ j. IfOk r (λ o. IsRecomputed h T b (record { leaves = leaves; inactive = 0; digests = ds }) j (listed es)
    (option_map text o))) f a)
