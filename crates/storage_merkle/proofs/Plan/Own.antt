-- The digests that a plan gathers are those of the tree's own proof.
use Rattle.std.proofs.Common.{◌≡◌, ℕ, zero, suc, List, [], ◌∷◌, length, map, inl, inr, refl, sym, ap, ap₂, ◌∙◌, arith, subst, Option, Some, None}
use Rattle.std.specs.List.{AllZip, All, Contains}
use Rattle.storage_codec.specs.Digests.{HashFunction}
use Rattle.storage_merkle.specs.Shape.{Shape}
use Rattle.storage_merkle.specs.Calc.{Site, front, back, node, eval}
use Rattle.storage_merkle.specs.declared.merkle.bagging.Bagging.{Bagging}
use Rattle.storage_merkle.specs.Trees.{Layout, ungrafted, Content, Peak, peaks_of, whole_peak, bag, folded, unfolded, plain, tree_node}
use Rattle.storage_merkle.specs.RangeProofs.{Proof, leading, trailing, sites, fold_digest, own_digest, own_proof}
use Rattle.storage_merkle.specs.Rests.{peaks_from}
use Rattle.storage_merkle.specs.Hashing.{folded_forward, folded_backward}
use Rattle.storage_merkle.specs.Laws.Hashing.{eval-forward, eval-backward}
use Rattle.storage_merkle.specs.Hashers.{folded_onto, forward_of}
use Rattle.storage_merkle.specs.Nodes.{IsNode}
use Rattle.storage_merkle.specs.Plans.{PlanOf, AnswersAre, AnswersAreOf, gathered_proof}
use Rattle.storage_merkle.specs.PlanParts.{AreOf, StandsAt, digest_or, peaks_by, site_digest}
use Rattle.storage_merkle.proofs.Folds.{onto_none}
use Rattle.storage_merkle.proofs.Check.Roots.{plain_sites}

-- ---- the same digests

map_same : (f g : Site → List ℕ) (e : (s : Site) → f s ≡ g s) (ss : List Site) → map f ss ≡ map g ss
map_same f g e [] = refl
map_same f g e (s ∷ ss) = ap₂ (λ x xs. x ∷ xs) (e s) (map_same f g e ss)

module _ (h : HashFunction) (T : Layout) (content : Content) where
  abbrev own_node : ℕ → ℕ → List ℕ
  own_node a k = tree_node h T content a k

  wholes : (ps : List Peak) → map (eval h (plain h content)) (map (whole_peak T) ps) ≡ peaks_by own_node ps
  wholes [] = refl
  wholes (p ∷ ps) = ap (λ ds. own_node p.first p.height ∷ ds) (wholes ps)

  front_own : (ls : List Peak) → fold_digest h (plain h content) (bag (map (whole_peak T) ls) [])
      ≡ digest_or (h []) (forward_of h (peaks_by own_node ls))
  front_own [] = refl
  front_own (p ∷ ps) = eval-forward h (plain h content) (whole_peak T p) (map (whole_peak T) ps)
      ∙ ap (folded_forward h (own_node p.first p.height)) (wholes ps)

  back_own : (ts : List Peak) → fold_digest h (plain h content) (bag [] (map (whole_peak T) ts))
      ≡ digest_or (h []) (folded_onto h (peaks_by own_node ts) None)
  back_own [] = refl
  back_own (p ∷ ps) =
      eval-backward h (plain h content) (whole_peak T p) (map (whole_peak T) ps)
      ∙ ap (folded_backward h (own_node p.first p.height)) (wholes ps)
      ∙ ap (digest_or (h [])) (sym (onto_none h (own_node p.first p.height) (peaks_by own_node ps)))

  module _ (b : Bagging) (n i low high : ℕ) where
    abbrev xs : List Peak
    xs = folded b i (peaks_of T n)

    abbrev ys : List Peak
    ys = unfolded b i (peaks_of T n)

    site_own : (s : Site) → own_digest h T b content n i low high s ≡ site_digest low high xs ys h own_node s
    site_own front = front_own (leading low xs)
    site_own back = back_own (trailing high ys)
    site_own (node a k) = refl

    digests_own : (texts : List (List ℕ))
        → texts ≡ map (site_digest low high xs ys h own_node) (sites (ungrafted T.shape) low high b n i)
        → texts ≡ map (own_digest h T b content n i low high) (sites T low high b n i)
    digests_own texts e = e ∙ ap (map (site_digest low high xs ys h own_node)) (sym (plain_sites T low high b n i))
        ∙ sym (map_same (own_digest h T b content n i low high) (site_digest low high xs ys h own_node) site_own
        (sites T low high b n i))

-- the tree's own proof, field for field
pub is_own : (h : HashFunction) (S : Shape) (T : Layout) → T.shape ≡ S
    → (b : Bagging) (content : Content) (n i low high leaves inactive : ℕ) (texts : List (List ℕ))
    → length content.elements ≡ n → leaves ≡ n → inactive ≡ i → texts ≡ map
    (site_digest low high (folded b i (peaks_from S 0 n)) (unfolded b i (peaks_from S 0 n)) h (tree_node h T content))
    (sites (ungrafted S) low high b n i) → ◌≡◌ {A = Proof}
    (record { leaves = leaves; inactive = inactive; digests = texts }) (own_proof h T b content i low high)
is_own h S T es b content n i low high leaves inactive texts en el ei e =
    let Q : Shape → ℕ → Type 0 = λ R m. texts ≡ map (site_digest low high (folded b i (peaks_from R 0 m))
    (unfolded b i (peaks_from R 0 m)) h (tree_node h T content)) (sites (ungrafted R) low high b m i) in
    let here : Q T.shape (length content.elements) =
    subst (λ m. Q T.shape m) (sym en) (subst (λ R. Q R n) (sym es) e) in
    let gathered = digests_own h T content b (length content.elements) i low high texts here in
    let counts : leaves ≡ length content.elements = el ∙ sym en in
    ap₂ (λ (l : ℕ) (ds : List (List ℕ)). record { leaves = l; inactive = inactive; digests = ds }) counts gathered
    ∙ ap (λ (j : ℕ). record {
      leaves = length content.elements;
      inactive = j;
      digests = map (own_digest h T b content
          (length content.elements) i low high) (sites T low high b (length content.elements) i);
    }) ei

-- the proof gathered from any digests
pub is_gathered : (h : HashFunction) (S : Shape) (b : Bagging) (digest_of : ℕ → ℕ → List ℕ) (plan : PlanOf)
    (i leaves inactive : ℕ) (texts : List (List ℕ)) → leaves ≡ plan.leaves → inactive ≡ i
    → texts ≡ (gathered_proof h S b digest_of plan i).digests → ◌≡◌ {A = Proof}
    (record { leaves = leaves; inactive = inactive; digests = texts }) (gathered_proof h S b digest_of plan i)
is_gathered h S b digest_of plan i leaves inactive texts el ei e =
    ap₂ (λ (l : ℕ) (ds : List (List ℕ)). record { leaves = l; inactive = inactive; digests = ds }) el e
    ∙ ap (λ (j : ℕ). record {
      leaves = plan.leaves;
      inactive = j;
      digests = (gathered_proof h S b digest_of plan i).digests;
    }) ei

-- ---- what is answered at the planned positions

module _ {D : Type 0} (A : ℕ → D → Type 0) where
  answered_at : (ps : List ℕ) (ds : List D) → AllZip A ps ds → (p : ℕ) (d : D) → StandsAt ps ds p d
      → Contains ps p × A p d
  answered_at [] ds z p d s = absurd s
  answered_at (q ∷ qs) [] z p d s = absurd s
  answered_at (q ∷ qs) (e ∷ es) z p d (inl s) =
      ((0, omega arith, sym s.0), subst (λ x. A x d) (sym s.0) (subst (λ x. A q x) (sym s.1) z.0))
  answered_at (q ∷ qs) (e ∷ es) z p d (inr s) = let r = answered_at qs es z.1 p d s in
      ((suc r.0.0, omega (arith, r.0.1), r.0.2), r.1)

  pub each_answered : (ps : List ℕ) (ds : List D) → AllZip A ps ds → All (λ p. (d : D) × A p d) ps
  each_answered [] ds z k x l = absurd (omega arith)
  each_answered (q ∷ qs) [] z k x l = absurd z
  each_answered (q ∷ qs) (e ∷ es) z zero x l = (e, z.0)
  each_answered (q ∷ qs) (e ∷ es) z (suc k) x l = each_answered qs es z.1 k x (omega arith)

  pub as_many : (ps : List ℕ) (ds : List D) → AllZip A ps ds → length ds ≡ length ps
  as_many [] [] z = refl
  as_many [] (e ∷ es) z = absurd z
  as_many (q ∷ qs) [] z = absurd z
  as_many (q ∷ qs) (e ∷ es) z = ap suc (as_many qs es z.1)

pub are_of_any : {D : Type 0} (text : D → List ℕ) (answers : ℕ → Option D → Type 0) (S : Shape) (digest_of : ℕ → ℕ → List ℕ)
    (ps : List ℕ) (ds : List D) → AllZip (λ p d. answers p (Some d)) ps ds → AnswersAreOf text answers ps S digest_of
    → AreOf text S ps ds digest_of
are_of_any text answers S digest_of ps ds z are p a k d s is =
    let r = answered_at (λ q x. answers q (Some x)) ps ds z p d s in are p a k d r.0 is r.1

pub are_of : {D : Type 0} (text : D → List ℕ) (answers : ℕ → Option D → Type 0) (h : HashFunction) (S : Shape)
    (T : Layout) (content : Content) → T.shape ≡ S → (ps : List ℕ) (ds : List D)
    → AllZip (λ p d. answers p (Some d)) ps ds → AnswersAre text answers ps h T content
    → AreOf text S ps ds (tree_node h T content)
are_of text answers h S T content e ps ds z are = are_of_any text answers S (tree_node h T content) ps ds z
    (λ p a k d c is r. are p a k d c (subst (λ R. IsNode R p a k) (sym e) is) r)
