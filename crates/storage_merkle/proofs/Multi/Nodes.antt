-- The nodes of a check of a multi proof: their digests from the claimed elements and the digests that are given.
use Rattle.std.proofs.Common.{◌≡◌, ◌≢◌, ℕ, zero, suc, ◌+◌, ◌-◌, ◌≤◌, ◌^◌, List, [], ◌∷◌, ◌++◌, length, map, get_or, Contains, true, false, ◌==◌, refl, sym, ap, ap₂, ◌∙◌, arith, subst, eq-eqb, append_assoc}
use Rattle.std.proofs.lemmas.List.{map-append}
use Rattle.storage_codec.specs.Digests.{HashFunction}
use Rattle.storage_merkle.specs.Laws.Multiples.{pow_two}
use Rattle.storage_merkle.specs.Shape.{Shape}
use Rattle.storage_merkle.specs.Calc.{Site, node, be8, eval}
use Rattle.storage_merkle.specs.Trees.{Layout, Peak, places, node_calc, part, ungrafted}
use Rattle.storage_merkle.specs.RangeProofs.{sites_of, sites_in}
use Rattle.storage_merkle.specs.Hashing.{join_digest}
use Rattle.storage_merkle.specs.Laws.Hashing.{eval-join}
use Rattle.storage_merkle.specs.CheckParts.{Present}
use Rattle.storage_merkle.specs.Multi.{Claim, locations, claims_of, untouched, Ascend, element_at}
use Rattle.storage_merkle.specs.MultiParts.{claimed_values}
use Rattle.storage_merkle.proofs.Siblings.{sites-cut, sites-halves}
use Rattle.storage_merkle.proofs.Check.Nodes.{present_append}
use Rattle.storage_merkle.proofs.Peaks.{Walk}
use Rattle.storage_merkle.proofs.Multi.Claims.{calc_left, calc_right, eval_left, eval_right, untouched_none, untouched_some, locations-claims}
use Rattle.storage_merkle.proofs.Multi.Needed.{not_empty, is_empty}

-- claims below m and others from m on
record Parted (C A B : List Claim) (first m n : ℕ) : Type 0 where
  whole : C ≡ A ++ B
  left : Ascend first m (locations A)
  right : Ascend m n (locations B)

module _ (T : Layout) {C A B : List Claim} {first m n : ℕ} (parted : Parted C A B first m n) where
  calc_of_left : (k a : ℕ) → a + 2 ^ k ≤ m
      → node_calc T (untouched (locations C)) k a ≡ node_calc T (untouched (locations A)) k a
  calc_of_left k a le = ap (λ cs. node_calc T (untouched (locations cs)) k a) parted.whole
      ∙ calc_left A B first m n parted.left parted.right T k a le

  calc_of_right : (k a : ℕ) → m ≤ a
      → node_calc T (untouched (locations C)) k a ≡ node_calc T (untouched (locations B)) k a
  calc_of_right k a le = ap (λ cs. node_calc T (untouched (locations cs)) k a) parted.whole
      ∙ calc_right A B first m n parted.left parted.right T k a le

  sites_of_right : (s : ℕ) (ks : List ℕ) → m ≤ s
      → sites_in T (untouched (locations C)) (places s ks) ≡ sites_in T (untouched (locations B)) (places s ks)
  sites_of_right s [] le = refl
  sites_of_right s (k ∷ ks) le =
      ap₂ (λ x y. sites_of x ++ y) (calc_of_right k s le) (sites_of_right (s + 2 ^ k) ks (omega arith))

  module _ (h : HashFunction) (digest : Site → List ℕ) (chunk : ℕ → List ℕ) where
    abbrev value : List Claim → ℕ → ℕ → List ℕ
    value cs k a = eval h (claimed_values digest cs chunk) (node_calc T (untouched (locations cs)) k a)

    value_of_left : (k a : ℕ) → a + 2 ^ k ≤ m → value C k a ≡ value A k a
    value_of_left k a le =
        ap (λ cs. value cs k a) parted.whole ∙ eval_left A B first m n parted.left parted.right T k a h digest chunk le

    value_of_right : (k a : ℕ) → m ≤ a → value C k a ≡ value B k a
    value_of_right k a le =
        ap (λ cs. value cs k a) parted.whole ∙ eval_right A B first m n parted.left parted.right T k a h digest chunk le

    values_of_right : (s : ℕ) (ks : List ℕ) → m ≤ s
        → map (λ p. value C p.height p.first) (places s ks) ≡ map (λ p. value B p.height p.first) (places s ks)
    values_of_right s [] le = refl
    values_of_right s (k ∷ ks) le =
        ap₂ (λ x xs. x ∷ xs) (value_of_right k s le) (values_of_right (s + 2 ^ k) ks (omega arith))

module _ {E : Type 0} (items : E → List ℕ) where
  abbrev pub at_of : List (E × ℕ) → List ℕ
  at_of cs = locations (claims_of items cs)

  none_there : (cs : List (E × ℕ)) (a k : ℕ) → true ≡ (length cs == 0) → untouched (at_of cs) a k ≡ true
  none_there cs a k e = untouched_none (at_of cs) a k (ap at_of (is_empty cs e))

  some_there : (cs : List (E × ℕ)) (a k : ℕ) → false ≡ (length cs == 0) → Ascend a (a + 2 ^ k) (at_of cs)
      → untouched (at_of cs) a k ≡ false
  some_there [] a k e up = absurd (not_empty {X = E × ℕ} [] e refl)
  some_there (c ∷ cs) a k e up = untouched_some (at_of (c ∷ cs)) a k up (λ n. absurd (cc))

  -- a split of items whose locations ascend
  abbrev pub IsSplit : List (E × ℕ) → List (E × ℕ) → List (E × ℕ) → ℕ → Type 0
  IsSplit cs xs ys m = (first end : ℕ) → Ascend first end (map (λ c. c.1) cs) → m ≤ end
      → Ascend first m (map (λ c. c.1) xs) × Ascend m end (map (λ c. c.1) ys)

  parted : (cs xs ys : List (E × ℕ)) (first m n : ℕ) → cs ≡ xs ++ ys → IsSplit cs xs ys m → Ascend first n (at_of cs)
      → m ≤ n → Parted (claims_of items cs) (claims_of items xs) (claims_of items ys) first m n
  parted cs xs ys first m n whole split up le =
      let p = split first n (subst (Ascend first n) (locations-claims items cs) up) le in
      record {
        whole = ap (claims_of items) whole
            ∙ map-append (λ (c : E × ℕ). record { location = c.1; element = items c.0 }) xs ys;
        left = subst (Ascend first m) (sym (locations-claims items xs)) p.0;
        right = subst (Ascend m n) (sym (locations-claims items ys)) p.1;
      }

  -- the claims in the halves of a node
  pub halves_rise : (cs xs ys : List (E × ℕ)) (a k m : ℕ) → k ≢ 0 → m ≡ a + 2 ^ (k - 1) → cs ≡ xs ++ ys
      → IsSplit cs xs ys m → Ascend a (a + 2 ^ k) (at_of cs)
      → Ascend a (a + 2 ^ (k - 1)) (at_of xs) × Ascend (a + 2 ^ (k - 1)) (a + 2 ^ (k - 1) + 2 ^ (k - 1)) (at_of ys)
  halves_rise cs xs ys a zero m ne em whole split up = absurd (ne refl)
  halves_rise cs xs ys a (suc k) m ne em whole split up =
      let less : suc k - 1 ≡ k = omega arith in
      let em' : m ≡ a + 2 ^ k = em ∙ ap (λ j. a + 2 ^ j) less in
      let p = parted cs xs ys a m (a + 2 ^ suc k) whole split up (omega (arith, pow_two k)) in
      let end : a + 2 ^ suc k ≡ a + 2 ^ k + 2 ^ k = omega (arith, pow_two k) in
      let l : Ascend a (a + 2 ^ k) (at_of xs) = subst (λ z. Ascend a z (at_of xs)) em' p.left in
      let r : Ascend (a + 2 ^ k) (a + 2 ^ k + 2 ^ k) (at_of ys) = subst (λ z. Ascend (a + 2 ^ k) z (at_of ys)) end
      (subst (λ z. Ascend z (a + 2 ^ suc k) (at_of ys)) em' p.right) in
      rw less (l, r)

  -- those in a peak of q leaves, and those past it
  pub peak_rises : (cs xs ys : List (E × ℕ)) (s m n q : ℕ) → m ≡ s + q → s + q ≤ n → cs ≡ xs ++ ys → IsSplit cs xs ys m
      → Ascend s n (at_of cs) → Ascend s (s + q) (at_of xs) × Ascend (s + q) n (at_of ys)
  peak_rises cs xs ys s m n q em le whole split up =
      let p = parted cs xs ys s m n whole split up (omega arith) in
      (subst (λ z. Ascend s z (at_of xs)) em p.left, subst (λ z. Ascend z n (at_of ys)) em p.right)

  module _ (S : Shape) (ps : List ℕ) where
    abbrev There : List (E × ℕ) → ℕ → ℕ → Type 0
    There cs k a = Present S ps (sites_of (node_calc (ungrafted S) (untouched (at_of cs)) k a))

    abbrev pub ThereIn : List (E × ℕ) → List Peak → Type 0
    ThereIn cs qs = Present S ps (sites_in (ungrafted S) (untouched (at_of cs)) qs)

    pub given_itself : (cs : List (E × ℕ)) (k a p : ℕ) → true ≡ (length cs == 0) → p ≡ S.position a k → There cs k a
        → Contains ps p
    given_itself cs k a p none at there =
        let here : Present S ps (node a k ∷ []) =
        subst (Present S ps) (sites-cut (ungrafted S) (untouched (at_of cs)) k a (none_there cs a k none)) there in
        subst (Contains ps) (sym at) here.0

    pub given_halves : (cs xs ys : List (E × ℕ)) (k a m : ℕ) → false ≡ (length cs == 0) → k ≢ 0 → m ≡ a + 2 ^ (k - 1)
        → cs ≡ xs ++ ys → IsSplit cs xs ys m → Ascend a (a + 2 ^ k) (at_of cs) → There cs k a
        → There xs (k - 1) a × There ys (k - 1) (a + 2 ^ (k - 1))
    given_halves cs xs ys zero a m some ne em whole split up there = absurd (ne refl)
    given_halves cs xs ys (suc k) a m some ne em whole split up there =
        let less : suc k - 1 ≡ k = omega arith in
        let em' : m ≡ a + 2 ^ k = em ∙ ap (λ j. a + 2 ^ j) less in
        let p = parted cs xs ys a m (a + 2 ^ suc k) whole split up (omega (arith, pow_two k)) in
        let U = ungrafted S in
        let out = some_there cs a (suc k) some up in
        let both : Present S ps (sites_of (node_calc U (untouched (at_of cs)) k a))
        × Present S ps (sites_of (node_calc U (untouched (at_of cs)) k (a + 2 ^ k))) =
        present_append S ps _ _ (subst (Present S ps) (sites-halves U (untouched (at_of cs)) k a out) there) in
        let l : There xs k a = subst (λ c. Present S ps (sites_of c)) (calc_of_left U p k a (omega arith)) both.0 in
        let r : There ys k (a + 2 ^ k) =
        subst (λ c. Present S ps (sites_of c)) (calc_of_right U p k (a + 2 ^ k) (omega arith)) both.1 in
        rw less (l, r)

    pub given_peak : (cs xs ys : List (E × ℕ)) (p : Peak) (qs rs : List Peak) (m n : ℕ) (rest : Walk n rs) → qs ≡ p ∷ rs
        → rest.first ≡ p.first + 2 ^ p.height → m ≡ p.first + 2 ^ p.height → p.first + 2 ^ p.height ≤ n → cs ≡ xs ++ ys
        → IsSplit cs xs ys m → Ascend p.first n (at_of cs) → ThereIn cs qs
        → There xs p.height p.first × ThereIn ys rs
    given_peak cs xs ys p qs rs m n rest first next em le whole split up there =
        let U = ungrafted S in
        let q = parted cs xs ys p.first m n whole split up (omega arith) in
        let both = present_append S ps _ _ (subst (ThereIn cs) first there) in
        let later : sites_in U (untouched (at_of cs)) rs ≡ sites_in U (untouched (at_of ys)) rs =
        ap (sites_in U (untouched (at_of cs))) rest.are ∙ sites_of_right U q rest.first rest.heights (omega arith)
        ∙ ap (sites_in U (untouched (at_of ys))) (sym rest.are) in (
          subst (λ c. Present S ps (sites_of c)) (calc_of_left U q p.height p.first (omega arith)) both.0,
          subst (Present S ps) later both.1,
        )

  module _ (h : HashFunction) (T : Layout) (digest : Site → List ℕ) (chunk : ℕ → List ℕ) where
    abbrev pub value_of : List (E × ℕ) → ℕ → ℕ → List ℕ
    value_of cs k a = eval h (claimed_values digest (claims_of items cs) chunk) (node_calc T (untouched (at_of cs)) k a)

    eval-cut : (cs : List (E × ℕ)) (k a : ℕ) → untouched (at_of cs) a k ≡ true → value_of cs k a ≡ digest (node a k)
    eval-cut cs zero a e = rw e refl
    eval-cut cs (suc k) a e = rw e refl

    eval-inner : (cs : List (E × ℕ)) (k a : ℕ) → untouched (at_of cs) a (suc k) ≡ false
        → value_of cs (suc k) a ≡ join_digest h T chunk a (suc k) (value_of cs k a) (value_of cs k (a + 2 ^ k))
    eval-inner cs k a e = rw e (eval-join h (claimed_values digest (claims_of items cs) chunk) T a (suc k)
        (node_calc T (untouched (at_of cs)) k a) (node_calc T (untouched (at_of cs)) k (a + 2 ^ k)))

    pub node_given : (cs : List (E × ℕ)) (k a : ℕ) (x : List ℕ) → true ≡ (length cs == 0) → x ≡ digest (node a k)
        → x ≡ value_of cs k a
    node_given cs k a x none e = e ∙ sym (eval-cut cs k a (none_there cs a k none))

    pub node_leaf : (S : Shape) (cs : List (E × ℕ)) (c : E × ℕ) (k a p : ℕ) (x e : List ℕ) → T.shape ≡ S
        → false ≡ (length cs == 0) → k ≡ 0 → Ascend a (a + 2 ^ k) (at_of cs) → c ≡ get_or cs 0 c → p ≡ S.position a k
        → x ≡ h (be8 p ++ e) → e ≡ items c.0 → x ≡ value_of cs k a
    node_leaf S [] c k a p x e same some z up at ep f g = absurd (not_empty {X = E × ℕ} [] some refl)
    node_leaf S (d ∷ cs) c (suc k) a p x e same some z up at ep f g = absurd (omega arith)
    node_leaf S (d ∷ cs) c zero a p x e same some z up at ep f g =
        let low = up.0 in
        let high = up.1 in
        let here : d.1 ≡ a = omega arith in
        let out = some_there (d ∷ cs) a zero some up in
        let found : element_at (claims_of items (d ∷ cs)) a ≡ items d.0 = rw (eq-eqb d.1 a here) refl in
        let whole : value_of (d ∷ cs) zero a
        ≡ h (be8 (T.shape.position a 0) ++ element_at (claims_of items (d ∷ cs)) a) = rw out refl in
        f ∙ ap₂ (λ q y. h (be8 q ++ y)) (ep
        ∙ ap (λ (U : Shape). U.position a 0) (sym same)) (g ∙ ap (λ b. items b.0) at ∙ sym found) ∙ sym whole

    pub node_halves : (cs xs ys : List (E × ℕ)) (k a m : ℕ) (x l r : List ℕ) → false ≡ (length cs == 0) → k ≢ 0
        → m ≡ a + 2 ^ (k - 1) → cs ≡ xs ++ ys → IsSplit cs xs ys m → Ascend a (a + 2 ^ k) (at_of cs) → l
        ≡ value_of xs (k - 1) a → r ≡ value_of ys (k - 1) m → x ≡ join_digest h T chunk a k l r → x ≡ value_of cs k a
    node_halves cs xs ys zero a m x l r some ne em whole split up e f g = absurd (ne refl)
    node_halves cs xs ys (suc k) a m x l r some ne em whole split up e f g =
        let less : suc k - 1 ≡ k = omega arith in
        let em' : m ≡ a + 2 ^ k = em ∙ ap (λ j. a + 2 ^ j) less in
        let p = parted cs xs ys a m (a + 2 ^ suc k) whole split up (omega (arith, pow_two k)) in
        let e' : l ≡ value_of cs k a =
        e ∙ ap (λ j. value_of xs j a) less ∙ sym (value_of_left T p h digest chunk k a (omega arith)) in
        let f' : r ≡ value_of cs k (a + 2 ^ k) = f ∙ ap₂ (λ j z. value_of ys j z) less em'
        ∙ sym (value_of_right T p h digest chunk k (a + 2 ^ k) (omega arith)) in
        g ∙ ap₂ (join_digest h T chunk a (suc k)) e' f' ∙ sym (eval-inner cs k a (some_there cs a (suc k) some up))

    abbrev pub values_in : List (E × ℕ) → List Peak → List (List ℕ)
    values_in cs qs =
        map (λ p. eval h (claimed_values digest (claims_of items cs) chunk) (part T (untouched (at_of cs)) p)) qs

    pub peaks_more : {D : Type 0} (text : D → List ℕ) (cs xs ys : List (E × ℕ)) (p : Peak) (qs rs : List Peak) (m n : ℕ)
        (rest : Walk n rs) (d : D) (old mid : List D) (all : List (List ℕ)) → qs ≡ p ∷ rs
        → rest.first ≡ p.first + 2 ^ p.height → m ≡ p.first + 2 ^ p.height → p.first + 2 ^ p.height ≤ n → cs ≡ xs ++ ys
        → IsSplit cs xs ys m → Ascend p.first n (at_of cs) → mid ≡ old ++ d ∷ [] → text d ≡ value_of xs p.height p.first
        → map text old ++ values_in cs qs ≡ all → map text mid ++ values_in ys rs ≡ all
    peaks_more text cs xs ys p qs rs m n rest d old mid all first next em le whole split up pushed e f =
        let q = parted cs xs ys p.first m n whole split up (omega arith) in
        let here : text d ≡ value_of cs p.height p.first =
        e ∙ sym (value_of_left T q h digest chunk p.height p.first (omega arith)) in
        let later : values_in ys rs ≡ values_in cs rs = ap (values_in ys) rest.are
        ∙ sym (values_of_right T q h digest chunk rest.first rest.heights (omega arith))
        ∙ ap (values_in cs) (sym rest.are) in
        ap₂ (λ us vs. us ++ vs) (ap (map text) pushed ∙ map-append text old (d ∷ [])) later
        ∙ append_assoc (map text old) (text d ∷ []) (values_in cs rs)
        ∙ ap (λ z. map text old ++ z ∷ values_in cs rs) here
        ∙ ap (λ os. map text old ++ values_in cs os) (sym first) ∙ f
