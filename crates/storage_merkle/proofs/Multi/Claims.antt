-- Locations that ascend, and those of the halves of a node.
use Rattle.std.proofs.Common.{◌≡◌, ◌≢◌, ℕ, zero, suc, ◌+◌, ◌<◌, ◌≤◌, ◌^◌, ◌↔◌, List, [], ◌∷◌, ◌++◌, length, map, get_or, take, drop, Bool, true, false, if◌then◌else◌, ◌||◌, ◌&&◌, not, refl, sym, ap, ap₂, ◌∙◌, arith, subst, leb, ltb, eqb, le-leb, ne_eqb}
use Rattle.std.specs.List.Sorted.{IsPartitionPoint, IsNonDecreasingBy}
use Rattle.std.proofs.lemmas.Bool.{le-ltb, lt-ltb, lt-leb, ltb-true, ltb-false}
use Rattle.std.proofs.lemmas.List.{map-append, drop_more, drop_all}
use Rattle.storage_codec.specs.Digests.{HashFunction}
use Rattle.storage_merkle.specs.Laws.Multiples.{pow_two}
use Rattle.storage_merkle.specs.Calc.{Site, node, given, leaf, be8, Values, eval}
use Rattle.storage_merkle.specs.Trees.{Layout, node_calc, join_calc}
use Rattle.storage_merkle.specs.Hashing.{join_digest}
use Rattle.storage_merkle.specs.Laws.Hashing.{eval-join}
use Rattle.storage_merkle.specs.Multi.{Claim, locations, claims_of, touched, untouched, Ascend, element_at}
use Rattle.storage_merkle.specs.MultiParts.{claimed_values}

-- ---- items whose places ascend

module _ {X : Type 0} (place : X → ℕ) where
  rises : (first n : ℕ) (xs : List X) → Ascend first n (map place xs) → (i : ℕ) (d : X) → i < length xs
      → first ≤ place (get_or xs i d)
  rises first n [] u i d l = absurd (omega arith)
  rises first n (x ∷ xs) u zero d l = u.0
  rises first n (x ∷ xs) u (suc i) d l = let a = u.0 in omega (arith, rises (place x + 1) n xs u.2 i d (omega arith))

  pub non_decreasing : (first n : ℕ) (xs : List X) → Ascend first n (map place xs) → IsNonDecreasingBy place xs
  non_decreasing first n [] u i j d le l = absurd (omega arith)
  non_decreasing first n (x ∷ xs) u zero zero d le l = omega arith
  non_decreasing first n (x ∷ xs) u zero (suc j) d le l = omega (arith, rises (place x + 1) n xs u.2 j d (omega arith))
  non_decreasing first n (x ∷ xs) u (suc i) zero d le l = absurd (omega arith)
  non_decreasing first n (x ∷ xs) u (suc i) (suc j) d le l =
      non_decreasing (place x + 1) n xs u.2 i j d (omega arith) (omega arith)

  split_ascends : (xs : List X) (i m first n : ℕ) → i ≤ length xs → ((k : ℕ) (d : X) → k < i
      → place (get_or xs k d) < m) → ((k : ℕ) (d : X) → i ≤ k → k < length xs → m ≤ place (get_or xs k d))
      → Ascend first n (map place xs) → Ascend first m (map place (take i xs)) × Ascend m n (map place (drop i xs))
  split_ascends [] zero m first n le f g u = (tt, tt)
  split_ascends [] (suc i) m first n le f g u = absurd (omega arith)
  split_ascends (x ∷ xs) zero m first n le f g u = (tt, (g 0 x (omega arith) (omega arith), u.1, u.2))
  split_ascends (x ∷ xs) (suc i) m first n le f g u =
      let r = split_ascends xs i m (place x + 1) n (omega arith) (λ k d l. f (suc k) d (omega arith))
      (λ k d a l. g (suc k) d (omega arith) (omega arith)) u.2 in
      ((u.0, f 0 x (omega arith), r.0), r.1)

  pub parts_ascend : (xs : List X) (i m first n : ℕ) → i ≤ length xs
      → IsPartitionPoint (λ y. ltb (place y) m ≡ true) (λ y. ltb (place y) m ≡ false) xs i
      → Ascend first n (map place xs) → Ascend first m (map place (take i xs)) × Ascend m n (map place (drop i xs))
  parts_ascend xs i m first n le p u =
      split_ascends xs i m first n le
      (λ k d l. ltb-true (place (get_or xs k d)) m (p.0 k d (omega arith) l))
      (λ k d a l. ltb-false (place (get_or xs k d)) m (p.1 k d a l)) u

  -- one after another
  abbrev pub Left : ℕ → ℕ → ℕ → List X → Type 0
  Left n first i xs = Ascend 0 n (map place xs) ↔ Ascend first n (map place (drop i xs))

  pub left_more : (n first i : ℕ) (x : X) (xs : List X) (l : ℕ) → i < length xs → x ≡ get_or xs i x → l ≡ place x
      → first ≤ l → l < n → Left n first i xs → Left n (l + 1) (i + 1) xs
  left_more n first i x xs l within e at low high f =
      let opened : drop i xs ≡ x ∷ drop (i + 1) xs =
      drop_more xs i x within ∙ ap (λ y. y ∷ drop (i + 1) xs) (sym e) in (
        λ u. let r : Ascend first n (map place (x ∷ drop (i + 1) xs)) =
            subst (λ ys. Ascend first n (map place ys)) opened (f.0 u) in
            subst (λ z. Ascend (z + 1) n (map place (drop (i + 1) xs))) (sym at) r.2,
        λ u. f.1 (subst (λ ys. Ascend first n (map place ys)) (sym opened) (
          omega arith,
          omega arith,
          subst (λ z. Ascend (z + 1) n (map place (drop (i + 1) xs))) at u,
        )),
      )

  pub left_refused : (n first i : ℕ) (x : X) (xs : List X) (l : ℕ) → i < length xs → x ≡ get_or xs i x → l ≡ place x
      → (first ≤ l → l < n → ⊥) → Left n first i xs → Ascend 0 n (map place xs) → ⊥
  left_refused n first i x xs l within e at bad f u =
      let opened : drop i xs ≡ x ∷ drop (i + 1) xs = drop_more xs i x within ∙ ap (λ y. y ∷ drop (i + 1) xs) (sym e) in
      let r : Ascend first n (map place (x ∷ drop (i + 1) xs)) =
      subst (λ ys. Ascend first n (map place ys)) opened (f.0 u) in
      let low = r.0 in
      let high = r.1 in
      bad (omega arith) (omega arith)

  pub left_none : (n first i : ℕ) (xs : List X) → length xs ≤ i → Left n first i xs → Ascend 0 n (map place xs)
  left_none n first i xs l f = f.1 (subst (λ ys. Ascend first n (map place ys)) (sym (drop_all i xs l)) tt)

-- ---- which nodes hold a location

touched-append : (ls rs : List ℕ) (a k : ℕ) → touched (ls ++ rs) a k ≡ (touched ls a k || touched rs a k)
touched-append [] rs a k = refl
touched-append (l ∷ ls) rs a k =
    elim (leb a l && ltb l (a + 2 ^ k)) as (λ b. (b || touched (ls ++ rs) a k)
    ≡ ((b || touched ls a k) || touched rs a k)) [ true ↦ refl | false ↦ touched-append ls rs a k ]

past_all : (first n : ℕ) (ls : List ℕ) (a k : ℕ) → Ascend first n ls → n ≤ a → touched ls a k ≡ false
past_all first n [] a k u le = refl
past_all first n (l ∷ ls) a k u le = let high = u.1 in rw (lt-leb a l (omega arith)) (past_all (l + 1) n ls a k u.2 le)

before_all : (first n : ℕ) (ls : List ℕ) (a k : ℕ) → Ascend first n ls → a + 2 ^ k ≤ first → touched ls a k ≡ false
before_all first n [] a k u le = refl
before_all first n (l ∷ ls) a k u le =
    let low = u.0 in
    let out : ltb l (a + 2 ^ k) ≡ false = le-ltb l (a + 2 ^ k) (omega arith) in
    elim (leb a l) as (λ b. ((b && ltb l (a + 2 ^ k)) || touched ls a k) ≡ false) [
      | true ↦ rw out (before_all (l + 1) n ls a k u.2 (omega arith))
      | false ↦ before_all (l + 1) n ls a k u.2 (omega arith)
    ]

or_false : (b : Bool) → (b || false) ≡ b
or_false true = refl
or_false false = refl

-- of locations below m and others from m on
module _ (ls rs : List ℕ) (first m n : ℕ) (ul : Ascend first m ls) (ur : Ascend m n rs) where
  pub touched_left : (a k : ℕ) → a + 2 ^ k ≤ m → touched (ls ++ rs) a k ≡ touched ls a k
  touched_left a k le =
      touched-append ls rs a k ∙ ap (λ b. touched ls a k || b) (before_all m n rs a k ur le) ∙ or_false (touched ls a k)

  pub touched_right : (a k : ℕ) → m ≤ a → touched (ls ++ rs) a k ≡ touched rs a k
  touched_right a k le = touched-append ls rs a k ∙ ap (λ b. b || touched rs a k) (past_all first m ls a k ul le)

pub untouched_none : (ls : List ℕ) (a k : ℕ) → ls ≡ [] → untouched ls a k ≡ true
untouched_none ls a k e = ap (λ xs. untouched xs a k) e

pub untouched_some : (ls : List ℕ) (a k : ℕ) → Ascend a (a + 2 ^ k) ls → ls ≢ [] → untouched ls a k ≡ false
untouched_some [] a k u ne = absurd (ne refl)
untouched_some (l ∷ ls) a k u ne = let low = u.0 in let high = u.1 in
    rw (le-leb a l low, lt-ltb l (a + 2 ^ k) high) refl

-- ---- calculations

-- cuts that are the same at and under a node
pub same_calc : (T : Layout) (cut cut' : ℕ → ℕ → Bool) (k a : ℕ)
    → ((b j : ℕ) → a ≤ b → b + 2 ^ j ≤ a + 2 ^ k → cut b j ≡ cut' b j) → node_calc T cut k a ≡ node_calc T cut' k a
same_calc T cut cut' zero a f = ap (λ x. if x then given (node a zero) else leaf (be8 (T.shape.position a zero)) a)
    (f a 0 (omega arith) (omega arith))
same_calc T cut cut' (suc k) a f =
    let l = same_calc T cut cut' k a (λ b j u v. f b j u (omega (arith, pow_two k))) in
    let r = same_calc T cut cut' k (a + 2 ^ k) (λ b j u v. f b j (omega arith) (omega (arith, pow_two k))) in
    ap (λ x. if x then given (node a (suc k)) else join_calc T a (suc k) (node_calc T cut k a)
    (node_calc T cut k (a + 2 ^ k))) (f a (suc k) (omega arith) (omega arith))
    ∙ ap₂ (λ x y. if cut' a (suc k) then given (node a (suc k)) else join_calc T a (suc k) x y) l r

-- elements that are the same at the leaves of a node
module _ (h : HashFunction) (T : Layout) (digest : Site → List ℕ) (chunk : ℕ → List ℕ) (cut : ℕ → ℕ → Bool) where
  abbrev with : (ℕ → List ℕ) → Values
  with e = record { digest = digest; element = e; chunk = chunk }

  pub same_eval : (e f : ℕ → List ℕ) (k a : ℕ) → ((j : ℕ) → a ≤ j → j < a + 2 ^ k → e j ≡ f j)
      → eval h (with e) (node_calc T cut k a) ≡ eval h (with f) (node_calc T cut k a)
  same_eval e f zero a s =
      elim (cut a zero) as (λ b.
      eval h (with e) (if b then given (node a zero) else leaf (be8 (T.shape.position a zero)) a)
      ≡ eval h (with f) (if b then given (node a zero) else leaf (be8 (T.shape.position a zero)) a)) [
        | true ↦ refl
        | false ↦ ap (λ x. h (be8 (T.shape.position a zero) ++ x)) (s a (omega arith) (omega arith))
      ]
  same_eval e f (suc k) a s =
      let l = node_calc T cut k a in
      let r = node_calc T cut k (a + 2 ^ k) in
      let el = same_eval e f k a (λ j u v. s j u (omega (arith, pow_two k))) in
      let er = same_eval e f k (a + 2 ^ k) (λ j u v. s j (omega arith) (omega (arith, pow_two k))) in
      elim (cut a (suc k)) as (λ b. eval h (with e) (if b then given (node a (suc k)) else join_calc T a (suc k) l r)
      ≡ eval h (with f) (if b then given (node a (suc k)) else join_calc T a (suc k) l r)) [
        | true ↦ refl
        | false ↦ eval-join h (with e) T a (suc k) l r ∙ ap₂ (join_digest h T chunk a (suc k)) el er
            ∙ sym (eval-join h (with f) T a (suc k) l r)
      ]

-- ---- claims

element-append : (cs ds : List Claim) (j : ℕ) → ((i : ℕ) → i ≡ j → element_at ds i ≡ [])
    → element_at (cs ++ ds) j ≡ element_at cs j
element-append [] ds j none = none j refl
element-append (c ∷ cs) ds j none =
    elim (eqb c.location j) as (λ b. (if b then c.element else element_at (cs ++ ds) j)
    ≡ (if b then c.element else element_at cs j)) [ true ↦ refl | false ↦ element-append cs ds j none ]

element-before : (m n : ℕ) (ds : List Claim) → Ascend m n (locations ds) → (j : ℕ) → j < m → element_at ds j ≡ []
element-before m n [] u j l = refl
element-before m n (d ∷ ds) u j l =
    let low = u.0 in
    let ne : d.location ≢ j = omega arith in
    rw (ne_eqb d.location j ne) (element-before (d.location + 1) n ds u.2 j (omega arith))

element-past : (first m : ℕ) (cs ds : List Claim) → Ascend first m (locations cs) → (j : ℕ) → m ≤ j
    → element_at (cs ++ ds) j ≡ element_at ds j
element-past first m [] ds u j l = refl
element-past first m (c ∷ cs) ds u j l =
    let high = u.1 in
    let ne : c.location ≢ j = omega arith in
    rw (ne_eqb c.location j ne) (element-past (c.location + 1) m cs ds u.2 j l)

-- of claims below m and others from m on
module _ (cs ds : List Claim) (first m n : ℕ) (uc : Ascend first m (locations cs))
    (ud : Ascend m n (locations ds)) where
  element_left : (j : ℕ) → j < m → element_at (cs ++ ds) j ≡ element_at cs j
  element_left j l = element-append cs ds j (λ i e. element-before m n ds ud i (omega arith))

  cut_left : (a k : ℕ) → a + 2 ^ k ≤ m → untouched (locations (cs ++ ds)) a k ≡ untouched (locations cs) a k
  cut_left a k le = ap (λ ls. untouched ls a k) (map-append (λ c. c.location) cs ds)
      ∙ ap not (touched_left (locations cs) (locations ds) first m n uc ud a k le)

  cut_right : (a k : ℕ) → m ≤ a → untouched (locations (cs ++ ds)) a k ≡ untouched (locations ds) a k
  cut_right a k le = ap (λ ls. untouched ls a k) (map-append (λ c. c.location) cs ds)
      ∙ ap not (touched_right (locations cs) (locations ds) first m n uc ud a k le)

  module _ (T : Layout) (k a : ℕ) where
    pub calc_left : a + 2 ^ k ≤ m
        → node_calc T (untouched (locations (cs ++ ds))) k a ≡ node_calc T (untouched (locations cs)) k a
    calc_left le = same_calc T _ _ k a (λ b j u v. cut_left b j (omega arith))

    pub calc_right : m ≤ a
        → node_calc T (untouched (locations (cs ++ ds))) k a ≡ node_calc T (untouched (locations ds)) k a
    calc_right le = same_calc T _ _ k a (λ b j u v. cut_right b j (omega arith))

    module _ (h : HashFunction) (digest : Site → List ℕ) (chunk : ℕ → List ℕ) where
      pub eval_left : a + 2 ^ k ≤ m
          → eval h (claimed_values digest (cs ++ ds) chunk) (node_calc T (untouched (locations (cs ++ ds))) k a)
          ≡ eval h (claimed_values digest cs chunk) (node_calc T (untouched (locations cs)) k a)
      eval_left le =
          ap (eval h (claimed_values digest (cs ++ ds) chunk)) (calc_left le)
          ∙ same_eval h T digest chunk (untouched (locations cs)) (element_at (cs ++ ds)) (element_at cs) k a
          (λ j u v. element_left j (omega arith))

      pub eval_right : m ≤ a
          → eval h (claimed_values digest (cs ++ ds) chunk) (node_calc T (untouched (locations (cs ++ ds))) k a)
          ≡ eval h (claimed_values digest ds chunk) (node_calc T (untouched (locations ds)) k a)
      eval_right le =
          ap (eval h (claimed_values digest (cs ++ ds) chunk)) (calc_right le)
          ∙ same_eval h T digest chunk (untouched (locations ds)) (element_at (cs ++ ds)) (element_at ds) k a
          (λ j u v. element-past first m cs ds uc j (omega arith))

pub locations-claims : {E : Type 0} (items : E → List ℕ) (cs : List (E × ℕ))
    → locations (claims_of items cs) ≡ map (λ c. c.1) cs
locations-claims items [] = refl
locations-claims items (c ∷ cs) = ap (λ ls. c.1 ∷ ls) (locations-claims items cs)
