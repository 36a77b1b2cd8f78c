-- The nodes of a pinned check: which are pinned, and their digests.
use Rattle.std.proofs.Common.{◌≡◌, ◌≢◌, ℕ, zero, suc, ◌+◌, ◌-◌, ◌<◌, ◌≤◌, ◌^◌, List, [], ◌∷◌, length, Bool, true, false, ◌&&◌, ◌||◌, ◌⊎◌, inl, inr, refl, sym, ap, ap₂, ◌∙◌, arith, subst, eqb, eq-eqb, ne_eqb, eqb-true}
use Rattle.storage_codec.specs.Digests.{HashFunction}
use Rattle.storage_merkle.specs.Shape.{Shape}
use Rattle.storage_merkle.specs.Calc.{node, Values, eval}
use Rattle.storage_merkle.specs.Trees.{Layout, places, node_calc}
use Rattle.storage_merkle.specs.RangeProofs.{look_up}
use Rattle.storage_merkle.specs.Rests.{peaks_from}
use Rattle.storage_merkle.specs.Hashing.{join_digest}
use Rattle.storage_merkle.specs.Laws.Hashing.{eval-join}
use Rattle.storage_merkle.specs.Pinned.{stands_in, peak_sites}
use Rattle.storage_merkle.specs.PinnedParts.{is_pinned, pinned_digest, digest_before}
use Rattle.storage_merkle.proofs.Plan.Folds.{opened}
use Rattle.storage_merkle.proofs.Extracted.{tells}

-- the pinned digest of a node, from the first of some peaks on
module _ (S : Shape) (a k : ℕ) where
  abbrev pub stands : ℕ → ℕ → Bool
  stands s r = stands_in (peaks_from S s r) a k

  abbrev pub digest_from : List ℕ → ℕ → ℕ → List (List ℕ) → List ℕ
  digest_from none s r ds = look_up none (peak_sites (peaks_from S s r)) ds (node a k)

  -- the same answers from a later peak on
  pub record Goes (start : ℕ) (pinned : List (List ℕ)) (s : ℕ) (left : List (List ℕ)) : Type 0 where
    pub within : s ≤ start
    pub count : length left ≡ length (S.peaks (start - s))
    pub stand : stands 0 start ≡ stands s (start - s)
    pub read : (none : List ℕ) → digest_from none 0 start pinned ≡ digest_from none s (start - s) left

  pub goes_from : (start : ℕ) (pinned : List (List ℕ)) → length pinned ≡ length (S.peaks start)
      → Goes start pinned 0 pinned
  goes_from start pinned e =
      let z : start - 0 ≡ start = omega arith in
      record { within = omega arith; count = rw z e; stand = rw z refl; read = λ none. rw z refl }

  pub some_left : S.peaks 0 ≡ [] → (start : ℕ) (pinned : List (List ℕ)) (s : ℕ) (left : List (List ℕ))
      → Goes start pinned s left → 0 < length left → 0 < start - s
  some_left none start pinned s left t l = go (start - s) t.count
    where
      go : (r : ℕ) → length left ≡ length (S.peaks r) → 0 < r
      go zero e = absurd (omega (arith, e, ap length none))
      go (suc r) e = omega arith

  module _ (start s j : ℕ) (pinned : List (List ℕ)) (d : List ℕ) (left : List (List ℕ))
      (t : Goes start pinned s (d ∷ left)) (first : S.peaks (start - s) ≡ j ∷ S.peaks (start - s - 2 ^ j)) where
    peaks_are : peaks_from S s (start - s)
        ≡ (record { first = s; height = j }) ∷ peaks_from S (s + 2 ^ j) (start - s - 2 ^ j)
    peaks_are = opened S s (start - s) j first

    pub found_here : s ≡ a → j ≡ k
        → (is_pinned S start a k ≡ true) × ((none : List ℕ) → d ≡ pinned_digest S start pinned none a k)
    found_here ea ek = (
      t.stand ∙ ap (λ ps. stands_in ps a k) peaks_are ∙ rw (eq-eqb s a ea, eq-eqb j k ek) refl,
      λ none. sym (t.read none ∙ ap (λ ps. look_up none (peak_sites ps) (d ∷ left) (node a k)) peaks_are
          ∙ rw (eq-eqb a s (sym ea), eq-eqb k j (sym ek)) refl),
    )

    not_here : (s ≡ a → j ≡ k → ⊥) → ((eqb s a && eqb j k) ≡ false) × ((eqb a s && eqb k j) ≡ false)
    not_here ne = elim (tells (eqb s a)) [
      | inr e ↦ (rw e refl, rw (ne_eqb a s (λ q. let r : false ≡ true = sym e ∙ eq-eqb s a (sym q) in cc)) refl)
      | inl e ↦
          let sa = eqb-true s a e in
          let other : j ≢ k = ne sa in
          (rw (e, ne_eqb j k other) refl, rw (eq-eqb a s (sym sa), ne_eqb k j (λ q. other (sym q))) refl)
    ]

    pub goes_on : 2 ^ j ≤ start - s → (q : ℕ) → q ≡ 2 ^ j → (s ≡ a → j ≡ k → ⊥) → Goes start pinned (s + q) left
    goes_on fits q eq ne =
        let n = not_here ne in
        let rest : start - s - 2 ^ j ≡ start - (s + q) = omega arith in
        let here : s + 2 ^ j ≡ s + q = omega arith in
        record {
          within = let w = t.within in omega arith;
          count = let c : suc (length left) ≡ length (S.peaks (start - s)) = t.count in
              let less : length left ≡ length (S.peaks (start - s - 2 ^ j)) = omega (arith, ap length first) in
              less ∙ ap (λ r. length (S.peaks r)) rest;
          stand = t.stand ∙ ap (λ ps. stands_in ps a k) peaks_are ∙ rw n.0 refl ∙ ap₂ stands here rest;
          read = λ none. t.read none ∙ ap (λ ps. look_up none (peak_sites ps) (d ∷ left) (node a k)) peaks_are
              ∙ rw n.1 refl ∙ ap₂ (λ i r. digest_from none i r left) here rest;
        }

  pub none_left : (start : ℕ) (pinned : List (List ℕ)) (s : ℕ) (left : List (List ℕ)) → Goes start pinned s left
      → left ≡ [] → is_pinned S start a k ≡ false
  none_left start pinned s left t e = t.stand ∙ go (S.peaks (start - s)) (sym t.count ∙ ap length e)
    where
      go : (ks : List ℕ) → length ks ≡ 0 → stands_in (places s ks) a k ≡ false
      go [] z = refl
      go (j ∷ ks) z = absurd (omega arith)

-- nothing is looked up where no peak stands
not_found : (none : List ℕ) (a k s : ℕ) (ks : List ℕ) (ds : List (List ℕ)) → stands_in (places s ks) a k ≡ false
    → look_up none (peak_sites (places s ks)) ds (node a k) ≡ none
not_found none a k s [] ds e = refl
not_found none a k s (j ∷ ks) [] e = refl
not_found none a k s (j ∷ ks) (d ∷ ds) e =
    elim (tells (eqb a s && eqb k j)) [
      | inr o ↦ rw o (not_found none a k (s + 2 ^ j) ks ds (later (tells (eqb s a && eqb j k))))
      | inl o ↦ absurd (itself (tells (eqb a s)) o)
    ]
  where
    later : ((eqb s a && eqb j k) ≡ true) ⊎ ((eqb s a && eqb j k) ≡ false)
        → stands_in (places (s + 2 ^ j) ks) a k ≡ false
    later (inl t) = absurd (let here : stands_in (places s (j ∷ ks)) a k ≡ true = rw t refl in cc)
    later (inr f) = subst (λ b. (b || stands_in (places (s + 2 ^ j) ks) a k) ≡ false) f e

    itself : (eqb a s ≡ true) ⊎ (eqb a s ≡ false) → (eqb a s && eqb k j) ≡ true → ⊥
    itself (inr f) o = let here : (false && eqb k j) ≡ true = subst (λ b. (b && eqb k j) ≡ true) f o in cc
    itself (inl t) o =
        let kj : eqb k j ≡ true = subst (λ b. (b && eqb k j) ≡ true) t o in
        let sa : s ≡ a = sym (eqb-true a s t) in
        let jk : j ≡ k = sym (eqb-true k j kj) in
        let here : stands_in (places s (j ∷ ks)) a k ≡ true = rw (eq-eqb s a sa, eq-eqb j k jk) refl in
        cc

-- the digest of a node before the start
module _ (h : HashFunction) (T : Layout) (S : Shape) (same : T.shape ≡ S) (start : ℕ) (pinned : List (List ℕ))
    (chunk : ℕ → List ℕ) where
  abbrev cut : ℕ → ℕ → Bool
  cut b j = eqb j 0 || is_pinned T.shape start b j

  abbrev values : Values
  values = record {
    digest = look_up (h []) (peak_sites (peaks_from T.shape 0 start)) pinned;
    element = λ j. [];
    chunk = chunk;
  }

  eval-given : (k a : ℕ) → cut a k ≡ true → eval h values (node_calc T cut k a) ≡ values.digest (node a k)
  eval-given zero a e = refl
  eval-given (suc k) a e = rw e refl

  eval-halves : (k a : ℕ) → cut a (suc k) ≡ false → eval h values (node_calc T cut (suc k) a) ≡ join_digest h T chunk a
      (suc k) (eval h values (node_calc T cut k a)) (eval h values (node_calc T cut k (a + 2 ^ k)))
  eval-halves k a e = rw e (eval-join h values T a (suc k) (node_calc T cut k a) (node_calc T cut k (a + 2 ^ k)))

  or-right : (x y : Bool) → y ≡ true → (x || y) ≡ true
  or-right true y e = refl
  or-right false y e = e

  both_false : (x y : Bool) → x ≡ false → y ≡ false → (x || y) ≡ false
  both_false true y ex ey = ex
  both_false false y ex ey = ey

  pub node_pinned : (k a : ℕ) (x : List ℕ) → is_pinned S start a k ≡ true → x ≡ pinned_digest S start pinned (h []) a k
      → x ≡ digest_before h T start pinned chunk a k
  node_pinned k a x e f =
      let here : is_pinned T.shape start a k ≡ true = ap (λ U. is_pinned U start a k) same ∙ e in
      f ∙ ap (λ U. pinned_digest U start pinned (h []) a k) (sym same)
      ∙ sym (eval-given k a (or-right (eqb k 0) _ here))

  pub node_empty : (k a : ℕ) (x : List ℕ) → is_pinned S start a k ≡ false → k ≡ 0 → x ≡ h []
      → x ≡ digest_before h T start pinned chunk a k
  node_empty zero a x e z f =
      let here : is_pinned T.shape start a 0 ≡ false = ap (λ U. is_pinned U start a 0) same ∙ e in
      f ∙ sym (not_found (h []) a 0 0 (T.shape.peaks start) pinned here) ∙ sym (eval-given 0 a refl)
  node_empty (suc k) a x e z f = absurd (omega arith)

  pub node_joined : (k a : ℕ) (x l r : List ℕ) → is_pinned S start a k ≡ false → k ≢ 0
      → l ≡ digest_before h T start pinned chunk a (k - 1) → r ≡ digest_before h T start pinned chunk (a + 2 ^ (k - 1))
      (k - 1) → x ≡ join_digest h T chunk a k l r → x ≡ digest_before h T start pinned chunk a k
  node_joined zero a x l r e ne el er f = absurd (ne refl)
  node_joined (suc k) a x l r e ne el er f =
      let less : suc k - 1 ≡ k = omega arith in
      let here : cut a (suc k) ≡ false =
      both_false (eqb (suc k) 0) _ (ne_eqb (suc k) 0 ne) (ap (λ U. is_pinned U start a (suc k)) same ∙ e) in
      let el' : l ≡ digest_before h T start pinned chunk a k = el ∙ ap (digest_before h T start pinned chunk a) less in
      let er' : r ≡ digest_before h T start pinned chunk (a + 2 ^ k) k =
      er ∙ ap (λ j. digest_before h T start pinned chunk (a + 2 ^ j) j) less in
      f ∙ ap₂ (join_digest h T chunk a (suc k)) el' er' ∙ sym (eval-halves k a here)
