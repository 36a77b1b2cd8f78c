-- A check reads no more of a chunk than whether it is all zero, where it is: chunks that are not supplied may be filled up with zeros.
use Rattle.std.proofs.Common.{◌≡◌, ℕ, zero, suc, ◌+◌, ◌-◌, ◌<◌, ◌≤◌, List, [], ◌∷◌, ◌++◌, length, get_or, replicate, Bool, true, false, if◌then◌else◌, ltb, eqb, eq-eqb, le-ltb, ◌⊎◌, inl, inr, refl, sym, ap, ap₂, ◌∙◌, arith, subst, Option, Some, None}
use Rattle.std.proofs.lemmas.List.{length-replicate}
use Rattle.storage_codec.specs.Digests.{HashFunction}
use Rattle.storage_merkle.specs.declared.merkle.bagging.Bagging.TheVariants.{BackwardFold}
use Rattle.storage_merkle.specs.Calc.{Site, front, back, node, Calc, given, leaf, pair, graft, be8, is_zero, grafted_digest, grafted_strings, Values, eval, strings}
use Rattle.storage_merkle.specs.Trees.{Layout, Content, node_calc, eval_bag, strings_bag, root_head}
use Rattle.storage_merkle.specs.RangeProofs.{Proof, AreDigests, apart, position_of, check_bag, check_values, check_string, check_strings, CountsFit}
use Rattle.storage_merkle.specs.Extracted.{checked, digest_at, extracted, extracted_sites}
use Rattle.storage_current.specs.Grafted.{supplied}

-- equal, or both all zero
abbrev pub AsGood : List ℕ → List ℕ → Type 0
AsGood x y = (x ≡ y) ⊎ ((is_zero x ≡ true) × (is_zero y ≡ true))

good_digest : (h : HashFunction) (x y i j : List ℕ) → AsGood x y → i ≡ j → grafted_digest h x i ≡ grafted_digest h y j
good_digest h x y i j (inl e) f = ap₂ (grafted_digest h) e f
good_digest h x y i j (inr z) f = rw (z.0, z.1) f

good_strings : (x y i j : List ℕ) → AsGood x y → i ≡ j → grafted_strings x i ≡ grafted_strings y j
good_strings x y i j (inl e) f = ap₂ grafted_strings e f
good_strings x y i j (inr z) f = rw (z.0, z.1) refl

module _ (h : HashFunction) (digest : Site → List ℕ) (element c e : ℕ → List ℕ)
    (good : (a : ℕ) → AsGood (c a) (e a)) where
  abbrev one : Values
  one = record { digest = digest; element = element; chunk = c }

  abbrev two : Values
  two = record { digest = digest; element = element; chunk = e }

  same_eval : (t : Calc) → eval h one t ≡ eval h two t
  same_eval (given s) = refl
  same_eval (leaf p j) = refl
  same_eval (pair p l r) = ap₂ (λ x y. h (p ++ (x ++ y))) (same_eval l) (same_eval r)
  same_eval (graft a p l r) =
      good_digest h (c a) (e a) _ _ (good a) (ap₂ (λ x y. h (be8 p ++ (x ++ y))) (same_eval l) (same_eval r))

  same_strings : (t : Calc) → strings h one t ≡ strings h two t
  same_strings (given s) = refl
  same_strings (leaf p j) = refl
  same_strings (pair p l r) = ap₂ (λ x y. x ∷ y) (ap₂ (λ x y. p ++ (x ++ y)) (same_eval l) (same_eval r))
      (ap₂ (λ x y. x ++ y) (same_strings l) (same_strings r))
  same_strings (graft a p l r) =
      let inner : be8 p ++ (eval h one l ++ eval h one r) ≡ be8 p ++ (eval h two l ++ eval h two r) =
      ap₂ (λ x y. be8 p ++ (x ++ y)) (same_eval l) (same_eval r) in
      ap₂ (λ x y. x ++ y) (good_strings (c a) (e a) _ _ (good a) (ap h inner))
      (ap₂ (λ x y. x ∷ y) inner (ap₂ (λ x y. x ++ y) (same_strings l) (same_strings r)))

  bag_eval : (t : Option Calc) → eval_bag h one t ≡ eval_bag h two t
  bag_eval None = refl
  bag_eval (Some t) = same_eval t

  bag_strings : (t : Option Calc) → strings_bag h one t ≡ strings_bag h two t
  bag_strings None = refl
  bag_strings (Some t) = same_strings t

-- two claims that differ in such chunks alone
module _ (h : HashFunction) (T : Layout) (proof : Proof) (start : ℕ) (elements : List (List ℕ)) (c e : ℕ → List ℕ)
    (good : (a : ℕ) → AsGood (c a) (e a)) where
  abbrev first : Content
  first = record { elements = elements; chunk = c }

  abbrev second : Content
  second = record { elements = elements; chunk = e }

  pub same_string : check_string h T BackwardFold proof start first ≡ check_string h T BackwardFold proof start second
  same_string =
      let v = check_values h T BackwardFold proof start first in
      ap (λ x. root_head T BackwardFold proof.leaves proof.inactive ++ x) (bag_eval h v.digest v.element c e good
      (check_bag T start (start + length elements) BackwardFold proof.leaves proof.inactive))

  pub same_check_strings : check_strings h T BackwardFold proof start first
      ≡ check_strings h T BackwardFold proof start second
  same_check_strings =
      let v = check_values h T BackwardFold proof start first in
      ap₂ (λ x y. x ∷ y) same_string (bag_strings h v.digest v.element c e good
      (check_bag T start (start + length elements) BackwardFold proof.leaves proof.inactive))

  pub same_fit : CountsFit h T BackwardFold proof start first → CountsFit h T BackwardFold proof start second
  same_fit ok = record { few = ok.few; peaks = ok.peaks; some = ok.some; within = ok.within; count = ok.count }

  -- what both hand out
  same_digest : (site : Site)
      → digest_at h (check_values h T BackwardFold proof start first) T (apart start (start + length elements)) site
      ≡ digest_at h (check_values h T BackwardFold proof start second) T (apart start (start + length elements)) site
  same_digest front = refl
  same_digest back = refl
  same_digest (node a k) =
      let v = check_values h T BackwardFold proof start first in
      same_eval h v.digest v.element c e good (node_calc T (apart start (start + length elements)) k a)

  same_entries : (sites : List Site)
      → checked h T BackwardFold proof start first sites ≡ checked h T BackwardFold proof start second sites
  same_entries [] = refl
  same_entries (site ∷ sites) =
      ap₂ (λ digest es. (position_of T site, digest) ∷ es) (same_digest site) (same_entries sites)

  pub same_extracted : extracted h T BackwardFold proof start first ≡ extracted h T BackwardFold proof start second
  same_extracted = same_entries (extracted_sites T proof.leaves start (start + length elements))

-- ---- supplied chunks, filled up

abbrev pub pad : ℕ → List ℕ → List ℕ
pad n c = if eqb (length c) n then c else replicate n 0

pub pad-length : (n : ℕ) (c : List ℕ) → length (pad n c) ≡ n
pad-length n c = go (eqb (length c) n) refl
  where
    go : (b : Bool) → eqb (length c) n ≡ b → length (if b then c else replicate n 0) ≡ n
    go true e = Rattle.std.proofs.Common.eqb-true (length c) n e
    go false e = length-replicate n 0

pub pad-whole : (n : ℕ) (c : List ℕ) → length c ≡ n → pad n c ≡ c
pad-whole n c e = rw (eq-eqb (length c) n e) refl

zeros : (n : ℕ) → is_zero (replicate n 0) ≡ true
zeros zero = refl
zeros (suc n) = zeros n

pub pad-good : (n : ℕ) (c : List ℕ) → (length c ≡ n) ⊎ (c ≡ []) → AsGood c (pad n c)
pad-good n c (inl e) = inl (sym (pad-whole n c e))
pad-good n c (inr e) = go (eqb (length c) n)
  where
    go : (b : Bool) → AsGood c (if b then c else replicate n 0)
    go true = inl refl
    go false = inr (ap is_zero e, zeros n)

get-length : (n : ℕ) (chunks : List (List ℕ)) → AreDigests n chunks → (i : ℕ)
    → (length (get_or chunks i []) ≡ n) ⊎ (get_or chunks i [] ≡ [])
get-length n [] a i = inr refl
get-length n (c ∷ chunks) a zero = inl a.0
get-length n (c ∷ chunks) a (suc i) = get-length n chunks a.1 i

pub supplied-length : (n first : ℕ) (chunks : List (List ℕ)) → AreDigests n chunks → (j : ℕ)
    → (length (supplied first chunks j) ≡ n) ⊎ (supplied first chunks j ≡ [])
supplied-length n first chunks a j =
    elim (ltb j first) as (λ b. (length (if b then [] else get_or chunks (j - first) []) ≡ n)
    ⊎ ((if b then [] else get_or chunks (j - first) []) ≡ [])) [
      | true ↦ inr refl
      | false ↦ get-length n chunks a (j - first)
    ]

there-length : (n : ℕ) (chunks : List (List ℕ)) → AreDigests n chunks → (i : ℕ) → i < length chunks
    → length (get_or chunks i []) ≡ n
there-length n [] a i l = absurd (omega arith)
there-length n (c ∷ chunks) a zero l = a.0
there-length n (c ∷ chunks) a (suc i) l = there-length n chunks a.1 i (omega arith)

-- a chunk that is supplied
pub supplied-get : (first : ℕ) (chunks : List (List ℕ)) (j : ℕ) → first ≤ j
    → supplied first chunks j ≡ get_or chunks (j - first) []
supplied-get first chunks j l = rw (le-ltb j first l) refl

pub supplied-whole : (n first : ℕ) (chunks : List (List ℕ)) → AreDigests n chunks → (j : ℕ) → first ≤ j
    → j - first < length chunks → length (supplied first chunks j) ≡ n
supplied-whole n first chunks a j l u =
    ap length (supplied-get first chunks j l) ∙ there-length n chunks a (j - first) u
