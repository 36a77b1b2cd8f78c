-- The lengths of the strings of roots, and lists of digests.
use Rattle.std.proofs.Common.{◌≡◌, ◌≢◌, ℕ, zero, suc, ◌+◌, ◌-◌, ◌*◌, ◌/◌, ◌%◌, ◌<◌, ◌≤◌, List, [], ◌∷◌, ◌++◌, length, take, get_or, Bool, true, false, if◌then◌else◌, eqb, ◌⊎◌, inl, inr, ⊎_elim, refl, sym, ap, ◌∙◌, arith, Option, Some, None, length-append}
use Rattle.std.proofs.Math.Nat.{div-mul-le_self}
use Rattle.std.proofs.lemmas.Nat.{div-add-mod', le-div}
use Rattle.std.proofs.lemmas.Bool.Decides.{eqb_tells}
use Rattle.storage_codec.specs.Digests.{HashFunction, IsSized}
use Rattle.storage_merkle.specs.Calc.{Site, Calc, Values, be8}
use Rattle.storage_merkle.specs.Laws.Calc.{IsWide, eval_length, be8_length}
use Rattle.storage_merkle.specs.declared.merkle.bagging.Bagging.{Bagging}
use Rattle.storage_merkle.specs.Trees.{Layout, eval_bag, root_string}
use Rattle.storage_merkle.specs.RangeProofs.{AreDigests, look_up, same_site}
use Rattle.storage_bitmap.specs.Chunks.{chunk, chunks_from}
use Rattle.storage_bitmap.specs.BitRoots.{partial_string}

pub neq-eqb : (a b : ℕ) → a ≢ b → eqb a b ≡ false
neq-eqb a b ne = ⊎_elim (λ (x : (eqb a b ≡ true) × (a ≡ b)). absurd (ne x.1)) (λ (y : (eqb a b ≡ false) × (a ≢ b)). y.0)
    (eqb_tells a b)

pub eqb-neq : (a b : ℕ) → eqb a b ≡ false → a ≢ b
eqb-neq a b e = ⊎_elim (λ (x : (eqb a b ≡ true) × (a ≡ b)). absurd (let f : true ≡ false = sym x.0 ∙ e in cc))
    (λ (y : (eqb a b ≡ false) × (a ≢ b)). y.1) (eqb_tells a b)

-- ---- chunks

pub length_chunks : (n : ℕ) (bits : List Bool) (c j : ℕ) → length (chunks_from n bits c j) ≡ c
unfolding chunks_from
length_chunks n bits zero j = refl
length_chunks n bits (suc c) j = ap suc (length_chunks n bits c (suc j))

pub chunks_at : (n : ℕ) (bits : List Bool) (c j i : ℕ) → i < c
    → get_or (chunks_from n bits c j) i [] ≡ chunk n bits (j + i)
unfolding chunks_from
chunks_at n bits zero j i l = absurd (omega arith)
chunks_at n bits (suc c) j zero l = ap (chunk n bits) (let e : j ≡ j + 0 = omega arith in e)
chunks_at n bits (suc c) j (suc i) l =
    chunks_at n bits c (suc j) i (omega arith) ∙ ap (chunk n bits) (let e : suc j + i ≡ j + suc i = omega arith in e)

-- ---- lengths of strings

pub look_up-wide : (d : ℕ) (none : List ℕ) → length none ≡ d → (ss : List Site) (ds : List (List ℕ)) → AreDigests d ds
    → (s : Site) → length (look_up none ss ds s) ≡ d
look_up-wide d none e [] ds a s = e
look_up-wide d none e (t ∷ ts) [] a s = e
look_up-wide d none e (t ∷ ts) (x ∷ ds) a s =
    elim (same_site s t) as (λ b. length (if b then x else look_up none ts ds s) ≡ d) [
      | true ↦ a.0
      | false ↦ look_up-wide d none e ts ds a.1 s
    ]

bag_length : (d : ℕ) (h : HashFunction) (v : Values) → IsSized d h → IsWide d v → (t : Option Calc)
    → (length (eval_bag h v t) ≡ 0) ⊎ (length (eval_bag h v t) ≡ d)
bag_length d h v sized wide None = inl refl
bag_length d h v sized wide (Some t) = inr (eval_length d h v sized wide t)

pub root_length : (d : ℕ) (h : HashFunction) (v : Values) (T : Layout) (b : Bagging) (n i : ℕ) (t : Option Calc)
    → IsSized d h → IsWide d v
    → (length (root_string h v T b n i t) ≡ 18) ⊎ (length (root_string h v T b n i t) ≡ 18 + d)
root_length d h v T b n i t sized wide =
    let e : length ((be8 n ++ be8 i) ++ eval_bag h v t) ≡ 16 + length (eval_bag h v t) = omega (
      arith,
      length-append (be8 n ++ be8 i) (eval_bag h v t),
      length-append (be8 n) (be8 i),
      be8_length n,
      be8_length i,
    ) in
    ⊎_elim
    (λ (z : length (eval_bag h v t) ≡ 0). inl (omega arith))
    (λ (z : length (eval_bag h v t) ≡ d). inr (omega arith))
    (bag_length d h v sized wide t)

pub partial_length : (root : List ℕ) (len : ℕ) (last : List ℕ)
    → length (partial_string root len last) ≡ length root + 8 + length last
partial_length root len last =
    omega (arith, length-append root (be8 len ++ last), length-append (be8 len) last, be8_length len)

-- root strings and partial strings are not of one length
pub apart_lengths : (d x y : ℕ) → (d ≡ 32) ⊎ (d ≡ 64) → (x ≡ 18) ⊎ (x ≡ 18 + d) → y ≡ d + 8 + d → x ≡ y → ⊥
apart_lengths d x y size l e s =
    ⊎_elim
    (λ (a : d ≡ 32). ⊎_elim (λ (p : x ≡ 18). absurd (omega arith)) (λ (q : x ≡ 18 + d). absurd (omega arith)) l)
    (λ (a : d ≡ 64). ⊎_elim (λ (p : x ≡ 18). absurd (omega arith)) (λ (q : x ≡ 18 + d). absurd (omega arith)) l)
    size

-- ---- lists of digests

pub are_taken : (d k : ℕ) (ds : List (List ℕ)) → AreDigests d ds → AreDigests d (take k ds)
are_taken d zero ds a = tt
are_taken d (suc k) [] a = tt
are_taken d (suc k) (x ∷ ds) a = (a.0, are_taken d k ds a.1)

pub is_digest : (d i : ℕ) (ds : List (List ℕ)) → AreDigests d ds → i < length ds → length (get_or ds i []) ≡ d
is_digest d i [] a l = absurd (omega arith)
is_digest d zero (x ∷ ds) a l = a.0
is_digest d (suc i) (x ∷ ds) a l = is_digest d i ds a.1 (omega arith)

pub some_length : {A : Type 0} (xs : List A) → xs ≢ [] → 0 < length xs
some_length [] ne = absurd (ne refl)
some_length (x ∷ xs) ne = omega arith

split_at_last : (k : ℕ) (ds : List (List ℕ)) → length ds ≡ suc k → ds ≡ take k ds ++ get_or ds k [] ∷ []
split_at_last k [] e = absurd (omega arith)
split_at_last zero (x ∷ []) e = refl
split_at_last zero (x ∷ (y ∷ ds)) e = absurd (omega arith)
split_at_last (suc k) (x ∷ ds) e = ap (λ r. x ∷ r) (split_at_last k ds (omega arith))

pub front_last : (ds : List (List ℕ)) → 0 < length ds
    → ds ≡ take (length ds - 1) ds ++ get_or ds (length ds - 1) [] ∷ []
front_last ds l = split_at_last (length ds - 1) ds (omega arith)

pub lone : (ds : List (List ℕ)) → length ds ≡ 1 → ds ≡ get_or ds (length ds - 1) [] ∷ []
lone ds e =
    let z : length ds - 1 ≡ 0 = omega arith in
    split_at_last 0 ds e ∙ ap (λ k. get_or ds k [] ∷ []) (sym z)

pub front_length : (ds : List (List ℕ)) (x : List ℕ) → length (ds ++ x ∷ []) - 1 ≡ length ds
front_length ds x = let e = length-append ds (x ∷ []) in omega arith

pub take_front : (ds : List (List ℕ)) (x : List ℕ) → take (length (ds ++ x ∷ []) - 1) (ds ++ x ∷ []) ≡ ds
take_front ds x = ap (λ k. take k (ds ++ x ∷ [])) (front_length ds x) ∙ take_all ds
  where
    take_all : (ds : List (List ℕ)) → take (length ds) (ds ++ x ∷ []) ≡ ds
    take_all [] = refl
    take_all (y ∷ ds) = ap (λ r. y ∷ r) (take_all ds)

pub get_last : (ds : List (List ℕ)) (x : List ℕ) → get_or (ds ++ x ∷ []) (length (ds ++ x ∷ []) - 1) [] ≡ x
get_last ds x = ap (λ k. get_or (ds ++ x ∷ []) k []) (front_length ds x) ∙ get_end ds
  where
    get_end : (ds : List (List ℕ)) → get_or (ds ++ x ∷ []) (length ds) [] ≡ x
    get_end [] = refl
    get_end (y ∷ ds) = get_end ds

-- ---- numbers

pub same_multiple : (x y m : ℕ) → x / m ≡ y / m → x % m ≡ y % m → x ≡ y
same_multiple x y m q r =
    sym (div-add-mod' x m) ∙ ap (λ z. z * m + x % m) q ∙ ap (λ z. y / m * m + z) r ∙ div-add-mod' y m

-- a bit of whole chunks is in one of them
pub before_end : (x y m : ℕ) → x < y → y % m ≡ 0 → x / m ≢ y / m
before_end x y m l whole e =
    let a : x / m * m + x % m ≡ x = div-add-mod' x m in
    let b : y / m * m + y % m ≡ y = div-add-mod' y m in
    let c : x / m * m ≡ y / m * m = ap (λ z. z * m) e in
    omega arith

pub div_at_most : (x y m : ℕ) → 0 < m → x ≤ y → x / m ≤ y / m
div_at_most x y m some le = le-div (x / m) y m some (let a = div-mul-le_self x m in omega arith)
