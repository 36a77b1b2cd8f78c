-- The one induction: two values of a calculation that give one digest agree slot by slot, or two strings cross.
use Rattle.std.proofs.Common.{◌<◌, ◌^◌, append_assoc, w64, ◌≡◌, ◌≢◌, ℕ, ◌+◌, List, [], ◌∷◌, ◌++◌, length, take, drop, Contains, ◌⊎◌, inl, inr, refl, sym, ap, ◌∙◌, arith, Bool, true, false, eqb, ◌&&◌, if◌then◌else◌, eqb-true, length-append}
use Rattle.std.proofs.Math.Seq.{drop-append_seam, take-append_seam}
use Rattle.std.proofs.lemmas.List.{append_cancel_left}
use Rattle.std.proofs.lemmas.List.Elements.{Contains-append_left, Contains-append_right}
use Rattle.std.proofs.Math.Decide.{ℕ_discrete}
use mathlib.Core.List.{List-discrete}
use Rattle.std.proofs.lemmas.Nat.{from_be_bytes-to_be_bytes_8}
use Rattle.std.specs.Int.{from_be_bytes}
use Rattle.storage_codec.specs.Digests.{HashFunction, Cross, IsSized}
use Rattle.storage_merkle.specs.Calc.{Site, Calc, given, leaf, pair, graft, be8, is_zero, grafted_digest, grafted_strings, Values, eval, strings, Agree}
use Rattle.storage_merkle.specs.declared.merkle.bagging.Bagging.{Bagging}
use Rattle.storage_merkle.specs.Trees.{Layout, root_head}

-- each given digest has d bytes
abbrev pub IsWide : ℕ → Values → Type 0
IsWide d v = (s : Site) → length (v.digest s) ≡ d

-- each chunk that a calculation grafts has N bytes
abbrev pub IsChunked : ℕ → Values → Calc → Type 0
IsChunked N v (given s) = Unit {0}
IsChunked N v (leaf p j) = Unit {0}
IsChunked N v (pair p l r) = IsChunked N v l × IsChunked N v r
IsChunked N v (graft a p l r) = (length (v.chunk a) ≡ N) × (IsChunked N v l × IsChunked N v r)

pub split_append : (a b c d : List ℕ) → length a ≡ length c → a ++ b ≡ c ++ d → (a ≡ c) × (b ≡ d)
split_append a b c d l e =
    let one : a ≡ c = sym (take-append_seam a b) ∙ ap (λ x. take (length a) x) e ∙ ap (λ n. take n (c ++ d)) l
    ∙ take-append_seam c d in
    let two : b ≡ d = sym (drop-append_seam a b) ∙ ap (λ x. drop (length a) x) e ∙ ap (λ n. drop n (c ++ d)) l
    ∙ drop-append_seam c d in
    (one, two)

pub eval_length : (d : ℕ) (h : HashFunction) (v : Values) → IsSized d h → IsWide d v → (t : Calc)
    → length (eval h v t) ≡ d
eval_length d h v sized wide (given s) = wide s
eval_length d h v sized wide (leaf p j) = sized _
eval_length d h v sized wide (pair p l r) = sized _
eval_length d h v sized wide (graft a p l r) =
    elim (is_zero (v.chunk a)) as (λ b. length (if b then h (be8 p ++ (eval h v l ++ eval h v r))
    else h (v.chunk a ++ h (be8 p ++ (eval h v l ++ eval h v r)))) ≡ d) [ true ↦ sized _ | false ↦ sized _ ]

pub same_string : (x y : List ℕ) → Dec (x ≡ y)
same_string = List-discrete ℕ_discrete

pub cross_wider : {h : HashFunction} {xs ys xs' ys' : List (List ℕ)} → ((x : List ℕ) → Contains xs x → Contains xs' x)
    → ((x : List ℕ) → Contains ys x → Contains ys' x) → Cross h xs ys → Cross h xs' ys'
cross_wider f g c = record {
  x = c.x;
  y = c.y;
  in_first = f c.x c.in_first;
  in_second = g c.y c.in_second;
  differ = c.differ;
  same_digest = c.same_digest;
}

contains_head : (x : List ℕ) (xs : List (List ℕ)) → Contains (x ∷ xs) x
contains_head x xs = (0, omega arith, refl)

-- two strings of equal digest, at the head of each list, are equal or cross
pub heads : (h : HashFunction) (x y : List ℕ) (xs ys : List (List ℕ)) → h x ≡ h y → (x ≡ y) ⊎ Cross h (x ∷ xs) (y ∷ ys)
heads h x y xs ys e = go (same_string x y)
  where
    go : Dec (x ≡ y) → (x ≡ y) ⊎ Cross h (x ∷ xs) (y ∷ ys)
    go (yes same) = inl same
    go (no differ) = inr (record {
      x = x;
      y = y;
      in_first = contains_head x xs;
      in_second = contains_head y ys;
      differ = differ;
      same_digest = e;
    })

pub be8_length : (n : ℕ) → length (be8 n) ≡ 8
unfolding be8
be8_length n = refl

and-true : (x y : Bool) → (x && y) ≡ true → (x ≡ true) × (y ≡ true)
and-true true true e = (refl, refl)
and-true true false e = cc
and-true false true e = cc
and-true false false e = cc

-- all zero, at one length
same_zero : (xs ys : List ℕ) → length xs ≡ length ys → is_zero xs ≡ true → is_zero ys ≡ true → xs ≡ ys
same_zero [] [] l e f = refl
same_zero [] (y ∷ ys) l e f = absurd (omega arith)
same_zero (x ∷ xs) [] l e f = absurd (omega arith)
same_zero (x ∷ xs) (y ∷ ys) l e f =
    let p = and-true (eqb x 0) (is_zero xs) e in
    let q = and-true (eqb y 0) (is_zero ys) f in
    let r : xs ≡ ys = same_zero xs ys (omega arith) p.1 q.1 in
    let x0 : x ≡ 0 = eqb-true x 0 p.0 in
    let y0 : y ≡ 0 = eqb-true y 0 q.0 in
    cc

-- two grafted nodes of equal digest have equal chunks and equal strings, or they cross
pub graft_heads : (d N : ℕ) (h : HashFunction) → IsSized d h → N ≢ 8 + d → (c e x y : List ℕ) → length c ≡ N
    → length e ≡ N → length x ≡ 8 + (d + d) → length y ≡ 8 + (d + d) → (xs ys : List (List ℕ))
    → grafted_digest h c (h x) ≡ grafted_digest h e (h y)
    → (c ≡ e) × (x ≡ y) ⊎ Cross h (grafted_strings c (h x) ++ (x ∷ xs)) (grafted_strings e (h y) ++ (y ∷ ys))
graft_heads d N h sized apart c e x y lc le lx ly xs ys same = go (is_zero c) (is_zero e) refl refl same
  where
    go : (p q : Bool) → is_zero c ≡ p → is_zero e ≡ q
        → (if p then h x else h (c ++ h x)) ≡ (if q then h y else h (e ++ h y)) → (c ≡ e) × (x ≡ y)
        ⊎ Cross h ((if p then [] else (c ++ h x) ∷ []) ++ (x ∷ xs)) ((if q then [] else (e ++ h y) ∷ []) ++ (y ∷ ys))
    go true true z w s = elim (heads h x y xs ys s) [ inl r ↦ inl (same_zero c e (lc ∙ sym le) z w, r) | inr k ↦ inr k ]
    go true false z w s = elim (heads h x (e ++ h y) xs (y ∷ ys) s) [
      | inl r ↦ absurd (omega (arith, ap length r, length-append e (h y), sized y))
      | inr k ↦ inr k
    ]
    go false true z w s = elim (heads h (c ++ h x) y (x ∷ xs) ys s) [
      | inl r ↦ absurd (omega (arith, ap length r, length-append c (h x), sized x))
      | inr k ↦ inr k
    ]
    go false false z w s = elim (heads h (c ++ h x) (e ++ h y) (x ∷ xs) (y ∷ ys) s) [
      | inr k ↦ inr k
      | inl r ↦
          let parts = split_append c (h x) e (h y) (lc ∙ sym le) r in
          elim (heads h x y xs ys parts.1) [
            | inl t ↦ inl (parts.0, t)
            | inr k ↦ inr (cross_wider (λ u m. Contains-append_right ((c ++ h x) ∷ []) (x ∷ xs) u m)
                (λ u m. Contains-append_right ((e ++ h y) ∷ []) (y ∷ ys) u m) k)
          ]
    ]

-- the law
pub law : (d N : ℕ) (h : HashFunction) (v w : Values) → IsSized d h → N ≢ 8 + d → IsWide d v → IsWide d w
    → (t : Calc) → IsChunked N v t → IsChunked N w t → eval h v t ≡ eval h w t
    → Agree v w t ⊎ Cross h (strings h v t) (strings h w t)
law d N h v w sized apart wv ww (given s) cv cw e = inl e
law d N h v w sized apart wv ww (leaf p j) cv cw e =
    elim (heads h _ _ [] [] e) [ inl same ↦ inl (append_cancel_left p _ _ same) | inr c ↦ inr c ]
law d N h v w sized apart wv ww (pair p l r) cv cw e =
    elim (heads h _ _ (strings h v l ++ strings h v r) (strings h w l ++ strings h w r) e) [
      | inr c ↦ inr c
      | inl same ↦
          let parts = split_append (eval h v l) (eval h v r) (eval h w l) (eval h w r) (eval_length d h v sized wv l
          ∙ sym (eval_length d h w sized ww l)) (append_cancel_left p _ _ same) in
          elim (law d N h v w sized apart wv ww l cv.0 cw.0 parts.0) [
            | inr c ↦ inr (cross_wider (λ x m. Contains-append_right (_ ∷ []) _ x (Contains-append_left _ _ x m))
                (λ x m. Contains-append_right (_ ∷ []) _ x (Contains-append_left _ _ x m)) c)
            | inl one ↦ elim (law d N h v w sized apart wv ww r cv.1 cw.1 parts.1) [
              | inr c ↦ inr
                  (cross_wider (λ x m. Contains-append_right (_ ∷ []) _ x (Contains-append_right (strings h v l) _ x m))
                  (λ x m. Contains-append_right (_ ∷ []) _ x (Contains-append_right (strings h w l) _ x m)) c)
              | inl two ↦ inl (one, two)
            ]
          ]
    ]
law d N h v w sized apart wv ww (graft a p l r) cv cw e =
    let x = be8 p ++ (eval h v l ++ eval h v r) in
    let y = be8 p ++ (eval h w l ++ eval h w r) in
    let lv = eval_length d h v sized wv l in
    let rv = eval_length d h v sized wv r in
    let lw = eval_length d h w sized ww l in
    let rw' = eval_length d h w sized ww r in
    let lx : length x ≡ 8 + (d + d) = omega (
      arith,
      be8_length p,
      length-append (be8 p) (eval h v l ++ eval h v r),
      length-append (eval h v l) (eval h v r),
    ) in
    let ly : length y ≡ 8 + (d + d) = omega (
      arith,
      be8_length p,
      length-append (be8 p) (eval h w l ++ eval h w r),
      length-append (eval h w l) (eval h w r),
    ) in
    let gs = grafted_strings (v.chunk a) (h x) in
    let hs = grafted_strings (w.chunk a) (h y) in
    elim (graft_heads d N h sized apart (v.chunk a) (w.chunk a) x y cv.0 cw.0 lx ly (strings h v l ++ strings h v r)
    (strings h w l ++ strings h w r) e) [
      | inr c ↦ inr c
      | inl same ↦
          let parts = split_append (eval h v l) (eval h v r) (eval h w l) (eval h w r) (lv ∙ sym lw)
          (append_cancel_left (be8 p) _ _ same.1) in
          elim (law d N h v w sized apart wv ww l cv.1.0 cw.1.0 parts.0) [
            | inr c ↦ inr (cross_wider (λ z m. Contains-append_right gs _ z
                (Contains-append_right (x ∷ []) _ z (Contains-append_left _ _ z m))) (λ z m.
                Contains-append_right hs _ z (Contains-append_right (y ∷ []) _ z (Contains-append_left _ _ z m))) c)
            | inl one ↦ elim (law d N h v w sized apart wv ww r cv.1.1 cw.1.1 parts.1) [
              | inr c ↦ inr (cross_wider (λ z m. Contains-append_right gs _ z (Contains-append_right (x ∷ []) _ z
                  (Contains-append_right (strings h v l) _ z m))) (λ z m. Contains-append_right hs _ z
                  (Contains-append_right (y ∷ []) _ z (Contains-append_right (strings h w l) _ z m))) c)
              | inl two ↦ inl (same.0, (one, two))
            ]
          ]
    ]

-- two strings of equal digest, each in its list
pub same_or_cross : (h : HashFunction) (x y : List ℕ) (xs ys : List (List ℕ)) → Contains xs x → Contains ys y
    → h x ≡ h y → (x ≡ y) ⊎ Cross h xs ys
same_or_cross h x y xs ys mx my e = go (same_string x y)
  where
    go : Dec (x ≡ y) → (x ≡ y) ⊎ Cross h xs ys
    go (yes same) = inl same
    go (no differ) = inr (record { x = x; y = y; in_first = mx; in_second = my; differ = differ; same_digest = e })

-- ---- what the head of a root string fixes

pub be8_same : (m n : ℕ) → m < 2 ^ 64 → n < 2 ^ 64 → be8 m ≡ be8 n → m ≡ n
unfolding be8
be8_same m n hm hn e =
    sym (from_be_bytes-to_be_bytes_8 m hm) ∙ ap (from_be_bytes w64) e ∙ from_be_bytes-to_be_bytes_8 n hn

pub record SameHead (m n i j : ℕ) (xs ys : List ℕ) : Type 0 where
  pub leaves : m ≡ n
  pub inactive : i ≡ j
  pub rest : xs ≡ ys

pub same_head : (T : Layout) (b : Bagging) (m n i j : ℕ) (xs ys : List ℕ) → m < 2 ^ 64 → n < 2 ^ 64 → i < 2 ^ 64
    → j < 2 ^ 64 → root_head T b m i ++ xs ≡ root_head T b n j ++ ys → SameHead m n i j xs ys
same_head T b m n i j xs ys hm hn hi hj e =
    let tails : be8 m ++ (be8 i ++ xs) ≡ be8 n ++ (be8 j ++ ys) = sym (append_assoc (be8 m) (be8 i) xs)
    ∙ append_cancel_left (T.shape.byte ∷ _ ∷ []) _ _ e ∙ append_assoc (be8 n) (be8 j) ys in
    let one = split_append (be8 m) (be8 i ++ xs) (be8 n) (be8 j ++ ys) (be8_length m ∙ sym (be8_length n)) tails in
    let two = split_append (be8 i) xs (be8 j) ys (be8_length i ∙ sym (be8_length j)) one.1 in
    record { leaves = be8_same m n hm hn one.0; inactive = be8_same i j hi hj two.0; rest = two.1 }
