-- A walk along the peaks up to a floor.
use Rattle.std.proofs.Common.{◌≡◌, ℕ, zero, suc, ◌+◌, ◌-◌, ◌%◌, ◌^◌, ◌<◌, ◌≤◌, List, [], ◌∷◌, length, take, drop, refl, ap, ◌∙◌, ⊎_elim, arith}
use Rattle.std.proofs.lemmas.Bool.{cases_lt}
use Rattle.storage_merkle.specs.Shape.{leaves_under, Shape, Laws}
use Rattle.storage_merkle.specs.Inactive.{IsExact, IsAligned, OneMore, Reached, Best}
use Rattle.storage_merkle.specs.Laws.Shape.{no_peaks}
use Rattle.storage_merkle.specs.Laws.Multiples.{zero_multiple}

one_more : (xs : List ℕ) (c h : ℕ) (ys : List ℕ) → drop c xs ≡ h ∷ ys → OneMore xs c h ys
unfolding leaves_under
one_more [] zero h ys e = absurd (cc)
one_more [] (suc c) h ys e = absurd (cc)
one_more (x ∷ xs) zero h ys e =
    let a : x ≡ h = cc in
    let b : xs ≡ ys = cc in
    let p : 2 ^ x ≡ 2 ^ h = ap (λ (z : ℕ). 2 ^ z) a in
    record { sum = omega arith; rest = b; within = omega arith }
one_more (x ∷ xs) (suc c) h ys e =
    let r = one_more xs c h ys e in
    let s : suc c + 1 ≡ suc (c + 1) = omega arith in
    record { sum = rw s (omega (arith, r.sum)); rest = rw s r.rest; within = omega (arith, r.within) }

-- more peaks cover more leaves
take_mono : (xs : List ℕ) (j k : ℕ) → j ≤ k → leaves_under (take j xs) ≤ leaves_under (take k xs)
unfolding leaves_under
take_mono [] zero zero h = omega arith
take_mono [] zero (suc k) h = omega arith
take_mono [] (suc j) zero h = omega arith
take_mono [] (suc j) (suc k) h = omega arith
take_mono (x ∷ xs) zero k h = omega arith
take_mono (x ∷ xs) (suc j) zero h = absurd (omega arith)
take_mono (x ∷ xs) (suc j) (suc k) h = omega (arith, take_mono xs j k (omega arith))

drop_none : (xs : List ℕ) (c : ℕ) → c ≤ length xs → drop c xs ≡ [] → c ≡ length xs
drop_none [] c h e = omega arith
drop_none (x ∷ xs) zero h e = absurd (cc)
drop_none (x ∷ xs) (suc c) h e = ap suc (drop_none xs c (omega arith) e)

module _ (S : Shape) (L : Laws S) where
  pub at_start : (n : ℕ) → Reached S n n 0
  unfolding leaves_under
  at_start n = record { within = omega arith; sum = omega arith; rest = refl }

  pub at_next : (n left c h : ℕ) → Reached S n left c → S.peaks left ≡ h ∷ S.peaks (left - 2 ^ h) → 2 ^ h ≤ left
      → Reached S n (left - 2 ^ h) (c + 1)
  at_next n left c h r e w =
      let o = one_more (S.peaks n) c h (S.peaks (left - 2 ^ h)) (r.rest ∙ e) in
      record { within = omega (arith, o.within); sum = omega (arith, o.sum, r.sum); rest = o.rest }

  -- the next peak ends past the floor
  pub stopped : (n left c h floor : ℕ) → Reached S n left c → S.peaks left ≡ h ∷ S.peaks (left - 2 ^ h) → 2 ^ h ≤ left
      → floor < n - (left - 2 ^ h) → (k : ℕ) → k ≤ length (S.peaks n) → leaves_under (take k (S.peaks n)) ≤ floor → k ≤ c
  stopped n left c h floor r e w p k hk ends = ⊎_elim
      (λ (l : c < k). absurd (
      let x = at_next n left c h r e w in
      let m : leaves_under (take (c + 1) (S.peaks n)) ≤ leaves_under (take k (S.peaks n)) =
      take_mono (S.peaks n) (c + 1) k (omega arith) in
      omega (arith, x.sum)))
      (λ g. g)
      (cases_lt c k)

  pub ended : (n c : ℕ) → Reached S n 0 c → c ≡ length (S.peaks n)
  ended n c r = drop_none (S.peaks n) c r.within (r.rest ∙ no_peaks S L)

  pub past_end : (n c floor : ℕ) → Reached S n 0 c → (k : ℕ) → k ≤ length (S.peaks n)
      → leaves_under (take k (S.peaks n)) ≤ floor → k ≤ c
  past_end n c floor r k hk ends = omega (arith, ended n c r)

module _ (S : Shape) where
  pub best_start : (n g : ℕ) → Best S n g 0 0
  unfolding leaves_under
  best_start n g = record { within = omega arith; whole = zero_multiple g; most = λ k h z. h }

  pub best_new : (n left g c : ℕ) → Reached S n left c → (n - left) % 2 ^ g ≡ 0 → Best S n g c c
  best_new n left g c r z =
      let e : leaves_under (take c (S.peaks n)) ≡ n - left = omega (arith, r.sum) in
      record { within = omega arith; whole = rw e z; most = λ k h _. h }

  pub best_old : (n left g c b : ℕ) → Reached S n left (c + 1) → ((n - left) % 2 ^ g ≡ 0 → ⊥) → Best S n g c b
      → Best S n g (c + 1) b
  best_old n left g c b r other t =
      let e : leaves_under (take (c + 1) (S.peaks n)) ≡ n - left = omega (arith, r.sum) in
      record {
        within = omega (arith, t.within);
        whole = t.whole;
        most = λ k h z. ⊎_elim
            (λ (l : k < c + 1). t.most k (omega arith) z)
            (λ (q : c + 1 ≤ k). absurd (let f : k ≡ c + 1 = omega arith in other (rw (← e, ← f) z)))
            (cases_lt k (c + 1));
      }

  pub aligned_found : (n left g c b floor : ℕ) → Reached S n left c → n - left ≤ floor → Best S n g c b
      → ((k : ℕ) → k ≤ length (S.peaks n) → leaves_under (take k (S.peaks n)) ≤ floor → k ≤ c) → IsAligned S n floor g b
  aligned_found n left g c b floor r f t m = record {
    within = omega (arith, t.within, r.within);
    ends = omega (arith, take_mono (S.peaks n) b c t.within, r.sum);
    whole = t.whole;
    most = λ k hk ends z. t.most k (m k hk ends) z;
  }

  -- every number is a multiple of 2 ^ 0
  pub unaligned : (n floor r : ℕ) → IsAligned S n floor 0 r → IsExact S n floor r
  unaligned n floor r a =
      record { within = a.within; ends = a.ends; most = λ k hk ends. a.most k hk ends (omega arith) }
