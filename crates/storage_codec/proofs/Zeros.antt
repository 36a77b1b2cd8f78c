-- One zero byte more.
use Rattle.std.proofs.Common.{◌≡◌, ℕ, zero, suc, ◌+◌, ◌-◌, ◌≤◌, ◌<◌, List, [], ◌∷◌, ◌++◌, replicate, refl, ap, arith, cond, eqb, Ok, Err}
use Rattle.std.specs.Prelude.{codes}
use Rattle.storage_codec.specs.Parts.{AppendsStart}
use Rattle.storage_codec.specs.Faults.{◌>>=◌, Invalid}
use Rattle.storage_codec.specs.Codec.{byte_at}
use Rattle.storage_codec.specs.Padding.{zeros_at}

abbrev zero_bytes : ℕ → List ℕ
zero_bytes n = replicate n 0

zeros_split : (i n : ℕ) → i ≤ n → zero_bytes n ≡ zero_bytes i ++ zero_bytes (n - i)
zeros_split zero n h = let e : n - 0 ≡ n = omega arith in rw e refl
zeros_split (suc i) zero h = absurd (omega arith)
zeros_split (suc i) (suc n) h =
    let e : suc n - suc i ≡ n - i = omega arith in
    let again = zeros_split i n (omega arith) in
    rw e (ap (λ (t : List ℕ). 0 ∷ t) again)

pub zeros_push : (i : ℕ) → zero_bytes (i + 1) ≡ zero_bytes i ++ 0 ∷ []
zeros_push i = let e : i + 1 - i ≡ 1 = omega arith in let split = zeros_split i (i + 1) (omega arith) in rw e at split

pub zeros_start : {old new : List ℕ} (i n : ℕ) → i ≤ n → new ≡ old ++ zero_bytes i → AppendsStart old new (zero_bytes n)
zeros_start i n h e = record { done = zero_bytes i; left = zero_bytes (n - i); text_is = zeros_split i n h; new_is = e }

pub zeros_done : (n : ℕ) (bytes : List ℕ) → n ≡ 0 → zeros_at n bytes ≡ Ok (tt, bytes)
unfolding zeros_at
zeros_done zero bytes p = refl
zeros_done (suc n) bytes p = absurd cc

pub zeros_step : (n : ℕ) (bytes : List ℕ) → 0 < n → zeros_at n bytes ≡ (byte_at bytes >>= λ b. cond (eqb b.0 0) (zeros_at (n - 1) b.1) (Err (Invalid (codes "fixed operation") (codes "nonzero padding"))))
unfolding zeros_at
zeros_step zero bytes p = absurd (omega arith)
zeros_step (suc n) bytes p = let e : suc n - 1 ≡ n = omega arith in simp e
