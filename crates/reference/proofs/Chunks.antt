-- Bytes of bits, one step each.
use Rattle.std.proofs.Common.{◌≡◌, ℕ, suc, ◌+◌, ◌*◌, ◌<◌, ◌≤◌, ◌^◌, List, [], ◌∷◌, ◌++◌, length, drop, Bool, refl, ap, ap₂, sym, ◌∙◌, arith, append_assoc}
use Rattle.std.proofs.lemmas.List.{append-nil}
use Rattle.storage_bitmap.specs.Chunks.{packed_bytes, chunk, digit_of, number_of}
use Rattle.storage_merkle.specs.Laws.Multiples.{pow_two}

pub number_none : (places : ℕ) (bs : List Bool) → places ≡ 0 → 0 ≡ number_of places bs
unfolding number_of
number_none places bs e = rw e refl

pub number_empty : (p places : ℕ) (bs : List Bool) → places ≡ suc p → length bs ≡ 0 → 0 ≡ number_of places bs
unfolding number_of
number_empty p places [] s e = rw s refl
number_empty p places (b ∷ bs) s e = absurd (omega arith)

pub number_more : (p places : ℕ) (bs rest : List Bool) (b : Bool) (d x : ℕ) → places ≡ suc p → bs ≡ b ∷ rest
    → d ≡ digit_of b → x ≡ number_of p rest → d + 2 * x ≡ number_of places bs
unfolding number_of
number_more p places bs rest b d x s e one more = rw (s, e) (ap₂ (λ (y z : ℕ). y + 2 * z) one more)

pub number_small : (p places d x : ℕ) → places ≡ suc p → d ≤ 1 → x < 2 ^ p → d + 2 * x < 2 ^ places
number_small p places d x s one l = rw s (omega (arith, pow_two p))

pub bytes_none : (count : ℕ) (bs : List Bool) (xs : List ℕ) → count ≡ 0 → xs ≡ xs ++ packed_bytes count bs
unfolding packed_bytes
bytes_none count bs xs e = rw e (sym (append-nil xs))

pub bytes_more : (k count x : ℕ) (bs rest : List Bool) (xs ys zs : List ℕ) → count ≡ suc k → x ≡ number_of 8 bs
    → ys ≡ xs ++ x ∷ [] → rest ≡ drop 8 bs → zs ≡ ys ++ packed_bytes k rest → zs ≡ xs ++ packed_bytes count bs
unfolding packed_bytes
bytes_more k count x bs rest xs ys zs s one push skip more =
    rw s (more ∙ ap₂ (λ (l : List ℕ) (r : List Bool). l ++ packed_bytes k r) (push ∙ ap (λ (y : ℕ). xs ++ y ∷ []) one) skip
    ∙ append_assoc xs (number_of 8 bs ∷ []) (packed_bytes k (drop 8 bs)))

pub chunk_from : (n j : ℕ) (bits rest : List Bool) (xs ys : List ℕ) → xs ≡ [] → rest ≡ drop (j * (8 * n)) bits
    → ys ≡ xs ++ packed_bytes n rest → ys ≡ chunk n bits j
unfolding chunk
chunk_from n j bits rest xs ys none skip e = e ∙ ap₂ (λ (l : List ℕ) (r : List Bool). l ++ packed_bytes n r) none skip
