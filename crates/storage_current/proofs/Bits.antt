-- The bits of a chunk.
use Rattle.std.proofs.Common.{◌≡◌, ℕ, zero, suc, ◌+◌, ◌*◌, ◌/◌, ◌%◌, ◌<◌, List, [], ◌∷◌, length, drop, get_or, refl, ap, ◌∙◌, arith, Bool, true, false, eqb, get_or-drop}
use Rattle.std.specs.Int.{bit_at}
use Rattle.std.proofs.lemmas.Nat.Bits.{bit_at-suc, bit_at_lowest, bit_at-zero}
use Rattle.std.proofs.lemmas.List.{drop-drop}
use Rattle.storage_bitmap.specs.Chunks.{digit_of, number_of, packed_bytes, chunk, chunks_from}
use Rattle.storage_bitmap.specs.Packed.{bit_in}

digit-below : (b : Bool) → digit_of b < 2
digit-below true = omega arith
digit-below false = omega arith

halved : (d m : ℕ) → d < 2 → (d + 2 * m) / 2 ≡ m
halved d m h = omega arith

bit_at-number_of : (k i : ℕ) (bs : List Bool) → i < k → bit_at (number_of k bs) i ≡ digit_of (get_or bs i false)
unfolding number_of
bit_at-number_of zero i bs h = absurd (omega arith)
bit_at-number_of (suc k) i [] h = bit_at-zero i
bit_at-number_of (suc k) zero (b ∷ bs) h = bit_at_lowest (digit_of b + 2 * number_of k bs) ∙ omega (arith, digit-below b)
bit_at-number_of (suc k) (suc i) (b ∷ bs) h =
    bit_at-suc (digit_of b + 2 * number_of k bs) i ∙ (ap (λ (x : ℕ). bit_at x i)
    (halved (digit_of b) (number_of k bs) (digit-below b)) ∙ bit_at-number_of k i bs (omega arith))

get_or-bytes_of : (n m : ℕ) (bs : List Bool) → m < n → get_or (packed_bytes n bs) m 0 ≡ number_of 8 (drop (8 * m) bs)
unfolding packed_bytes
get_or-bytes_of zero m bs h = absurd (omega arith)
get_or-bytes_of (suc n) zero bs h = refl
get_or-bytes_of (suc n) (suc m) bs h =
    get_or-bytes_of n m (drop 8 bs) (omega arith) ∙ ap (number_of 8) (drop-drop (8 * m) 8 bs
    ∙ ap (λ (x : ℕ). drop x bs) (let e : 8 + 8 * m ≡ 8 * suc m = omega arith in e))

eqb-digit : (b : Bool) → eqb (digit_of b) 1 ≡ b
eqb-digit true = refl
eqb-digit false = refl

-- bit i of chunk j is the bit that stands so far into the list
pub bit_in-chunk : (n : ℕ) (bits : List Bool) (j i : ℕ) → i < 8 * n
    → bit_in (chunk n bits j) i ≡ get_or bits (j * (8 * n) + i) false
unfolding bit_in chunk
bit_in-chunk n bits j i l =
    let from : List Bool = drop (j * (8 * n)) bits in
    let m : ℕ = i / 8 in
    let byte : get_or (packed_bytes n from) (i / 8) 0 ≡ number_of 8 (drop (8 * m) from) =
    get_or-bytes_of n m from (omega arith) in
    let bit : bit_at (number_of 8 (drop (8 * m) from)) (i % 8) ≡ digit_of (get_or (drop (8 * m) from) (i % 8) false) =
    bit_at-number_of 8 (i % 8) (drop (8 * m) from) (omega arith) in
    let there : get_or (drop (8 * m) from) (i % 8) false ≡ get_or bits (j * (8 * n) + i) false =
    get_or-drop (8 * m) from (i % 8) false ∙ get_or-drop (j * (8 * n)) bits (8 * m + i % 8) false
    ∙ ap (λ (x : ℕ). get_or bits (j * (8 * n) + x) false) (let e : 8 * (i / 8) + i % 8 ≡ i = omega arith in e) in
    ap (λ (x : ℕ). eqb (bit_at x (i % 8)) 1) byte ∙ ap (λ (x : ℕ). eqb x 1) bit
    ∙ eqb-digit (get_or (drop (8 * m) from) (i % 8) false) ∙ there

-- the chunks of a list of chunks
pub get_or-chunks_from : (n : ℕ) (bits : List Bool) (none : List ℕ) (count j i : ℕ) → i < count
    → get_or (chunks_from n bits count j) i none ≡ chunk n bits (j + i)
unfolding chunks_from
get_or-chunks_from n bits none zero j i l = absurd (omega arith)
get_or-chunks_from n bits none (suc count) j zero l = ap (chunk n bits) (let e : j ≡ j + 0 = omega arith in e)
get_or-chunks_from n bits none (suc count) j (suc i) l = get_or-chunks_from n bits none count (suc j) i (omega arith)
    ∙ ap (chunk n bits) (let e : suc j + i ≡ j + suc i = omega arith in e)

pub length-chunks_from : (n : ℕ) (bits : List Bool) (count j : ℕ) → length (chunks_from n bits count j) ≡ count
unfolding chunks_from
length-chunks_from n bits zero j = refl
length-chunks_from n bits (suc count) j = ap suc (length-chunks_from n bits count (suc j))

-- one chunk
pub one_chunk : (n : ℕ) (bits : List Bool) (count j : ℕ) → count ≡ 1 → chunks_from n bits count j ≡ chunk n bits j ∷ []
unfolding chunks_from
one_chunk n bits count j e = ap (λ (x : ℕ). chunks_from n bits x j) e
