-- The bits of a page's operations, in a snapshot whose chunks the page has.
use Rattle.std.proofs.Common.{◌≡◌, ℕ, zero, suc, ◌+◌, ◌-◌, ◌*◌, ◌/◌, ◌%◌, ◌<◌, ◌≤◌, List, [], ◌∷◌, drop, length, get_or, refl, sym, ap, ◌∙◌, arith, Bool, true, false, eqb, get_or-drop}
use Rattle.std.specs.Int.{bit_at}
use Rattle.std.proofs.lemmas.Nat.Bits.{bit_at-suc, bit_at_lowest, bit_at-zero}
use Rattle.std.proofs.lemmas.Bool.{false≢true}
use Rattle.std.proofs.lemmas.List.{drop-drop, get_or_past}
use Rattle.std.proofs.lemmas.Nat.{le-div, div-add-mod'}
use Rattle.std.proofs.Math.Nat.{mod-lt, div-mul-le_self, mul-add-div_right}
use Rattle.storage_bitmap.specs.Chunks.{IsChunkSize, digit_of, number_of, packed_bytes, chunk, chunks_from}
use Rattle.storage_bitmap.specs.Packed.{bit_in}

digit-below : (b : Bool) → digit_of b < 2
digit-below true = omega arith
digit-below false = omega arith

halved : (d m : ℕ) → d < 2 → (d + 2 * m) / 2 ≡ m
halved d m h = omega arith

bit_at-number_of : (k i : ℕ) (bs : List Bool) → i < k → bit_at (number_of k bs) i ≡ digit_of (get_or bs i false)
unfolding number_of
bit_at-number_of zero i bs h = absurd (omega arith)
bit_at-number_of (suc k) i [] h = bit_at-zero i
bit_at-number_of (suc k) zero (b ∷ bs) h = bit_at_lowest (digit_of b + 2 * number_of k bs) ∙ omega (arith, digit-below b)
bit_at-number_of (suc k) (suc i) (b ∷ bs) h =
    bit_at-suc (digit_of b + 2 * number_of k bs) i ∙ (ap (λ (x : ℕ). bit_at x i)
    (halved (digit_of b) (number_of k bs) (digit-below b)) ∙ bit_at-number_of k i bs (omega arith))

get_or-bytes_of : (n m : ℕ) (bs : List Bool) → m < n → get_or (packed_bytes n bs) m 0 ≡ number_of 8 (drop (8 * m) bs)
unfolding packed_bytes
get_or-bytes_of zero m bs h = absurd (omega arith)
get_or-bytes_of (suc n) zero bs h = refl
get_or-bytes_of (suc n) (suc m) bs h =
    get_or-bytes_of n m (drop 8 bs) (omega arith) ∙ ap (number_of 8) (drop-drop (8 * m) 8 bs
    ∙ ap (λ (x : ℕ). drop x bs) (let e : 8 + 8 * m ≡ 8 * suc m = omega arith in e))

eqb-digit : (b : Bool) → eqb (digit_of b) 1 ≡ b
eqb-digit true = refl
eqb-digit false = refl

-- past the bytes a bit is clear
pub past_bits : (bytes : List ℕ) (i : ℕ) → length bytes ≤ i / 8 → false ≡ bit_in bytes i
unfolding bit_in
past_bits bytes i past = sym (ap (λ (x : ℕ). eqb (bit_at x (i % 8)) 1) (get_or_past bytes (i / 8) 0 past)
    ∙ ap (λ (x : ℕ). eqb x 1) (bit_at-zero (i % 8)))

pub past_chunks : (chunks : List (List ℕ)) (k i : ℕ) → length chunks ≤ k → false ≡ bit_in (get_or chunks k []) i
past_chunks chunks k i past =
    past_bits [] i (omega arith) ∙ ap (λ (c : List ℕ). bit_in c i) (sym (get_or_past chunks k [] past))

-- a chunk has some bytes
pub some_bytes : (n : ℕ) → IsChunkSize n → 0 < n
some_bytes zero size = absurd (false≢true size.0)
some_bytes (suc n) size = omega arith

-- bit i of chunk j is the bit that stands so far into the list
bit_in-chunk : (n : ℕ) (bits : List Bool) (j i : ℕ) → i < 8 * n
    → bit_in (chunk n bits j) i ≡ get_or bits (j * (8 * n) + i) false
unfolding bit_in chunk
bit_in-chunk n bits j i l =
    let from : List Bool = drop (j * (8 * n)) bits in
    let m : ℕ = i / 8 in
    let byte : get_or (packed_bytes n from) (i / 8) 0 ≡ number_of 8 (drop (8 * m) from) =
    get_or-bytes_of n m from (omega arith) in
    let bit : bit_at (number_of 8 (drop (8 * m) from)) (i % 8) ≡ digit_of (get_or (drop (8 * m) from) (i % 8) false) =
    bit_at-number_of 8 (i % 8) (drop (8 * m) from) (omega arith) in
    let there : get_or (drop (8 * m) from) (i % 8) false ≡ get_or bits (j * (8 * n) + i) false =
    get_or-drop (8 * m) from (i % 8) false ∙ get_or-drop (j * (8 * n)) bits (8 * m + i % 8) false
    ∙ ap (λ (x : ℕ). get_or bits (j * (8 * n) + x) false) (let e : 8 * (i / 8) + i % 8 ≡ i = omega arith in e) in
    ap (λ (x : ℕ). eqb (bit_at x (i % 8)) 1) byte ∙ ap (λ (x : ℕ). eqb x 1) bit
    ∙ eqb-digit (get_or (drop (8 * m) from) (i % 8) false) ∙ there

-- the chunks of a list of chunks
get_or-chunks_from : (n : ℕ) (bits : List Bool) (none : List ℕ) (count j i : ℕ) → i < count
    → get_or (chunks_from n bits count j) i none ≡ chunk n bits (j + i)
unfolding chunks_from
get_or-chunks_from n bits none zero j i l = absurd (omega arith)
get_or-chunks_from n bits none (suc count) j zero l = ap (chunk n bits) (let e : j ≡ j + 0 = omega arith in e)
get_or-chunks_from n bits none (suc count) j (suc i) l = get_or-chunks_from n bits none count (suc j) i (omega arith)
    ∙ ap (chunk n bits) (let e : suc j + i ≡ j + suc i = omega arith in e)

-- a bit of the chunks that some operations touch is that of its operation
pub bit_of_chunks : (n : ℕ) (bits : List Bool) (start m : ℕ) (chunks : List (List ℕ)) → 0 < n → start % (8 * n) ≡ 0
    → chunks ≡ chunks_from n bits ((start + m - 1) / (8 * n) - start / (8 * n) + 1) (start / (8 * n))
    → (j : ℕ) → j < m → bit_in (get_or chunks (j / (8 * n)) []) (j % (8 * n)) ≡ get_or bits (start + j) false
bit_of_chunks n bits start m chunks some boundary are j within =
    let b = 8 * n in
    let q = start / b in
    let k = j / b in
    let pos : 0 < b = omega arith in
    let first : start ≡ q * b = omega (arith, div-add-mod' start b) in
    let last : (start + m - 1) / b ≡ q + (m - 1) / b =
    ap (λ (x : ℕ). x / b) (let e : start + m - 1 ≡ q * b + (m - 1) = omega arith in e) ∙ mul-add-div_right pos q (m - 1) in
    let up : k ≤ (m - 1) / b = le-div k (m - 1) b pos (omega (arith, div-mul-le_self j b)) in
    let inside : k < (start + m - 1) / b - q + 1 = omega arith in
    let place : (q + k) * b + j % b ≡ start + j = omega (arith, div-add-mod' j b) in
    ap (λ (cs : List (List ℕ)). bit_in (get_or cs k []) (j % b)) are
    ∙ ap (λ (c : List ℕ). bit_in c (j % b)) (get_or-chunks_from n bits [] ((start + m - 1) / b - q + 1) q k inside)
    ∙ bit_in-chunk n bits (q + k) (j % b) (mod-lt j pos)
    ∙ ap (λ (x : ℕ). get_or bits x false) place
