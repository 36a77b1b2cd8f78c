-- Packed bits and the bytes of chunks.
use Rattle.std.proofs.Common.{◌≡◌, ◌≢◌, ℕ, zero, suc, ◌+◌, ◌-◌, ◌*◌, ◌/◌, ◌%◌, ◌^◌, ◌<◌, ◌≤◌, ◌↔◌, List, [], ◌∷◌, ◌++◌, length, drop, set, get_or, refl, sym, ap, ◌∙◌, append_assoc, arith, Bool, true, false, eqb, inl, inr, zero-mul, get_or-drop, ext_get_or, get_or-set_same, get_or-set_other, length-set, length-drop, length-append, mul_comm, ap₂, replicate, take, Option, Some, None, MatchOption, Bor}
use Rattle.std.specs.Int.{bit_at, div_ceil}
use Rattle.std.proofs.lemmas.Grind.{div_ceil_times}
use Rattle.std.proofs.lemmas.Nat.Bits.{bit_at-suc, bit_at_lowest, bit_at-zero, same_from_bits_below, bit_at-lt}
use Rattle.std.proofs.lemmas.List.{drop-drop, get_or_past, length_push, get_or_push, get_or_append_left}
use Rattle.std.proofs.lemmas.List.FromFn.{length-map-range_with_len, get_or-map-range_with_len}
use Rattle.std.proofs.lemmas.Bool.{cases_lt, cases_eq}
use Rattle.std.proofs.lemmas.Nat.{div-add-mod'}
use Rattle.std.proofs.Math.Nat.{mod-lt, mul-sub, mul-mod_left, mul-le-mul_right}
use Rattle.std.proofs.lemmas.Nat.{div-mul-add, mod-mul-add}
use Rattle.std.proofs.Math.Seq.{drop-nil}
use Rattle.std.proofs.lemmas.List.{length-replicate, nil_from_length, take_all, get_or-take, length-take-le}
use Rattle.std.specs.Array.{IsFirstChunk, IsWholeChunk}
use Rattle.storage_bitmap.specs.Chunks.{digit_of, number_of, packed_bytes, chunk, IsChunkSize, pruned_to}
use Rattle.storage_bitmap.specs.Packed.{bit_in, bits_in, AreAppended, IsPacked, IsWritten, HasRoom}

digit-below : (b : Bool) → digit_of b < 2
digit-below true = omega arith
digit-below false = omega arith

pub number_of-below : (k : ℕ) (bs : List Bool) → number_of k bs < 2 ^ k
unfolding number_of
number_of-below zero bs = omega arith
number_of-below (suc k) [] = omega (arith, Rattle.std.proofs.lemmas.Nat.pow_pos (suc k))
number_of-below (suc k) (b ∷ bs) = omega (arith, number_of-below k bs, digit-below b)

halved : (d m : ℕ) → d < 2 → (d + 2 * m) / 2 ≡ m
halved d m h = omega arith

pub bit_at-number_of : (k i : ℕ) (bs : List Bool) → i < k → bit_at (number_of k bs) i ≡ digit_of (get_or bs i false)
unfolding number_of
bit_at-number_of zero i bs h = absurd (omega arith)
bit_at-number_of (suc k) i [] h = bit_at-zero i
bit_at-number_of (suc k) zero (b ∷ bs) h = bit_at_lowest (digit_of b + 2 * number_of k bs) ∙ omega (arith, digit-below b)
bit_at-number_of (suc k) (suc i) (b ∷ bs) h =
    bit_at-suc (digit_of b + 2 * number_of k bs) i ∙ (ap (λ (x : ℕ). bit_at x i)
    (halved (digit_of b) (number_of k bs) (digit-below b)) ∙ bit_at-number_of k i bs (omega arith))

pub length-bytes_of : (n : ℕ) (bs : List Bool) → length (packed_bytes n bs) ≡ n
unfolding packed_bytes
length-bytes_of zero bs = refl
length-bytes_of (suc n) bs = ap suc (length-bytes_of n (drop 8 bs))

pub get_or-bytes_of : (n m : ℕ) (bs : List Bool) → m < n → get_or (packed_bytes n bs) m 0 ≡ number_of 8 (drop (8 * m) bs)
unfolding packed_bytes
get_or-bytes_of zero m bs h = absurd (omega arith)
get_or-bytes_of (suc n) zero bs h = refl
get_or-bytes_of (suc n) (suc m) bs h =
    get_or-bytes_of n m (drop 8 bs) (omega arith) ∙ ap (number_of 8) (drop-drop (8 * m) 8 bs
    ∙ ap (λ (x : ℕ). drop x bs) (let e : 8 + 8 * m ≡ 8 * suc m = omega arith in e))

pub length-bits_in : (bytes : List ℕ) (count : ℕ) → length (bits_in bytes count) ≡ count
unfolding bits_in
length-bits_in bytes count = length-map-range_with_len (bit_in bytes) 0 count

pub get_or-bits_in : (bytes : List ℕ) (count i : ℕ) → i < count → get_or (bits_in bytes count) i false ≡ bit_in bytes i
unfolding bits_in
get_or-bits_in bytes count i h = get_or-map-range_with_len (bit_in bytes) 0 count i i false h (omega arith)

-- where the rest is clear, each place has its bit
bit_of : (bytes : List ℕ) (count : ℕ) → ((i : ℕ) → count ≤ i → bit_in bytes i ≡ false) → (i : ℕ)
    → get_or (bits_in bytes count) i false ≡ bit_in bytes i
bit_of bytes count clear i =
    elim (cases_lt i count) [
      | inl h ↦ get_or-bits_in bytes count i h
      | inr h ↦ get_or_past (bits_in bytes count) i false (rw length-bits_in h) ∙ sym (clear i h)
    ]

eqb-digit : (b : Bool) → eqb (digit_of b) 1 ≡ b
eqb-digit true = refl
eqb-digit false = refl

digit-eqb : (x : ℕ) → x < 2 → digit_of (eqb x 1) ≡ x
digit-eqb zero h = refl
digit-eqb (suc zero) h = refl
digit-eqb (suc (suc x)) h = absurd (omega arith)

pub digit-bit_in : (bytes : List ℕ) (p k : ℕ) → k < 8 → digit_of (bit_in bytes (8 * p + k)) ≡ bit_at (get_or bytes p 0) k
unfolding bit_in
digit-bit_in bytes p k h =
    let q : (8 * p + k) / 8 ≡ p = omega arith in
    let r : (8 * p + k) % 8 ≡ k = omega arith in
    rw (q, r) (digit-eqb (bit_at (get_or bytes p 0) k) (bit_at-lt (get_or bytes p 0) k))

-- a byte has the bits that it packs
pub byte_is : (bytes : List ℕ) (count : ℕ) → ((i : ℕ) → get_or bytes i 0 < 256)
    → ((i : ℕ) → count ≤ i → bit_in bytes i ≡ false)
    → (p : ℕ) → get_or bytes p 0 ≡ number_of 8 (drop (8 * p) (bits_in bytes count))
byte_is bytes count narrow clear p =
    same_from_bits_below 8 (get_or bytes p 0) (number_of 8 (drop (8 * p) (bits_in bytes count))) (narrow p)
    (number_of-below 8 (drop (8 * p) (bits_in bytes count)))
    (λ k h. sym (bit_at-number_of 8 k (drop (8 * p) (bits_in bytes count)) h
    ∙ (ap digit_of (get_or-drop (8 * p) (bits_in bytes count) k false ∙ bit_of bytes count clear (8 * p + k))
    ∙ digit-bit_in bytes p k h)))

-- ---- the steps of a bitmap
pub chunk_positive : (n : ℕ) → IsChunkSize n → 0 < n
chunk_positive zero p = let e : false ≡ true = p.0 in absurd (cc)
chunk_positive (suc n) p = omega arith

pub none_packed : (n pruned : ℕ) → IsChunkSize n → pruned * (8 * n) ≤ 2 ^ 62 → IsPacked n pruned 0 []
unfolding bit_in
none_packed n pruned size few =
    record {
      size = size;
      few = omega (arith, few);
      chunks = 0;
      room = sym (zero-mul n);
      enough = omega arith;
      tight = omega (arith, zero-mul (8 * n), chunk_positive n size);
      narrow = λ i. omega arith;
      clear = λ i h. rw (bit_at-zero (i % 8)) refl;
    }

pub none_bits : bits_in [] 0 ≡ []
unfolding bits_in
none_bits = refl

abbrev clear_bytes : ℕ → List ℕ
clear_bytes n = replicate n 0

clear : (n p : ℕ) → get_or (replicate n 0) p 0 ≡ get_or (clear_bytes 0) p 0
clear zero p = refl
clear (suc n) zero = refl
clear (suc n) (suc p) = clear n p

-- clear bytes at the end change no byte
grown : (bytes : List ℕ) (n p : ℕ) → get_or (bytes ++ replicate n 0) p 0 ≡ get_or bytes p 0
grown [] n p = clear n p
grown (x ∷ bytes) n zero = refl
grown (x ∷ bytes) n (suc p) = grown bytes n p

-- so many chunks have so many bits
pub eights : (n chunks : ℕ) → chunks * (8 * n) ≡ 8 * (chunks * n)
eights n chunks = grind arith

-- so many bits fill the bytes where they fill a number of chunks
pub packed_full : (n pruned kept : ℕ) (bytes : List ℕ) → IsPacked n pruned kept bytes
    → (kept % (8 * n) ≡ 0) ↔ (kept ≡ 8 * length bytes)
packed_full n pruned kept bytes p =
    let length_is : 8 * length bytes ≡ p.chunks * (8 * n) = omega (arith, p.room, eights n p.chunks) in (
      (λ none. all (8 * n) (kept / (8 * n)) p.chunks kept
          (omega (arith, div-add-mod' kept (8 * n), none)) p.enough p.tight ∙ sym length_is),
      (λ e. ap (λ (x : ℕ). x % (8 * n)) (e ∙ length_is) ∙ mul-mod_left p.chunks (8 * n)),
    ) where
      none_left : (m q c left : ℕ) → c * m ≡ q * m + left → left < m → left ≡ 0
      none_left m q c left e less = sym (mod-mul-add q m left less) ∙ (ap (λ (x : ℕ). x % m) (sym e) ∙ mul-mod_left c m)

      all : (m q c kept : ℕ) → q * m ≡ kept → kept ≤ c * m → c * m < kept + m → kept ≡ c * m
      all m q c kept whole enough tight =
          omega (arith, enough, none_left m q c (c * m - kept) (omega arith) (omega arith))

pub packed_place : (n pruned kept place : ℕ) (bytes : List ℕ) → IsPacked n pruned kept bytes → place < kept
    → place / 8 < length bytes
packed_place n pruned kept place bytes p h = omega (arith, p.room, p.enough, eights n p.chunks)

pub packed_room : (n pruned kept : ℕ) (bytes : List ℕ) → IsPacked n pruned kept bytes
    → (kept ≤ 8 * length bytes) × (8 * length bytes < kept + 8 * n)
packed_room n pruned kept bytes p =
    (omega (arith, p.room, p.enough, eights n p.chunks), omega (arith, p.room, p.tight, eights n p.chunks))

pub pushed_place : (n pruned kept : ℕ) (old mid : List ℕ) → IsPacked n pruned kept old → HasRoom n old mid kept
    → kept / 8 < length mid
pushed_place n pruned kept old mid p r =
    let some = chunk_positive n p.size in
    let room = packed_room n pruned kept old p in
    elim (cases_eq kept (8 * length old)) [
      | inl e ↦ omega (arith, r.more e, some)
      | inr d ↦ omega (arith, r.enough d, room.0, d)
    ]

pub packed_push : (n pruned kept : ℕ) (old mid new : List ℕ) (bit : Bool) → IsPacked n pruned kept old
    → pruned * (8 * n) + kept < 2 ^ 62
    → HasRoom n old mid kept → IsWritten mid new kept bit → IsPacked n pruned (kept + 1) new
packed_push n pruned kept old mid new bit p few r w =
    elim (cases_eq kept (8 * length old)) [
      | inl e ↦ packed (p.chunks + 1) (w.len ∙ (r.more e ∙ (ap (λ (x : ℕ). x + n) p.room ∙ again n p.chunks))) (omega
          (arith, e, p.room, eights n p.chunks, eights n (p.chunks + 1), again n p.chunks, chunk_positive n p.size))
          (omega (arith, e, p.room, eights n p.chunks, eights n (p.chunks + 1), again n p.chunks))
      | inr d ↦ packed p.chunks (w.len ∙ (r.enough d ∙ p.room)) (omega (arith, d, p.room, p.enough, eights n p.chunks))
          (omega (arith, p.tight))
    ] where
      again : (n chunks : ℕ) → chunks * n + n ≡ (chunks + 1) * n
      again n chunks = grind arith

      packed : (chunks : ℕ) → length new ≡ chunks * n → kept + 1 ≤ chunks * (8 * n)
          → chunks * (8 * n) < kept + 1 + 8 * n → IsPacked n pruned (kept + 1) new
      packed chunks room enough tight =
          record {
            size = p.size;
            few = omega arith;
            chunks = chunks;
            room = room;
            enough = enough;
            tight = tight;
            narrow = w.narrow (r.narrow p.narrow);
            clear = λ i h. w.others i (λ e. absurd (omega arith)) ∙ (r.same i ∙ p.clear i (omega arith));
          }

pub bits_push : (kept : ℕ) (old mid new : List ℕ) (bit : Bool) (n : ℕ) → HasRoom n old mid kept
    → IsWritten mid new kept bit
    → bits_in new (kept + 1) ≡ bits_in old kept ++ bit ∷ []
bits_push kept old mid new bit n r w =
    ext_get_or false (bits_in new (kept + 1)) (bits_in old kept ++ bit ∷ [])
    (length-bits_in new (kept + 1)
    ∙ sym (length_push (bits_in old kept) bit ∙ ap (λ (x : ℕ). x + 1) (length-bits_in old kept)))
    (λ i h. let below : i < kept + 1 = rw length-bits_in at h in
    get_or-bits_in new (kept + 1) i below ∙ elim (cases_eq i kept) [
      | inl e ↦ rw e (w.there ∙ sym (get_or_push (bits_in old kept) bit false kept (length-bits_in old kept)))
      | inr d ↦ w.others i d ∙ (r.same i ∙ sym (get_or_append_left (bits_in old kept) (bit ∷ []) false i
          (rw length-bits_in (omega arith)) ∙ get_or-bits_in old kept i (omega arith)))
    ])

-- one bit more of those that are appended
pub one_appended : (old mid new : List ℕ) (place : ℕ) (bits : List Bool) (bit : Bool) → AreAppended old mid place bits
    → place + length bits < 8 * length mid → IsWritten mid new (place + length bits) bit
    → AreAppended old new place (bits ++ bit ∷ [])
one_appended old mid new place bits bit a within w =
    let same : HasRoom 0 mid mid (place + length bits) = record {
      more = λ e. absurd (omega arith);
      enough = λ d. refl;
      narrow = λ h. h;
      same = λ i. refl;
    } in
    let count : place + length (bits ++ bit ∷ []) ≡ place + length bits + 1 = omega (arith, length_push bits bit) in
    record {
      len = w.len ∙ a.len;
      narrow = λ h. w.narrow (a.narrow h);
      are = ap (bits_in new) count ∙ bits_push (place + length bits) mid mid new bit 0 same w
          ∙ ap (λ (x : List Bool). x ++ bit ∷ []) a.are ∙ append_assoc (bits_in old place) bits (bit ∷ []);
      clear = λ i far. w.others i (λ e. absurd (omega (arith, count))) ∙ a.clear i (omega (arith, count));
    }

-- as many chunks as have room for so many bits
pub rounded_up : (n end chunks : ℕ) → 0 < n → chunks ≡ div_ceil end (8 * n)
    → (end ≤ chunks * (8 * n)) × (chunks * (8 * n) < end + 8 * n)
rounded_up n end chunks some is = rw is (div_ceil_times end (8 * n) (omega arith))

-- as many chunks as have room for what is appended are no fewer than there are
pub chunks_within : (n pruned kept end chunks : ℕ) (bytes : List ℕ) → IsPacked n pruned kept bytes → kept ≤ end
    → end ≤ chunks * (8 * n) → length bytes ≤ chunks * n
chunks_within n pruned kept end chunks bytes p more enough = elim (cases_lt chunks p.chunks) [
  | inl less ↦
      let one : suc chunks * (8 * n) ≡ chunks * (8 * n) + 8 * n = grind arith in
      let most : suc chunks * (8 * n) ≤ p.chunks * (8 * n) = mul-le-mul_right (8 * n) less in
      absurd (omega (arith, one, most, p.tight))
  | inr le ↦ omega (arith, p.room, mul-le-mul_right n le)
]

pub more_length : (bytes : List ℕ) (n : ℕ) → length (bytes ++ replicate n 0) ≡ length bytes + n
more_length bytes n =
    length-append bytes (replicate n 0) ∙ ap (λ (x : ℕ). length bytes + x) (length-replicate n 0)

pub packed_append : (n pruned kept chunks more : ℕ) (old mid new : List ℕ) (bits : List Bool) → IsPacked n pruned kept old
    → pruned * (8 * n) + kept + length bits ≤ 2 ^ 62 → mid ≡ old ++ replicate more 0 → length old + more ≡ chunks * n
    → kept + length bits ≤ chunks * (8 * n) → chunks * (8 * n) < kept + length bits + 8 * n
    → AreAppended mid new kept bits → IsPacked n pruned (kept + length bits) new
packed_append n pruned kept chunks more old mid new bits p few is room enough tight a =
    let len : length mid ≡ length old + more = ap length is ∙ more_length old more in
    record {
      size = p.size;
      few = omega arith;
      chunks = chunks;
      room = a.len ∙ len ∙ room;
      enough = enough;
      tight = tight;
      narrow = a.narrow (λ i. rw (is, grown old more i) (p.narrow i));
      clear = a.clear;
    }

-- clear bytes at the end change no bit
pub more_clear : (bytes : List ℕ) (n i : ℕ) → bit_in (bytes ++ replicate n 0) i ≡ bit_in bytes i
unfolding bit_in
more_clear bytes n i = rw (grown bytes n (i / 8)) refl

pub more_same : (bytes : List ℕ) (n kept : ℕ) → bits_in (bytes ++ replicate n 0) kept ≡ bits_in bytes kept
more_same bytes n kept =
    ext_get_or false (bits_in (bytes ++ replicate n 0) kept) (bits_in bytes kept)
    (length-bits_in (bytes ++ replicate n 0) kept ∙ sym (length-bits_in bytes kept))
    (λ i b. let below : i < kept = rw length-bits_in at b in
    get_or-bits_in (bytes ++ replicate n 0) kept i below ∙ more_clear bytes n i ∙ sym (get_or-bits_in bytes kept i below))

pub packed_set : (n pruned kept place : ℕ) (old new : List ℕ) (bit : Bool) → IsPacked n pruned kept old → place < kept
    → IsWritten old new place bit → IsPacked n pruned kept new
packed_set n pruned kept place old new bit p h w =
    record {
      size = p.size;
      few = p.few;
      chunks = p.chunks;
      room = w.len ∙ p.room;
      enough = p.enough;
      tight = p.tight;
      narrow = w.narrow p.narrow;
      clear = λ i far. w.others i (λ e. absurd (omega arith)) ∙ p.clear i far;
    }

pub bits_set : (kept place : ℕ) (old new : List ℕ) (bit : Bool) → place < kept → IsWritten old new place bit
    → bits_in new kept ≡ set (bits_in old kept) place bit
bits_set kept place old new bit h w =
    ext_get_or false (bits_in new kept) (set (bits_in old kept) place bit)
    (length-bits_in new kept ∙ sym (length-set (bits_in old kept) place bit ∙ length-bits_in old kept))
    (λ i b. let below : i < kept = rw length-bits_in at b in
    get_or-bits_in new kept i below ∙ elim (cases_eq i place) [
      | inl e ↦ rw e (w.there ∙ sym (get_or-set_same (bits_in old kept) place bit false (rw length-bits_in h)))
      | inr d ↦
          w.others i d ∙ sym (get_or-set_other (bits_in old kept) place i bit false d ∙ get_or-bits_in old kept i below)
    ])

pub bit_in-drop : (bytes : List ℕ) (g i : ℕ) → bit_in (drop g bytes) i ≡ bit_in bytes (8 * g + i)
unfolding bit_in
bit_in-drop bytes g i =
    let q : (8 * g + i) / 8 ≡ g + i / 8 = omega arith in
    let r : (8 * g + i) % 8 ≡ i % 8 = omega arith in
    rw (q, r, get_or-drop g bytes (i / 8) 0) refl

pub bits_drop : (kept g : ℕ) (old : List ℕ) → 8 * g ≤ kept
    → bits_in (drop g old) (kept - 8 * g) ≡ drop (8 * g) (bits_in old kept)
bits_drop kept g old h =
    ext_get_or false (bits_in (drop g old) (kept - 8 * g)) (drop (8 * g) (bits_in old kept))
    (length-bits_in (drop g old) (kept - 8 * g)
    ∙ sym (length-drop (8 * g) (bits_in old kept) ∙ ap (λ (x : ℕ). x - 8 * g) (length-bits_in old kept)))
    (λ i b. let below : i < kept - 8 * g = rw length-bits_in at b in
    get_or-bits_in (drop g old) (kept - 8 * g) i below ∙ (bit_in-drop old g i
    ∙ sym (get_or-drop (8 * g) (bits_in old kept) i false ∙ get_or-bits_in old kept (8 * g + i) (omega arith))))

-- the bits of so many chunks, in two parts
pub chunks_split : (n pruned chunks : ℕ) → pruned ≤ chunks
    → chunks * (8 * n) ≡ pruned * (8 * n) + 8 * ((chunks - pruned) * n)
chunks_split n pruned chunks h = along n pruned (chunks - pruned) chunks (omega arith) where
  along : (n p c q : ℕ) → p + c ≡ q → q * (8 * n) ≡ p * (8 * n) + 8 * (c * n)
  along n p c q e = rw (← e) (grind arith)

pub packed_drop : (n pruned kept chunks : ℕ) (old : List ℕ) → IsPacked n pruned kept old → pruned ≤ chunks
    → chunks * (8 * n) ≤ pruned * (8 * n) + kept
    → IsPacked n chunks (kept - 8 * ((chunks - pruned) * n)) (drop ((chunks - pruned) * n) old)
packed_drop n pruned kept chunks old p h w =
    let gone : ℕ = chunks - pruned in
    let e : chunks * (8 * n) ≡ pruned * (8 * n) + 8 * (gone * n) = chunks_split n pruned chunks h in
    let less : (p.chunks - gone) * n ≡ p.chunks * n - gone * n = sub-mul n p.chunks gone in
    let bits : (p.chunks - gone) * (8 * n) ≡ p.chunks * (8 * n) - gone * (8 * n) = sub-mul (8 * n) p.chunks gone in
    let each : gone * (8 * n) ≡ 8 * (gone * n) = eights n gone in
    record {
      size = p.size;
      few = omega (arith, p.few, e);
      chunks = p.chunks - gone;
      room = length-drop (gone * n) old ∙ (ap (λ (x : ℕ). x - gone * n) p.room ∙ sym less);
      enough = omega (arith, p.enough, bits, each);
      tight = omega (arith, p.tight, bits, each, w, e, chunk_positive n p.size);
      narrow = λ i. rw (get_or-drop (gone * n) old i 0) (p.narrow (gone * n + i));
      clear = λ i far. bit_in-drop old (gone * n) i ∙ p.clear (8 * (gone * n) + i) (omega arith);
    } where
      sub-mul : (m a b : ℕ) → (a - b) * m ≡ a * m - b * m
      sub-mul m a b = mul_comm (a - b) m ∙ (mul-sub m a b ∙ ap₂ (λ (x y : ℕ). x - y) (mul_comm m a) (mul_comm m b))

pub get_or-chunk : (n j m : ℕ) (bits : List Bool) → m < n
    → get_or (chunk n bits j) m 0 ≡ number_of 8 (drop (8 * (j * n + m)) bits)
unfolding chunk
get_or-chunk n j m bits h =
    get_or-bytes_of n m (drop (j * (8 * n)) bits) h
    ∙ ap (number_of 8) (drop-drop (8 * m) (j * (8 * n)) bits ∙ ap (λ (x : ℕ). drop x bits) (at n j m)) where
      at : (n j m : ℕ) → j * (8 * n) + 8 * m ≡ 8 * (j * n + m)
      at n j m = grind arith

-- the bytes of a chunk, and 0 past the last one
pub chunk_is : (n j kept : ℕ) (bytes r : List ℕ) → ((i : ℕ) → get_or bytes i 0 < 256)
    → ((i : ℕ) → kept ≤ i → bit_in bytes i ≡ false)
    → length r ≡ n → ((m : ℕ) → m < n → get_or r m 0 ≡ get_or bytes (j * n + m) 0) → r ≡ chunk n (bits_in bytes kept) j
unfolding chunk
chunk_is n j kept bytes r narrow clear len h =
    ext_get_or 0 r (chunk n (bits_in bytes kept) j) (len
    ∙ sym (length-bytes_of n (drop (j * (8 * n)) (bits_in bytes kept))))
    (λ m b. let below : m < n = rw len at b in
    h m below ∙ (byte_is bytes kept narrow clear (j * n + m) ∙ sym (get_or-chunk n j m (bits_in bytes kept) below)))

pub place_within : (n pruned kept bit : ℕ) (bytes : List ℕ) → bit < pruned * (8 * n) + length (bits_in bytes kept)
    → pruned * (8 * n) ≤ bit
    → bit - pruned * (8 * n) < kept
place_within n pruned kept bit bytes h low = omega (arith, length-bits_in bytes kept)

pub chunk_within : (n pruned kept index : ℕ) (bytes : List ℕ)
    → index * (8 * n) < pruned * (8 * n) + length (bits_in bytes kept) → pruned ≤ index
    → 8 * ((index - pruned) * n) < kept
chunk_within n pruned kept index bytes h low = omega (arith, length-bits_in bytes kept, chunks_split n pruned index low)

-- a chunk that has a bit is there
pub chunk_there : (n pruned kept index : ℕ) (bytes : List ℕ) → IsPacked n pruned kept bytes
    → index * (8 * n) < pruned * (8 * n) + length (bits_in bytes kept) → pruned ≤ index
    → (index - pruned) * n + n ≤ length bytes
chunk_there n pruned kept index bytes p h low =
    at (index - pruned) p.chunks (chunk_within n pruned kept index bytes h low) p.room p.enough where
      at : (j chunks : ℕ) → 8 * (j * n) < kept → length bytes ≡ chunks * n → kept ≤ chunks * (8 * n)
          → j * n + n ≤ length bytes
      at j chunks some room enough = elim (cases_lt j chunks) [
        | inl less ↦
            let one : suc j * n ≡ j * n + n = grind arith in
            let most : suc j * n ≤ chunks * n = mul-le-mul_right n less in
            omega (arith, room, one, most)
        | inr far ↦
            let most : chunks * n ≤ j * n = mul-le-mul_right n far in
            absurd (omega (arith, some, enough, eights n chunks, most))
      ]

whole_rest : (start : ℕ) (bytes : List ℕ) → take (length bytes - start) (drop start bytes) ≡ drop start bytes
whole_rest start bytes = take_all (length bytes - start) (drop start bytes) (omega (arith, length-drop start bytes))

pub lent_there : (n start : ℕ) (bytes : List ℕ) → start + n ≤ length bytes
    → n ≤ length (take (length bytes - start) (drop start bytes))
lent_there n start bytes h = rw (whole_rest start bytes, length-drop start bytes) (omega arith)

-- a chunk that is lent
pub lent_is : (n pruned kept j : ℕ) (bytes : List ℕ) (lent : Option (Bor (List ℕ))) (r : Bor (List ℕ))
    → IsPacked n pruned kept bytes → lent ≡ Some r
    → MatchOption lent (length (take (length bytes - j * n) (drop (j * n) bytes)) < n)
    (λ y. IsFirstChunk (take (length bytes - j * n) (drop (j * n) bytes)) y.now n)
    → r.now ≡ chunk n (bits_in bytes kept) j
lent_is n pruned kept j bytes lent r p e cases = at (rw e at cases) where
  at : IsFirstChunk (take (length bytes - j * n) (drop (j * n) bytes)) r.now n → r.now ≡ chunk n (bits_in bytes kept) j
  at first =
      chunk_is n j kept bytes r.now p.narrow p.clear
      (ap length first.same ∙ length-take-le n (take (length bytes - j * n) (drop (j * n) bytes)) first.enough)
      (λ m b. ap (λ (xs : List ℕ). get_or xs m 0) first.same
      ∙ (get_or-take n (take (length bytes - j * n) (drop (j * n) bytes)) m 0 b
      ∙ (ap (λ (xs : List ℕ). get_or xs m 0) (whole_rest (j * n) bytes) ∙ get_or-drop (j * n) bytes m 0)))

pub prune_within : (n pruned kept chunks bit : ℕ) (bytes : List ℕ)
    → bit ≤ pruned * (8 * n) + length (bits_in bytes kept) → chunks ≡ bit / (8 * n) → 0 < n
    → chunks * (8 * n) ≤ pruned * (8 * n) + kept
prune_within n pruned kept chunks bit bytes h e some =
    omega (arith, length-bits_in bytes kept, whole (8 * n) bit chunks e (omega arith)) where
      whole : (m bit chunks : ℕ) → chunks ≡ bit / m → 0 < m → chunks * m ≤ bit
      whole m bit chunks e some = rw e (omega (arith, div-add-mod' bit m))

pub pruned_some : (n pruned kept chunks : ℕ) (old new : List ℕ) → pruned ≤ chunks
    → new ≡ drop ((chunks - pruned) * n) old → 8 * ((chunks - pruned) * n) ≤ kept
    → record { pruned = chunks; bits = bits_in new (kept - 8 * ((chunks - pruned) * n)) }
    ≡ pruned_to n (record { pruned = pruned; bits = bits_in old kept }) chunks
pruned_some n pruned kept chunks old new h e w =
    let a : pruned + (chunks - pruned) ≡ chunks = omega arith in
    let m : 8 * ((chunks - pruned) * n) ≡ (chunks - pruned) * (8 * n) = grind arith in
    rw (a, e, ← m, bits_drop kept ((chunks - pruned) * n) old w) refl

-- a byte that is written
pub written : (bytes : List ℕ) (place byte : ℕ) (bit : Bool) → place / 8 < length bytes → byte < 256
    → bit_at byte (place % 8) ≡ digit_of bit
    → ((i : ℕ) → i < 8 → i ≢ place % 8 → bit_at byte i ≡ bit_at (get_or bytes (place / 8) 0) i)
    → IsWritten bytes (set bytes (place / 8) byte) place bit
unfolding bit_in
written bytes place byte bit inside small there others = record {
  len = length-set bytes (place / 8) byte;
  narrow = λ h i. elim (cases_eq i (place / 8)) [
    | inl e ↦ rw (e, get_or-set_same bytes (place / 8) byte 0 inside) small
    | inr d ↦ rw (get_or-set_other bytes (place / 8) i byte 0 d) (h i)
  ];
  there = rw (get_or-set_same bytes (place / 8) byte 0 inside, there) (eqb-digit bit);
  others = λ i d. elim (cases_eq (i / 8) (place / 8)) [
    | inl e ↦ rw (
      e,
      get_or-set_same bytes (place / 8) byte 0 inside,
      others (i % 8) (omega arith) (λ same. d (omega arith)),
    ) refl
    | inr e ↦ rw (get_or-set_other bytes (place / 8) (i / 8) byte 0 e) refl
  ];
}

-- the bit that comes next is clear
pub next_clear : (n pruned kept : ℕ) (old mid : List ℕ) → IsPacked n pruned kept old → HasRoom n old mid kept
    → bit_in mid kept ≡ false
next_clear n pruned kept old mid p r = r.same kept ∙ p.clear kept (omega arith)

pub roomy : (n : ℕ) (bytes : List ℕ) (kept : ℕ) → kept ≡ 8 * length bytes
    → HasRoom n bytes (bytes ++ replicate n 0) kept
unfolding bit_in
roomy n bytes kept full =
    record {
      more = λ e. length-append bytes (replicate n 0) ∙ ap (λ (x : ℕ). length bytes + x) (length-replicate n 0);
      enough = λ d. absurd (d full);
      narrow = λ h i. rw (grown bytes n i) (h i);
      same = λ i. rw (grown bytes n (i / 8)) refl;
    }

-- what pruning takes is kept
pub gone_within : (n pruned kept chunks bit : ℕ) (bytes : List ℕ) → bit ≤ pruned * (8 * n) + length (bits_in bytes kept)
    → chunks ≡ bit / (8 * n) → IsChunkSize n
    → pruned < chunks → (8 * ((chunks - pruned) * n) ≤ kept) × (chunks * (8 * n) ≤ pruned * (8 * n) + kept)
gone_within n pruned kept chunks bit bytes h e size less =
    let w = prune_within n pruned kept chunks bit bytes h e (chunk_positive n size) in
    (omega (arith, w, chunks_split n pruned chunks (omega arith)), w)

-- a bit of a chunk
pub bit_in-chunk : (n bit : ℕ) (bits : List Bool) → 0 < n
    → bit_in (chunk n bits (bit / (8 * n))) (bit % (8 * n)) ≡ get_or bits bit false
unfolding bit_in
bit_in-chunk n bit bits some =
    let place : ℕ = bit % (8 * n) in
    let inner : place < 8 * n = mod-lt bit (omega arith) in
    let byte : place / 8 < n = omega arith in
    let whole : 8 * (bit / (8 * n) * n + place / 8) + place % 8 ≡ bit =
    at n (bit / (8 * n)) place bit (div-add-mod' bit (8 * n)) in
    ap (λ (x : ℕ). eqb (bit_at x (place % 8)) 1) (get_or-chunk n (bit / (8 * n)) (place / 8) bits byte)
    ∙ ap (λ (x : ℕ). eqb x 1)
    (bit_at-number_of 8 (place % 8) (drop (8 * (bit / (8 * n) * n + place / 8)) bits) (omega arith))
    ∙ eqb-digit (get_or (drop (8 * (bit / (8 * n) * n + place / 8)) bits) (place % 8) false)
    ∙ get_or-drop (8 * (bit / (8 * n) * n + place / 8)) bits (place % 8) false
    ∙ ap (λ (x : ℕ). get_or bits x false) whole where
      at : (n q place bit : ℕ) → q * (8 * n) + place ≡ bit → 8 * (q * n + place / 8) + place % 8 ≡ bit
      at n q place bit e = let m : q * (8 * n) ≡ 8 * (q * n) = grind arith in omega arith

-- ---- the last chunk

-- its index, where so many chunks are kept
pub last_place : (n pruned kept : ℕ) (bytes : List ℕ) → IsPacked n pruned kept bytes → n ≤ length bytes
    → (c : ℕ) × (length bytes ≡ c * n + n) × ((kept - 1) / (8 * n) ≡ c) × (c * (8 * n) < kept)
    × (kept ≤ c * (8 * n) + 8 * n)
last_place n pruned kept bytes p some = at p.chunks p.room p.enough p.tight where
  at : (chunks : ℕ) → length bytes ≡ chunks * n → kept ≤ chunks * (8 * n) → chunks * (8 * n) < kept + 8 * n
      → (c : ℕ) × (length bytes ≡ c * n + n) × ((kept - 1) / (8 * n) ≡ c) × (c * (8 * n) < kept)
      × (kept ≤ c * (8 * n) + 8 * n)
  at zero room enough tight = absurd (omega (arith, room, chunk_positive n p.size))
  at (suc c) room enough tight =
      let one : suc c * n ≡ c * n + n = grind arith in
      let eight : suc c * (8 * n) ≡ c * (8 * n) + 8 * n = grind arith in
      let in_last : kept - 1 ≡ c * (8 * n) + (kept - 1 - c * (8 * n)) = omega (arith, tight, eight) in (
        c,
        omega (arith, room, one),
        ap (λ (x : ℕ). x / (8 * n)) in_last ∙ div-mul-add c (8 * n) (kept - 1 - c * (8 * n))
            (omega (arith, enough, tight, eight, chunk_positive n p.size)),
        omega (arith, tight, eight),
        omega (arith, enough, eight),
      )

pub last_is : (n pruned kept : ℕ) (bytes r : List ℕ) → IsPacked n pruned kept bytes → n ≤ length bytes → length r ≡ n
    → ((m : ℕ) → m < n → get_or r m 0 ≡ get_or bytes (length bytes - n + m) 0)
    → r ≡ chunk n (bits_in bytes kept) ((length (bits_in bytes kept) - 1) / (8 * n))
last_is n pruned kept bytes r p some len each =
    let at = last_place n pruned kept bytes p some in
    let index : (length (bits_in bytes kept) - 1) / (8 * n) ≡ at.0 =
    ap (λ (x : ℕ). (x - 1) / (8 * n)) (length-bits_in bytes kept) ∙ at.2 in
    chunk_is n at.0 kept bytes r p.narrow p.clear len (λ m h. each m h
    ∙ ap (λ (x : ℕ). get_or bytes x 0) (let e : length bytes - n + m ≡ at.0 * n + m = omega (arith, at.1) in e))
    ∙ ap (chunk n (bits_in bytes kept)) (sym index)

-- nothing is left
pub none_kept : (n pruned kept : ℕ) (bytes : List ℕ) → IsPacked n pruned kept bytes → length bytes < n
    → (kept ≡ 0) × (length bytes ≡ 0)
none_kept n pruned kept bytes p none = at p.chunks p.room p.enough where
  at : (chunks : ℕ) → length bytes ≡ chunks * n → kept ≤ chunks * (8 * n) → (kept ≡ 0) × (length bytes ≡ 0)
  at zero room enough = (omega (arith, enough), omega (arith, room))
  at (suc c) room enough = absurd (let one : suc c * n ≡ c * n + n = grind arith in omega (arith, room, one))

-- the last chunk that is left, or that nothing is left
pub last_of : (n pruned kept : ℕ) (bytes : List ℕ) (last : Option (Bor (List ℕ))) → IsPacked n pruned kept bytes
    → MatchOption last (length bytes < n) (λ y. (n ≤ length bytes)
    × IsWholeChunk (drop (length bytes - n) bytes) y.now n)
    → MatchOption last (bits_in bytes kept ≡ []) (λ y. (bits_in bytes kept ≢ [])
    × (y.now ≡ chunk n (bits_in bytes kept) ((length (bits_in bytes kept) - 1) / (8 * n))))
last_of n pruned kept bytes None p none =
    nil_from_length (bits_in bytes kept) (length-bits_in bytes kept ∙ (none_kept n pruned kept bytes p none).0)
last_of n pruned kept bytes (Some y) p (some, whole) =
    let at = last_place n pruned kept bytes p some in (
      (λ e. let z : length (bits_in bytes kept) ≡ 0 = ap length e in omega (arith, z, length-bits_in bytes kept, at.3)),
      last_is n pruned kept bytes y.now p some (ap length whole.same ∙ whole.long)
          (λ m h. ap (λ (xs : List ℕ). get_or xs m 0) whole.same ∙ get_or-drop (length bytes - n) bytes m 0),
    )

pub resized : (n count len : ℕ) (old new : List ℕ) → count ≡ length old → len ≡ length old
    → new ≡ take (count + n) old ++ replicate (count + n - len) 0 → new ≡ old ++ replicate n 0
resized n count len old new e l is =
    is ∙ ap₂ (λ (xs ys : List ℕ). xs ++ ys) (take_all (count + n) old (omega arith))
    (ap (λ (m : ℕ). replicate m 0) (let f : count + n - len ≡ n = omega arith in f))

clear_bytes_of : (n : ℕ) → packed_bytes n [] ≡ replicate n 0
unfolding packed_bytes number_of
clear_bytes_of zero = refl
clear_bytes_of (suc n) = ap (λ (xs : List ℕ). 0 ∷ xs) (clear_bytes_of n)

-- a chunk past the bits is clear
pub clear_chunk : (n : ℕ) (r : List ℕ) (bits : List Bool) → bits ≡ [] → r ≡ replicate n 0
    → r ≡ chunk n bits ((length bits - 1) / (8 * n))
unfolding chunk
clear_chunk n r bits e is =
    is ∙ (sym (clear_bytes_of n)
    ∙ sym (ap (λ (xs : List Bool). packed_bytes n (drop ((length bits - 1) / (8 * n) * (8 * n)) xs)) e
    ∙ ap (packed_bytes n) (drop-nil ((length bits - 1) / (8 * n) * (8 * n)))))
