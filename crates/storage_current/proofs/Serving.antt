-- Ranges of operations and their chunks, as they are served.
use Rattle.std.proofs.Common.{◌≡◌, ℕ, zero, suc, ◌+◌, ◌-◌, ◌*◌, ◌/◌, ◌<◌, ◌≤◌, ◌^◌, List, [], ◌∷◌, ◌++◌, length, map, min, get_or, Bool, Err, refl, sym, ap, ◌∙◌, subst, arith}
use Rattle.std.specs.List.{All, Contains, range_with_len}
use Rattle.std.proofs.lemmas.List.FromFn.{length-range_with_len, get_or-range_with_len, length-map-range_with_len, get_or-map-range_with_len}
use Rattle.std.proofs.lemmas.Nat.{pow_pos}
use Rattle.std.proofs.Math.Nat.{le-div_iff_mul-le}
use Rattle.storage_merkle.specs.Laws.Multiples.{pow_order}
use Rattle.storage_merkle.specs.Shape.{Shape}
use Rattle.storage_bitmap.specs.Chunks.{Retained, IsChunkSize, IsRest, chunk, chunks_from}
use Rattle.storage_ops.specs.declared.qmdb.error.Error.{Error}
use Rattle.storage_ops.specs.declared.qmdb.error.Error.TheVariants.{Log}
use Rattle.storage_current.specs.Laws.Grafting.{height_of_power}
use Rattle.storage_current.specs.Served.{HoldsRange, IsFailedLog, IsLogFault, Counts}
use Rattle.storage_current.specs.Snapshots.{Grafting, Snapshot, Holds, height, first_chunk}
use Rattle.storage_current.proofs.Fetching.{counts_as}
use Rattle.storage_current.proofs.Heights.{halves_power, eight_powers}
use Rattle.storage_current.proofs.Roots.{kept_chunk}

-- ---- locations

range_more : (a n : ℕ) → range_with_len a (suc n) ≡ range_with_len a n ++ (a + n) ∷ []
range_more a zero = ap (λ m. m ∷ []) (let e : a ≡ a + 0 = omega arith in e)
range_more a (suc n) = ap (λ xs. a ∷ xs) (range_more (a + 1) n
    ∙ ap (λ m. range_with_len (a + 1) n ++ m ∷ []) (let e : a + 1 + n ≡ a + suc n = omega arith in e))

pub locations_more : (xs : List ℕ) (a b : ℕ) → a ≤ b → xs ≡ range_with_len a (b - a)
    → xs ++ b ∷ [] ≡ range_with_len a (b + 1 - a)
locations_more xs a b le e =
    ap (λ ys. ys ++ b ∷ []) e
    ∙ ap (λ m. range_with_len a (b - a) ++ m ∷ []) (let f : b ≡ a + (b - a) = omega arith in f)
    ∙ sym (range_more a (b - a))
    ∙ ap (range_with_len a) (let f : suc (b - a) ≡ b + 1 - a = omega arith in f)

abbrev Between : ℕ → ℕ → ℕ → Type 0
Between first past l = (first ≤ l) × (l < past)

pub held_locations : (first past low high : ℕ) (xs : List ℕ) → xs ≡ range_with_len low (high - low)
    → HoldsRange first past low high → All (Between first past) xs
held_locations first past low high xs e holds = λ k d l.
    let less : k < high - low = subst (λ n. k < n) (ap length e ∙ length-range_with_len low (high - low)) l in
    let at : get_or xs k d ≡ low + k = ap (λ ys. get_or ys k d) e ∙ get_or-range_with_len low (high - low) k d less in
    let a = holds.0 in
    let b = holds.1 in
    (omega (arith, at, a), omega (arith, at, b, less))

-- ---- chunks

pub same_power : (m i j : ℕ) → m ≡ 2 ^ i → m ≡ 2 ^ j → i ≡ j
same_power m i j a b =
    let p = pow_order i j (let l : 2 ^ i ≤ 2 ^ j = omega (arith, a, b) in l) in
    let q = pow_order j i (let l : 2 ^ j ≤ 2 ^ i = omega (arith, a, b) in l) in
    omega (arith, p, q)

chunks_more : (n : ℕ) (bits : List Bool) (c j : ℕ)
    → chunks_from n bits (suc c) j ≡ chunks_from n bits c j ++ chunk n bits (j + c) ∷ []
unfolding chunks_from
chunks_more n bits zero j = ap (λ m. chunk n bits m ∷ []) (let e : j ≡ j + 0 = omega arith in e)
chunks_more n bits (suc c) j = ap (λ xs. chunk n bits j ∷ xs) (chunks_more n bits c (suc j)
    ∙ ap (λ m. chunks_from n bits c (suc j) ++ chunk n bits m ∷ []) (let e : suc j + c ≡ j + suc c = omega arith in e))

pub chunks_pushed : (n : ℕ) (bits : List Bool) (pruned first index : ℕ) (xs : List (List ℕ)) (x : List ℕ)
    → pruned ≤ first → first ≤ index → xs ≡ chunks_from n bits (index - first) (first - pruned)
    → x ≡ chunk n bits (index - pruned)
    → xs ++ x ∷ [] ≡ chunks_from n bits (index + 1 - first) (first - pruned)
chunks_pushed n bits pruned first index xs x kept order e is =
    ap (λ ys. ys ++ x ∷ []) e
    ∙ ap (λ y. chunks_from n bits (index - first) (first - pruned) ++ y ∷ []) (is
    ∙ ap (chunk n bits) (let f : index - pruned ≡ first - pruned + (index - first) = omega arith in f))
    ∙ sym (chunks_more n bits (index - first) (first - pruned))
    ∙ ap (λ c. chunks_from n bits c (first - pruned))
    (let f : suc (index - first) ≡ index + 1 - first = omega arith in f)

pub chunks_none : (n : ℕ) (bits : List Bool) (first j : ℕ) (xs : List (List ℕ)) → xs ≡ []
    → xs ≡ chunks_from n bits (first - first) j
unfolding chunks_from
chunks_none n bits first j xs e = e ∙ ap (λ c. chunks_from n bits c j) (let f : 0 ≡ first - first = omega arith in f)

pub touched_within : (n h index end count : ℕ) → 8 * n ≡ 2 ^ h → 0 < end → index < (end - 1) / 2 ^ h + 1 → end ≤ count
    → index * (8 * n) < count
touched_within n h index end count power some below within =
    let at : index * 2 ^ h ≤ end - 1 = (le-div_iff_mul-le {x = index} {y = end - 1} (pow_pos h)).0 (omega arith) in
    let same : index * (8 * n) ≡ index * 2 ^ h = ap (λ m. index * m) power in
    omega (arith, at, same)

quotients_rise : (d a b : ℕ) → 0 < d → a ≤ b → a / d ≤ b / d
quotients_rise d a b some le =
    let at : a / d * d ≤ a = (le-div_iff_mul-le {x = a / d} {y = a} some).0 (omega arith) in
    (le-div_iff_mul-le {x = a / d} {y = b} some).1 (omega (arith, at))

pub touched_order : (h start end : ℕ) → start < end → start / 2 ^ h ≤ (end - 1) / 2 ^ h
touched_order h start end less = quotients_rise (2 ^ h) start (end - 1) (pow_pos h) (omega arith)

pub touched_all : (n : ℕ) (bits : List Bool) (pruned start end h k index : ℕ) (xs : List (List ℕ)) → k ≡ h → start < end
    → index ≡ (end - 1) / 2 ^ k + 1 → xs ≡ chunks_from n bits (index - start / 2 ^ k) (start / 2 ^ k - pruned)
    → xs ≡ chunks_from n bits ((end - 1) / 2 ^ h - start / 2 ^ h + 1) (start / 2 ^ h - pruned)
touched_all n bits pruned start end h k index xs same less at e =
    let order = touched_order k start end less in
    let count : index - start / 2 ^ k ≡ (end - 1) / 2 ^ k - start / 2 ^ k + 1 = omega (arith, at, order) in
    e ∙ ap (λ c. chunks_from n bits c (start / 2 ^ k - pruned)) count
    ∙ ap (λ r. chunks_from n bits ((end - 1) / 2 ^ r - start / 2 ^ r + 1) (start / 2 ^ r - pruned)) same

pub kept_chunks : (n : ℕ) (r : Retained) (bits : List Bool) → IsRest n r bits → (c j k : ℕ) → r.pruned ≤ j
    → k ≡ j - r.pruned → chunks_from n r.bits c k ≡ chunks_from n bits c j
unfolding chunks_from
kept_chunks n r bits rest zero j k kept is = refl
kept_chunks n r bits rest (suc c) j k kept is =
    let head : chunk n r.bits k ≡ chunk n bits j = ap (chunk n r.bits) is ∙ kept_chunk n r bits rest j kept in
    let tail : chunks_from n r.bits c (suc k) ≡ chunks_from n bits c (suc j) =
    kept_chunks n r bits rest c (suc j) (suc k) (omega arith) (omega (arith, is)) in
    cc

-- ---- what a log and a bitmap hold of a snapshot

pub power_of_size : (S : Shape) (n : ℕ) → IsChunkSize n → 8 * n ≡ 2 ^ height (record { shape = S; bytes = n })
power_of_size S n size =
    let k = halves_power n n size.0 in
    let e = eight_powers n k.0 k.1 in
    e ∙ ap (λ j. 2 ^ j) (sym (height_of_power S n (3 + k.0) e))

pub end_after : (start most count : ℕ) → 1 ≤ most → start < count → start < min (start + most) count
end_after start most count some within = omega arith

pub end_within : (start most count : ℕ) → min (start + most) count ≤ count
end_within start most count = omega arith

-- a fault of the log at asked locations is one in their range
pub failed_within : {F : Type 0} (may_fail : ℕ → ℕ → Type 0) (low high code : ℕ) (ls : List ℕ)
    → ls ≡ range_with_len low (high - low) → (l : ℕ) × Contains ls l × may_fail l code
    → IsFailedLog {F = F} may_fail low high (Log code)
failed_within may_fail low high code ls are at =
    let has = subst (λ xs. Contains xs at.0) are at.1 in
    let less : has.0 < high - low = omega (arith, has.1, length-range_with_len low (high - low)) in
    let is : at.0 ≡ low + has.0 =
    sym has.2 ∙ get_or-range_with_len low (high - low) has.0 _ less in
    (code, (at.0, omega (arith, is), omega (arith, is, less), at.2), refl)

pub fault_moved : {F : Type 0} (may_fail : ℕ → ℕ → Type 0) (a b low high : ℕ) (error : Error F) → a ≡ low → b ≡ high
    → IsFailedLog may_fail a b error → IsFailedLog may_fail low high error
fault_moved may_fail a b low high error x y f =
    subst (λ v. IsFailedLog may_fail low v error) y (subst (λ u. IsFailedLog may_fail u b error) x f)

pub log_counts_moved : {X Y F : Type 0} (error : Error F) (before after : ℕ)
    → Counts (IsLogFault {X = X} (Err error)) before after → Counts (IsLogFault {X = Y} (Err error)) before after
log_counts_moved error before after c =
    counts_as before after (λ f. (f.0, let e = f.1 in cc)) (λ f. (f.0, let e = f.1 in cc)) c.told c.once

pub holds_range : (g : Grafting) (s : Snapshot) (r : Retained) (item : ℕ → List ℕ) (low high : ℕ)
    (operations chunks : List (List ℕ)) → low < high → high ≤ length s.operations → IsRest g.bytes r s.bits
    → r.pruned ≤ first_chunk g low
    → operations ≡ map item (range_with_len low (high - low))
    → ((h : ℕ) → 8 * g.bytes ≡ 2 ^ h
    → chunks ≡ chunks_from g.bytes r.bits ((high - 1) / 2 ^ h - low / 2 ^ h + 1) (low / 2 ^ h - r.pruned))
    → 8 * g.bytes ≡ 2 ^ height g
    → ((l : ℕ) → low ≤ l → l < high → item l ≡ get_or s.operations l [])
    → Holds g s low operations chunks
holds_range g s r item low high operations chunks some within rest kept are touched power same =
    let count : length operations ≡ high - low = ap length are ∙ length-map-range_with_len item low (high - low) in
    let end : low + length operations - 1 ≡ high - 1 = omega (arith, count) in
    record {
      some = omega (arith, count, some);
      there = record {
        within = omega (arith, count, some, within);
        each = λ j l.
            let less : j < high - low = omega (arith, l, count) in
            ap (λ xs. get_or xs j []) are ∙ get_or-map-range_with_len item low (high - low) j (low + j) [] less refl
            ∙ same (low + j) (omega arith) (omega (arith, less));
      };
      chunks_are = touched (height g) power
          ∙ kept_chunks g.bytes r s.bits rest ((high - 1) / 2 ^ height g - low / 2 ^ height g + 1) (first_chunk g low)
          (low / 2 ^ height g - r.pruned) kept refl
          ∙ ap (λ e.
          chunks_from g.bytes s.bits (e / 2 ^ height g - first_chunk g low + 1) (first_chunk g low)) (sym end);
    }

-- the same of equal ends
pub range_moved : (item : ℕ → List ℕ) (a b low high : ℕ) (operations : List (List ℕ)) → a ≡ low → b ≡ high
    → operations ≡ map item (range_with_len a (b - a)) → operations ≡ map item (range_with_len low (high - low))
range_moved item a b low high operations x y e =
    e ∙ ap (λ u. map item (range_with_len u (b - u))) x ∙ ap (λ v. map item (range_with_len low (v - low))) y

pub touched_moved : (n : ℕ) (r : Retained) (a b low high : ℕ) (chunks : List (List ℕ)) → a ≡ low → b ≡ high
    → ((h : ℕ) → 8 * n ≡ 2 ^ h → chunks ≡ chunks_from n r.bits ((b - 1) / 2 ^ h - a / 2 ^ h + 1) (a / 2 ^ h - r.pruned))
    → (h : ℕ) → 8 * n ≡ 2 ^ h
    → chunks ≡ chunks_from n r.bits ((high - 1) / 2 ^ h - low / 2 ^ h + 1) (low / 2 ^ h - r.pruned)
touched_moved n r a b low high chunks x y e = λ h p.
    e h p ∙ ap (λ u. chunks_from n r.bits ((b - 1) / 2 ^ h - u / 2 ^ h + 1) (u / 2 ^ h - r.pruned)) x
    ∙ ap (λ v. chunks_from n r.bits ((v - 1) / 2 ^ h - low / 2 ^ h + 1) (low / 2 ^ h - r.pruned)) y
