-- The locations of the operations of a page, in a log.
use Rattle.std.proofs.Common.{◌≡◌, ℕ, zero, suc, ◌+◌, ◌-◌, ◌<◌, ◌≤◌, List, [], ◌∷◌, ◌++◌, length, get_or, sym, ap, ◌∙◌, subst, arith}
use Rattle.std.specs.List.{All, Contains, range_with_len}
use Rattle.std.proofs.lemmas.List.FromFn.{length-range_with_len, get_or-range_with_len}
use Rattle.storage_current.specs.Served.{HoldsRange, MayFailWithin}

range_more : (a n : ℕ) → range_with_len a (suc n) ≡ range_with_len a n ++ (a + n) ∷ []
range_more a zero = ap (λ m. m ∷ []) (let e : a ≡ a + 0 = omega arith in e)
range_more a (suc n) = ap (λ xs. a ∷ xs) (range_more (a + 1) n
    ∙ ap (λ m. range_with_len (a + 1) n ++ m ∷ []) (let e : a + 1 + n ≡ a + suc n = omega arith in e))

pub locations_more : (xs : List ℕ) (a b : ℕ) → a ≤ b → xs ≡ range_with_len a (b - a)
    → xs ++ b ∷ [] ≡ range_with_len a (b + 1 - a)
locations_more xs a b le e =
    ap (λ ys. ys ++ b ∷ []) e
    ∙ ap (λ m. range_with_len a (b - a) ++ m ∷ []) (let f : b ≡ a + (b - a) = omega arith in f)
    ∙ sym (range_more a (b - a))
    ∙ ap (range_with_len a) (let f : suc (b - a) ≡ b + 1 - a = omega arith in f)

-- a log that holds a range holds each location in it
pub held_locations : (first past low high : ℕ) (xs : List ℕ) → xs ≡ range_with_len low (high - low)
    → HoldsRange first past low high → All (λ l. (first ≤ l) × (l < past)) xs
held_locations first past low high xs e holds = λ k d l.
    let less : k < high - low = subst (λ n. k < n) (ap length e ∙ length-range_with_len low (high - low)) l in
    let at : get_or xs k d ≡ low + k = ap (λ ys. get_or ys k d) e ∙ get_or-range_with_len low (high - low) k d less in
    let a = holds.0 in
    let b = holds.1 in
    (omega (arith, at, a), omega (arith, at, b, less))

-- a fault at one of these locations is one in the range
pub failed_within : (may_fail : ℕ → ℕ → Type 0) (low high code : ℕ) (ls : List ℕ) → ls ≡ range_with_len low (high - low)
    → (l : ℕ) × Contains ls l × may_fail l code → MayFailWithin may_fail low high code
failed_within may_fail low high code ls are at =
    let has = subst (λ xs. Contains xs at.0) are at.1 in
    let less : has.0 < high - low = omega (arith, has.1, length-range_with_len low (high - low)) in
    let is : at.0 ≡ low + has.0 =
    sym has.2 ∙ get_or-range_with_len low (high - low) has.0 _ less in
    (at.0, omega (arith, is), omega (arith, is, less), at.2)
