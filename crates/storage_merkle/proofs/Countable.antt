-- The greatest trees whose nodes are counted by 64 bits, and the tree between two sizes.
use Rattle.std.proofs.Common.{◌≡◌, ℕ, ◌+◌, ◌*◌, ◌<◌, ◌≤◌, ◌^◌, ap, ◌∙◌, inl, inr, arith}
use Rattle.std.proofs.lemmas.Bool.{cases_lt}
use Rattle.std.proofs.lemmas.Nat.{pow_pos, ones_cat}
use lib.Count.{ones, ones-ones}
use Rattle.storage_merkle.specs.Shape.{Shape, Laws, size}
use Rattle.storage_merkle.specs.Laws.Shape.{size_order}
use Rattle.storage_merkle.specs.Mmr.{mmr}
use Rattle.storage_merkle.specs.Laws.Mmr.{mmr_size_is, mmr_grows}
use Rattle.storage_merkle.specs.Mmb.{mmb}
use Rattle.storage_merkle.specs.Laws.Mmb.{mmb_size_sum}

-- where no number between two neighbours has a size, none has
pub no_tree : (S : Shape) → Laws S → (low high nodes : ℕ) → high ≤ low + 1 → size S low < nodes → nodes < size S high
    → (n : ℕ) → size S n ≡ nodes → ⊥
no_tree S L low high nodes near below above n same =
    elim (cases_lt low n) [
      | inl more ↦ let up : size S high ≤ size S n = size_order S L high n (omega arith) in
          omega (arith, up, above, same)
      | inr less ↦ let up : size S n ≤ size S low = size_order S L n low less in omega (arith, up, below, same)
    ]

-- 2 ^ 63 leaves of an MMR have one peak
one_digit : (k : ℕ) → ones (2 ^ k) ≡ 1
one_digit k =
    let e : ones (1 * 2 ^ k + 0) ≡ ones 1 + ones 0 = ones_cat k 1 0 (pow_pos k) in
    let z : ones 0 ≡ 0 = ones-ones 0 in
    let o : ones 1 ≡ 1 = ones-ones 1 in
    let f : ones (2 ^ k) ≡ ones (1 * 2 ^ k + 0) = ap ones (omega arith) in
    omega arith

mmr_power : (k n : ℕ) → n ≡ 2 ^ k → size mmr n + 1 ≡ 2 * n
mmr_power k n e = let f : ones n ≡ 1 = ap ones e ∙ one_digit k in omega (arith, mmr_size_is n, f)

pub mmr_fits : (n m : ℕ) → n ≡ 2 ^ 63 → 2 * n ≤ m → size mmr n < m
mmr_fits n m e le = omega (arith, mmr_power 63 n e, le)

pub mmr_most : (n m : ℕ) → n ≡ 2 ^ 63 → m ≤ 2 * n → m ≤ size mmr (n + 1)
mmr_most n m e le = let g = mmr_grows n in omega (arith, mmr_power 63 n e, g, le)

-- an MMB has as many peaks as there are places below the highest digit of one more than its leaves
pub mmb_fits : (n m : ℕ) → 2 ^ 63 ≤ n + 1 → n + 1 < 2 * 2 ^ 63 → 2 * n < m + 63 → 63 ≤ n → size mmb n < m
mmb_fits n m low high le some = let s = mmb_size_sum n 63 low high in omega (arith, s, le, some)

pub mmb_most : (n m : ℕ) → 2 ^ 63 ≤ n + 1 → n + 1 < 2 * 2 ^ 63 → m + 63 ≤ 2 * n → m ≤ size mmb n
mmb_most n m low high le = let s = mmb_size_sum n 63 low high in omega (arith, s, le)
