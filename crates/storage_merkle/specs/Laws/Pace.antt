-- Both families' trees over chunks keep pace, and stay within what the positions reach.
use Rattle.std.proofs.Common.{◌≡◌, ℕ, zero, suc, ◌+◌, ◌-◌, ◌*◌, ◌^◌, ◌<◌, ◌≤◌, sym, ap, ◌∙◌, arith, inl, inr, pow_pos}
use Rattle.std.proofs.lemmas.Bool.{cases_lt}
use Rattle.std.proofs.lemmas.Nat.{pow-add, mul-le}
use Rattle.std.proofs.Math.Nat.{add-mul}
use Rattle.storage_merkle.specs.Shape.{Shape, Laws}
use Rattle.storage_merkle.specs.Mmb.{mmb}
use Rattle.storage_merkle.specs.Laws.Mmb.{mmb_laws}
use Rattle.storage_merkle.specs.Mmr.{mmr}
use Rattle.storage_merkle.specs.Laws.Mmr.{mmr_laws}
use Rattle.storage_merkle.specs.Laws.Multiples.{is_multiple, pow_two}
use Rattle.storage_merkle.specs.Nodes.{AreGraftable}

-- a chunk whose node is born is graftable
born_chunk : (S : Shape) → Laws S → (n g r j : ℕ) → AreGraftable S n g r → S.birth (j * 2 ^ g) g ≤ n → j < r
born_chunk S L n g r j are born = (are j).0 ((L.inside n (j * 2 ^ g) g (is_multiple j (2 ^ g) (pow_pos g))).1 born)

pub mmr_keeps_pace : (g n r a k : ℕ) → AreGraftable mmr n g r → mmr.birth (a * 2 ^ g) (k + g) ≤ n → mmr.birth a k ≤ r
mmr_keeps_pace g n r a k are h =
    let power : 2 ^ (k + g) ≡ 2 ^ k * 2 ^ g = pow-add 2 k g in
    let some : 0 < 2 ^ k = pow_pos k in
    let j : ℕ = a + 2 ^ k - 1 in
    let e : j + 1 ≡ a + 2 ^ k = omega arith in
    let last : (j + 1) * 2 ^ g ≤ n = rw e (rw (add-mul a (2 ^ k) (2 ^ g)) (omega arith)) in
    let born : j * 2 ^ g + 2 ^ g ≤ n = omega (arith, add-mul j 1 (2 ^ g)) in
    let below : j < r = born_chunk mmr mmr_laws n g r j are born in
    omega arith

pub mmb_keeps_pace : (g n r a k : ℕ) → AreGraftable mmb n g r → mmb.birth (a * 2 ^ g) (k + g) ≤ n → mmb.birth a k ≤ r
mmb_keeps_pace g n r a zero are h =
    let none : zero + g ≡ g = omega arith in
    let below : a < r = born_chunk mmb mmb_laws n g r a are (rw none at h) in
    omega arith
mmb_keeps_pace zero n r a (suc k) are h =
    let none : suc k + zero ≡ suc k = omega arith in
    let h' : a * 2 ^ 0 + 3 * 2 ^ k - 1 ≤ n = rw none at h in
    let some : 0 < 2 ^ k = pow_pos k in
    let j : ℕ = a + 3 * 2 ^ k - 2 in
    let born : j * 2 ^ 0 + 1 ≤ n = omega arith in
    let below : j < r = born_chunk mmb mmb_laws n 0 r j are born in
    omega arith
mmb_keeps_pace (suc g) n r a (suc k) are h =
    let up : suc k + suc g ≡ suc (k + suc g) = omega arith in
    let h' : a * 2 ^ suc g + 3 * 2 ^ (k + suc g) - 1 ≤ n = rw up at h in
    let power : 2 ^ (k + suc g) ≡ 2 ^ k * 2 ^ suc g = pow-add 2 k (suc g) in
    let two : 2 ^ suc g ≡ 2 ^ g + 2 ^ g = pow_two g in
    let some : 0 < 2 ^ k = pow_pos k in
    let j : ℕ = a + 3 * 2 ^ k - 2 in
    let e : j + 2 ≡ a + 3 * 2 ^ k = omega arith in
    let last : (j + 2) * 2 ^ suc g ≤ n + 1 = rw e (rw (add-mul a (3 * 2 ^ k) (2 ^ suc g)) (omega arith)) in
    let born : j * 2 ^ suc g + 3 * 2 ^ g - 1 ≤ n = omega (arith, add-mul j 2 (2 ^ suc g), pow_pos g) in
    let below : j < r = born_chunk mmb mmb_laws n (suc g) r j are born in
    omega arith

-- the node of a graftable chunk is born
graftable_born : (S : Shape) → Laws S → (n g r j : ℕ) → AreGraftable S n g r → j < r → S.birth (j * 2 ^ g) g ≤ n
graftable_born S L n g r j are below = (L.inside n (j * 2 ^ g) g (is_multiple j (2 ^ g) (pow_pos g))).0 ((are j).1 below)

pub mmr_stays_within : (g : ℕ) → 2 ≤ g → g ≤ 62 → (n r a k : ℕ) → n ≤ 2 ^ 62 → AreGraftable mmr n g r → mmr.birth a k ≤ r
    → mmr.birth (a * 2 ^ g) (k + g) ≤ 2 ^ 62
mmr_stays_within g low high n r a k few are born =
    let power : 2 ^ (k + g) ≡ 2 ^ k * 2 ^ g = pow-add 2 k g in
    let some : 0 < 2 ^ k = pow_pos k in
    let j : ℕ = a + 2 ^ k - 1 in
    let e : j + 1 ≡ a + 2 ^ k = omega arith in
    let last : j * 2 ^ g + 2 ^ g ≤ n = graftable_born mmr mmr_laws n g r j are (omega arith) in
    let end : (a + 2 ^ k) * 2 ^ g ≤ n = rw (← e) (omega (arith, add-mul j 1 (2 ^ g))) in
    omega (arith, add-mul a (2 ^ k) (2 ^ g))

-- of two multiples, one that is below the next of the other is no greater
below_next : (x y m : ℕ) → x * m < (y + 1) * m → x * m ≤ y * m
below_next x y m less = elim (cases_lt y x) [
  | inl high ↦ absurd (let up : (y + 1) * m ≤ x * m = mul-le (y + 1) m x m (omega arith) (omega arith) in omega arith)
  | inr le ↦ mul-le x m y m le (omega arith)
]

low_power : (g : ℕ) → 2 ≤ suc g → 2 ≤ 2 ^ g
low_power zero l = absurd (omega arith)
low_power (suc g) l = omega (arith, pow_two g, pow_pos g)

pub mmb_stays_within : (g : ℕ) → 2 ≤ g → g ≤ 62 → (n r a k : ℕ) → n ≤ 2 ^ 62 → AreGraftable mmb n g r → mmb.birth a k ≤ r
    → mmb.birth (a * 2 ^ g) (k + g) ≤ 2 ^ 62
mmb_stays_within zero low high n r a k few are born = absurd (omega arith)
mmb_stays_within (suc g) low high n r a zero few are born =
    let none : zero + suc g ≡ suc g = omega arith in
    rw none (omega (arith, graftable_born mmb mmb_laws n (suc g) r a are (omega arith)))
mmb_stays_within (suc g) low high n r a (suc k) few are born =
    let up : suc k + suc g ≡ suc (k + suc g) = omega arith in
    let power : 2 ^ (k + suc g) ≡ 2 ^ k * 2 ^ suc g = pow-add 2 k (suc g) in
    let split : 2 ^ 62 ≡ 2 ^ (62 - suc g) * 2 ^ suc g =
    (let e : 62 - suc g + suc g ≡ 62 = omega arith in ap (λ (i : ℕ). 2 ^ i) (sym e) ∙ pow-add 2 (62 - suc g) (suc g)) in
    let two : 2 ^ suc g ≡ 2 ^ g + 2 ^ g = pow_two g in
    let some : 0 < 2 ^ k = pow_pos k in
    let j : ℕ = a + 3 * 2 ^ k - 2 in
    let e : j + 2 ≡ a + 3 * 2 ^ k = omega arith in
    let last : j * 2 ^ suc g + 3 * 2 ^ g - 1 ≤ n = graftable_born mmb mmb_laws n (suc g) r j are (omega arith) in
    let near : (j + 2) * 2 ^ suc g < (2 ^ (62 - suc g) + 1) * 2 ^ suc g =
    omega (arith, low_power g low, add-mul j 2 (2 ^ suc g), add-mul (2 ^ (62 - suc g)) 1 (2 ^ suc g)) in
    let whole : (a + 3 * 2 ^ k) * 2 ^ suc g ≤ 2 ^ 62 =
    rw (split, ← e) (below_next (j + 2) (2 ^ (62 - suc g)) (2 ^ suc g) near) in
    let there : a * 2 ^ suc g + 3 * 2 ^ (k + suc g) - 1 ≤ 2 ^ 62 =
    omega (arith, whole, add-mul a (3 * 2 ^ k) (2 ^ suc g)) in
    rw up there
