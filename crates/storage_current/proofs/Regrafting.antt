-- Nodes over chunks that are hashed again for a position of the tree over the operations.
use Rattle.std.proofs.Common.{◌≡◌, ℕ, zero, suc, ◌+◌, ◌-◌, ◌*◌, ◌/◌, ◌%◌, ◌<◌, ◌≤◌, ◌^◌, List, [], inr, Option, option_map, refl, sym, ap, ap₂, ◌∙◌, arith, ⊎_elim, pow_pos}
use Rattle.std.proofs.lemmas.Bool.{cases_lt}
use Rattle.std.proofs.lemmas.Nat.{pow-add, mul-le}
use Rattle.std.proofs.Math.Nat.{add-mul}
use Rattle.storage_codec.specs.Digests.{HashFunction}
use Rattle.storage_merkle.specs.Shape.{Shape, Laws, size}
use Rattle.storage_merkle.specs.Nodes.{CoversSame}
use Rattle.storage_merkle.specs.Trees.{ungrafted}
use Rattle.storage_merkle.specs.Hashing.{join_digest}
use Rattle.storage_merkle.specs.Laws.Multiples.{in_units, multiple_add, multiple_down, next, out_of_units, pow_le, pow_order, pow_two, power_multiple}
use Rattle.storage_merkle.specs.Laws.Shape.{covers_down, covers_once, valid_height, valid_leaves}
use Rattle.storage_current.specs.Combined.{IsRaised, over_chunks}
use Rattle.storage_current.specs.GraftedTrees.{TakesMade, join_over, rebuilt, regrafted}
use Rattle.storage_current.proofs.PrunedViews.{regrafted_is}
use Rattle.storage_current.proofs.Raised.{raised}
use Rattle.storage_current.proofs.Rebuilt.{rebuilt_seen, seen_once}

-- the node of height j over the leaves from b on is under the one of height k over those from a on, or is that one
abbrev pub IsUnder : ℕ → ℕ → ℕ → ℕ → Type 0
IsUnder a k b j = (b % 2 ^ j ≡ 0) × (a ≤ b) × (b + 2 ^ j ≤ a + 2 ^ k)

-- where each node under one is taken, so are those that are hashed
pub all_taken : (kept taken : ℕ → ℕ → Type 0) (k a : ℕ) → a % 2 ^ k ≡ 0 → ((b j : ℕ) → IsUnder a k b j → taken b j)
    → TakesMade kept taken k a
all_taken kept taken zero a al all = tt
all_taken kept taken (suc k) a al all =
    let two = pow_two k in
    let left : a % 2 ^ k ≡ 0 = multiple_down a k (suc k) (omega arith) al in
    let right : (a + 2 ^ k) % 2 ^ k ≡ 0 =
    multiple_add a (2 ^ k) (2 ^ k) (pow_pos k) left (power_multiple k k (omega arith)) in
    inr (
      all a (suc k) (al, omega arith, omega arith),
      all_taken kept taken k a left (λ b j u. all b j (u.0, u.1, omega (arith, u.2, two))),
      all_taken kept taken k (a + 2 ^ k) right (λ b j u. all b j (u.0, omega (arith, u.1), omega (arith, u.2, two))),
    )

module _ (S : Shape) (L : Laws S) where
  -- a node under another one stands before it
  pub under_before : (k a b j : ℕ) → a % 2 ^ k ≡ 0 → IsUnder a k b j → S.position b j ≤ S.position a k
  under_before zero a b j al u =
      let lo : a ≤ b = u.1 in
      let hi : b + 2 ^ j ≤ a + 2 ^ 0 = u.2 in
      let j0 : j ≤ 0 = pow_order j 0 (omega arith) in
      let ej : j ≡ 0 = omega arith in
      let eb : b ≡ a = omega (arith, pow_pos j) in
      let e : S.position b j ≡ S.position a 0 = ap₂ S.position eb ej in
      omega arith
  under_before (suc k) a b j al u =
      let lo : a ≤ b = u.1 in
      let hi : b + 2 ^ j ≤ a + 2 ^ suc k = u.2 in
      let two = pow_two k in
      let within : j ≤ suc k = pow_order j (suc k) (omega arith) in
      let left : a % 2 ^ k ≡ 0 = multiple_down a k (suc k) (omega arith) al in
      let right : (a + 2 ^ k) % 2 ^ k ≡ 0 =
      multiple_add a (2 ^ k) (2 ^ k) (pow_pos k) left (power_multiple k k (omega arith)) in
      let c = L.children a k al in
      ⊎_elim
      (λ (m : k < j).
      let ej : j ≡ suc k = omega arith in
      let same : 2 ^ j ≡ 2 ^ suc k = ap (λ x. 2 ^ x) ej in
      let eb : b ≡ a = omega arith in
      let e : S.position b j ≡ S.position a (suc k) = ap₂ S.position eb ej in
      omega arith)
      (λ (m : j ≤ k).
      let down : (a + 2 ^ k) % 2 ^ j ≡ 0 = multiple_down (a + 2 ^ k) j k m right in
      ⊎_elim
      (λ (l : b < a + 2 ^ k).
      let end : b + 2 ^ j ≤ a + 2 ^ k = next b (a + 2 ^ k) (2 ^ j) u.0 down l in
      omega (arith, under_before k a b j left (u.0, lo, end), c.0))
      (λ (g : a + 2 ^ k ≤ b).
      omega (arith, under_before k (a + 2 ^ k) b j right (u.0, g, omega arith), c.1))
      (cases_lt b (a + 2 ^ k)))
      (cases_lt k j)

  -- each node that is hashed again has a valid position among the operations' nodes
  pub under_raised : (g first own a k : ℕ) → 1 ≤ g → g ≤ own → first % 2 ^ own ≡ 0
      → S.position first own ≤ size S (2 ^ 62) → IsUnder (first / 2 ^ g) (own - g) a k
      → IsRaised S (λ p. Unit {0}) g (S.position a k)
  under_raised g first own a k one le al valid u =
      let x : first + 2 ^ own ≤ 2 ^ 62 + 1 = valid_leaves S L first own al valid in
      let high : own ≤ 62 = valid_height S L first own al valid in
      let units = in_units first own g le al in
      let lo : first / 2 ^ g ≤ a = u.1 in
      let hi : a + 2 ^ k ≤ first / 2 ^ g + 2 ^ (own - g) = u.2 in
      let split : 2 ^ own ≡ 2 ^ (own - g) * 2 ^ g =
      ap (λ y. 2 ^ y) (let f : own ≡ own - g + g = omega arith in f) ∙ pow-add 2 (own - g) g in
      let two : 2 ^ 1 ≤ 2 ^ g = pow_le 1 g one in
      let start : first / 2 ^ g * 2 ≤ first / 2 ^ g * 2 ^ g =
      mul-le (first / 2 ^ g) 2 (first / 2 ^ g) (2 ^ g) (omega arith) (omega arith) in
      let long : 2 ^ (own - g) * 2 ≤ 2 ^ (own - g) * 2 ^ g =
      mul-le (2 ^ (own - g)) 2 (2 ^ (own - g)) (2 ^ g) (omega arith) (omega arith) in
      let whole : first / 2 ^ g * 2 ^ g ≡ first = units.0 in
      let room : a + 2 * 2 ^ k ≤ 2 ^ 62 = omega (arith, pow_pos k, pow_pos (own - g)) in
      let born : S.birth a k ≤ 2 ^ 62 = omega (arith, L.soon a k, room) in
      let there : S.position a k < size S (2 ^ 62) = (L.born (2 ^ 62) a k u.0).1 born in
      record {
        low = one;
        valid = omega arith;
        fits = λ q c.
            let node = raised S L g (S.position a k) q a k c (record { aligned = u.0; at = refl }) in
            let from : first ≤ a * 2 ^ g =
            (let m : first / 2 ^ g * 2 ^ g ≤ a * 2 ^ g = mul-le (first / 2 ^ g) (2 ^ g) a (2 ^ g) lo (omega arith) in omega arith) in
            let product : (a + 2 ^ k) * 2 ^ g ≤ (first / 2 ^ g + 2 ^ (own - g)) * 2 ^ g =
            mul-le (a + 2 ^ k) (2 ^ g) (first / 2 ^ g + 2 ^ (own - g)) (2 ^ g) hi (omega arith) in
            let to : a * 2 ^ g + 2 ^ (k + g) ≤ first + 2 ^ own = omega (
              arith,
              product,
              split,
              pow-add 2 k g,
              whole,
              add-mul a (2 ^ k) (2 ^ g),
              add-mul (first / 2 ^ g) (2 ^ (own - g)) (2 ^ g),
            ) in
            let before = under_before own first (a * 2 ^ g) (k + g) al (out_of_units a k g u.0, from, to) in
            omega (arith, node.at, before, valid);
        taken = λ q c. tt;
      }

  -- what the digests below give is what can be had at the position
  pub had_at : {D : Type 0} (digest : List ℕ → D) (text : D → List ℕ) (hash : HashFunction)
      → ((x : List ℕ) → text (digest x) ≡ hash x) → ((x y : D) → text x ≡ text y → x ≡ y)
      → (g first own : ℕ) (kept : ℕ → Option D) (r : Option D) → g ≤ own → first % 2 ^ own ≡ 0
      → option_map text r ≡ rebuilt S (join_digest hash (over_chunks g (ungrafted S)) (λ a. []))
      (λ p. option_map text (kept p)) (own - g) (first / 2 ^ g)
      → (q : ℕ) → CoversSame S g q (S.position first own) → r ≡ regrafted digest text S g kept q
  had_at digest text hash told one g first own kept r le al is q c =
      let u = in_units first own g le al in
      let here = covers_down S L first own g (S.position first own) (S.position (first / 2 ^ g) (own - g))
      (record { aligned = al; at = refl }) le refl in
      let at : q ≡ S.position (first / 2 ^ g) (own - g) =
      covers_once S L g (S.position first own) q (S.position (first / 2 ^ g) (own - g)) c here in
      let seen = rebuilt_seen S text (join_over digest text S g)
      (join_digest hash (over_chunks g (ungrafted S)) (λ a. [])) (λ a k l r. told _) kept (own - g) (first / 2 ^ g) in
      seen_once text one r (rebuilt S (join_over digest text S g) kept (own - g) (first / 2 ^ g)) (is ∙ sym seen)
      ∙ sym (regrafted_is S L digest text g kept q (first / 2 ^ g) (own - g) (record { aligned = u.1; at = sym at }))
