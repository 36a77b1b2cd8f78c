-- Peaks by first leaf and height.
use Rattle.std.proofs.Common.{◌≡◌, ℕ, ◌+◌, ◌^◌, ◌≤◌, List, [], ◌∷◌, ◌++◌, map, refl, sym, ap, ◌∙◌, inl, inr, arith, append-nil}
use Rattle.storage_merkle.specs.Shape.{Shape, leaves_under}
use Rattle.storage_merkle.specs.Nodes.{placed}
use Rattle.storage_merkle.specs.Rests.{EachPeak}
use Rattle.storage_merkle.specs.Trees.{Peak, places}
use Rattle.storage_merkle.proofs.MemNodes.{IsPeak}

-- with their positions
pub places_placed : (S : Shape) (a : ℕ) (ks : List ℕ)
    → map (λ p. (S.position p.first p.height, p.height)) (places a ks) ≡ placed S a ks
places_placed S a [] = refl
places_placed S a (k ∷ ks) = ap (λ ps. (S.position a k, k) ∷ ps) (places_placed S (a + 2 ^ k) ks)

-- what holds of each node that is one of them holds of each of them
pub each_of : (P : ℕ → ℕ → Type 0) (a : ℕ) (ks : List ℕ) → ((b j : ℕ) → IsPeak ks a b j → P b j)
    → EachPeak P (places a ks)
each_of P a [] f = tt
each_of P a (k ∷ ks) f = (f a k (inl (refl, refl)), each_of P (a + 2 ^ k) ks (λ b j i. f b j (inr i)))

-- where nothing is left, what was made of the others is all
pub none_left : {X A : Type 0} (f : List X → List A) (xs : List X) (old all : List A) → f [] ≡ [] → xs ≡ []
    → old ++ f xs ≡ all → old ≡ all
none_left f xs old all empty none e =
    sym (append-nil old) ∙ ap (λ ys. old ++ ys) (sym empty) ∙ ap (λ ys. old ++ f ys) (sym none) ∙ e

-- peaks side by side up to the leaf n
pub record Walk (n : ℕ) (ps : List Peak) : Type 0 where
  pub first : ℕ
  pub heights : List ℕ
  pub are : ps ≡ places first heights
  pub ends : first + leaves_under heights ≡ n

-- the first of them, and the others
pub record Peeled (n a : ℕ) (p : Peak) (qs : List Peak) : Type 0 where
  pub at : a ≡ p.first
  pub within : p.first + 2 ^ p.height ≤ n
  pub rest : Walk n qs
  pub next : rest.first ≡ p.first + 2 ^ p.height

pub peeled : (n : ℕ) (p : Peak) (ps qs : List Peak) → ps ≡ p ∷ qs → (w : Walk n ps) → Peeled n w.first p qs
unfolding leaves_under
peeled n p ps qs e w = go w.heights (sym e ∙ w.are) w.ends
  where
    go : (ks : List ℕ) → p ∷ qs ≡ places w.first ks → w.first + leaves_under ks ≡ n → Peeled n w.first p qs
    go [] x y = absurd (cc)
    go (k ∷ ks) x y =
        let here : p ≡ record { first = w.first; height = k } = cc in
        let others : qs ≡ places (w.first + 2 ^ k) ks = cc in
        let first : p.first ≡ w.first = ap (λ (q : Peak). q.first) here in
        let length : 2 ^ p.height ≡ 2 ^ k = ap (λ (q : Peak). 2 ^ q.height) here in
        record {
          at = sym first;
          within = omega arith;
          rest = record { first = w.first + 2 ^ k; heights = ks; are = others; ends = omega arith };
          next = omega arith;
        }
