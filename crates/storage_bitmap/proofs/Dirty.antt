-- The list of dirty chunks.
use Rattle.std.proofs.Common.{◌≡◌, ℕ, zero, suc, ◌<◌, ◌≤◌, List, [], ◌∷◌, All, Contains, refl, sym, subst, arith, inl, inr, ◌⊎◌, ⊎_elim}
use Rattle.std.proofs.lemmas.List.Elements.{Contains-append_right}
use Rattle.std.proofs.lemmas.Bool.{cases_lt}
use Rattle.std.proofs.lemmas.Map.Views.{All-insert_key}
use Rattle.std.specs.Ordering.{nat_cmp, match_ordering}
use Rattle.std.specs.BTreeSet.{insert_key}
use Rattle.std.specs.Cmp.{ranks}
use Rattle.std.specs.declared.cmp.Ordering.{Ordering}
use Rattle.std.specs.declared.cmp.Ordering.TheVariants.{Less, Equal, Greater}

contains_head : (x : ℕ) (xs : List ℕ) → Contains (x ∷ xs) x
contains_head x xs = (0, omega arith, refl)

contains_tail : (x j : ℕ) (xs : List ℕ) → Contains xs j → Contains (x ∷ xs) j
contains_tail x j xs m = Contains-append_right (x ∷ []) xs j m

contains_either : (x j : ℕ) (xs : List ℕ) → Contains (x ∷ xs) j → (x ≡ j) ⊎ Contains xs j
contains_either x j xs (zero, l, e) = inl e
contains_either x j xs (suc i, l, e) = inr (i, omega arith, e)

-- what was there stays
pub keys_grow : (ks : List ℕ) (k j : ℕ) → Contains ks j → Contains (insert_key nat_cmp ks k) j
keys_grow [] k j m = contains_tail k j [] m
keys_grow (x ∷ xs) k j m = go (nat_cmp k x) (λ r. keys_grow xs k j r)
  where
    go : (o : Ordering) → (Contains xs j → Contains (insert_key nat_cmp xs k) j)
        → Contains (match_ordering o (k ∷ x ∷ xs) (x ∷ xs) (x ∷ insert_key nat_cmp xs k)) j
    go Less rest = contains_tail k j (x ∷ xs) m
    go Equal rest = m
    go Greater rest =
        ⊎_elim
        (λ (e : x ≡ j).
        subst (λ y. Contains (y ∷ insert_key nat_cmp xs k) j) (sym e) (contains_head j (insert_key nat_cmp xs k)))
        (λ (r : Contains xs j). contains_tail x j (insert_key nat_cmp xs k) (rest r))
        (contains_either x j xs m)

-- what is marked is there
pub keys_have : (ks : List ℕ) (k : ℕ) → Contains (insert_key nat_cmp ks k) k
keys_have [] k = contains_head k []
keys_have (x ∷ xs) k = go (nat_cmp k x) refl (keys_have xs k)
  where
    go : (o : Ordering) → nat_cmp k x ≡ o → Contains (insert_key nat_cmp xs k) k
        → Contains (match_ordering o (k ∷ x ∷ xs) (x ∷ xs) (x ∷ insert_key nat_cmp xs k)) k
    go Less e rest = contains_head k (x ∷ xs)
    go Equal e rest = subst (λ y. Contains (y ∷ xs) k) (rw e at (ranks k x)) (contains_head k xs)
    go Greater e rest = contains_tail x k (insert_key nat_cmp xs k) rest

-- a marked chunk that is a leaf is there, and what was there stays
pub marked : (old new : List ℕ) (chunk leaves : ℕ) → (chunk < leaves → new ≡ insert_key nat_cmp old chunk)
    → (leaves ≤ chunk → new ≡ old)
    → ((j : ℕ) → Contains old j → Contains new j) × (chunk < leaves → Contains new chunk)
marked old new chunk leaves is same =
    ⊎_elim
    (λ (l : chunk < leaves). (
      (λ j m. subst (λ ks. Contains ks j) (sym (is l)) (keys_grow old chunk j m)),
      (λ l. subst (λ ks. Contains ks chunk) (sym (is l)) (keys_have old chunk)),
    ))
    (λ (l : leaves ≤ chunk). ((λ j m. subst (λ ks. Contains ks j) (sym (same l)) m), (λ q. absurd (omega arith))))
    (cases_lt chunk leaves)

-- each stays within these bounds
pub marked_within : (old new : List ℕ) (chunk pruned leaves : ℕ) → (chunk < leaves → new ≡ insert_key nat_cmp old chunk)
    → (leaves ≤ chunk → new ≡ old)
    → pruned ≤ chunk → All (λ c. (pruned ≤ c) × (c < leaves)) old → All (λ c. (pruned ≤ c) × (c < leaves)) new
marked_within old new chunk pruned leaves is same low all =
    let P : ℕ → Type 0 = λ c. (pruned ≤ c) × (c < leaves) in
    ⊎_elim
    (λ (l : chunk < leaves). subst (All P) (sym (is l)) (All-insert_key nat_cmp chunk P old all (low, l)))
    (λ (l : leaves ≤ chunk). subst (All P) (sym (same l)) all)
    (cases_lt chunk leaves)
