-- Snapshots that are well-formed.
use Rattle.std.proofs.Common.{◌≡◌, ℕ, zero, suc, ◌+◌, ◌<◌, ◌≤◌, true, false, List, [], ◌∷◌, ◌++◌, Option, is_lt, inr, refl, sym, ap, ◌∙◌, arith}
use Rattle.storage_ops.specs.Operations.{Update}
use Rattle.storage_current.specs.Snapshots.{Snapshot, IsSnapshot, IsActive}
use Rattle.storage_current.specs.Keys.{IsKeyed, Keyed, update_text, commit_text, before, Updates, HasKey, IsWellFormed}

module _ {K V : Type 0} (e : Keyed K V) (is : IsKeyed e) where
  module _ (value : Option V) where
    abbrev alone : Snapshot
    alone = record { operations = commit_text e value 0 ∷ []; bits = true ∷ []; floor = 0 }

    none_updated : (location : ℕ) (k : K) (v : V) (n : K) → Updates e alone location k v n → ⊥
    none_updated zero k v n u = is.apart k v n value 0 (omega arith) (sym u.there)
    none_updated (suc i) k v n u = let within : suc i < 1 = u.within in absurd (omega (arith, within))

    pub one_commit : IsSnapshot alone × IsWellFormed e alone
    one_commit = (
      record { bit_each = refl; floor_within = omega arith; few = omega arith },
      record {
        committed = (value, record { within = omega arith; there = refl; bit = refl });
        updates = λ location operation active further. let far : location + 1 < 1 = further in
            absurd (omega (arith, far));
        distinct = λ i j k m n v w u x. absurd (none_updated i k v m u);
        ring = λ location k v n u. absurd (none_updated location k v n u);
      },
    )

  module _ (key : K) (value : V) (committed : Option V) where
    abbrev lone : Snapshot
    lone = record {
      operations = update_text e key value key ∷ commit_text e committed 0 ∷ [];
      bits = true ∷ true ∷ [];
      floor = 0;
    }

    only : (location : ℕ) (k : K) (v : V) (n : K) → Updates e lone location k v n
        → (location ≡ 0) × (e.key k ≡ e.key key) × (e.key n ≡ e.key key)
    only zero k v n u = let same = is.one key k value v key n u.there in (refl, sym same.0, sym same.2)
    only (suc zero) k v n u = absurd (is.apart k v n committed 0 (omega arith) (sym u.there))
    only (suc (suc i)) k v n u = let within : suc (suc i) < 2 = u.within in absurd (omega (arith, within))

    not_before : (a b : K) → e.key a ≡ e.key key → e.key b ≡ e.key key → before e a b ≡ false
    not_before a b p q = ap is_lt (is.alike a b (p ∙ sym q))

    has : (n : K) → e.key n ≡ e.key key → HasKey e lone n
    has n same = (
      0,
      value,
      key,
      record {
        within = omega arith;
        there = ap (λ (t : List ℕ). e.operation (Update (t ++ e.value value ++ e.key key))) (sym same);
        bit = refl;
      },
    )

    key_is : (a : K) → HasKey e lone a → e.key a ≡ e.key key
    key_is a h = (only h.0 a h.1 h.2 h.3).1

    updated : (location : ℕ) (operation : List ℕ) → IsActive lone location operation → location + 1 < 2
        → (0 ≤ location) × ((k : K) × (v : V) × (n : K) × (operation ≡ update_text e k v n))
    updated zero operation active further = (omega arith, (key, value, key, sym active.there))
    updated (suc i) operation active further = absurd (omega (arith, further))

    pub lone_key : IsSnapshot lone × IsWellFormed e lone
    lone_key = (
      record { bit_each = refl; floor_within = omega arith; few = omega arith },
      record {
        committed = (committed, record { within = omega arith; there = refl; bit = refl });
        updates = updated;
        distinct = λ i j k m n v w u x. (only i k v m u).0 ∙ sym (only j k w n x).0;
        ring = λ location k v n u.
            let is_key = only location k v n u in (
              has n is_key.2,
              inr (λ a h. not_before k a is_key.1 (key_is a h), λ a h. not_before a n (key_is a h) is_key.2),
            );
      },
    )
