-- The key that an active update names is the one after its key.
use Rattle.std.proofs.Common.{◌≡◌, ◌⊎◌, List, is_eq, inl, inr, sym, ap, ◌∙◌}
use Rattle.storage_current.specs.Keys.{Keyed, Adjoin, IsKeyed}
use Rattle.storage_db.specs.declared.db.active.Active.{Active}
use Rattle.storage_db.specs.Rings.{next_key}
use Rattle.storage_db.proofs.Cases.{by_bool, clash, equal_of}
use Rattle.storage_db.proofs.Entries.{Sorted}
use Rattle.storage_db.proofs.Neighbours.{fewer, neither, before_right, not_itself}
use Rattle.storage_db.proofs.Nexts.{Has, Other, next_is}

module _ {K W : Type 0} (e : Keyed K W) (is : IsKeyed e) (entries : List (K × Active W)) (k : K) where
  -- two other keys that each come next after a key are the same
  one_after : (m n : K) → Other e is entries k m → Other e is entries k n → Adjoin e (Other e is entries k) k m
      → Adjoin e (Other e is entries k) k n → e.key m ≡ e.key n
  one_after m n other_m other_n adjoin_m adjoin_n = elim adjoin_m as (λ x. e.key m ≡ e.key n) [
    | inl (k_m, none_m) ↦ elim adjoin_n as (λ x. e.key m ≡ e.key n) [
      | inl (k_n, none_n) ↦ neither e is m n (none_n m other_m k_m) (none_m n other_n k_n)
      | inr (greatest_n, least_n) ↦ absurd (clash _ k_m (greatest_n m other_m))
    ]
    | inr (greatest_m, least_m) ↦ elim adjoin_n as (λ x. e.key m ≡ e.key n) [
      | inl (k_n, none_n) ↦ absurd (clash _ k_n (greatest_m n other_n))
      | inr (greatest_n, least_n) ↦ neither e is m n (least_n m other_m) (least_m n other_n)
    ]
  ]

  -- a key is another one, or the same
  other_or : (q : K) → Has e is entries q → (e.key q ≡ e.key k) ⊎ Other e is entries k q
  other_or q has = by_bool (is_eq (e.cmp q k))
      (λ holds. inl (is.exact q k (equal_of _ holds)))
      (λ fails. inr (record { has = has; apart = λ same. clash _ (ap is_eq (is.alike q k same)) fails }))

  others : (q : K) → Other e is entries k q → Has e is entries q
  others q other = other.has

  pub named_is_next : Sorted e.cmp entries → (m : K) → Has e is entries m → Adjoin e (Has e is entries) k m
      → e.key m ≡ e.key (next_key e.cmp entries k)
  named_is_next sorted m has adjoin = elim (next_is e is entries sorted k) as (λ x. e.key m ≡ e.key (next_key e.cmp entries k)) [
    | inl lone ↦ elim (other_or m has) as (λ x. e.key m ≡ e.key (next_key e.cmp entries k)) [
      | inl same ↦ same ∙ ap e.key (sym lone.1)
      | inr other ↦ absurd (lone.0 m other)
    ]
    | inr r ↦ elim (other_or m has) as (λ x. e.key m ≡ e.key (next_key e.cmp entries k)) [
      | inl same ↦ absurd (elim adjoin as (λ x. ⊥) [
        | inl (k_m, none) ↦ clash _ k_m (before_right e is m k k same ∙ not_itself e is k)
        | inr (greatest, least) ↦ r.0.apart (neither e is (next_key e.cmp entries k) k
            (sym (before_right e is m k (next_key e.cmp entries k) same) ∙ least (next_key e.cmp entries k) r.0.has)
            (greatest (next_key e.cmp entries k) r.0.has))
      ])
      | inr other ↦ one_after m (next_key e.cmp entries k) other r.0
          (fewer e is (Has e is entries) (Other e is entries k) others k m adjoin) r.1
    ]
  ]
