-- Keys that stand next to each other, once a key comes in between or goes away.
use Rattle.std.proofs.Common.{◌≡◌, ◌⊎◌, true, false, is_eq, is_lt, inl, inr, sym, ap, ◌∙◌}
use Rattle.std.specs.Cmp.{alike_right, tied_itself}
use Rattle.storage_current.specs.Keys.{Keyed, before, Adjoin, IsKeyed}
use Rattle.storage_db.proofs.Cases.{by_bool, clash, not_true, equal_of, less_of, greater_of}
use Rattle.storage_db.proofs.Entries.{greater_less}

module _ {K W : Type 0} (e : Keyed K W) (is : IsKeyed e) where
  pub before_trans : (a b c : K) → before e a b ≡ true → before e b c ≡ true → before e a c ≡ true
  before_trans a b c p q = ap is_lt (is.total.trans a b c (less_of _ p) (less_of _ q))

  pub not_itself : (a : K) → before e a a ≡ false
  not_itself a = ap is_lt (tied_itself is.total a)

  pub before_left : (a b c : K) → e.key a ≡ e.key b → before e a c ≡ before e b c
  before_left a b c same = ap is_lt (is.total.congr a b c (is.alike a b same))

  pub before_right : (a b c : K) → e.key a ≡ e.key b → before e c a ≡ before e c b
  before_right a b c same = ap is_lt (alike_right is.total a b c (is.alike a b same))

  -- keys of which neither comes before the other are the same
  pub neither : (a b : K) → before e a b ≡ false → before e b a ≡ false → e.key a ≡ e.key b
  neither a b p q = by_bool (is_eq (e.cmp a b))
      (λ holds. is.exact a b (equal_of _ holds))
      (λ fails. absurd (clash (before e b a) (ap is_lt (greater_less is.total a b (greater_of _ p fails))) q))

  module _ (Key : K → Type 0) where
    -- fewer keys
    pub fewer : (Less_ : K → Type 0) → ((x : K) → Less_ x → Key x) → (a b : K) → Adjoin e Key a b → Adjoin e Less_ a b
    fewer Less_ of a b adjoin = elim adjoin as (λ h. Adjoin e Less_ a b) [
      | inl (up, none) ↦ inl (up, λ x h. none x (of x h))
      | inr (greatest, least) ↦ inr (λ x h. greatest x (of x h), λ x h. least x (of x h))
    ]

    -- the same keys, written otherwise
    pub adjoin_alike : (a b c d : K) → e.key a ≡ e.key c → e.key b ≡ e.key d → Adjoin e Key a b → Adjoin e Key c d
    adjoin_alike a b c d p q adjoin = elim adjoin as (λ h. Adjoin e Key c d) [
      | inl (up, none) ↦ inl (
        sym (before_left a c d p) ∙ sym (before_right b d a q) ∙ up,
        λ x h c_x. sym (before_right b d x q) ∙ none x h (before_left a c x p ∙ c_x),
      )
      | inr (greatest, least) ↦ inr (
        λ x h. sym (before_left a c x p) ∙ greatest x h,
        λ x h. sym (before_right b d x q) ∙ least x h,
      )
    ]

    module _ (More : K → Type 0) (k : K) (of : (x : K) → More x → Key x ⊎ (e.key x ≡ e.key k)) where
      -- a key that comes last before the new one is followed by it
      pub first_half : (p : K) → Key p → Adjoin e Key p k → Adjoin e More p k
      first_half p key_p adjoin = elim adjoin as (λ h. Adjoin e More p k) [
        | inl (p_k, none) ↦ inl (
          p_k,
          λ x more p_x. elim (of x more) [
            | inl key ↦ none x key p_x
            | inr same ↦ before_left x k k same ∙ not_itself k
          ],
        )
        | inr (greatest, least) ↦ inr (
          λ x more. elim (of x more) [
            | inl key ↦ greatest x key
            | inr same ↦ before_right x k p same ∙ least p key_p
          ],
          λ x more. elim (of x more) [
            | inl key ↦ least x key
            | inr same ↦ before_left x k k same ∙ not_itself k
          ],
        )
      ]

      -- the new one is followed by the key that comes first after it
      pub second_half : (n : K) → Key n → Adjoin e Key k n → Adjoin e More k n
      second_half n key_n adjoin = elim adjoin as (λ h. Adjoin e More k n) [
        | inl (k_n, none) ↦ inl (
          k_n,
          λ x more k_x. elim (of x more) [
            | inl key ↦ none x key k_x
            | inr same ↦ absurd (clash _ k_x (before_right x k k same ∙ not_itself k))
          ],
        )
        | inr (greatest, least) ↦ inr (
          λ x more. elim (of x more) [
            | inl key ↦ greatest x key
            | inr same ↦ before_right x k k same ∙ not_itself k
          ],
          λ x more. elim (of x more) [
            | inl key ↦ least x key
            | inr same ↦ before_left x k n same ∙ greatest n key_n
          ],
        )
      ]

      -- the other keys are followed by the same ones as before
      pub others_stay : (p q m : K) → Key p → Key q → Key m → (e.key q ≡ e.key p → ⊥) → Adjoin e Key p k
          → Adjoin e Key q m → Adjoin e More q m
      others_stay p q m key_p key_q key_m apart at_k adjoin = elim adjoin as (λ h. Adjoin e More q m) [
        | inl (q_m, none) ↦ inl (
          q_m,
          λ x more q_x. elim (of x more) [
            | inl key ↦ none x key q_x
            | inr same ↦ not_true (before e x m) (λ x_m.
                let q_k : before e q k ≡ true = sym (before_right x k q same) ∙ q_x in
                let k_m : before e k m ≡ true = sym (before_left x k m same) ∙ x_m in
                elim at_k [
                  | inl (p_k, none_p) ↦ apart (neither q p
                      (not_true (before e q p) (λ q_p. clash _ (before_trans p k m p_k k_m) (none p key_p q_p)))
                      (not_true (before e p q) (λ p_q. clash _ q_k (none_p q key_q p_q))))
                  | inr (greatest_p, least_k) ↦ clash _ q_k (least_k q key_q)
                ])
          ],
        )
        | inr (greatest, least) ↦ inr (
          λ x more. elim (of x more) [
            | inl key ↦ greatest x key
            | inr same ↦ not_true (before e q x) (λ q_x.
                let q_k : before e q k ≡ true = sym (before_right x k q same) ∙ q_x in
                elim at_k [
                  | inl (p_k, none_p) ↦ apart (neither q p (greatest p key_p)
                      (not_true (before e p q) (λ p_q. clash _ q_k (none_p q key_q p_q))))
                  | inr (greatest_p, least_k) ↦ clash _ q_k (least_k q key_q)
                ])
          ],
          λ x more. elim (of x more) [
            | inl key ↦ least x key
            | inr same ↦ not_true (before e x m) (λ x_m.
                let k_m : before e k m ≡ true = sym (before_left x k m same) ∙ x_m in
                elim at_k [
                  | inl (p_k, none_p) ↦ clash _ (before_trans p k m p_k k_m) (least p key_p)
                  | inr (greatest_p, least_k) ↦ apart (neither q p (greatest p key_p) (greatest_p q key_q))
                ])
          ],
        )
      ]

    -- a key alone is followed by itself
    pub alone : (k : K) → ((x : K) → Key x → e.key x ≡ e.key k) → Adjoin e Key k k
    alone k of = inr (
      λ x key. before_right x k k (of x key) ∙ not_itself k,
      λ x key. before_left x k k (of x key) ∙ not_itself k,
    )

    -- once a key goes away that is none of these, the one before it is followed by the one after it
    pub joined : (p k n : K) → ((x : K) → Key x → e.key x ≡ e.key k → ⊥) → Key p → Adjoin e Key p k
        → Adjoin e Key k n → Adjoin e Key p n
    joined p k n other key_p from to =
        let never : (x : K) → Key x → before e x k ≡ false → before e k x ≡ false → ⊥
        = λ x key a b. other x key (neither x k a b) in
        elim from as (λ h. Adjoin e Key p n) [
          | inl (p_k, none_p) ↦ elim to as (λ h. Adjoin e Key p n) [
            | inl (k_n, none_n) ↦ inl (
              before_trans p k n p_k k_n,
              λ x key p_x. not_true (before e x n) (λ x_n. never x key (none_p x key p_x)
                  (not_true (before e k x) (λ k_x. clash _ x_n (none_n x key k_x)))),
            )
            | inr (greatest, least) ↦ inr (
              λ x key. not_true (before e p x) (λ p_x. never x key (none_p x key p_x) (greatest x key)),
              least,
            )
          ]
          | inr (greatest_p, least_k) ↦ elim to as (λ h. Adjoin e Key p n) [
            | inl (k_n, none_n) ↦ inr (
              greatest_p,
              λ x key. not_true (before e x n) (λ x_n. never x key (least_k x key)
                  (not_true (before e k x) (λ k_x. clash _ x_n (none_n x key k_x)))),
            )
            | inr (greatest, least) ↦ absurd (never p key_p (least_k p key_p) (greatest p key_p))
          ]
        ]

    -- only one key is followed by a key: that which comes last before it among the others
    pub one_before : (Other : K → Type 0) → ((x : K) → Other x → Key x) → (p q k m : K) → Other p → Other q
        → e.key m ≡ e.key k → Adjoin e Other p k → Adjoin e Key q m → e.key q ≡ e.key p
    one_before Other of p q k m other_p other_q same at_k adjoin = elim adjoin as (λ h. e.key q ≡ e.key p) [
      | inl (q_m, none) ↦
          let q_k : before e q k ≡ true = sym (before_right m k q same) ∙ q_m in
          elim at_k as (λ h. e.key q ≡ e.key p) [
            | inl (p_k, none_p) ↦ neither q p
                (not_true (before e q p) (λ q_p. clash _ p_k (sym (before_right m k p same) ∙ none p (of p other_p) q_p)))
                (not_true (before e p q) (λ p_q. clash _ q_k (none_p q other_q p_q)))
            | inr (greatest_p, least_k) ↦ absurd (clash _ q_k (least_k q other_q))
          ]
      | inr (greatest, least) ↦ elim at_k as (λ h. e.key q ≡ e.key p) [
        | inl (p_k, none_p) ↦ absurd (clash _ p_k (sym (before_right m k p same) ∙ least p (of p other_p)))
        | inr (greatest_p, least_k) ↦ neither q p (greatest p (of p other_p)) (greatest_p q other_q)
      ]
    ]
