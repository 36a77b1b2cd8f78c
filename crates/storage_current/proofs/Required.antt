-- The chunks that are told are the required ones.
use Rattle.std.proofs.Common.{◌≡◌, ◌≢◌, ◌↔◌, ℕ, ◌+◌, ◌*◌, ◌/◌, ◌%◌, ◌<◌, ◌≤◌, ◌^◌, ◌⊎◌, List, [], ◌∷◌, ◌++◌, option_to_list, Bool, true, false, not, ltb, eqb, min, ◌-◌, Option, Some, None, MatchOption, if◌then◌else◌, refl, sym, ap, ◌∙◌, subst, inl, inr, arith, pow_pos, eq-eqb, ne_eqb, lt-ltb}
use Rattle.std.proofs.lemmas.Bool.{cases_lt, ltb-true}
use Rattle.std.proofs.lemmas.Nat.{div-add-mod'}
use Rattle.std.proofs.Math.Nat.{div-mul-le_self, le-div_iff_mul-le}
use Rattle.std.specs.List.{Contains}
use Rattle.std.proofs.lemmas.List.Elements.{Contains-push, Contains-push_cases, Contains-append_left, Contains-append_right, Contains-append_cases}
use Rattle.storage_merkle.specs.Shape.{Shape, Laws}
use Rattle.storage_merkle.specs.Nodes.{AreGraftable}
use Rattle.storage_current.specs.Laws.Grafting.{graftable_is, height_of_power}
use Rattle.storage_current.specs.Snapshots.{graftable_at, Grafting, height, complete, graftable, first_chunk}
use Rattle.storage_current.specs.Required.{graftable_of, IsRequired, AreConsistent, IsThere}

abbrev pub slot_of : Bool → ℕ → Option ℕ
slot_of b x = if b then Some x else None

from_slot : (b : Bool) (x j : ℕ) → Contains (option_to_list (slot_of b x)) j → (b ≡ true) × (j ≡ x)
from_slot true x j has = (
  refl,
  elim (Contains-push_cases [] x j has) [
    | inl none ↦
        absurd (let l = none.1 in omega (arith, l))
    | inr same ↦ sym same
  ],
)
from_slot false x j has = absurd (let l = has.1 in omega (arith, l))

to_slot : (b : Bool) (x j : ℕ) → b ≡ true → j ≡ x → Contains (option_to_list (slot_of b x)) j
to_slot true x j e same = subst (λ y. Contains (x ∷ []) y) (sym same) (Contains-push [] x)
to_slot false x j e same = absurd cc

module _ (g : Grafting) (leaves bits c r : ℕ) (complete_is : c ≡ complete g bits)
    (graftable_is : r ≡ graftable_of g leaves bits) where
  -- the queried chunk is told apart just where it is graftable
  abbrev pub IsQueried : Option ℕ → Option ℕ → Type 0
  IsQueried location q =
      MatchOption location (q ≡ None) (λ l. (l < bits) × (q ≡ slot_of (ltb (first_chunk g l) r) (first_chunk g l)))

  abbrev told : Option ℕ → Bool → List ℕ
  told q partial = option_to_list q ++ (option_to_list (slot_of (ltb r c) r) ++ option_to_list (slot_of partial c))

  no_later : (l : ℕ) → l < bits → first_chunk g l ≤ c
  no_later l within =
      let low = div-mul-le_self l (2 ^ height g) in
      let fits : first_chunk g l * 2 ^ height g ≤ bits = omega (arith, low, within) in
      let le : first_chunk g l ≤ complete g bits =
      (le-div_iff_mul-le {x = first_chunk g l} (pow_pos (height g))).1 fits in
      omega (arith, complete_is, le)

  partial_there : (l : ℕ) → l < bits → first_chunk g l ≡ c → bits % 2 ^ height g ≢ 0
  partial_there l within same none =
      let low : first_chunk g l * 2 ^ height g ≤ l = div-mul-le_self l (2 ^ height g) in
      let sum = div-add-mod' bits (2 ^ height g) in
      let at : first_chunk g l * 2 ^ height g ≡ complete g bits * 2 ^ height g =
      ap (λ z. z * 2 ^ height g) (same ∙ complete_is) in
      omega (arith, low, sum, at, none, within)

  queried : (location q : Option ℕ) → IsQueried location q → (j : ℕ) → Contains (option_to_list q) j
      → (l : ℕ) × (location ≡ Some l) × (j ≡ first_chunk g l)
  queried None q is j has = absurd (let h = subst (λ o. Contains (option_to_list o) j) is has in let l = h.1 in
      omega (arith, l))
  queried (Some l) q is j has = (
    l,
    refl,
    (from_slot (ltb (first_chunk g l) r) (first_chunk g l) j (subst (λ o. Contains (option_to_list o) j) is.1 has)).1,
  )

  pub is_told : (location q : Option ℕ) (partial : Bool) → c ≤ r + 1 → IsQueried location q
      → partial ≡ not (eqb (bits % 2 ^ height g) 0)
      → (j : ℕ) → (Contains (told q partial) j ↔ IsRequired g leaves bits location j)
  is_told location q partial close is at j = (there, back)
    where
      some : (n : ℕ) → not (eqb n 0) ≡ true → n ≢ 0
      some n e zero_is = absurd (let f = eq-eqb n 0 zero_is in
          let x : not true ≡ true = subst (λ b. not b ≡ true) f e in cc)

      there : Contains (told q partial) j → IsRequired g leaves bits location j
      there has = elim (Contains-append_cases (option_to_list q) _ j has) [
        | inl one ↦ inr (inr (queried location q is j one))
        | inr more ↦ elim (Contains-append_cases (option_to_list (slot_of (ltb r c) r)) _ j more) [
          | inl one ↦ let s = from_slot (ltb r c) r j one in
              let less : r < c = ltb-true r c s.0 in
              inr (inl
              (let below : graftable_of g leaves bits < complete g bits = omega (arith, less, complete_is, graftable_is) in below, s.1 ∙ graftable_is))
          | inr one ↦ let s = from_slot partial c j one in inl (some _ (sym at ∙ s.0), s.1 ∙ complete_is)
        ]
      ]

      in_partial : bits % 2 ^ height g ≢ 0 → j ≡ c → Contains (told q partial) j
      in_partial odd same = Contains-append_right (option_to_list q) _ j (Contains-append_right
          (option_to_list (slot_of (ltb r c) r)) _ j (to_slot partial c j (at ∙ ap not (ne_eqb _ 0 odd)) same))

      in_pending : r < c → j ≡ r → Contains (told q partial) j
      in_pending less same = Contains-append_right (option_to_list q) _ j (Contains-append_left
          (option_to_list (slot_of (ltb r c) r)) _ j (to_slot (ltb r c) r j (lt-ltb r c less) same))

      at_location : (o : Option ℕ) → IsQueried o q → (l : ℕ) → o ≡ Some l → j ≡ first_chunk g l
          → Contains (told q partial) j
      at_location None w l e same = absurd cc
      at_location (Some m) w l e same =
          let eq : m ≡ l = cc in
          let here : j ≡ first_chunk g m = same ∙ ap (first_chunk g) (sym eq) in
          let top = no_later m w.0 in
          elim (cases_lt (first_chunk g m) r) [
            | inl low ↦ Contains-append_left (option_to_list q) _ j (subst (λ o. Contains (option_to_list o) j)
                (sym w.1) (to_slot (ltb (first_chunk g m) r) (first_chunk g m) j (lt-ltb (first_chunk g m) r low) here))
            | inr high ↦ elim (cases_lt (first_chunk g m) c) [
              | inl less ↦ in_pending (omega (arith, high, less)) (omega (arith, here, high, less, close))
              | inr last ↦ let is_last : first_chunk g m ≡ c = omega (arith, top, last) in
                  in_partial (partial_there m w.0 is_last) (here ∙ is_last)
            ]
          ]

      back : IsRequired g leaves bits location j → Contains (told q partial) j
      back (inl p) = in_partial p.0 (p.1 ∙ sym complete_is)
      back (inr (inl p)) = in_pending (let below = p.0 in
          omega (arith, below, complete_is, graftable_is)) (p.1 ∙ sym graftable_is)
      back (inr (inr p)) = at_location location is p.0 p.1 p.2

-- the counts that are computed are those of the definitions
pub record AreCounted (g : Grafting) (leaves bits k c r : ℕ) : Type 0 where
  pub level : height g ≡ k
  pub complete_is : c ≡ complete g bits
  pub graftable_is : r ≡ graftable_of g leaves bits

pub counted : (S : Shape) → Laws S → (n k leaves here bits a r : ℕ) → 8 * n ≡ 2 ^ k → here ≡ leaves
    → AreGraftable S here k a → r ≡ min a (bits / 2 ^ k)
    → AreCounted (record { shape = S; bytes = n }) leaves bits k (bits / 2 ^ k) r
counted S L n k leaves here bits a r power at graftable least =
    let G : Grafting = record { shape = S; bytes = n } in
    let level : height G ≡ k = height_of_power S n k power in
    let same : a ≡ graftable_at S k leaves = graftable_is S L k here a graftable ∙ ap (graftable_at S k) at in
    record {
      level = level;
      complete_is = ap (λ j. bits / 2 ^ j) (sym level);
      graftable_is = least ∙ ap (λ x. min x (bits / 2 ^ k)) same
          ∙ ap (λ j. min (graftable_at S j leaves) (bits / 2 ^ j)) (sym level);
    }

module _ (g : Grafting) (leaves bits k c r pruned : ℕ) (counts : AreCounted g leaves bits k c r) where
  pub consistent : c - r ≤ 1 → pruned ≤ r → AreConsistent g leaves bits pruned
  consistent close kept = let d = counts.complete_is in let e = counts.graftable_is in
      record { one_pending = omega (arith, close, d, e); kept = omega (arith, kept, e) }

  pub inconsistent : (1 < c - r) ⊎ (r < pruned) → AreConsistent g leaves bits pruned → ⊥
  inconsistent (inl far) ok = let d = counts.complete_is in let e = counts.graftable_is in let close = ok.one_pending in
      omega (arith, far, d, e, close)
  inconsistent (inr gone) ok = let e = counts.graftable_is in let kept = ok.kept in omega (arith, gone, e, kept)

  pub chunk_at : (l : ℕ) → l / 2 ^ k ≡ first_chunk g l
  chunk_at l = ap (λ j. l / 2 ^ j) (sym counts.level)

  pub is_there : (l : ℕ) → l < leaves → l < bits → pruned ≤ l / 2 ^ k → IsThere g leaves bits pruned l
  is_there l leaf bit kept = let e = chunk_at l in record { leaf = leaf; bit = bit; kept = omega (arith, kept, e) }

  pub queried_none : (location q : Option ℕ) → location ≡ None → q ≡ None
      → IsQueried g leaves bits c r counts.complete_is counts.graftable_is location q
  queried_none location q e f =
      subst (λ o. IsQueried g leaves bits c r counts.complete_is counts.graftable_is o q) (sym e) f

  pub queried_some : (location q : Option ℕ) (l index : ℕ) → location ≡ Some l → index ≡ l → index < bits
      → q ≡ slot_of (ltb (index / 2 ^ k) r) (index / 2 ^ k)
      → IsQueried g leaves bits c r counts.complete_is counts.graftable_is location q
  queried_some location q l index e at bit f =
      let here : index / 2 ^ k ≡ first_chunk g l = ap (λ x. x / 2 ^ k) at ∙ chunk_at l in
      let within : l < bits = subst (λ x. x < bits) at bit in
      let same : q ≡ slot_of (ltb (first_chunk g l) r) (first_chunk g l) = f ∙ ap (λ x. slot_of (ltb x r) x) here in
      subst (λ o. IsQueried g leaves bits c r counts.complete_is counts.graftable_is o q) (sym e) (within, same)

  pub are_told : (location q p o : Option ℕ) (power : ℕ) → c - r ≤ 1
      → IsQueried g leaves bits c r counts.complete_is counts.graftable_is location q
      → p ≡ slot_of (ltb r c) r → power ≡ 2 ^ k → o ≡ slot_of (not (eqb (bits % power) 0)) c
      → (j : ℕ) → (Contains (option_to_list q ++ (option_to_list p ++ option_to_list o)) j
      ↔ IsRequired g leaves bits location j)
  are_told location q p o power close is pending_is power_is partial_is j =
      let same : power ≡ 2 ^ height g = power_is ∙ ap (λ j. 2 ^ j) (sym counts.level) in
      let b : o ≡ slot_of (not (eqb (bits % 2 ^ height g) 0)) c =
      partial_is ∙ ap (λ x. slot_of (not (eqb (bits % x) 0)) c) same in
      let told = is_told g leaves bits c r counts.complete_is counts.graftable_is location q
      (not (eqb (bits % 2 ^ height g) 0)) (omega (arith, close)) is refl j in
      subst (λ y. Contains (option_to_list q ++ (option_to_list p ++ option_to_list y)) j
      ↔ IsRequired g leaves bits location j) (sym b)
      (subst (λ y. Contains (option_to_list q ++ (option_to_list y ++ option_to_list (slot_of
      (not (eqb (bits % 2 ^ height g) 0)) c))) j ↔ IsRequired g leaves bits location j) (sym pending_is) told)

  pub there_none : (location : Option ℕ) → location ≡ None
      → MatchOption location (Unit {0}) (IsThere g leaves bits pruned)
  there_none location e = subst (λ o. MatchOption o (Unit {0}) (IsThere g leaves bits pruned)) (sym e) tt

  pub there_some : (location : Option ℕ) (l index here : ℕ) → location ≡ Some l → index ≡ l → here ≡ leaves
      → index < here → index < bits → pruned ≤ index / 2 ^ k
      → MatchOption location (Unit {0}) (IsThere g leaves bits pruned)
  there_some location l index here e at same leaf bit kept =
      let k1 : pruned ≤ l / 2 ^ k = subst (λ x. pruned ≤ x / 2 ^ k) at kept in
      subst (λ o. MatchOption o (Unit {0}) (IsThere g leaves bits pruned)) (sym e)
      (is_there l (omega (arith, leaf, at, same)) (omega (arith, bit, at)) k1)

  pub gone : (l index : ℕ) → index ≡ l → index / 2 ^ k < pruned → first_chunk g l < pruned
  gone l index at less = let e : index / 2 ^ k ≡ first_chunk g l = ap (λ x. x / 2 ^ k) at ∙ chunk_at l in
      omega (arith, less, e)
