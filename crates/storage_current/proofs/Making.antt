-- A proof that is made from a store, or why there is none.
use Rattle.std.proofs.Common.{◌≡◌, ℕ, ◌+◌, ◌^◌, ◌⊎◌, List, length, Bool, true, false, if◌then◌else◌, leb, ltb, Option, Some, None, Result, Ok, Err, MatchOption, refl, sym, ap, ◌∙◌, subst, inl, inr, arith}
use Rattle.std.proofs.lemmas.Bool.{cases_lt}
use Rattle.storage_codec.specs.Digests.{HashFunction}
use Rattle.storage_merkle.specs.Shape.{Shape, Laws, size}
use Rattle.storage_merkle.specs.Laws.Shape.{size_order}
use Rattle.storage_merkle.specs.Plans.{PlanOf, refusal}
use Rattle.storage_merkle.specs.declared.merkle.error.Error.{Error as Refusal}
use Rattle.storage_merkle.specs.declared.merkle.error.Error.TheVariants as tree
use Rattle.storage_bitmap.specs.Chunks.{Retained}
use Rattle.storage_ops.specs.declared.qmdb.error.Error.{Error}
use Rattle.storage_ops.specs.declared.qmdb.error.Error.TheVariants.{Merkle}
use Rattle.storage_current.specs.BuiltProofs.{ArePartsOf, AreAnswered, AreBitsOf}
use Rattle.storage_current.specs.Served.{held_at, plan_over, IsNotRead, IsNotMade, IsServable, AreServedOf}
use Rattle.storage_current.specs.Snapshots.{Grafting, Snapshot, RangeProof, own_range_proof}

-- ---- plans

chosen : {A : Type 0} (b : Bool) (x y z : A) → (if b then x else y) ≡ z → (x ≡ z) ⊎ (y ≡ z)
chosen true x y z e = inl e
chosen false x y z e = inr e

-- no plan is refused with a fault of a store
pub refusal_no_fault : (F : Type 0) (n low high code : ℕ) → refusal F n low high ≡ Some (tree.Source code) → ⊥
refusal_no_fault F n low high code e =
    elim (chosen {A = Option (Refusal F)} (ltb (2 ^ 62) n) _ _ _ e) [
      | inl a ↦ cc
      | inr b ↦ elim (chosen {A = Option (Refusal F)} (leb high low) _ _ _ b) [
        | inl a ↦ cc
        | inr d ↦ elim (chosen {A = Option (Refusal F)} (ltb (2 ^ 62) high) _ _ _ d) [
          | inl a ↦ cc
          | inr f ↦ elim (chosen {A = Option (Refusal F)} (ltb n high) _ _ _ f) [ inl a ↦ cc | inr z ↦ cc ]
        ]
      ]
    ]

abbrev refused_as : {X F : Type 0} → Refusal F → Result X (Error F)
refused_as e = Err (Merkle e)

pub plan_no_fault : {X : Type 0} (F : Type 0) (n low high : ℕ) (e : Refusal F) → refusal F n low high ≡ Some e
    → (code : ℕ) × (refused_as {X = X} e ≡ Err (Merkle (tree.Source code))) → ⊥
plan_no_fault F n low high e refused f =
    let is : e ≡ tree.Source f.0 = (let h = f.1 in cc) in
    refusal_no_fault F n low high f.0 (refused ∙ ap Some is)

abbrev ok_plan : {F : Type 0} → PlanOf → Result PlanOf (Refusal F)
ok_plan plan = Ok plan

abbrev err_plan : {F : Type 0} → Refusal F → Result PlanOf (Refusal F)
err_plan error = Err error

pub planned_ok : {F : Type 0} (o : Option (Refusal F)) (plan over : PlanOf)
    → MatchOption o (plan ≡ over) (λ e. ok_plan {F = F} plan ≡ Err e) → (o ≡ None) × (plan ≡ over)
planned_ok None plan over m = (refl, m)
planned_ok (Some e) plan over m = absurd cc

pub planned_err : {F : Type 0} (o : Option (Refusal F)) (error : Refusal F)
    → MatchOption o (error ≡ tree.Memory) (λ e. err_plan error ≡ Err e) → (error ≡ tree.Memory → ⊥) → o ≡ Some error
planned_err None error m not_memory = absurd (not_memory m)
planned_err (Some e) error m not_memory = let f : error ≡ e = cc in ap Some (sym f)

-- ---- the tree of a store

pub same_count : (S : Shape) → Laws S → (m n : ℕ) → size S m ≡ size S n → m ≡ n
same_count S L m n e =
    elim (cases_lt m n) [
      | inl less ↦
          absurd (let up = size_order S L (m + 1) n (omega arith) in let step = L.grows m in omega (arith, up, step, e))
      | inr more ↦ elim (cases_lt n m) [
        | inl less ↦ absurd (let up = size_order S L (n + 1) m (omega arith) in let step = L.grows n in
            omega (arith, up, step, e))
        | inr same ↦ omega (arith, more, same)
      ]
    ]

module _ {D : Type 0} (nodes : ℕ) (node : ℕ → Option D) (g : Grafting) (low high : ℕ) (status : Retained) where
  pub made_why : {F : Type 0} (may_fail : ℕ → ℕ → Type 0) (n : ℕ) (plan : PlanOf) (error : Error F) → size g.shape n ≡ nodes
      → refusal F n low high ≡ None → plan ≡ plan_over n low high
      → IsNotRead node may_fail g plan status error → IsNotMade nodes node may_fail g low high status error
  made_why may_fail n plan error count planned is why =
      inr (inl (n, count, inr (planned, subst (λ p. IsNotRead node may_fail g p status error) is why)))

  pub refused_why : {F : Type 0} (may_fail : ℕ → ℕ → Type 0) (n : ℕ) (e : Refusal F) → size g.shape n ≡ nodes → refusal F n low high ≡ Some e
      → IsNotMade nodes node may_fail g low high status (Merkle e)
  refused_why may_fail n e count refused = inr (inl (n, count, inl (e, refused, refl)))

  pub servable : (F : Type 0) (n : ℕ) (plan : PlanOf) → size g.shape n ≡ nodes → refusal F n low high ≡ None
      → plan ≡ plan_over n low high
      → AreAnswered (held_at node) g.shape plan → AreBitsOf g plan.leaves status
      → IsServable nodes node g low high status F
  servable F n plan count planned is answered bits = record {
    leaves = n;
    tree = count;
    planned = planned;
    answered = subst (λ p. AreAnswered (held_at node) g.shape p) is answered;
    bits = subst (λ (p : PlanOf). AreBitsOf g p.leaves status) is bits;
  }

  pub served_own : Laws g.shape → (n : ℕ) (plan : PlanOf) (text : D → List ℕ) (h : HashFunction) (floor : ℕ)
      (ops_root : List ℕ) (range : RangeProof) → size g.shape n ≡ nodes → plan ≡ plan_over n low high
      → ((s : Snapshot) → ArePartsOf text (held_at node) h g plan status floor ops_root s
      → range ≡ own_range_proof h g s plan.start plan.end)
      → (s : Snapshot) → AreServedOf nodes node g low high status text h floor ops_root s
      → range ≡ own_range_proof h g s low high
  served_own laws n plan text h floor ops_root range count is own s served =
      let leaves : length s.operations ≡ n =
      same_count g.shape laws (length s.operations) n (served.tree ∙ sym count) in
      let same : plan_over (length s.operations) low high ≡ plan = ap (λ m. plan_over m low high) leaves ∙ sym is in
      let own_plan : (p : PlanOf) → plan ≡ p → ArePartsOf text (held_at node) h g p status floor ops_root s
      → range ≡ own_range_proof h g s p.start p.end =
      λ p e parts. subst (λ (q : PlanOf). range ≡ own_range_proof h g s q.start q.end) e
      (own s (subst (λ q. ArePartsOf text (held_at node) h g q status floor ops_root s) (sym e) parts)) in
      own_plan (plan_over (length s.operations) low high) (sym same) served.parts
