-- Digests that are read from a store, and the proofs that are made of them.
use Rattle.std.proofs.Common.{◌≡◌, ℕ, zero, suc, ◌+◌, ◌-◌, ◌<◌, ◌≤◌, ◌⊎◌, ◌↔◌, List, [], ◌∷◌, length, map, get_or, Option, Some, None, Result, Ok, Err, MatchResult, refl, sym, ap, ◌∙◌, subst, inl, inr, arith}
use Rattle.std.specs.List.{All, Contains, slice_get}
use Rattle.std.specs.List.Sorted.{IsStrictlyIncreasing, IsBinarySearchResult}
use Rattle.std.specs.Ordering.{nat_cmp}
use Rattle.std.specs.Prelude.{IfOk, IfErr, OnOk}
use Rattle.std.proofs.lemmas.Bool.{cases_lt}
use Rattle.std.proofs.lemmas.List.{get_or_default}
use Rattle.std.proofs.lemmas.List.Elements.{All-nil, All-cons, All-head, All-tail, All-weaker, All-contains_itself}
use Rattle.std.proofs.lemmas.List.Sorted.{searched}
use Rattle.std.proofs.lemmas.Result.{IfErr-weaker}
use Rattle.storage_codec.specs.Digests.{HashFunction}
use Rattle.storage_merkle.specs.Plans.{PlanOf, planned, IsFirstAbsent, IsFirstFault}
use Rattle.storage_bitmap.specs.Chunks.{Retained}
use Rattle.storage_ops.specs.declared.qmdb.error.Error.{Error}
use Rattle.storage_ops.specs.declared.qmdb.error.Error.TheVariants.{Merkle}
use Rattle.storage_merkle.specs.declared.merkle.error.Error.{Error as Refusal}
use Rattle.storage_merkle.specs.declared.merkle.error.Error.TheVariants as tree
use Rattle.storage_current.specs.BuiltProofs.{ArePartsOf, AreAnswered, IsNotBuilt}
use Rattle.storage_current.specs.Served.{held_at, Counts, IsNotRead, IsUnread}
use Rattle.storage_current.specs.Snapshots.{Grafting, Snapshot, RangeProof, own_range_proof}

-- ---- a digest by its position

-- the digest at the place of a position is what the store has there
map_at : {D : Type 0} (node : ℕ → Option D) (ps : List ℕ) (ds : List D) (p i : ℕ) → map Some ds ≡ map node ps
    → i < length ps → get_or ps i 0 ≡ p → slice_get ds i ≡ node p
map_at node [] ds p i e l at = absurd (omega arith)
map_at node (q ∷ qs) [] p i e l at = absurd cc
map_at node (q ∷ qs) (d ∷ ds) p zero e l at = let f : Some d ≡ node q = cc in f ∙ ap node at
map_at node (q ∷ qs) (d ∷ ds) p (suc i) e l at = let f : map Some ds ≡ map node qs = cc in
    map_at node qs ds p i f (omega arith) at

rising_gap : (ps : List ℕ) → IsStrictlyIncreasing ps → (i n : ℕ) → i + n < length ps
    → get_or ps i 0 ≤ get_or ps (i + n) 0
rising_gap ps up i zero l = let e : get_or ps (i + 0) 0 ≡ get_or ps i 0 = ap (λ k. get_or ps k 0) (omega arith) in
    omega (arith, e)
rising_gap ps up i (suc n) l =
    let ih = rising_gap ps up i n (omega arith) in
    let step = up (i + n) (omega arith) in
    let e : get_or ps (i + suc n) 0 ≡ get_or ps (i + n + 1) 0 = ap (λ k. get_or ps k 0) (omega arith) in
    omega (arith, ih, step, e)

rises : (ps : List ℕ) → IsStrictlyIncreasing ps → (i j : ℕ) → i ≤ j → j < length ps → get_or ps i 0 ≤ get_or ps j 0
rises ps up i j le l =
    let gap = rising_gap ps up i (j - i) (omega arith) in
    let e : get_or ps (i + (j - i)) 0 ≡ get_or ps j 0 = ap (λ k. get_or ps k 0) (omega arith) in
    omega (arith, gap, e)

abbrev Searched : List ℕ → ℕ → Result ℕ ℕ → Type 0
Searched ps p r = MatchResult r (λ j. (j < length ps) × (get_or ps j 0 ≡ p)) (λ j. (j ≤ length ps)
    × ((k : ℕ) → k < j → get_or ps k 0 < p) × ((k : ℕ) → j ≤ k → k < length ps → p < get_or ps k 0))

pub got : {D : Type 0} (node : ℕ → Option D) (ps : List ℕ) (ds : List D) (p i : ℕ) (r : Result ℕ ℕ) (d : Option D)
    → IsBinarySearchResult (λ y. nat_cmp y p) ps r → r ≡ Ok i → d ≡ slice_get ds i
    → IsStrictlyIncreasing ps → map Some ds ≡ map node ps → d ≡ node p
got node ps ds p i r d s e is up same =
    let m = subst (Searched ps p) e (searched ps p r s (rises ps up)) in
    is ∙ map_at node ps ds p i same m.0 m.1

pub missed : (ps : List ℕ) (p i : ℕ) (r : Result ℕ ℕ) → IsBinarySearchResult (λ y. nat_cmp y p) ps r → r ≡ Err i
    → IsStrictlyIncreasing ps → Contains ps p → ⊥
missed ps p i r s e up has =
    let m = subst (Searched ps p) e (searched ps p r s (rises ps up)) in
    let at : get_or ps has.0 0 ≡ p = get_or_default ps has.0 0 p has.1 ∙ has.2 in
    elim (cases_lt has.0 i) [
      | inl l ↦ let x = m.1 has.0 l in omega (arith, x, at)
      | inr g ↦ let x = m.2 has.0 g has.1 in omega (arith, x, at)
    ]

-- ---- answers for planned positions

pub all_held : {D : Type 0} (node : ℕ → Option D) (ps : List ℕ) (ds : List D) → map Some ds ≡ map node ps
    → All (λ p. (d : D) × held_at node p (Some d)) ps
all_held {D} node [] ds e = All-nil (λ p. (d : D) × held_at node p (Some d))
all_held node (p ∷ ps) [] e = absurd cc
all_held {D} node (p ∷ ps) (d ∷ ds) e =
    let here : Some d ≡ node p = cc in
    let found : (x : D) × held_at node p (Some x) = (d, here) in
    let rest : map Some ds ≡ map node ps = cc in
    All-cons (λ q. (x : D) × held_at node q (Some x)) p ps found (all_held node ps ds rest)

-- what is answered for positions is what a store has there
abbrev pub AreTold : {D : Type 0} → (ℕ → Option D → Type 0) → (ℕ → Option D) → List ℕ → Type 0
AreTold {D} answers node ps = (p : ℕ) (a : Option D) → Contains ps p → answers p a → a ≡ node p

abbrev Tells : {D : Type 0} → (ℕ → Option D → Type 0) → (ℕ → Option D) → ℕ → Type 0
Tells {D} answers node p = (a : Option D) → answers p a → a ≡ node p

none_absent : {D : Type 0} (answers : ℕ → Option D → Type 0) (node : ℕ → Option D) (ps : List ℕ) (ds : List D)
    → map Some ds ≡ map node ps
    → All (Tells answers node) ps → (p : ℕ) → IsFirstAbsent answers ps p → ⊥
none_absent answers node [] ds e told p first = first
none_absent answers node (q ∷ qs) [] e told p first = absurd cc
none_absent answers node (q ∷ qs) (d ∷ ds) e told p (inl a) =
    let absent : None ≡ node q = All-head (Tells answers node) q qs told None a.0 in
    let there : Some d ≡ node q = cc in
    absurd cc
none_absent answers node (q ∷ qs) (d ∷ ds) e told p (inr r) =
    let rest : map Some ds ≡ map node qs = cc in
    none_absent answers node qs ds rest (All-tail (Tells answers node) q qs told) p r.2

module _ {D : Type 0} (answers : ℕ → Option D → Type 0) (node : ℕ → Option D) (g : Grafting) (plan : PlanOf)
    (status : Retained) (ps : List ℕ) (ds : List D)
    (are : ps ≡ planned g.shape plan.leaves plan.start plan.end) (same : map Some ds ≡ map node ps)
    (told : AreTold answers node ps) where
  pub are_answered : AreAnswered (held_at node) g.shape plan
  are_answered = subst (All (λ p. (d : D) × held_at node p (Some d))) are (all_held node ps ds same)

  pub not_read : {F : Type 0} (may_fail : ℕ → ℕ → Type 0) (error : Error F) → IsNotBuilt answers g plan status error
      → IsNotRead node may_fail g plan status error
  not_read may_fail error (inl a) =
      let each : All (Tells answers node) ps =
      All-weaker (Contains ps) (Tells answers node) (λ p has x ans. told p x has ans) ps (All-contains_itself ps) in
      absurd (none_absent answers node ps ds same each a.0 (subst (λ xs. IsFirstAbsent answers xs a.0) (sym are) a.1))
  not_read may_fail error (inr (inl b)) = inr (inr (inl (are_answered, b.1, b.2)))
  not_read may_fail error (inr (inr m)) = inr (inr (inr m))

  pub parts_told : (text : D → List ℕ) (h : HashFunction) (floor : ℕ) (ops_root : List ℕ) (s : Snapshot)
      → ArePartsOf text (held_at node) h g plan status floor ops_root s
      → ArePartsOf text answers h g plan status floor ops_root s
  parts_told text h floor ops_root s parts = record {
    count = parts.count;
    bits = parts.bits;
    floor_is = parts.floor_is;
    ops_root_is = parts.ops_root_is;
    nodes = λ p a k d has is ans.
        parts.nodes p a k d has is (told p (Some d) (subst (λ xs. Contains xs p) (sym are) has) ans);
  }

-- ---- faults

pub counts_none : {fault : Type 0} (n : ℕ) → (fault → ⊥) → Counts fault n n
counts_none n never = record {
  told = (
    λ f. absurd (never f),
    λ grew. absurd (let e : n ≡ n + 1 = grew in omega (arith, e)),
  );
  once = inl refl;
}

pub counts_as : {raw fault : Type 0} (before after : ℕ) → (fault → raw) → (raw → fault) → (raw ↔ (after ≡ before + 1))
    → (after ≡ before) ⊎ (after ≡ before + 1) → Counts fault before after
counts_as before after to of told once = record { told = (λ f. told.0 (to f), λ grew. of (told.1 grew)); once = once }

abbrev Fault : {X F : Type 0} → Result X (Error F) → Type 0
Fault result = (code : ℕ) × (result ≡ Err (Merkle (tree.Source code)))

-- ---- refusals that are passed on

abbrev err_of : {X F : Type 0} → Refusal F → Result X (Refusal F)
err_of e = Err e

pub fault_told : {X Y F : Type 0} (e : Refusal F) → Fault {X = X} (Err (Merkle e))
    → (code : ℕ) × (err_of {X = Y} e ≡ Err (tree.Source code))
fault_told e f = (f.0, ap Err (let g : e ≡ tree.Source f.0 = (let h = f.1 in cc) in g))

pub fault_of : {X Y F : Type 0} (e : Refusal F) → (code : ℕ) × (err_of {X = Y} e ≡ Err (tree.Source code))
    → Fault {X = X} (Err (Merkle e))
fault_of e f = (f.0, ap (λ x. Err (Merkle x)) (let g : e ≡ tree.Source f.0 = (let h = f.1 in cc) in g))

-- why a store did not read positions, as it is passed on
pub unread : {X F D : Type 0} (node : ℕ → Option D) (may_fail : ℕ → ℕ → Type 0) (ps qs : List ℕ) (e : Refusal F)
    → qs ≡ ps → (e ≡ tree.Memory → ⊥)
    → ((code : ℕ) → err_of {X = X} e ≡ Err (tree.Source code) → IsFirstFault (λ q a. a ≡ node q) may_fail qs code)
    → ((p : ℕ) × (e ≡ tree.ElementPruned p) × IsFirstAbsent (λ q a. a ≡ node q) qs p)
    ⊎ (((code : ℕ) × (e ≡ tree.Source code)) ⊎ (e ≡ tree.Memory))
    → IsUnread (held_at node) may_fail ps (Merkle e)
unread node may_fail ps qs e are never fault (inl a) =
    inr (inl (a.0, subst (λ xs. IsFirstAbsent (held_at node) xs a.0) are a.2, ap Merkle a.1))
unread node may_fail ps qs e are never fault (inr (inl s)) =
    inl (
      s.0,
      subst (λ xs. IsFirstFault (held_at node) may_fail xs s.0) are (fault s.0 (ap Err s.1)),
      ap Merkle s.1,
    )
unread node may_fail ps qs e are never fault (inr (inr m)) = absurd (never m)

-- what was not read is not made into a proof
pub unread_not_read : {F D : Type 0} (node : ℕ → Option D) (may_fail : ℕ → ℕ → Type 0) (g : Grafting) (plan : PlanOf)
    (status : Retained) (error : Error F)
    → IsUnread (held_at node) may_fail (planned g.shape plan.leaves plan.start plan.end) error
    → IsNotRead node may_fail g plan status error
unread_not_read node may_fail g plan status error (inl s) = inl s
unread_not_read node may_fail g plan status error (inr (inl a)) = inr (inl a)
unread_not_read node may_fail g plan status error (inr (inr m)) = inr (inr (inr m))

pub on_ok : {X E : Type 0} (r : Result X E) (P : Type 0) → P → OnOk r P
on_ok (Ok x) P p = p
on_ok (Err e) P p = tt

pub why_from : {X F D : Type 0} (answers : ℕ → Option D → Type 0) (r : Result X (Error F)) (text : D → List ℕ)
    (h : HashFunction) (g : Grafting) (plan : PlanOf) (status : Retained) (floor : ℕ) (ops_root : List ℕ)
    (held : X → RangeProof)
    → IfOk r (λ x. (s : Snapshot) → ArePartsOf text answers h g plan status floor ops_root s
    → held x ≡ own_range_proof h g s plan.start plan.end)
    → IfErr r (IsNotBuilt answers g plan status)
    → (node : ℕ → Option D) (may_fail : ℕ → ℕ → Type 0) (ps : List ℕ) (ds : List D)
    → ps ≡ planned g.shape plan.leaves plan.start plan.end
    → map Some ds ≡ map node ps → AreTold answers node ps
    → IfErr r (IsNotRead node may_fail g plan status)
why_from answers r text h g plan status floor ops_root held own why node may_fail ps ds are same told =
    IfErr-weaker r (IsNotBuilt answers g plan status) (IsNotRead node may_fail g plan status)
    (λ error w. not_read answers node g plan status ps ds are same told may_fail error w) why

pub on_ok_both : {X E : Type 0} (r : Result X E) {A B C : Type 0} → OnOk r A → OnOk r B → (A → B → C) → OnOk r C
on_ok_both (Ok x) a b f = f a b
on_ok_both (Err e) a b f = tt
