-- What bytes are read as that are to prove something of a key, and what a check of them answers.
use Rattle.std.proofs.Common.{◌≡◌, ℕ, ◌↔◌, Bool, true, cond, not, ◌&&◌, ◌||◌, eqb, List, [], ◌∷◌, ◌++◌, length, Option, Some, None, Result, Ok, Err, Ordering, Less, Equal, Greater, is_lt, inl, inr, refl, sym, ap, subst, ◌∙◌}
use Rattle.std.specs.Prelude.{option_map}
use Rattle.std.specs.Cmp.{IsTotalOrder}
use Rattle.std.specs.Ordering.{is_eq}
use Rattle.std.proofs.lemmas.Bool.{false≢true}
use Rattle.std.proofs.lemmas.Cmp.{alike_right}
use Rattle.std.specs.Bool.{IsTrue}
use Rattle.std.specs.Result.{IfOk}
use Rattle.storage_codec.specs.Digests.{HashFunction}
use Rattle.storage_codec.specs.Codec.{Answer, mapped, option_at, whole}
use Rattle.storage_codec.specs.Faults.{EndOfBuffer, InvalidEnum}
use Rattle.storage_codec.specs.Laws.Codec.{whole_ok}
use Rattle.storage_codec.specs.Laws.Reading.{bind_ok, mapped_ok, ok_is}
use Rattle.storage_merkle.specs.Shape.{Shape}
use Rattle.storage_ops.specs.Operations.{Update, CommitFloor}
use Rattle.storage_codec.specs.Laws.Varint.{chosen}
use Rattle.storage_ops.specs.Laws.Reading.{failed, no_fault}
use Rattle.storage_current.specs.Snapshots.{Grafting, OperationProof}
use Rattle.storage_current.specs.CurrentProofs.{IsActiveCurrent}
use Rattle.storage_current.specs.CurrentWire.{sized_operation_at}
use Rattle.storage_current.specs.Keys.{Keyed, update_text, before, Excludes}
use Rattle.storage_current.specs.KeyProofs.{MeansValue, MeansAbsent, Exclusion, KeyValue, Commit, Allows, IsExcluded, proof_in, shown_text}
use Rattle.storage_current.specs.KeyWire.{pair_at, exclusion_at, exclusion_map}
use Rattle.commonware_storage.specs.LightKeys.{IsAcceptedValue, IsTrueValue, IsAcceptedAbsence, IsTrueAbsence}
use Rattle.commonware_storage.proofs.Answers.{front_chunk}

-- the chunk of a proof that was read in front of another part
pub pair_chunk : {X : Type 0} (there : Bool) (d size most : ℕ) (next_at : List ℕ → Answer X) (bytes : List ℕ)
    (p : OperationProof) (x : X) (rest : List ℕ)
    → pair_at (sized_operation_at there d size most) next_at bytes ≡ Ok ((p, x), rest) → length p.chunk ≡ size
pair_chunk {X} there d size most next_at bytes p x rest e =
    let a = bind_ok {B = (OperationProof × X) × List ℕ} (sized_operation_at there d size most bytes)
    (λ a. mapped (λ b. (a.0, b)) (next_at a.1)) ((p, x), rest) e in
    let m = mapped_ok (λ (b : X). (a.0.0, b)) (next_at a.0.1) (p, x) rest a.2 in
    let same : a.0.0 ≡ p = ap (λ (y : OperationProof × X). y.0) m.2 in
    subst (λ (q : OperationProof). length q.chunk ≡ size) same (front_chunk there d size most bytes a.0.0 a.0.1 a.1)

-- bytes are read whole as one value
pub one_read : {Y : Type 0} {answer : Answer Y} {x y : Y} → answer ≡ Ok (x, []) → answer ≡ Ok (y, []) → x ≡ y
one_read {Y} {answer} {x} {y} e f = let none : List ℕ = [] in
    ap (λ (z : Y × List ℕ). z.0) (ok_is (x, none) (y, none) (sym e ∙ f))

module _ {K V X : Type 0} (e : Keyed K V) (view : K → X) (next_at : List ℕ → Answer X)
    (seen : (a b : K) → view a ≡ view b → e.key a ≡ e.key b)
    (h : HashFunction) (S : Shape) (size : ℕ) (there : Bool) (d : ℕ) (bytes : List ℕ) (key : K) (value : V)
    (root : List ℕ) where
  abbrev grafting : ℕ → Grafting
  grafting n = record { shape = S; bytes = n }

  abbrev Read : OperationProof → K → Type 0
  Read p next = whole (pair_at (sized_operation_at there d size 128) next_at bytes) ≡ Ok ((p, view next), [])

  chunk_size : (p : OperationProof) (next : K) → Read p next → length p.chunk ≡ size
  chunk_size p next read = pair_chunk there d size 128 next_at bytes p (view next) []
      (whole_ok (pair_at (sized_operation_at there d size 128) next_at bytes) (p, view next) [] read).0

  same_next : (p q : OperationProof) (m n : K) → Read p m → Read q n → (p ≡ q) × (e.key m ≡ e.key n)
  same_next p q m n a b =
      let same : (p, view m) ≡ (q, view n) = one_read a b in
      (ap (λ (y : OperationProof × X). y.0) same, seen m n (ap (λ (y : OperationProof × X). y.1) same))

  accepted_along : (g : Grafting) (p q : OperationProof) (m n : K) → (p ≡ q) × (e.key m ≡ e.key n)
      → IsActiveCurrent h g p (update_text e key value m) root → IsActiveCurrent h g q (update_text e key value n) root
  accepted_along g p q m n same a =
      subst (λ (y : OperationProof). IsActiveCurrent h g y (update_text e key value n) root) same.0
      (subst (λ (t : List ℕ).
      IsActiveCurrent h g p (e.operation (Update (e.key key ++ e.value value ++ t))) root) same.1 a)

  module _ (p : OperationProof) (next : K) (read : Read p next) {E : Type 0} where
    -- what the check of the bytes answers, from what the check of the proof that they are read as does
    pub value_exactly : (answer : Result Bool E)
        → IfOk answer
        (λ yes. IsTrue yes ↔ IsActiveCurrent h (grafting (length p.chunk)) p (update_text e key value next) root)
        → IfOk answer
        (λ yes. IsTrue yes ↔ IsAcceptedValue e view next_at h (grafting size) there d bytes key value root)
    value_exactly (Err x) exact = tt
    value_exactly (Ok b) exact =
        let on : IsTrue b ↔ IsActiveCurrent h (grafting size) p (update_text e key value next) root =
        subst (λ (n : ℕ). IsTrue b ↔ IsActiveCurrent h (grafting n) p (update_text e key value next) root)
        (chunk_size p next read) exact in (
          λ t. record { proof = p; next = next; read = read; accepted = on.0 t },
          λ a. on.1 (accepted_along (grafting size) a.proof p a.next next
              (same_next a.proof p a.next next a.read read) a.accepted),
        )

    -- and what its yes means
    pub value_meaning : (answer : Result Bool E)
        → IfOk answer (λ yes. IsTrue yes → MeansValue e h (grafting (length p.chunk)) p key value next root)
        → IfOk answer (λ yes. IsTrue yes → IsTrueValue e view next_at h (grafting size) there d bytes key value root)
    value_meaning (Err x) means = tt
    value_meaning (Ok b) means = λ t. record {
      proof = p;
      next = next;
      read = read;
      meaning = subst (λ (n : ℕ). MeansValue e h (grafting n) p key value next root) (chunk_size p next read) (means t);
    }

-- ---- exclusions

update_same : {K V : Type 0} (e : Keyed K V) {a b c x y z : List ℕ} → a ≡ x → b ≡ y → c ≡ z
    → e.operation (Update (a ++ b ++ c)) ≡ e.operation (Update (x ++ y ++ z))
update_same e p q r = rw (p, q, r) refl

commit_same : {K V : Type 0} (e : Keyed K V) {v w : Option (List ℕ)} {m n : ℕ} → v ≡ w → m ≡ n
    → e.operation (CommitFloor v m) ≡ e.operation (CommitFloor w n)
commit_same e p q = rw (p, q) refl

module _ {X Y : Type 0} (there : Bool) (d size most : ℕ) (update_at : List ℕ → Answer X)
    (value_at : List ℕ → Answer Y) where
  abbrev reader : List ℕ → Answer OperationProof
  reader = sized_operation_at there d size most

  abbrev span_of_pair : OperationProof × X → Exclusion X Y
  span_of_pair x = KeyValue x.0 x.1

  abbrev commit_of_pair : OperationProof × Option Y → Exclusion X Y
  commit_of_pair x = Commit x.0 x.1

  -- the chunk of an exclusion proof that was read
  pub exclusion_chunk : (bytes : List ℕ) (y : Exclusion X Y) (rest : List ℕ)
      → exclusion_at reader update_at value_at bytes ≡ Ok (y, rest) → length (proof_in y).chunk ≡ size
  exclusion_chunk [] y rest e = no_fault {A = Exclusion X Y × List ℕ} EndOfBuffer (y, rest) _ e
  exclusion_chunk (tag ∷ bytes) y rest e =
      let wrong = failed (Exclusion X Y × List ℕ) (InvalidEnum tag) in
      let spans = mapped span_of_pair (pair_at reader update_at bytes) in
      let commits = mapped commit_of_pair (pair_at reader (option_at value_at) bytes) in
      elim (chosen (eqb tag 0) spans (cond (eqb tag 1) commits wrong) (Ok (y, rest)) e) [
        | inl i ↦
            let m = mapped_ok span_of_pair (pair_at reader update_at bytes) y rest i.1 in
            subst (λ (z : Exclusion X Y). length (proof_in z).chunk ≡ size) m.2
            (pair_chunk there d size most update_at bytes m.0.0 m.0.1 rest m.1)
        | inr i ↦ elim (chosen (eqb tag 1) commits wrong (Ok (y, rest)) i.1) [
          | inl j ↦
              let m = mapped_ok commit_of_pair (pair_at reader (option_at value_at) bytes) y rest j.1 in
              subst (λ (z : Exclusion X Y). length (proof_in z).chunk ≡ size) m.2
              (pair_chunk there d size most (option_at value_at) bytes m.0.0 m.0.1 rest m.1)
          | inr j ↦ no_fault (InvalidEnum tag) (y, rest) _ j.1
        ]
      ]

-- what the order and the encodings of keys and values have in common
pub record AreAlike {K V X Y : Type 0} (e : Keyed K V) (kview : K → X) (vview : V → Y) : Type 0 where
  pub key : (a b : K) → kview a ≡ kview b → e.key a ≡ e.key b
  pub value : (a b : V) → vview a ≡ vview b → e.value a ≡ e.value b
  pub total : IsTotalOrder e.cmp
  pub tied : (a b : K) → e.key a ≡ e.key b → e.cmp a b ≡ Equal

equal_of : (o : Ordering) → is_eq o ≡ true → o ≡ Equal
equal_of Less h = absurd (false≢true h)
equal_of Equal h = refl
equal_of Greater h = absurd (false≢true h)

pub tied_of : {K : Type 0} (cmp : K → K → Ordering) (eq : K → K → Bool) (text : K → List ℕ)
    → ((a b : K) → eq a b ≡ is_eq (cmp a b))
    → ((a b : K) → (eq a b ≡ true → text a ≡ text b) × (text a ≡ text b → eq a b ≡ true)) → (a b : K) → text a ≡ text b
    → cmp a b ≡ Equal
tied_of cmp eq text eq_is same a b e = equal_of (cmp a b) (sym (eq_is a b) ∙ (same a b).1 e)

option_alike : {V Y : Type 0} (vview : V → Y) (value : V → List ℕ) → ((a b : V) → vview a ≡ vview b → value a ≡ value b)
    → (v w : Option V) → option_map vview v ≡ option_map vview w → option_map value v ≡ option_map value w
option_alike vview value seen None None e = refl
option_alike vview value seen None (Some w) e = absurd cc
option_alike vview value seen (Some v) None e = absurd cc
option_alike vview value seen (Some v) (Some w) e = ap (λ t. Some t) (seen v w cc)

module _ {K V X Y : Type 0} (e : Keyed K V) (kview : K → X) (vview : V → Y) (alike : AreAlike e kview vview) where
  abbrev View : Exclusion (K × V × K) V → Exclusion (X × Y × X) Y
  View = exclusion_map (λ u. (kview u.0, vview u.1, kview u.2)) vview

  before_alike : (a b k l : K) → e.key a ≡ e.key b → e.key k ≡ e.key l → before e a k ≡ before e b l
  before_alike a b k l p q =
      ap is_lt (alike.total.congr a b k (alike.tied a b p) ∙ alike_right alike.total k l b (alike.tied k l q))

  abbrev span_of : Bool → Bool → Bool → Bool
  span_of across from to = cond across (not from && to) (not from || to)

  same_span : (a b c x y z : Bool) → a ≡ x → b ≡ y → c ≡ z → span_of a b c ≡ span_of x y z
  same_span a b c x y z p q r = rw (p, q, r) refl

  excludes_alike : (a b m n key : K) → e.key a ≡ e.key b → e.key m ≡ e.key n → Excludes e a m key → Excludes e b n key
  excludes_alike a b m n key p q x = record {
    other = λ same. x.other (same ∙ sym p);
    spanned =
        let across = before_alike a b m n p q in
        let from = before_alike key key a b refl p in
        let to = before_alike key key m n refl q in
        sym (same_span _ _ _ _ _ _ across from to) ∙ x.spanned;
  }

  record SameShown (x y : Exclusion (K × V × K) V) (key : K) : Type 0 where
    proof : proof_in x ≡ proof_in y
    text : shown_text e x ≡ shown_text e y
    allows : Allows e x key → Allows e y key

  shown_alike : (x y : Exclusion (K × V × K) V) (key : K) → View x ≡ View y → SameShown x y key
  shown_alike (KeyValue p u) (KeyValue q w) key same =
      let seen : (kview u.0, vview u.1, kview u.2) ≡ (kview w.0, vview w.1, kview w.2) = cc in
      let first = alike.key u.0 w.0 (ap (λ (t : X × Y × X). t.0) seen) in
      let second = alike.value u.1 w.1 (ap (λ (t : X × Y × X). t.1) seen) in
      let third = alike.key u.2 w.2 (ap (λ (t : X × Y × X). t.2) seen) in
      record {
        proof = cc;
        text = update_same e first second third;
        allows = excludes_alike u.0 w.0 u.2 w.2 key first third;
      }
  shown_alike (KeyValue p u) (Commit q w) key same = absurd cc
  shown_alike (Commit p v) (KeyValue q w) key same = absurd cc
  shown_alike (Commit p v) (Commit q w) key same =
      let seen : option_map vview v ≡ option_map vview w = cc in
      let values = option_alike vview e.value alike.value v w seen in
      let proofs : p ≡ q = cc in
      record {
        proof = proofs;
        text = commit_same e values (ap (λ (r : OperationProof). r.location) proofs);
        allows = λ t. t;
      }

  excluded_alike : (h : HashFunction) (g : Grafting) (x y : Exclusion (K × V × K) V) (key : K) (root : List ℕ)
      → View x ≡ View y → IsExcluded e h g x key root → IsExcluded e h g y key root
  excluded_alike h g x y key root same a =
      let s = shown_alike x y key same in
      record {
        allowed = s.allows a.allowed;
        accepted = subst (λ (t : List ℕ). IsActiveCurrent h g (proof_in y) t root) s.text
            (subst (λ (q : OperationProof). IsActiveCurrent h g q (shown_text e x) root) s.proof a.accepted);
      }

  same_proof : (x : Exclusion (K × V × K) V) → proof_in (View x) ≡ proof_in x
  same_proof (KeyValue p u) = refl
  same_proof (Commit p v) = refl

  module _ (update_at : List ℕ → Answer (X × Y × X)) (value_at : List ℕ → Answer Y) (h : HashFunction) (S : Shape)
      (size : ℕ) (there : Bool) (d : ℕ) (bytes : List ℕ) (key : K) (root : List ℕ)
      (x : Exclusion (K × V × K) V)
      (read : whole (exclusion_at (sized_operation_at there d size 128) update_at value_at bytes) ≡ Ok (View x, [])) where
    abbrev over : ℕ → Grafting
    over n = record { shape = S; bytes = n }

    size_is : length (proof_in x).chunk ≡ size
    size_is = subst (λ (p : OperationProof). length p.chunk ≡ size) (same_proof x)
        (exclusion_chunk there d size 128 update_at value_at bytes (View x) []
        (whole_ok (exclusion_at (sized_operation_at there d size 128) update_at value_at bytes) (View x) [] read).0)

    -- what the check of the bytes answers, from what the check of the proof that they are read as does
    pub absence_exactly : {E : Type 0} (answer : Result Bool E)
        → IfOk answer (λ yes. IsTrue yes ↔ IsExcluded e h (over (length (proof_in x).chunk)) x key root)
        → IfOk answer (λ yes. IsTrue yes
        ↔ IsAcceptedAbsence e kview vview update_at value_at h (over size) there d bytes key root)
    absence_exactly (Err z) exact = tt
    absence_exactly (Ok b) exact =
        let on : IsTrue b ↔ IsExcluded e h (over size) x key root =
        subst (λ (n : ℕ). IsTrue b ↔ IsExcluded e h (over n) x key root) size_is exact in (
          λ t. record { proof = x; read = read; accepted = on.0 t },
          λ a. on.1 (excluded_alike h (over size) a.proof x key root (one_read a.read read) a.accepted),
        )

    -- and what its yes means
    pub absence_meaning : {E : Type 0} (answer : Result Bool E)
        → IfOk answer (λ yes. IsTrue yes → MeansAbsent e h (over (length (proof_in x).chunk)) x key root)
        → IfOk answer (λ yes. IsTrue yes
        → IsTrueAbsence e kview vview update_at value_at h (over size) there d bytes key root)
    absence_meaning (Err z) means = tt
    absence_meaning (Ok b) means = λ t. record {
      proof = x;
      read = read;
      meaning = subst (λ (n : ℕ). MeansAbsent e h (over n) x key root) size_is (means t);
    }
