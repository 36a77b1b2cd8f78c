-- Operations by cases: what equal views, or a view of one case, say of the parts.
use Rattle.std.proofs.Common.{◌≡◌, ℕ, Option, List, Ok, refl, subst}
use Rattle.std.specs.Prelude.{option_map}
use Rattle.storage_codec.specs.Faults.{◌>>=◌}
use Rattle.storage_codec.specs.Codec.{Answer, mapped}
use Rattle.storage_codec.specs.Laws.Reading.{bind_ok, mapped_ok}
use Rattle.storage_ops.specs.Operations.{OperationView, Delete, Update, CommitFloor, operation_map}
use Rattle.storage_ops.specs.OperationCases.{delete_of, update_of, commit_of, DeleteIs, UpdateIs, CommitIs}

-- one more view of updates, where equal views have it equal
pub operation_same : {K U V X Y Z W : Type 0} (key : K → X) (update : U → Y) (value : V → Z) (seen : U → W)
    → ((a b : U) → update a ≡ update b → seen a ≡ seen b)
    → (x y : OperationView K U V) → operation_map key update value x ≡ operation_map key update value y
    → operation_map key seen value x ≡ operation_map key seen value y
operation_same key update value seen same (Delete a) (Delete b) e = cc
operation_same key update value seen same (Delete a) (Update b) e = absurd cc
operation_same key update value seen same (Delete a) (CommitFloor b n) e = absurd cc
operation_same key update value seen same (Update a) (Delete b) e = absurd cc
operation_same key update value seen same (Update a) (Update b) e =
    let p : update a ≡ update b = cc in let q = same a b p in rw q refl
operation_same key update value seen same (Update a) (CommitFloor b n) e = absurd cc
operation_same key update value seen same (CommitFloor a m) (Delete b) e = absurd cc
operation_same key update value seen same (CommitFloor a m) (Update b) e = absurd cc
operation_same key update value seen same (CommitFloor a m) (CommitFloor b n) e = cc

pub delete_is : {K U V X Y Z : Type 0} (kview : K → X) (uview : U → Y) (vview : V → Z) (answer : Answer X)
    (op : OperationView K U V) (rest : List ℕ)
    → mapped (λ k. delete_of Y Z k) answer ≡ Ok (operation_map kview uview vview op, rest)
    → DeleteIs kview answer op rest
delete_is {Y = Y} {Z = Z} kview uview vview answer (Delete k) rest e =
    let m = mapped_ok (λ x. delete_of Y Z x) answer (Delete (kview k)) rest e in
    let p = m.2 in
    let same : m.0 ≡ kview k = cc in
    let read = m.1 in
    record { key = k; op_is = refl; read = rw same at read }
delete_is {Y = Y} {Z = Z} kview uview vview answer (Update u) rest e =
    let m = mapped_ok (λ x. delete_of Y Z x) answer (Update (uview u)) rest e in absurd (let p = m.2 in cc)
delete_is {Y = Y} {Z = Z} kview uview vview answer (CommitFloor o n) rest e =
    let m = mapped_ok (λ x. delete_of Y Z x) answer (CommitFloor (option_map vview o) n) rest e in
    absurd (let p = m.2 in cc)

pub update_is : {K U V X Y Z : Type 0} (kview : K → X) (uview : U → Y) (vview : V → Z) (answer : Answer Y)
    (op : OperationView K U V) (rest : List ℕ)
    → mapped (λ u. update_of X Z u) answer ≡ Ok (operation_map kview uview vview op, rest)
    → UpdateIs uview answer op rest
update_is {X = X} {Z = Z} kview uview vview answer (Delete k) rest e =
    let m = mapped_ok (λ x. update_of X Z x) answer (Delete (kview k)) rest e in absurd (let p = m.2 in cc)
update_is {X = X} {Z = Z} kview uview vview answer (Update u) rest e =
    let m = mapped_ok (λ x. update_of X Z x) answer (Update (uview u)) rest e in
    let p = m.2 in
    let same : m.0 ≡ uview u = cc in
    let read = m.1 in
    record { update = u; op_is = refl; read = rw same at read }
update_is {X = X} {Z = Z} kview uview vview answer (CommitFloor o n) rest e =
    let m = mapped_ok (λ x. update_of X Z x) answer (CommitFloor (option_map vview o) n) rest e in
    absurd (let p = m.2 in cc)

-- the two steps of a commit
record Steps {Z : Type 0} (X Y : Type 0) (first : Answer (Option Z)) (next : List ℕ → Answer ℕ)
    (x : OperationView X Y Z) (rest : List ℕ) : Type 0 where
  value : Option Z
  floor : ℕ
  mid : List ℕ
  read : first ≡ Ok (value, mid)
  floor_read : next mid ≡ Ok (floor, rest)
  is : commit_of X Y value floor ≡ x

steps : {Z : Type 0} (X Y : Type 0) (first : Answer (Option Z)) (next : List ℕ → Answer ℕ) (x : OperationView X Y Z)
    (rest : List ℕ)
    → (first >>= λ v. mapped (λ n. commit_of X Y v.0 n) (next v.1)) ≡ Ok (x, rest) → Steps X Y first next x rest
steps {Z} X Y first next x rest e =
    let a = bind_ok {B = OperationView X Y Z × List ℕ} first (λ v. mapped (λ n. commit_of X Y v.0 n) (next v.1))
    (x, rest) e in
    let m = mapped_ok (λ n. commit_of X Y a.0.0 n) (next a.0.1) x rest a.2 in
    record { value = a.0.0; floor = m.0; mid = a.0.1; read = a.1; floor_read = m.1; is = m.2 }

commit_from : {K U V X Y Z : Type 0} (kview : K → X) (uview : U → Y) (vview : V → Z) (first : Answer (Option Z))
    (next : List ℕ → Answer ℕ) (op : OperationView K U V) (rest : List ℕ)
    → Steps X Y first next (operation_map kview uview vview op) rest → CommitIs vview first next op rest
commit_from kview uview vview first next (Delete k) rest s = absurd (let p = s.is in cc)
commit_from kview uview vview first next (Update u) rest s = absurd (let p = s.is in cc)
commit_from kview uview vview first next (CommitFloor o n) rest s =
    let p = s.is in
    let a : s.value ≡ option_map vview o = cc in
    let b : s.floor ≡ n = cc in
    let read = s.read in
    record {
      value = o;
      floor = n;
      mid = s.mid;
      op_is = refl;
      read = rw a at read;
      floor_read = subst (λ (m : ℕ). next s.mid ≡ Ok (m, rest)) b s.floor_read;
    }

pub commit_is : {K U V X Y Z : Type 0} (kview : K → X) (uview : U → Y) (vview : V → Z) (first : Answer (Option Z))
    (next : List ℕ → Answer ℕ) (op : OperationView K U V) (rest : List ℕ)
    → (first >>= λ v. mapped (λ n. commit_of X Y v.0 n) (next v.1)) ≡ Ok (operation_map kview uview vview op, rest)
    → CommitIs vview first next op rest
commit_is {X = X} {Y = Y} kview uview vview first next op rest e =
    commit_from kview uview vview first next op rest (steps X Y first next (operation_map kview uview vview op) rest e)
