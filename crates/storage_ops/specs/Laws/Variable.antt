-- Operations with no padding: what was written is read again, and what is read was written so.
use Rattle.std.proofs.Common.{◌≡◌, ℕ, ◌^◌, ◌<◌, ◌≤◌, cond, eqb, List, [], ◌∷◌, ◌++◌, Option, Some, None, Ok, refl, sym, ap, subst, ◌∙◌, append_assoc, arith, inl, inr}
use Rattle.std.specs.Prelude.{IfSome, option_map}
use Rattle.storage_codec.specs.Faults.{EndOfBuffer, InvalidEnum}
use Rattle.storage_codec.specs.Parts.{IsBytes, option_text, varint_text}
use Rattle.storage_codec.specs.Codec.{Answer, mapped, option_at, varint_at}
use Rattle.storage_codec.specs.Laws.Reading.{option_again, option_back}
use Rattle.storage_codec.specs.Laws.Codec.{one_answer}
use Rattle.storage_codec.specs.Laws.Varint.{varint_again, chosen}
use Rattle.storage_merkle.specs.Wire.{location_at}
use Rattle.storage_merkle.specs.Laws.Wire.{location_again, location_back}
use Rattle.storage_ops.specs.Operations.{OperationView, Delete, Update, CommitFloor, operation_map, is_admitted}
use Rattle.storage_ops.specs.OperationCases.{delete_of, update_of}
use Rattle.storage_ops.specs.Laws.Operations.{delete_is, update_is, commit_is}
use Rattle.storage_ops.specs.Reading.{IsRead, IsSpelled}
use Rattle.storage_ops.specs.Laws.Reading.{read_same, first_part, second_part, mapped_again, commit_steps, tag_is, no_fault, failed, tail_bytes, along}
use Rattle.storage_ops.specs.Variable.{metadata_text, variable_operation_text, variable_commit_at, variable_payload_at, variable_operation_at}

-- an optional value, written from its bytes
pub metadata_is : {V : Type 0} (text : V → List ℕ) (o : Option V)
    → metadata_text (option_map text o) ≡ option_text text o
metadata_is text None = refl
metadata_is text (Some v) = refl

metadata_again : {V W : Type 0} (text : V → List ℕ) (view : V → W) (parse : List ℕ → Answer W) (admits : V → Type 0)
    → IsRead text view parse admits → (o : Option V) (rest : List ℕ) → IfSome o admits
    → option_at parse (metadata_text (option_map text o) ++ rest) ≡ Ok (option_map view o, rest)
metadata_again text view parse admits is o rest h =
    ap (λ (t : List ℕ). option_at parse (t ++ rest)) (metadata_is text o)
    ∙ option_again text view parse admits (λ x r p. is.again x r p) o rest h

pub variable_again : {K U V X Y Z : Type 0} (key : K → List ℕ) (update : U → List ℕ) (value : V → List ℕ)
    (kview : K → X) (uview : U → Y) (vview : V → Z)
    (kparse : List ℕ → Answer X) (uparse : List ℕ → Answer Y) (vparse : List ℕ → Answer Z) (kadm : K → Type 0)
    (uadm : U → Type 0) (vadm : V → Type 0)
    → IsRead key kview kparse kadm → IsRead update uview uparse uadm → IsRead value vview vparse vadm
    → (op : OperationView K U V) (rest : List ℕ) → is_admitted kadm uadm vadm (λ n. n ≤ 2 ^ 62) op
    → variable_operation_at kparse uparse vparse (variable_operation_text (operation_map key update value op) ++ rest)
    ≡ Ok (operation_map kview uview vview op, rest)
variable_again {Y = Y} {Z = Z} key update value kview uview vview kparse uparse vparse kadm uadm vadm kis uis vis
    (Delete k) rest h =
    mapped_again (λ x. delete_of Y Z x) (kparse (key k ++ rest)) (kview k) rest (kis.again k rest h)
variable_again {X = X} {Z = Z} key update value kview uview vview kparse uparse vparse kadm uadm vadm kis uis vis
    (Update u) rest h =
    mapped_again (λ x. update_of X Z x) (uparse (update u ++ rest)) (uview u) rest (uis.again u rest h)
variable_again {X = X} {Y = Y} key update value kview uview vview kparse uparse vparse kadm uadm vadm kis uis vis
    (CommitFloor o n) rest h =
    let here = metadata_text (option_map value o) in
    let tail = varint_text n ++ rest in
    ap (λ (t : List ℕ). variable_commit_at {K = X} {U = Y} vparse t) (append_assoc here (varint_text n) rest)
    ∙ commit_steps X Y (option_at vparse (here ++ tail)) location_at (option_map vview o) n tail rest
    (metadata_again value vview vparse vadm vis o tail h.0) (location_again n rest h.1)

payload_back : {K U V X Y Z : Type 0} (key : K → List ℕ) (update : U → List ℕ) (value : V → List ℕ) (kview : K → X)
    (uview : U → Y) (vview : V → Z)
    (kparse : List ℕ → Answer X) (uparse : List ℕ → Answer Y) (vparse : List ℕ → Answer Z)
    → IsSpelled key kview kparse → IsSpelled update uview uparse → IsSpelled value vview vparse
    → (tag : ℕ) (op : OperationView K U V) (bytes rest : List ℕ) → IsBytes bytes
    → variable_payload_at kparse uparse vparse tag bytes ≡ Ok (operation_map kview uview vview op, rest)
    → tag ∷ bytes ≡ variable_operation_text (operation_map key update value op) ++ rest
payload_back {X = X} {Y = Y} {Z = Z} key update value kview uview vview kparse uparse vparse kis uis vis tag op
    bytes rest fits e =
    let x = operation_map kview uview vview op in
    let deletes = mapped (λ k. delete_of Y Z k) (kparse bytes) in
    let updates = mapped (λ u. update_of X Z u) (uparse bytes) in
    let commits = variable_commit_at {K = X} {U = Y} vparse bytes in
    let wrong = failed (OperationView X Y Z × List ℕ) (InvalidEnum tag) in
    elim (chosen (eqb tag 209) deletes (cond (eqb tag 210) updates (cond (eqb tag 211) commits wrong))
    (Ok (x, rest)) e) [
      | inl h ↦
          let d = delete_is kview uview vview (kparse bytes) op rest h.1 in
          let text = kis.back bytes d.key rest fits d.read in
          let is = d.op_is in
          rw (tag_is tag 209 h.0, is) (ap (λ (t : List ℕ). 209 ∷ t) text)
      | inr h ↦ elim (chosen (eqb tag 210) updates (cond (eqb tag 211) commits wrong) (Ok (x, rest)) h.1) [
        | inl i ↦
            let d = update_is kview uview vview (uparse bytes) op rest i.1 in
            let text = uis.back bytes d.update rest fits d.read in
            let is = d.op_is in
            rw (tag_is tag 210 i.0, is) (ap (λ (t : List ℕ). 210 ∷ t) text)
        | inr i ↦ elim (chosen (eqb tag 211) commits wrong (Ok (x, rest)) i.1) [
          | inl j ↦
              let d = commit_is kview uview vview (option_at vparse bytes) location_at op rest j.1 in
              let first =
              option_back value vview vparse (λ b y r p q. vis.back b y r p q) bytes d.value d.mid fits d.read in
              let second = location_back d.mid d.floor rest
              (tail_bytes (option_text value d.value) d.mid (along _ _ first fits)) d.floor_read in
              let whole : bytes ≡ metadata_text (option_map value d.value) ++ varint_text d.floor ++ rest =
              first ∙ ap (λ (t : List ℕ). option_text value d.value ++ t) second
              ∙ sym (append_assoc (option_text value d.value) (varint_text d.floor) rest)
              ∙ ap (λ (t : List ℕ). t ++ varint_text d.floor ++ rest) (sym (metadata_is value d.value)) in
              let is = d.op_is in
              rw (tag_is tag 211 j.0, is) (ap (λ (t : List ℕ). 211 ∷ t) whole)
          | inr j ↦ no_fault (InvalidEnum tag) (x, rest) _ j.1
        ]
      ]
    ]

pub variable_back : {K U V X Y Z : Type 0} (key : K → List ℕ) (update : U → List ℕ) (value : V → List ℕ) (kview : K → X)
    (uview : U → Y) (vview : V → Z)
    (kparse : List ℕ → Answer X) (uparse : List ℕ → Answer Y) (vparse : List ℕ → Answer Z)
    → IsSpelled key kview kparse → IsSpelled update uview uparse → IsSpelled value vview vparse
    → (bytes : List ℕ) (op : OperationView K U V) (rest : List ℕ) → IsBytes bytes
    → variable_operation_at kparse uparse vparse bytes ≡ Ok (operation_map kview uview vview op, rest)
    → bytes ≡ variable_operation_text (operation_map key update value op) ++ rest
variable_back {X = X} {Y = Y} {Z = Z} key update value kview uview vview kparse uparse vparse kis uis vis []
    op rest fits e =
    no_fault {A = OperationView X Y Z × List ℕ} EndOfBuffer (operation_map kview uview vview op, rest) _ e
variable_back key update value kview uview vview kparse uparse vparse kis uis vis (tag ∷ bytes) op rest fits e =
    payload_back key update value kview uview vview kparse uparse vparse kis uis vis tag op bytes rest
    (tail_bytes (tag ∷ []) bytes fits) e

-- Equal encodings are of operations that are seen as equal, also with floors that are not read.
pub variable_one : {K U V X Y Z : Type 0} (key : K → List ℕ) (update : U → List ℕ) (value : V → List ℕ) (kview : K → X)
    (uview : U → Y) (vview : V → Z)
    (kparse : List ℕ → Answer X) (uparse : List ℕ → Answer Y) (vparse : List ℕ → Answer Z) (kadm : K → Type 0)
    (uadm : U → Type 0) (vadm : V → Type 0)
    → IsRead key kview kparse kadm → IsRead update uview uparse uadm → IsRead value vview vparse vadm
    → (x y : OperationView K U V) → is_admitted kadm uadm vadm (λ n. n < 2 ^ 64) x
    → is_admitted kadm uadm vadm (λ n. n < 2 ^ 64) y
    → variable_operation_text (operation_map key update value x)
    ≡ variable_operation_text (operation_map key update value y)
    → operation_map kview uview vview x ≡ operation_map kview uview vview y
variable_one key update value kview uview vview kparse uparse vparse kadm uadm vadm kis uis vis (Delete a)
    (Delete b) p q e =
    let tail : key a ≡ key b = second_part e in
    let same = read_same key kview kparse kadm kis a b [] [] p q (ap (λ (t : List ℕ). t ++ []) tail) in
    ap (λ k. Delete k) same.0
variable_one key update value kview uview vview kparse uparse vparse kadm uadm vadm kis uis vis (Delete a)
    (Update b) p q e = let t : ◌≡◌ {A = ℕ} 209 210 = first_part e in absurd (omega arith)
variable_one key update value kview uview vview kparse uparse vparse kadm uadm vadm kis uis vis (Delete a)
    (CommitFloor b n) p q e = let t : ◌≡◌ {A = ℕ} 209 211 = first_part e in absurd (omega arith)
variable_one key update value kview uview vview kparse uparse vparse kadm uadm vadm kis uis vis (Update a)
    (Delete b) p q e = let t : ◌≡◌ {A = ℕ} 210 209 = first_part e in absurd (omega arith)
variable_one key update value kview uview vview kparse uparse vparse kadm uadm vadm kis uis vis (Update a)
    (Update b) p q e =
    let tail : update a ≡ update b = second_part e in
    let same = read_same update uview uparse uadm uis a b [] [] p q (ap (λ (t : List ℕ). t ++ []) tail) in
    ap (λ u. Update u) same.0
variable_one key update value kview uview vview kparse uparse vparse kadm uadm vadm kis uis vis (Update a)
    (CommitFloor b n) p q e = let t : ◌≡◌ {A = ℕ} 210 211 = first_part e in absurd (omega arith)
variable_one key update value kview uview vview kparse uparse vparse kadm uadm vadm kis uis vis (CommitFloor a m)
    (Delete b) p q e = let t : ◌≡◌ {A = ℕ} 211 209 = first_part e in absurd (omega arith)
variable_one key update value kview uview vview kparse uparse vparse kadm uadm vadm kis uis vis (CommitFloor a m)
    (Update b) p q e = let t : ◌≡◌ {A = ℕ} 211 210 = first_part e in absurd (omega arith)
variable_one key update value kview uview vview kparse uparse vparse kadm uadm vadm kis uis vis (CommitFloor a m)
    (CommitFloor b n) p q e =
    let tail : metadata_text (option_map value a) ++ varint_text m
    ≡ metadata_text (option_map value b) ++ varint_text n = second_part e in
    let first = one_answer (option_at vparse (metadata_text (option_map value b) ++ varint_text n)) (option_map vview a)
    (option_map vview b) (varint_text m) (varint_text n)
    (subst (λ (t : List ℕ). option_at vparse t ≡ Ok (option_map vview a, varint_text m)) tail
    (metadata_again value vview vparse vadm vis a (varint_text m) p.0))
    (metadata_again value vview vparse vadm vis b (varint_text n) q.0) in
    let second = one_answer (varint_at (varint_text n ++ [])) m n [] []
    (subst (λ (t : List ℕ). varint_at (t ++ []) ≡ Ok (m, [])) first.1 (varint_again m [] p.1))
    (varint_again n [] q.1) in
    rw (first.0, second.0) refl
