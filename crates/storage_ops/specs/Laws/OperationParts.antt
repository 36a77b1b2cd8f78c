-- Equal operations are written with equal parts.
use Rattle.std.proofs.Common.{◌≡◌, ℕ, ◌+◌, ◌^◌, ◌<◌, List, [], ◌++◌, length, Option, Some, None, refl, sym, ap, subst, ◌∙◌, arith}
use Rattle.std.specs.Prelude.{IfSome, option_map}
use Rattle.std.specs.Int.{w64, to_be_bytes, from_be_bytes}
use Rattle.std.proofs.lemmas.List.{append_cancel_left, append_cancel_right, length-replicate}
use Rattle.std.proofs.lemmas.Nat.{from_be_bytes-to_be_bytes_8}
use Rattle.storage_codec.specs.Parts.{varint_text}
use Rattle.storage_codec.specs.Laws.Spelling.{varint_one}
use Rattle.storage_ops.specs.PrefixFree.{IsPrefixFree}
use Rattle.storage_ops.specs.Laws.PrefixFree.{front_same, two_parts}
use Rattle.storage_ops.specs.Operations.{OperationView, Delete, Update, CommitFloor, operation_map, operation_floor}
use Rattle.storage_ops.specs.Fixed.{presence_text, fixed_operation_text}
use Rattle.storage_ops.specs.Variable.{metadata_text, variable_operation_text}
use Rattle.storage_ops.specs.Laws.Reading.{first_part, second_part}

number_same : (m n : ℕ) → m < 2 ^ 64 → n < 2 ^ 64 → to_be_bytes w64 m ≡ to_be_bytes w64 n → m ≡ n
number_same m n p q e =
    sym (from_be_bytes-to_be_bytes_8 m p) ∙ ap (from_be_bytes w64) e ∙ from_be_bytes-to_be_bytes_8 n q

presence_length : {V : Type 0} (value : V → List ℕ) (vs : ℕ) → ((v : V) → length (value v) ≡ vs) → (o : Option V)
    → length (presence_text vs (option_map value o)) ≡ 1 + vs
presence_length value vs sized None = omega (arith, length-replicate {A = ℕ} vs 0)
presence_length value vs sized (Some v) = omega (arith, sized v)

presence_same : {V : Type 0} (value : V → List ℕ) (vs : ℕ) (a b : Option V) → presence_text vs (option_map value a)
    ≡ presence_text vs (option_map value b) → option_map value a ≡ option_map value b
presence_same value vs None None e = refl
presence_same value vs None (Some b) e = let t : ◌≡◌ {A = ℕ} 0 1 = first_part e in absurd (omega arith)
presence_same value vs (Some a) None e = let t : ◌≡◌ {A = ℕ} 1 0 = first_part e in absurd (omega arith)
presence_same value vs (Some a) (Some b) e = ap (λ t. Some t) (second_part e)

-- a commit of texts
abbrev commit_of : Option (List ℕ) → ℕ → OperationView (List ℕ) (List ℕ) (List ℕ)
commit_of o n = CommitFloor o n

abbrev Same : {K U V : Type 0} (key : K → List ℕ) (update : U → List ℕ) (value : V → List ℕ)
    (x y : OperationView K U V) → Type 0
Same key update value x y = operation_map key update value x ≡ operation_map key update value y

abbrev IsSmall : {K U V : Type 0} → OperationView K U V → Type 0
IsSmall x = IfSome (operation_floor x) (λ n. n < 2 ^ 64)

-- Equal fixed operations have equal parts.
pub fixed_parts : {K U V : Type 0} (key : K → List ℕ) (update : U → List ℕ) (value : V → List ℕ) (ks us vs : ℕ)
    → ((v : V) → length (value v) ≡ vs)
    → (x y : OperationView K U V) → IsSmall x → IsSmall y
    → fixed_operation_text ks us vs (operation_map key update value x)
    ≡ fixed_operation_text ks us vs (operation_map key update value y) → Same key update value x y
fixed_parts key update value ks us vs sized (Delete a) (Delete b) p q e =
    ap (λ t. Delete t) (append_cancel_right (key a) (key b) _ (second_part e))
fixed_parts key update value ks us vs sized (Delete a) (Update b) p q e = let t : ◌≡◌ {A = ℕ} 209 210 = first_part e in
    absurd (omega arith)
fixed_parts key update value ks us vs sized (Delete a) (CommitFloor b n) p q e = let t : ◌≡◌ {A = ℕ} 209 211 =
    first_part e in absurd (omega arith)
fixed_parts key update value ks us vs sized (Update a) (Delete b) p q e = let t : ◌≡◌ {A = ℕ} 210 209 = first_part e in
    absurd (omega arith)
fixed_parts key update value ks us vs sized (Update a) (Update b) p q e =
    ap (λ t. Update t) (append_cancel_right (update a) (update b) _ (second_part e))
fixed_parts key update value ks us vs sized (Update a) (CommitFloor b n) p q e = let t : ◌≡◌ {A = ℕ} 210 211 =
    first_part e in absurd (omega arith)
fixed_parts key update value ks us vs sized (CommitFloor a m) (Delete b) p q e = let t : ◌≡◌ {A = ℕ} 211 209 =
    first_part e in absurd (omega arith)
fixed_parts key update value ks us vs sized (CommitFloor a m) (Update b) p q e = let t : ◌≡◌ {A = ℕ} 211 210 =
    first_part e in absurd (omega arith)
fixed_parts key update value ks us vs sized (CommitFloor a m) (CommitFloor b n) p q e =
    let front = presence_text vs (option_map value a) in
    let other = presence_text vs (option_map value b) in
    let both : front ++ to_be_bytes w64 m ≡ other ++ to_be_bytes w64 n =
    append_cancel_right (front ++ to_be_bytes w64 m) (other ++ to_be_bytes w64 n) _ (second_part e) in
    let same = front_same (1 + vs) front other (to_be_bytes w64 m) (to_be_bytes w64 n)
    (presence_length value vs sized a) (presence_length value vs sized b) both in
    let floors : to_be_bytes w64 m ≡ to_be_bytes w64 n = append_cancel_left other (to_be_bytes w64 m)
    (to_be_bytes w64 n) (subst (λ (t : List ℕ). t ++ to_be_bytes w64 m ≡ other ++ to_be_bytes w64 n) same both) in
    ap (λ o. commit_of o m) (presence_same value vs a b same)
    ∙ ap (commit_of (option_map value b)) (number_same m n p q floors)

metadata_same : {V X : Type 0} (value : V → List ℕ) (view : V → X) → IsPrefixFree value view
    → (a b : Option V) (m n : ℕ)
    → metadata_text (option_map value a) ++ varint_text m ≡ metadata_text (option_map value b) ++ varint_text n
    → (option_map value a ≡ option_map value b) × (varint_text m ≡ varint_text n)
metadata_same value view is None None m n e = (refl, second_part e)
metadata_same value view is None (Some b) m n e = let t : ◌≡◌ {A = ℕ} 0 1 = first_part e in absurd (omega arith)
metadata_same value view is (Some a) None m n e = let t : ◌≡◌ {A = ℕ} 1 0 = first_part e in absurd (omega arith)
metadata_same value view is (Some a) (Some b) m n e =
    let parts = two_parts value view is a b (varint_text m) (varint_text n) (second_part e) in
    (ap (λ t. Some t) parts.0, parts.1)

-- Equal variable operations have equal parts.
pub variable_parts : {K U V X : Type 0} (key : K → List ℕ) (update : U → List ℕ) (value : V → List ℕ) (view : V → X)
    → IsPrefixFree value view
    → (x y : OperationView K U V)
    → variable_operation_text (operation_map key update value x)
    ≡ variable_operation_text (operation_map key update value y) → Same key update value x y
variable_parts key update value view is (Delete a) (Delete b) e = ap (λ t. Delete t) (second_part e)
variable_parts key update value view is (Delete a) (Update b) e = let t : ◌≡◌ {A = ℕ} 209 210 = first_part e in
    absurd (omega arith)
variable_parts key update value view is (Delete a) (CommitFloor b n) e = let t : ◌≡◌ {A = ℕ} 209 211 = first_part e in
    absurd (omega arith)
variable_parts key update value view is (Update a) (Delete b) e = let t : ◌≡◌ {A = ℕ} 210 209 = first_part e in
    absurd (omega arith)
variable_parts key update value view is (Update a) (Update b) e = ap (λ t. Update t) (second_part e)
variable_parts key update value view is (Update a) (CommitFloor b n) e = let t : ◌≡◌ {A = ℕ} 210 211 = first_part e in
    absurd (omega arith)
variable_parts key update value view is (CommitFloor a m) (Delete b) e = let t : ◌≡◌ {A = ℕ} 211 209 = first_part e in
    absurd (omega arith)
variable_parts key update value view is (CommitFloor a m) (Update b) e = let t : ◌≡◌ {A = ℕ} 211 210 = first_part e in
    absurd (omega arith)
variable_parts key update value view is (CommitFloor a m) (CommitFloor b n) e =
    let same = metadata_same value view is a b m n (second_part e) in
    let none : List ℕ = [] in
    let floors = varint_one m n none none (ap (λ (t : List ℕ). t ++ none) same.1) in
    ap (λ o. commit_of o m) same.0 ∙ ap (commit_of (option_map value b)) floors.0
