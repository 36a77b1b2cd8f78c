-- Fixed operations: what is read was written so, and equal encodings are of equal operations.
use Rattle.std.proofs.Common.{◌≡◌, ℕ, zero, suc, ◌+◌, ◌-◌, ◌^◌, ◌<◌, Bool, true, false, cond, ltb, eqb, List, [], ◌∷◌, ◌++◌, length, Option, Some, None, Ok, Err, refl, sym, ap, subst, ◌∙◌, append_assoc, arith, inl, inr}
use Rattle.std.specs.Prelude.{option_map, codes}
use Rattle.std.specs.Int.{w64, to_be_bytes}
use Rattle.storage_codec.specs.Faults.{◌>>=◌, EndOfBuffer, InvalidEnum, Invalid}
use Rattle.storage_codec.specs.Parts.{IsBytes, bool_bytes}
use Rattle.storage_codec.specs.Codec.{Answer, mapped, bool_at, u64_at}
use Rattle.storage_codec.specs.Laws.Reading.{answer_of, u64_again, u64_back, bool_back, bind_ok, mapped_ok, ok_is, snd_is, not_fault}
use Rattle.storage_codec.specs.Laws.Codec.{one_answer}
use Rattle.storage_ops.specs.Operations.{OperationView, Delete, Update, CommitFloor, operation_map, is_admitted}
use Rattle.storage_ops.specs.OperationCases.{delete_of, update_of}
use Rattle.storage_ops.specs.Laws.Operations.{delete_is, update_is, commit_is}
use Rattle.storage_codec.specs.Padding.{zeros_at}
use Rattle.storage_ops.specs.Fixed.{fixed_size, presence_text, fixed_operation_text, presence_at, floor_at, commit_payload_at, padded, fixed_payload_at, fixed_operation_at}
use Rattle.storage_ops.specs.Reading.{IsRead, IsSpelled}
use Rattle.storage_ops.specs.Laws.Reading.{read_same, first_part, second_part, tag_is, failed, no_fault, tail_bytes, along}
use Rattle.storage_codec.specs.Laws.Varint.{chosen}
use Rattle.storage_ops.specs.Laws.Fixed.{zero_bytes, assoc4, presence_again}

zeros_back : (n : ℕ) (bytes : List ℕ) (u : Unit {0}) (rest : List ℕ) → zeros_at n bytes ≡ Ok (u, rest)
    → bytes ≡ zero_bytes n ++ rest
unfolding zeros_at
zeros_back zero bytes u rest e = snd_is _ _ (ok_is (tt, bytes) (u, rest) e)
zeros_back (suc n) [] u rest e = no_fault EndOfBuffer (u, rest) _ e
zeros_back (suc n) (b ∷ bytes) u rest e =
    elim (chosen (eqb b 0) (zeros_at n bytes) (failed (Unit {0} × List ℕ) (Invalid (codes "fixed operation") (codes "nonzero padding"))) (answer_of u rest) e) [
      | inl h ↦ let z : b ≡ 0 = grind arith in rw (z, zeros_back n bytes u rest h.1) refl
      | inr h ↦ no_fault (Invalid (codes "fixed operation") (codes "nonzero padding")) (u, rest) _ h.1
    ]

padded_back : {W : Type 0} (n : ℕ) (answer : Answer W) (x : W) (rest : List ℕ) → padded n answer ≡ Ok (x, rest)
    → answer ≡ Ok (x, zero_bytes n ++ rest)
padded_back {W} n answer x rest e =
    let b = bind_ok {B = W × List ℕ} answer (λ y. mapped (λ _. y.0) (zeros_at n y.1)) (x, rest) e in
    let m = mapped_ok (λ _. b.0.0) (zeros_at n b.0.1) x rest b.2 in
    let z = zeros_back n b.0.1 m.0 rest m.1 in
    let read : answer ≡ Ok (b.0.0, b.0.1) = b.1 in
    rw (m.2, z) at read

presence_back : {V W : Type 0} (text : V → List ℕ) (view : V → W) (parse : List ℕ → Answer W) (vs : ℕ)
    → IsSpelled text view parse
    → (there : Bool) (bytes : List ℕ) (o : Option V) (rest : List ℕ) → IsBytes bytes
    → cond there (mapped Some (parse bytes)) (mapped (λ _. None) (zeros_at vs bytes)) ≡ Ok (option_map view o, rest)
    → bool_bytes there ++ bytes ≡ presence_text vs (option_map text o) ++ rest
presence_back text view parse vs is true bytes None rest fits e =
    let m = mapped_ok Some (parse bytes) None rest e in absurd (let p = m.2 in cc)
presence_back text view parse vs is true bytes (Some x) rest fits e =
    let m = mapped_ok Some (parse bytes) (Some (view x)) rest e in
    let p = m.2 in
    let value : m.0 ≡ view x = cc in
    let read = m.1 in
    ap (λ (t : List ℕ). 1 ∷ t) (is.back bytes x rest fits (rw value at read))
presence_back text view parse vs is false bytes None rest fits e =
    let m = mapped_ok (λ _. None) (zeros_at vs bytes) None rest e in
    ap (λ (t : List ℕ). 0 ∷ t) (zeros_back vs bytes m.0 rest m.1)
presence_back text view parse vs is false bytes (Some x) rest fits e =
    let m = mapped_ok (λ _. None) (zeros_at vs bytes) (Some (view x)) rest e in absurd (let p = m.2 in cc)

presence_is : {V W : Type 0} (text : V → List ℕ) (view : V → W) (parse : List ℕ → Answer W) (vs : ℕ)
    → IsSpelled text view parse
    → (bytes : List ℕ) (o : Option V) (rest : List ℕ) → IsBytes bytes → presence_at parse vs bytes
    ≡ Ok (option_map view o, rest) → bytes ≡ presence_text vs (option_map text o) ++ rest
presence_is {V} {W} text view parse vs is bytes o rest fits e =
    let b = bind_ok {B = Option W × List ℕ} (bool_at bytes) (λ there. cond there.0 (mapped Some (parse there.1))
    (mapped (λ _. None) (zeros_at vs there.1))) (option_map view o, rest) e in
    let front = bool_back bytes b.0.0 b.0.1 b.1 in
    front ∙ presence_back text view parse vs is b.0.0 b.0.1 o rest
    (tail_bytes (bool_bytes b.0.0) b.0.1 (along _ _ front fits)) b.2

unguarded : (answer : Answer ℕ) (n : ℕ) (rest : List ℕ) → (answer >>= λ x. cond (ltb (2 ^ 62) x.0) (Err (Invalid (codes "storage::qmdb::operation::commit") (codes "commit floor location overflow"))) (answer_of x.0 x.1)) ≡ Ok (n, rest) → answer ≡ Ok (n, rest)
unguarded answer n rest e =
    let b = bind_ok {B = ℕ × List ℕ} answer (λ x. cond (ltb (2 ^ 62) x.0) (Err (Invalid (codes "storage::qmdb::operation::commit") (codes "commit floor location overflow"))) (answer_of x.0 x.1)) (n, rest) e in
    b.1 ∙ not_fault (ltb (2 ^ 62) b.0.0) (Invalid (codes "storage::qmdb::operation::commit") (codes "commit floor location overflow")) (answer_of b.0.0 b.0.1) (n, rest) b.2

floor_back : (bytes : List ℕ) (n : ℕ) (rest : List ℕ) → IsBytes bytes → floor_at bytes ≡ Ok (n, rest)
    → bytes ≡ to_be_bytes w64 n ++ rest
floor_back bytes n rest fits e = u64_back bytes n rest fits (unguarded (u64_at bytes) n rest e)

payload_back : {K U V X Y Z : Type 0} (key : K → List ℕ) (update : U → List ℕ) (value : V → List ℕ) (kview : K → X)
    (uview : U → Y) (vview : V → Z)
    (kparse : List ℕ → Answer X) (uparse : List ℕ → Answer Y) (vparse : List ℕ → Answer Z) (ks us vs : ℕ)
    → IsSpelled key kview kparse → IsSpelled update uview uparse → IsSpelled value vview vparse
    → (tag : ℕ) (op : OperationView K U V) (bytes rest : List ℕ) → IsBytes bytes
    → fixed_payload_at kparse uparse vparse ks us vs tag bytes ≡ Ok (operation_map kview uview vview op, rest)
    → tag ∷ bytes ≡ fixed_operation_text ks us vs (operation_map key update value op) ++ rest
payload_back {X = X} {Y = Y} {Z = Z} key update value kview uview vview kparse uparse vparse ks us vs kis uis vis tag op
    bytes rest fits e =
    let x = operation_map kview uview vview op in
    let kpad = fixed_size ks us vs - (1 + ks) in
    let upad = fixed_size ks us vs - (1 + us) in
    let vpad = fixed_size ks us vs - (10 + vs) in
    let deletes = padded kpad (mapped (λ k. delete_of Y Z k) (kparse bytes)) in
    let updates = padded upad (mapped (λ u. update_of X Z u) (uparse bytes)) in
    let commits = padded vpad (commit_payload_at {K = X} {U = Y} vparse vs bytes) in
    let wrong = failed (OperationView X Y Z × List ℕ) (InvalidEnum tag) in
    elim (chosen (eqb tag 209) deletes (cond (eqb tag 210) updates (cond (eqb tag 211) commits wrong))
    (Ok (x, rest)) e) [
      | inl h ↦
          let d = delete_is kview uview vview (kparse bytes) op (zero_bytes kpad ++ rest)
          (padded_back kpad (mapped (λ k. delete_of Y Z k) (kparse bytes)) x rest h.1) in
          let text = kis.back bytes d.key (zero_bytes kpad ++ rest) fits d.read in
          let is = d.op_is in
          rw (tag_is tag 209 h.0, is)
          (ap (λ (t : List ℕ). 209 ∷ t) (text ∙ sym (append_assoc (key d.key) (zero_bytes kpad) rest)))
      | inr h ↦ elim (chosen (eqb tag 210) updates (cond (eqb tag 211) commits wrong) (Ok (x, rest)) h.1) [
        | inl i ↦
            let d = update_is kview uview vview (uparse bytes) op (zero_bytes upad ++ rest)
            (padded_back upad (mapped (λ u. update_of X Z u) (uparse bytes)) x rest i.1) in
            let text = uis.back bytes d.update (zero_bytes upad ++ rest) fits d.read in
            let is = d.op_is in
            rw (tag_is tag 210 i.0, is)
            (ap (λ (t : List ℕ). 210 ∷ t) (text ∙ sym (append_assoc (update d.update) (zero_bytes upad) rest)))
        | inr i ↦ elim (chosen (eqb tag 211) commits wrong (Ok (x, rest)) i.1) [
          | inl j ↦
              let d = commit_is kview uview vview (presence_at vparse vs bytes) floor_at op (zero_bytes vpad ++ rest)
              (padded_back vpad (commit_payload_at {K = X} {U = Y} vparse vs bytes) x rest j.1) in
              let here = presence_text vs (option_map value d.value) in
              let first = presence_is value vview vparse vs vis bytes d.value d.mid fits d.read in
              let second = floor_back d.mid d.floor (zero_bytes vpad ++ rest)
              (tail_bytes here d.mid (along _ _ first fits)) d.floor_read in
              let is = d.op_is in
              rw (tag_is tag 211 j.0, is) (ap (λ (t : List ℕ). 211 ∷ t) (first ∙ ap (λ (t : List ℕ). here ++ t) second
              ∙ sym (assoc4 here (to_be_bytes w64 d.floor) (zero_bytes vpad) rest)))
          | inr j ↦ no_fault (InvalidEnum tag) (x, rest) _ j.1
        ]
      ]
    ]

pub fixed_operation_back : {K U V X Y Z : Type 0} (key : K → List ℕ) (update : U → List ℕ) (value : V → List ℕ) (kview : K → X)
    (uview : U → Y) (vview : V → Z)
    (kparse : List ℕ → Answer X) (uparse : List ℕ → Answer Y) (vparse : List ℕ → Answer Z) (ks us vs : ℕ)
    → IsSpelled key kview kparse → IsSpelled update uview uparse → IsSpelled value vview vparse
    → (bytes : List ℕ) (op : OperationView K U V) (rest : List ℕ) → IsBytes bytes
    → fixed_operation_at kparse uparse vparse ks us vs bytes ≡ Ok (operation_map kview uview vview op, rest)
    → bytes ≡ fixed_operation_text ks us vs (operation_map key update value op) ++ rest
fixed_operation_back {X = X} {Y = Y} {Z = Z} key update value kview uview vview kparse uparse vparse ks us vs kis uis vis []
    op rest fits e =
    let x = operation_map kview uview vview op in
    no_fault EndOfBuffer (x, rest) _ (not_fault {A = OperationView X Y Z × List ℕ}
    (ltb 0 (fixed_size ks us vs)) EndOfBuffer (failed (OperationView X Y Z × List ℕ) EndOfBuffer) (x, rest) e)
fixed_operation_back {X = X} {Y = Y} {Z = Z} key update value kview uview vview kparse uparse vparse ks us vs kis uis vis
    (tag ∷ bytes) op rest fits e =
    payload_back key update value kview uview vview kparse uparse vparse ks us vs kis uis vis tag op bytes rest
    (tail_bytes (tag ∷ []) bytes fits)
    (not_fault {A = OperationView X Y Z × List ℕ} (ltb (length (tag ∷ bytes)) (fixed_size ks us vs)) EndOfBuffer
    (fixed_payload_at kparse uparse vparse ks us vs tag bytes) (operation_map kview uview vview op, rest) e)

-- Equal encodings are of operations that are seen as equal, also with floors that are not read.
pub fixed_one : {K U V X Y Z : Type 0} (key : K → List ℕ) (update : U → List ℕ) (value : V → List ℕ) (kview : K → X)
    (uview : U → Y) (vview : V → Z)
    (kparse : List ℕ → Answer X) (uparse : List ℕ → Answer Y) (vparse : List ℕ → Answer Z) (kadm : K → Type 0)
    (uadm : U → Type 0) (vadm : V → Type 0) (ks us vs : ℕ)
    → IsRead key kview kparse kadm → IsRead update uview uparse uadm → IsRead value vview vparse vadm
    → (x y : OperationView K U V) → is_admitted kadm uadm vadm (λ n. n < 2 ^ 64) x
    → is_admitted kadm uadm vadm (λ n. n < 2 ^ 64) y
    → fixed_operation_text ks us vs (operation_map key update value x)
    ≡ fixed_operation_text ks us vs (operation_map key update value y)
    → operation_map kview uview vview x ≡ operation_map kview uview vview y
fixed_one key update value kview uview vview kparse uparse vparse kadm uadm vadm ks us vs kis uis vis (Delete a)
    (Delete b) p q e =
    let z = zero_bytes (fixed_size ks us vs - (1 + ks)) in
    let tail : key a ++ z ≡ key b ++ z = second_part e in
    let same = read_same key kview kparse kadm kis a b z z p q tail in
    ap (λ k. Delete k) same.0
fixed_one key update value kview uview vview kparse uparse vparse kadm uadm vadm ks us vs kis uis vis (Delete a)
    (Update b) p q e = let t : ◌≡◌ {A = ℕ} 209 210 = first_part e in absurd (omega arith)
fixed_one key update value kview uview vview kparse uparse vparse kadm uadm vadm ks us vs kis uis vis (Delete a)
    (CommitFloor b n) p q e = let t : ◌≡◌ {A = ℕ} 209 211 = first_part e in absurd (omega arith)
fixed_one key update value kview uview vview kparse uparse vparse kadm uadm vadm ks us vs kis uis vis (Update a)
    (Delete b) p q e = let t : ◌≡◌ {A = ℕ} 210 209 = first_part e in absurd (omega arith)
fixed_one key update value kview uview vview kparse uparse vparse kadm uadm vadm ks us vs kis uis vis (Update a)
    (Update b) p q e =
    let z = zero_bytes (fixed_size ks us vs - (1 + us)) in
    let tail : update a ++ z ≡ update b ++ z = second_part e in
    let same = read_same update uview uparse uadm uis a b z z p q tail in
    ap (λ u. Update u) same.0
fixed_one key update value kview uview vview kparse uparse vparse kadm uadm vadm ks us vs kis uis vis (Update a)
    (CommitFloor b n) p q e = let t : ◌≡◌ {A = ℕ} 210 211 = first_part e in absurd (omega arith)
fixed_one key update value kview uview vview kparse uparse vparse kadm uadm vadm ks us vs kis uis vis (CommitFloor a m)
    (Delete b) p q e = let t : ◌≡◌ {A = ℕ} 211 209 = first_part e in absurd (omega arith)
fixed_one key update value kview uview vview kparse uparse vparse kadm uadm vadm ks us vs kis uis vis (CommitFloor a m)
    (Update b) p q e = let t : ◌≡◌ {A = ℕ} 211 210 = first_part e in absurd (omega arith)
fixed_one key update value kview uview vview kparse uparse vparse kadm uadm vadm ks us vs kis uis vis (CommitFloor a m)
    (CommitFloor b n) p q e =
    let z = zero_bytes (fixed_size ks us vs - (10 + vs)) in
    let front = presence_text vs (option_map value a) in
    let other = presence_text vs (option_map value b) in
    let tail : front ++ to_be_bytes w64 m ++ z ≡ other ++ to_be_bytes w64 n ++ z = second_part e in
    let apart : front ++ (to_be_bytes w64 m ++ z) ≡ other ++ (to_be_bytes w64 n ++ z) =
    sym (append_assoc front (to_be_bytes w64 m) z) ∙ tail ∙ append_assoc other (to_be_bytes w64 n) z in
    let first = one_answer (presence_at vparse vs (other ++ (to_be_bytes w64 n ++ z))) (option_map vview a)
    (option_map vview b) (to_be_bytes w64 m ++ z) (to_be_bytes w64 n ++ z)
    (subst (λ (t : List ℕ). presence_at vparse vs t ≡ Ok (option_map vview a, to_be_bytes w64 m ++ z)) apart
    (presence_again value vview vparse vadm vs vis a (to_be_bytes w64 m ++ z) p.0))
    (presence_again value vview vparse vadm vs vis b (to_be_bytes w64 n ++ z) q.0) in
    let second = one_answer (u64_at (to_be_bytes w64 n ++ z)) m n z z
    (subst (λ (t : List ℕ). u64_at t ≡ Ok (m, z)) first.1 (u64_again m z p.1))
    (u64_again n z q.1) in
    let a_is = first.0 in let n_is = second.0 in
    rw (a_is, n_is) refl
