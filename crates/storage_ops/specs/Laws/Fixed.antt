-- Fixed operations: what was written is read again, and all have one size.
use Rattle.std.proofs.Common.{◌≡◌, ℕ, zero, suc, ◌+◌, ◌-◌, ◌^◌, ◌≤◌, false, cond, ltb, List, ◌++◌, length, replicate, Option, Some, None, Ok, Err, refl, ap, ◌∙◌, append_assoc, arith}
use Rattle.std.specs.Prelude.{IfSome, option_map, codes}
use Rattle.std.specs.Int.{w64, to_be_bytes}
use Rattle.std.proofs.lemmas.Bool.{le-ltb}
use Rattle.std.proofs.lemmas.List.{length-append, length-replicate}
use Rattle.storage_codec.specs.Faults.{◌>>=◌, Invalid}
use Rattle.storage_codec.specs.Codec.{Answer, mapped, byte_at, u64_at}
use Rattle.storage_codec.specs.Laws.Reading.{answer_of, u64_again}
use Rattle.storage_ops.specs.Operations.{OperationView, Delete, Update, CommitFloor, operation_map, is_admitted}
use Rattle.storage_codec.specs.Padding.{zeros_at}
use Rattle.storage_ops.specs.Fixed.{fixed_size, presence_text, fixed_operation_text, presence_at, floor_at, commit_payload_at, padded, fixed_payload_at, fixed_operation_at}
use Rattle.storage_ops.specs.OperationCases.{delete_of, update_of, commit_of}
use Rattle.storage_ops.specs.Reading.{IsRead}
use Rattle.storage_ops.specs.Laws.Reading.{mapped_again, commit_steps}

abbrev pub zero_bytes : ℕ → List ℕ
zero_bytes n = replicate n 0

zeros_again : (n : ℕ) (rest : List ℕ) → zeros_at n (zero_bytes n ++ rest) ≡ Ok (tt, rest)
unfolding zeros_at
zeros_again zero rest = refl
zeros_again (suc n) rest = zeros_again n rest

pub fixed_operation_sized : {K U V : Type 0} (key : K → List ℕ) (update : U → List ℕ) (value : V → List ℕ) (ks us vs : ℕ)
    → ((k : K) → length (key k) ≡ ks) → ((u : U) → length (update u) ≡ us) → ((v : V) → length (value v) ≡ vs)
    → (op : OperationView K U V)
    → length (fixed_operation_text ks us vs (operation_map key update value op)) ≡ fixed_size ks us vs
fixed_operation_sized key update value ks us vs kl ul vl (Delete k) =
    let a = kl k in
    simp (length-append, length-replicate, a) (omega arith)
fixed_operation_sized key update value ks us vs kl ul vl (Update u) =
    let a = ul u in
    simp (length-append, length-replicate, a) (omega arith)
fixed_operation_sized key update value ks us vs kl ul vl (CommitFloor None n) =
    simp (length-append, length-replicate) (omega arith)
fixed_operation_sized key update value ks us vs kl ul vl (CommitFloor (Some v) n) =
    let b = vl v in
    simp (length-append, length-replicate, b) (omega arith)

padded_again : {W : Type 0} (n : ℕ) (rest : List ℕ) (x : W) (answer : Answer W) → answer ≡ Ok (x, zero_bytes n ++ rest)
    → padded n answer ≡ Ok (x, rest)
padded_again n rest x answer e = let z = zeros_again n rest in rw (e, z) refl

guarded : (answer : Answer ℕ) (n : ℕ) (rest : List ℕ) → answer ≡ Ok (n, rest) → n ≤ 2 ^ 62 → (answer >>= λ x. cond (ltb (2 ^ 62) x.0) (Err (Invalid (codes "storage::qmdb::operation::commit") (codes "commit floor location overflow"))) (answer_of x.0 x.1)) ≡ Ok (n, rest)
guarded answer n rest e h = let low : ltb (2 ^ 62) n ≡ false = le-ltb _ _ h in rw (e, low) refl

floor_again : (n : ℕ) (rest : List ℕ) → n ≤ 2 ^ 62 → floor_at (to_be_bytes w64 n ++ rest) ≡ Ok (n, rest)
floor_again n rest h = guarded (u64_at (to_be_bytes w64 n ++ rest)) n rest (u64_again n rest (omega arith)) h

pub presence_again : {V W : Type 0} (text : V → List ℕ) (view : V → W) (parse : List ℕ → Answer W)
    (admits : V → Type 0) (vs : ℕ)
    → IsRead text view parse admits → (o : Option V) (rest : List ℕ) → IfSome o admits
    → presence_at parse vs (presence_text vs (option_map text o) ++ rest) ≡ Ok (option_map view o, rest)
presence_again text view parse admits vs is None rest h = let z = zeros_again vs rest in rw z refl
presence_again text view parse admits vs is (Some v) rest h = let r = is.again v rest h in rw r refl

pub assoc4 : (a b c d : List ℕ) → a ++ b ++ c ++ d ≡ a ++ (b ++ (c ++ d))
assoc4 a b c d = simp append_assoc

payload_again : {K U V KV UV VV : Type 0} (key : K → List ℕ) (update : U → List ℕ) (value : V → List ℕ) (kview : K → KV)
    (uview : U → UV) (vview : V → VV)
    (kparse : List ℕ → Answer KV) (uparse : List ℕ → Answer UV) (vparse : List ℕ → Answer VV) (kadm : K → Type 0)
    (uadm : U → Type 0) (vadm : V → Type 0) (ks us vs : ℕ)
    → IsRead key kview kparse kadm → IsRead update uview uparse uadm → IsRead value vview vparse vadm
    → (op : OperationView K U V) (rest : List ℕ) → is_admitted kadm uadm vadm (λ n. n ≤ 2 ^ 62) op
    → (byte_at (fixed_operation_text ks us vs (operation_map key update value op) ++ rest) >>= λ tag.
    fixed_payload_at kparse uparse vparse ks us vs tag.0 tag.1) ≡ Ok (operation_map kview uview vview op, rest)
payload_again {UV = UV} {VV = VV} key update value kview uview vview kparse uparse vparse kadm uadm vadm ks us vs kis
    uis vis (Delete k) rest h =
    let z = zero_bytes (fixed_size ks us vs - (1 + ks)) in
    rw (append_assoc (key k) z rest) (padded_again (fixed_size ks us vs - (1 + ks)) rest (delete_of UV VV (kview k))
    (mapped (λ x. delete_of UV VV x) (kparse (key k ++ (z ++ rest))))
    (mapped_again (λ x. delete_of UV VV x) (kparse (key k ++ (z ++ rest))) (kview k) (z ++ rest)
    (kis.again k (z ++ rest) h)))
payload_again {KV = KV} {VV = VV} key update value kview uview vview kparse uparse vparse kadm uadm vadm ks us vs kis
    uis vis (Update u) rest h =
    let z = zero_bytes (fixed_size ks us vs - (1 + us)) in
    rw (append_assoc (update u) z rest) (padded_again (fixed_size ks us vs - (1 + us)) rest (update_of KV VV (uview u))
    (mapped (λ x. update_of KV VV x) (uparse (update u ++ (z ++ rest))))
    (mapped_again (λ x. update_of KV VV x) (uparse (update u ++ (z ++ rest))) (uview u) (z ++ rest)
    (uis.again u (z ++ rest) h)))
payload_again {KV = KV} {UV = UV} key update value kview uview vview kparse uparse vparse kadm uadm vadm ks us vs kis
    uis vis (CommitFloor o n) rest h =
    let pad = fixed_size ks us vs - (10 + vs) in
    let here = presence_text vs (option_map value o) in
    let tail = to_be_bytes w64 n ++ (zero_bytes pad ++ rest) in
    ap (λ (t : List ℕ). padded pad (commit_payload_at {K = KV} {U = UV} vparse vs t))
    (assoc4 here (to_be_bytes w64 n) (zero_bytes pad) rest)
    ∙ padded_again pad rest (commit_of KV UV (option_map vview o) n)
    (commit_payload_at {K = KV} {U = UV} vparse vs (here ++ tail))
    (commit_steps KV UV (presence_at vparse vs (here ++ tail)) floor_at (option_map vview o) n tail
    (zero_bytes pad ++ rest)
    (presence_again value vview vparse vadm vs vis o tail h.0) (floor_again n (zero_bytes pad ++ rest) h.1))

pub fixed_operation_again : {K U V KV UV VV : Type 0} (key : K → List ℕ) (update : U → List ℕ) (value : V → List ℕ)
    (kview : K → KV) (uview : U → UV) (vview : V → VV)
    (kparse : List ℕ → Answer KV) (uparse : List ℕ → Answer UV) (vparse : List ℕ → Answer VV) (kadm : K → Type 0)
    (uadm : U → Type 0) (vadm : V → Type 0) (ks us vs : ℕ)
    → IsRead key kview kparse kadm → IsRead update uview uparse uadm → IsRead value vview vparse vadm
    → ((k : K) → length (key k) ≡ ks) → ((u : U) → length (update u) ≡ us) → ((v : V) → length (value v) ≡ vs)
    → (op : OperationView K U V) (rest : List ℕ) → is_admitted kadm uadm vadm (λ n. n ≤ 2 ^ 62) op
    → fixed_operation_at kparse uparse vparse ks us vs (fixed_operation_text ks us vs
    (operation_map key update value op) ++ rest) ≡ Ok (operation_map kview uview vview op, rest)
fixed_operation_again key update value kview uview vview kparse uparse vparse kadm uadm vadm ks us vs kis uis vis kl ul
    vl op rest h =
    let len = fixed_operation_sized key update value ks us vs kl ul vl op in
    let t : ltb (length (fixed_operation_text ks us vs (operation_map key update value op) ++ rest))
    (fixed_size ks us vs) ≡ false = le-ltb _ _
    (omega (arith, length-append (fixed_operation_text ks us vs (operation_map key update value op)) rest)) in
    rw t (payload_again key update value kview uview vview kparse uparse vparse kadm uadm vadm ks us vs kis uis
    vis op rest h)
