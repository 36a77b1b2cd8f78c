-- Updates: all of one size where the parts are, and written as they are read.
use Rattle.std.proofs.Common.{◌≡◌, ℕ, ◌+◌, ◌*◌, ◌^◌, ◌≤◌, List, ◌++◌, length, refl, sym, ap, ◌∙◌, append_assoc, arith, Ok}
use Rattle.std.proofs.lemmas.List.{length-append}
use Rattle.storage_codec.specs.Faults.{◌>>=◌}
use Rattle.storage_codec.specs.Parts.{IsBytes}
use Rattle.storage_codec.specs.Codec.{Answer, mapped}
use Rattle.storage_codec.specs.Laws.Reading.{bind_ok, mapped_ok}
use Rattle.storage_ops.specs.Updates.{ordered_at, unordered_at}
use Rattle.storage_ops.specs.Reading.{IsRead, IsSpelled}
use Rattle.storage_ops.specs.Laws.Reading.{tail_bytes, along}

abbrev triple : {X Z : Type 0} → X → Z → X → X × Z × X
triple k v n = (k, v, n)

abbrev pair : {X Z : Type 0} → X → Z → X × Z
pair k v = (k, v)

pub ordered_sized : {K V : Type 0} (key : K → List ℕ) (value : V → List ℕ) (ks vs : ℕ) → ((k : K) → length (key k) ≡ ks)
    → ((v : V) → length (value v) ≡ vs)
    → (k : K) (v : V) (n : K) → length (key k ++ value v ++ key n) ≡ ks + vs + ks
ordered_sized key value ks vs kl vl k v n =
    let a = kl k in let b = vl v in let c = kl n in simp (length-append, a, b, c)

pub unordered_sized : {K V : Type 0} (key : K → List ℕ) (value : V → List ℕ) (ks vs : ℕ)
    → ((k : K) → length (key k) ≡ ks) → ((v : V) → length (value v) ≡ vs)
    → (k : K) (v : V) → length (key k ++ value v) ≡ ks + vs
unordered_sized key value ks vs kl vl k v =
    let a = kl k in let b = vl v in simp (length-append, a, b)

pub ordered_again : {K V KV VV : Type 0} (key : K → List ℕ) (value : V → List ℕ) (kview : K → KV) (vview : V → VV)
    (kparse : List ℕ → Answer KV) (vparse : List ℕ → Answer VV) (kadm : K → Type 0) (vadm : V → Type 0)
    → IsRead key kview kparse kadm → IsRead value vview vparse vadm
    → (k : K) (v : V) (n : K) (rest : List ℕ) → kadm k × vadm v × kadm n
    → ordered_at kparse vparse (key k ++ value v ++ key n ++ rest) ≡ Ok ((kview k, vview v, kview n), rest)
ordered_again key value kview vview kparse vparse kadm vadm kis vis k v n rest h =
    let whole : key k ++ value v ++ key n ++ rest ≡ key k ++ (value v ++ (key n ++ rest)) = simp append_assoc in
    let a = kis.again k (value v ++ (key n ++ rest)) h.0 in
    let b = vis.again v (key n ++ rest) h.1 in
    let c = kis.again n rest h.2 in
    rw (whole, a, b, c) refl

pub unordered_again : {K V KV VV : Type 0} (key : K → List ℕ) (value : V → List ℕ) (kview : K → KV) (vview : V → VV)
    (kparse : List ℕ → Answer KV) (vparse : List ℕ → Answer VV) (kadm : K → Type 0) (vadm : V → Type 0)
    → IsRead key kview kparse kadm → IsRead value vview vparse vadm
    → (k : K) (v : V) (rest : List ℕ) → kadm k × vadm v
    → unordered_at kparse vparse (key k ++ value v ++ rest) ≡ Ok ((kview k, vview v), rest)
unordered_again key value kview vview kparse vparse kadm vadm kis vis k v rest h =
    let a = kis.again k (value v ++ rest) h.0 in
    let b = vis.again v rest h.1 in
    rw (append_assoc (key k) (value v) rest, a, b) refl

pub three_small : (ks vs : ℕ) → ks ≤ 2 ^ 32 → vs ≤ 2 ^ 32 → ks + vs + ks ≤ 3 * 2 ^ 32
three_small ks vs a b = omega arith

pub two_small : (ks vs : ℕ) → ks ≤ 2 ^ 32 → vs ≤ 2 ^ 32 → ks + vs ≤ 3 * 2 ^ 32
two_small ks vs a b = omega arith

ordered_whole : (a b c rest : List ℕ) → a ++ b ++ c ++ rest ≡ a ++ (b ++ (c ++ rest))
ordered_whole a b c rest = simp append_assoc

pub ordered_back : {K V X Z : Type 0} (key : K → List ℕ) (value : V → List ℕ) (kview : K → X) (vview : V → Z)
    (kparse : List ℕ → Answer X) (vparse : List ℕ → Answer Z)
    → IsSpelled key kview kparse → IsSpelled value vview vparse
    → (bytes : List ℕ) (k : K) (v : V) (n : K) (rest : List ℕ) → IsBytes bytes
    → ordered_at kparse vparse bytes ≡ Ok ((kview k, vview v, kview n), rest)
    → bytes ≡ key k ++ value v ++ key n ++ rest
ordered_back {X = X} {Z = Z} key value kview vview kparse vparse kis vis bytes k v n rest fits e =
    let a = bind_ok {B = (X × Z × X) × List ℕ} (kparse bytes)
    (λ k. vparse k.1 >>= λ v. mapped (λ n. triple k.0 v.0 n) (kparse v.1)) ((kview k, vview v, kview n), rest) e in
    let b = bind_ok {B = (X × Z × X) × List ℕ} (vparse a.0.1) (λ v. mapped (λ n. triple a.0.0 v.0 n) (kparse v.1))
    ((kview k, vview v, kview n), rest) a.2 in
    let m = mapped_ok (λ n. triple a.0.0 b.0.0 n) (kparse b.0.1) (kview k, vview v, kview n) rest b.2 in
    let p = m.2 in
    let k_is : a.0.0 ≡ kview k = ap (λ (t : X × Z × X). t.0) p in
    let v_is : b.0.0 ≡ vview v = ap (λ (t : X × Z × X). t.1) p in
    let n_is : m.0 ≡ kview n = ap (λ (t : X × Z × X). t.2) p in
    let first : kparse bytes ≡ Ok (a.0.0, a.0.1) = a.1 in
    let second : vparse a.0.1 ≡ Ok (b.0.0, b.0.1) = b.1 in
    let third = m.1 in
    let x = kis.back bytes k a.0.1 fits (rw k_is at first) in
    let fits2 = tail_bytes (key k) a.0.1 (along _ _ x fits) in
    let y = vis.back a.0.1 v b.0.1 fits2 (rw v_is at second) in
    let fits3 = tail_bytes (value v) b.0.1 (along _ _ y fits2) in
    let w = kis.back b.0.1 n rest fits3 (rw n_is at third) in
    x ∙ ap (λ (t : List ℕ). key k ++ t) (y ∙ ap (λ (t : List ℕ). value v ++ t) w)
    ∙ sym (ordered_whole (key k) (value v) (key n) rest)

pub unordered_back : {K V X Z : Type 0} (key : K → List ℕ) (value : V → List ℕ) (kview : K → X) (vview : V → Z)
    (kparse : List ℕ → Answer X) (vparse : List ℕ → Answer Z)
    → IsSpelled key kview kparse → IsSpelled value vview vparse
    → (bytes : List ℕ) (k : K) (v : V) (rest : List ℕ) → IsBytes bytes
    → unordered_at kparse vparse bytes ≡ Ok ((kview k, vview v), rest) → bytes ≡ key k ++ value v ++ rest
unordered_back {X = X} {Z = Z} key value kview vview kparse vparse kis vis bytes k v rest fits e =
    let a = bind_ok {B = (X × Z) × List ℕ} (kparse bytes) (λ k. mapped (λ v. pair k.0 v) (vparse k.1))
    ((kview k, vview v), rest) e in
    let m = mapped_ok (λ v. pair a.0.0 v) (vparse a.0.1) (kview k, vview v) rest a.2 in
    let p = m.2 in
    let k_is : a.0.0 ≡ kview k = ap (λ (t : X × Z). t.0) p in
    let v_is : m.0 ≡ vview v = ap (λ (t : X × Z). t.1) p in
    let first : kparse bytes ≡ Ok (a.0.0, a.0.1) = a.1 in
    let second = m.1 in
    let x = kis.back bytes k a.0.1 fits (rw k_is at first) in
    let fits2 = tail_bytes (key k) a.0.1 (along _ _ x fits) in
    let y = vis.back a.0.1 v rest fits2 (rw v_is at second) in
    x ∙ ap (λ (t : List ℕ). key k ++ t) y ∙ sym (append_assoc (key k) (value v) rest)
