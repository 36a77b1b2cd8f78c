-- A range proof that was written is read again, and what is read was written so.
use Rattle.std.proofs.Common.{◌≡◌, ℕ, zero, suc, ◌+◌, ◌*◌, false, cond, ltb, List, [], ◌∷◌, ◌++◌, length, map, Ok, Err, refl, sym, ap, subst, ◌∙◌, append_assoc, arith, length-append}
use Rattle.std.proofs.lemmas.Bool.{le-ltb}
use Rattle.storage_codec.specs.Faults.{◌>>=◌, InvalidLength}
use Rattle.storage_codec.specs.Parts.{IsBytes, varint_text}
use Rattle.storage_codec.specs.Codec.{Answer, mapped, front_at, varint_at}
use Rattle.storage_codec.specs.Laws.Reading.{bind_ok, not_fault, mapped_ok, ok_is, front_again, front_back}
use Rattle.storage_codec.specs.Laws.Varint.{varint_again, varint_back}
use Rattle.storage_merkle.specs.Wire.{location_at}
use Rattle.storage_merkle.specs.Laws.Wire.{location_again, location_back}
use Rattle.storage_merkle.specs.RangeProofs.{Proof, AreDigests}
use Rattle.storage_merkle.specs.ProofWire.{joined_text, digests_at, proof_text, proof_at, IsAdmitted}

pub all_digests : {A : Type 0} (text : A → List ℕ) (d : ℕ) → ((x : A) → length (text x) ≡ d) → (xs : List A)
    → AreDigests d (map text xs)
all_digests text d sized [] = tt
all_digests text d sized (x ∷ xs) = (sized x, all_digests text d sized xs)

pub joined_length : (d : ℕ) (ds : List (List ℕ)) → AreDigests d ds → length (joined_text ds) ≡ length ds * d
joined_length d [] are = omega arith
joined_length d (x ∷ xs) are =
    let r = joined_length d xs are.1 in
    let e : length (x ++ joined_text xs) ≡ length x + length (joined_text xs) = length-append x (joined_text xs) in
    omega (arith, are.0)

pub digests_again : (d : ℕ) (ds : List (List ℕ)) (rest : List ℕ) → AreDigests d ds
    → digests_at d (length ds) (joined_text ds ++ rest) ≡ Ok (ds, rest)
digests_again d [] rest are = refl
digests_again d (x ∷ xs) rest are =
    let e : front_at d ((x ++ joined_text xs) ++ rest) ≡ Ok (x, joined_text xs ++ rest) =
    rw append_assoc (front_again d x (joined_text xs ++ rest) are.0) in
    let step : digests_at d (suc (length xs)) ((x ++ joined_text xs) ++ rest)
    ≡ mapped (λ ys. x ∷ ys) (digests_at d (length xs) (joined_text xs ++ rest)) =
    ap (λ (a : Answer (List ℕ)). a >>= λ y. mapped (λ ys. y.0 ∷ ys) (digests_at d (length xs) y.1)) e in
    step ∙ ap (mapped (λ ys. x ∷ ys)) (digests_again d xs rest are.1)

pub proof_again : (d most : ℕ) (p : Proof) (rest : List ℕ) → AreDigests d p.digests → IsAdmitted most p
    → proof_at d most (proof_text p ++ rest) ≡ Ok (p, rest)
proof_again d most p rest are ok =
    let few : ltb most (length p.digests) ≡ false = le-ltb _ _ ok.few in
    let digests = joined_text p.digests in
    let parts : proof_text p ++ rest ≡ varint_text p.leaves
    ++ (varint_text p.inactive ++ (varint_text (length p.digests) ++ (digests ++ rest))) = simp append_assoc in
    rw (
      parts,
      location_again p.leaves (varint_text p.inactive ++ (varint_text (length p.digests) ++ (digests ++ rest)))
          ok.leaves,
      varint_again p.inactive (varint_text (length p.digests) ++ (digests ++ rest)) ok.inactive,
      varint_again (length p.digests) (digests ++ rest) ok.count,
      few,
      digests_again d p.digests rest are,
    ) refl

pub proof_length : (d n : ℕ) (p : Proof) → AreDigests d p.digests → n ≡ length p.digests
    → length (varint_text p.leaves) + (length (varint_text p.inactive) + (length (varint_text n) + n * d))
    ≡ length (proof_text p)
proof_length d n p are e =
    let digests = joined_text p.digests in
    let j = joined_length d p.digests are in
    let c = length-append (varint_text (length p.digests)) digests in
    let i = length-append (varint_text p.inactive) (varint_text (length p.digests) ++ digests) in
    let l =
    length-append (varint_text p.leaves) (varint_text p.inactive ++ (varint_text (length p.digests) ++ digests)) in
    rw e (omega (arith, j, c, i, l))

-- ---- what is read was written so

-- what follows a part of some bytes are bytes
bytes_after : (first rest bytes : List ℕ) → bytes ≡ first ++ rest → IsBytes bytes → IsBytes rest
bytes_after [] rest bytes e h = subst IsBytes e h
bytes_after (x ∷ first) rest bytes e h = bytes_after first rest (first ++ rest) refl (λ i. subst IsBytes e h (suc i))

pub digests_back : (d n : ℕ) (bytes : List ℕ) (ds : List (List ℕ)) (rest : List ℕ)
    → digests_at d n bytes ≡ Ok (ds, rest) → (bytes ≡ joined_text ds ++ rest) × (length ds ≡ n)
digests_back d zero bytes ds rest e =
    let none : List (List ℕ) = [] in
    subst (λ (q : List (List ℕ) × List ℕ). (bytes ≡ joined_text q.0 ++ q.1) × (length q.0 ≡ zero))
    (ok_is (none, bytes) (ds, rest) e) (refl, refl)
digests_back d (suc n) bytes ds rest e =
    let b = bind_ok {B = List (List ℕ) × List ℕ} (front_at d bytes) (λ x. mapped (λ ys. x.0 ∷ ys) (digests_at d n x.1))
    (ds, rest) e in
    let m = mapped_ok (λ ys. b.0.0 ∷ ys) (digests_at d n b.0.1) ds rest b.2 in
    let r = digests_back d n b.0.1 m.0 rest m.1 in
    let f = front_back d bytes b.0.0 b.0.1 b.1 in
    let whole : bytes ≡ (b.0.0 ++ joined_text m.0) ++ rest =
    f ∙ ap (λ (t : List ℕ). b.0.0 ++ t) r.0 ∙ sym (append_assoc b.0.0 (joined_text m.0) rest) in
    subst (λ (q : List (List ℕ)). (bytes ≡ joined_text q ++ rest) × (length q ≡ suc n)) m.2 (whole, ap suc r.1)

abbrev proof_with : ℕ → ℕ → List (List ℕ) → Proof
proof_with n i ds = record { leaves = n; inactive = i; digests = ds }

pub proof_back : (d most : ℕ) (bytes : List ℕ) (p : Proof) (rest : List ℕ) → IsBytes bytes
    → proof_at d most bytes ≡ Ok (p, rest) → bytes ≡ proof_text p ++ rest
proof_back d most bytes p rest fits e =
    let a = bind_ok {B = Proof × List ℕ} (location_at bytes) (λ n. varint_at n.1 >>= λ i. varint_at i.1 >>= λ c.
    cond (ltb most c.0) (Err (InvalidLength c.0)) (mapped (proof_with n.0 i.0) (digests_at d c.0 c.1))) (p, rest) e in
    let b = bind_ok {B = Proof × List ℕ} (varint_at a.0.1) (λ i. varint_at i.1 >>= λ c. cond (ltb most c.0)
    (Err (InvalidLength c.0)) (mapped (proof_with a.0.0 i.0) (digests_at d c.0 c.1))) (p, rest) a.2 in
    let c = bind_ok {B = Proof × List ℕ} (varint_at b.0.1) (λ c. cond (ltb most c.0) (Err (InvalidLength c.0))
    (mapped (proof_with a.0.0 b.0.0) (digests_at d c.0 c.1))) (p, rest) b.2 in
    let g = not_fault (ltb most c.0.0) (InvalidLength c.0.0) (mapped (proof_with a.0.0 b.0.0) (digests_at d c.0.0 c.0.1))
    (p, rest) c.2 in
    let m = mapped_ok (proof_with a.0.0 b.0.0) (digests_at d c.0.0 c.0.1) p rest g in
    let r = digests_back d c.0.0 c.0.1 m.0 rest m.1 in
    let x = location_back bytes a.0.0 a.0.1 fits a.1 in
    let fits2 = bytes_after (varint_text a.0.0) a.0.1 bytes x fits in
    let y = varint_back a.0.1 b.0.0 b.0.1 fits2 b.1 in
    let fits3 = bytes_after (varint_text b.0.0) b.0.1 a.0.1 y fits2 in
    let z = varint_back b.0.1 c.0.0 c.0.1 fits3 c.1 in
    let z2 : b.0.1 ≡ varint_text (length m.0) ++ (joined_text m.0 ++ rest) =
    z ∙ ap (λ (t : List ℕ). varint_text c.0.0 ++ t) r.0
    ∙ ap (λ (n : ℕ). varint_text n ++ (joined_text m.0 ++ rest)) (sym r.1) in
    let y2 = y ∙ ap (λ (t : List ℕ). varint_text b.0.0 ++ t) z2 in
    let x2 = x ∙ ap (λ (t : List ℕ). varint_text a.0.0 ++ t) y2 in
    let parts : proof_text (proof_with a.0.0 b.0.0 m.0) ++ rest ≡ varint_text a.0.0
    ++ (varint_text b.0.0 ++ (varint_text (length m.0) ++ (joined_text m.0 ++ rest))) = simp append_assoc in
    subst (λ (q : Proof). bytes ≡ proof_text q ++ rest) m.2 (x2 ∙ sym parts)
