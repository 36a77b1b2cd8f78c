-- Writing and reading digests one after another.
use Rattle.std.proofs.Common.{◌≡◌, ℕ, suc, ◌+◌, ◌-◌, ◌<◌, ◌≤◌, List, [], ◌∷◌, ◌++◌, Result, Ok, Err, refl, sym, ap, ◌∙◌, append_assoc, append-nil, arith}
use Rattle.std.specs.Result.{OnErr}
use Rattle.storage_codec.specs.declared.codec.error.Error.{Error}
use Rattle.storage_codec.specs.declared.codec.error.Error.TheVariants as code
use Rattle.storage_codec.specs.Faults.{Fault, ◌>>=◌, EndOfBuffer, InvalidBool, InvalidEnum, InvalidVarint, InvalidLength, Invalid, ExtraData}
use Rattle.storage_codec.specs.Parts.{AppendsStart}
use Rattle.storage_codec.specs.Codec.{Answer, mapped, front_at, MayFail}
use Rattle.storage_merkle.specs.ProofWire.{digests_at}

-- out is old and what was written of all, of which left is to come
pub record Writing (old out all left : List ℕ) : Type 0 where
  pub done : List ℕ
  pub out_is : out ≡ old ++ done
  pub all_is : all ≡ done ++ left

pub writing_start : (old all : List ℕ) → Writing old old all all
writing_start old all = record { done = []; out_is = sym (append-nil old); all_is = refl }

pub writing_next : (old out new all left x rest : List ℕ) → Writing old out all left → left ≡ x ++ rest → new ≡ out ++ x
    → Writing old new all rest
writing_next old out new all left x rest w e f = record {
  done = w.done ++ x;
  out_is = f ∙ ap (λ o. o ++ x) w.out_is ∙ append_assoc old w.done x;
  all_is = w.all_is ∙ ap (λ l. w.done ++ l) e ∙ sym (append_assoc w.done x rest);
}

pub writing_end : (old out all left : List ℕ) → Writing old out all left → left ≡ [] → out ≡ old ++ all
writing_end old out all left w e =
    w.out_is ∙ ap (λ d. old ++ d) (sym (w.all_is ∙ ap (λ l. w.done ++ l) e ∙ append-nil w.done))

pub writing_stops : (old out new all left x rest : List ℕ) → Writing old out all left → left ≡ x ++ rest
    → AppendsStart out new x → AppendsStart old new all
writing_stops old out new all left x rest w e a = record {
  done = w.done ++ a.done;
  left = a.left ++ rest;
  text_is = w.all_is ∙ ap (λ l. w.done ++ l) (e ∙ ap (λ t. t ++ rest) a.text_is)
      ∙ ap (λ l. w.done ++ l) (append_assoc a.done a.left rest) ∙ sym (append_assoc w.done a.done (a.left ++ rest));
  new_is = a.new_is ∙ ap (λ o. o ++ a.done) w.out_is ∙ append_assoc old w.done a.done;
}

-- digests read so far in front of those to come
abbrev pub after : List (List ℕ) → Answer (List (List ℕ)) → Answer (List (List ℕ))
after xs answer = mapped (λ ys. xs ++ ys) answer

pub after_none : (a : Answer (List (List ℕ))) → a ≡ after [] a
after_none (Ok x) = refl
after_none (Err e) = refl

pub after_one : (xs : List (List ℕ)) (x : List ℕ) (a : Answer (List (List ℕ)))
    → after xs (mapped (λ ys. x ∷ ys) a) ≡ after (xs ++ x ∷ []) a
after_one xs x (Ok y) = ap (λ (l : List (List ℕ)). Ok (l, y.1)) (sym (append_assoc xs (x ∷ []) y.0))
after_one xs x (Err e) = refl

digests_step : (d n : ℕ) (bytes rest x : List ℕ) → front_at d bytes ≡ Ok (x, rest)
    → digests_at d (suc n) bytes ≡ mapped (λ ys. x ∷ ys) (digests_at d n rest)
digests_step d n bytes rest x e =
    ap (λ (a : Answer (List ℕ)). a >>= λ y. mapped (λ ys. y.0 ∷ ys) (digests_at d n y.1)) e

pub reading_next : (d n i : ℕ) (total : Answer (List (List ℕ))) (xs new : List (List ℕ)) (x bytes rest : List ℕ) → i < n
    → total ≡ after xs (digests_at d (n - i) bytes) → front_at d bytes ≡ Ok (x, rest) → new ≡ xs ++ x ∷ []
    → total ≡ after new (digests_at d (n - (i + 1)) rest)
reading_next d n i total xs new x bytes rest lt t e f =
    let m : n - i ≡ suc (n - (i + 1)) = omega arith in
    t ∙ ap (λ k. after xs (digests_at d k bytes)) m ∙ ap (after xs) (digests_step d (n - (i + 1)) bytes rest x e)
    ∙ after_one xs x (digests_at d (n - (i + 1)) rest) ∙ ap (λ l. after l (digests_at d (n - (i + 1)) rest)) (sym f)

pub fault_on : {X Y : Type 0} (e : Error) (a : Result X Fault) (b : Result Y Fault)
    → ((f : Fault) → a ≡ Err f → b ≡ Err f) → MayFail e a → MayFail e b
fault_on code.EndOfBuffer a b h m = h EndOfBuffer m
fault_on code.InvalidBool a b h m = h InvalidBool m
fault_on (code.InvalidEnum tag) a b h m = h (InvalidEnum tag) m
fault_on code.InvalidVarint a b h m = h InvalidVarint m
fault_on (code.InvalidLength n) a b h m = h (InvalidLength n) m
fault_on (code.Invalid where_ what) a b h m = h (Invalid where_.now what.now) m
fault_on (code.ExtraData n) a b h m = h (ExtraData n) m
fault_on code.Memory a b h m = tt

pub reading_stops : (e : Error) (d n i : ℕ) (total : Answer (List (List ℕ))) (xs : List (List ℕ)) (bytes : List ℕ)
    → i < n → total ≡ after xs (digests_at d (n - i) bytes) → MayFail e (front_at d bytes) → MayFail e total
reading_stops e d n i total xs bytes lt t m =
    let k : n - i ≡ suc (n - (i + 1)) = omega arith in
    fault_on e (front_at d bytes) total
    (λ f g. t ∙ ap (λ j. after xs (digests_at d j bytes)) k ∙ ap
    (λ (a : Answer (List ℕ)). after xs (a >>= λ y. mapped (λ ys. y.0 ∷ ys) (digests_at d (n - (i + 1)) y.1))) g)
    m

pub reading_end : (d n i : ℕ) (total : Answer (List (List ℕ))) (xs : List (List ℕ)) (bytes : List ℕ) → n ≤ i
    → total ≡ after xs (digests_at d (n - i) bytes) → total ≡ Ok (xs, bytes)
reading_end d n i total xs bytes le t =
    let k : n - i ≡ 0 = omega arith in
    t ∙ ap (λ j. after xs (digests_at d j bytes)) k ∙ ap (λ (l : List (List ℕ)). Ok (l, bytes)) (append-nil xs)

pub on_err : {A E : Type 0} (r : Result A E) (P : Type 0) → P → OnErr r P
on_err (Ok x) P p = tt
on_err (Err e) P p = p

pub on_err_to : {A E : Type 0} (r : Result A E) (P Q : Type 0) → (P → Q) → OnErr r P → OnErr r Q
on_err_to (Ok x) P Q f p = tt
on_err_to (Err e) P Q f p = f p
