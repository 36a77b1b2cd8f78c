-- Codecs in general: what follows from reading back what was written.
use Rattle.std.proofs.Common.{◌≡◌, ℕ, List, [], ◌∷◌, ◌++◌, length, Ok, Err, Bool, true, false, cond, eqb, refl, sym, ap, subst, ◌∙◌, arith}
use Rattle.std.proofs.lemmas.List.{append-nil}
use Rattle.storage_codec.specs.Faults.{Fault, ExtraData}
use Rattle.storage_codec.specs.Codec.{Answer, whole}
use Rattle.storage_codec.specs.Laws.Reading.{answer_of, ok_is, fst_is, snd_is}

-- One answer names one value and one rest.
pub one_answer : {V : Type 0} (answer : Answer V) (v w : V) (r s : List ℕ) → answer ≡ Ok (v, r) → answer ≡ Ok (w, s)
    → (v ≡ w) × (r ≡ s)
one_answer {V} answer v w r s e f =
    let p = ok_is {A = V × List ℕ} (v, r) (w, s) (sym e ∙ f) in (fst_is _ _ p, snd_is _ _ p)

-- Two encodings in front of the same bytes are of one value.
pub one_front : {X V : Type 0} (text : X → List ℕ) (view : X → V) (parse : List ℕ → Answer V) (x y : X) (r s : List ℕ)
    → parse (text x ++ r) ≡ Ok (view x, r) → parse (text y ++ s) ≡ Ok (view y, s) → text x ++ r ≡ text y ++ s
    → (view x ≡ view y) × (r ≡ s)
one_front {X} {V} text view parse x y r s again_x again_y e =
    one_answer (parse (text y ++ s)) (view x) (view y) r s
    (subst (λ (t : List ℕ). parse t ≡ Ok (view x, r)) e again_x) again_y

-- An encoding that begins another is of the same value.
pub front_is_whole : {X V : Type 0} (text : X → List ℕ) (view : X → V) (parse : List ℕ → Answer V) (x y : X)
    (rest : List ℕ)
    → parse (text x ++ rest) ≡ Ok (view x, rest) → parse (text y ++ []) ≡ Ok (view y, []) → text y ≡ text x ++ rest
    → (view x ≡ view y) × (rest ≡ [])
front_is_whole text view parse x y rest again_x again_y e =
    one_front text view parse x y rest [] again_x again_y (sym e ∙ sym (append-nil (text y)))

-- the bytes of the first part, where nothing follows
without_nil : (xs ys : List ℕ) → xs ++ [] ≡ ys ++ [] → xs ≡ ys
without_nil xs ys e = sym (append-nil xs) ∙ e ∙ append-nil ys

-- Values that are seen alike are written alike.
pub equal_views : {X V : Type 0} (text : X → List ℕ) (view : X → V) (parse : List ℕ → Answer V) (x y : X)
    → parse (text x ++ []) ≡ Ok (view x, []) → (parse (text x ++ []) ≡ Ok (view y, []) → text x ++ [] ≡ text y ++ [])
    → view x ≡ view y → text x ≡ text y
equal_views text view parse x y again back e =
    without_nil (text x) (text y) (back (again ∙ ap (λ v. answer_of v []) e))

passed : {A : Type 0} (b : Bool) (d : Fault) (x y : A) → cond b (Ok x) (Err d) ≡ Ok y → (b ≡ true) × (x ≡ y)
passed true d x y e = (refl, cc)
passed false d x y e = absurd cc

no_bytes : (bytes : List ℕ) → eqb (length bytes) 0 ≡ true → bytes ≡ []
no_bytes [] e = refl
no_bytes (b ∷ bytes) e = absurd (let f : eqb (length (b ∷ bytes)) 0 ≡ false = grind arith in cc)

-- Bytes that decode whole were read with nothing after the value.
pub whole_ok : {V : Type 0} (answer : Answer V) (v : V) (rest : List ℕ) → whole answer ≡ Ok (v, rest)
    → (answer ≡ Ok (v, [])) × (rest ≡ [])
whole_ok {V} (Ok x) v rest e =
    let g = passed {A = V × List ℕ} (eqb (length x.1) 0) (ExtraData (length x.1)) x (v, rest) e in
    let nothing : x.1 ≡ [] = no_bytes x.1 g.0 in
    let value : x.0 ≡ v = fst_is _ _ g.1 in
    let left : x.1 ≡ rest = snd_is _ _ g.1 in
    (rw (← value, ← nothing) refl, sym left ∙ nothing)
whole_ok (Err f) v rest e = absurd cc
