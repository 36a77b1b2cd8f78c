-- A list that was written is read again, and what is read was written so.
use Rattle.std.proofs.Common.{◌≡◌, ℕ, zero, suc, ◌≤◌, ◌<◌, ◌^◌, cond, ltb, List, [], ◌∷◌, ◌++◌, length, map, Ok, Err, refl, sym, ap, subst, ◌∙◌, append_assoc}
use Rattle.std.proofs.lemmas.Bool.{le-ltb}
use Rattle.storage_codec.specs.Faults.{◌>>=◌, InvalidLength}
use Rattle.storage_codec.specs.Parts.{IsBytes, varint_text}
use Rattle.storage_codec.specs.Codec.{Answer, mapped, varint_at}
use Rattle.storage_codec.specs.Laws.Reading.{bind_ok, not_fault, mapped_ok, ok_is}
use Rattle.storage_codec.specs.Laws.Varint.{varint_again, varint_back}
use Rattle.storage_merkle.specs.ProofWire.{joined_text}
use Rattle.storage_ops.specs.Laws.Reading.{tail_bytes, along}
use Rattle.storage_sync.specs.Messages.{items_at, count_at, list_at, list_text}

module _ (text : List ℕ → List ℕ) (item : List ℕ → Answer (List ℕ)) where
  -- items that are read again, whatever follows them
  abbrev pub AreAgain : List (List ℕ) → Type 0
  AreAgain [] = Unit {0}
  AreAgain (x ∷ xs) = ((rest : List ℕ) → item (text x ++ rest) ≡ Ok (x, rest)) × AreAgain xs

  pub items_again : (xs : List (List ℕ)) (rest : List ℕ) → AreAgain xs
      → items_at item (length xs) (joined_text (map text xs) ++ rest) ≡ Ok (xs, rest)
  items_again [] rest are = refl
  items_again (x ∷ xs) rest are =
      let tail = joined_text (map text xs) in
      let e : item ((text x ++ tail) ++ rest) ≡ Ok (x, tail ++ rest) = rw append_assoc (are.0 (tail ++ rest)) in
      let step : items_at item (suc (length xs)) ((text x ++ tail) ++ rest)
      ≡ mapped (λ ys. x ∷ ys) (items_at item (length xs) (tail ++ rest)) =
      ap (λ (a : Answer (List ℕ)). a >>= λ y. mapped (λ ys. y.0 ∷ ys) (items_at item (length xs) y.1)) e in
      step ∙ ap (mapped (λ ys. x ∷ ys)) (items_again xs rest are.1)

  pub list_again : (most : ℕ) (xs : List (List ℕ)) (rest : List ℕ) → length xs < 2 ^ 64 → length xs ≤ most → AreAgain xs
      → list_at item most (list_text text xs ++ rest) ≡ Ok (xs, rest)
  list_again most xs rest small few are =
      let items = joined_text (map text xs) in
      rw (
        append_assoc (varint_text (length xs)) items rest,
        varint_again (length xs) (items ++ rest) small,
        le-ltb most (length xs) few,
      ) (items_again xs rest are)

  -- what is read of an item was written so
  abbrev pub IsBack : Type 0
  IsBack = (bytes x rest : List ℕ) → IsBytes bytes → item bytes ≡ Ok (x, rest) → bytes ≡ text x ++ rest

  pub items_back : IsBack → (n : ℕ) (bytes : List ℕ) (xs : List (List ℕ)) (rest : List ℕ) → IsBytes bytes
      → items_at item n bytes ≡ Ok (xs, rest) → (bytes ≡ joined_text (map text xs) ++ rest) × (length xs ≡ n)
  items_back back zero bytes xs rest fits e =
      let none : List (List ℕ) = [] in
      subst (λ (q : List (List ℕ) × List ℕ). (bytes ≡ joined_text (map text q.0) ++ q.1) × (length q.0 ≡ zero))
      (ok_is (none, bytes) (xs, rest) e) (refl, refl)
  items_back back (suc n) bytes xs rest fits e =
      let b = bind_ok {B = List (List ℕ) × List ℕ} (item bytes) (λ x. mapped (λ ys. x.0 ∷ ys) (items_at item n x.1))
      (xs, rest) e in
      let m = mapped_ok (λ ys. b.0.0 ∷ ys) (items_at item n b.0.1) xs rest b.2 in
      let f = back bytes b.0.0 b.0.1 fits b.1 in
      let r = items_back back n b.0.1 m.0 rest (tail_bytes (text b.0.0) b.0.1 (along _ _ f fits)) m.1 in
      let whole : bytes ≡ (text b.0.0 ++ joined_text (map text m.0)) ++ rest =
      f ∙ ap (λ (t : List ℕ). text b.0.0 ++ t) r.0
      ∙ sym (append_assoc (text b.0.0) (joined_text (map text m.0)) rest) in
      subst (λ (q : List (List ℕ)). (bytes ≡ joined_text (map text q) ++ rest) × (length q ≡ suc n)) m.2
      (whole, ap suc r.1)

  pub list_back : IsBack → (most : ℕ) (bytes : List ℕ) (xs : List (List ℕ)) (rest : List ℕ) → IsBytes bytes
      → list_at item most bytes ≡ Ok (xs, rest) → bytes ≡ list_text text xs ++ rest
  list_back back most bytes xs rest fits e =
      let a = bind_ok {B = List (List ℕ) × List ℕ} (count_at most bytes) (λ n. items_at item n.0 n.1) (xs, rest) e in
      let c = bind_ok {B = ℕ × List ℕ} (varint_at bytes) (λ n. cond (ltb most n.0) (Err (InvalidLength n.0)) (Ok n))
      (a.0.0, a.0.1) a.1 in
      let given = not_fault {A = ℕ × List ℕ} (ltb most c.0.0) (InvalidLength c.0.0) (Ok (c.0.0, c.0.1)) (a.0.0, a.0.1) c.2 in
      let pair = ok_is (c.0.0, c.0.1) (a.0.0, a.0.1) given in
      let counted : varint_at bytes ≡ Ok (a.0.0, a.0.1) = c.1 ∙ ap (λ (q : ℕ × List ℕ). Ok q) pair in
      let x = varint_back bytes a.0.0 a.0.1 fits counted in
      let r = items_back back a.0.0 a.0.1 xs rest (tail_bytes (varint_text a.0.0) a.0.1 (along _ _ x fits)) a.2 in
      x ∙ ap (λ (t : List ℕ). varint_text a.0.0 ++ t) r.0
      ∙ ap (λ (n : ℕ). varint_text n ++ (joined_text (map text xs) ++ rest)) (sym r.1)
      ∙ sym (append_assoc (varint_text (length xs)) (joined_text (map text xs)) rest)
