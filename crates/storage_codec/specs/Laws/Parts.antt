-- Endings and beginnings that follow one another.
use Rattle.std.proofs.Common.{◌≡◌, ℕ, List, [], ◌∷◌, ◌++◌, take, drop, refl, sym, ap, ◌∙◌, append_assoc}
use Rattle.std.proofs.lemmas.List.{append-nil, take-append-drop}
use Rattle.storage_codec.specs.Parts.{IsEnding, AppendsStart}

pub ends_same : (a : List ℕ) → IsEnding a a
ends_same a = record { front = []; parts = refl }

pub ends_drop : (n : ℕ) (a : List ℕ) → IsEnding a (drop n a)
ends_drop n a = record { front = take n a; parts = sym (take-append-drop n a) }

pub ends_then : {a b c : List ℕ} → IsEnding a b → IsEnding b c → IsEnding a c
ends_then {a} {b} {c} p q = record {
  front = p.front ++ q.front;
  parts = p.parts
      ∙ ap (λ (t : List ℕ). p.front ++ t) q.parts ∙ sym (append_assoc p.front q.front c);
}

-- a beginning of the second part, after the whole first one
pub starts_then : {old mid new : List ℕ} (first second : List ℕ) → mid ≡ old ++ first → AppendsStart mid new second
    → AppendsStart old new (first ++ second)
starts_then {old} {mid} {new} first second e s = record {
  done = first ++ s.done;
  left = s.left;
  text_is = ap (λ (t : List ℕ). first ++ t) s.text_is ∙ sym (append_assoc first s.done s.left);
  new_is = s.new_is ∙ ap (λ (t : List ℕ). t ++ s.done) e ∙ append_assoc old first s.done;
}

-- a beginning of the first part
pub starts_first : {old new first : List ℕ} (second : List ℕ) → AppendsStart old new first
    → AppendsStart old new (first ++ second)
starts_first {old} {new} {first} second s = record {
  done = s.done;
  left = s.left ++ second;
  text_is = ap (λ (t : List ℕ). t ++ second) s.text_is ∙ append_assoc s.done s.left second;
  new_is = s.new_is;
}

-- Nothing appended is a beginning of any text.
pub starts_none : {old new : List ℕ} (text : List ℕ) → new ≡ old → AppendsStart old new text
starts_none {old} text e = record { done = []; left = text; text_is = refl; new_is = e ∙ sym (append-nil old) }

-- a beginning of what follows the first byte
pub starts_cons : {old mid new : List ℕ} (x : ℕ) (text : List ℕ) → mid ≡ old ++ x ∷ [] → AppendsStart mid new text
    → AppendsStart old new (x ∷ text)
starts_cons x text e s = starts_then (x ∷ []) text e s
