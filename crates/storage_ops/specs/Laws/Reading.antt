-- Reading step by step: answers, tags and faults.
use Rattle.std.proofs.Common.{◌≡◌, ℕ, suc, true, eqb, List, [], ◌∷◌, ◌++◌, Option, Result, Ok, Err, refl, subst, arith}
use Rattle.storage_codec.specs.Faults.{Fault, ◌>>=◌}
use Rattle.storage_codec.specs.Parts.{IsBytes}
use Rattle.storage_codec.specs.Codec.{Answer, mapped}
use Rattle.storage_codec.specs.Laws.Codec.{one_front}
use Rattle.storage_ops.specs.OperationCases.{commit_of}
use Rattle.storage_ops.specs.Reading.{IsRead}

-- Two encodings in front of the same bytes are of one value.
pub read_same : {A V : Type 0} (text : A → List ℕ) (view : A → V) (parse : List ℕ → Answer V) (admits : A → Type 0)
    → IsRead text view parse admits
    → (a b : A) (r s : List ℕ) → admits a → admits b → text a ++ r ≡ text b ++ s → (view a ≡ view b) × (r ≡ s)
read_same text view parse admits is a b r s p q e = one_front text view parse a b r s (is.again a r p)
    (is.again b s q) e

pub mapped_again : {V W : Type 0} (f : V → W) (answer : Answer V) (x : V) (rest : List ℕ) → answer ≡ Ok (x, rest)
    → mapped f answer ≡ Ok (f x, rest)
mapped_again f answer x rest e = rw e refl

pub commit_steps : {V : Type 0} (K U : Type 0) (first : Answer (Option V)) (next : List ℕ → Answer ℕ) (o : Option V)
    (n : ℕ) (mid rest : List ℕ) → first ≡ Ok (o, mid) → next mid ≡ Ok (n, rest)
    → (first >>= λ v. mapped (λ k. commit_of K U v.0 k) (next v.1)) ≡ Ok (commit_of K U o n, rest)
commit_steps K U first next o n mid rest p q = rw (p, q) refl

pub tag_is : (tag n : ℕ) → eqb tag n ≡ true → tag ≡ n
tag_is tag n h = grind arith

abbrev pub failed : (A : Type 0) → Fault → Result A Fault
failed A d = Err d

pub no_fault : {A : Type 0} (d : Fault) (x : A) (P : Type 0) → failed A d ≡ Ok x → P
no_fault d x P e = absurd cc

pub tail_bytes : (a b : List ℕ) → IsBytes (a ++ b) → IsBytes b
tail_bytes [] b h = h
tail_bytes (x ∷ a) b h = tail_bytes a b (λ i. h (suc i))

pub along : (a b : List ℕ) → a ≡ b → IsBytes a → IsBytes b
along a b e h = subst IsBytes e h

pub first_part : {x y : ℕ} {a b : List ℕ} → x ∷ a ≡ y ∷ b → x ≡ y
first_part e = cc

pub second_part : {x y : ℕ} {a b : List ℕ} → x ∷ a ≡ y ∷ b → a ≡ b
second_part e = cc
