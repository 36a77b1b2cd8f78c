-- What a codec promises of its values and of the bytes that it reads.
use Rattle.std.proofs.Common.{◌≡◌, ℕ, List, ◌++◌, Ok}
use Rattle.storage_codec.specs.Parts.{IsBytes}
use Rattle.storage_codec.specs.Codec.{Answer}

-- What was written is read again, and what follows is left.
pub record IsRead {A V : Type 0} (text : A → List ℕ) (view : A → V) (parse : List ℕ → Answer V)
    (admits : A → Type 0) : Type 0 where
  pub again : (x : A) (rest : List ℕ) → admits x → parse (text x ++ rest) ≡ Ok (view x, rest)

-- What is read was written so.
pub record IsSpelled {A V : Type 0} (text : A → List ℕ) (view : A → V) (parse : List ℕ → Answer V) : Type 0 where
  pub back : (bytes : List ℕ) (x : A) (rest : List ℕ) → IsBytes bytes → parse bytes ≡ Ok (view x, rest)
      → bytes ≡ text x ++ rest
