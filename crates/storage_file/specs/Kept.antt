-- What a file keeps of a database: what was agreed when it was made, and two lists that only grow.
use Rattle.std.specs.Prelude.{ℕ, List, ◌∷◌, [], ◌++◌}

-- a commit: its location among the operations, its floor, and the canonical root
pub record Commit : Type 0 where
  pub location : ℕ
  pub floor : ℕ
  pub root : List ℕ

-- what every operation and every root of the file depends on
pub record Agreement : Type 0 where
  pub family : List ℕ
  pub digest : List ℕ
  pub chunk_size : ℕ
  pub key_encoding : List ℕ
  pub value_encoding : List ℕ

pub record Kept : Type 0 where
  pub agreed : Agreement
  pub operations : List (List ℕ)
  pub commits : List Commit

abbrev pub made_new : Agreement → Kept
made_new agreed = record { agreed = agreed; operations = []; commits = [] }

-- one more commit, and the operations that it is of
abbrev pub with_commit : Kept → List (List ℕ) → Commit → Kept
with_commit kept operations commit = record kept { operations = kept.operations ++ operations; commits = kept.commits ++ commit ∷ [] }
