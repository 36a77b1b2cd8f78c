-- Operations by cases: what an answer that is seen as one case says of the parts.
use Rattle.std.proofs.Common.{◌≡◌, ℕ, Option, List, Ok}
use Rattle.std.specs.Prelude.{option_map}
use Rattle.storage_codec.specs.Codec.{Answer}
use Rattle.storage_ops.specs.Operations.{OperationView, Delete, Update, CommitFloor}

-- a deletion, an update and a commit of operations with parts of these types
abbrev pub delete_of : {K : Type 0} (U V : Type 0) → K → OperationView K U V
delete_of U V k = Delete k

abbrev pub update_of : {U : Type 0} (K V : Type 0) → U → OperationView K U V
update_of K V u = Update u

abbrev pub commit_of : {V : Type 0} (K U : Type 0) → Option V → ℕ → OperationView K U V
commit_of K U o n = CommitFloor o n

-- a deletion that an answer was seen as
pub record DeleteIs {K U V X : Type 0} (kview : K → X) (answer : Answer X) (op : OperationView K U V)
    (rest : List ℕ) : Type 0 where
  pub key : K
  pub op_is : op ≡ Delete key
  pub read : answer ≡ Ok (kview key, rest)

-- an update that an answer was seen as
pub record UpdateIs {K U V Y : Type 0} (uview : U → Y) (answer : Answer Y) (op : OperationView K U V)
    (rest : List ℕ) : Type 0 where
  pub update : U
  pub op_is : op ≡ Update update
  pub read : answer ≡ Ok (uview update, rest)

-- a commit that two answers were seen as
pub record CommitIs {K U V Z : Type 0} (vview : V → Z) (first : Answer (Option Z)) (next : List ℕ → Answer ℕ)
    (op : OperationView K U V) (rest : List ℕ) : Type 0 where
  pub value : Option V
  pub floor : ℕ
  pub mid : List ℕ
  pub op_is : op ≡ CommitFloor value floor
  pub read : first ≡ Ok (option_map vview value, mid)
  pub floor_read : next mid ≡ Ok (floor, rest)
