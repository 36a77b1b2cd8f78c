-- Operations, whatever their parts are seen as.
use Rattle.std.specs.Prelude.{ℕ, Bool, true, false, Option, Some, None, IfSome, option_map}
use Rattle.storage_ops.specs.declared.qmdb.any.operation.Operation.{Operation}
use Rattle.storage_ops.specs.declared.qmdb.any.operation.Operation.TheVariants as code

-- an operation over keys, updates and values: its floor is a number
pub data OperationView (K U V : Type 0) : Type 0 where
  Delete : K → OperationView K U V
  Update : U → OperationView K U V
  CommitFloor : Option V → ℕ → OperationView K U V

-- the parts of an operation of the code
abbrev pub parts : {F S K V A B C D : Type 0} → Operation F S K V A B C D → OperationView K S V
parts (code.Delete k) = Delete k
parts (code.Update u) = Update u
parts (code.CommitFloor v n) = CommitFloor v n

-- the same operation, its parts seen by three functions
abbrev pub operation_map : {K U V X Y Z : Type 0} → (K → X) → (U → Y) → (V → Z) → OperationView K U V
    → OperationView X Y Z
operation_map key update value (Delete k) = Delete (key k)
operation_map key update value (Update u) = Update (update u)
operation_map key update value (CommitFloor v n) = CommitFloor (option_map value v) n

-- Its parts and its floor are admitted.
abbrev pub is_admitted : {K U V : Type 0} → (K → Type 0) → (U → Type 0) → (V → Type 0) → (ℕ → Type 0)
    → OperationView K U V → Type 0
is_admitted key update value floor (Delete k) = key k
is_admitted key update value floor (Update u) = update u
is_admitted key update value floor (CommitFloor v n) = IfSome v value × floor n

-- the key of a deletion or an update
abbrev pub operation_key : {K U V : Type 0} → (U → K) → OperationView K U V → Option K
operation_key key (Delete k) = Some k
operation_key key (Update u) = Some (key u)
operation_key key (CommitFloor v n) = None

-- the floor of a commit
abbrev pub operation_floor : {K U V : Type 0} → OperationView K U V → Option ℕ
operation_floor (Delete k) = None
operation_floor (Update u) = None
operation_floor (CommitFloor v n) = Some n

abbrev pub is_update : {K U V : Type 0} → OperationView K U V → Bool
is_update (Delete k) = false
is_update (Update u) = true
is_update (CommitFloor v n) = false

abbrev pub is_delete : {K U V : Type 0} → OperationView K U V → Bool
is_delete (Delete k) = true
is_delete (Update u) = false
is_delete (CommitFloor v n) = false

abbrev pub is_commit : {K U V : Type 0} → OperationView K U V → Bool
is_commit (Delete k) = false
is_commit (Update u) = false
is_commit (CommitFloor v n) = true
