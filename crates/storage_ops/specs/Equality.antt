-- Equality of operations: what `==` answers, by cases.
use Rattle.std.specs.Prelude.{◌==◌, ◌&&◌, Bool, false}
use Rattle.std.specs.Option.{option_eq}
use Rattle.storage_ops.specs.Operations.{OperationView, Delete, Update, CommitFloor}

-- the same case, with equal parts
abbrev pub operation_eq : {K U V : Type 0} → (K → K → Bool) → (U → U → Bool) → (V → V → Bool) → OperationView K U V
    → OperationView K U V → Bool
operation_eq key update value (Delete a) (Delete b) = key a b
operation_eq key update value (Update a) (Update b) = update a b
operation_eq key update value (CommitFloor a m) (CommitFloor b n) = option_eq value a b && m == n
operation_eq key update value x y = false
