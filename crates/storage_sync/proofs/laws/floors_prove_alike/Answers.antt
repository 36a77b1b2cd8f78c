use Rattle.std.proofs.Common.{inl, inr}
use Rattle.storage_sync.proofs.Alike.{proofs_alike}
use Rattle.storage_sync.proofs.laws.floors_prove_alike.Goals as goal

pub returns : goal.returns
returns c = λ d h some sized g laws s t one other operations bits same.
    elim (c.roots_bind_snapshots.ensures d h some sized g laws s t one other same) [
      | inl alike ↦ inl (proofs_alike h g s t operations bits alike)
      | inr crossed ↦ inr crossed
    ]
