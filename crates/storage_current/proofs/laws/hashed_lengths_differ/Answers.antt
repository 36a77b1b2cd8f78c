use Rattle.std.proofs.Common.{inl, inr, arith}
use Rattle.storage_merkle.specs.Mmr.{mmr}
use Rattle.storage_current.specs.Laws.Grafting.{chunk_apart}
use Rattle.storage_current.proofs.laws.hashed_lengths_differ.Goals as goal

pub returns : goal.returns
returns c d w = (
  λ n size same. chunk_apart (record { shape = mmr; bytes = n }) size d w (omega arith),
  (
    λ same. elim w [ inl e ↦ omega arith | inr e ↦ omega arith ],
    λ same. elim w [ inl e ↦ omega arith | inr e ↦ omega arith ],
  ),
)
