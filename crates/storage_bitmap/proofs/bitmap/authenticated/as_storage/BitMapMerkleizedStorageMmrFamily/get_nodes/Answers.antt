use Rattle.std.proofs.Common.{inl, inr, ⊎_elim}
use Rattle.std.proofs.lemmas.Result.{MatchResult-from_both, IfErr-weaker}
use Rattle.storage_bitmap.proofs.bitmap.authenticated.as_storage.BitMapMerkleizedStorageMmrFamily.get_nodes.Goals as goal

pub returns-clause-answers : goal.returns-clause-answers
returns-clause-answers g c =
    rw (← c.self.view_is) (MatchResult-from_both c.get_nodes.result _ _ c.get_nodes.ensures.answers
    (IfErr-weaker c.get_nodes.result _ _ (λ e w. ⊎_elim (λ a. inl a) (λ m. inr (inr m)) w) c.get_nodes.ensures.why))

pub returns-clause-fault : goal.returns-clause-fault
returns-clause-fault g c code same = elim (rw same at c.get_nodes.ensures.why) [
  | inl x ↦ absurd (let other = x.1 in cc)
  | inr m ↦ absurd (cc)
]
