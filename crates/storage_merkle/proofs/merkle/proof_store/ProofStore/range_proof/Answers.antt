use Rattle.std.proofs.Common.{◌≡◌, None, rules, sym, ap, ◌∙◌, subst}
use Rattle.storage_merkle.specs.Shape.{Laws}
use Rattle.storage_merkle.specs.Stores.{Store, range_refusal}
use Rattle.storage_merkle.proofs.Store.Own.{stores_give_own}
use Rattle.storage_merkle.proofs.Store.Range.{proof_is}
use Rattle.storage_merkle.proofs.merkle.proof_store.ProofStore.range_proof.Goals as goal

pub returns-clause-given : goal.returns-clause-given
returns-clause-given g c = (
  search rules,
  λ T same. proof_is g.H.Hasher.hash_of g.F.Family.shape c.args.self.now c.args.range.start c.args.range.end _ _ _ _ _
      (ap (λ (v : Store). v.leaves) c.self.view_is) (ap (λ (v : Store). v.inactive) c.self.view_is) c.as_u64-2.ensures
      c.as_u64-3.ensures c.in_ok-digests.ensures T same,
)

pub returns-clause-own : goal.returns-clause-own
returns-clause-own g c = λ T content inactive same st.
    let none : range_refusal g.row.F.Denot g.F.Family.shape c.args.self.now c.args.range.start c.args.range.end ≡ None =
    search rules in
    let here : range_refusal g.row.F.Denot T.shape c.args.self.now c.args.range.start c.args.range.end ≡ None =
    subst (λ S. range_refusal g.row.F.Denot S c.args.self.now c.args.range.start c.args.range.end ≡ None)
    (sym same) none in
    proof_is g.H.Hasher.hash_of g.F.Family.shape c.args.self.now c.args.range.start c.args.range.end _ _ _ _ _
    (ap (λ (v : Store). v.leaves) c.self.view_is) (ap (λ (v : Store). v.inactive) c.self.view_is) c.as_u64-2.ensures
    c.as_u64-3.ensures c.in_ok-digests.ensures T same
    ∙ stores_give_own g.row.F.Denot g.H.Hasher.hash_of T (subst Laws (sym same) g.met.F.Family.laws) c.args.self.now
    content inactive st c.args.range.start c.args.range.end here

pub range_digests-requires : goal.range_digests-requires
range_digests-requires g c = search rules

pub returns-in_err-digests-clause-why : goal.returns-in_err-digests-clause-why
returns-in_err-digests-clause-why g c = search rules
