use Rattle.std.proofs.Common.{ℕ, ap, ◌∙◌}
use Rattle.std.proofs.lemmas.List.Sorted.{IsNonDecreasingBy-from_sort}
use Rattle.storage_merkle.specs.Stores.{Store}
use Rattle.storage_merkle.proofs.Store.Steps.{suffix_sorted, suffix_forward, suffix_backward}
use Rattle.storage_merkle.proofs.merkle.proof_store.ProofStore.suffix_peak_positions.Goals as goal
use Rattle.storage_merkle.proofs.merkle.proof_store.ProofStore.suffix_peak_positions.Goals.{in-ForwardFold, in-BackwardFold+in_ok-add_past-in-BackwardFold}

pub returns : goal.returns
returns g c =
    let S = g.F.Family.shape in
    let bagging = ap (λ (v : Store). v.bagging) c.self.view_is in
    let leaves = ap (λ (v : Store). v.leaves) c.self.view_is in
    let past = ap (λ (v : Store). v.past) c.self.view_is in
    let inactive = ap (λ (v : Store). v.inactive) c.self.view_is in
    suffix_sorted S c.args.self.now c.match-self.positions.items c.sort_unstable.new.self.items
    (elim c.match-self.branch [
      | in-ForwardFold w ↦ suffix_forward S c.args.self.now c.self.inside.bagging c.match-self.positions.items bagging
          w.in-ForwardFold.is (rw w.positions-is c.new-positions.ensures.items)
      | in-BackwardFold+in_ok-add_past-in-BackwardFold w ↦ suffix_backward S c.args.self.now c.self.inside.bagging
          w.as_u64.result c.self.inside.inactive_peaks w.as_u64-in-BackwardFold.result c.new-positions.result.items
          w.add_past.new.positions.items c.match-self.positions.items bagging w.in-BackwardFold.is
          (w.as_u64.ensures ∙ past) inactive (w.as_u64-in-BackwardFold.ensures ∙ leaves) c.new-positions.ensures.items
          w.in_ok-add_past-in-BackwardFold.ensures (ap (λ v. v.items) w.positions-is)
    ])
    c.sort_unstable.ensures.permutation
    (IsNonDecreasingBy-from_sort (λ (x : ℕ). x) c.sort_unstable.new.self.items c.sort_unstable.ensures.sorted)
