use Rattle.std.proofs.Common.{◌∙◌}
use Rattle.storage_current.proofs.Fetching.{counts_as, fault_told, fault_of, unread}
use Rattle.storage_current.proofs.qmdb.current.proof.planned_digests.Fetched.read.Goals as goal

pub returns : goal.returns
returns g c = record {
  positions = tt;
  rising = tt;
  digests = tt;
  why = unread (g.S.Storage.node c.args.storage.now) (g.S.Storage.may_fail c.args.storage.now) _ c.deref.result.now c.in-Err.error (c.deref.ensures.value
      ∙ (c.in_ok-extend_from_slice.ensures.items ∙ rw c.new-positions.ensures.items c.positions.ensures.value))
      c.in_default.not-Memory c.in-Err.ensures.fault c.in-Err.ensures.answers;
  failures = counts_as _ _ (fault_told c.in-Err.error)
      (fault_of c.in-Err.error) c.in-Err.ensures.failure c.in-Err.ensures.count;
  same_size = c.in-Err.ensures.same_size;
  same = c.in-Err.ensures.same;
}
