use Rattle.std.proofs.Common.{ℕ, None, eqb, if◌then◌else◌}
use Rattle.std.specs.List.{slice_get}
use Rattle.replay_snapshots.proofs.Reading.{read_more, absent_later}
use Rattle.replay_snapshots.proofs.faulty.Faulty.look_up_all.Goals as goal

pub loop-position-preserved : goal.loop-position-preserved
loop-position-preserved g c =
    let s = c.args.self.now in
    let node = λ (p : ℕ). (if eqb p s.lacks then None else slice_get s.nodes.items p) in
    record {
      served = rw c.in_ok-push.ensures.items (read_more node c.loop-position.digests.items c.in-Some-look_up.digest
          c.in-Some.position.now c.in-Some.rest.now c.loop-position.left.now c.args.positions.now
          c.in-Some.ensures.cases.0 c.in-Some-look_up.ensures c.loop-position.invariant.served);
      absent =
          absent_later node c.in-Some-look_up.digest c.in-Some.position.now c.in-Some.rest.now c.loop-position.left.now
          c.args.positions.now c.in-Some.ensures.cases.0 c.in-Some-look_up.ensures c.loop-position.invariant.absent;
    }
