use Rattle.std.proofs.Common.{◌≡◌, ◌++◌, ℕ, length, map, Some, None, eqb, if◌then◌else◌}
use Rattle.std.specs.List.{slice_get}
use Rattle.storage_merkle.specs.Plans.{IsFirstAbsent}
use Rattle.replay_snapshots.proofs.faulty.Faulty.look_up_all.Given as goal

abbrev pub invariant-loop-position : goal.invariant-loop-position
invariant-loop-position g l =
    let node = λ (p : ℕ). (if eqb p l.self.lacks then None else slice_get l.self.nodes.items p) in
    record {
      served : map Some l.digests.items ++ map node l.left ≡ map node l.positions;
      absent : (p : ℕ) → IsFirstAbsent (λ q a. a ≡ node q) l.left p → IsFirstAbsent (λ q a. a ≡ node q) l.positions p;
    }

abbrev pub decreases-loop-position : goal.decreases-loop-position
decreases-loop-position g l = length l.left
