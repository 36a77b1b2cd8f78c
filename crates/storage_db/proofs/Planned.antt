-- The parts of a snapshot, as a proof of one operation takes them.
use Rattle.std.proofs.Common.{◌≡◌, ℕ, ◌≤◌, List, length, Option, Some, None, sym, ◌∙◌, arith}
use Rattle.std.specs.Prelude.{MatchOption, Ok, Err}
use Rattle.std.proofs.Math.Nat.{min-eq_left}
use Rattle.storage_codec.specs.Digests.{HashFunction}
use Rattle.storage_merkle.specs.Plans.{PlanOf}
use Rattle.storage_bitmap.specs.Chunks.{IsRest, Retained}
use Rattle.storage_current.specs.BuiltProofs.{ArePartsOf}
use Rattle.storage_current.specs.Laws.Retained.{told_true}
use Rattle.storage_current.specs.NodeLists.{AreNodes, told_by}
use Rattle.storage_current.specs.Snapshots.{Grafting, Snapshot, height, ops_root_of, view_node}

-- the parts of a snapshot, and the digests of its grafted view's nodes
pub parts_of : {D : Type 0} (text : D → List ℕ) (answers : ℕ → Option D → Type 0) (h : HashFunction) (g : Grafting)
    (plan : PlanOf) (status : Retained) (floor : ℕ) (ops_root : List ℕ) (s : Snapshot) (nodes : List (Option (List ℕ)))
    (pruned : ℕ) → length s.operations ≡ plan.leaves → IsRest g.bytes status s.bits → floor ≡ s.floor
    → s.floor ≤ length s.operations → ops_root ≡ ops_root_of h g s
    → AreNodes g.shape (height g) pruned (length s.operations) (view_node h g s) (told_by nodes)
    → ((p : ℕ) (d : D) → answers p (Some d) → told_by nodes p ≡ Some (text d))
    → ArePartsOf text answers h g plan status floor ops_root s
parts_of text answers h g plan status floor ops_root s nodes pruned count rest floor_is within root_is are served =
    let fits : floor ≤ plan.leaves = omega (arith, within, floor_is, count) in
    record {
      count = count;
      bits = rest;
      floor_is = sym (min-eq_left fits ∙ floor_is);
      ops_root_is = root_is;
      nodes = λ p a k d planned node given.
          told_true g.shape (height g) pruned (length s.operations) (view_node h g s) (told_by nodes) are p a k (text d) node
          (served p d given);
    }

-- the plan of a range that has one
pub plan_is : {M : Type 0} (refused : Option M) (plan x : PlanOf) → MatchOption refused (plan ≡ x) (λ e. Ok plan ≡ Err e)
    → plan ≡ x
plan_is None plan x made = made
plan_is (Some e) plan x made = absurd (cc)
