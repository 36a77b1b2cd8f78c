-- The parts of a snapshot, as its own proof of an operation takes them.
use Rattle.std.proofs.Common.{◌≡◌, ℕ, ◌+◌, ◌≤◌, ◌<◌, List, length, Option, Some, None, refl, sym, ◌∙◌, arith}
use Rattle.std.specs.Prelude.{MatchOption, Result, Ok, Err, IfOk, IfSome, option_map}
use Rattle.std.proofs.Math.Nat.{min-eq_left}
use Rattle.storage_codec.specs.Digests.{HashFunction}
use Rattle.storage_merkle.specs.Plans.{PlanOf}
use Rattle.storage_bitmap.specs.Chunks.{Retained}
use Rattle.storage_current.specs.BuiltProofs.{ArePartsOf}
use Rattle.storage_current.specs.KeptSnapshots.{KeptSnapshot, StandsForSnapshot, pruned_operations}
use Rattle.storage_current.specs.Laws.Retained.{told_true}
use Rattle.storage_current.specs.NodeLists.{told_by}
use Rattle.storage_current.specs.Snapshots.{Grafting, IsSnapshot, Snapshot, height, ops_root_of, view_node}

-- the parts that one that stands for a snapshot hands out
pub parts_of : {D : Type 0} (text : D → List ℕ) (answers : ℕ → Option D → Type 0) (h : HashFunction) (g : Grafting)
    (plan : PlanOf) (kept : KeptSnapshot) (status : Retained) (floor : ℕ) (ops_root : List ℕ) (s : Snapshot) → IsSnapshot s
    → StandsForSnapshot h g kept s → plan.leaves ≡ length s.operations → status ≡ kept.status → floor ≡ s.floor
    → ops_root ≡ ops_root_of h g s
    → ((p : ℕ) (d : D) → answers p (Some d) → told_by kept.nodes p ≡ Some (text d))
    → ArePartsOf text answers h g plan status floor ops_root s
parts_of text answers h g plan kept status floor ops_root s whole stands count same floor_is root_is served =
    let within = whole.floor_within in
    let fits : floor ≤ plan.leaves = omega (arith, within, floor_is, count) in
    record {
      count = sym count;
      bits = rw same stands.status;
      floor_is = sym (min-eq_left fits ∙ floor_is);
      ops_root_is = root_is;
      nodes = λ p a k d planned node given.
          told_true g.shape (height g) (pruned_operations g kept.status) (length s.operations) (view_node h g s)
          (told_by kept.nodes) stands.nodes p a k (text d) node (served p d given);
    }

-- what follows of each answer
pub if_ok : {T E : Type 0} (P Q : T → Type 0) (r : Result T E) → ((x : T) → P x → Q x) → IfOk r P → IfOk r Q
if_ok P Q (Ok x) f h = f x h
if_ok P Q (Err e) f h = tt

pub if_some : {T : Type 0} {P Q : T → Type 0} (o : Option T) → ((x : T) → P x → Q x) → IfSome o P → IfSome o Q
if_some (Some x) f h = f x h
if_some None f h = tt

-- a plan over so many operations is that of a location, where one is named
abbrev pub IsPlanned : Option ℕ → Option PlanOf → ℕ → Type 0
IsPlanned at plan count = MatchOption at (plan ≡ None)
    (λ location. (location < count) × (plan ≡ Some (record { leaves = count; start = location; end = location + 1 })))

pub planned_leaves : (at : Option ℕ) (plan : Option PlanOf) (count : ℕ) → IsPlanned at plan count
    → IfSome plan (λ p. p.leaves ≡ count)
planned_leaves None plan count is = rw is tt
planned_leaves (Some location) plan count is = rw is.1 refl

pub planned_start : (at : Option ℕ) (plan : Option PlanOf) (count : ℕ) → IsPlanned at plan count
    → option_map (λ (p : PlanOf). p.start) plan ≡ at
planned_start None plan count is = rw is refl
planned_start (Some location) plan count is = rw is.1 refl

pub planned_within : (at : Option ℕ) (plan : Option PlanOf) (count : ℕ) → IsPlanned at plan count
    → MatchOption at (Unit {0}) (λ location. location < count)
planned_within None plan count is = tt
planned_within (Some location) plan count is = is.0
