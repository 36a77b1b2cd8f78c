use Rattle.std.proofs.Common.{◌≡◌, ℕ, ◌≤◌, List, length, map}
use Rattle.std.specs.Global.{Vec}
use Rattle.storage_db.specs.Kept.{forgetting}
use Rattle.storage_db.proofs.db.log.forget_each.Given as goal

abbrev pub invariant-loop-location : goal.invariant-loop-location
invariant-loop-location l = record {
  within : l.before ≤ l.after → l.location ≤ l.after;
  count : length l.operations.items ≡ length l.initial.operations.items;
  texts : (all : List (List ℕ)) → map (λ (v : Vec ℕ). v.items) l.initial.operations.items ≡ forgetting l.before all
      → l.before ≤ l.after → l.after ≤ length all → map (λ (v : Vec ℕ). v.items) l.operations.items ≡ forgetting l.location all;
}
