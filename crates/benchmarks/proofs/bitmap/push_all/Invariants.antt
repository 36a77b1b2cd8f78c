use Rattle.std.proofs.Common.{◌≤◌, ◌+◌, ◌-◌, ◌^◌}
use Rattle.storage_bitmap.specs.Chunks.{bit_count}
use Rattle.benchmarks.proofs.bitmap.push_all.Given as goal

abbrev pub invariant-loop-left : goal.invariant-loop-left
invariant-loop-left g l = bit_count g.row.N l.bitmap.retained + l.left ≤ 2 ^ 62

abbrev pub decreases-loop-left : goal.decreases-loop-left
decreases-loop-left g l = l.left

abbrev pub invariant-loop-bit : goal.invariant-loop-bit
invariant-loop-bit g l = bit_count g.row.N l.bitmap.retained + (l.left - l.bit) ≤ 2 ^ 62
