use Rattle.std.proofs.Common.{ℕ, ◌*◌, ap, arith}
use Rattle.storage_db.proofs.db.nodes.pruned_bits.Goals as goal

pub overflow_mul-width : goal.overflow_mul-width
overflow_mul-width g c = omega (arith, c.pruned_chunks-chunks.ensures.size.1)

pub returns-clause-count : goal.returns-clause-count
returns-clause-count g c = omega (
  arith,
  c.min.ensures,
  c.saturating_mul.ensures,
  c.len.ensures.value,
  c.len.type_inv,
  ap (λ (p : ℕ). p * (8 * g.row.N)) c.pruned_chunks-chunks.ensures.value,
)
