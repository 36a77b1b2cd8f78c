use Rattle.std.proofs.Common.{refl, ◌∙◌, append_assoc}
use Rattle.storage_merkle.specs.Calc.{be8}
use Rattle.reference.proofs.fold.root_over.Goals as goal

pub returns : goal.returns
unfolding be8
returns g c = c.hash_four.ensures ∙ rw (
  c.to_be_bytes-leaves.ensures,
  c.to_be_bytes-inactive.ensures,
  c.bytes_or_nothing.ensures,
  c.byte.ensures,
  c.byte-2.ensures,
  append_assoc,
) refl
