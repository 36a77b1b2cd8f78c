use Rattle.std.proofs.Common.{append_assoc, refl, ◌∙◌}
use Rattle.storage_merkle.specs.Calc.{be8}
use Rattle.storage_merkle.proofs.merkle.hasher.bagged_root.Goals as goal

pub returns : goal.returns
unfolding be8
returns g c =
    let over = g.met.H.Hasher.over c.args.hasher.now in
    c.hash_parts.ensures ∙ rw (
      c.to_be_bytes-leaves.ensures,
      c.to_be_bytes-inactive.ensures,
      c.bytes_or_nothing.ensures,
      c.byte.ensures,
      c.byte-2.ensures,
      c.root_bagging.ensures,
      over,
      append_assoc,
    ) refl
