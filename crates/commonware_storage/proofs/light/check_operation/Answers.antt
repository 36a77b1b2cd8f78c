use Rattle.std.proofs.Common.{rules}
use Rattle.std.proofs.Math.Facts.{Fits-lt-pow}
use Rattle.storage_codec.specs.Parts.{IsBytes}
use Rattle.commonware_storage.proofs.light.check_operation.Goals as goal

pub returns-clause-meaning : goal.returns-clause-meaning
returns-clause-meaning g c =
    let fits : IsBytes c.args.proof.now = λ i. Fits-lt-pow (c.type_inv.proof i) in
    c.operation_from.ensures.meaning fits

pub returns-clause-exact : goal.returns-clause-exact
returns-clause-exact g c = search rules

pub returns-clause-whole : goal.returns-clause-whole
returns-clause-whole g c = search rules
