use Rattle.std.proofs.Common.{◌∙◌}
use Rattle.storage_file.proofs.AgreedLemmas.{if_agreed}
use Rattle.storage_file.proofs.agreed.read_agreement.Goals as goal

pub returns-clause-read : goal.returns-clause-read
returns-clause-read g c clean kept is =
    if_agreed c.the_agreement.result c.deref.result.now kept.agreed (c.deref.ensures.value ∙ c.in_ok-rows.ensures.shown clean kept is.now) c.the_agreement.ensures.gives
