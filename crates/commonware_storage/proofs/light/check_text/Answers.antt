use Rattle.std.proofs.Common.{rules}
use Rattle.commonware_storage.proofs.light.check_text.Goals as goal

pub returns-clause-meaning : goal.returns-clause-meaning
returns-clause-meaning g c = λ wide accepted. record {
  bytes = c.in_ok-proof.proof.items;
  spelled = c.in_ok-proof.ensures.bytes;
  operation_bytes = c.in_ok-operation.operation.items;
  operation_spelled = c.in_ok-operation.ensures.bytes;
  meaning = rw (← c.deref.ensures.value, ← c.deref-2.ensures.value) (c.in_ok-yes.ensures.meaning wide accepted);
}

pub returns-in_err-operation-clause-why : goal.returns-in_err-operation-clause-why
returns-in_err-operation-clause-why g c = search rules

pub returns-clause-refused : goal.returns-clause-refused
returns-clause-refused g c = search rules

pub returns-clause-exact : goal.returns-clause-exact
returns-clause-exact g c = search rules

pub returns-clause-whole : goal.returns-clause-whole
returns-clause-whole g c = search rules
