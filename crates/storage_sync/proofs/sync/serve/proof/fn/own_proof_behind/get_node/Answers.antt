use Rattle.storage_sync.proofs.sync.serve.proof.fn.own_proof_behind.get_node.Goals as goal

pub returns : goal.returns
returns g c = λ s served below a k node left. c.get_node.ensures.there s served.snapshot served.stands below a k node left
