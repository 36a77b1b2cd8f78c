use Rattle.storage_stored.proofs.opening.mark_of.Goals as goal

pub returns-clause-at : goal.returns-clause-at
returns-clause-at g c = λ d keeps. record { floor = c.floor.ensures d keeps; root = c.root.ensures d keeps }
