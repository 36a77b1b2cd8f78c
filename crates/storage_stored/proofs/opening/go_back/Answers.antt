use Rattle.storage_stored.proofs.opening.go_back.Goals as goal

pub returns : goal.returns
returns g c = λ found d keeps. c.in-Some.ensures d (rw c.replace-after.ensures.value keeps)
