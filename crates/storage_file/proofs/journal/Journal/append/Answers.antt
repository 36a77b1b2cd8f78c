use Rattle.storage_file.proofs.journal.Journal.append.Goals as goal

pub returns-in_err-self-clause-crash : goal.returns-in_err-self-clause-crash
returns-in_err-self-clause-crash g c = λ clean all is db may. c.append.ensures.crash clean all is.shows is.counted db may
