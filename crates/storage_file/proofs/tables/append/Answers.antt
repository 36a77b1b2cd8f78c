use Rattle.std.proofs.lemmas.Result.{err_from_is_err_and}
use Rattle.storage_file.proofs.RefusalLemmas.{never_full}
use Rattle.storage_file.proofs.tables.append.Goals as goal

pub returns-in_err-append_in-clause-why : goal.returns-in_err-append_in-clause-why
returns-in_err-append_in-clause-why g c =
    let p = err_from_is_err_and c.from_residual.result c.from_residual.ensures.1 in
    rw (p.1, p.2) (λ full room. never_full _ full)
