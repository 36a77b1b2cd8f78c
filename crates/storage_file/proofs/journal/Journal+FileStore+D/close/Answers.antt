use Rattle.std.proofs.Common.{subst, sym}
use Rattle.sqlite.specs.Files.{file_state}
use Rattle.sqlite.proofs.Callers.{finds_again}
use Rattle.storage_file.specs.Tables.{Holds}
use Rattle.storage_file.proofs.CommitLemmas.{held}
use Rattle.storage_file.proofs.SchemaLemmas.{opened_shows}
use Rattle.storage_file.proofs.journal.Journal+FileStore+D.close.Goals as goal

pub returns-in-Ok : goal.returns-in-Ok
returns-in-Ok g c = λ all is again on.
    let same = finds_again c.args.self.conn again c.in-Ok.files c.in-Ok.ensures.copied on.found in
    let last = held all (file_state c.args.self.conn).committed is.shows.committed is.shows.sound in
    opened_shows (file_state again) all on.opened.0 on.opened.1 (subst (λ d. Holds d all) (sym same) last)
