use Rattle.std.proofs.Common.{arith}
use Rattle.sqlite.specs.State.{HasCleanDisk}
use Rattle.sqlite.specs.Files.{file_state}
use Rattle.storage_file.proofs.RestartLemmas.{restarted}
use Rattle.storage_file.proofs.file.append_and_stop.Goals as goal

pub returns : goal.returns
returns g c clean all is counted left may again on =
    let stopped = c.into_store.ensures in
    let early : HasCleanDisk (file_state c.append.new.conn) = omega (arith, clean, stopped.quiet.clean) in
    restarted c.into_store.result all _ (stopped.numbered clean) (stopped.sound clean) (λ db found. c.append.ensures.crash early all is counted db (stopped.quiet.outcomes db found)) left may again on
