-- How an error of sqlite is told: want of memory is named alike, whoever wants it.
use Rattle.std.specs.Prelude.{Bool, true, false, if◌then◌else◌}
use Rattle.sqlite.specs.declared.error.Error.{Error as SqlError}
use Rattle.sqlite.specs.declared.error.Error.TheVariants.{SqliteFailure}
use Rattle.sqlite.specs.declared.error.ErrorCode.TheVariants.{OutOfMemory}
use Rattle.storage_file.specs.declared.error.Error.{Error}
use Rattle.storage_file.specs.declared.error.Error.TheVariants.{Store, Memory}

abbrev pub is_want_of_memory : SqlError → Bool
is_want_of_memory (SqliteFailure OutOfMemory) = true
is_want_of_memory _ = false

abbrev pub refusal_of : SqlError → Error
refusal_of e = if is_want_of_memory e then Memory else Store e
