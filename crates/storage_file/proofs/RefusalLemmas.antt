-- An error of sqlite is told as `Store` or as `Memory`.
use Rattle.std.proofs.Common.{◌≡◌, ◌≢◌, inl, inr, true, false}
use Rattle.std.proofs.lemmas.Bool.{cases_Bool}
use Rattle.sqlite.specs.declared.error.Error.{Error as SqlError}
use Rattle.storage_file.specs.declared.error.Error.{Error}
use Rattle.storage_file.specs.declared.error.Error.TheVariants.{Full}
use Rattle.storage_file.specs.Refusals.{is_want_of_memory, refusal_of}

pub never_full : (e : SqlError) → refusal_of e ≢ Full
never_full e h = elim (cases_Bool (is_want_of_memory e)) [
  | inl memory ↦ let k = rw memory at h in absurd (cc)
  | inr other ↦ let k = rw other at h in absurd (cc)
]
