-- What the arguments of a call say.
use Rattle.std.specs.Prelude.{◌≡◌, ℕ, ◌+◌, ◌≤◌, ◌<◌, ◌^◌, length}
use Rattle.storage_file.specs.declared.agreement.Agreement.{Agreement as GivenAgreement}
use Rattle.storage_file.specs.declared.agreement.Commit.{Commit as GivenCommit}
use Rattle.storage_file.specs.declared.tables.Counts.{Counts}
use Rattle.storage_file.specs.Kept.{Agreement, Commit, Kept}

abbrev pub agreement_of : GivenAgreement → Agreement
agreement_of a = record { family = a.family.now; digest = a.digest.now; chunk_size = a.chunk_size; key_encoding = a.key_encoding.now; value_encoding = a.value_encoding.now }

abbrev pub commit_of : GivenCommit → Commit
commit_of c = record { location = c.location; floor = c.floor; root = c.root.items }

-- so many operations and commits are kept
pub record Counted (counts : Counts) (kept : Kept) : Type 0 where
  pub operations : counts.operations ≡ length kept.operations
  pub commits : counts.commits ≡ length kept.commits

-- each number can be stored
pub record HasRoom (so_far : Counts) (more : ℕ) (commit : GivenCommit) : Type 0 where
  pub operations : so_far.operations + more ≤ 2 ^ 63
  pub number : so_far.commits < 2 ^ 63
  pub location : commit.location < 2 ^ 63
  pub floor : commit.floor < 2 ^ 63
