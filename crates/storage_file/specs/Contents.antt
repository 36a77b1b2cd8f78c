-- What a call gives of the lists.
use Rattle.std.specs.Prelude.{◌≡◌, map}
use Rattle.storage_file.specs.declared.contents.Contents.{Contents}
use Rattle.storage_file.specs.Given.{commit_of}
use Rattle.storage_file.specs.Kept.{Kept}

-- they are the lists that are kept
pub record AreContents (it : Contents) (kept : Kept) : Type 0 where
  pub operations : map (λ b. b.items) it.operations.items ≡ kept.operations
  pub commits : map commit_of it.commits.items ≡ kept.commits
