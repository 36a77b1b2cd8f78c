use Rattle.std.proofs.Common.{IfOk, Ok, Err, Result, subst, sym}
use Rattle.sqlite.specs.Files.{file_state}
use Rattle.storage_file.specs.Tables.{Holds}
use Rattle.storage_file.proofs.SchemaLemmas.{opened_shows, opened_blank}
use Rattle.storage_file.proofs.file.open_files.Goals as goal

both : {A E : Type 0} (r : Result A E) (P Q R : A → Type 0) → ((a : A) → P a → Q a → R a) → IfOk r P → IfOk r Q → IfOk r R
both (Ok a) P Q R h p q = h a p q
both (Err e) P Q R h p q = tt

pub returns-clause-found : goal.returns-clause-found
returns-clause-found g c = both c.open_files.result _ _ _ (λ conn opened found clean db holds kept is.
    let fresh = opened clean in opened_shows (file_state conn) kept fresh.0 fresh.1 (subst (λ d. Holds d kept) (sym ((found clean).holds db holds)) is)) c.open_files.ensures.opened c.open_files.ensures.found

pub returns-clause-blank : goal.returns-clause-blank
returns-clause-blank g c = both c.open_files.result _ _ _ (λ conn opened _ clean none. let fresh = opened clean in opened_blank (file_state conn) fresh.0 fresh.1 none) c.open_files.ensures.opened c.open_files.ensures.found
