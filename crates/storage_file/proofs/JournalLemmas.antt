-- What a crash leaves of a journal.
use Rattle.std.proofs.Common.{◌≡◌, IsTrue, subst, sym, length, ◌∙◌, ap, map}
use Rattle.std.proofs.lemmas.List.{length-map}
use Rattle.sqlite.specs.Store.{Ghosts}
use Rattle.sqlite.specs.Tree.{Trees}
use Rattle.sqlite.specs.Held.{state}
use Rattle.storage_file.specs.declared.journal.Journal.{Journal}
use Rattle.storage_file.specs.declared.contents.Contents.{Contents}
use Rattle.storage_file.specs.declared.tables.Counts.{Counts}
use Rattle.storage_file.specs.Contents.{AreContents}
use Rattle.storage_file.specs.Given.{Counted, commit_of}
use Rattle.storage_file.specs.Journals.{IsOf}
use Rattle.storage_file.specs.Kept.{Kept}
use Rattle.storage_file.specs.Tables.{Holds, Lists}
use Rattle.storage_file.proofs.CommitLemmas.{held, leaves}

-- between its calls a crash leaves what the tables show
pub leaves_lists : {S : Type 0} (g : Ghosts S) (it : Journal S) (kept : Kept) → IsOf g it kept
    → ((db : Trees) → IsTrue (state g it.conn).is_open → (state g it.conn).may_leave db → db ≡ (state g it.conn).committed.trees)
    → (db : Trees) → (state g it.conn).may_leave db → Holds db kept
leaves_lists g it kept is settled = leaves (λ db. Lists db kept) (λ trees. Holds trees kept) (held kept) (state g it.conn) is.shows settled

-- as many are counted as are read
pub read_counted : (it : Contents) (kept : Kept) → AreContents it kept → Counted (record { operations = length it.operations.items; commits = length it.commits.items }) kept
read_counted it kept is = record {
  operations = sym (length-map it.operations.items (λ b. b.items)) ∙ ap length is.operations;
  commits = sym (length-map it.commits.items commit_of) ∙ ap length is.commits;
}
