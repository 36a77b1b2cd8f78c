use Rattle.std.proofs.Common.{rules, length, ◌≡◌, ◌∙◌}
use Rattle.storage_file.specs.Given.{agreement_of}
use Rattle.storage_file.specs.Kept.{made_new}
use Rattle.storage_file.proofs.JournalLemmas.{read_counted}
use Rattle.storage_file.proofs.journal.Journal.open.Goals as goal

pub returns-in-Ok-clause-read : goal.returns-in-Ok-clause-read
returns-in-Ok-clause-read g c = λ clean kept is.
    let operations : c.len.result ≡ length c.in-Ok.contents.operations.items = search rules in
    let commits : c.len-in-Ok.result ≡ length c.in-Ok.contents.commits.items = search rules in
    let read = c.in-Ok.ensures.read clean kept is in
    let counted = read_counted c.in-Ok.contents kept read in (
      record { shows = c.in-Ok.ensures.same clean kept is; counted = record { operations = operations ∙ counted.operations; commits = commits ∙ counted.commits } },
      read,
      c.in-Ok.ensures.agreed clean kept is,
    )

pub returns-in-Ok-clause-made : goal.returns-in-Ok-clause-made
returns-in-Ok-clause-made g c = λ clean is.
    let operations : c.len.result ≡ length c.in-Ok.contents.operations.items = search rules in
    let commits : c.len-in-Ok.result ≡ length c.in-Ok.contents.commits.items = search rules in
    let read = c.in-Ok.ensures.empty clean is in
    let counted = read_counted c.in-Ok.contents (made_new (agreement_of c.args.agreement.now)) read in (
      record { shows = c.in-Ok.ensures.made clean is; counted = record { operations = operations ∙ counted.operations; commits = commits ∙ counted.commits } },
      read,
    )
