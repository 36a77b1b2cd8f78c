use Rattle.std.proofs.Common.{◌∙◌, sym}
use Rattle.std.proofs.lemmas.Bool.{false≢true}
use Rattle.storage_sync.proofs.Founded.{equal, unequal}
use Rattle.storage_sync.proofs.sync.replica.Replica.has_roots.Goals as goal

pub returns-then-ne : goal.returns-then-ne
returns-then-ne g c = λ s stands. (
  λ yes. absurd (false≢true yes),
  λ roots. absurd (false≢true (sym (unequal _ c.if-ne.ensures)
      ∙ (g.met.D.Digest.same c.root.result c.args.root.now).1 (c.root.ensures.stands s stands ∙ roots.root_is))),
)

pub returns : goal.returns
returns g c = λ s stands. (
  λ yes. record {
    root_is = sym (c.root.ensures.stands s stands)
        ∙ (g.met.D.Digest.same c.root.result c.args.root.now).0 (equal _ c.if-ne.ensures);
    ops_root_is = sym (c.ops_root.ensures.stands s stands)
        ∙ (g.met.D.Digest.same c.ops_root.result c.args.self.now.ops_root).0 (sym c.eq.ensures ∙ yes);
  },
  λ roots. c.eq.ensures ∙ (g.met.D.Digest.same c.ops_root.result c.args.self.now.ops_root).1
      (c.ops_root.ensures.stands s stands ∙ roots.ops_root_is),
)
