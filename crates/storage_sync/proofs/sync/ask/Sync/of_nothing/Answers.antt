use Rattle.std.proofs.Common.{◌∙◌, List, [], sym}
use Rattle.std.specs.Global.{Vec}
use Rattle.std.proofs.Common.{ℕ}
use Rattle.std.proofs.lemmas.Bool.{false≢true}
use Rattle.storage_current.specs.KeptSnapshots.{StandsForSnapshot}
use Rattle.storage_current.specs.Snapshots.{grafting_of}
use Rattle.storage_sync.specs.Alike.{nothing}
use Rattle.storage_sync.proofs.Founded.{equal, snapshot_of_equal, unequal}
use Rattle.storage_sync.proofs.sync.ask.Sync.of_nothing.Goals as goal

pub returns-then-ne-clause-exact : goal.returns-then-ne-clause-exact
returns-then-ne-clause-exact g c = λ root_is.
    let none : List (Vec ℕ) = [] in
    let stands = snapshot_of_equal
    (StandsForSnapshot g.H.Hasher.hash_of (grafting_of g.F.Family.shape g.row.N) c.in-Ok.snapshot) c.as_slice.result.now none
    c.new-status.result (record { pruned = 0; bits = [] }) c.new.result 0 (c.as_slice.ensures.value ∙ c.new-none.ensures.items)
    c.new-status.ensures c.new.ensures c.in-Ok.ensures.stands.1 in
    false≢true (sym (unequal _ c.if-ne.ensures) ∙ (g.met.H.Digest.Digest.same c.root.result c.args.root.now).1
    (c.root.ensures.stands nothing stands ∙ sym root_is))

pub returns-clause-exact : goal.returns-clause-exact
returns-clause-exact g c =
    let none : List (Vec ℕ) = [] in
    let stands = snapshot_of_equal
    (StandsForSnapshot g.H.Hasher.hash_of (grafting_of g.F.Family.shape g.row.N) c.in-Ok.snapshot) c.as_slice.result.now none
    c.new-status.result (record { pruned = 0; bits = [] }) c.new.result 0 (c.as_slice.ensures.value ∙ c.new-none.ensures.items)
    c.new-status.ensures c.new.ensures c.in-Ok.ensures.stands.1 in (
      sym ((g.met.H.Digest.Digest.same c.root.result c.args.root.now).0 (equal _ c.if-ne.ensures))
          ∙ c.root.ensures.stands nothing stands,
      stands,
    )

pub returns-clause-promise : goal.returns-clause-promise
returns-clause-promise g c = λ some s snapshot same.
    c.root_of_nothing.ensures g.H.Digest.Digest.size g.H.Hasher.hash_of some g.met.H.Hasher.sized
    (grafting_of g.F.Family.shape g.row.N) g.met.F.Family.laws s snapshot (same ∙ (returns-clause-exact g c).0)
