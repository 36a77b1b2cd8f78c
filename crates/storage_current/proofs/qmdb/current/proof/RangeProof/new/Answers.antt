use Rattle.std.proofs.lemmas.Result.{IfOk-weaker, IfErr-weaker}
use Rattle.storage_current.specs.Served.{IsNotRead}
use Rattle.storage_current.specs.Snapshots.{Grafting}
use Rattle.storage_current.proofs.Fetching.{on_ok_both}
use Rattle.storage_current.proofs.Making.{planned_ok, made_why, servable, served_own}
use Rattle.storage_current.proofs.qmdb.current.proof.RangeProof.new.Goals as goal

pub returns-clause-own : goal.returns-clause-own
returns-clause-own g c =
    let G : Grafting = record { shape = g.F.Family.shape; bytes = g.row.N } in
    let plan = planned_ok _ c.in-Ok-new.plan _ c.in-Ok-new.ensures in
    IfOk-weaker c.read.result _ _ (λ proof own. served_own (g.S.Storage.nodes c.args.storage.now)
    (g.S.Storage.node c.args.storage.now) G c.args.range.start c.args.range.end _ g.met.F.Family.laws c.in-Ok.leaves
    c.in-Ok-new.plan g.D.Digest.text g.H.Hasher.hash_of c.args.floor _ _ c.in-Ok.ensures.tree plan.1 own)
    c.read.ensures.own

pub returns-clause-made : goal.returns-clause-made
returns-clause-made g c =
    let G : Grafting = record { shape = g.F.Family.shape; bytes = g.row.N } in
    let plan = planned_ok _ c.in-Ok-new.plan _ c.in-Ok-new.ensures in
    on_ok_both c.read.result c.read.ensures.answered c.read.ensures.bits
    (servable (g.S.Storage.nodes c.args.storage.now) (g.S.Storage.node c.args.storage.now) G c.args.range.start
    c.args.range.end (g.R.Readable.retained c.args.status.now) g.row.F.Denot c.in-Ok.leaves c.in-Ok-new.plan
    c.in-Ok.ensures.tree plan.0 plan.1)

pub returns-clause-why : goal.returns-clause-why
returns-clause-why g c =
    let G : Grafting = record { shape = g.F.Family.shape; bytes = g.row.N } in
    let node = g.S.Storage.node c.args.storage.now in
    let plan = planned_ok _ c.in-Ok-new.plan _ c.in-Ok-new.ensures in
    let may_fail = g.S.Storage.may_fail c.args.storage.now in
    IfErr-weaker c.read.result (IsNotRead node may_fail G c.in-Ok-new.plan (g.R.Readable.retained c.args.status.now)) _
    (λ error w. made_why (g.S.Storage.nodes c.args.storage.now) node G c.args.range.start c.args.range.end
    (g.R.Readable.retained c.args.status.now) may_fail c.in-Ok.leaves c.in-Ok-new.plan error c.in-Ok.ensures.tree plan.0
    plan.1 w) c.read.ensures.why
