use Rattle.std.proofs.Common.{Bool, sym, subst, ◌∙◌}
use Rattle.storage_current.specs.Keys.{Keyed, keyed_by}
use Rattle.storage_db.specs.Databases.{Database}
use Rattle.storage_db.specs.Opening.{ReadsAs, ReadsCommand}
use Rattle.storage_db.specs.Replays.{IsFollowedBy, IsReplayOf}
use Rattle.storage_db.proofs.OpeningCalls.{first_taken, none_taken}
use Rattle.storage_db.proofs.db.replay.Replay.take_first.Goals as goal

pub returns-then-not-branch : goal.returns-then-not-branch
returns-then-not-branch g c = λ before counted on.
    let e : Keyed g.row.K.Denot g.row.V-Value.Denot
    = keyed_by g.K.Write.text g.V.Value.Write.text g.V.OperationCodec.operation_text g.K.Ord.cmp in
    let reads = ReadsCommand (ReadsAs (g.V.OperationCodec.operation_parse c.args.cfg.now) g.V.OperationCodec.operation_view)
    (λ k v n. record { key = k; value = v; next_key = n }) in
    let old = c.args.self.now in
    let new = c.follow.new.self in
    let P : Bool → Type 0 = λ b. IsFollowedBy e new.log new.active.present.entries new.last reads on.database c.args.operation.now b in
    let followed = subst (λ (d : Database g.row.K.Denot g.row.V-Value.Denot). IsFollowedBy e new.log new.active.present.entries new.last reads d
    c.args.operation.now c.in_ok-follow.field-0) on.path.leave (c.in_ok-follow.ensures on.path.commands
    (subst (λ (d : Database g.row.K.Denot g.row.V-Value.Denot). IsReplayOf old.log old.active.present.entries old.last d)
    (sym on.path.leave) on.replay)) in
    none_taken e reads g.V.Value.Read.view c.operations_settle_keys.ensures (c.bytes_settle_commands.ensures c.args.cfg.now)
    old.log new.log old.active.present.entries new.active.present.entries old.last new.last before on c.args.operation.now counted
    (subst P c.if-not-branch.true followed)

pub returns : goal.returns
returns g c = λ before counted on.
    let e : Keyed g.row.K.Denot g.row.V-Value.Denot
    = keyed_by g.K.Write.text g.V.Value.Write.text g.V.OperationCodec.operation_text g.K.Ord.cmp in
    let reads = ReadsCommand (ReadsAs (g.V.OperationCodec.operation_parse c.args.cfg.now) g.V.OperationCodec.operation_view)
    (λ k v n. record { key = k; value = v; next_key = n }) in
    let old = c.args.self.now in
    let new = c.follow.new.self in
    let P : Bool → Type 0 = λ b. IsFollowedBy e new.log new.active.present.entries new.last reads on.database c.args.operation.now b in
    let followed = subst (λ (d : Database g.row.K.Denot g.row.V-Value.Denot). IsFollowedBy e new.log new.active.present.entries new.last reads d
    c.args.operation.now c.in_ok-follow.field-0) on.path.leave (c.in_ok-follow.ensures on.path.commands
    (subst (λ (d : Database g.row.K.Denot g.row.V-Value.Denot). IsReplayOf old.log old.active.present.entries old.last d)
    (sym on.path.leave) on.replay)) in
    first_taken e reads g.V.Value.Read.view c.operations_settle_keys.ensures (c.bytes_settle_commands.ensures c.args.cfg.now)
    old.log new.log old.active.present.entries new.active.present.entries old.last new.last before on c.args.operation.now counted
    (subst P c.if-not-branch.false followed) c.has.result
    c.len-first.result (c.len-first.ensures.count ∙ counted) c.has.ensures
