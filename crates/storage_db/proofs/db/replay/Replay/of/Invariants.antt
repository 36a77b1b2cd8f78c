use Rattle.std.proofs.Common.{◌≡◌, ◌++◌, length, map}
use Rattle.std.specs.Vec.Iter.{into_iter_items, into_iter_len}
use Rattle.storage_current.specs.Keys.{keyed_by}
use Rattle.storage_db.specs.Opening.{ReadsAs, ReadsCommand}
use Rattle.storage_db.specs.Replays.{IsOnPath}
use Rattle.storage_db.proofs.db.replay.Replay.of.Given as goal

abbrev pub invariant-loop-operation : goal.invariant-loop-operation
invariant-loop-operation g l =
    (l.place ≡ length l.yielded)
    × IsOnPath (keyed_by g.K.Write.text g.V.Value.Write.text g.V.OperationCodec.operation_text g.K.Ord.cmp)
    (ReadsCommand (ReadsAs (g.V.OperationCodec.operation_parse l.cfg) g.V.OperationCodec.operation_view)
    (λ k v n. record { key = k; value = v; next_key = n })) l.replay.log l.replay.active.present.entries l.replay.last
    (map (λ v. v.items) l.yielded)
    × (l.yielded ++ into_iter_items l.operation-iterator ≡ l.fn.operations.items)
    × (into_iter_len l.operation-iterator ≡ length (into_iter_items l.operation-iterator))
