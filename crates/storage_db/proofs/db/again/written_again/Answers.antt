use Rattle.std.proofs.Common.{ℕ, List, ◌++◌, sym, ap, ◌∙◌, arith}
use Rattle.storage_ops.specs.Operations as operation
use Rattle.storage_current.specs.Keys.{Keyed, keyed_by}
use Rattle.storage_db.proofs.db.again.written_again.Goals as goal

pub returns : goal.returns
returns g c =
    let e : Keyed g.row.K.Denot g.row.V-Value.Denot
    = keyed_by g.K.Write.text g.V.Value.Write.text g.V.OperationCodec.operation_text g.K.Ord.cmp in
    record {
      active = c.in-Some.entry.now;
      stands = record { there = sym c.in-Some.ensures.value; at = omega (arith, c.if-entry-location.false) };
      written = c.in_ok-bytes.ensures
          ∙ ap (λ (t : List ℕ). e.operation (operation.Update (e.key c.args.key.now ++ e.value c.in-Some.entry.now.value ++ t)))
          c.in_ok-next_key.ensures;
    }
