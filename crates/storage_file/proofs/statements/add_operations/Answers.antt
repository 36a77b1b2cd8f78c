use Rattle.std.proofs.Common.{◌+◌, ◌≡◌, ◌++◌, ◌∷◌, [], length, map, take, sym, ap, subst, ◌∙◌, arith}
use Rattle.sqlite.specs.Held.{state}
use Rattle.storage_file.specs.Tables.{IsMade}
use Rattle.storage_file.proofs.InsideLemmas.{stays_then}
use Rattle.storage_file.proofs.ListLemmas.{one_more, length_so_far}
use Rattle.storage_file.proofs.statements.add_operations.Goals as goal

pub loop-bytes-preserved : goal.loop-bytes-preserved
loop-bytes-preserved g c =
    let first = state g.S.Store c.args.tx.now.conn.now in
    let old = state g.S.Store c.loop-bytes.tx.conn.now in
    let new = state g.S.Store c.add_operation.new.tx.conn.now in
    let all = c.args.operations.now in
    let i = c.loop-bytes.bytes-index in
    record {
      same_reference = c.add_operation.ensures.same_reference ∙ c.loop-bytes.invariant.same_reference;
      inside = stays_then first old new c.loop-bytes.invariant.inside c.add_operation.ensures.inside;
      at = omega (arith, c.loop-bytes.invariant.at);
      added = λ clean kept made from.
          let was = c.loop-bytes.invariant.added (omega (arith, clean, c.add_operation.ensures.inside.survives.clean)) kept made from in
          let here : c.loop-bytes.location ≡ length (kept.operations ++ map (λ b. b.items) (take i all)) = c.loop-bytes.invariant.at ∙ ap (λ n. n + i) from ∙ sym (length_so_far (λ b. b.items) kept.operations all i (omega arith)) in
          let one = c.in_ok-add_operation.ensures.added clean (record kept { operations = kept.operations ++ map (λ b. b.items) (take i all) }) was here in
          let bytes = ap (λ b. (kept.operations ++ map (λ b. b.items) (take i all)) ++ b ∷ []) c.deref.ensures.value in
          subst (λ ops. IsMade new (record kept { operations = ops })) (bytes ∙ one_more (λ b. b.items) kept.operations all i c.bytes-item.result c.loop-bytes-test.true c.bytes-item.is) one;
    }
