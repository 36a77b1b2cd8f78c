use Rattle.std.proofs.Common.{◌≡◌, ℕ, Bool, List, [], ◌∷◌, ◌++◌, map, refl, subst, sym, ◌∙◌, arith}
use Rattle.std.specs.Prelude.{MatchBool}
use Rattle.std.specs.Global.{Vec}
use Rattle.std.specs.Vec.Iter.{into_iter_items, into_iter_len}
use Rattle.std.proofs.lemmas.Grind.{common_steps}
use Rattle.std.proofs.lemmas.List.{length-map}
use Rattle.storage_current.specs.Keys.{Keyed, keyed_by}
use Rattle.storage_db.specs.Opening.{Begins, ReadsAs, ReadsCommand}
use Rattle.storage_db.specs.Databases.{Database}
use Rattle.storage_db.specs.Replays.{IsOnPath, IsReplayOf}
use Rattle.storage_db.proofs.OpeningEnds.{some_vec}
use Rattle.storage_db.proofs.OpeningCalls.{all_taken, fewer_left, goes_on, one_further, rest_further, stops_at}
use Rattle.storage_db.proofs.db.replay.Replay.of.Goals as goal

pub loop-operation-init : goal.loop-operation-init
loop-operation-init g c = (
  refl,
  c.new-replay.ensures c.args.cfg.now,
  grind (arith, common_steps),
  grind (arith, common_steps),
)

pub returns-then-not-branch-clause-why : goal.returns-then-not-branch-clause-why
returns-then-not-branch-clause-why g c =
    let e : Keyed g.row.K.Denot g.row.V-Value.Denot
    = keyed_by g.K.Write.text g.V.Value.Write.text g.V.OperationCodec.operation_text g.K.Ord.cmp in
    let reads = ReadsCommand (ReadsAs (g.V.OperationCodec.operation_parse c.args.cfg.now) g.V.OperationCodec.operation_view)
    (λ k v n. record { key = k; value = v; next_key = n }) in
    let so_far = c.loop-operation.invariant in
    let replay = c.loop-operation.replay in
    let bytes : Vec ℕ → List ℕ = λ v. v.items in
    let own : List ℕ = c.deref.result.now in
    let before : List (List ℕ) = map bytes c.loop-operation.yielded in
    let new = c.take.new.self in
    let P : Bool → Type 0 = λ b. MatchBool b (IsOnPath e reads new.log new.active.present.entries new.last (before ++ own ∷ []))
    (Begins e reads (before ++ own ∷ []) → ⊥) in
    let none : Begins e reads (before ++ own ∷ []) → ⊥ = subst P c.if-not-branch.true
    (c.in_ok-take.ensures before (so_far.0 ∙ sym (length-map c.loop-operation.yielded bytes)) so_far.1) in
    stops_at e reads c.loop-operation.yielded (into_iter_items c.loop-operation.operation-iterator)
    (into_iter_items c.next.new.self) c.args.operations.items c.in-Some.operation own c.deref.ensures.value
    c.in-Some.ensures.steps.0 so_far.2 replay.log replay.active.present.entries replay.last so_far.1 none c.new.result
    (c.new.ensures ∙ so_far.0)

pub loop-operation-preserved : goal.loop-operation-preserved
loop-operation-preserved g c =
    let e : Keyed g.row.K.Denot g.row.V-Value.Denot
    = keyed_by g.K.Write.text g.V.Value.Write.text g.V.OperationCodec.operation_text g.K.Ord.cmp in
    let reads = ReadsCommand (ReadsAs (g.V.OperationCodec.operation_parse c.args.cfg.now) g.V.OperationCodec.operation_view)
    (λ k v n. record { key = k; value = v; next_key = n }) in
    let so_far = c.loop-operation.invariant in
    let bytes : Vec ℕ → List ℕ = λ v. v.items in
    let own : List ℕ = c.deref.result.now in
    let before : List (List ℕ) = map bytes c.loop-operation.yielded in
    let new = c.take.new.self in
    let rest = into_iter_items c.loop-operation.operation-iterator in
    let P : Bool → Type 0 = λ b. MatchBool b (IsOnPath e reads new.log new.active.present.entries new.last (before ++ own ∷ []))
    (Begins e reads (before ++ own ∷ []) → ⊥) in
    let on : IsOnPath e reads new.log new.active.present.entries new.last (before ++ own ∷ []) = subst P c.if-not-branch.false
    (c.in_ok-take.ensures before (so_far.0 ∙ sym (length-map c.loop-operation.yielded bytes)) so_far.1) in (
      one_further c.loop-operation.yielded c.in-Some.operation c.loop-operation.place so_far.0,
      goes_on e reads c.loop-operation.yielded c.in-Some.operation own c.deref.ensures.value new.log new.active.present.entries new.last on,
      rest_further c.loop-operation.yielded rest (into_iter_items c.next.new.self) c.args.operations.items c.in-Some.operation
          c.in-Some.ensures.steps.0 so_far.2,
      fewer_left rest (into_iter_items c.next.new.self) c.in-Some.operation
          (into_iter_len c.loop-operation.operation-iterator) (into_iter_len c.next.new.self)
          c.in-Some.ensures.steps.0 so_far.3 c.in-Some.ensures.steps.1,
    )

pub returns-clause-ok : goal.returns-clause-ok
returns-clause-ok g c =
    let e : Keyed g.row.K.Denot g.row.V-Value.Denot
    = keyed_by g.K.Write.text g.V.Value.Write.text g.V.OperationCodec.operation_text g.K.Ord.cmp in
    let reads = ReadsCommand (ReadsAs (g.V.OperationCodec.operation_parse c.args.cfg.now) g.V.OperationCodec.operation_view)
    (λ k v n. record { key = k; value = v; next_key = n }) in
    let so_far = c.loop-operation.invariant in
    let replay = c.loop-operation.replay in
    let bytes : Vec ℕ → List ℕ = λ v. v.items in
    let all : c.loop-operation.yielded ≡ c.args.operations.items
    = all_taken c.loop-operation.yielded (into_iter_items c.loop-operation.operation-iterator) c.args.operations.items
    (into_iter_len c.loop-operation.operation-iterator) so_far.2 so_far.3 c.in-None.ensures.steps.0 in
    subst (λ (l : List (Vec ℕ)). IsOnPath e reads replay.log replay.active.present.entries replay.last (map bytes l)) all so_far.1

pub returns-clause-some : goal.returns-clause-some
returns-clause-some g c =
    let replay = c.loop-operation.replay in
    let on = c.loop-operation.invariant.1 in
    some_vec replay.log replay.active.present.entries replay.last on.database on.replay

pub returns-clause-made : goal.returns-clause-made
returns-clause-made g c =
    let replay = c.loop-operation.replay in
    let on = c.loop-operation.invariant.1 in
    record {
      commands = on.path.commands;
      replay = subst (λ (d : Database g.row.K.Denot g.row.V-Value.Denot). IsReplayOf replay.log replay.active.present.entries replay.last d)
          (sym on.path.leave) on.replay;
    }
