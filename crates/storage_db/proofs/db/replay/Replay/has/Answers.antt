use Rattle.std.proofs.Common.{◌≡◌, ℕ, Bool, Decides, List, Some, option_map, slice_get, subst, sym, ap, ◌∙◌, arith}
use Rattle.std.specs.Global.{Vec}
use Rattle.std.proofs.lemmas.Option.{slice_get-get_or, slice_get-map}
use Rattle.std.proofs.lemmas.Slice.Eq.{bytes_eq-Decides}
use Rattle.storage_db.specs.Parts.{texts}
use Rattle.storage_db.proofs.Changing.{count_of_texts}
use Rattle.storage_db.proofs.OpeningCalls.{has_at, has_not}
use Rattle.storage_db.proofs.db.replay.Replay.has.Goals as goal

pub returns-then-place-len : goal.returns-then-place-len
returns-then-place-len g c =
    let log = c.args.self.now.log in
    has_not (texts log) c.args.place c.args.operation.now (omega (arith, count_of_texts log, c.len.ensures.count, c.if-place-len.true))

pub returns : goal.returns
returns g c =
    let log = c.args.self.now.log in
    let bytes : Vec ℕ → List ℕ = λ v. v.items in
    let written : Vec ℕ = c.index.result.now in
    let at : slice_get (texts log) c.args.place ≡ Some c.as_slice.result.now
    = slice_get-map bytes log.operations.items c.args.place
    ∙ ap (option_map bytes) (slice_get-get_or log.operations.items c.args.place written (omega (arith, c.len.ensures.count)) ∙ ap Some (sym c.index.ensures))
    ∙ ap Some (sym c.as_slice.ensures.value) in
    has_at (texts log) c.args.place c.as_slice.result.now c.args.operation.now at c.eq.result
    (subst (λ (b : Bool). Decides b (c.as_slice.result.now ≡ c.args.operation.now)) (sym c.eq.ensures)
    (bytes_eq-Decides c.as_slice.result.now c.args.operation.now))
