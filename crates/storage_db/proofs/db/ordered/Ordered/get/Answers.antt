use Rattle.std.proofs.Common.{List, Option, option_map, ap, ◌∙◌}
use Rattle.storage_current.specs.Keys.{Keyed, keyed_by}
use Rattle.storage_db.specs.declared.db.active.Active.{Active}
use Rattle.storage_db.specs.Databases.{value_at}
use Rattle.storage_db.specs.Kept.{KeptDatabase}
use Rattle.storage_db.proofs.db.ordered.Ordered.get.Goals as goal

pub returns-in-Some : goal.returns-in-Some
returns-in-Some g c = λ d keeps.
    let e : Keyed g.row.K.Denot g.row.V-Value.Denot
    = keyed_by g.K.Write.text g.V.Value.Write.text g.V.OperationCodec.operation_text g.K.Ord.cmp in
    let at : List (g.row.K.Denot × Active g.row.V-Value.Denot) → Option g.row.V-Value.Denot
    = λ entries. value_at e entries c.args.key.now in
    ap (option_map (λ (active : Active g.row.V-Value.Denot). active.value)) c.in-Some.ensures.value
    ∙ ap (λ (k : KeptDatabase g.row.K.Denot g.row.V-Value.Denot). at k.entries) c.self.view_is ∙ ap at keeps.entries
