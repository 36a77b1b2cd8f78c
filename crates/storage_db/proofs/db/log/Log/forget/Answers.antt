use Rattle.std.proofs.Common.{◌≡◌, ℕ, List, length, map, sym, ap, ◌∙◌, subst, arith}
use Rattle.std.specs.Global.{Vec}
use Rattle.std.proofs.lemmas.List.{length-map}
use Rattle.storage_db.specs.Kept.{forgetting}
use Rattle.storage_db.proofs.Forgetting.{forgetting_length}
use Rattle.storage_db.proofs.db.log.Log.forget.Goals as goal

pub returns-clause-operations : goal.returns-clause-operations
returns-clause-operations c = λ all so_far low high.
    let items : List (Vec ℕ) = c.args.self.now.operations.items in
    let count : length items ≡ length all
    = sym (length-map items (λ (v : Vec ℕ). v.items)) ∙ ap (λ (l : List (List ℕ)). length l) so_far
    ∙ forgetting_length c.args.before all (omega (arith, low, high)) in
    let end : c.min-end.result ≡ c.args.after = omega (arith, c.min-end.ensures, c.len.ensures, count, high) in
    subst (λ (n : ℕ). map (λ (v : Vec ℕ). v.items) c.forget_each.new.operations.items ≡ forgetting n all) end
    (c.forget_each.ensures.texts all so_far (omega (arith, low, end)) (omega (arith, high, end)))
