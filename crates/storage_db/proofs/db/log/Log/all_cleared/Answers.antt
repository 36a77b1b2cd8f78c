use Rattle.std.proofs.Common.{ℕ, ◌+◌, List, [], ◌∷◌, ◌++◌, length, take, sym, ap, ap₂, ◌∙◌, arith}
use Rattle.std.proofs.lemmas.List.{take_all, take_more}
use Rattle.storage_db.proofs.db.log.Log.all_cleared.Goals as goal

pub loop-location-preserved : goal.loop-location-preserved
loop-location-preserved g c =
    let i : ℕ = c.loop-location.location-index in
    let same = c.deref-location-items.ensures.value in
    c.in_ok-push.ensures.items
    ∙ ap₂ (λ (l : List ℕ) (x : ℕ). l ++ x ∷ []) (c.loop-location.invariant ∙ ap (take i) (sym same)) c.new.ensures
    ∙ sym (take_more c.deref-location-items.result.now i 0 c.loop-location-test.true) ∙ ap (take (i + 1)) same

pub returns : goal.returns
returns g c =
    let cleared = c.args.self.now.cleared.items in
    let whole = take_all c.loop-location.location-index cleared (omega (arith, c.loop-location-test.false, ap length c.deref-location-items.ensures.value)) in
    c.in_ok-push-2.ensures.items
    ∙ ap₂ (λ (l : List ℕ) (x : ℕ). l ++ x ∷ []) (c.loop-location.invariant ∙ whole) c.new-2.ensures
