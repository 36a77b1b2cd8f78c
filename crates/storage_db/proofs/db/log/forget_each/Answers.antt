use Rattle.std.proofs.Common.{◌≡◌, ℕ, map, refl, ◌∙◌, subst, arith}
use Rattle.std.specs.Global.{Vec}
use Rattle.std.proofs.lemmas.List.{length-set}
use Rattle.storage_db.specs.Kept.{forgetting}
use Rattle.storage_db.proofs.Forgetting.{one_forgotten}
use Rattle.storage_db.proofs.db.log.forget_each.Goals as goal

pub loop-location-init : goal.loop-location-init
loop-location-init c = record { within = λ low. low; count = refl; texts = λ all so_far low high. so_far }

pub loop-location-preserved : goal.loop-location-preserved
loop-location-preserved c = record {
  within = λ low. omega (arith, c.loop-location-test.true);
  count = length-set c.loop-location.operations.items c.loop-location.location c.new.result ∙ c.loop-location.invariant.count;
  texts = λ all so_far low high. one_forgotten c.loop-location.operations.items _ c.loop-location.location c.new.result all
      (c.loop-location.invariant.texts all so_far low high) (omega (arith, c.loop-location-test.true, high)) refl c.new.ensures.items;
}

pub returns-clause-texts : goal.returns-clause-texts
returns-clause-texts c = λ all so_far low high.
    let end : c.loop-location.location ≡ c.args.after
    = omega (arith, c.loop-location.invariant.within low, c.loop-location-test.false) in
    subst (λ (n : ℕ). map (λ (v : Vec ℕ). v.items) c.loop-location.operations.items ≡ forgetting n all) end
    (c.loop-location.invariant.texts all so_far low high)

pub returns-clause-count : goal.returns-clause-count
returns-clause-count c = c.loop-location.invariant.count
