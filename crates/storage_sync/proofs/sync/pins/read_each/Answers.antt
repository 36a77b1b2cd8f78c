use Rattle.std.proofs.Common.{◌∷◌, [], arith, map, ap, ◌∙◌}
use Rattle.std.proofs.lemmas.List.{map-append}
use Rattle.storage_codec.specs.Codec.{front_at}
use Rattle.storage_codec.specs.Laws.Parts.{ends_then}
use Rattle.storage_sync.proofs.Lists.{reading_next, reading_stops}
use Rattle.storage_sync.proofs.sync.pins.read_each.Goals as goal

pub returns-in-Err-clause-gives : goal.returns-in-Err-clause-gives
returns-in-Err-clause-gives g c = reading_stops (front_at g.D.Digest.size) c.in-Err.error c.args.count c.loop-index.index _
    (map g.D.Digest.text c.loop-index.pins.items) _ (omega arith) c.loop-index.invariant.read c.in-Err.ensures.gives

pub returns-in-Err-clause-ends : goal.returns-in-Err-clause-ends
returns-in-Err-clause-ends g c = ends_then c.loop-index.invariant.ends c.read.ensures.ends

pub returns-in_err-push-clause-ends : goal.returns-in_err-push-clause-ends
returns-in_err-push-clause-ends g c = ends_then c.loop-index.invariant.ends c.read.ensures.ends

pub loop-index-preserved : goal.loop-index-preserved
loop-index-preserved g c = record {
  read =
      reading_next (front_at g.D.Digest.size) c.args.count c.loop-index.index _ (map g.D.Digest.text c.loop-index.pins.items)
      (map g.D.Digest.text c.push.new.self.items) (g.D.Digest.text c.in-Ok.pin) _ _ (omega arith)
      c.loop-index.invariant.read c.in-Ok.ensures.gives (ap (map g.D.Digest.text) c.in_ok-push.ensures.items
      ∙ map-append g.D.Digest.text c.loop-index.pins.items (c.in-Ok.pin ∷ []));
  ends = ends_then c.loop-index.invariant.ends c.read.ensures.ends;
}
