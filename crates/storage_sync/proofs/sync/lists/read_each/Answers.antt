use Rattle.std.proofs.Common.{◌∷◌, [], arith, map, ap, ◌∙◌}
use Rattle.std.proofs.lemmas.List.{map-append}
use Rattle.storage_codec.specs.Codec.{vector_at}
use Rattle.storage_codec.specs.Laws.Parts.{ends_then}
use Rattle.storage_sync.proofs.Lists.{reading_next, reading_stops}
use Rattle.storage_sync.proofs.sync.lists.read_each.Goals as goal

pub returns-in-Err-clause-gives : goal.returns-in-Err-clause-gives
returns-in-Err-clause-gives g c = reading_stops (vector_at 0 c.args.max_len) c.in-Err.error c.args.count c.loop-index.index _
    (map (λ s. s.items) c.loop-index.strings.items) _ (omega arith) c.loop-index.invariant.read c.in-Err.ensures.gives

pub returns-in-Err-clause-ends : goal.returns-in-Err-clause-ends
returns-in-Err-clause-ends g c = ends_then c.loop-index.invariant.ends c.read_cfg.ensures.ends

pub returns-in_err-push-clause-ends : goal.returns-in_err-push-clause-ends
returns-in_err-push-clause-ends g c = ends_then c.loop-index.invariant.ends c.read_cfg.ensures.ends

pub loop-index-preserved : goal.loop-index-preserved
loop-index-preserved g c = record {
  read =
      reading_next (vector_at 0 c.args.max_len) c.args.count c.loop-index.index _ (map (λ s. s.items) c.loop-index.strings.items)
      (map (λ s. s.items) c.push.new.self.items) c.in-Ok.string.items _ _ (omega arith) c.loop-index.invariant.read
      c.in-Ok.ensures.gives (ap (map (λ s. s.items)) c.in_ok-push.ensures.items
      ∙ map-append (λ s. s.items) c.loop-index.strings.items (c.in-Ok.string ∷ []));
  ends = ends_then c.loop-index.invariant.ends c.read_cfg.ensures.ends;
}
