use Rattle.std.proofs.Common.{◌≡◌, ◌≤◌, ◌/◌, ◌^◌, ℕ, List, length, get_or, ap, ◌∙◌, arith, eqb}
use Rattle.std.proofs.lemmas.Grind.{get_or_default_zero}
use Rattle.std.proofs.lemmas.List.Filters.{dedup_is}
use Rattle.storage_current.proofs.Growing.{touched_none, touched_more, touched_skip, touched_end}
use Rattle.storage_current.proofs.qmdb.current.snapshot.extend.touched_chunks.Goals as goal
use Rattle.storage_current.proofs.qmdb.current.snapshot.extend.touched_chunks.Goals.{then-chunk-count+in_ok-push, else-chunk-count}

pub loop-location-init : goal.loop-location-init
loop-location-init g c = touched_none c.args.height c.args.count c.args.locations.now c.new-touched.result.items
    c.new-touched.ensures.items

pub loop-location-preserved : goal.loop-location-preserved
loop-location-preserved g c =
    let i : ℕ = c.loop-location.location-index in
    let locations : List ℕ = c.args.locations.now in
    let chunk : ℕ = c.as_u64.result / 2 ^ c.args.height in
    let at : chunk ≡ get_or locations i 0 / 2 ^ c.args.height = ap (λ (l : ℕ). l / 2 ^ c.args.height) (c.as_u64.ensures
    ∙ c.location-item.is ∙ get_or_default_zero locations i c.location-item.result c.loop-location-test.true) in
    elim c.if-chunk-count.branch [
      | then-chunk-count+in_ok-push w ↦
          touched_more c.args.height c.args.count i locations c.loop-location.touched.items
          c.if-chunk-count.touched.items chunk c.loop-location.invariant c.loop-location-test.true at
          w.if-chunk-count.true
          (ap (λ v. v.items) w.touched-is ∙ w.in_ok-push.ensures.items)
      | else-chunk-count w ↦
          touched_skip c.args.height c.args.count i locations c.loop-location.touched.items c.if-chunk-count.touched.items
          chunk c.loop-location.invariant at w.if-chunk-count.false (ap (λ v. v.items) w.touched-is)
    ]

pub returns : goal.returns
returns g c =
    let whole : length c.args.locations.now ≤ c.loop-location.location-index =
    omega (arith, c.loop-location-test.false) in
    touched_end c.args.height c.args.count c.loop-location.location-index c.args.locations.now
    c.loop-location.touched.items c.sort_unstable.new.self.items c.dedup.new.self.items c.loop-location.invariant whole
    c.sort_unstable.ensures.permutation (dedup_is eqb _ _ c.dedup.ensures.filtered)
