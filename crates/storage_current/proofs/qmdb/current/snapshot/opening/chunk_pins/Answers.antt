use Rattle.std.proofs.Common.{◌≡◌, ◌+◌, ◌*◌, ◌^◌, ◌≤◌, ◌∙◌, ℕ, ap, ap₂, min, subst, sym, arith}
use Rattle.storage_merkle.specs.Rests.{EachPeak}
use Rattle.storage_bitmap.specs.Chunks.{bit_count}
use Rattle.storage_current.specs.GraftedTrees.{IsPeak}
use Rattle.storage_current.specs.KeptSnapshots.{pruned_operations}
use Rattle.storage_current.specs.Laws.Grafting.{height_of_power}
use Rattle.storage_current.specs.Snapshots.{Grafting, height}
use Rattle.storage_current.proofs.Beginnings.{all_seen, few_chunks, few_complete, none_seen, peak_raised, see_more, seen_at, too_many}
use Rattle.storage_current.proofs.Pinned.{each_of}
use Rattle.storage_current.proofs.qmdb.current.snapshot.opening.chunk_pins.Goals as goal

pub over-first-items-requires : goal.over-first-items-requires
over-first-items-requires g c =
    let G : Grafting = record { shape = g.F.Family.shape; bytes = g.row.N } in
    let level : height G ≡ c.height-above.result = height_of_power G.shape g.row.N _ c.height-above.ensures.power in
    let few : c.args.chunks * 2 ^ height G ≤ 2 ^ 62 = few_complete G c.args.chunks c.min-most.result c.height-above.result level
    (omega (arith, c.if-chunks-complete.false)) (omega (arith, c.min-most.ensures)) in
    few_chunks G c.args.chunks few

pub returns-then-chunks-complete : goal.returns-then-chunks-complete
returns-then-chunks-complete g c = λ within s stands.
    let G : Grafting = record { shape = g.F.Family.shape; bytes = g.row.N } in
    let level : height G ≡ c.height-above.result = height_of_power G.shape g.row.N _ c.height-above.ensures.power in
    let bound : c.min-most.result ≡ min (bit_count g.row.N c.args.snapshot.now.status) (2 ^ 62) = c.min-most.ensures
    ∙ ap (λ (n : ℕ). min n (2 ^ 62)) (c.len.ensures.value ∙ ap (bit_count g.row.N) c.status.ensures) in
    absurd (too_many G c.args.chunks c.min-most.result c.height-above.result _ level
    (omega (arith, c.if-chunks-complete.true)) bound within)

pub loop-first-init : goal.loop-first-init
loop-first-init g c =
    let S = g.F.Family.shape in
    let G : Grafting = record { shape = S; bytes = g.row.N } in
    let at = c.into_iter-first-iterator.ensures.into_iter_gives ∙ c.over-first-items.ensures in
    record {
      each = subst (EachPeak (IsPeak (S.peaks c.args.chunks) 0)) (sym at)
          (each_of (IsPeak (S.peaks c.args.chunks) 0) 0 (S.peaks c.args.chunks) (λ a k i. i));
      seen = λ s stands. rw c.new-pins.ensures.items (none_seen g.H.Hasher.hash_of G s c.args.chunks _ at);
    }

pub overflow_mul-first : goal.overflow_mul-first
overflow_mul-first g c =
    let S = g.F.Family.shape in
    let G : Grafting = record { shape = S; bytes = g.row.N } in
    let level : height G ≡ c.height-above.result = height_of_power S g.row.N _ c.height-above.ensures.power in
    let few : c.args.chunks * 2 ^ height G ≤ 2 ^ 62 = few_complete G c.args.chunks c.min-most.result c.height-above.result level
    (omega (arith, c.if-chunks-complete.false)) (omega (arith, c.min-most.ensures)) in
    let steps = c.in-Some.ensures.steps in
    let each = subst (EachPeak (IsPeak (S.peaks c.args.chunks) 0)) steps.0 c.loop-first.invariant.each in
    let up = peak_raised G g.met.F.Family.laws c.args.chunks _ _ few steps.1.aligned each.0 in
    let wide : c.in-Some.first * c.power.result ≡ c.in-Some.first * 2 ^ height G =
    ap (λ (w : ℕ). c.in-Some.first * w) (c.power.ensures ∙ ap (λ (k : ℕ). 2 ^ k) (sym level)) in
    omega (arith, wide, up.ends)

pub position-position-requires-clause-aligned : goal.position-position-requires-clause-aligned
position-position-requires-clause-aligned g c =
    let S = g.F.Family.shape in
    let G : Grafting = record { shape = S; bytes = g.row.N } in
    let level : height G ≡ c.height-above.result = height_of_power S g.row.N _ c.height-above.ensures.power in
    let few : c.args.chunks * 2 ^ height G ≤ 2 ^ 62 = few_complete G c.args.chunks c.min-most.result c.height-above.result level
    (omega (arith, c.if-chunks-complete.false)) (omega (arith, c.min-most.ensures)) in
    let steps = c.in-Some.ensures.steps in
    let each = subst (EachPeak (IsPeak (S.peaks c.args.chunks) 0)) steps.0 c.loop-first.invariant.each in
    let up = peak_raised G g.met.F.Family.laws c.args.chunks _ _ few steps.1.aligned each.0 in
    rw (c.power.ensures, ← level) up.aligned

pub position-position-requires-clause-fits : goal.position-position-requires-clause-fits
position-position-requires-clause-fits g c =
    let S = g.F.Family.shape in
    let G : Grafting = record { shape = S; bytes = g.row.N } in
    let level : height G ≡ c.height-above.result = height_of_power S g.row.N _ c.height-above.ensures.power in
    let few : c.args.chunks * 2 ^ height G ≤ 2 ^ 62 = few_complete G c.args.chunks c.min-most.result c.height-above.result level
    (omega (arith, c.if-chunks-complete.false)) (omega (arith, c.min-most.ensures)) in
    let steps = c.in-Some.ensures.steps in
    let each = subst (EachPeak (IsPeak (S.peaks c.args.chunks) 0)) steps.0 c.loop-first.invariant.each in
    let up = peak_raised G g.met.F.Family.laws c.args.chunks _ _ few steps.1.aligned each.0 in
    rw (c.power.ensures, ← level) up.fits

pub returns-in_default : goal.returns-in_default
returns-in_default g c = λ within s stands had.
    let S = g.F.Family.shape in
    let G : Grafting = record { shape = S; bytes = g.row.N } in
    let level : height G ≡ c.height-above.result = height_of_power S g.row.N _ c.height-above.ensures.power in
    let few : c.args.chunks * 2 ^ height G ≤ 2 ^ 62 = few_complete G c.args.chunks c.min-most.result c.height-above.result level
    (omega (arith, c.if-chunks-complete.false)) (omega (arith, c.min-most.ensures)) in
    let steps = c.in-Some.ensures.steps in
    let each = subst (EachPeak (IsPeak (S.peaks c.args.chunks) 0)) steps.0 c.loop-first.invariant.each in
    let at : c.new.result ≡ S.position (c.in-Some.first * 2 ^ height G) (c.in-Some.height + height G) =
    c.new.ensures ∙ c.position-position.ensures ∙ ap₂ S.position (ap (λ (w : ℕ). c.in-Some.first * w)
    (c.power.ensures ∙ ap (λ (k : ℕ). 2 ^ k) (sym level))) (ap (λ (k : ℕ). c.in-Some.height + k) (sym level)) in
    let seen = seen_at g.H.Digest.Digest.text g.H.Hasher.hash_of G g.met.F.Family.laws s
    (pruned_operations G c.args.snapshot.now.status) c.args.chunks c.in-Some.first c.in-Some.height c.new.result
    c.get_node.result few steps.1.aligned each.0 at (λ within. c.get_node.ensures.there s stands within)
    (λ beyond. c.get_node.ensures.past s stands beyond) in
    (rw c.in_default.is at seen) (had c.in-Some.first c.in-Some.height each.0)

pub loop-first-preserved : goal.loop-first-preserved
loop-first-preserved g c =
    let S = g.F.Family.shape in
    let G : Grafting = record { shape = S; bytes = g.row.N } in
    let text = g.H.Digest.Digest.text in
    let level : height G ≡ c.height-above.result = height_of_power S g.row.N _ c.height-above.ensures.power in
    let few : c.args.chunks * 2 ^ height G ≤ 2 ^ 62 = few_complete G c.args.chunks c.min-most.result c.height-above.result level
    (omega (arith, c.if-chunks-complete.false)) (omega (arith, c.min-most.ensures)) in
    let steps = c.in-Some.ensures.steps in
    let each = subst (EachPeak (IsPeak (S.peaks c.args.chunks) 0)) steps.0 c.loop-first.invariant.each in
    let at : c.new.result ≡ S.position (c.in-Some.first * 2 ^ height G) (c.in-Some.height + height G) =
    c.new.ensures ∙ c.position-position.ensures ∙ ap₂ S.position (ap (λ (w : ℕ). c.in-Some.first * w)
    (c.power.ensures ∙ ap (λ (k : ℕ). 2 ^ k) (sym level))) (ap (λ (k : ℕ). c.in-Some.height + k) (sym level)) in
    rw c.in_ok-push.ensures.items (record {
      each = each.1;
      seen = λ s stands.
          let seen = seen_at text g.H.Hasher.hash_of G g.met.F.Family.laws s
          (pruned_operations G c.args.snapshot.now.status) c.args.chunks c.in-Some.first c.in-Some.height c.new.result
          c.get_node.result few steps.1.aligned each.0 at (λ within. c.get_node.ensures.there s stands within)
          (λ beyond. c.get_node.ensures.past s stands beyond) in
          let found = rw c.in-Some-get_node.is at seen in
          see_more g.H.Hasher.hash_of G s c.args.chunks text c.loop-first.pins.items _ _ _ c.in-Some-get_node.digest
          (c.loop-first.invariant.seen s stands) steps.0 found.0 found.1;
    })

pub returns : goal.returns
returns g c = λ within s stands. all_seen g.H.Hasher.hash_of (record { shape = g.F.Family.shape; bytes = g.row.N }) s c.args.chunks _ _
    (c.loop-first.invariant.seen s stands) c.in-None.ensures.steps.0
