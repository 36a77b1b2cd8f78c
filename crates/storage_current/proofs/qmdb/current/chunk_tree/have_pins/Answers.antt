use Rattle.std.proofs.Common.{◌≡◌, ◌+◌, ◌*◌, ◌^◌, ◌≤◌, ◌<◌, ◌∙◌, ℕ, ap, ap₂, subst, sym, arith, refl}
use Rattle.std.proofs.lemmas.Bool.{false≢true}
use Rattle.storage_merkle.specs.Rests.{EachPeak}
use Rattle.storage_merkle.specs.Shape.{size}
use Rattle.storage_merkle.specs.Trees.{Peak}
use Rattle.storage_merkle.specs.Laws.Shape.{grows_at_most}
use Rattle.storage_current.specs.GraftedTrees.{IsPeak}
use Rattle.storage_current.specs.Laws.Grafting.{height_of_power}
use Rattle.storage_current.specs.Pins.{HavePins}
use Rattle.storage_current.specs.Snapshots.{Grafting, height}
use Rattle.storage_current.proofs.Beginnings.{IsRaisedIn, each_raised, few_chunks, peak_raised}
use Rattle.storage_current.proofs.Pinned.{each_of}
use Rattle.storage_current.proofs.qmdb.current.chunk_tree.have_pins.Goals as goal

pub over-first-items-requires : goal.over-first-items-requires
over-first-items-requires g c =
    let G : Grafting = record { shape = g.F.Family.shape; bytes = g.row.N } in
    few_chunks G c.args.chunks (omega (arith, c.requires.within, c.requires.few))

pub loop-first-init : goal.loop-first-init
loop-first-init g c =
    let S = g.F.Family.shape in
    let G : Grafting = record { shape = S; bytes = g.row.N } in
    let at = c.into_iter-first-iterator.ensures.into_iter_gives ∙ c.over-first-items.ensures in
    rw at (record {
      each = each_of (IsPeak (S.peaks c.args.chunks) 0) 0 (S.peaks c.args.chunks) (λ a k i. i);
      had = λ each a k peak. each_raised G c.args.leaves (S.peaks c.args.chunks) 0 each a k peak;
    })

pub overflow_mul-first : goal.overflow_mul-first
overflow_mul-first g c =
    let S = g.F.Family.shape in
    let G : Grafting = record { shape = S; bytes = g.row.N } in
    let level : height G ≡ c.height-above.result = height_of_power S g.row.N _ c.height-above.ensures.power in
    let few : c.args.chunks * 2 ^ height G ≤ 2 ^ 62 = omega (arith, c.requires.within, c.requires.few) in
    let steps = c.in-Some.ensures.steps in
    let each = subst (EachPeak (IsPeak (S.peaks c.args.chunks) 0)) steps.0 c.loop-first.invariant.each in
    let up = peak_raised G g.met.F.Family.laws c.args.chunks _ _ few steps.1.aligned each.0 in
    let wide : c.in-Some.first * c.power.result ≡ c.in-Some.first * 2 ^ height G =
    ap (λ (w : ℕ). c.in-Some.first * w) (c.power.ensures ∙ ap (λ (k : ℕ). 2 ^ k) (sym level)) in
    omega (arith, wide, up.ends)

pub position-requires-clause-aligned : goal.position-requires-clause-aligned
position-requires-clause-aligned g c =
    let S = g.F.Family.shape in
    let G : Grafting = record { shape = S; bytes = g.row.N } in
    let level : height G ≡ c.height-above.result = height_of_power S g.row.N _ c.height-above.ensures.power in
    let few : c.args.chunks * 2 ^ height G ≤ 2 ^ 62 = omega (arith, c.requires.within, c.requires.few) in
    let steps = c.in-Some.ensures.steps in
    let each = subst (EachPeak (IsPeak (S.peaks c.args.chunks) 0)) steps.0 c.loop-first.invariant.each in
    let up = peak_raised G g.met.F.Family.laws c.args.chunks _ _ few steps.1.aligned each.0 in
    rw (c.power.ensures, ← level) up.aligned

pub position-requires-clause-fits : goal.position-requires-clause-fits
position-requires-clause-fits g c =
    let S = g.F.Family.shape in
    let G : Grafting = record { shape = S; bytes = g.row.N } in
    let level : height G ≡ c.height-above.result = height_of_power S g.row.N _ c.height-above.ensures.power in
    let few : c.args.chunks * 2 ^ height G ≤ 2 ^ 62 = omega (arith, c.requires.within, c.requires.few) in
    let steps = c.in-Some.ensures.steps in
    let each = subst (EachPeak (IsPeak (S.peaks c.args.chunks) 0)) steps.0 c.loop-first.invariant.each in
    let up = peak_raised G g.met.F.Family.laws c.args.chunks _ _ few steps.1.aligned each.0 in
    rw (c.power.ensures, ← level) up.fits

pub returns-then-position-size : goal.returns-then-position-size
returns-then-position-size g c =
    let S = g.F.Family.shape in
    let L = g.met.F.Family.laws in
    let G : Grafting = record { shape = S; bytes = g.row.N } in
    let level : height G ≡ c.height-above.result = height_of_power S g.row.N _ c.height-above.ensures.power in
    let few : c.args.chunks * 2 ^ height G ≤ 2 ^ 62 = omega (arith, c.requires.within, c.requires.few) in
    let steps = c.in-Some.ensures.steps in
    let each = subst (EachPeak (IsPeak (S.peaks c.args.chunks) 0)) steps.0 c.loop-first.invariant.each in
    let up = peak_raised G L c.args.chunks _ _ few steps.1.aligned each.0 in
    let at : c.position.result ≡ S.position (c.in-Some.first * 2 ^ height G) (c.in-Some.height + height G) =
    c.position.ensures ∙ ap₂ S.position (ap (λ (w : ℕ). c.in-Some.first * w)
    (c.power.ensures ∙ ap (λ (k : ℕ). 2 ^ k) (sym level))) (ap (λ (k : ℕ). c.in-Some.height + k) (sym level)) in (
      λ yes. absurd (false≢true yes),
      λ have.
          let inside : S.position (c.in-Some.first * 2 ^ height G) (c.in-Some.height + height G) < size S c.args.leaves =
          (L.born c.args.leaves (c.in-Some.first * 2 ^ height G) (c.in-Some.height + height G) up.aligned).1
          (have c.in-Some.first c.in-Some.height each.0) in
          absurd (omega (arith, inside, at, c.nodes_over-size.ensures, c.if-position-size.true)),
    )

pub loop-first-preserved : goal.loop-first-preserved
loop-first-preserved g c =
    let S = g.F.Family.shape in
    let L = g.met.F.Family.laws in
    let G : Grafting = record { shape = S; bytes = g.row.N } in
    let level : height G ≡ c.height-above.result = height_of_power S g.row.N _ c.height-above.ensures.power in
    let few : c.args.chunks * 2 ^ height G ≤ 2 ^ 62 = omega (arith, c.requires.within, c.requires.few) in
    let steps = c.in-Some.ensures.steps in
    let each = subst (EachPeak (IsPeak (S.peaks c.args.chunks) 0)) steps.0 c.loop-first.invariant.each in
    let up = peak_raised G L c.args.chunks _ _ few steps.1.aligned each.0 in
    let at : c.position.result ≡ S.position (c.in-Some.first * 2 ^ height G) (c.in-Some.height + height G) =
    c.position.ensures ∙ ap₂ S.position (ap (λ (w : ℕ). c.in-Some.first * w)
    (c.power.ensures ∙ ap (λ (k : ℕ). 2 ^ k) (sym level))) (ap (λ (k : ℕ). c.in-Some.height + k) (sym level)) in
    let raised : IsRaisedIn G c.args.leaves c.in-Some.first c.in-Some.height =
    (L.born c.args.leaves (c.in-Some.first * 2 ^ height G) (c.in-Some.height + height G) up.aligned).0
    (omega (arith, at, c.nodes_over-size.ensures, c.if-position-size.false)) in
    let had = subst (λ ps. EachPeak (IsRaisedIn G c.args.leaves) ps → HavePins G c.args.leaves c.args.chunks) steps.0
    c.loop-first.invariant.had in
    record { each = each.1; had = λ later. had (raised, later) }

pub returns : goal.returns
returns g c =
    let S = g.F.Family.shape in
    let G : Grafting = record { shape = S; bytes = g.row.N } in
    let had = subst (λ ps. EachPeak (IsRaisedIn G c.args.leaves) ps → HavePins G c.args.leaves c.args.chunks)
    c.in-None.ensures.steps.0 c.loop-first.invariant.had in
    (λ yes. had tt, λ have. refl)
