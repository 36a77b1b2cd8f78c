use Rattle.std.proofs.Common.{◌≡◌, ◌<◌, ◌+◌, ◌++◌, ◌∷◌, [], ℕ, length, take, set, arith, sym, ap, ◌∙◌, refl, rules}
use Rattle.std.proofs.lemmas.List.{length-set, length_push, take_more_set}
use Rattle.storage_merkle.specs.Shape.{size}
use Rattle.storage_current.specs.NodeLists.{seen_in}
use Rattle.storage_current.proofs.NodeLists.{none_read, read_more, all_read}
use Rattle.storage_current.proofs.qmdb.current.view.view_peaks.Goals as goal

pub peaks-position-items-requires : goal.peaks-position-items-requires
peaks-position-items-requires g c = (c.args.operations.now.leaves, c.requires.few, sym c.size.ensures)

pub loop-position-init : goal.loop-position-init
loop-position-init g c = record {
  room = refl;
  count = refl;
  read = none_read g.H.Digest.Digest.text g.F.Family.shape c.args.operations.now.leaves
      (seen_in g.F.Family.shape c.args.height c.args.operations.now c.args.chunks.now) _ _ c.requires.had refl
      (c.into_iter-position-iterator.ensures.into_iter_gives
      ∙ c.peaks-position-items.ensures c.args.operations.now.leaves (sym c.size.ensures));
}

pub unwrap-requires : goal.unwrap-requires
unwrap-requires g c =
    let i = rw c.in-Some.ensures.steps at c.loop-position.invariant.read.some in
    rw c.view_digest-in-loop-position.ensures i.0

pub listed : goal.listed
listed g c =
    let so_far = c.loop-position.invariant in
    let k = rw c.in-Some.ensures.steps at so_far.read.count in
    omega (
      arith,
      k,
      so_far.count,
      so_far.room,
      g.met.F.Family.laws.few c.args.operations.now.leaves c.requires.few,
    )

pub offset_bounds-peaks-count : goal.offset_bounds-peaks-count
offset_bounds-peaks-count g c =
    let so_far = c.loop-position.invariant in
    let k = rw c.in-Some.ensures.steps at so_far.read.count in
    let below : c.loop-position.count < length c.loop-position.peaks = omega (
      arith,
      k,
      so_far.count,
      so_far.room,
      g.met.F.Family.laws.few c.args.operations.now.leaves c.requires.few,
    ) in
    search rules

pub loop-position-preserved : goal.loop-position-preserved
loop-position-preserved g c =
    let text = g.H.Digest.Digest.text in
    let S = g.F.Family.shape in
    let m = c.args.operations.now in
    let seen = seen_in S c.args.height m c.args.chunks.now in
    let so_far = c.loop-position.invariant in
    let peaks = c.loop-position.peaks in
    let n : ℕ = c.loop-position.count in
    let d = c.unwrap.result in
    let k = rw c.in-Some.ensures.steps at so_far.read.count in
    let within : n < length peaks =
    omega (arith, k, so_far.count, so_far.room, g.met.F.Family.laws.few m.leaves c.requires.few) in
    let step : take (n + 1) (set peaks n d) ≡ take n peaks ++ d ∷ [] = take_more_set peaks n d within in
    record {
      room = length-set peaks n d ∙ so_far.room;
      count = ap length step ∙ length_push (take n peaks) d ∙ ap (λ (x : ℕ). x + 1) so_far.count;
      read = rw step (read_more text S m.leaves seen (take n peaks) _ _ _ c.view_digest-in-loop-position.result d
          so_far.read c.in-Some.ensures.steps c.view_digest-in-loop-position.ensures c.unwrap.ensures);
    }

pub returns-clause-count : goal.returns-clause-count
returns-clause-count g c =
    let n = rw c.in-None.ensures.steps.0 at c.loop-position.invariant.read.count in
    omega (arith, n, c.loop-position.invariant.count)

pub returns-clause-digests : goal.returns-clause-digests
returns-clause-digests g c digest_of are =
    let S = g.F.Family.shape in
    let m = c.args.operations.now in
    all_read g.H.Digest.Digest.text S digest_of m.leaves (seen_in S c.args.height m c.args.chunks.now)
    (take c.loop-position.count c.loop-position.peaks) _ c.loop-position.invariant.read c.in-None.ensures.steps.0 are
