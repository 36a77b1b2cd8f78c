use Rattle.std.proofs.Common.{◌≡◌, ◌+◌, ℕ, length, ap, sym, ◌∙◌, arith}
use Rattle.storage_merkle.specs.Shape.{size}
use Rattle.storage_current.specs.Combined.{joined}
use Rattle.storage_current.specs.GraftedTrees.{regrafted}
use Rattle.storage_current.proofs.NodeLists.{all_read}
use Rattle.storage_current.proofs.PinReads.{all_had, as_read, none_taken, take_more}
use Rattle.storage_current.proofs.qmdb.current.grafting.root.had_peaks.Goals as goal

pub loop-position-init : goal.loop-position-init
loop-position-init g c =
    let S = g.F.Family.shape in
    let text = g.H.Digest.Digest.text in
    none_taken text S c.args.leaves (joined S c.args.height (size S c.args.leaves) (regrafted g.H.Hasher.digest_of text S
    c.args.height (g.R.Readable.node c.args.grafted_tree.now)) (g.S.Readable.node c.args.ops_tree.now))
    c.new-peaks.result.items _ c.new-peaks.ensures.items (c.into_iter-position-iterator.ensures.into_iter_gives
    ∙ c.peaks-position-items.ensures c.args.leaves (sym (c.new.ensures ∙ c.nodes_over.ensures)))

pub loop-position-preserved : goal.loop-position-preserved
loop-position-preserved g c =
    let S = g.F.Family.shape in
    let text = g.H.Digest.Digest.text in
    rw c.in_ok-push.ensures.items (take_more text S c.args.leaves (joined S c.args.height (size S c.args.leaves)
    (regrafted g.H.Hasher.digest_of text S c.args.height (g.R.Readable.node c.args.grafted_tree.now))
    (g.S.Readable.node c.args.ops_tree.now)) c.loop-position.peaks.items _ _ _ c.had_digest.result
    c.in-Some-had_digest.digest c.loop-position.invariant c.in-Some.ensures.steps c.had_digest.ensures
    c.in-Some-had_digest.is)

pub returns : goal.returns
returns g c =
    let S = g.F.Family.shape in
    let text = g.H.Digest.Digest.text in
    let n : ℕ = c.args.leaves in
    let answers = joined S c.args.height (size S n) (regrafted g.H.Hasher.digest_of text S c.args.height
    (g.R.Readable.node c.args.grafted_tree.now)) (g.S.Readable.node c.args.ops_tree.now) in
    let taken = c.loop-position.invariant in
    let none = c.in-None.ensures.steps.0 in
    let read = c.loop-position.peaks.items in
    let all = all_had text S n answers read _ taken none in (
      all,
      omega (arith, taken.count, ap length none),
      λ digest_of are. all_read text S digest_of n answers read _ (as_read text S n answers read _ taken all) none are,
    )
