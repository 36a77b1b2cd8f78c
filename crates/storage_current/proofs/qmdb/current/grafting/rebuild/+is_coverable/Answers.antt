use Rattle.std.proofs.Common.{arith, rules, ◌≡◌, ◌+◌, ◌-◌, ◌^◌, ◌<◌, true, false, refl}
use Rattle.std.specs.Option.{is_some}
use Rattle.storage_current.specs.GraftedTrees.{IsKeptIn}
use Rattle.storage_current.proofs.Rebuilt.{halves, covered_kept, covered_leaf, covered_both, covered_halves}
use Rattle.storage_current.proofs.qmdb.current.grafting.rebuild.+is_coverable.Goals as goal

pub returns-then-is_some : goal.returns-then-is_some
returns-then-is_some g t c =
    let some : is_some (g.R.Readable.node c.args.tree.now (g.F.Family.shape.position c.args.first c.args.height)) ≡ true =
    rw (← c.position.ensures, ← c.new-position.ensures, ← c.get_node.ensures) (search rules) in (
      (λ _. covered_kept (IsKeptIn g.F.Family.shape (g.R.Readable.node c.args.tree.now)) c.args.height c.args.first some),
      (λ _. refl),
    )

pub returns-then-height-eq0 : goal.returns-then-height-eq0
returns-then-height-eq0 g t c =
    let none : is_some (g.R.Readable.node c.args.tree.now (g.F.Family.shape.position c.args.first c.args.height)) ≡ false =
    rw (← c.position.ensures, ← c.new-position.ensures, ← c.get_node.ensures) (search rules) in (
      (λ e. absurd (cc)),
      (λ x. let some = covered_leaf (IsKeptIn g.F.Family.shape (g.R.Readable.node c.args.tree.now)) c.args.height
          c.args.first c.if-height-eq0.true x in absurd (cc)),
    )

pub is_coverable-requires : goal.is_coverable-requires
is_coverable-requires g t c κs within =
    let h = halves g.F.Family.shape g.met.F.Family.laws c.args.first c.args.height c.requires.aligned
    c.if-height-eq0.false in
    let l = h.left in
    let f : g.F.Family.shape.position c.args.first (c.args.height - 1) < 2 ^ 64 =
    omega (arith, h.left_before, c.requires.fits) in
    search rules

pub returns-then-not-is_coverable : goal.returns-then-not-is_coverable
returns-then-not-is_coverable g t c =
    let none : is_some (g.R.Readable.node c.args.tree.now (g.F.Family.shape.position c.args.first c.args.height)) ≡ false =
    rw (← c.position.ensures, ← c.new-position.ensures, ← c.get_node.ensures) (search rules) in (
      (λ e. absurd (cc)),
      (λ x. let both = covered_halves (IsKeptIn g.F.Family.shape (g.R.Readable.node c.args.tree.now)) c.args.height
          c.args.first c.if-height-eq0.false (λ e. absurd (cc)) x in
          let yes = c.is_coverable.ensures.1 both.0 in
          absurd (cc)),
    )

pub overflow_add-first : goal.overflow_add-first
overflow_add-first g t c =
    let h = halves g.F.Family.shape g.met.F.Family.laws c.args.first c.args.height c.requires.aligned
    c.if-height-eq0.false in
    rw c.power.ensures (omega (arith, h.first, c.requires.fits))

pub is_coverable-requires-2 : goal.is_coverable-requires-2
is_coverable-requires-2 g t c κs within =
    let h = halves g.F.Family.shape g.met.F.Family.laws c.args.first c.args.height c.requires.aligned
    c.if-height-eq0.false in
    let l = h.right in
    let f : g.F.Family.shape.position (c.args.first + 2 ^ (c.args.height - 1)) (c.args.height - 1) < 2 ^ 64 =
    omega (arith, h.right_before, c.requires.fits) in
    rw c.power.ensures (search rules)

pub returns : goal.returns
returns g t c =
    let P = IsKeptIn g.F.Family.shape (g.R.Readable.node c.args.tree.now) in
    let none : is_some (g.R.Readable.node c.args.tree.now (g.F.Family.shape.position c.args.first c.args.height)) ≡ false =
    rw (← c.position.ensures, ← c.new-position.ensures, ← c.get_node.ensures) (search rules) in
    let left = c.is_coverable.ensures.0 (c.if-not-is_coverable.false) in
    let right = rw c.power.ensures at c.is_coverable-2.ensures in (
      (λ e. covered_both P c.args.height c.args.first c.if-height-eq0.false left (right.0 e)),
      (λ x. right.1 (covered_halves P c.args.height c.args.first c.if-height-eq0.false (λ e. absurd (cc)) x).1),
    )
