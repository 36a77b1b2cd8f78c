use Rattle.std.proofs.Common.{arith, rules, ◌≡◌, ◌+◌, ◌-◌, ◌^◌, ◌<◌, ℕ, List, Option, Some, None, option_map, true, false, inl, inr, ap, ap₂, sym, ◌∙◌}
use Rattle.std.specs.Option.{is_some}
use Rattle.storage_merkle.specs.Hashing.{join_digest}
use Rattle.storage_current.specs.GraftedTrees.{IsKeptIn, TakesMade, made_of, rebuilt}
use Rattle.storage_current.proofs.Rebuilt.{halves, made_halves, made_none, map_some, none_some, rebuilt_halves, rebuilt_here}
use Rattle.storage_current.proofs.qmdb.current.grafting.rebuild.+rebuild.Goals.{then-is_some-via-then-is_some, then-is_some-via-else-is_some+then-height-eq0}
use Rattle.storage_current.proofs.qmdb.current.grafting.rebuild.+rebuild.Goals as goal

pub rebuild-requires : goal.rebuild-requires
rebuild-requires g t c κs within =
    let S = g.F.Family.shape in
    let h = halves S g.met.F.Family.laws c.args.first c.args.height c.requires.aligned c.if-height-eq0.false in
    let l = h.left in
    let f : S.position c.args.first (c.args.height - 1) < 2 ^ 64 = omega (arith, h.left_before, c.requires.fits) in
    let taken : ℕ → ℕ → Type 0 = λ a k. g.H.Hasher.takes c.args.hasher.now (S.position a k) in
    let none : is_some (g.R.Readable.node c.args.tree.now (S.position c.args.first c.args.height)) ≡ false =
    rw (← c.position.ensures, ← c.new-position.ensures, ← c.get_node-kept.ensures) (search rules) in
    let made = made_halves S (g.R.Readable.node c.args.tree.now) taken c.args.height c.args.first c.if-height-eq0.false none
    c.requires.takes in
    let u : TakesMade (IsKeptIn S (g.R.Readable.node c.args.tree.now)) taken (c.args.height - 1) c.args.first = made.1 in
    search rules

pub returns-in_err-left : goal.returns-in_err-left
returns-in_err-left g t c =
    let S = g.F.Family.shape in
    let text = g.R.Digest.Digest.text in
    let K : ℕ → Option (List ℕ) = λ p. option_map text (g.R.Readable.node c.args.tree.now p) in
    let J = join_digest g.H.Hasher.hash_of (g.H.Hasher.layout c.args.hasher.now) (g.H.Hasher.chunk c.args.hasher.now) in
    let none : is_some (g.R.Readable.node c.args.tree.now (S.position c.args.first c.args.height)) ≡ false =
    rw (← c.position.ensures, ← c.new-position.ensures, ← c.get_node-kept.ensures) (search rules) in
    let kept : K (S.position c.args.first c.args.height) ≡ None = ap (option_map text) (none_some _ none) in
    let halves_are = rebuilt_halves S J K c.args.height c.args.first c.if-height-eq0.false kept in
    let left : rebuilt S J K (c.args.height - 1) c.args.first ≡ None =
    sym c.rebuild.ensures ∙ ap (option_map text) c.in_err-left.was in
    ap (option_map text) c.from_residual.ensures
    ∙ sym (halves_are ∙ ap (λ x. made_of (J c.args.first c.args.height) x
    (rebuilt S J K (c.args.height - 1) (c.args.first + 2 ^ (c.args.height - 1)))) left)

pub overflow_add-first : goal.overflow_add-first
overflow_add-first g t c =
    let h = halves g.F.Family.shape g.met.F.Family.laws c.args.first c.args.height c.requires.aligned
    c.if-height-eq0.false in
    rw c.power.ensures (omega (arith, h.first, c.requires.fits))

pub rebuild-requires-2 : goal.rebuild-requires-2
rebuild-requires-2 g t c κs within =
    let S = g.F.Family.shape in
    let h = halves S g.met.F.Family.laws c.args.first c.args.height c.requires.aligned c.if-height-eq0.false in
    let l = h.right in
    let f : S.position (c.args.first + 2 ^ (c.args.height - 1)) (c.args.height - 1) < 2 ^ 64 =
    omega (arith, h.right_before, c.requires.fits) in
    let taken : ℕ → ℕ → Type 0 = λ a k. g.H.Hasher.takes c.args.hasher.now (S.position a k) in
    let none : is_some (g.R.Readable.node c.args.tree.now (S.position c.args.first c.args.height)) ≡ false =
    rw (← c.position.ensures, ← c.new-position.ensures, ← c.get_node-kept.ensures) (search rules) in
    let made = made_halves S (g.R.Readable.node c.args.tree.now) taken c.args.height c.args.first c.if-height-eq0.false none
    c.requires.takes in
    let u : TakesMade (IsKeptIn S (g.R.Readable.node c.args.tree.now)) taken (c.args.height - 1)
    (c.args.first + 2 ^ (c.args.height - 1)) = made.2 in
    rw c.power.ensures (search rules)

pub node_digest_over-requires-clause-takes : goal.node_digest_over-requires-clause-takes
node_digest_over-requires-clause-takes g t c =
    let S = g.F.Family.shape in
    let taken : ℕ → ℕ → Type 0 = λ a k. g.H.Hasher.takes c.args.hasher.now (S.position a k) in
    let none : is_some (g.R.Readable.node c.args.tree.now (S.position c.args.first c.args.height)) ≡ false =
    rw (← c.position.ensures, ← c.new-position.ensures, ← c.get_node-kept.ensures) (search rules) in
    let made = made_halves S (g.R.Readable.node c.args.tree.now) taken c.args.height c.args.first c.if-height-eq0.false none
    c.requires.takes in
    made.0

pub returns-in_err-right : goal.returns-in_err-right
returns-in_err-right g t c =
    let S = g.F.Family.shape in
    let text = g.R.Digest.Digest.text in
    let K : ℕ → Option (List ℕ) = λ p. option_map text (g.R.Readable.node c.args.tree.now p) in
    let J = join_digest g.H.Hasher.hash_of (g.H.Hasher.layout c.args.hasher.now) (g.H.Hasher.chunk c.args.hasher.now) in
    let none : is_some (g.R.Readable.node c.args.tree.now (S.position c.args.first c.args.height)) ≡ false =
    rw (← c.position.ensures, ← c.new-position.ensures, ← c.get_node-kept.ensures) (search rules) in
    let kept : K (S.position c.args.first c.args.height) ≡ None = ap (option_map text) (none_some _ none) in
    let halves_are = rebuilt_halves S J K c.args.height c.args.first c.if-height-eq0.false kept in
    let right : rebuilt S J K (c.args.height - 1) (c.args.first + 2 ^ (c.args.height - 1)) ≡ None =
    sym (rw c.power.ensures at c.rebuild-2.ensures) ∙ ap (option_map text) c.in_err-right.was in
    ap (option_map text) c.from_residual-in_err-right.ensures
    ∙ sym (halves_are
    ∙ ap (made_of (J c.args.first c.args.height) (rebuilt S J K (c.args.height - 1) c.args.first)) right
    ∙ made_none (J c.args.first c.args.height) (rebuilt S J K (c.args.height - 1) c.args.first))

pub returns : goal.returns
returns g t c =
    let S = g.F.Family.shape in
    let text = g.R.Digest.Digest.text in
    let K : ℕ → Option (List ℕ) = λ p. option_map text (g.R.Readable.node c.args.tree.now p) in
    let J = join_digest g.H.Hasher.hash_of (g.H.Hasher.layout c.args.hasher.now) (g.H.Hasher.chunk c.args.hasher.now) in
    let none : is_some (g.R.Readable.node c.args.tree.now (S.position c.args.first c.args.height)) ≡ false =
    rw (← c.position.ensures, ← c.new-position.ensures, ← c.get_node-kept.ensures) (search rules) in
    let kept : K (S.position c.args.first c.args.height) ≡ None = ap (option_map text) (none_some _ none) in
    let halves_are = rebuilt_halves S J K c.args.height c.args.first c.if-height-eq0.false kept in
    let left : rebuilt S J K (c.args.height - 1) c.args.first ≡ Some (text c.in_ok-left.left) =
    sym c.rebuild.ensures ∙ ap (option_map text) c.in_ok-left.was in
    let right : rebuilt S J K (c.args.height - 1) (c.args.first + 2 ^ (c.args.height - 1)) ≡ Some (text c.in_ok-right.right) =
    sym (rw c.power.ensures at c.rebuild-2.ensures) ∙ ap (option_map text) c.in_ok-right.was in
    ap Some c.node_digest_over.ensures ∙ sym (halves_are ∙ ap₂ (made_of (J c.args.first c.args.height)) left right)

pub returns-then-is_some : goal.returns-then-is_some
returns-then-is_some g t c =
    let S = g.F.Family.shape in
    let text = g.R.Digest.Digest.text in
    let K : ℕ → Option (List ℕ) = λ p. option_map text (g.R.Readable.node c.args.tree.now p) in
    let J = join_digest g.H.Hasher.hash_of (g.H.Hasher.layout c.args.hasher.now) (g.H.Hasher.chunk c.args.hasher.now) in
    let same : option_map text c.get_node-kept.result ≡ K (S.position c.args.first c.args.height) =
    ap (option_map text) (c.get_node-kept.ensures
    ∙ ap (g.R.Readable.node c.args.tree.now) (c.new-position.ensures ∙ c.position.ensures)) in
    same ∙ rebuilt_here S J K c.args.height c.args.first (elim c.then-is_some.branch [
      | then-is_some-via-then-is_some w ↦
          let yes : is_some c.get_node-kept.result ≡ true = (let some = w.if-is_some.true in search rules) in
          inl (ap is_some (sym same) ∙ map_some text c.get_node-kept.result ∙ yes)
      | then-is_some-via-else-is_some+then-height-eq0 w ↦ inr w.if-height-eq0.true
    ])
