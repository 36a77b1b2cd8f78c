use Rattle.std.proofs.Common.{◌≡◌, ◌≤◌, [], length, map, take, refl, ap, sym, ◌∙◌, arith}
use Rattle.storage_merkle.specs.Trees.{Layout, places, tree_node}
use Rattle.storage_merkle.specs.Laws.Shape.{no_peaks}
use Rattle.storage_current.proofs.Roots.{root_from}
use Rattle.storage_current.proofs.qmdb.current.view.view_root.Goals as goal

pub root-requires : goal.root-requires
root-requires g c =
    let S = g.F.Family.shape in
    let zero : c.args.operations.now.leaves ≡ 0 =
    sym c.leaves-leaves.ensures ∙ sym c.as_u64.ensures ∙ c.if-as_u64-eq0.true in
    let none : length (S.peaks c.args.operations.now.leaves) ≡ 0 =
    ap (λ n. length (S.peaks n)) zero ∙ ap length (no_peaks S g.met.F.Family.laws) in
    omega (arith, none, c.requires.inactive)

pub returns-then-as_u64-eq0 : goal.returns-then-as_u64-eq0
returns-then-as_u64-eq0 g c grafted content count all =
    let S = g.F.Family.shape in
    let h = g.H.Hasher.hash_of in
    let T : Layout = record { shape = S; position = S.position; grafted = grafted } in
    let zero : c.args.operations.now.leaves ≡ 0 =
    sym c.leaves-leaves.ensures ∙ sym c.as_u64.ensures ∙ c.if-as_u64-eq0.true in
    let none : S.peaks c.args.operations.now.leaves ≡ [] = ap S.peaks zero ∙ no_peaks S g.met.F.Family.laws in
    root_from h S grafted content c.args.operations.now.leaves c.args.inactive c.hasher.result.bagging [] _
    c.hasher.ensures count
    (sym (ap (λ ks. map (λ p. tree_node h T content p.first p.height) (places 0 ks)) none))
    (rw c.leaves-leaves.ensures at c.root.ensures)

pub returns : goal.returns
returns g c grafted content count all =
    let h = g.H.Hasher.hash_of in
    let T : Layout = record { shape = g.F.Family.shape; position = g.F.Family.shape.position; grafted = grafted } in
    root_from h T.shape grafted content c.args.operations.now.leaves c.args.inactive c.hasher-2.result.bagging _ _
    c.hasher-2.ensures count (c.view_peaks-peaks.ensures.digests (tree_node h T content) all)
    (rw c.leaves-leaves.ensures at c.root-2.ensures)
