use Rattle.std.proofs.Common.{◌≡◌, [], length, ap, ◌∙◌, sym, refl, arith}
use Rattle.storage_merkle.specs.Kept.{at_peaks}
use Rattle.storage_merkle.specs.Hashing.{node_over, root_of}
use Rattle.storage_merkle.specs.Laws.Shape.{no_peaks}
use Rattle.storage_merkle.proofs.MemRoots.{rooted}
use Rattle.storage_merkle.proofs.merkle.mem.Mem.root.Goals as goal

pub returns-then-inactive-gt0-clause-why : goal.returns-then-inactive-gt0-clause-why
returns-then-inactive-gt0-clause-why g c =
    let e : length (g.F.Family.shape.peaks c.self.inside.leaves) ≡ 0 =
    ap (λ m. length (g.F.Family.shape.peaks m)) c.if-self-eq0.true
    ∙ ap length (no_peaks g.F.Family.shape g.met.F.Family.laws) in
    (rw (← c.self.view_is) (omega (arith, e, c.if-inactive-gt0.true)), refl)

pub returns-then-self-eq0-clause-root : goal.returns-then-self-eq0-clause-root
returns-then-self-eq0-clause-root g c list s =
    let S = g.F.Family.shape in
    let h = g.H.Hasher.hash_of in
    let T = g.H.Hasher.layout c.args.hasher.now in
    let b = g.H.Hasher.bagging c.args.hasher.now in
    let z : 0 ≡ c.args.inactive = omega (arith, c.if-inactive-gt0.false) in
    let n : c.leaves.result ≡ 0 = c.leaves.ensures ∙ ap (λ m. m.leaves) (sym c.self.view_is) ∙ c.if-self-eq0.true in
    let none : [] ≡ at_peaks (node_over h T (g.H.Hasher.chunk c.args.hasher.now) list) 0 (S.peaks c.leaves.result) =
    ap (at_peaks (node_over h T (g.H.Hasher.chunk c.args.hasher.now) list) 0)
    (sym (ap S.peaks n ∙ no_peaks S g.met.F.Family.laws)) in
    c.root.ensures ∙ ap (λ i. root_of h T b c.leaves.result i []) z
    ∙ rooted h S T (g.met.H.Hasher.over c.args.hasher.now)
    (g.H.Hasher.chunk c.args.hasher.now) b list c.args.inactive c.leaves.result [] (c.leaves.ensures ∙ s.count) none

pub returns-clause-root : goal.returns-clause-root
returns-clause-root g c = grind arith
