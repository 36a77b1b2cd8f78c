use Rattle.std.proofs.Common.{arith, rules, map, length, ◌≡◌, ◌-◌, ◌*◌, ◌/◌, ◌<◌, ◌≤◌, ◌^◌, refl, ap, ap₂, ◌∙◌}
use Rattle.std.proofs.lemmas.List.{length-map, map-set, length-set}
use Rattle.storage_merkle.specs.Shape.{size}
use Rattle.storage_merkle.specs.Laws.Shape.{grows_at_most, grows_below}
use Rattle.storage_merkle.specs.Hashing.{node_over}
use Rattle.storage_merkle.specs.Rewriting.{over}
use Rattle.storage_merkle.proofs.Rewriting.{over_is, room, written_first, written_more, written_all, written_until, place_late, place_early, birth_small}
use Rattle.storage_merkle.proofs.merkle.mem.nodes.write_leaf.Goals.{then-birth-leaves-via-then-birth-leaves, then-birth-leaves-via-else-birth-leaves+then-is_below}
use Rattle.std.proofs.lemmas.Grind.{common_steps}
use Rattle.storage_merkle.proofs.merkle.mem.nodes.write_leaf.Goals as goal

pub offset_bounds-nodes-nodes_over : goal.offset_bounds-nodes-nodes_over
offset_bounds-nodes-nodes_over g c =
    let lo : size g.F.Family.shape c.args.boundary ≤ size g.F.Family.shape c.args.place =
    grows_at_most (size g.F.Family.shape) g.met.F.Family.laws.grows _ _ c.requires.kept in
    let hi : size g.F.Family.shape c.args.place < size g.F.Family.shape c.args.leaves =
    grows_below (size g.F.Family.shape) g.met.F.Family.laws.grows _ _ c.requires.within in
    let lt : c.nodes_over.result - c.nodes_over-start.result < length c.args.nodes.now = omega arith in
    let le : c.nodes_over.result - c.nodes_over-start.result ≤ length c.args.nodes.now = omega arith in
    search rules

pub bounds-nodes-nodes_over : goal.bounds-nodes-nodes_over
bounds-nodes-nodes_over g c =
    let lo : size g.F.Family.shape c.args.boundary ≤ size g.F.Family.shape c.args.place =
    grows_at_most (size g.F.Family.shape) g.met.F.Family.laws.grows _ _ c.requires.kept in
    let hi : size g.F.Family.shape c.args.place < size g.F.Family.shape c.args.leaves =
    grows_below (size g.F.Family.shape) g.met.F.Family.laws.grows _ _ c.requires.within in
    omega arith

pub loop-height-init : goal.loop-height-init
loop-height-init g c list rest h e =
    let hi : size g.F.Family.shape c.args.place < size g.F.Family.shape c.args.leaves =
    grows_below (size g.F.Family.shape) g.met.F.Family.laws.grows _ _ c.requires.within in
    rw map-set (written_first g.F.Family.shape g.met.F.Family.laws
    (node_over g.H.Hasher.hash_of (g.H.Hasher.layout c.args.hasher.now) (g.H.Hasher.chunk c.args.hasher.now) list)
    rest c.args.boundary (size g.F.Family.shape c.args.leaves) c.args.place _ _ _ _ (omega arith) c.requires.kept
    (rw length-map c.requires.count) hi h e)

pub birth-requires : goal.birth-requires
birth-requires g c =
    rw (c.power.ensures, c.power-in-loop-height.ensures) (birth_small g.F.Family.shape g.met.F.Family.laws c.args.place
    c.loop-height.height (omega (arith, c.requires.few, c.requires.within)) (omega arith))

pub returns-then-birth-leaves : goal.returns-then-birth-leaves
returns-then-birth-leaves g c list rest is h e =
    let f : c.args.place / c.power.result * c.power-in-loop-height.result ≡ over c.args.place c.loop-height.height =
    ap₂ (λ x y. c.args.place / x * y) c.power.ensures c.power-in-loop-height.ensures in
    let b : c.birth.result ≡ g.F.Family.shape.birth (over c.args.place c.loop-height.height) c.loop-height.height =
    c.birth.ensures ∙ ap (λ m. g.F.Family.shape.birth m c.loop-height.height) f in
    let node =
    node_over g.H.Hasher.hash_of (g.H.Hasher.layout c.args.hasher.now) (g.H.Hasher.chunk c.args.hasher.now) list in
    let below = c.loop-height.invariant list rest h e in
    elim c.then-birth-leaves.branch [
      | then-birth-leaves-via-then-birth-leaves w ↦
          let late : c.args.leaves < c.birth.result = w.if-birth-leaves.true in
          written_all g.F.Family.shape g.met.F.Family.laws node rest c.args.boundary c.args.leaves c.args.place
          c.loop-height.height _ _ (omega arith) below
      | then-birth-leaves-via-else-birth-leaves+then-is_below w ↦
          written_until g.F.Family.shape g.met.F.Family.laws node rest c.args.next c.args.boundary c.args.leaves
          c.args.place c.loop-height.height _ _ is
          (let r = w.is_below.ensures.0 (w.if-is_below.true) in (r.0, r.1, omega (arith, r.2), omega (arith, r.3))) below
    ]

pub parent_digest-digest-requires-clause-takes : goal.parent_digest-digest-requires-clause-takes
parent_digest-digest-requires-clause-takes g c =
    let k = c.loop-height.height in
    let f : c.args.place / c.power.result * c.power-in-loop-height.result ≡ over c.args.place k =
    ap₂ (λ x y. c.args.place / x * y) c.power.ensures c.power-in-loop-height.ensures in
    let b : c.birth.result ≡ g.F.Family.shape.birth (over c.args.place k) k =
    c.birth.ensures ∙ ap (λ m. g.F.Family.shape.birth m k) f in
    let o = over_is c.args.place k in
    c.requires.takes _ (over c.args.place k) k c.args.place
    (record { aligned = o.aligned; at = refl }, let above : 1 ≤ k = omega arith in above)
    (place_early g.F.Family.shape g.met.F.Family.laws c.args.leaves c.args.place k (omega arith))
    (0, omega arith, refl) o.low o.high

pub position-requires-clause-aligned : goal.position-requires-clause-aligned
position-requires-clause-aligned g c = let o = over_is c.args.place c.loop-height.height in
    rw (c.power.ensures, c.power-in-loop-height.ensures) o.aligned

pub position-requires-clause-fits : goal.position-requires-clause-fits
position-requires-clause-fits g c = let r = room g.F.Family.shape g.met.F.Family.laws c.args.leaves c.args.place
    c.loop-height.height c.requires.few c.requires.within (omega arith) (omega arith) in
    rw (c.power.ensures, c.power-in-loop-height.ensures) r.fits

pub overflow_sub-digest-in-loop-height : goal.overflow_sub-digest-in-loop-height
overflow_sub-digest-in-loop-height g c =
    let f : c.args.place / c.power.result * c.power-in-loop-height.result ≡ over c.args.place c.loop-height.height =
    ap₂ (λ x y. c.args.place / x * y) c.power.ensures c.power-in-loop-height.ensures in
    let e : c.position.result
    ≡ g.F.Family.shape.position (over c.args.place c.loop-height.height) c.loop-height.height =
    c.position.ensures ∙ ap (λ m. g.F.Family.shape.position m c.loop-height.height) f in
    omega (
      arith,
      e,
      place_late g.F.Family.shape g.met.F.Family.laws c.args.boundary c.args.place c.loop-height.height
          c.requires.kept,
    )

pub bounds-nodes-position : goal.bounds-nodes-position
bounds-nodes-position g c =
    let f : c.args.place / c.power.result * c.power-in-loop-height.result ≡ over c.args.place c.loop-height.height =
    ap₂ (λ x y. c.args.place / x * y) c.power.ensures c.power-in-loop-height.ensures in
    let e : c.position.result
    ≡ g.F.Family.shape.position (over c.args.place c.loop-height.height) c.loop-height.height =
    c.position.ensures ∙ ap (λ m. g.F.Family.shape.position m c.loop-height.height) f in
    let b : c.birth.result ≡ g.F.Family.shape.birth (over c.args.place c.loop-height.height) c.loop-height.height =
    c.birth.ensures ∙ ap (λ m. g.F.Family.shape.birth m c.loop-height.height) f in
    let early = place_early g.F.Family.shape g.met.F.Family.laws c.args.leaves c.args.place c.loop-height.height
    (omega arith) in
    omega (
      arith,
      e,
      early,
      c.requires.count,
      c.loop-height.auto.nodes,
      length-set c.args.nodes.now (c.nodes_over.result - c.nodes_over-start.result) c.args.digest,
      place_late
          g.F.Family.shape g.met.F.Family.laws c.args.boundary c.args.place c.loop-height.height c.requires.kept,
    )

pub offset_bounds-nodes-position : goal.offset_bounds-nodes-position
offset_bounds-nodes-position g c =
    let f : c.args.place / c.power.result * c.power-in-loop-height.result ≡ over c.args.place c.loop-height.height =
    ap₂ (λ x y. c.args.place / x * y) c.power.ensures c.power-in-loop-height.ensures in
    let e : c.position.result
    ≡ g.F.Family.shape.position (over c.args.place c.loop-height.height) c.loop-height.height =
    c.position.ensures ∙ ap (λ m. g.F.Family.shape.position m c.loop-height.height) f in
    let b : c.birth.result ≡ g.F.Family.shape.birth (over c.args.place c.loop-height.height) c.loop-height.height =
    c.birth.ensures ∙ ap (λ m. g.F.Family.shape.birth m c.loop-height.height) f in
    let early = place_early g.F.Family.shape g.met.F.Family.laws c.args.leaves c.args.place c.loop-height.height
    (omega arith) in
    let lt : c.position.result - c.nodes_over-start.result < length c.loop-height.nodes =
    omega (
      arith,
      e,
      early,
      c.requires.count,
      c.loop-height.auto.nodes,
      length-set c.args.nodes.now (c.nodes_over.result - c.nodes_over-start.result) c.args.digest,
      place_late
          g.F.Family.shape g.met.F.Family.laws c.args.boundary c.args.place c.loop-height.height c.requires.kept,
    ) in
    let le : c.position.result - c.nodes_over-start.result ≤ length c.loop-height.nodes = omega arith in
    search rules

pub loop-height-preserved : goal.loop-height-preserved
loop-height-preserved g c list rest h e =
    let S = g.F.Family.shape in
    let L = g.met.F.Family.laws in
    let node =
    node_over g.H.Hasher.hash_of (g.H.Hasher.layout c.args.hasher.now) (g.H.Hasher.chunk c.args.hasher.now) list in
    let b = g.H.Digest.Digest.text in
    let k = c.loop-height.height in
    let f : c.args.place / c.power.result * c.power-in-loop-height.result ≡ over c.args.place k =
    ap₂ (λ x y. c.args.place / x * y) c.power.ensures c.power-in-loop-height.ensures in
    let at : c.position.result ≡ S.position (over c.args.place k) k = c.position.ensures ∙ ap (λ m. S.position m k) f in
    let born : c.birth.result ≡ S.birth (over c.args.place k) k = c.birth.ensures ∙ ap (λ m. S.birth m k) f in
    let w = c.loop-height.invariant list rest h e in
    let more = written_more S L node rest c.args.boundary (size S c.args.leaves) c.args.place k
    (map b c.args.pinned.now) (map b c.loop-height.nodes) (b c.parent_digest-digest.result) c.requires.kept
    (rw length-map (omega (
      arith,
      c.requires.count,
      c.loop-height.auto.nodes,
      length-set c.args.nodes.now (c.nodes_over.result - c.nodes_over-start.result) c.args.digest,
    )))
    (place_early S L c.args.leaves c.args.place k (omega arith)) w
    (λ clean. c.parent_digest-digest.ensures list rest w clean) in
    rw (map-set, at, c.nodes_over-start.ensures) more

pub returns : goal.returns
returns g c list rest is h e =
    let z : c.loop-height.height ≡ 63 = omega arith in
    written_all g.F.Family.shape g.met.F.Family.laws
    (node_over g.H.Hasher.hash_of (g.H.Hasher.layout c.args.hasher.now) (g.H.Hasher.chunk c.args.hasher.now) list)
    rest c.args.boundary c.args.leaves c.args.place c.loop-height.height _ _
    (let l = g.met.F.Family.laws.late (over c.args.place c.loop-height.height) c.loop-height.height in
    let p : 2 ^ c.loop-height.height ≡ 2 ^ 63 = ap (λ m. 2 ^ m) z in omega (arith, l, p, c.requires.few))
    (c.loop-height.invariant list rest h e)

pub overflow_sub-digest : goal.overflow_sub-digest
overflow_sub-digest g c = grind arith

pub overflow_mul-first : goal.overflow_mul-first
overflow_mul-first g c = grind (arith, common_steps)
