use Rattle.std.proofs.Common.{arith, map, length, ◌≡◌, ◌+◌, ◌-◌, ◌<◌, ◌≤◌, [], ap, ◌∙◌, sym, drop, take}
use Rattle.std.proofs.lemmas.List.{drop-map, length-take-le}
use Rattle.storage_merkle.specs.Shape.{size}
use Rattle.storage_merkle.specs.Laws.Shape.{grows_at_most}
use Rattle.storage_merkle.proofs.MemNodes.{holds_pruned, holds_at, rotated}
use Rattle.storage_merkle.proofs.merkle.mem.Mem.prune.Goals as goal

pub peaks_over-digests-requires : goal.peaks_over-digests-requires
peaks_over-digests-requires g c =
    let i = c.self.invariant in
    let hi : c.as_u64-to.result ≤ c.self.inside.leaves = c.if-to-self.false in
    let lo : c.self.inside.boundary < c.as_u64-to.result = c.if-to-self-2.false in
    let up : size g.F.Family.shape c.as_u64-to.result ≤ size g.F.Family.shape c.self.inside.leaves =
    grows_at_most (size g.F.Family.shape) g.met.F.Family.laws.grows _ _ hi in (
      g.met.D.Digest.few,
      (
        omega arith,
        (
          omega (arith, i.few),
          (omega arith, (c.deref.ensures.len ∙ i.pins, omega (arith, i.count, c.deref-2.ensures.len))),
        ),
      ),
    )

pub overflow_sub-gone : goal.overflow_sub-gone
overflow_sub-gone g c =
    let lo : c.self.inside.boundary < c.as_u64-to.result = c.if-to-self-2.false in
    let up : size g.F.Family.shape c.self.inside.boundary ≤ size g.F.Family.shape c.as_u64-to.result =
    grows_at_most (size g.F.Family.shape) g.met.F.Family.laws.grows _ _ (omega arith) in
    omega (arith, c.nodes_over.ensures, c.nodes_over-2.ensures)

pub overflow_sub-rest : goal.overflow_sub-rest
overflow_sub-rest g c =
    let up : size g.F.Family.shape c.as_u64-to.result ≤ size g.F.Family.shape c.self.inside.leaves =
    grows_at_most (size g.F.Family.shape) g.met.F.Family.laws.grows _ _ c.if-to-self.false in
    omega (arith, c.nodes_over.ensures, c.nodes_over-2.ensures, c.len.ensures, c.self.invariant.count)

pub rotate_left-requires : goal.rotate_left-requires
rotate_left-requires g c =
    let up : size g.F.Family.shape c.as_u64-to.result ≤ size g.F.Family.shape c.self.inside.leaves =
    grows_at_most (size g.F.Family.shape) g.met.F.Family.laws.grows _ _ c.if-to-self.false in
    omega (arith, c.nodes_over.ensures, c.nodes_over-2.ensures, c.self.invariant.count)

pub invariant_of-self : goal.invariant_of-self
invariant_of-self g c =
    let up : size g.F.Family.shape c.as_u64-to.result ≤ size g.F.Family.shape c.self.inside.leaves =
    grows_at_most (size g.F.Family.shape) g.met.F.Family.laws.grows _ _ c.if-to-self.false in
    let lo : c.self.inside.boundary < c.as_u64-to.result = c.if-to-self-2.false in
    let low : size g.F.Family.shape c.self.inside.boundary ≤ size g.F.Family.shape c.as_u64-to.result =
    grows_at_most (size g.F.Family.shape) g.met.F.Family.laws.grows _ _ (omega arith) in
    let few = c.peaks_over-digests.ensures.count in
    let len : length c.in-Ok.pinned.items ≡ c.peaks_over-digests.result.1 =
    ap length c.in-Ok.ensures.items ∙ length-take-le c.peaks_over-digests.result.1 c.peaks_over-digests.result.0
    (omega (arith, c.peaks_over-digests.ensures.within, c.peaks_over-digests.ensures.room)) in
    record {
      few = c.self.invariant.few;
      order = c.if-to-self.false;
      pins = omega (arith, c.in-Ok.pinned.ok);
      count = omega (
        arith,
        c.self.invariant.count,
        c.nodes_over.ensures,
        c.nodes_over-2.ensures,
        c.len.ensures,
        c.rotate_left.ensures.len,
        c.truncate.ensures.len,
      );
    }

pub returns-clause-stands : goal.returns-clause-stands
returns-clause-stands g c N list s =
    let S = g.F.Family.shape in
    let L = g.met.F.Family.laws in
    let f = g.D.Digest.text in
    let node = N list in
    let up : size S c.as_u64-to.result ≤ size S c.self.inside.leaves =
    grows_at_most (size S) L.grows _ _ c.if-to-self.false in
    let lo : c.self.inside.boundary < c.as_u64-to.result = c.if-to-self-2.false in
    let low : size S c.self.inside.boundary ≤ size S c.as_u64-to.result =
    grows_at_most (size S) L.grows _ _ (omega arith) in
    let s' = rw (← c.self.view_is) at s in
    let gone = size S c.as_u64-to.result - size S c.self.inside.boundary in
    let held = holds_at S L node [] c.self.inside.boundary (size S c.self.inside.leaves)
    (length c.self.inside.nodes.items + size S c.self.inside.boundary) _ _
    (omega (arith, c.self.invariant.count, c.deref-2.ensures.len, ap length c.deref-2.ensures.value)) s'.holds in
    let peaks = c.peaks_over-digests.ensures.digests node (rw (c.deref.ensures.value, c.deref-2.ensures.value) held) in
    let nodes : c.truncate.new.self.items ≡ drop gone c.self.inside.nodes.items =
    c.truncate.ensures.items
    ∙ ap (λ xs. take (c.len.result - (c.nodes_over.result - c.nodes_over-2.result)) xs) c.rotate_left.ensures.items
    ∙ rotated c.self.inside.nodes.items (c.nodes_over.result - c.nodes_over-2.result) (c.len.result
    - (c.nodes_over.result - c.nodes_over-2.result)) (omega (
      arith,
      c.self.invariant.count,
      c.nodes_over.ensures,
      c.nodes_over-2.ensures,
      c.len.ensures,
      c.deref-2.ensures.len,
      ap length c.deref-2.ensures.value,
    ))
    ∙ ap (λ k. drop k c.self.inside.nodes.items)
    (let e : c.nodes_over.result - c.nodes_over-2.result ≡ gone = omega (arith, c.nodes_over.ensures, c.nodes_over-2.ensures) in e) in
    record {
      count = s'.count;
      holds = holds_pruned S L node [] c.self.inside.boundary c.as_u64-to.result c.self.inside.leaves _ _ _ _
          (omega arith) c.if-to-self.false s'.holds
          (ap (map f) c.in-Ok.ensures.items ∙ peaks) (ap (map f) nodes ∙ sym (drop-map f gone c.self.inside.nodes.items));
    }

pub shared_whole_as_front-from_slice : goal.shared_whole_as_front-from_slice
shared_whole_as_front-from_slice g c = (c.peaks_over-digests.ensures.within, g.met.D.Digest.few)
