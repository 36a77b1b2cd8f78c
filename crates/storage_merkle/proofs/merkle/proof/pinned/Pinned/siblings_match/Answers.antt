use Rattle.std.proofs.Common.{arith, refl, sym, inl, inr, All, subst, ◌∙◌, ◌+◌, ◌<◌, ◌≤◌, ◌^◌}
use Rattle.std.proofs.lemmas.List.Elements.{All-head, All-tail}
use Rattle.storage_merkle.specs.Shape.{size}
use Rattle.storage_merkle.specs.Laws.Shape.{valid_size}
use Rattle.storage_merkle.proofs.Pinned.Match.{passes, fails, none_left, differs, agrees}
use Rattle.storage_merkle.proofs.merkle.proof.pinned.Pinned.siblings_match.Goals as goal
use Rattle.storage_merkle.proofs.merkle.proof.pinned.Pinned.siblings_match.Goals.{else-first-power-via-then-first-power+else-ne, else-first-power-via-else-first-power}

pub node_at-first-requires : goal.node_at-first-requires
node_at-first-requires g c =
    let S = g.F.Family.shape in
    let low = All-head (λ p. p < size S c.args.self.now.leaves) _ _ (subst
    (All (λ p. p < size S c.args.self.now.leaves)) c.in-Some.ensures.steps.0 c.loop-position.invariant.within) in
    omega (
      arith,
      low,
      c.as_u64.ensures,
      valid_size S g.met.F.Family.laws c.args.self.now.leaves
          (size S c.args.self.now.leaves) c.requires.pinned.few refl,
    )

pub node-requires-clause-within : goal.node-requires-clause-within
node-requires-clause-within g c =
    let S = g.F.Family.shape in
    let low = All-head (λ p. p < size S c.args.self.now.leaves) _ _ (subst
    (All (λ p. p < size S c.args.self.now.leaves)) c.in-Some.ensures.steps.0 c.loop-position.invariant.within) in
    record {
      aligned = c.node_at-first.ensures.node.aligned;
      inside = omega (arith, low, c.as_u64.ensures, c.node_at-first.ensures.node.at);
    }

pub returns-then-ne : goal.returns-then-ne
returns-then-ne g c = λ ss digest recomputed are nodes texts.
    let S = g.F.Family.shape in
    let left = c.loop-position.invariant.so_far ss digest recomputed are nodes texts in
    let here = rw (c.in-Some.ensures.steps.0, c.in-Some.ensures.steps.1) at left in
    let at = rw c.as_u64.ensures at c.node_at-first.ensures.node in
    let ends : c.node_at-first.result.0 + 2 ^ c.node_at-first.result.1 ≤ c.args.self.now.start =
    omega (arith, c.power.ensures, c.if-first-power.true) in (
      λ no. cc,
      λ m. absurd (fails S g.met.F.Family.laws c.args.self.now.leaves c.args.self.now.start g.D.Digest.text digest
          recomputed ss c.in-Some.position.now c.node_at-first.result.0 c.node_at-first.result.1
          c.next.new.self.a.rest.now c.in-Some.digest.now c.next.new.self.b.rest.now at ends
          (λ e. differs g.D.PartialEq.eq g.D.Digest.text g.met.D.Digest.same _ _ c.if-ne.ensures
          (c.node.ensures ∙ sym (nodes _ _) ∙ e)) here m),
    )

pub loop-position-preserved : goal.loop-position-preserved
loop-position-preserved g c =
    let S = g.F.Family.shape in
    record {
      next = (tt, tt);
      ends = tt;
      within = All-tail (λ p. p < size S c.args.self.now.leaves) _ _ (subst
          (All (λ p. p < size S c.args.self.now.leaves)) c.in-Some.ensures.steps.0 c.loop-position.invariant.within);
      so_far = λ ss digest recomputed are nodes texts.
          let left = c.loop-position.invariant.so_far ss digest recomputed are nodes texts in
          let here = rw (c.in-Some.ensures.steps.0, c.in-Some.ensures.steps.1) at left in
          let at = rw c.as_u64.ensures at c.node_at-first.ensures.node in
          passes S g.met.F.Family.laws c.args.self.now.leaves c.args.self.now.start g.D.Digest.text digest recomputed ss
          c.in-Some.position.now c.node_at-first.result.0 c.node_at-first.result.1 c.next.new.self.a.rest.now
          c.in-Some.digest.now c.next.new.self.b.rest.now at
          (elim c.else-first-power.branch [
            | else-first-power-via-then-first-power+else-ne w ↦
                inr (sym (agrees g.D.PartialEq.eq g.D.Digest.text g.met.D.Digest.same _ _ w.if-ne.ensures)
                ∙ w.node.ensures ∙ sym (nodes _ _))
            | else-first-power-via-else-first-power w ↦ inl (omega (arith, c.power.ensures, w.if-first-power.false))
          ]) here;
    }

pub returns : goal.returns
returns g c = λ ss digest recomputed are nodes texts. (
  λ yes. none_left g.F.Family.shape g.met.F.Family.laws c.args.self.now.leaves c.args.self.now.start g.D.Digest.text
      digest recomputed ss c.loop-position.position-iterator.a.rest.now c.loop-position.position-iterator.b.rest.now
      (elim c.in-None.ensures.steps [ inl w ↦ inl w.1.0 | inr w ↦ inr w.1.0 ])
      (c.loop-position.invariant.so_far ss digest recomputed are nodes texts),
  λ m. refl,
)
