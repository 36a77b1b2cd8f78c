use Rattle.std.proofs.Common.{arith, ℕ, ◌≡◌, ◌+◌, ◌<◌, List, ◌∷◌, drop, get_or, get_or-drop, slice_index, length, ap, ◌∙◌, sym}
use Rattle.std.proofs.lemmas.List.{length-drop, drop_more}
use Rattle.storage_merkle.specs.Kept.{pins}
use Rattle.storage_merkle.proofs.MemNodes.{length_pins}
use Rattle.storage_merkle.proofs.merkle.peaks.count_pins.Goals as goal

first_left : (xs rest : List ℕ) (k p : ℕ) → p ∷ rest ≡ drop k xs → p ≡ slice_index xs k
first_left xs rest k p e =
    ap (λ ys. get_or ys 0 0) e ∙ get_or-drop k xs 0 0 ∙ ap (λ i. get_or xs i 0) (let z : k + 0 ≡ k = omega arith in z)

add-left-zero : (n : ℕ) → 0 + n ≡ n
add-left-zero n = omega arith

rest_left : (xs rest : List ℕ) (k p : ℕ) → p ∷ rest ≡ drop k xs → rest ≡ drop (k + 1) xs
rest_left xs rest k p e =
    let l : k < length xs = omega (arith, length-drop k xs, ap length e) in
    let f : p ∷ rest ≡ get_or xs k 0 ∷ drop (k + 1) xs = e ∙ drop_more xs k 0 l in
    cc

pub loop-position-init : goal.loop-position-init
loop-position-init g c = record {
  rest = c.into_iter-position-iterator.ensures.into_iter_gives ∙ c.nodes_to_pin-position-items.ensures;
  count = add-left-zero _ ∙ ap length (c.into_iter-position-iterator.ensures.into_iter_gives
      ∙ c.nodes_to_pin-position-items.ensures) ∙ length_pins g.F.Family.shape c.args.boundary;
  low = omega arith;
}

pub returns-then-count-given-clause-missing : goal.returns-then-count-given-clause-missing
returns-then-count-given-clause-missing g c =
    let e = c.in-Some.ensures.steps in (
      omega (arith, c.loop-position.invariant.count, ap length e),
      first_left (pins g.F.Family.shape c.args.boundary)
          c.next.new.self c.args.given c.in-Some.position (sym e ∙ c.loop-position.invariant.rest
          ∙ ap (λ k. drop k (pins g.F.Family.shape c.args.boundary)) c.if-count-given.true),
    )

pub overflow_add-count : goal.overflow_add-count
overflow_add-count g c = omega (arith, c.ranges.given.fits, c.loop-position.invariant.low, c.if-count-given.false)

pub loop-position-preserved : goal.loop-position-preserved
loop-position-preserved g c =
    let e = c.in-Some.ensures.steps in
    record {
      rest = rest_left (pins g.F.Family.shape c.args.boundary) c.next.new.self c.loop-position.count c.in-Some.position
          (sym e ∙ c.loop-position.invariant.rest);
      count = omega (arith, c.loop-position.invariant.count, ap length e);
      low = omega (arith, c.loop-position.invariant.low, c.if-count-given.false);
    }
