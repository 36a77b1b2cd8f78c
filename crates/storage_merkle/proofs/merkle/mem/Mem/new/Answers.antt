use Rattle.std.proofs.Common.{arith, refl, ap, ◌∙◌, sym, length, map, []}
use Rattle.storage_merkle.specs.Laws.Shape.{no_peaks}
use Rattle.storage_merkle.specs.Kept.{at_peaks}
use Rattle.storage_merkle.proofs.merkle.mem.Mem.new.Goals as goal

pub invariant_of-result : goal.invariant_of-result
invariant_of-result g c =
    let e = ap length (no_peaks g.F.Family.shape g.met.F.Family.laws) in
    record {
      few = omega arith;
      order = omega arith;
      pins = omega (arith, e, c.new.ensures.len);
      count = omega (arith, c.new-2.ensures.len);
    }

pub returns-clause-stands : goal.returns-clause-stands
returns-clause-stands g c N = record {
  count = refl;
  holds = record {
    peaks = ap (map g.D.Digest.text) c.new.ensures.items
        ∙ sym (ap (at_peaks (N []) 0) (no_peaks g.F.Family.shape g.met.F.Family.laws));
    from = λ a k al lo hi clean. absurd (omega arith);
  };
}
