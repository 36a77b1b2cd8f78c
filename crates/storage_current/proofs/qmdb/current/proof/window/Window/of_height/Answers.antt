use Rattle.std.proofs.Common.{refl, sym, arith}
use Rattle.storage_current.specs.Laws.Grafting.{height_of_power}
use Rattle.storage_current.proofs.qmdb.current.proof.window.Window.of_height.Goals as goal

pub returns-then-last_chunk-first_chunk : goal.returns-then-last_chunk-first_chunk
returns-then-last_chunk-first_chunk g c = λ n size power w.
    let e = height_of_power g.F.Family.shape n c.args.height power in
    c.if-last_chunk-first_chunk.true (rw c.in_ok-end.ensures.1 (sym (rw e at w.chunk_count)))

pub returns-then-counts-gt1 : goal.returns-then-counts-gt1
returns-then-counts-gt1 g c = λ n size power w.
    let e = height_of_power g.F.Family.shape n c.args.height power in
    let one = rw e at w.one_pending in
    absurd (omega (arith, one, c.over-counts.ensures.complete, c.over-counts.ensures.graftable, c.if-counts-gt1.true))

pub returns : goal.returns
returns g c = λ n size power.
    let e = height_of_power g.F.Family.shape n c.args.height power in
    record {
      fits = record {
        size = size;
        some = omega arith;
        few = omega arith;
        within = omega (arith, c.in_ok-end.ensures.1);
        chunk_count = rw e (sym (rw c.in_ok-end.ensures.1 at c.if-last_chunk-first_chunk.false));
        one_pending = rw e
            (omega (arith, c.over-counts.ensures.complete, c.over-counts.ensures.graftable, c.if-counts-gt1.false));
      };
      height_is = sym e;
      first_is = rw e refl;
      last_is = rw (e, c.in_ok-end.ensures.1) refl;
      complete_is = rw e c.over-counts.ensures.complete;
      graftable_is = rw e c.over-counts.ensures.graftable;
      next_is = rw e c.over-counts.ensures.next_bit;
    }
