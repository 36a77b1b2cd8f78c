use Rattle.std.proofs.Common.{◌≡◌, ◌<◌, ℕ, ◌+◌, ◌++◌, ◌∷◌, [], List, Bool, false, length, take, get_or, ap, ◌∙◌, sym, arith, add-one}
use Rattle.std.proofs.Math.Seq.{take-suc}
use Rattle.std.proofs.lemmas.List.{length-take-le}
use Rattle.storage_bitmap.proofs.Bits.{one_appended}
use Rattle.storage_bitmap.proofs.bitmap.prunable.fill_all.Goals as goal

pub loop-bit-preserved : goal.loop-bit-preserved
loop-bit-preserved c =
    let bits : List Bool = c.args.bits.now in
    let i : ℕ = c.loop-bit.bit-index in
    let within : i < length bits = omega (arith, c.loop-bit-test.true) in
    let count : length (take i bits) ≡ i = length-take-le i bits (omega arith) in
    let next : c.loop-bit.next ≡ c.args.place + length (take i bits) = omega (arith, count, c.loop-bit.invariant.at) in
    let step : take (i + 1) bits ≡ take i bits ++ get_or bits i false ∷ [] =
    ap (λ n. take n bits) (add-one i) ∙ take-suc bits i false within in
    record {
      at = omega (arith, c.loop-bit.invariant.at);
      so_far = rw step (one_appended c.args.bytes.now.items c.loop-bit.bytes.items c.fill.new.bytes.items c.args.place
          (take i bits) (get_or bits i false) c.loop-bit.invariant.so_far
          (omega (arith, count, c.requires.within, c.loop-bit.invariant.so_far.len)) (rw next at c.fill.ensures));
    }
