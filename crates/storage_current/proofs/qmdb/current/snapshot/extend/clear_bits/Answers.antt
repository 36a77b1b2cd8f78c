use Rattle.std.proofs.Common.{◌≡◌, ◌<◌, ◌≤◌, ◌+◌, ◌-◌, ◌*◌, ◌++◌, ◌∷◌, [], ℕ, List, Bool, false, length, take, set, get_or, ap, ap₂, sym, ◌∙◌, arith, add-one}
use Rattle.std.proofs.Math.Seq.{take-suc}
use Rattle.std.proofs.lemmas.Grind.{get_or_default_zero}
use Rattle.std.proofs.lemmas.List.Elements.{All-get_or}
use Rattle.storage_bitmap.specs.Chunks.{bit_count}
use Rattle.storage_current.specs.Extended.{cleared_from}
use Rattle.storage_current.proofs.Growing.{cleared-push, length-cleared_from}
use Rattle.storage_current.proofs.qmdb.current.snapshot.extend.clear_bits.Goals as goal

pub set_bit-requires : goal.set_bit-requires
set_bit-requires g c =
    let i : ℕ = c.loop-location.location-index in
    let locations : List ℕ = c.args.locations.now in
    let old = c.args.status.now in
    let now = c.loop-location.status in
    let inside : i < length locations = c.loop-location-test.true in
    let at : c.as_u64.result ≡ get_or locations i 0 =
    c.as_u64.ensures ∙ c.location-item.is ∙ get_or_default_zero locations i c.location-item.result inside in
    let here = All-get_or (λ l. (old.pruned * (8 * g.row.N) ≤ l) × (l < bit_count g.row.N old)) locations i 0 inside
    c.requires.within in
    let len : length now.bits ≡ length old.bits =
    ap length c.loop-location.invariant.bits
    ∙ length-cleared_from (old.pruned * (8 * g.row.N)) (take i locations) old.bits in
    let same : now.pruned * (8 * g.row.N) ≡ old.pruned * (8 * g.row.N) =
    ap (λ (p : ℕ). p * (8 * g.row.N)) c.loop-location.invariant.pruned in
    let from : now.pruned * (8 * g.row.N) ≤ c.as_u64.result = omega (arith, same, at, here.0) in
    let within : c.as_u64.result < now.pruned * (8 * g.row.N) + length now.bits =
    omega (arith, at, here.1, len, same) in
    (omega arith, (from, within))

pub loop-location-preserved : goal.loop-location-preserved
loop-location-preserved g c =
    let i : ℕ = c.loop-location.location-index in
    let locations : List ℕ = c.args.locations.now in
    let old = c.args.status.now in
    let now = c.loop-location.status in
    let inside : i < length locations = c.loop-location-test.true in
    let at : c.as_u64.result ≡ get_or locations i 0 =
    c.as_u64.ensures ∙ c.location-item.is ∙ get_or_default_zero locations i c.location-item.result inside in
    let start : now.pruned * (8 * g.row.N) ≡ old.pruned * (8 * g.row.N) =
    ap (λ (p : ℕ). p * (8 * g.row.N)) c.loop-location.invariant.pruned in
    let place : c.as_u64.result - now.pruned * (8 * g.row.N) ≡ get_or locations i 0 - old.pruned * (8 * g.row.N) =
    ap₂ (λ (x y : ℕ). x - y) at start in
    let step : take (i + 1) locations ≡ take i locations ++ get_or locations i 0 ∷ [] =
    ap (λ (n : ℕ). take n locations) (add-one i) ∙ take-suc locations i 0 inside in
    record {
      pruned = ap (λ r. r.pruned) c.set_bit.ensures ∙ c.loop-location.invariant.pruned;
      bits = ap (λ r. r.bits) c.set_bit.ensures
          ∙ ap₂ (λ (b : List Bool) (p : ℕ). set b p false) c.loop-location.invariant.bits place
          ∙ sym (cleared-push (old.pruned * (8 * g.row.N)) (take i locations) (get_or locations i 0) old.bits)
          ∙ ap (λ (ls : List ℕ). cleared_from (old.pruned * (8 * g.row.N)) ls old.bits) (sym step);
    }
