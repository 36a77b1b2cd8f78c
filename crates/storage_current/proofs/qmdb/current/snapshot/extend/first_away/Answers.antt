use Rattle.std.proofs.Common.{◌<◌, ◌≤◌, ℕ, arith, inl, inr, length, refl, sym, ◌∙◌}
use Rattle.std.proofs.lemmas.Grind.{get_or_default_zero}
use Rattle.storage_merkle.specs.Kept.{IsFirstAway}
use Rattle.storage_current.proofs.qmdb.current.snapshot.extend.first_away.Goals as goal

pub returns-then-as_u64-leaves : goal.returns-then-as_u64-leaves
returns-then-as_u64-leaves g c =
    let i : ℕ = c.loop-location.location-index in
    let at : ℕ = c.location-item.result in
    let within : i < length c.args.locations.now = c.loop-location-test.true in
    let first : IsFirstAway c.args.leaves c.args.pruned c.args.locations.now at = record {
      index = i;
      within = within;
      is = sym (c.location-item.is ∙ get_or_default_zero c.args.locations.now i at within);
      before = λ j l. c.loop-location.invariant j l;
    } in
    let past : c.args.leaves ≤ at = omega (arith, c.as_u64.ensures, c.if-as_u64-leaves.true) in
    (at, first, inl (past, refl))

pub returns-then-as_u64-pruned : goal.returns-then-as_u64-pruned
returns-then-as_u64-pruned g c =
    let i : ℕ = c.loop-location.location-index in
    let at : ℕ = c.location-item.result in
    let within : i < length c.args.locations.now = c.loop-location-test.true in
    let first : IsFirstAway c.args.leaves c.args.pruned c.args.locations.now at = record {
      index = i;
      within = within;
      is = sym (c.location-item.is ∙ get_or_default_zero c.args.locations.now i at within);
      before = λ j l. c.loop-location.invariant j l;
    } in
    let gone : at < c.args.pruned = omega (arith, c.as_u64-in-loop-location.ensures, c.if-as_u64-pruned.true) in
    (at, first, inr (gone, refl))
