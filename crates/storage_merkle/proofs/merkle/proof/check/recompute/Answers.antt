use Rattle.std.proofs.Common.{arith, refl, map, option_map, length, ap, sym, ℕ, ◌≡◌, ◌+◌, ◌-◌, ◌≤◌, ◌++◌, ◌∙◌}
use Rattle.std.proofs.lemmas.List.{length-map}
use Rattle.std.proofs.lemmas.Grind.{common_steps}
use Rattle.storage_merkle.specs.CheckParts.{Adds, top_sites}
use Rattle.storage_merkle.specs.Extracted.{checked, checked_sites, digest_at, entries, by_bytes}
use Rattle.storage_merkle.specs.RangeProofs.{apart, position_of, recomputed_root}
use Rattle.storage_merkle.specs.Rests.{peaks_from}
use Rattle.storage_merkle.specs.Siblings.{sibling_sites}
use Rattle.storage_merkle.specs.Trees.{ungrafted}
use Rattle.storage_merkle.proofs.Check.Siblings.{siblings_rise, siblings_present, siblings_serve}
use Rattle.storage_merkle.proofs.Check.Roots.{Walk, Fits, claim, proof_over, tops, values, too_few, not_as_many, fit, tops_read, siblings_read, root_is, apart_count, after_all, claim_on}
use Rattle.storage_merkle.proofs.Found.{adds_same, found_rest}
use Rattle.storage_merkle.proofs.merkle.proof.check.recompute.Given.{Over}
use Rattle.storage_merkle.proofs.merkle.proof.check.recompute.Goals.{After-count_apart, After-split_at}
use Rattle.storage_merkle.proofs.merkle.proof.check.recompute.Goals as goal

module _ (g : Over) (c : After-count_apart g) where
  -- the walk past the peaks that lead
  abbrev walk : Walk g.F.Family.shape g.H.Digest.Digest.text
  walk =
      let all = c.all-all.result in
      let rest = c.after_leading-rest.result in
      record {
        h = g.H.Hasher.hash_of;
        T = g.H.Hasher.layout c.args.hasher.now;
        same = g.met.H.Hasher.over c.args.hasher.now;
        b = g.H.Hasher.bagging c.args.hasher.now;
        n = c.as_u64-leaves.result;
        i = c.args.proof.now.inactive_peaks;
        low = c.as_u64-start.result;
        elements = map g.E.AsSlice.items c.args.elements.now;
        chunk = g.H.Hasher.chunk c.args.hasher.now;
        items = c.args.proof.now.digests.now;
        high = c.in-Some.end;
        f = all.folded;
        a = rest.first;
        r = rest.left;
        g = rest.folded;
        range = c.in-Some.ensures.1
            ∙ ap (λ m. c.as_u64-start.result + m) (sym (length-map c.args.elements.now g.E.AsSlice.items));
        parts = c.all-all.ensures.folded;
        after = after_all g.F.Family.shape c.as_u64-start.result c.as_u64-leaves.result all.folded all.first all.left
            rest.first rest.left rest.folded c.all-all.ensures.first c.all-all.ensures.left
            c.after_leading-rest.ensures.after;
      }

  counted : c.from.result + c.count_apart.result ≡ length (tops walk)
  counted =
      let rest = c.after_leading-rest.result in
      apart_count rest.first c.from.result c.count_apart.result (top_sites c.as_u64-start.result c.in-Some.end
      (peaks_from g.F.Family.shape rest.first rest.left) rest.folded) c.from.ensures c.count_apart.ensures.exact

  -- what holds at the numbers holds at the arguments
  at_args : (P : ℕ → ℕ → Type 0) → P c.as_u64-leaves.result c.as_u64-start.result
      → P c.args.proof.now.leaves c.args.start
  at_args P p = claim_on P c.as_u64-leaves.result c.args.proof.now.leaves c.as_u64-start.result c.args.start
      c.as_u64-leaves.ensures c.as_u64-start.ensures p

module _ (g : Over) (c : After-split_at g) where
  siblings : c.len.result ≡ length
      (sibling_sites (ungrafted g.F.Family.shape) c.as_u64-leaves.result c.as_u64-start.result c.in-Some.end)
  siblings = omega (
    arith,
    c.len.ensures,
    ap length c.in_ok-siblings.ensures,
    length-map (sibling_sites (ungrafted g.F.Family.shape) c.as_u64-leaves.result c.as_u64-start.result c.in-Some.end)
        (position_of (ungrafted g.F.Family.shape)),
  )

  enough : c.from.result + c.count_apart.result ≤ length c.args.proof.now.digests.now
  enough = omega (arith, c.if-proof-apart.false)

  as_many : length c.args.proof.now.digests.now - (c.from.result + c.count_apart.result) ≡ c.len.result
  as_many = let kept : length c.args.proof.now.digests.now - (c.from.result + c.count_apart.result) ≡ c.len.result =
      c.if-proof-apart-2.false in kept

pub returns-then-proof-apart-clause-root : goal.returns-then-proof-apart-clause-root
returns-then-proof-apart-clause-root g c =
    let k = (goal.at.returns-then-proof-apart-clause-root g c).After-count_apart in
    at_args g k (λ m start. Fits (walk g k) m start → ⊥)
    (too_few (walk g k) (c.from.result + c.count_apart.result) (counted g k) (omega arith))

pub returns-then-proof-apart-2-clause-root : goal.returns-then-proof-apart-2-clause-root
returns-then-proof-apart-2-clause-root g c =
    let k = (goal.at.returns-then-proof-apart-2-clause-root g c).After-count_apart in
    let beside = sibling_sites (ungrafted g.F.Family.shape) c.as_u64-leaves.result c.as_u64-start.result c.in-Some.end in
    let siblings : c.len.result ≡ length beside = omega (
      arith,
      c.len.ensures,
      ap length c.in_ok-siblings.ensures,
      length-map beside (position_of (ungrafted g.F.Family.shape)),
    ) in
    at_args g k (λ m start. Fits (walk g k) m start → ⊥)
    (not_as_many (walk g k) (c.from.result + c.count_apart.result) c.len.result (counted g k) siblings
    (λ e. c.if-proof-apart-2.true (omega arith)))

pub bag-requires-clause-given : goal.bag-requires-clause-given
bag-requires-clause-given g c = record {
  few = c.if-leaves-gt-MAX_LEAVES.false;
  range = c.in-Some.ensures.1;
  rising = siblings_rise g.F.Family.shape c.as_u64-leaves.result c.as_u64-start.result c.in-Some.end c.deref.result.now
      (c.deref.ensures.value ∙ c.in_ok-siblings.ensures);
  enough = let as_many : length c.args.proof.now.digests.now - (c.from.result + c.count_apart.result) ≡ c.len.result =
      c.if-proof-apart-2.false in omega (arith, c.split_at.ensures.back_len, c.deref.ensures.len, c.len.ensures);
}

pub bag-requires-clause-present : goal.bag-requires-clause-present
bag-requires-clause-present g c =
    let w = walk g (goal.at.bag-requires-clause-present g c).After-count_apart in
    siblings_present g.F.Family.shape w.low w.high c.deref.result.now w.n w.f w.a w.r w.g
    (c.deref.ensures.value ∙ c.in_ok-siblings.ensures) w.after

pub returns-clause-root : goal.returns-clause-root
returns-clause-root g c =
    let text = g.H.Digest.Digest.text in
    let k = (goal.at.returns-clause-root g c).After-count_apart in
    let s = (goal.at.returns-clause-root g c).After-split_at in
    let w = walk g k in
    let m = c.from.result + c.count_apart.result in
    let some = c.if-start-end.false in
    let v = values w m c.len.result (counted g k) (siblings g s) (enough g s) (as_many g s) some in
    let top = ap (map text) c.split_at.ensures.front
    ∙ tops_read w m c.len.result (counted g k) (siblings g s) (enough g s) (as_many g s) some in
    let beside = ap (map text) c.split_at.ensures.back
    ∙ siblings_read w m c.len.result (counted g k) (siblings g s) (enough g s) (as_many g s) some in
    let serves = siblings_serve g.F.Family.shape g.met.F.Family.laws v.digest w.n w.low w.high c.deref.result.now
    (map text c.split_at.result.1.now) (c.deref.ensures.value ∙ c.in_ok-siblings.ensures) beside in
    at_args g k (λ z start. Fits w z start
    × (text c.bagged_root.result ≡ recomputed_root w.h w.T w.b (proof_over w z) start (claim w))) (
      fit w m c.len.result (counted g k) (siblings g s) (enough g s) (as_many g s) some
          c.if-leaves-gt-MAX_LEAVES.false (omega (arith, c.peak_count-peaks.ensures)) c.if-end-leaves.false,
      root_is w m c.len.result (counted g k) (siblings g s) (enough g s) (as_many g s) some
          (text c.bagged_root.result) (option_map text c.in_ok-bag.bag) (c.in_ok-bag.ensures v.digest serves top).0
          c.bagged_root.ensures,
    )

pub returns-clause-found : goal.returns-clause-found
returns-clause-found g c =
    let text = g.H.Digest.Digest.text in
    let k = (goal.at.returns-clause-found g c).After-count_apart in
    let s = (goal.at.returns-clause-found g c).After-split_at in
    let w = walk g k in
    let m = c.from.result + c.count_apart.result in
    let some = c.if-start-end.false in
    let v = values w m c.len.result (counted g k) (siblings g s) (enough g s) (as_many g s) some in
    let top = ap (map text) c.split_at.ensures.front
    ∙ tops_read w m c.len.result (counted g k) (siblings g s) (enough g s) (as_many g s) some in
    let beside = ap (map text) c.split_at.ensures.back
    ∙ siblings_read w m c.len.result (counted g k) (siblings g s) (enough g s) (as_many g s) some in
    let serves = siblings_serve g.F.Family.shape g.met.F.Family.laws v.digest w.n w.low w.high c.deref.result.now
    (map text c.split_at.result.1.now) (c.deref.ensures.value ∙ c.in_ok-siblings.ensures) beside in
    let all = found_rest w.h w.T w.low w.high v g.F.Family.shape w.n w.f w.a w.r w.g w.same w.after in
    at_args g k (λ z start. Adds (λ v. by_bytes text v.items) c.args.found.now c.bag.new.found (checked w.h w.T w.b
    (proof_over w z) start (claim w) (checked_sites w.T z start (start + length w.elements))))
    (adds_same _ c.args.found.now c.bag.new.found _ _ (all ∙ ap (λ z. entries w.T
    (digest_at w.h v w.T (apart w.low z)) (checked_sites w.T w.n w.low z)) w.range)
    (c.in_ok-bag.ensures v.digest serves top).1)

pub returns-clause-fits : goal.returns-clause-fits
returns-clause-fits g c =
    let k = (goal.at.returns-clause-fits g c).After-count_apart in
    let s = (goal.at.returns-clause-fits g c).After-split_at in
    let w : Walk g.F.Family.shape g.H.Digest.Digest.text =
    record (walk g k) { T = ungrafted g.F.Family.shape; same = refl } in
    at_args g k (Fits w) (fit w (c.from.result + c.count_apart.result) c.len.result (counted g k) (siblings g s)
    (enough g s) (as_many g s) c.if-start-end.false c.if-leaves-gt-MAX_LEAVES.false
    (omega (arith, c.peak_count-peaks.ensures)) c.if-end-leaves.false)

pub returns-in_default-clause-root : goal.returns-in_default-clause-root
returns-in_default-clause-root g c = grind (arith, common_steps)

pub returns-then-start-end-clause-root : goal.returns-then-start-end-clause-root
returns-then-start-end-clause-root g c = grind (arith, common_steps)
