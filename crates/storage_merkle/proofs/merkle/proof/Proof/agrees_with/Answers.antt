use Rattle.std.proofs.Common.{arith, refl, sym, ap, ap₂, map, length, take, drop, option_map, ℕ, List, ◌∙◌, ◌≡◌, ◌+◌, ◌↔◌, false, IsTrue}
use Rattle.std.proofs.lemmas.List.{length-map}
use Rattle.storage_merkle.specs.RangeProofs.{position_of}
use Rattle.storage_merkle.specs.Rests.{peaks_from}
use Rattle.storage_merkle.specs.Siblings.{sibling_sites}
use Rattle.storage_merkle.specs.Trees.{ungrafted}
use Rattle.storage_merkle.proofs.Check.Roots.{Walk, Fits, after_all, claim_on}
use Rattle.storage_merkle.proofs.Siblings.{not_both}
use Rattle.storage_merkle.proofs.Pinned.Checks.{Agrees, again, digest, fold_of, nonempty, pinned_counted, siblings_low, siblings_at, enough, beside_are, fold_refused, left_are, agree_where, peaks_agree, siblings_agree}
use Rattle.storage_merkle.proofs.merkle.proof.Proof.agrees_with.Given.{Over}
use Rattle.storage_merkle.proofs.merkle.proof.Proof.agrees_with.Goals as goal
use Rattle.storage_merkle.proofs.merkle.proof.Proof.agrees_with.Goals.{After-after_leading-rest, After-len-2, After-split_at, then-end-leaves-via-then-end-leaves, then-end-leaves-via-else-end-leaves+then-leaves-gt-MAX_LEAVES, then-end-leaves-via-else-end-leaves+else-leaves-gt-MAX_LEAVES+then-pinned-peak_count, then-peaks_match, else-peaks_match}

-- the walk past the peaks that lead, for some elements
abbrev walk : (g : Over) (c : After-after_leading-rest g) (elements : List (List ℕ)) → length elements ≡ c.args.count
    → Walk g.F.Family.shape g.D.Digest.text
walk g c elements as_many =
    let all = c.all-peaks.result in
    let rest = c.after_leading-rest.result in
    record {
      h = g.H.Hasher.hash_of;
      T = g.H.Hasher.layout c.args.hasher.now;
      same = g.met.H.Hasher.over c.args.hasher.now;
      b = g.H.Hasher.bagging c.args.hasher.now;
      n = c.as_u64-leaves.result;
      i = c.args.self.now.inactive_peaks;
      low = c.as_u64-start.result;
      elements = elements;
      chunk = g.H.Hasher.chunk c.args.hasher.now;
      items = c.args.self.now.digests.items;
      high = c.in-Some.end;
      f = all.folded;
      a = rest.first;
      r = rest.left;
      g = rest.folded;
      range = omega (arith, c.in-Some.ensures.1, as_many);
      parts = c.all-peaks.ensures.folded;
      after = after_all g.F.Family.shape c.as_u64-start.result c.as_u64-leaves.result all.folded all.first all.left
          rest.first rest.left rest.folded c.all-peaks.ensures.first c.all-peaks.ensures.left
          c.after_leading-rest.ensures.after;
    }

-- what holds at the numbers holds at the arguments
at_args : (g : Over) (c : After-after_leading-rest g) (P : ℕ → ℕ → Type 0)
    → P c.as_u64-leaves.result c.as_u64-start.result → P c.args.self.now.leaves c.args.start
at_args g c P p = claim_on P c.as_u64-leaves.result c.args.self.now.leaves c.as_u64-start.result c.args.start
    c.as_u64-leaves.ensures c.as_u64-start.ensures p

beside : (g : Over) (c : After-len-2 g) → c.len-2.result ≡ length
    (sibling_sites (ungrafted g.F.Family.shape) c.as_u64-leaves.result c.as_u64-start.result c.in-Some.end)
beside g c = omega (
  arith,
  c.len-2.ensures,
  ap length c.in_ok-siblings.ensures,
  length-map (sibling_sites (ungrafted g.F.Family.shape) c.as_u64-leaves.result c.as_u64-start.result c.in-Some.end)
      (position_of (ungrafted g.F.Family.shape)),
)

front : (g : Over) (c : After-split_at g) → map g.D.Digest.text c.split_at.result.0.now
    ≡ map g.D.Digest.text (take c.in-Some-checked_sub.apart c.args.self.now.digests.items)
front g c = ap (map g.D.Digest.text)
    (c.split_at.ensures.front ∙ ap (take c.in-Some-checked_sub.apart) c.deref.ensures.value)

pub returns-then-end-leaves : goal.returns-then-end-leaves
returns-then-end-leaves g c = λ elements as_many fit.
    let same = g.met.H.Hasher.over c.args.hasher.now in (
      λ no. cc,
      λ ok. absurd (elim c.then-end-leaves.branch [
        | then-end-leaves-via-then-end-leaves w ↦ (let within = fit.within in
            omega (arith, w.if-end-leaves.true, c.in-Some.ensures.1, c.as_u64-leaves.ensures, c.as_u64-start.ensures))
        | then-end-leaves-via-else-end-leaves+then-leaves-gt-MAX_LEAVES w ↦
            (let few = fit.few in omega (arith, w.if-leaves-gt-MAX_LEAVES.true, c.as_u64-leaves.ensures))
        | then-end-leaves-via-else-end-leaves+else-leaves-gt-MAX_LEAVES+then-pinned-peak_count w ↦ (
            let count = ok.count in
            let peaks = pinned_counted g.F.Family.shape g.H.Hasher.hash_of (g.H.Hasher.layout c.args.hasher.now) same
            (g.H.Hasher.bagging c.args.hasher.now) (record {
              leaves = c.args.self.now.leaves;
              inactive = c.args.self.now.inactive_peaks;
              digests = map g.D.Digest.text c.args.self.now.digests.items;
            })
            c.args.start (record { elements = elements; chunk = g.H.Hasher.chunk c.args.hasher.now })
            (map g.D.Digest.text c.args.pinned.now) in
            w.if-pinned-peak_count.true (omega (
              arith,
              count,
              peaks,
              length-map c.args.pinned.now g.D.Digest.text,
              w.peak_count.ensures,
              ap (λ s. length (g.F.Family.shape.peaks s)) c.as_u64-start.ensures,
            )))
      ]),
    )

pub returns-in_default-checked_sub : goal.returns-in_default-checked_sub
returns-in_default-checked_sub g c = λ elements as_many.
    let k = (goal.at.returns-in_default-checked_sub g c).After-after_leading-rest in
    let w = walk g k elements as_many in
    let pinned = map g.D.Digest.text c.args.pinned.now in
    at_args g k (λ m start. Fits w m start → IsTrue false ↔ Agrees w pinned m start) (λ fit. (
      λ no. cc,
      λ ok. absurd (c.in_default-checked_sub.ensures
          (omega (
            arith,
            enough w pinned fit,
            beside g (goal.at.returns-in_default-checked_sub g c).After-len-2,
            c.len.ensures,
          ))),
    ))

pub returns-in_default-after_fold : goal.returns-in_default-after_fold
returns-in_default-after_fold g c = λ elements as_many.
    let at = goal.at.returns-in_default-after_fold g c in
    let k = at.After-after_leading-rest in
    let w = walk g k elements as_many in
    let pinned = map g.D.Digest.text c.args.pinned.now in
    let folds = c.fold_leading-fold.ensures
    ∙ ap₂ (λ s r. fold_of w pinned (take w.f (peaks_from g.F.Family.shape s r)))
    c.all-peaks.ensures.first c.all-peaks.ensures.left in
    at_args g k (λ m start. Fits w m start → IsTrue false ↔ Agrees w pinned m start) (λ fit. (
      λ no. cc,
      λ ok. absurd (fold_refused w pinned fit c.in-Some-checked_sub.apart c.len-2.result (beside g at.After-len-2)
          (omega (arith, c.in-Some-checked_sub.ensures, c.len.ensures))
          (option_map g.D.Digest.text c.fold_leading-fold.result) folds
          (λ ds e. c.in_default-after_fold.ensures ds (front g at.After-split_at ∙ e)) ok),
    ))

pub siblings_match-requires-clause-within : goal.siblings_match-requires-clause-within
siblings_match-requires-clause-within g c =
    siblings_low g.F.Family.shape g.met.F.Family.laws c.as_u64-leaves.result c.as_u64-start.result c.in-Some.end
    c.deref-then-peaks_match.result.now (c.deref-then-peaks_match.ensures.value ∙ c.in_ok-siblings.ensures)

pub returns : goal.returns
returns g c = λ elements as_many.
    let S = g.F.Family.shape in
    let text = g.D.Digest.text in
    let at = goal.at.returns g c in
    let k = at.After-after_leading-rest in
    let w = walk g k elements as_many in
    let pinned = map text c.args.pinned.now in
    let apart = c.in-Some-checked_sub.apart in
    let count = c.len-2.result in
    let beside = beside g at.After-len-2 in
    let sum : apart + count ≡ length c.args.self.now.digests.items =
    omega (arith, c.in-Some-checked_sub.ensures, c.len.ensures) in
    let fold = option_map text c.fold_leading-fold.result in
    let folds = c.fold_leading-fold.ensures ∙ ap₂ (λ s r. fold_of w pinned (take w.f (peaks_from S s r)))
    c.all-peaks.ensures.first c.all-peaks.ensures.left in
    let back = ap (map text) (c.split_at.ensures.back ∙ ap (drop apart) c.deref.ensures.value) in
    let counted : length pinned ≡ length (S.peaks c.as_u64-start.result) =
    (let count : length c.args.pinned.now ≡ c.peak_count.result = c.if-pinned-peak_count.false in length-map c.args.pinned.now text ∙ count ∙ c.peak_count.ensures) in
    let left = map text c.in-Some-after_fold.tops.now in
    let starts = sym (front g at.After-split_at) ∙ c.in-Some-after_fold.ensures in
    at_args g k (λ m start. Fits w m start → IsTrue c.if-peaks_match.result ↔ Agrees w pinned m start) (λ fit.
    let here = left_are w pinned fit apart count beside sum fold folds left starts in
    let peaks = c.peaks_match.ensures c.in-Some.end (digest w pinned) (again w pinned) (nonempty w pinned fit)
    (λ a k. refl) here in
    elim c.if-peaks_match.branch [
      | then-peaks_match v ↦
          let texts = back ∙ beside_are w pinned fit apart count beside sum in
          let places = siblings_at S g.met.F.Family.laws c.as_u64-leaves.result c.as_u64-start.result c.in-Some.end
          v.deref-then-peaks_match.result.now (v.deref-then-peaks_match.ensures.value ∙ c.in_ok-siblings.ensures) in
          let others = v.siblings_match.ensures
          (sibling_sites (ungrafted S) c.as_u64-leaves.result c.as_u64-start.result c.in-Some.end)
          (digest w pinned) (again w pinned) places (λ a k. refl) texts in (
            λ y. agree_where w pinned fit apart count beside sum fold folds left starts counted
                (peaks.0 v.if-peaks_match.true) (others.0 (sym v.result-is ∙ y)),
            λ ok. v.result-is
                ∙ others.1 (siblings_agree w pinned fit apart count beside sum fold folds left starts ok),
          )
      | else-peaks_match v ↦ (
        λ y. absurd (not_both c.if-peaks_match.result y (v.result-is ∙ v.if-peaks_match.false)),
        λ ok. absurd (not_both c.peaks_match.result
            (peaks.1 (peaks_agree w pinned fit apart count beside sum fold folds left starts ok))
            v.if-peaks_match.false),
      )
    ])
