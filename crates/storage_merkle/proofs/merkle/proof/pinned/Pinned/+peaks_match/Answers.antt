use Rattle.std.proofs.Common.{arith, rules, refl, sym, ◌∙◌, ◌+◌, ◌≤◌, ◌^◌}
use Rattle.storage_merkle.proofs.Walks.{peak_in_tree, peaks_next}
use Rattle.storage_merkle.proofs.Pinned.Match.{match_none, match_past, none_missing, later_text, match_goes_on}
use Rattle.storage_merkle.proofs.merkle.proof.pinned.Pinned.+peaks_match.Goals as goal

pub returns-then-rest-eq0 : goal.returns-then-rest-eq0
returns-then-rest-eq0 g t c = λ end digest recomputed some nodes texts. (
  λ y. match_none c.args.self.now.start end digest recomputed g.F.Family.shape g.met.F.Family.laws c.args.rest.first
      c.args.rest.left c.args.rest.folded (omega arith),
  λ m. refl,
)

pub returns-then-rest-power : goal.returns-then-rest-power
returns-then-rest-power g t c = λ end digest recomputed some nodes texts. (
  λ y. match_past c.args.self.now.start end digest recomputed g.F.Family.shape c.args.rest.first c.args.rest.left
      c.first_peak-height.result c.first_peak-height.ensures.first c.args.rest.folded
      (omega (arith, c.power.ensures)),
  λ m. refl,
)

pub returns-in_default : goal.returns-in_default
returns-in_default g t c = λ end digest recomputed some nodes texts.
    let ends : c.args.rest.first + 2 ^ c.first_peak-height.result ≤ c.args.self.now.start =
    omega (arith, c.power.ensures, c.if-rest-power.false) in
    absurd (none_missing c.args.self.now.start end digest recomputed g.F.Family.shape c.args.rest.first c.args.rest.left
    c.first_peak-height.result c.first_peak-height.ensures.first c.args.rest.folded some ends _ _ _ refl refl refl
    g.D.Digest.text c.args.digests.now c.in_default.ensures.cases texts)

pub node-requires-clause-within : goal.node-requires-clause-within
node-requires-clause-within g t c =
    peak_in_tree g.F.Family.shape g.met.F.Family.laws c.args.self.now.leaves c.args.rest.first c.args.rest.left
    c.first_peak-height.result c.requires.pinned.few c.requires.peaks c.first_peak-height.ensures.first

pub peaks_match-requires : goal.peaks_match-requires
peaks_match-requires g t c κs within =
    let p = peaks_next g.F.Family.shape g.met.F.Family.laws c.args.self.now.leaves c.args.rest.first c.args.rest.left
    c.first_peak-height.result c.requires.pinned.few c.requires.peaks c.first_peak-height.ensures.first in
    rw (c.next.ensures.first, c.next.ensures.left) (search rules)

pub returns-then-eq : goal.returns-then-eq
returns-then-eq g t c = λ end digest recomputed some nodes texts.
    let ends : c.args.rest.first + 2 ^ c.first_peak-height.result ≤ c.args.self.now.start =
    omega (arith, c.power.ensures, c.if-rest-power.false) in
    let left =
    later_text c.args.self.now.start end digest recomputed g.F.Family.shape c.args.rest.first c.args.rest.left
    c.first_peak-height.result c.first_peak-height.ensures.first c.args.rest.folded some ends c.next.result.first
    c.next.result.left c.next.result.folded c.next.ensures.first c.next.ensures.left c.next.ensures.folded
    g.D.Digest.text c.in-Some.digest.now c.args.digests.now c.in-Some.later.now c.in-Some.ensures.cases.0 texts in
    match_goes_on c.args.self.now.start end digest recomputed g.F.Family.shape c.args.rest.first c.args.rest.left
    c.first_peak-height.result c.first_peak-height.ensures.first c.args.rest.folded some ends c.next.result.first
    c.next.result.left c.next.result.folded c.next.ensures.first c.next.ensures.left c.next.ensures.folded
    g.D.Digest.text c.in-Some.digest.now c.args.digests.now c.in-Some.later.now c.in-Some.ensures.cases.0 texts
    (g.D.Digest.text c.node.result) (nodes c.args.rest.first c.first_peak-height.result
    ∙ sym c.node.ensures) ((g.met.D.Digest.same _ _).0 (sym c.if-eq.ensures)) c.peaks_match.result
    (c.peaks_match.ensures end digest recomputed some nodes left)
