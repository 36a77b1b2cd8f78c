use Rattle.std.proofs.Common.{◌≡◌, Some, rules, ap, ◌<◌, ◌≤◌, ◌^◌, ◌+◌, ◌-◌, ◌∙◌, arith}
use Rattle.std.proofs.lemmas.Nat.{pow_pos}
use Rattle.storage_merkle.specs.Calc.{node}
use Rattle.storage_merkle.specs.Laws.Shape.{step}
use Rattle.storage_merkle.specs.Stores.{Store, stored_at}
use Rattle.storage_merkle.specs.Trees.{ungrafted}
use Rattle.storage_merkle.proofs.Check.Tops.{right_end, right_fold, right_step}
use Rattle.storage_merkle.proofs.merkle.proof_store.ProofStore.+fold_back.Goals as goal

pub returns-then-left-eq0 : goal.returns-then-left-eq0
returns-then-left-eq0 g t c = right_end g.F.Family.shape g.met.F.Family.laws g.H.Hasher.hash_of
    (λ p. stored_at g.H.Hasher.hash_of (ungrafted g.F.Family.shape) c.args.self.now (node p.first p.height))
    c.args.self.now.back_fold c.args.self.now.past c.args.first c.args.left c.if-left-eq0.true

pub returns-then-as_u64-first : goal.returns-then-as_u64-first
returns-then-as_u64-first g t c =
    let past : c.as_u64.result ≡ c.args.self.now.past = c.as_u64.ensures ∙ ap (λ (v : Store). v.past) c.self.view_is in
    let after : c.args.self.now.past ≤ c.args.first = omega (arith, past, c.if-as_u64-first.true) in
    right_fold g.F.Family.shape g.met.F.Family.laws g.H.Hasher.hash_of
    (λ p. stored_at g.H.Hasher.hash_of (ungrafted g.F.Family.shape) c.args.self.now (node p.first p.height))
    c.args.self.now.back_fold c.args.self.now.past c.args.first c.args.left
    (omega (arith, c.if-left-eq0.false)) after _ (ap (λ (v : Store). v.back_fold) c.self.view_is)

pub peak-peak-requires-clause-aligned : goal.peak-peak-requires-clause-aligned
peak-peak-requires-clause-aligned g t c = (step g.F.Family.shape g.met.F.Family.laws c.args.first c.args.left
    c.first_peak-height.result c.requires.few c.requires.aligned c.first_peak-height.ensures.first).aligned

pub fold_back-rest-requires : goal.fold_back-rest-requires
fold_back-rest-requires g t c κs within =
    let some : 0 < 2 ^ c.first_peak-height.result = pow_pos c.first_peak-height.result in
    let s = step g.F.Family.shape g.met.F.Family.laws c.args.first c.args.left c.first_peak-height.result c.requires.few
    c.requires.aligned c.first_peak-height.ensures.first in
    rw (c.power.ensures, c.power-2.ensures) (search rules)

pub returns : goal.returns
returns g t c =
    let past : c.as_u64.result ≡ c.args.self.now.past = c.as_u64.ensures ∙ ap (λ (v : Store). v.past) c.self.view_is in
    let before : c.args.first < c.args.self.now.past = omega (arith, past, c.if-as_u64-first.false) in
    ap (λ x. Some x) c.join.ensures
    ∙ right_step g.F.Family.shape 0 c.args.self.now.past c.args.first c.args.left 0 c.first_peak-height.result _ _ 0
    c.first_peak-height.ensures.first (ap (λ m. c.args.first + m) c.power.ensures)
    (ap (λ m. c.args.left - m) c.power-2.ensures) (omega arith) g.H.Hasher.hash_of
    (λ p. stored_at g.H.Hasher.hash_of (ungrafted g.F.Family.shape) c.args.self.now (node p.first p.height))
    c.args.self.now.back_fold _ _ before c.peak-peak.ensures c.fold_back-rest.ensures
