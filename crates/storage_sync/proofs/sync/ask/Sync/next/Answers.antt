use Rattle.std.proofs.Common.{◌≡◌, ◌≤◌, ◌+◌, ◌-◌, ◌*◌, ◌%◌, ◌∙◌, ℕ, map, min, length, ap, sym, subst, arith}
use Rattle.std.proofs.lemmas.Bool.{false≢true}
use Rattle.std.proofs.Math.Nat.{mul-mod_left}
use Rattle.std.proofs.lemmas.List.{length-map}
use Rattle.storage_sync.specs.Syncs.{Taken, IsAsked, IsAt, place}
use Rattle.storage_sync.proofs.Joined.{wanted_page}
use Rattle.storage_sync.proofs.States.{wanted_asked}
use Rattle.storage_sync.proofs.sync.ask.Sync.next.Goals as goal

pub returns-clause-answerable : goal.returns-clause-answerable
returns-clause-answerable g c = λ leaves may.
    let n = g.row.N in
    let i = c.self.inside in
    let t = c.args.self.now in
    let first : ℕ = i.status.pruned * (8 * n) in
    let at : IsAt n t.begin (place t) t.leaves = subst (λ (s : Taken). IsAt n s.begin (place s) s.leaves) c.self.view_is
    (subst (λ (k : ℕ). IsAt n first (first + k) i.leaves) (sym (length-map i.operations.items (λ o. o.items)))
    c.self.invariant.at) in
    let boundary : t.begin % (8 * n) ≡ 0 =
    subst (λ (s : Taken). s.begin % (8 * n) ≡ 0) c.self.view_is (mul-mod_left i.status.pruned (8 * n)) in
    let room : 8 * n ≤ t.limits.max_ops =
    subst (λ (s : Taken). 8 * n ≤ s.limits.max_ops) c.self.view_is c.self.invariant.room in
    subst (λ (k : ℕ). IsAsked n t leaves (min k (leaves - place t))) (sym c.step.ensures.value)
    (wanted_asked n leaves t c.self.invariant.size room boundary at may (λ whole. absurd (false≢true (c.if-is_whole.ensures.1 whole))))

pub returns-clause-served : goal.returns-clause-served
returns-clause-served g c = λ leaves may.
    let n = g.row.N in
    let i = c.self.inside in
    let t = c.args.self.now in
    let first : ℕ = i.status.pruned * (8 * n) in
    let at : IsAt n t.begin (place t) t.leaves = subst (λ (s : Taken). IsAt n s.begin (place s) s.leaves) c.self.view_is
    (subst (λ (k : ℕ). IsAt n first (first + k) i.leaves) (sym (length-map i.operations.items (λ o. o.items)))
    c.self.invariant.at) in
    let boundary : t.begin % (8 * n) ≡ 0 =
    subst (λ (s : Taken). s.begin % (8 * n) ≡ 0) c.self.view_is (mul-mod_left i.status.pruned (8 * n)) in
    let room : 8 * n ≤ t.limits.max_ops =
    subst (λ (s : Taken). 8 * n ≤ s.limits.max_ops) c.self.view_is c.self.invariant.room in
    let start : c.new.result ≡ first + length (map (λ o. o.items) i.operations.items) =
    omega (
      arith,
      c.new.ensures,
      c.len.ensures.value,
      c.self.invariant.bit_each,
      length-map i.operations.items (λ o. o.items),
    ) in
    wanted_page n leaves t (record { start = c.new.result; max_ops = c.step.result }) c.self.invariant.size room boundary at may
    (λ whole. absurd (false≢true (c.if-is_whole.ensures.1 whole))) (start ∙ ap place c.self.view_is) c.step.ensures.value
