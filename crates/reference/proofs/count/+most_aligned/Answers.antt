use Rattle.std.proofs.Common.{arith, ◌≡◌, ℕ, suc, ◌-◌, ◌^◌, ◌%◌, ◌&&◌, eqb, leb, take, ap, sym, ◌∙◌, Bool}
use Rattle.storage_merkle.specs.Shape.{leaves_under}
use Rattle.reference.proofs.Counts.{greatest_none, greatest_here, greatest_lower, leaves_take}
use Rattle.reference.proofs.count.+most_aligned.Goals as goal

pub leaves_of-end-requires : goal.leaves_of-end-requires
leaves_of-end-requires t c = omega (arith, leaves_take c.args.bound c.args.heights.now, c.requires.few)

pub returns-then-bound-eq0 : goal.returns-then-bound-eq0
returns-then-bound-eq0 t c = greatest_none _ c.args.bound c.if-bound-eq0.true

pub returns-then-is_aligned : goal.returns-then-is_aligned
returns-then-is_aligned t c =
    let s : c.args.bound ≡ suc (c.args.bound - 1) = omega arith in
    let ends : ℕ → Bool = λ e. leb e c.args.floor && eqb (e % 2 ^ c.args.height) 0 in
    greatest_here (λ r. ends (leaves_under (take r c.args.heights.now))) (c.args.bound - 1) c.args.bound s
    (ap ends (sym c.leaves_of-end.ensures) ∙ sym c.if-is_aligned.ensures)

pub returns : goal.returns
returns t c =
    let s : c.args.bound ≡ suc (c.args.bound - 1) = omega arith in
    let ends : ℕ → Bool = λ e. leb e c.args.floor && eqb (e % 2 ^ c.args.height) 0 in
    greatest_lower (λ r. ends (leaves_under (take r c.args.heights.now))) (c.args.bound - 1) c.args.bound _ s
    (ap ends (sym c.leaves_of-end.ensures) ∙ sym c.if-is_aligned.ensures) c.most_aligned.ensures
