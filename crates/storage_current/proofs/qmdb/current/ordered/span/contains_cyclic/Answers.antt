use Rattle.std.proofs.Common.{rules, ◌≡◌, ◌∙◌, true, false, Ordering, Less, Equal, Greater, is_lt, refl, sym, ap}
use Rattle.std.specs.Ordering.{is_le, ordering_reverse}
use Rattle.storage_current.proofs.qmdb.current.ordered.span.contains_cyclic.Goals as goal

-- what is not at most another comes after it
after : (o : Ordering) → is_le o ≡ false → is_lt (ordering_reverse o) ≡ true
after Less h = absurd (cc)
after Equal h = absurd (cc)
after Greater h = refl

pub returns-then-le : goal.returns-then-le
returns-then-le g c =
    let ascends : is_lt (g.K.Ord.cmp c.args.start.now c.args.end.now) ≡ true = search rules in
    let reached : is_lt (g.K.Ord.cmp c.args.key.now c.args.start.now) ≡ false = search rules in
    let before : c.lt-then-le.result ≡ is_lt (g.K.Ord.cmp c.args.key.now c.args.end.now) = search rules in
    rw (ascends, reached, before) refl

pub returns-else-le : goal.returns-else-le
returns-else-le g c = search rules

pub returns-then-le-2 : goal.returns-then-le-2
returns-then-le-2 g c = search rules

pub returns-else-le-2 : goal.returns-else-le-2
returns-else-le-2 g c =
    let ascends : is_lt (g.K.Ord.cmp c.args.start.now c.args.end.now) ≡ false = search rules in
    let le : c.le-else-lt.result ≡ is_le (g.K.Ord.cmp c.args.start.now c.args.key.now) = search rules in
    let early : is_lt (g.K.Ord.cmp c.args.key.now c.args.start.now) ≡ true =
    ap is_lt (g.met.K.Ord.total.antisymm _ _) ∙ after _ (sym le ∙ c.if-le-2.false) in
    let before : c.lt-else-le-2.result ≡ is_lt (g.K.Ord.cmp c.args.key.now c.args.end.now) = search rules in
    rw (ascends, early, before) refl
