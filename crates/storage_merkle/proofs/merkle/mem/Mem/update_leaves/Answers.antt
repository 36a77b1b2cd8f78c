use Rattle.std.proofs.Common.{arith, ◌≡◌, ℕ, List, [], ◌++◌, length, map, take, drop, sym, ap, ◌∙◌, inl}
use Rattle.std.proofs.Math.Seq.{take-append_seam}
use Rattle.storage_merkle.proofs.Rewriting.{holds_less, length_updated}
use Rattle.storage_merkle.proofs.merkle.mem.Mem.update_leaves.Goals as goal

wrote_back : {A : Type 0} (n : ℕ) (xs ys : List A) → n ≡ length xs → take n (xs ++ ys) ≡ xs
wrote_back n xs ys e = ap (λ m. take m (xs ++ ys)) e ∙ take-append_seam xs ys

pub returns-then-away-self-clause-why : goal.returns-then-away-self-clause-why
returns-then-away-self-clause-why g c =
    rw (← c.self.view_is) (c.in-Some.away, c.in-Some.ensures.0, inl (c.if-away-self.true, (cc)))

pub write_leaves-requires-clause-takes : goal.write_leaves-requires-clause-takes
write_leaves-requires-clause-takes g c =
    let takes = rw (← c.self.view_is) at c.requires in
    takes c.in_default.ensures

pub returns-clause-written : goal.returns-clause-written
returns-clause-written g c list dirty s =
    let s' = rw (← c.self.view_is) at s in
    let r = c.write_leaves.ensures list dirty (sym s'.count)
    (rw (c.deref.ensures.value, c.deref_mut.ensures.value) s'.holds) in
    let back = wrote_back c.self.inside.nodes.len c.write_leaves.new.nodes
    (drop (length c.write_leaves.new.nodes) c.self.inside.nodes.items)
    (omega (arith, c.write_leaves.auto.nodes, c.deref_mut.ensures.len, ap length c.deref_mut.ensures.value)) in
    record {
      count = s'.count ∙ sym (length_updated list (map (λ u. (u.0, g.D.Digest.text u.1)) c.args.updates.now));
      holds = rw back (rw c.deref.ensures.value at r);
    }

pub returns-clause-stands : goal.returns-clause-stands
returns-clause-stands g c list s = returns-clause-written g c list [] (record {
  count = s.count;
  holds = holds_less g.F.Family.shape _ (map (λ u. u.0) c.args.updates.now ++ []) _ _ _ _ s.holds;
})
