use Rattle.std.proofs.Common.{refl, arith}
use Rattle.storage_bitmap.proofs.bitmap.authenticated.merkleized.BitMap+D+N+Merkleized+D.into_dirty.Goals as goal

pub returns-clause-same : goal.returns-clause-same
returns-clause-same g c = rw (← c.self.view_is) (refl, refl)

pub returns-clause-stands : goal.returns-clause-stands
returns-clause-stands g c h bagging bits s =
    let t = rw (← c.self.view_is) at s in
    rw c.new.ensures.empty (record { rest = t.stands.rest; digests = t.stands.digests })

pub invariant_of-result : goal.invariant_of-result
invariant_of-result g c =
    let i = c.self.invariant in
    record {
      size = i.size;
      few = i.few;
      boundary = i.boundary;
      order = i.order;
      leaves = i.leaves;
      state = rw c.new.ensures.empty (λ k d l. absurd (omega (arith, l)));
    }
