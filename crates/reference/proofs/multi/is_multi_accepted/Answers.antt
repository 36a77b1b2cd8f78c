use Rattle.std.proofs.Common.{◌≡◌, Some, option_map, ap, subst, rules, arith}
use Rattle.storage_merkle.specs.Held.{proof_of}
use Rattle.storage_merkle.specs.Multi.{claims_of}
use Rattle.storage_merkle.specs.MultiParts.{IsMultiRecomputed}
use Rattle.reference.specs.Layouts.{laid_out}
use Rattle.reference.proofs.Claims.{some_elements}
use Rattle.reference.proofs.MultiParts.{multi_answer}
use Rattle.std.proofs.lemmas.Grind.{common_steps}
use Rattle.reference.proofs.multi.is_multi_accepted.Goals as goal

pub returns-in-Some : goal.returns-in-Some
returns-in-Some g c =
    let h = g.H.Hasher.hash_of in
    let text = g.H.Digest.Digest.text in
    let T = laid_out g.F.Family.shape (g.G.Grafts.grafted c.args.grafts.now) in
    let proof = proof_of text c.args.proof.now in
    let claims = claims_of g.E.AsSlice.items c.args.claims.now in
    let chunk = g.G.Grafts.chunk c.args.grafts.now in
    let computed = text c.in-Some.computed in
    let root = text c.args.root.now in
    let found : option_map text c.in_ok-recomputed_root.field-0 ≡ Some computed =
    ap (option_map text) c.in-Some.is in
    multi_answer h T c.args.bagging proof claims chunk computed root c.eq-in-Some.result
    (some_elements (λ claim. record { location = claim.1; element = g.E.AsSlice.items claim.0 }) c.args.claims.now
    c.if-is_empty.ensures)
    (subst (λ o. IsMultiRecomputed h T c.args.bagging proof claims chunk o) found c.in_ok-recomputed_root.ensures)
    (search rules)

pub returns-then-is_default : goal.returns-then-is_default
returns-then-is_default g c = grind (arith, common_steps)

pub returns-else-is_default : goal.returns-else-is_default
returns-else-is_default g c = grind (arith, common_steps)

pub returns-in-None : goal.returns-in-None
returns-in-None g c = grind (arith, common_steps)
