use Rattle.std.proofs.Common.{arith, rules, List, ℕ, Bor}
use Rattle.storage_current.proofs.Grafts.{grafted_some}
use Rattle.std.proofs.lemmas.Grind.{common_steps}
use Rattle.storage_current.proofs.qmdb.current.grafting.verifier.Verifier.chunk_over.Goals as goal

pub returns : goal.returns
returns g c = grafted_some (λ (b : Bor (List ℕ)). b.now) c.args.self.now.height c.args.self.now.start_chunk_index
    c.args.self.now.graftable_chunks c.args.first c.args.height c.args.self.now.chunks.items c.index.result.now
    c.if-height-self.false c.requires.aligned (omega arith) (omega arith)
    (search rules) c.index.ensures

pub returns-then-place-len : goal.returns-then-place-len
returns-then-place-len g c = grind (arith, common_steps)
