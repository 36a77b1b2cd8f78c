use Rattle.std.proofs.Common.{◌≡◌, ◌∙◌, ◌%◌, ◌^◌, length, sym}
use Rattle.storage_bitmap.specs.Packed.{bit_in}
use Rattle.storage_current.specs.Snapshots.{height}
use Rattle.storage_current.specs.Laws.Grafting.{height_of_power}
use Rattle.storage_current.proofs.qmdb.current.proof.operation.Proof.active_height.Goals as goal

pub returns-then-is_set-clause-bit : goal.returns-then-is_set-clause-bit
returns-then-is_set-clause-bit g c =
    let chunk = g.C.Chunk.text c.args.self.now.chunk in
    let e = height_of_power g.F.Family.shape
    (length c.bytes-chunk.result.now) c.in_ok-height.height c.in_ok-height.ensures.power.0 in
    let bit : c.is_set.result
    ≡ bit_in chunk (c.args.self.now.loc % 2 ^ height (record { shape = g.F.Family.shape; bytes = length chunk })) =
    rw (← c.bytes-chunk.ensures, e, ← c.power.ensures, ← c.as_u64.ensures) c.is_set.ensures in
    (rw c.bytes-chunk.ensures at c.in_ok-height.ensures.size, sym bit ∙ c.if-is_set.true)

pub returns-else-is_set-clause-bit : goal.returns-else-is_set-clause-bit
returns-else-is_set-clause-bit g c = λ size on.
    let chunk = g.C.Chunk.text c.args.self.now.chunk in
    let e = height_of_power g.F.Family.shape
    (length c.bytes-chunk.result.now) c.in_ok-height.height c.in_ok-height.ensures.power.0 in
    let bit : c.is_set.result
    ≡ bit_in chunk (c.args.self.now.loc % 2 ^ height (record { shape = g.F.Family.shape; bytes = length chunk })) =
    rw (← c.bytes-chunk.ensures, e, ← c.power.ensures, ← c.as_u64.ensures) c.is_set.ensures in
    absurd cc
