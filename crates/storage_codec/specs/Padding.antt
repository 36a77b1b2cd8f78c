-- Zero bytes that fill up an encoding.
use Rattle.std.specs.Prelude.{◌==◌, ℕ, zero, suc, List, Ok, Err, codes, if◌then◌else◌}
use Rattle.storage_codec.specs.Faults.{◌>>=◌, Invalid}
use Rattle.storage_codec.specs.Codec.{Answer, byte_at}

-- n zero bytes
unfoldable pub zeros_at : ℕ → List ℕ → Answer (Unit {0})
zeros_at zero bytes = Ok (tt, bytes)
zeros_at (suc n) bytes = byte_at bytes >>= λ b.
    if b.0 == 0 then zeros_at n b.1 else Err (Invalid (codes "fixed operation") (codes "nonzero padding"))
