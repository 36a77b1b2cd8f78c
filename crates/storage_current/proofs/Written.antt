-- What a refused write leaves, and sizes that are numbers of 64 bits.
use Rattle.std.proofs.Common.{◌≡◌, ℕ, ◌<◌, ◌^◌, Result, Ok, Err, Some, refl, lt-ltb}
use Rattle.std.specs.Result.{OnErr}
use Rattle.storage_codec.specs.Parts.{size_of}

pub on_err : {X E : Type 0} (r : Result X E) (P : Type 0) → P → OnErr r P
on_err (Ok x) P p = tt
on_err (Err e) P p = p

pub on_err_to : {X E : Type 0} (r : Result X E) (P Q : Type 0) → (P → Q) → OnErr r P → OnErr r Q
on_err_to (Ok x) P Q f p = tt
on_err_to (Err e) P Q f p = f p

pub fits : (m n : ℕ) → m ≡ n → m < 2 ^ 64 → Some m ≡ size_of n
fits m n e small = rw (← e, lt-ltb m (2 ^ 64) small) refl
