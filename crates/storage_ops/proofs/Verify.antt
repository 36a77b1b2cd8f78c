-- Answers of a check, handed on.
use Rattle.std.proofs.Common.{Result, Ok, Err, IfOk}

pub on_ok : {A E : Type 0} (P Q : A → Type 0) (r : Result A E) → ((x : A) → P x → Q x) → IfOk r P → IfOk r Q
on_ok P Q (Ok x) f p = f x p
on_ok P Q (Err e) f p = tt
