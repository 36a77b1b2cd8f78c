-- Readings, one after the other.
use Rattle.std.proofs.Common.{◌≡◌, ℕ, List, Result, Ok, Err, refl, sym, subst}
use Rattle.std.specs.Result.{IsErrAnd}
use Rattle.storage_codec.specs.declared.codec.error.Error.{Error}
use Rattle.storage_codec.specs.declared.codec.error.Error.TheVariants as code
use Rattle.storage_codec.specs.Faults.{◌>>=◌, Fault}
use Rattle.storage_codec.specs.Codec.{Answer, Gives, IsFault, MayFail, mapped}

-- what the first fails with, both fail with
pub fails_then : {A B : Type 0} (e : Error) (a : Result A Fault) (f : A → Result B Fault) → MayFail e a
    → MayFail e (a >>= f)
fails_then code.Memory a f h = tt
fails_then code.EndOfBuffer a f h = rw h refl
fails_then code.InvalidBool a f h = rw h refl
fails_then (code.InvalidEnum tag) a f h = rw h refl
fails_then code.InvalidVarint a f h = rw h refl
fails_then (code.InvalidLength n) a f h = rw h refl
fails_then (code.Invalid place what) a f h = rw h refl
fails_then (code.ExtraData n) a f h = rw h refl

-- and so it does where its value is seen by a function
pub fails_mapped : {V W : Type 0} (e : Error) (f : V → W) (a : Answer V) → MayFail e a → MayFail e (mapped f a)
fails_mapped code.Memory f a h = tt
fails_mapped code.EndOfBuffer f a h = rw h refl
fails_mapped code.InvalidBool f a h = rw h refl
fails_mapped (code.InvalidEnum tag) f a h = rw h refl
fails_mapped code.InvalidVarint f a h = rw h refl
fails_mapped (code.InvalidLength n) f a h = rw h refl
fails_mapped (code.Invalid place what) f a h = rw h refl
fails_mapped (code.ExtraData n) f a h = rw h refl

-- an error that is handed on, of a reading that fails with it
pub hands_on : {X V : Type 0} (view : X → V) (r : Result X Error) (e : Error) (rest : List ℕ) (answer : Answer V)
    → IsErrAnd r (λ x. x ≡ e) → MayFail e answer → Gives view r rest answer
hands_on view (Ok x) e rest answer h m = absurd h
hands_on view (Err x) e rest answer h m = subst (λ d. MayFail d answer) (sym h) m

-- a fault of the bytes is one that reading may fail with
pub may_fail : {Y : Type 0} (e : Error) (answer : Result Y Fault) → IsFault e answer → MayFail e answer
may_fail code.Memory answer h = tt
may_fail code.EndOfBuffer answer h = h
may_fail code.InvalidBool answer h = h
may_fail (code.InvalidEnum tag) answer h = h
may_fail code.InvalidVarint answer h = h
may_fail (code.InvalidLength n) answer h = h
may_fail (code.Invalid place what) answer h = h
may_fail (code.ExtraData n) answer h = h
