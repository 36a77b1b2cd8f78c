-- How refusals are told on.
use Rattle.std.proofs.Common.{◌≡◌, ℕ, Bool, true, false, if◌then◌else◌, refl, sym, ap, subst, ◌∙◌, length, true≢false}
use Rattle.std.specs.Prelude.{Result, Ok, Err, IfErr}
use Rattle.std.specs.Result.{IsErrAnd}
use Rattle.storage_codec.specs.Digests.{HashFunction}
use Rattle.storage_current.specs.Keys.{Keyed}
use Rattle.storage_current.specs.Snapshots.{Grafting}
use Rattle.storage_db.specs.declared.db.error.Error as database
use Rattle.storage_db.specs.declared.db.error.Error.TheVariants as of_database
use Rattle.storage_db.specs.Databases.{Command, Database, is_full}
use Rattle.storage_db.specs.Kept.{IsCommandRefused, KeptDatabase, Keeps}
use Rattle.storage_file.specs.declared.error.Error as file
use Rattle.storage_file.specs.declared.error.Error.TheVariants as of_file
use Rattle.storage_stored.specs.declared.error.Error.{Error}
use Rattle.storage_stored.specs.declared.error.Error.TheVariants.{Foreign, Corrupted, Full, Memory}
use Rattle.storage_stored.specs.Refusals.{IsChangeRefused, told_of_database, told_of_file}

-- what is known of the error that is told is known of the answer
pub err_told : {A E : Type 0} (Q : E → Type 0) (r : Result A E) (told : E) → IsErrAnd r (λ e. e ≡ told) → Q told → IfErr r Q
err_told Q (Ok a) told is q = tt
err_told Q (Err e) told is q = subst Q (sym is) q

pub told_corrupted : {F : Type 0} (error : file.Error) → ◌≡◌ {A = Error F} (told_of_file error) Corrupted → error ≡ of_file.Corrupted
told_corrupted of_file.Foreign is = absurd (cc)
told_corrupted of_file.Corrupted is = refl
told_corrupted of_file.Full is = absurd (cc)
told_corrupted (of_file.Store error) is = absurd (cc)
told_corrupted of_file.Memory is = absurd (cc)

pub told_foreign : {F : Type 0} (error : file.Error) → ◌≡◌ {A = Error F} (told_of_file error) Foreign → error ≡ of_file.Foreign
told_foreign of_file.Foreign is = refl
told_foreign of_file.Corrupted is = absurd (cc)
told_foreign of_file.Full is = absurd (cc)
told_foreign (of_file.Store error) is = absurd (cc)
told_foreign of_file.Memory is = absurd (cc)

-- ---- a choice of refusals

told_full : {F : Type 0} (b : Bool) (n : ℕ) → ◌≡◌ {A = Error F} (told_of_database (if b then of_database.Full n else of_database.Memory)) (if b then Full n else Memory)
told_full true n = refl
told_full false n = refl

module _ {K W Y F : Type 0} (e : Keyed K W) (seen : W → Y) (h : HashFunction) (g : Grafting) (kept : KeptDatabase K W) (cause : database.Error F) where
  pub change_refused : (stopped : Bool) (command : Command K W) → stopped ≡ false → IsCommandRefused e seen h g kept command cause
      → IsChangeRefused e seen h g stopped kept command (told_of_database cause)
  change_refused true command runs why = absurd (true≢false runs)
  change_refused false command runs why = λ d keeps. ap told_of_database (why d keeps) ∙ told_full (is_full e d command) (length d.operations)
