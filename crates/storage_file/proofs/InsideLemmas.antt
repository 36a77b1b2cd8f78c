-- The parts of a transaction, one after the other.
use Rattle.std.proofs.Common.{◌≡◌, ◌⊎◌, inl, inr, ℕ, List, [], Bool, true, false, Ok, Err, Result, IsTrue, refl, sym, ap, subst, ◌∙◌, arith}
use Rattle.std.proofs.lemmas.Bool.{cases_Bool}
use Rattle.sqlite.specs.Order.{Row}
use Rattle.sqlite.specs.Store.{Ghosts}
use Rattle.sqlite.specs.Tree.{Trees}
use Rattle.sqlite.specs.declared.error.Error.{Error}
use Rattle.sqlite.specs.declared.error.Error.TheVariants.{SqliteFailure}
use Rattle.sqlite.specs.declared.error.ErrorCode.TheVariants.{TransactionState}
use Rattle.sqlite.specs.Held.{Held, state}
use Rattle.sqlite.specs.State.{State, HasCleanDisk, Survives, KeepsCommit, ExecutesInside}
use Rattle.sqlite.proofs.StateLemmas.{survives_then}
use Rattle.sqlite.proofs.InsideLemmas.{inside_keeps, keeps_then}
use Rattle.storage_file.specs.Tables.{StaysInside}

keeps_same : (s : State) → KeepsCommit s s
keeps_same s = record { was_open = λ h. h; committed = λ _. refl }

survives_same : (s : State) → Survives s s (λ _. ⊥)
survives_same s = record { clean = omega arith; shield = λ h. h; counts = omega arith; limit = refl; closes = λ _ h. inl h; crash = λ _ db h. inl h }

pub stays_same : (s : State) → StaysInside s s
stays_same s = record { survives = survives_same s; commit = λ _. keeps_same s }

pub stays_then : (a b c : State) → StaysInside a b → StaysInside b c → StaysInside a c
stays_then a b c one two = record {
  survives = survives_then a b c _ _ (λ _. ⊥) (λ _ db none. none) (λ _ db none. none) one.survives two.survives;
  commit = λ clean. keeps_then a b c (one.commit (omega (arith, two.survives.clean))) (two.commit clean);
}

-- one statement of a transaction
pub statement_stays : {S : Type 0} (g : Ghosts S) (sql : List ℕ) (params : Row) (old new : Held S) (r : Result ℕ Error)
    → (old.in_transaction ≡ false → (r ≡ Err (SqliteFailure TransactionState)) × (new ≡ old))
    → (HasCleanDisk (state g new) → IsTrue old.in_transaction → ExecutesInside 0 sql params (state g old) (state g new) r)
    → Survives (state g old) (state g new) (λ _. ⊥) → StaysInside (state g old) (state g new)
statement_stays g sql params old new r ended runs survives = record {
  survives = survives;
  commit = λ clean. elim (cases_Bool old.in_transaction) [
    | inl inside ↦ inside_keeps (state g old) (state g new) 0 false sql params r (runs clean inside)
    | inr over ↦ subst (λ h. KeepsCommit (state g old) (state g h)) (sym (ended over).1) (keeps_same (state g old))
  ];
}
