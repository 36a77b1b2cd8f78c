-- The row of what was agreed, from its columns, and what it tells.
use Rattle.std.proofs.Common.{◌≡◌, ◌<◌, List, [], ◌∷◌, length, Result, Ok, Err, IfOk, sym, ◌∙◌, arith}
use Rattle.sqlite.specs.declared.types.Value.{Value}
use Rattle.sqlite.specs.Order.{Row, column}
use Rattle.storage_file.specs.declared.agreed.OwnedAgreement.{OwnedAgreement}
use Rattle.storage_file.specs.Agreed.{agreement_in}
use Rattle.storage_file.specs.Kept.{Agreement}
use Rattle.storage_file.specs.Tables.{agreed_cells, shown_from}
use Rattle.storage_file.proofs.RowLemmas.{agreed_back}

pub row_of_seven : (row : Row) → length row ≡ 7 → (a b c d e f g : Value) → column row 0 ≡ a → column row 1 ≡ b → column row 2 ≡ c → column row 3 ≡ d
    → column row 4 ≡ e → column row 5 ≡ f → column row 6 ≡ g → row ≡ a ∷ b ∷ c ∷ d ∷ e ∷ f ∷ g ∷ []
row_of_seven [] n a b c d e f g = absurd (omega arith)
row_of_seven (_ ∷ []) n a b c d e f g = absurd (omega arith)
row_of_seven (_ ∷ _ ∷ []) n a b c d e f g = absurd (omega arith)
row_of_seven (_ ∷ _ ∷ _ ∷ []) n a b c d e f g = absurd (omega arith)
row_of_seven (_ ∷ _ ∷ _ ∷ _ ∷ []) n a b c d e f g = absurd (omega arith)
row_of_seven (_ ∷ _ ∷ _ ∷ _ ∷ _ ∷ []) n a b c d e f g = absurd (omega arith)
row_of_seven (_ ∷ _ ∷ _ ∷ _ ∷ _ ∷ _ ∷ []) n a b c d e f g = absurd (omega arith)
row_of_seven (_ ∷ _ ∷ _ ∷ _ ∷ _ ∷ _ ∷ _ ∷ []) n a b c d e f g = λ is_a is_b is_c is_d is_e is_f is_g. cc
row_of_seven (_ ∷ _ ∷ _ ∷ _ ∷ _ ∷ _ ∷ _ ∷ _ ∷ _) n a b c d e f g = absurd (omega arith)

pub if_agreed : {E : Type 0} (r : Result OwnedAgreement E) (rows : List Row) (agreed : Agreement) → rows ≡ shown_from agreed_cells 0 (agreed ∷ [])
    → IfOk r (λ it. rows ≡ shown_from agreed_cells 0 (agreement_in it ∷ [])) → IfOk r (λ it. agreement_in it ≡ agreed)
if_agreed (Ok it) rows agreed is told =
    let same : shown_from agreed_cells 0 (agreement_in it ∷ []) ≡ shown_from agreed_cells 0 (agreed ∷ []) = sym told ∙ is in
    let cells : agreed_cells (agreement_in it) ≡ agreed_cells agreed = cc in agreed_back (agreement_in it) agreed cells
if_agreed (Err e) rows agreed is told = tt
