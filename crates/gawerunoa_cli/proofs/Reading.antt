-- What was read of a text, line by line.
use Rattle.std.proofs.Common.{◌≡◌, ℕ, Bool, List, [], ◌∷◌, ◌++◌, Option, Some, None, sym, ◌∙◌, subst, append_assoc, append-nil, refl}
use Rattle.std.specs.Prelude.{MatchOption, IfSome, ⊤}
use Rattle.std.specs.Io.BufRead.{drop_through, first_piece}
use Rattle.storage_codec.specs.Digests.{HashFunction}
use Rattle.storage_merkle.specs.Shape.{Shape}
use Rattle.storage_current.specs.NodeLists.{IsTreeOver, KeptTree}
use Rattle.stateproof_cli.specs.Words.{IsOperationLine}
use Rattle.gawerunoa_cli.specs.Rows.{AreRows, IsReadFrom, IsTaken}

-- the rows of what is left, behind those that were read, are the rows of the whole text, where that is known
abbrev pub Continues : Option (List ℕ) → Option (List ℕ) → List (List ℕ) → List Bool → Type 0
Continues None left operations bits = Unit {0}
Continues (Some text) left operations bits = (rest : List ℕ) × (left ≡ Some rest)
    × ((more : List (List ℕ)) (digits : List Bool) → AreRows rest more digits → AreRows text (operations ++ more) (bits ++ digits))

-- what was read so far of a text, of which something is left
pub record IsReadSoFar (h : HashFunction) (S : Shape) (text left : Option (List ℕ)) (tree : KeptTree) (bits : List Bool) : Type 0 where
  pub operations : List (List ℕ)
  pub over : IsTreeOver h S tree operations
  pub rest : Continues text left operations bits

begins : (text : Option (List ℕ)) → Continues text text [] []
begins None = tt
begins (Some text) = (text, refl, λ more digits rows. rows)

pub start : {h : HashFunction} {S : Shape} (text : Option (List ℕ)) (tree : KeptTree) (bits : List Bool) → IsTreeOver h S tree []
    → bits ≡ [] → IsReadSoFar h S text text tree bits
start text tree bits over none = record { operations = []; over = over; rest = rw none (begins text) }

continues : (text left new : Option (List ℕ)) (operations : List (List ℕ)) (bits : List Bool) (line operation : List ℕ) (active : Bool)
    → IsOperationLine line active operation → IsTaken line left new → Continues text left operations bits
    → Continues text new (operations ++ operation ∷ []) (bits ++ active ∷ [])
continues None left new operations bits line operation active row taken so = tt
continues (Some text) left new operations bits line operation active row taken so =
    let here : (line ≡ first_piece 10 so.0) × (new ≡ Some (drop_through 10 so.0)) = subst (λ (o : Option (List ℕ)). IsTaken line o new) so.1 taken in (
      drop_through 10 so.0,
      here.1,
      λ more digits rows.
          rw (append_assoc, append_assoc) (so.2 (operation ∷ more) (active ∷ digits) (rw (← here.0) row, rows)),
    )

pub step : {h : HashFunction} {S : Shape} (text left new : Option (List ℕ)) (old_tree tree : KeptTree) (old_bits bits : List Bool)
    (line operation : List ℕ) (active : Bool) → IsReadSoFar h S text left old_tree old_bits
    → ((operations : List (List ℕ)) → IsTreeOver h S old_tree operations → IsTreeOver h S tree (operations ++ operation ∷ []))
    → bits ≡ old_bits ++ active ∷ [] → IsOperationLine line active operation → IsTaken line left new
    → IsReadSoFar h S text new tree bits
step text left new old_tree tree old_bits bits line operation active so grown is row taken = record {
  operations = so.operations ++ operation ∷ [];
  over = grown so.operations so.over;
  rest = rw is (continues text left new so.operations old_bits line operation active row taken so.rest);
}

-- nothing is left
pub finish : {h : HashFunction} {S : Shape} (text left : Option (List ℕ)) (tree : KeptTree) (bits : List Bool)
    → IsReadSoFar h S text left tree bits → IfSome left (λ rest. rest ≡ [])
    → IfSome text (λ known. IsReadFrom h S known tree bits)
finish None left tree bits so end = tt
finish (Some text) left tree bits so end =
    let at_end : so.rest.0 ≡ [] = subst (λ (o : Option (List ℕ)). IfSome o (λ rest. rest ≡ [])) so.rest.1 end in
    record {
      operations = so.operations;
      over = so.over;
      rows = rw (sym (append-nil so.operations), sym (append-nil bits)) (so.rest.2 [] [] at_end);
    }
