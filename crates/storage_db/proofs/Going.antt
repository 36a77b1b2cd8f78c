-- Logs that go on: what the last commit has of them stays, but for bits that are told.
use Rattle.std.proofs.Common.{◌≡◌, ℕ, ◌<◌, ◌≤◌, Bool, false, List, [], ◌∷◌, ◌++◌, length, take, drop, set, Option, Some, None, refl, sym, ap, ap₂, ◌∙◌, arith, append-nil, append_assoc}
use Rattle.std.specs.Global.{Vec}
use Rattle.std.specs.Prelude.{MatchOption}
use Rattle.std.proofs.Math.Seq.{take-set-lt}
use Rattle.std.proofs.lemmas.List.{drop-set-lt, length-take, take-append-drop, take-append-le, take-set-le}
use Rattle.storage_current.specs.Extended.{cleared}
use Rattle.storage_db.specs.declared.db.log.Log.{Log}
use Rattle.storage_db.specs.Databases.{Committed}
use Rattle.storage_db.specs.Kept.{AreFirst, KeptCommit, bits_of}
use Rattle.storage_db.specs.Logs.{AreCommitted}
use Rattle.storage_db.specs.Parts.{AreLast, GoesOn, IsSince}

-- ---- bits

cleared-append : (xs ys : List ℕ) (bits : List Bool) → cleared (xs ++ ys) bits ≡ cleared ys (cleared xs bits)
cleared-append [] ys bits = refl
cleared-append (x ∷ xs) ys bits = cleared-append xs ys (set bits x false)

-- a bit that the commit does not have
pub cleared_past : (n : ℕ) (since : List ℕ) (bits base : List Bool) (l : ℕ) → n ≤ l → AreCommitted n since bits base
    → AreCommitted n since (set bits l false) base
cleared_past n since bits base l past are = take-set-le n bits l false past ∙ are

-- one that it has is told
pub cleared_within : (n : ℕ) (since : List ℕ) (bits base : List Bool) (l : ℕ) → l < n → AreCommitted n since bits base
    → AreCommitted n (since ++ l ∷ []) (set bits l false) base
cleared_within n since bits base l within are =
    take-set-lt n bits l false within ∙ ap (λ (b : List Bool). set b l false) are ∙ sym (cleared-append since (l ∷ []) base)

-- a bit that was cleared, of those that the last commit has and of those behind
pub told_within : (n m l : ℕ) (since now : List ℕ) (bits after base : List Bool) → l < n → m ≡ n → now ≡ since ++ l ∷ []
    → after ≡ set bits l false → AreCommitted n since bits base → AreCommitted m now after base
told_within n m l since now bits after base within same more set_is are =
    ap₂ (λ (k : ℕ) (b : List Bool). take k b) same set_is ∙ cleared_within n since bits base l within are
    ∙ ap (λ (c : List ℕ). cleared c base) (sym more)

pub told_past : (n m l : ℕ) (since now : List ℕ) (bits after base : List Bool) → n ≤ l → m ≡ n → now ≡ since
    → after ≡ set bits l false → AreCommitted n since bits base → AreCommitted m now after base
told_past n m l since now bits after base past same none set_is are =
    ap₂ (λ (k : ℕ) (b : List Bool). take k b) same set_is ∙ cleared_past n since bits base l past are
    ∙ ap (λ (c : List ℕ). cleared c base) (sym none)

-- the bits of the commit with those cleared that are told and one more, and the bits behind them
pub all_bits : (n : ℕ) (since : List ℕ) (bits base : List Bool) (l : ℕ) → l < n → AreCommitted n since bits base
    → cleared (since ++ l ∷ []) base ++ drop n bits ≡ set bits l false
all_bits n since bits base l within are =
    ap₂ (λ (x y : List Bool). x ++ y) (sym (cleared_within n since bits base l within are))
    (sym (drop-set-lt n bits l false within))
    ∙ take-append-drop n (set bits l false)

-- ---- logs

pub goes_same : (old new : Log) → new.operations.items ≡ old.operations.items → new.bits.items ≡ old.bits.items
    → new.committed ≡ old.committed → new.cleared.items ≡ old.cleared.items → GoesOn old new
goes_same old new operations bits committed since = record {
  more = [];
  operations = operations ∙ sym (append-nil _);
  committed = committed;
  cleared = λ base are. ap₂ (λ (n : ℕ) (b : List Bool). take n b) committed bits ∙ are
      ∙ ap (λ (c : List ℕ). cleared c base) (sym since);
}

pub goes_trans : (a b c : Log) → GoesOn a b → GoesOn b c → GoesOn a c
goes_trans a b c ab bc = record {
  more = ab.more ++ bc.more;
  operations = bc.operations ∙ ap (λ (l : List (Vec ℕ)). l ++ bc.more) ab.operations
      ∙ append_assoc a.operations.items ab.more bc.more;
  committed = bc.committed ∙ ab.committed;
  cleared = λ base are. bc.cleared base (ab.cleared base are);
}

pub goes_cleared : (old new : Log) → new.operations ≡ old.operations → new.committed ≡ old.committed
    → ((base : List Bool) → AreLast old base → AreLast new base) → GoesOn old new
goes_cleared old new operations committed since = record {
  more = [];
  operations = ap (λ (v : Vec (Vec ℕ)). v.items) operations ∙ sym (append-nil _);
  committed = committed;
  cleared = since;
}

pub goes_appended : (old new : Log) (bytes : Vec ℕ) (bit : Bool)
    → new.operations.items ≡ old.operations.items ++ bytes ∷ [] → new.bits.items ≡ old.bits.items ++ bit ∷ []
    → new.committed ≡ old.committed → new.cleared ≡ old.cleared → GoesOn old new
goes_appended old new bytes bit operations bits committed since = record {
  more = bytes ∷ [];
  operations = operations;
  committed = committed;
  cleared = λ base are.
      let within : old.committed ≤ length old.bits.items = omega (arith, old.within, old.each) in
      ap₂ (λ (n : ℕ) (b : List Bool). take n b) committed bits
      ∙ take-append-le old.committed old.bits.items (bit ∷ []) within ∙ are
      ∙ ap (λ (v : Vec ℕ). cleared v.items base) (sym since);
}

pub since_on : {K W : Type 0} (old new : Log) (last : Option (KeptCommit K W)) → GoesOn old new → IsSince old last
    → IsSince new last
since_on old new None on since = tt
since_on old new (Some c) on since = record {
  some = since.some;
  committed = on.committed ∙ since.committed;
  cleared = on.cleared (bits_of c) since.cleared;
}

-- ---- operations of the last commit

module _ {K W : Type 0} where
  one_first : (xs more : List (List ℕ)) (commit : Committed K W) → AreFirst xs commit → AreFirst (xs ++ more) commit
  one_first xs more commit first =
      let n : ℕ = length commit.snapshot.operations in
      let few : n ≤ length xs
      = omega (arith, ap (λ (l : List (List ℕ)). length l) first ∙ length-take n xs) in
      first ∙ sym (take-append-le n xs more few)

  pub first_more : (xs ys more : List (List ℕ)) → ys ≡ xs ++ more → (o : Option (Committed K W))
      → MatchOption o (Unit {0}) (AreFirst xs) → MatchOption o (Unit {0}) (AreFirst ys)
  first_more xs ys more is None first = tt
  first_more xs ys more is (Some commit) first =
      one_first xs more commit first ∙ ap (take (length commit.snapshot.operations)) (sym is)
