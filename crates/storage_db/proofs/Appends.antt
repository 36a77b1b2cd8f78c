-- Snapshots of operations once one is appended and the bit of another one is cleared.
use Rattle.std.proofs.Common.{◌≡◌, ◌⊎◌, ℕ, zero, suc, ◌+◌, ◌<◌, Bool, true, false, List, [], ◌∷◌, ◌++◌, length, get_or, set, Option, Some, None, inl, inr, refl, sym, ap, ◌∙◌, arith}
use Rattle.std.specs.Prelude.{MatchOption}
use Rattle.std.proofs.lemmas.Bool.{cases_eq}
use Rattle.std.proofs.lemmas.List.{length-append, length-set, get_or-set_other, get_or_append_left, get_or_at}
use Rattle.storage_current.specs.Snapshots.{Snapshot, IsActive}
use Rattle.storage_db.proofs.Cases.{clash}

-- not the location, where there is one
abbrev pub IsNot : Option ℕ → ℕ → Type 0
IsNot o i = MatchOption o (Unit {0}) (λ l. i ≡ l → ⊥)

-- the bits are those of before, but for the one that is cleared, if one is
pub record IsCleared (bits cleared : List Bool) (o : Option ℕ) : Type 0 where
  pub count : length cleared ≡ length bits
  pub back : (i : ℕ) → get_or cleared i false ≡ true → (get_or bits i false ≡ true) × IsNot o i
  pub on : (i : ℕ) → get_or bits i false ≡ true → IsNot o i → get_or cleared i false ≡ true

pub none_cleared : (bits : List Bool) → IsCleared bits bits None
none_cleared bits = record { count = refl; back = λ i h. (h, tt); on = λ i h not. h }

set_here : (bits : List Bool) (i : ℕ) → get_or (set bits i false) i false ≡ false
set_here [] i = refl
set_here (b ∷ bits) zero = refl
set_here (b ∷ bits) (suc i) = set_here bits i

pub one_cleared : (bits : List Bool) (l : ℕ) → IsCleared bits (set bits l false) (Some l)
one_cleared bits l = record {
  count = length-set bits l false;
  back = λ i h.
      let not : i ≡ l → ⊥ = λ same. clash _ h (ap (λ (j : ℕ). get_or (set bits l false) j false) same ∙ set_here bits l) in
      (sym (get_or-set_other bits l i false false not) ∙ h, not);
  on = λ i h not. get_or-set_other bits l i false false not ∙ h;
}

-- what is active once an operation is appended, with its bit
pub record IsAppended (s t : Snapshot) (x : List ℕ) (bit : Bool) (o : Option ℕ) : Type 0 where
  pub count : length t.operations ≡ length s.operations + 1
  pub bit_each : length t.bits ≡ length t.operations
  pub stays : (i : ℕ) (operation : List ℕ) → IsActive s i operation → IsNot o i → IsActive t i operation
  pub new : bit ≡ true → IsActive t (length s.operations) x
  pub back : (i : ℕ) (operation : List ℕ) → IsActive t i operation
      → ((i ≡ length s.operations) × (operation ≡ x) × (bit ≡ true)) ⊎ (IsActive s i operation × IsNot o i)

module _ (s : Snapshot) (each : length s.bits ≡ length s.operations) (x : List ℕ) (bit : Bool) (cleared : List Bool)
    (o : Option ℕ) (c : IsCleared s.bits cleared o) (floor : ℕ) where
  abbrev next : Snapshot
  next = record { operations = s.operations ++ x ∷ []; bits = cleared ++ bit ∷ []; floor = floor }

  same_count : length cleared ≡ length s.operations
  same_count = c.count ∙ each

  more : length (s.operations ++ x ∷ []) ≡ length s.operations + 1
  more = length-append s.operations (x ∷ [])

  more_bits : length (cleared ++ bit ∷ []) ≡ length s.operations + 1
  more_bits = length-append cleared (bit ∷ []) ∙ ap (λ (n : ℕ). n + 1) same_count

  stays_on : (i : ℕ) (operation : List ℕ) → IsActive s i operation → IsNot o i → IsActive next i operation
  stays_on i operation h not =
      let within : i < length s.operations = h.within in
      let in_bits : i < length cleared = omega (arith, same_count) in
      record {
        within = omega (arith, more);
        there = get_or_append_left s.operations (x ∷ []) [] i within ∙ h.there;
        bit = get_or_append_left cleared (bit ∷ []) false i in_bits ∙ c.on i h.bit not;
      }

  new_one : bit ≡ true → IsActive next (length s.operations) x
  new_one holds = record {
    within = omega (arith, more);
    there = get_or_at s.operations x [] [] (length s.operations) refl;
    bit = get_or_at cleared bit [] false (length s.operations) same_count ∙ holds;
  }

  was_so : (i : ℕ) (operation : List ℕ) → IsActive next i operation
      → ((i ≡ length s.operations) × (operation ≡ x) × (bit ≡ true)) ⊎ (IsActive s i operation × IsNot o i)
  was_so i operation h =
      let below : i < length s.operations + 1 = omega (arith, h.within, more) in
      elim (cases_eq i (length s.operations)) [
        | inl same ↦ inl (
          same,
          sym h.there ∙ get_or_at s.operations x [] [] i (sym same),
          sym (get_or_at cleared bit [] false i (same_count ∙ sym same)) ∙ h.bit,
        )
        | inr other ↦
            let within : i < length s.operations = omega (arith, other) in
            let in_bits : i < length cleared = omega (arith, same_count) in
            let was = c.back i (sym (get_or_append_left cleared (bit ∷ []) false i in_bits) ∙ h.bit) in
            inr (
              record {
                within = within;
                there = sym (get_or_append_left s.operations (x ∷ []) [] i within) ∙ h.there;
                bit = was.0;
              },
              was.1,
            )
      ]

  pub appended : IsAppended s next x bit o
  appended = record {
    count = more;
    bit_each = more_bits ∙ sym more;
    stays = stays_on;
    new = new_one;
    back = was_so;
  }
