-- Ranges of the keys of a commit, and of their copies.
use Rattle.std.proofs.Common.{◌≡◌, ℕ, Bool, not, ◌&&◌, List, [], ◌∷◌, is_lt, is_le, refl, ap, ap₂, ◌∙◌}
use Rattle.std.specs.List.{AllZip}
use Rattle.std.specs.declared.ops.Bound.{Bound}
use Rattle.std.specs.declared.ops.Bound.TheVariants.{Included, Excluded, Unbounded}
use Rattle.std.specs.BTreeMap.Range.{entries_between, is_from_start, is_past_end, range_contains}
use Rattle.storage_current.specs.Keys.{Keyed, IsKeyed}
use Rattle.storage_db.specs.declared.db.active.Active.{Active}
use Rattle.storage_db.specs.Kept.{IsCopy}
use Rattle.storage_db.specs.Ranges.{pairs_of, seen_pairs}
use Rattle.storage_db.specs.Notes.{AreAlike}
use Rattle.storage_db.proofs.Copies.{filter_copy, turn}
use Rattle.storage_db.proofs.Recalled.{IsSame}
use Rattle.storage_db.proofs.Remembering.{alike_copies}

module _ {K W Y : Type 0} (e : Keyed K W) (seen : W → Y) (is : IsKeyed e) where
  start_copy : (lo : Bound K) (c d : K × Active W) → IsCopy e seen c d
      → is_from_start e.cmp lo d.0 ≡ is_from_start e.cmp lo c.0
  start_copy (Included a) c d copy = ap is_le (turn e seen is c d a a copy refl)
  start_copy (Excluded a) c d copy = ap is_lt (turn e seen is c d a a copy refl)
  start_copy Unbounded c d copy = refl

  end_copy : (hi : Bound K) (c d : K × Active W) → IsCopy e seen c d
      → is_past_end e.cmp hi d.0 ≡ is_past_end e.cmp hi c.0
  end_copy (Included b) c d copy = ap is_lt (turn e seen is c d b b copy refl)
  end_copy (Excluded b) c d copy = ap is_le (turn e seen is c d b b copy refl)
  end_copy Unbounded c d copy = refl

  between_copy : (lo hi : Bound K) (es fs : List (K × Active W)) → AllZip (IsCopy e seen) es fs
      → AllZip (IsCopy e seen) (entries_between e.cmp lo hi es) (entries_between e.cmp lo hi fs)
  between_copy lo hi es fs h =
      filter_copy e seen is (range_contains e.cmp lo hi) (range_contains e.cmp lo hi)
      (λ c d copy. ap₂ (λ (x y : Bool). x && not y) (start_copy lo c d copy) (end_copy hi c d copy)) es fs h

  module _ {Z : Type 0} (f : W → Z) (same : IsSame e seen is f) where
    pairs_copy : (es fs : List (K × Active W)) → AllZip (IsCopy e seen) es fs
        → seen_pairs e.key f (pairs_of fs) ≡ seen_pairs e.key f (pairs_of es)
    pairs_copy [] [] h = refl
    pairs_copy [] (d ∷ fs) h = absurd h
    pairs_copy (c ∷ es) [] h = absurd h
    pairs_copy (c ∷ es) (d ∷ fs) h =
        let pair : List ℕ → Z → List ℕ × Z = λ k v. (k, v) in
        ap₂ (λ (x : List ℕ × Z) (xs : List (List ℕ × Z)). x ∷ xs)
        (ap₂ (λ (k : List ℕ) (v : Z). pair k v) h.0.key (same c d h.0)) (pairs_copy es fs h.1)

    -- what a range of a commit in memory shows is that of the definition's commit
    pub range_alike : (lo hi : Bound K) (es fs others : List (K × Active W)) → AllZip (IsCopy e seen) es fs
        → AreAlike e.cmp (entries_between e.cmp lo hi fs) others → (pairs : List (K × W)) → pairs ≡ pairs_of others
        → seen_pairs e.key f pairs ≡ seen_pairs e.key f (pairs_of (entries_between e.cmp lo hi es))
    range_alike lo hi es fs others h alike pairs are =
        ap (seen_pairs e.key f) are
        ∙ pairs_copy (entries_between e.cmp lo hi es) others
        (alike_copies e seen is (entries_between e.cmp lo hi es) (entries_between e.cmp lo hi fs) others
        (between_copy lo hi es fs h) alike)
