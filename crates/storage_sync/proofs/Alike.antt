-- Snapshots with one canonical root are alike, or two strings cross.
use Rattle.std.proofs.Common.{◌≡◌, ◌⊎◌, ℕ, ◌%◌, ◌<◌, ◌^◌, Bool, List, [], ◌∷◌, ◌++◌, length, Option, Some, None, inl, inr, refl, sym, ap, ap₂, subst, ◌∙◌, arith}
use Rattle.std.specs.List.{Contains}
use Rattle.std.specs.Prelude.{option_map, option_to_list}
use Rattle.std.proofs.lemmas.List.Elements.{Contains-append_left, Contains-append_right}
use Rattle.std.proofs.lemmas.Nat.{div-add-mod'}
use Rattle.storage_codec.specs.Digests.{HashFunction, IsSized, Cross}
use Rattle.storage_merkle.specs.declared.merkle.bagging.Bagging.TheVariants.{BackwardFold}
use Rattle.storage_merkle.specs.Laws.Calc.{cross_wider}
use Rattle.storage_merkle.specs.RangeProofs.{own_proof}
use Rattle.storage_merkle.specs.Shape.{Laws}
use Rattle.storage_merkle.specs.Soundness.{RootsBindTheirTrees}
use Rattle.storage_merkle.specs.Trees.{listed, tree_root, tree_strings, ungrafted}
use Rattle.storage_current.specs.CurrentProofs.{IsSlot, counted, witness_string}
use Rattle.storage_current.specs.CurrentSoundness.{OwnWitnessesAreAccepted, WitnessesAreSound}
use Rattle.storage_current.specs.Laws.Grafting.{aligned-le, exact-le}
use Rattle.storage_current.specs.Snapshots.{Grafting, Snapshot, IsSnapshot, Witness, aligned_of, canonical_root, content, counted_slot, exact_of, grafted_root_of, height, ops_root_of, own_witness, partial_of, pending_of, slot, snapshot_string, snapshot_strings, view}
use Rattle.storage_sync.specs.Alike.{AreAlike, ProveAlike, nothing}
use Rattle.storage_sync.specs.Pages.{IsCopy, with_floor}

-- ---- the string of a snapshot's own witness

counted_own : (h : HashFunction) (m : ℕ) (o : Option (List ℕ))
    → counted (option_map (λ c. (m, h c)) o) ≡ counted_slot m (option_map h o)
counted_own h m None = refl
counted_own h m (Some c) = refl

witness_own : (h : HashFunction) (g : Grafting) (s : Snapshot)
    → witness_string (own_witness h g s) (ops_root_of h g s) ≡ snapshot_string h g s
witness_own h g s =
    ap (λ (x : List ℕ). ops_root_of h g s ++ (grafted_root_of h g s ++ (slot (option_map h (pending_of h g s)) ++ x)))
    (counted_own h (length s.operations % 2 ^ height g) (partial_of h g s))

slot_sized : (d : ℕ) (h : HashFunction) → IsSized d h → (o : Option (List ℕ)) → IsSlot d (option_map h o)
slot_sized d h sized None = tt
slot_sized d h sized (Some c) = sized c

counted_sized : (d : ℕ) (h : HashFunction) → IsSized d h → (m : ℕ) → m < 2 ^ 64 → (o : Option (List ℕ)) (n : ℕ) (x : List ℕ)
    → option_map {U = ℕ × List ℕ} (λ c. (m, h c)) o ≡ Some (n, x) → (n < 2 ^ 64) × (length x ≡ d)
counted_sized d h sized m few None n x e = absurd (let clash = e in cc)
counted_sized d h sized m few (Some c) n x e =
    let pair : (m, h c) ≡ (n, x) = cc in
    let number : m ≡ n = ap (λ (p : ℕ × List ℕ). p.0) pair in
    let digest : h c ≡ x = ap (λ (p : ℕ × List ℕ). p.1) pair in
    (omega (arith, number, few), ap length (sym digest) ∙ sized c)

-- ---- where the strings of a root's parts stand

module _ (h : HashFunction) (g : Grafting) (s : Snapshot) where
  abbrev ops_strings : List (List ℕ)
  ops_strings = tree_strings h (ungrafted g.shape) BackwardFold (listed s.operations) (exact_of h g s)

  abbrev view_strings : List (List ℕ)
  view_strings =
      tree_strings h (view g (length s.operations)) BackwardFold (content h g s) (aligned_of h g s)

  abbrev chunk_strings : List (List ℕ)
  chunk_strings = option_to_list (pending_of h g s) ++ option_to_list (partial_of h g s)

  in_string : (x : List ℕ) → Contains (snapshot_string h g s ∷ []) x → Contains (snapshot_strings h g s) x
  in_string x there =
      Contains-append_left (snapshot_string h g s ∷ []) (view_strings ++ (ops_strings ++ chunk_strings)) x there

  in_view : (x : List ℕ) → Contains view_strings x → Contains (snapshot_strings h g s) x
  in_view x there =
      Contains-append_right (snapshot_string h g s ∷ []) (view_strings ++ (ops_strings ++ chunk_strings)) x
      (Contains-append_left view_strings (ops_strings ++ chunk_strings) x there)

  in_ops : (x : List ℕ) → Contains ops_strings x → Contains (snapshot_strings h g s) x
  in_ops x there =
      Contains-append_right (snapshot_string h g s ∷ []) (view_strings ++ (ops_strings ++ chunk_strings)) x
      (Contains-append_right view_strings (ops_strings ++ chunk_strings) x
      (Contains-append_left ops_strings chunk_strings x there))

-- ---- the laws

module _ (sound : WitnessesAreSound) (own : OwnWitnessesAreAccepted) (binds : RootsBindTheirTrees) (d : ℕ) (h : HashFunction)
    (some : 0 < d) (sized : IsSized d h) (g : Grafting) (L : Laws g.shape) where
  few_exact : (s : Snapshot) → IsSnapshot s → exact_of h g s < 2 ^ 64
  few_exact s snapshot =
      omega (arith, exact-le g.shape (length s.operations) s.floor, L.few (length s.operations) snapshot.few)

  few_aligned : (s : Snapshot) → IsSnapshot s → aligned_of h g s < 2 ^ 64
  few_aligned s snapshot =
      omega (arith, aligned-le g.shape (length s.operations) s.floor (height g), L.few (length s.operations) snapshot.few)

  few_operations : (s : Snapshot) → IsSnapshot s → length s.operations < 2 ^ 64
  few_operations s snapshot = omega (arith, snapshot.few)

  module _ (s t : Snapshot) (one : IsSnapshot s) (other : IsSnapshot t) (same : canonical_root h g s ≡ canonical_root h g t) where
    abbrev Crosses : Type 0
    Crosses = Cross h (snapshot_strings h g s) (snapshot_strings h g t)

    few_bits : length s.operations % 2 ^ height g < 2 ^ 64
    few_bits = omega (arith, div-add-mod' (length s.operations) (2 ^ height g), one.few)

    abbrev SameParts : Type 0
    SameParts = (own_witness h g s ≡ own_witness h g t) × (ops_root_of h g s ≡ ops_root_of h g t)

    parts : SameParts ⊎ Crosses
    parts = elim (sound d h some sized g (own_witness h g s) (ops_root_of h g s) (sized _) (sized _)
        (slot_sized d h sized (pending_of h g s))
        (counted_sized d h sized (length s.operations % 2 ^ height g) few_bits (partial_of h g s)) t other
        (own h g s ∙ same)) [
          | inl agree ↦ inl agree
          | inr crossed ↦ inr (cross_wider (λ x there. in_string h g s x
              (subst (λ (y : List ℕ). Contains (y ∷ []) x) (witness_own h g s) there)) (λ x there. there) crossed)
        ]

    pub alike : AreAlike h g s t ⊎ Crosses
    alike = elim parts [
      | inr crossed ↦ inr crossed
      | inl agree ↦
          elim (binds h (ungrafted g.shape) (ungrafted g.shape) BackwardFold BackwardFold (listed s.operations) (listed t.operations)
          (exact_of h g s) (exact_of h g t) (few_operations s one) (few_operations t other) (few_exact s one) (few_exact t other)
          agree.1) [
            | inr crossed ↦ inr (cross_wider (in_ops h g s) (in_ops h g t) crossed)
            | inl plain ↦
                elim (binds h (view g (length s.operations)) (view g (length t.operations)) BackwardFold BackwardFold
                (content h g s) (content h g t) (aligned_of h g s) (aligned_of h g t) (few_operations s one)
                (few_operations t other) (few_aligned s one) (few_aligned t other) (ap (λ (w : Witness). w.grafted_root) agree.0)) [
                  | inr crossed ↦ inr (cross_wider (in_view h g s) (in_view h g t) crossed)
                  | inl grafted ↦ inl (record {
                    count = plain.leaves;
                    ops_root = agree.1;
                    exact = plain.inactive;
                    aligned = grafted.inactive;
                  })
                ]
          ]
    ]

none_left : {A : Type 0} (xs : List A) → length xs ≡ 0 → [] ≡ xs
none_left [] e = refl
none_left (x ∷ xs) e = absurd (omega (arith, e))

pub of_nothing : (h : HashFunction) (g : Grafting) (s : Snapshot) → IsSnapshot s
    → AreAlike h g nothing s ⊎ Cross h (snapshot_strings h g nothing) (snapshot_strings h g s)
    → IsCopy h g s [] [] (ops_root_of h g nothing) ⊎ Cross h (snapshot_strings h g nothing) (snapshot_strings h g s)
of_nothing h g s snapshot (inr crossed) = inr crossed
of_nothing h g s snapshot (inl same) = inl (record {
  operations_are = none_left s.operations (sym same.count);
  bits_are = none_left s.bits (snapshot.bit_each ∙ sym same.count);
  ops_root_is = same.ops_root;
})

pub nothing_is : IsSnapshot nothing
nothing_is = record { bit_each = refl; floor_within = omega arith; few = omega arith }

-- snapshots of the same operations and bits
same_proofs : (h : HashFunction) (g : Grafting) (s : Snapshot) (floor : ℕ) → AreAlike h g s (with_floor s.operations s.bits floor)
    → ProveAlike h g s (with_floor s.operations s.bits floor)
same_proofs h g s floor same =
    let n = length s.operations in
    record {
      proofs = λ low high. ap₂ (λ (i : ℕ) (r : List ℕ). record {
        range = own_proof h (view g n) BackwardFold (content h g s) i low high;
        pending = option_map h (pending_of h g s);
        partial = option_map h (partial_of h g s);
        ops_root = r;
      }) same.aligned same.ops_root;
      witness = ap (λ (i : ℕ). record {
        grafted_root = tree_root h (view g n) BackwardFold (content h g s) i;
        pending = option_map h (pending_of h g s);
        partial = option_map (λ c. (n % 2 ^ height g, h c)) (partial_of h g s);
      }) same.aligned;
    }

pub proofs_alike : (h : HashFunction) (g : Grafting) (s t : Snapshot) → s.operations ≡ t.operations → s.bits ≡ t.bits
    → AreAlike h g s t → ProveAlike h g s t
proofs_alike h g s t operations bits same =
    let is : t ≡ with_floor s.operations s.bits t.floor =
    ap (λ (xs : List (List ℕ)). with_floor xs t.bits t.floor) (sym operations)
    ∙ ap (λ (bs : List Bool). with_floor s.operations bs t.floor) (sym bits) in
    subst (ProveAlike h g s) (sym is) (same_proofs h g s t.floor (subst (AreAlike h g s) is same))
