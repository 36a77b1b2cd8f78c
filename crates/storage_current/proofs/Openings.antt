-- An accepted opening is the snapshot's own, or two strings cross; and the snapshot's own is accepted.
use Rattle.std.proofs.Common.{◌≡◌, ℕ, ◌+◌, ◌^◌, ◌<◌, ◌≤◌, ◌++◌, ◌⊎◌, List, [], ◌∷◌, length, map, inl, inr, refl, sym, ap₂, subst, ◌∙◌, arith, option_to_list}
use Rattle.std.proofs.lemmas.List.Elements.{Contains-append_left, Contains-append_right}
use Rattle.storage_codec.specs.Digests.{HashFunction}
use Rattle.storage_merkle.specs.declared.merkle.bagging.Bagging.TheVariants.{BackwardFold}
use Rattle.storage_merkle.specs.Hashing.{leaf_digests}
use Rattle.storage_merkle.specs.Kept.{at_peaks}
use Rattle.storage_merkle.specs.Multi.{tree_digest}
use Rattle.storage_merkle.specs.Pinned.{IsPinnedAccepted, IsPinnedProved, OwnPinnedProofsAreAccepted, peak_sites, pinned_strings}
use Rattle.storage_merkle.specs.RangeProofs.{Proof}
use Rattle.storage_merkle.specs.Shape.{Shape, Laws, leaves_under}
use Rattle.storage_merkle.specs.Trees.{listed, places, tree_strings, ungrafted}
use Rattle.storage_merkle.specs.Laws.Calc.{cross_wider}
use Rattle.storage_merkle.specs.Laws.Hashing.{node_over-tree}
use Rattle.storage_current.specs.CurrentProofs.{witness_string}
use Rattle.storage_current.specs.CurrentSoundness.{OwnWitnessesAreAccepted}
use Rattle.storage_current.specs.Laws.Grafting.{exact-le}
use Rattle.storage_current.specs.NodeLists.{plain_over}
use Rattle.storage_current.specs.Openings.{MeansOpening, OwnOpeningsAreAccepted}
use Rattle.storage_current.specs.Snapshots.{Grafting, Witness, aligned_of, canonical_root, content, exact_of, grafting_of, partial_of, pending_of, snapshot_string, view}
use Rattle.storage_current.specs.WitnessWire.{MeansWitness}

-- digests of peaks by site, and from those of leaves
peaks_told : (h : HashFunction) (S : Shape) (list : List (List ℕ)) (hs : List ℕ) (s : ℕ) → s + leaves_under hs ≤ length list
    → map (tree_digest h (ungrafted S) (listed list)) (peak_sites (places s hs))
    ≡ at_peaks (plain_over h S (leaf_digests h (ungrafted S) 0 list)) s hs
unfolding leaves_under
peaks_told h S list [] s within = refl
peaks_told h S list (k ∷ hs) s within = ap₂ (λ x xs. x ∷ xs)
    (sym (node_over-tree h (ungrafted S) (listed list) k s (omega (arith, within))))
    (peaks_told h S list hs (s + 2 ^ k) (omega (arith, within)))

pub opened : (h : HashFunction) (S : Shape) → Laws S → (w : Witness) (ops_root : List ℕ) (proof : Proof) (start : ℕ)
    (operations pinned : List (List ℕ)) (root : List ℕ) → MeansWitness h w ops_root root
    → IsPinnedProved h S BackwardFold proof start operations pinned ops_root
    → MeansOpening h S w ops_root proof start operations pinned root
opened h S L w ops_root proof start operations pinned root means proved bytes s snapshot root_is =
    let g : Grafting = grafting_of S bytes in
    let n = length s.operations in
    let strings = pinned_strings h (ungrafted S) BackwardFold proof start (listed operations) pinned in
    let grafted = tree_strings h (view g n) BackwardFold (content h g s) (aligned_of h g s) in
    let plain = tree_strings h (ungrafted S) BackwardFold (listed s.operations) (exact_of h g s) in
    let chunks = option_to_list (pending_of h g s) ++ option_to_list (partial_of h g s) in
    elim (means g s snapshot root_is) [
      | inr c ↦ inr (cross_wider (λ z m. Contains-append_left (witness_string w ops_root ∷ []) strings z m) (λ z m. m) c)
      | inl own ↦ elim (proved s.operations (exact_of h g s) snapshot.few (exact-le S n s.floor) (sym own.1)) [
        | inr c ↦ inr (cross_wider (λ z m. Contains-append_right (witness_string w ops_root ∷ []) strings z m)
            (λ z m. Contains-append_right (snapshot_string h g s ∷ []) (grafted ++ (plain ++ chunks)) z
            (Contains-append_right grafted (plain ++ chunks) z (Contains-append_left plain chunks z m))) c)
        | inl is ↦
            let within = is.own.elements_are.within in
            let room : 0 + leaves_under (S.peaks start) ≤ length s.operations = omega (arith, L.sum start, within) in
            inl (record {
              witness_is = own.0;
              ops_root_is = own.1;
              there = is.own.elements_are;
              pins_are = is.pinned_are ∙ peaks_told h S s.operations (S.peaks start) 0 room;
            })
      ]
    ]

pub own_opened : OwnPinnedProofsAreAccepted → OwnWitnessesAreAccepted → OwnOpeningsAreAccepted
own_opened proofs witnesses h g grafting s snapshot w ops_root proof start operations pinned some opening own =
    let S = g.shape in
    let there = opening.there in
    let laws = grafting.laws in
    let room : 0 + leaves_under (S.peaks start) ≤ length s.operations = omega (arith, laws.sum start, there.within) in
    let root_is : h (witness_string w ops_root) ≡ canonical_root h g s =
    ap₂ (λ (v : Witness) (r : List ℕ). h (witness_string v r)) opening.witness_is opening.ops_root_is ∙ witnesses h g s in
    let accepted = proofs h (ungrafted S) laws BackwardFold proof start operations pinned (listed s.operations) (exact_of h g s)
    snapshot.few (exact-le S (length s.operations) s.floor) some (record {
      own = record { proof_is = own; elements_are = there; chunks_are = λ a k one grafted al inside out. cc };
      pinned_are = opening.pins_are ∙ sym (peaks_told h S s.operations (S.peaks start) 0 room);
    }) in (
      root_is,
      subst (IsPinnedAccepted h (ungrafted S) BackwardFold proof start (listed operations) pinned) (sym opening.ops_root_is)
          accepted,
    )
