-- A copy that begins at a location is a snapshot's, or two strings cross.
use Rattle.std.proofs.Common.{◌≡◌, ◌⊎◌, ℕ, ◌+◌, ◌++◌, false, List, [], length, drop, get_or-drop, length-drop, inl, inr, sym, ap, ◌∙◌, arith}
use Rattle.std.proofs.lemmas.List.{ext_get_or}
use Rattle.std.proofs.lemmas.List.Elements.{Contains-append_left, Contains-append_right}
use Rattle.storage_codec.specs.Digests.{HashFunction, IsSized, Cross}
use Rattle.storage_merkle.specs.Shape.{Laws}
use Rattle.storage_merkle.specs.Laws.Calc.{cross_wider}
use Rattle.storage_current.specs.CurrentSoundness.{CurrentProofsAreSound}
use Rattle.storage_current.specs.Openings.{opening_strings}
use Rattle.storage_current.specs.Pins.{chunk_pins, kept_texts, low_texts, told_strings}
use Rattle.storage_current.specs.Snapshots.{Grafting, Snapshot, IsSnapshot, Witness, aligned, canonical_root, height, ops_root_of, snapshot_strings}
use Rattle.storage_sync.specs.Floors.{CopiesFromPins, IsTail, PagesAreTails, TailsAreCopies}
use Rattle.storage_sync.specs.Pages.{AreProved, FirstNames, FirstRoot, Page, bits_of, hashed_by, operations_of}
use Rattle.storage_sync.proofs.Copies.{Stand, pages_hold}

-- what stands in a list from a place to its end
stand_rest : {A : Type 0} (none : A) (list : List A) (start : ℕ) (xs : List A) → start + length xs ≡ length list
    → Stand none list start xs → xs ≡ drop start list
stand_rest none list start xs len stand =
    ext_get_or none xs (drop start list) (omega (arith, length-drop start list, len))
    (λ i l. stand i l ∙ sym (get_or-drop start list i none))

module _ (sound : CurrentProofsAreSound) (d : ℕ) (h : HashFunction) (width : (d ≡ 32) ⊎ (d ≡ 64)) (sized : IsSized d h)
    (g : Grafting) (laws : Laws g.shape) (root : List ℕ) (begin leaves : ℕ) (pages : List Page) (named : FirstNames leaves pages)
    (proved : AreProved h g d root begin leaves pages) (s : Snapshot) (snapshot : IsSnapshot s)
    (same : canonical_root h g s ≡ root) where
  -- with either root of the operations: that of the pages, or one that is known
  tail_of : (ops_root : List ℕ) → FirstRoot ops_root pages ⊎ (ops_root ≡ ops_root_of h g s)
      → IsTail h g s begin (operations_of pages) (bits_of g.bytes pages) ops_root
      ⊎ Cross h (hashed_by h g begin pages) (snapshot_strings h g s)
  tail_of ops_root known = elim (pages_hold sound d h width sized g laws root s snapshot same begin leaves pages proved) [
    | inr crossed ↦ inr crossed
    | inl hold ↦
        let all = hold.leaves leaves named in
        let count = hold.count in
        let each = hold.bit_each in
        let bits = snapshot.bit_each in
        inl (record {
          operations_are = stand_rest [] s.operations begin (operations_of pages) (omega (arith, count, all)) hold.operations;
          bits_are = stand_rest false s.bits begin (bits_of g.bytes pages) (omega (arith, count, all, each, bits)) hold.bits;
          ops_root_is = elim known [ inl first ↦ hold.root_is ops_root first | inr is ↦ is ];
        })
  ]

pub tails : CurrentProofsAreSound → PagesAreTails
tails sound d h width sized g laws root begin leaves ops_root pages named rooted proved s snapshot same =
    tail_of sound d h width sized g laws root begin leaves pages named proved s snapshot same ops_root (inl rooted)

pub copies_of_all : TailsAreCopies
copies_of_all h g s operations bits ops_root tail = record {
  operations_are = tail.operations_are;
  bits_are = tail.bits_are;
  ops_root_is = tail.ops_root_is;
}

pub copies_from : {D : Type 0} (text : D → List ℕ) → CurrentProofsAreSound → CopiesFromPins text
copies_from text sound d h width sized g laws root begin leaves floor ops_root w proof first pins opened pages named proved t below
    place bound s snapshot same =
    let xs = opening_strings h g.shape w ops_root proof begin first pins in
    let ys = hashed_by h g begin pages in
    let zs = told_strings h g (kept_texts text g.shape t) (low_texts h text g.shape below) leaves
    (aligned g.shape leaves floor (height g)) in
    elim (opened g.bytes s snapshot same) [
      | inr c ↦ inr (cross_wider (λ z m. Contains-append_left xs (ys ++ zs) z m) (λ z m. m) c)
      | inl opening ↦ elim (tail_of sound d h width sized g laws root begin leaves pages named proved s snapshot same ops_root
          (inr opening.ops_root_is)) [
            | inr c ↦ inr (cross_wider (λ z m. Contains-append_right xs (ys ++ zs) z (Contains-append_left ys zs z m)) (λ z m. m) c)
            | inl tail ↦ elim (bound s snapshot (ap (λ (v : Witness). v.grafted_root) (sym opening.witness_is))) [
              | inr c ↦
                  inr (cross_wider (λ z m. Contains-append_right xs (ys ++ zs) z (Contains-append_right ys zs z m)) (λ z m. m) c)
              | inl is ↦ inl (record {
                tail = tail;
                pins_are = opening.pins_are;
                over_chunks_are = is.1 ∙ ap (chunk_pins h g s) place;
              })
            ]
          ]
    ]
