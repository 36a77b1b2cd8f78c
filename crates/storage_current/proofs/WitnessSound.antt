-- An accepted witness is the snapshot's own, or two strings cross.
use Rattle.std.proofs.Common.{◌≡◌, ℕ, ◌%◌, ◌<◌, ◌^◌, List, [], ◌++◌, length, inl, inr, refl, sym, ap, ◌∙◌, arith, Option, Some, None}
use Rattle.std.specs.Option.{option_map}
use Rattle.std.proofs.lemmas.List.{append_cancel_left}
use Rattle.std.proofs.lemmas.Nat.{div-add-mod'}
use Rattle.storage_codec.specs.Digests.{HashFunction}
use Rattle.storage_merkle.specs.Calc.{be8}
use Rattle.storage_merkle.specs.Laws.Calc.{split_append, be8_length, be8_same, heads}
use Rattle.storage_current.specs.Snapshots.{Grafting, height, Snapshot, slot, counted_slot, ops_root_of, grafted_root_of, pending_of, partial_of, snapshot_string, canonical_root, Witness, own_witness}
use Rattle.storage_current.specs.CurrentProofs.{counted, witness_string, IsSlot}
use Rattle.storage_current.specs.CurrentSoundness.{WitnessesAreSound}
use Rattle.storage_current.proofs.RangeSound.{same_canonical, mapped-slot}

number : Option (ℕ × List ℕ) → ℕ
number None = 0
number (Some partial) = partial.0

digest : Option (ℕ × List ℕ) → Option (List ℕ)
digest None = None
digest (Some partial) = Some partial.1

counted_is : (p : Option (ℕ × List ℕ)) → counted p ≡ counted_slot (number p) (digest p)
unfolding number digest
counted_is None = refl
counted_is (Some partial) = refl

AreSmall : ℕ → Option (ℕ × List ℕ) → Type 0
AreSmall d p = (n : ℕ) (x : List ℕ) → p ≡ Some (n, x) → (n < 2 ^ 64) × (length x ≡ d)

digest_slot : (d : ℕ) (p : Option (ℕ × List ℕ)) → AreSmall d p → IsSlot d (digest p)
unfolding digest AreSmall
digest_slot d None small = tt
digest_slot d (Some partial) small = (small partial.0 partial.1 refl).1

none_some : {P : Type 0} (x : List ℕ) → (let o : Option (List ℕ) = None in o) ≡ Some x → P
none_some x e = absurd (cc)

some_none : {P : Type 0} (x : List ℕ) → Some x ≡ (let o : Option (List ℕ) = None in o) → P
some_none x e = absurd (cc)

-- the number of bits and the digest of the partial chunk
partial_is : (d : ℕ) (h : HashFunction) (m : ℕ) → m < 2 ^ 64 → (p : Option (ℕ × List ℕ)) (o : Option (List ℕ))
    → AreSmall d p → digest p ≡ option_map h o → counted p ≡ counted_slot m (option_map h o)
    → p ≡ option_map (λ c. (m, h c)) o
unfolding digest AreSmall
partial_is d h m mb None None small e f = refl
partial_is d h m mb None (Some c) small e f = none_some _ e
partial_is d h m mb (Some p) None small e f = some_none _ e
partial_is d h m mb (Some p) (Some c) small e f =
    let parts = split_append (be8 p.0) p.1 (be8 m) (h c) (be8_length p.0 ∙ sym (be8_length m)) f in
    let n : p.0 ≡ m = be8_same p.0 m (small p.0 p.1 refl).0 mb parts.0 in
    ap (λ x. Some (x, p.1)) n ∙ ap (λ x. Some (m, x)) parts.1

pub witness_sound : WitnessesAreSound
unfolding AreSmall
witness_sound d h pos sized g w ops_root lg lo lp small s snapshot e =
    let m = length s.operations % 2 ^ height g in
    let own = snapshot_string h g s in
    elim (heads h (witness_string w ops_root) own [] _ e) [
      | inr c ↦ inr c
      | inl same ↦
          let same' =
          ap (λ x. ops_root ++ (w.grafted_root ++ (slot w.pending ++ x))) (sym (counted_is w.partial)) ∙ same in
          let parts = same_canonical d (number w.partial) m pos _ _ _ _ w.pending _ (digest w.partial) _ lo lg (sized _)
          (sized _) lp (mapped-slot d h sized (pending_of h g s)) (digest_slot d w.partial small)
          (mapped-slot d h sized (partial_of h g s)) same' in
          let one = split_append ops_root _ (ops_root_of h g s) _ (lo ∙ sym (sized _)) same in
          let two = split_append w.grafted_root _ (grafted_root_of h g s) _ (lg ∙ sym (sized _)) one.1 in
          let rest : slot (option_map h (pending_of h g s)) ++ counted w.partial
          ≡ slot (option_map h (pending_of h g s)) ++ counted_slot m (option_map h (partial_of h g s)) =
          ap (λ x. slot x ++ counted w.partial) (sym parts.pending) ∙ two.1 in
          let three = append_cancel_left (slot (option_map h (pending_of h g s))) _ _ rest in
          let few = snapshot.few in
          let bound : m < 2 ^ 64 = omega (arith, div-add-mod' (length s.operations) (2 ^ height g)) in
          let partial = partial_is d h m bound w.partial (partial_of h g s) small parts.partial three in
          let G : List ℕ → Option (List ℕ) → Option (ℕ × List ℕ) → Witness =
          λ x y z. record { grafted_root = x; pending = y; partial = z } in
          inl (
            ap (λ x. G x w.pending w.partial) parts.grafted
                ∙ ap (λ y. G (grafted_root_of h g s) y w.partial) parts.pending
                ∙ ap (λ z. G (grafted_root_of h g s) (option_map h (pending_of h g s)) z) partial,
            parts.ops,
          )
    ]

counted_own : (h : HashFunction) (m : ℕ) (o : Option (List ℕ))
    → counted (option_map (λ c. (m, h c)) o) ≡ counted_slot m (option_map h o)
counted_own h m None = refl
counted_own h m (Some c) = refl

pub witness_accepted : (h : HashFunction) (g : Grafting) (s : Snapshot)
    → h (witness_string (own_witness h g s) (ops_root_of h g s)) ≡ canonical_root h g s
witness_accepted h g s =
    ap (λ x. h (ops_root_of h g s ++ (grafted_root_of h g s ++ (slot (option_map h (pending_of h g s)) ++ x))))
    (counted_own h (length s.operations % 2 ^ height g) (partial_of h g s))
