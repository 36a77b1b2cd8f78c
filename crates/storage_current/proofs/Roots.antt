-- The roots of a snapshot, and the chunks under no node of their own, from what is calculated.
use Rattle.std.proofs.Common.{◌≡◌, ℕ, ◌+◌, ◌-◌, ◌*◌, ◌/◌, ◌%◌, ◌≤◌, ◌^◌, List, [], length, map, drop, get_or, Bor, if◌then◌else◌, ltb, eqb, Bool, Option, Some, None, refl, sym, ap, ◌∙◌, arith}
use Rattle.std.specs.Option.{option_map, option_copied, IfSome, is_some}
use Rattle.std.specs.List.{slice_get}
use Rattle.std.proofs.lemmas.List.{drop-drop}
use Rattle.std.proofs.lemmas.Option.{slice_get_past, slice_get_read}
use Rattle.std.proofs.lemmas.Bool.{ltb-false}
use borrow.Author.Tests.{ltb-true}
use Rattle.std.proofs.Math.Nat.{add-mul, zero-mul}
use Rattle.storage_codec.specs.Digests.{HashFunction}
use Rattle.storage_merkle.specs.declared.merkle.bagging.Bagging.{Bagging}
use Rattle.storage_merkle.specs.declared.merkle.bagging.Bagging.TheVariants.{BackwardFold}
use Rattle.storage_merkle.specs.Shape.{Shape, Laws}
use Rattle.storage_merkle.specs.Inactive.{IsExact, IsAligned}
use Rattle.storage_merkle.specs.Trees.{Layout, ungrafted, Content, listed, places, tree_node, tree_root}
use Rattle.storage_merkle.specs.Hashing.{leaf_digests, peak_digests, root_of}
use Rattle.storage_merkle.specs.Laws.Hashing.{length-leaf_digests, tree_root-leaves, tree_root-peaks}
use Rattle.storage_bitmap.specs.Chunks.{Retained, IsRest, packed_bytes, chunk}
use Rattle.storage_current.specs.Laws.Grafting.{exact_is, aligned_is}
use Rattle.storage_current.specs.Snapshots.{Grafting, height, complete as complete_over, graftable as graftable_over, graftable_at, Snapshot, canonical_string, exact_of, aligned_of, ops_root_of, grafted_root_of, pending_of, partial_of, canonical_root}

-- the root from the digests of the peaks: which nodes are grafted is no part of its string
pub root_from : (h : HashFunction) (S : Shape) (grafted : ℕ → ℕ → Bool) (content : Content) (leaves i : ℕ) (b : Bagging)
    (ds : List (List ℕ)) (out : List ℕ)
    → b ≡ BackwardFold → length content.elements ≡ leaves
    → ds ≡ map (λ p. tree_node h (record { shape = S; position = S.position; grafted = grafted }) content p.first p.height)
    (places 0 (S.peaks leaves))
    → out ≡ root_of h (ungrafted S) b leaves i ds
    → out ≡ tree_root h (record { shape = S; position = S.position; grafted = grafted }) BackwardFold content i
root_from h S grafted content leaves i b ds out backward count digests e =
    let T : Layout = record { shape = S; position = S.position; grafted = grafted } in
    e ∙ ap (λ c. root_of h (ungrafted S) c leaves i ds) backward
    ∙ ap (root_of h T BackwardFold leaves i) digests
    ∙ ap (λ n. root_of h T BackwardFold n i
    (map (λ p. tree_node h T content p.first p.height) (places 0 (S.peaks n)))) (sym count)
    ∙ sym (tree_root-peaks h T BackwardFold content i)

-- the root from a tree in memory over a list of operations
pub root_kept : (h : HashFunction) (S : Shape) → Laws S → (operations : List (List ℕ)) (i : ℕ) (b : Bagging) (out : List ℕ)
    → b ≡ BackwardFold → out ≡ root_of h (ungrafted S) b (length (leaf_digests h (ungrafted S) 0 operations)) i
    (peak_digests h (ungrafted S) (λ a. []) (leaf_digests h (ungrafted S) 0 operations)
    (length (leaf_digests h (ungrafted S) 0 operations)))
    → out ≡ tree_root h (ungrafted S) BackwardFold (listed operations) i
root_kept h S L operations i b out backward e =
    let T : Layout = ungrafted S in
    let ds = leaf_digests h T 0 operations in
    e ∙ ap (λ c. root_of h T c (length ds) i (peak_digests h T (λ a. []) ds (length ds))) backward
    ∙ ap (λ n. root_of h T BackwardFold n i (peak_digests h T (λ a. []) ds n)) (length-leaf_digests h T 0 operations)
    ∙ sym (tree_root-leaves h T L BackwardFold (listed operations) i)

-- a chunk that is kept
pub kept_chunk : (n : ℕ) (r : Retained) (bits : List Bool) → IsRest n r bits → (j : ℕ) → r.pruned ≤ j
    → chunk n r.bits (j - r.pruned) ≡ chunk n bits j
unfolding chunk
kept_chunk n r bits rest j kept =
    let m : ℕ = 8 * n in
    let there : r.pruned * m + (j - r.pruned) * m ≡ j * m = sym (add-mul r.pruned (j - r.pruned) m)
    ∙ ap (λ i. i * m) (let e : r.pruned + (j - r.pruned) ≡ j = omega arith in e) in
    rw rest.rest (ap (packed_bytes n) (drop-drop ((j - r.pruned) * m) (r.pruned * m) bits ∙ ap (λ i. drop i bits) there))

pub unpruned_rest : (n : ℕ) (r : Retained) → r.pruned ≡ 0 → IsRest n r r.bits
unpruned_rest n r none =
    let zero : r.pruned * (8 * n) ≡ 0 = ap (λ p. p * (8 * n)) none ∙ zero-mul (8 * n) in
    record { within = omega arith; rest = sym (ap (λ i. drop i r.bits) zero) }

-- how many chunks there are over a snapshot's operations
pub record AreCounts (g : Grafting) (n complete graftable next : ℕ) : Type 0 where
  pub complete_is : complete ≡ complete_over g n
  pub graftable_is : graftable ≡ graftable_over g n
  pub next_is : next ≡ n % 2 ^ height g

pub counts_at : (g : Grafting) (h n complete graftable next : ℕ) → height g ≡ h → complete ≡ n / 2 ^ h
    → graftable ≡ graftable_at g.shape h n → next ≡ n % 2 ^ h → AreCounts g n complete graftable next
counts_at g h n complete graftable next level c r x =
    record { complete_is = rw level c; graftable_is = rw level r; next_is = rw level x }

module _ (h : HashFunction) (g : Grafting) (s : Snapshot) (r : Retained) (rest : IsRest g.bytes r s.bits)
    (complete graftable next : ℕ) (counts : AreCounts g (length s.operations) complete graftable next) where
  pub pending_kept : (out : Option (List ℕ)) → r.pruned ≤ graftable
      → out ≡ (if ltb graftable complete then Some (chunk g.bytes r.bits (graftable - r.pruned)) else None)
      → out ≡ pending_of h g s
  pending_kept out kept e =
      e ∙ rw (kept_chunk g.bytes r s.bits rest graftable kept, counts.complete_is, counts.graftable_is) refl

  pub partial_kept : (out : Option (List ℕ)) → r.pruned ≤ complete
      → out ≡ (if eqb next 0 then None else Some (chunk g.bytes r.bits (complete - r.pruned))) → out ≡ partial_of h g s
  partial_kept out kept e =
      e ∙ rw (kept_chunk g.bytes r s.bits rest complete kept, counts.complete_is, counts.next_is) refl

module _ (h : HashFunction) (g : Grafting) (s : Snapshot) where
  pub exact_count : (r : ℕ) → IsExact g.shape (length s.operations) s.floor r → r ≡ exact_of h g s
  exact_count r x = exact_is g.shape (length s.operations) s.floor r x

  pub aligned_count : (k r : ℕ) → height g ≡ k → IsAligned g.shape (length s.operations) s.floor k r
      → r ≡ aligned_of h g s
  aligned_count k r level x = rw level (aligned_is g.shape (length s.operations) s.floor k r x)

  pub canonical_from : (ops grafted : List ℕ) (pending partial : Option (List ℕ)) (next : ℕ) (out : List ℕ)
      → ops ≡ ops_root_of h g s → grafted ≡ grafted_root_of h g s → pending ≡ option_map h (pending_of h g s)
      → next ≡ length s.operations % 2 ^ height g → partial ≡ option_map h (partial_of h g s)
      → out ≡ h (canonical_string ops grafted pending next partial) → out ≡ canonical_root h g s
  canonical_from ops grafted pending partial next out eo eg ep en ea e =
      e ∙ ap (λ x. h (canonical_string x grafted pending next partial)) eo
      ∙ ap (λ x. h (canonical_string (ops_root_of h g s) x pending next partial)) eg
      ∙ ap (λ x. h (canonical_string (ops_root_of h g s) (grafted_root_of h g s) x next partial)) ep
      ∙ ap (λ x. h
      (canonical_string (ops_root_of h g s) (grafted_root_of h g s) (option_map h (pending_of h g s)) x partial)) en
      ∙ ap (λ x. h (canonical_string (ops_root_of h g s) (grafted_root_of h g s) (option_map h (pending_of h g s))
      (length s.operations % 2 ^ height g) x)) ea

-- ---- nodes that are looked up

pub none_there : {A B : Type 0} (f : A → B) (x : Option A) → option_map f x ≡ None → x ≡ None
none_there f None e = refl
none_there f (Some x) e = cc

pub get_copied : {D : Type 0} (nodes : List D) (i : ℕ) (got : Option (Bor D)) → is_some got ≡ ltb i (length nodes)
    → IfSome got (λ x. x.now ≡ get_or nodes i x.now) → option_copied got ≡ slice_get nodes i
get_copied nodes i None there is = sym (slice_get_past nodes i (ltb-false i (length nodes) (sym there)))
get_copied nodes i (Some x) there is =
    sym (slice_get_read nodes (length nodes) i x.now refl (ltb-true i (length nodes) (sym there)) is)
