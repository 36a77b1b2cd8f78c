-- Pruning a tree over chunks: its new pins are the list's peaks, and the list is kept.
use Rattle.std.proofs.Common.{◌≡◌, ℕ, zero, suc, ◌+◌, ◌-◌, ◌%◌, ◌<◌, ◌≤◌, ◌^◌, ◌++◌, List, [], ◌∷◌, length, map, take, drop, Option, Some, option_map, true, refl, sym, ap, ◌∙◌, arith, append_assoc, append-nil}
use Rattle.std.specs.Option.{is_some}
use Rattle.std.proofs.lemmas.List.{length-drop, length-map, drop-map, drop-drop, map-append}
use Rattle.std.proofs.Math.Seq.{take-append_seam}
use Rattle.storage_codec.specs.Digests.{HashFunction}
use Rattle.storage_merkle.specs.Shape.{Shape, Laws}
use Rattle.storage_merkle.specs.Trees.{Layout, Peak}
use Rattle.storage_merkle.specs.Hashing.{join_digest, node_over}
use Rattle.storage_merkle.specs.Laws.Shape.{no_peaks}
use Rattle.storage_merkle.specs.Kept.{NodesOver, at_peaks}
use Rattle.storage_current.specs.GraftedTrees.{IsPeak, KeptChunks, Keeps, rebuilt, tree_at}
use Rattle.storage_current.proofs.Pinned.{peak_covered, tree_at-map, tree_true}
use Rattle.storage_current.proofs.Rebuilt.{covered_seen, covered_some, map_some, rebuilt_true}

-- the digest of a peak can be had
pub peak_had : {D : Type 0} (text : D → List ℕ) (S : Shape) (L : Laws S)
    (join : ℕ → ℕ → List ℕ → List ℕ → List ℕ) (t : KeptChunks D) (m first h : ℕ) (r : Option D)
    → length t.pinned ≡ length (S.peaks t.pruned) → t.pruned ≤ m → m ≤ t.pruned + length t.leaves
    → first % 2 ^ h ≡ 0 → IsPeak (S.peaks m) 0 first h
    → option_map text r ≡ rebuilt S join (λ p. option_map text (tree_at S t.pruned t.pinned t.leaves p)) h first
    → is_some r ≡ true
peak_had text S L join t m first h r few from to al peak is =
    let cover = peak_covered S L t.pruned t.pinned t.leaves few m first h from to al peak in
    sym (map_some text r) ∙ ap is_some is
    ∙ covered_some S join (λ p. option_map text (tree_at S t.pruned t.pinned t.leaves p)) h first
    (covered_seen S text (tree_at S t.pruned t.pinned t.leaves) h first cover)

-- and it is the list's
pub peak_true : {D : Type 0} (text : D → List ℕ) (hash : HashFunction) (T : Layout) (chunk : ℕ → List ℕ) (S : Shape)
    (L : Laws S) (t : KeptChunks D) (list : List (List ℕ)) (first h : ℕ) (r : Option D) (d : D)
    → Keeps text S (node_over hash T chunk) t list → first % 2 ^ h ≡ 0
    → option_map text r ≡ rebuilt S (join_digest hash T chunk)
    (λ p. option_map text (tree_at S t.pruned t.pinned t.leaves p)) h first → r ≡ Some d
    → text d ≡ node_over hash T chunk list h first
peak_true text hash T chunk S L t list first h r d keeps al is some =
    rebuilt_true S (join_digest hash T chunk) (λ p. option_map text (tree_at S t.pruned t.pinned t.leaves p))
    (node_over hash T chunk list) (λ k a. refl) (S.position first h + 1)
    (λ k a e ak low was.
    tree_true S L (node_over hash T chunk list) list t.pruned (map text t.pinned) (map text t.leaves) (λ b. refl)
    keeps.pins keeps.leaves a k e ak
    (sym (tree_at-map text S t.pruned t.pinned t.leaves (S.position a k)) ∙ was))
    L h first (text d) al (omega arith) (sym is ∙ ap (option_map text) some)

-- the digests of some peaks
abbrev pub digests_of : (ℕ → ℕ → List ℕ) → List Peak → List (List ℕ)
digests_of node ps = map (λ p. node p.height p.first) ps

-- one more peak's digest
pub walk_push : {A : Type 0} (node : ℕ → ℕ → List ℕ) (f : A → List ℕ) (ds : List A) (p : Peak) (ps qs : List Peak) (v : A)
    (all : List (List ℕ)) → ps ≡ p ∷ qs → map f ds ++ digests_of node ps ≡ all → f v ≡ node p.height p.first
    → map f (ds ++ v ∷ []) ++ digests_of node qs ≡ all
walk_push node f ds p ps qs v all first e at =
    let later = digests_of node qs in
    ap (λ xs. xs ++ later) (map-append f ds (v ∷ []))
    ∙ append_assoc (map f ds) (f v ∷ []) later
    ∙ ap (λ x. map f ds ++ (x ∷ later)) at
    ∙ ap (λ rs. map f ds ++ digests_of node rs) (sym first)
    ∙ e

pub walk_end : (node : ℕ → ℕ → List ℕ) (xs all : List (List ℕ)) (ps : List Peak) → ps ≡ []
    → xs ++ digests_of node ps ≡ all → xs ≡ all
walk_end node xs all ps none e = sym (append-nil xs) ∙ ap (λ qs. xs ++ digests_of node qs) (sym none) ∙ e

-- leaves that are forgotten
pub rotated : {A : Type 0} (xs : List A) (gone rest : ℕ) → rest + gone ≡ length xs
    → take rest (drop gone xs ++ take gone xs) ≡ drop gone xs
rotated xs gone rest e =
    let l : length (drop gone xs) ≡ rest = omega (arith, length-drop gone xs) in
    ap (λ n. take n (drop gone xs ++ take gone xs)) (sym l) ∙ take-append_seam (drop gone xs) (take gone xs)

pub kept_pruned : {D : Type 0} (text : D → List ℕ) (S : Shape) (N : NodesOver) (t : KeptChunks D) (m : ℕ) (ps ls : List D)
    (list : List (List ℕ)) → t.pruned ≤ m → m ≤ t.pruned + length t.leaves → Keeps text S N t list
    → map text ps ≡ at_peaks (N list) 0 (S.peaks m) → ls ≡ drop (m - t.pruned) t.leaves
    → Keeps text S N (record { pruned = m; pinned = ps; leaves = ls }) list
kept_pruned text S N t m ps ls list from to keeps pins rest = record {
  count = let l : length ls ≡ length (drop (m - t.pruned) t.leaves) = ap length rest in
      omega (arith, keeps.count, length-drop (m - t.pruned) t.leaves);
  pins = pins;
  leaves = ap (map text) rest ∙ sym (drop-map text (m - t.pruned) t.leaves)
      ∙ ap (drop (m - t.pruned)) keeps.leaves ∙ drop-drop (m - t.pruned) t.pruned list
      ∙ ap (λ i. drop i list) (let e : t.pruned + (m - t.pruned) ≡ m = omega arith in e);
}

pub take_whole : {A : Type 0} (n : ℕ) (xs : List A) → length xs ≤ n → take n xs ≡ xs
take_whole zero [] l = refl
take_whole (suc n) [] l = refl
take_whole zero (x ∷ xs) l = absurd (omega arith)
take_whole (suc n) (x ∷ xs) l = ap (λ ys. x ∷ ys) (take_whole n xs (omega arith))

pub new_keeps : {D : Type 0} (text : D → List ℕ) (S : Shape) → Laws S → (N : NodesOver) (leaves : List D)
    → Keeps text S N (record { pruned = 0; pinned = []; leaves = leaves }) (map text leaves)
new_keeps text S L N leaves = record {
  count = let e : length (map text leaves) ≡ length leaves = length-map leaves text in omega arith;
  pins = sym (ap (at_peaks (N (map text leaves)) 0) (no_peaks S L));
  leaves = refl;
}
