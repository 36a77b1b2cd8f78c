-- Multi proofs, one step each.
use Rattle.std.proofs.Common.{◌≡◌, ◌↔◌, ℕ, ◌<◌, List, [], ◌∷◌, ◌++◌, length, map, Bool, IsTrue, Some, refl, ap, ap₂, sym, ◌∙◌, arith}
use Rattle.storage_codec.specs.Digests.{HashFunction}
use Rattle.storage_merkle.specs.Calc.{Site, Values, eval}
use Rattle.storage_merkle.specs.Hashing.{bagged}
use Rattle.storage_merkle.specs.Laws.Hashing.{eval-bag}
use Rattle.storage_merkle.specs.Multi.{Claim, IsMultiAccepted, element_at, locations, multi_string, needed_sites, own_multi_proof, tree_digest, untouched}
use Rattle.storage_merkle.specs.MultiParts.{IsMultiRecomputed}
use Rattle.storage_merkle.specs.RangeProofs.{Proof, look_up}
use Rattle.storage_merkle.specs.Trees.{Layout, Content, Peak, bag, eval_bag, folded, unfolded, part, peaks_of, root_head}
use Rattle.storage_merkle.specs.declared.merkle.bagging.Bagging.{Bagging}
use Rattle.reference.specs.Layouts.{valued}
use Rattle.reference.proofs.Sites.{map_twice}

-- what peaks with some nodes given are bagged into, from their digests
pub bag_from : (h : HashFunction) (v : Values) (T : Layout) (cut : ℕ → ℕ → Bool) (xs ys : List Peak)
    (front rest : List (List ℕ)) (out : List ℕ) → front ≡ map (λ p. eval h v (part T cut p)) xs
    → rest ≡ map (λ p. eval h v (part T cut p)) ys
    → out ≡ bagged h front rest → out ≡ eval_bag h v (bag (map (part T cut) xs) (map (part T cut) ys))
bag_from h v T cut xs ys front rest out front_is rest_is e =
    e ∙ ap₂ (bagged h) (front_is ∙ map_twice (eval h v) (part T cut) xs)
    (rest_is ∙ map_twice (eval h v) (part T cut) ys)
    ∙ sym (eval-bag h v (map (part T cut) xs) (map (part T cut) ys))

-- the root that a check recomputes, from what is bagged
pub multi_from : (h : HashFunction) (T : Layout) (b : Bagging) (proof : Proof) (claims : List Claim)
    (chunk : ℕ → List ℕ) (n : ℕ) (ls : List ℕ) (ss : List Site) (ds : List (List ℕ)) (ps xs ys : List Peak)
    (joined root : List ℕ) → n ≡ proof.leaves → ls ≡ locations claims → ps ≡ peaks_of T n
    → xs ≡ folded b proof.inactive ps → ys ≡ unfolded b proof.inactive ps → ss ≡ needed_sites T ls n
    → ds ≡ proof.digests → joined ≡ eval_bag h (valued (look_up (h []) ss ds) (element_at claims) chunk)
    (bag (map (part T (untouched ls)) xs) (map (part T (untouched ls)) ys))
    → root ≡ h (root_head T b n proof.inactive ++ joined) → root ≡ h (multi_string h T b proof claims chunk)
multi_from h T b proof claims chunk n ls ss ds ps xs ys joined root en el ep ex ey es ed ej e =
    e ∙ rw (ej, ex, ey, ep, es, ed, el, en) refl

-- a tree's own proof, from its parts
pub own_multi_from : (h : HashFunction) (T : Layout) (content : Content) (i : ℕ) (ls : List ℕ) (ss : List Site)
    (ds : List (List ℕ)) (l n : ℕ) → l ≡ n → n ≡ length content.elements → ss ≡ needed_sites T ls n
    → ds ≡ map (tree_digest h T content) ss
    → record { leaves = l; inactive = i; digests = ds } ≡ own_multi_proof h T content i ls
own_multi_from h T content i ls ss ds l n leaves count at digests =
    let made : ℕ → List (List ℕ) → Proof = λ m xs. record { leaves = m; inactive = i; digests = xs } in
    ap₂ made leaves (digests ∙ ap (map (tree_digest h T content)) at)
    ∙ ap (λ (m : ℕ). made m (map (tree_digest h T content) (needed_sites T ls m))) count

-- what a check of some claims answers
pub multi_answer : (h : HashFunction) (T : Layout) (b : Bagging) (proof : Proof) (claims : List Claim)
    (chunk : ℕ → List ℕ) (computed root : List ℕ) (is_same : Bool) → 0 < length claims
    → IsMultiRecomputed h T b proof claims chunk (Some computed) → (IsTrue is_same ↔ (computed ≡ root))
    → IsTrue is_same ↔ IsMultiAccepted h T b proof claims chunk root
multi_answer h T b proof [] chunk computed root is_same some r same = absurd (omega arith)
multi_answer h T b proof (c ∷ cs) chunk computed root is_same some r same =
    (λ y. (r.0, sym r.1 ∙ same.0 y), λ a. same.1 (r.1 ∙ a.1))
