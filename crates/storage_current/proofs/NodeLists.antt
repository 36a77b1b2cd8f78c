-- What two trees as one have at the peaks, and what is read there.
use Rattle.std.proofs.Common.{◌≡◌, ℕ, zero, suc, ◌+◌, ◌^◌, ◌<◌, ◌≤◌, ◌++◌, List, [], ◌∷◌, length, map, Option, Some, None, option_map, IsSome, refl, sym, ap, ap₂, ◌∙◌, arith, length-append, append_assoc, append-nil, inl, inr}
use Rattle.std.proofs.lemmas.Bool.{cases_lt}
use Rattle.std.proofs.lemmas.List.{map-append}
use Rattle.storage_merkle.specs.Kept.{Kept, kept_at}
use Rattle.storage_merkle.specs.Shape.{Laws, Shape, size}
use Rattle.storage_merkle.specs.Nodes.{placed}
use Rattle.storage_merkle.specs.Trees.{places}
use Rattle.storage_current.specs.GraftedTrees.{IsPeak}
use Rattle.storage_current.specs.NodeLists.{AreNodes, ArePeaksHad, ArePeaksTold, kept_from, seen_by, seen_list, told_by, told_from}
use Rattle.storage_current.proofs.Joined.{joined_past}
use Rattle.storage_current.proofs.Places.{length-placed}

-- ---- lists of what is told

told_in : (told : ℕ → Option (List ℕ)) (n p i : ℕ) → i < n → told_by (told_from told p n) i ≡ told (p + i)
told_in told zero p i l = absurd (omega arith)
told_in told (suc n) p zero l = let e : p ≡ p + 0 = omega arith in ap told e
told_in told (suc n) p (suc i) l = let e : p + 1 + i ≡ p + suc i = omega arith in told_in told n (p + 1) i (omega arith) ∙ ap told e

told_past : (told : ℕ → Option (List ℕ)) (n p i : ℕ) → n ≤ i → told_by (told_from told p n) i ≡ None
told_past told zero p i l = refl
told_past told (suc n) p zero l = absurd (omega arith)
told_past told (suc n) p (suc i) l = told_past told n (p + 1) i (omega arith)

-- the list tells what both trees as one have
pub list_told : {D : Type 0} (text : D → List ℕ) (S : Shape) → Laws S → (g : ℕ) (m c : Kept D) (p : ℕ)
    → told_by (seen_list text S g m c) p ≡ seen_by text S g m c p
list_told text S L g m c p = elim (cases_lt p (size S m.leaves)) [
  | inl within ↦
      let e : 0 + p ≡ p = omega arith in
      told_in (seen_by text S g m c) (size S m.leaves) 0 p within ∙ ap (seen_by text S g m c) e
  | inr past ↦
      told_past (seen_by text S g m c) (size S m.leaves) 0 p past
      ∙ sym (ap (option_map text) (joined_past S L g (size S m.leaves) (kept_at S c.boundary c.pinned c.nodes) (kept_from S m)
      p past))
]

pub same_told : (S : Shape) (g boundary n : ℕ) (digest_of : ℕ → ℕ → List ℕ) (old new : ℕ → Option (List ℕ))
    → ((p : ℕ) → new p ≡ old p) → AreNodes S g boundary n digest_of old → AreNodes S g boundary n digest_of new
same_told S g boundary n digest_of old new same nodes = record {
  are = λ p a k node within retained. same p ∙ nodes.are p a k node within retained;
  forgotten = λ p a k node within gone. same p ∙ nodes.forgotten p a k node within gone;
  past = λ p beyond. same p ∙ nodes.past p beyond;
}

-- ---- what is had at places

-- each of the positions has a digest
abbrev pub AreSome : {D : Type 0} → (ℕ → Option D) → List (ℕ × ℕ) → Type 0
AreSome answers [] = Unit {0}
AreSome answers (p ∷ ps) = IsSome (answers p.0) × AreSome answers ps

abbrev pub told_at : (ℕ → Option (List ℕ)) → List (ℕ × ℕ) → List (Option (List ℕ))
told_at told ps = map (λ p. told p.0) ps

peaks_some : {D : Type 0} (S : Shape) (answers : ℕ → Option D) (hs : List ℕ) (s : ℕ)
    → ((a k : ℕ) → IsPeak hs s a k → IsSome (answers (S.position a k))) → AreSome answers (placed S s hs)
peaks_some S answers [] s had = tt
peaks_some S answers (h ∷ hs) s had =
    (had s h (inl (refl, refl)), peaks_some S answers hs (s + 2 ^ h) (λ a k i. had a k (inr i)))

some_lists : (xs ys : List (List ℕ)) → map (λ x. Some x) xs ≡ map (λ y. Some y) ys → xs ≡ ys
some_lists [] [] e = refl
some_lists [] (y ∷ ys) e = absurd (cc)
some_lists (x ∷ xs) [] e = absurd (cc)
some_lists (x ∷ xs) (y ∷ ys) e =
    let head : x ≡ y = cc in
    let tail : map (λ x. Some x) xs ≡ map (λ y. Some y) ys = cc in
    ap₂ (λ z zs. z ∷ zs) head (some_lists xs ys tail)

-- what is told at the peaks' positions is of the peaks
peaks_told : (S : Shape) (digest_of : ℕ → ℕ → List ℕ) (told : ℕ → Option (List ℕ)) (hs : List ℕ) (s : ℕ)
    → ((a k : ℕ) → IsPeak hs s a k → told (S.position a k) ≡ Some (digest_of a k))
    → told_at told (placed S s hs) ≡ map (λ x. Some x) (map (λ p. digest_of p.first p.height) (places s hs))
peaks_told S digest_of told [] s are = refl
peaks_told S digest_of told (h ∷ hs) s are =
    ap₂ (λ x xs. x ∷ xs) (are s h (inl (refl, refl)))
    (peaks_told S digest_of told hs (s + 2 ^ h) (λ a k i. are a k (inr i)))

-- ---- peaks

-- the peaks that are read so far, and those that are left
pub record AreRead {D : Type 0} (text : D → List ℕ) (S : Shape) (n : ℕ) (answers : ℕ → Option D) (read : List D)
    (left : List (ℕ × ℕ)) : Type 0 where
  pub some : AreSome answers left
  pub count : length read + length left ≡ length (S.peaks n)
  pub texts : map (λ x. Some x) (map text read) ++ told_at (λ p. option_map text (answers p)) left
      ≡ told_at (λ p. option_map text (answers p)) (placed S 0 (S.peaks n))

pub none_read : {D : Type 0} (text : D → List ℕ) (S : Shape) (n : ℕ) (answers : ℕ → Option D) (read : List D)
    (left : List (ℕ × ℕ)) → ArePeaksHad S n answers → read ≡ [] → left ≡ placed S 0 (S.peaks n)
    → AreRead text S n answers read left
none_read text S n answers read left had none all =
    rw (none, all) (record {
      some = peaks_some S answers (S.peaks n) 0 had;
      count = omega (arith, length-placed S 0 (S.peaks n));
      texts = refl;
    })

pub read_more : {D : Type 0} (text : D → List ℕ) (S : Shape) (n : ℕ) (answers : ℕ → Option D) (read : List D) (p : ℕ × ℕ)
    (left all : List (ℕ × ℕ)) (o : Option D) (d : D) → AreRead text S n answers read all → all ≡ p ∷ left
    → o ≡ answers p.0 → o ≡ Some d → AreRead text S n answers (read ++ d ∷ []) left
read_more text S n answers read p left all o d so_far step is found =
    let told : ℕ → Option (List ℕ) = λ q. option_map text (answers q) in
    let b = rw step at so_far.some in
    let k = rw step at so_far.count in
    let t = rw step at so_far.texts in
    let same : told p.0 ≡ Some (text d) = ap (option_map text) (sym is ∙ found) in
    record {
      some = b.1;
      count = rw length-append (omega (arith, k));
      texts = ap (λ xs. xs ++ told_at told left) (ap (map (λ x. Some x)) (map-append text read (d ∷ []))
          ∙ map-append (λ x. Some x) (map text read) (text d ∷ []))
          ∙ append_assoc (map (λ x. Some x) (map text read)) (Some (text d) ∷ []) (told_at told left)
          ∙ ap (λ x. map (λ y. Some y) (map text read) ++ x ∷ told_at told left) (sym same) ∙ t;
    }

-- once none is left, the peaks' digests are read
pub all_read : {D : Type 0} (text : D → List ℕ) (S : Shape) (digest_of : ℕ → ℕ → List ℕ) (n : ℕ)
    (answers : ℕ → Option D) (read : List D) (left : List (ℕ × ℕ)) → AreRead text S n answers read left → left ≡ []
    → ArePeaksTold S n digest_of (λ p. option_map text (answers p))
    → map text read ≡ map (λ p. digest_of p.first p.height) (places 0 (S.peaks n))
all_read text S digest_of n answers read left r none are =
    let t = rw none at r.texts in
    some_lists (map text read) (map (λ p. digest_of p.first p.height) (places 0 (S.peaks n)))
    (sym (append-nil (map (λ x. Some x) (map text read))) ∙ t
    ∙ peaks_told S digest_of (λ p. option_map text (answers p)) (S.peaks n) 0 are)
