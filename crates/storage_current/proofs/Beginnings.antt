-- What a copy that begins at an operation is told: peaks over what is before it, from a tree and from the grafted view.
use Rattle.std.proofs.Common.{◌≡◌, ℕ, ◌+◌, ◌-◌, ◌*◌, ◌/◌, ◌%◌, ◌^◌, ◌<◌, ◌≤◌, ◌++◌, List, [], ◌∷◌, length, map, Option, Some, None, option_map, IsSome, Result, Ok, Err, if◌then◌else◌, inl, inr, ⊎_elim, refl, sym, ap, subst, ◌∙◌, arith, pow_pos}
use Rattle.std.specs.List.{slice_get}
use Rattle.std.specs.Prelude.{IfOk, IfErr, MatchOption}
use Rattle.std.proofs.lemmas.Bool.{cases_lt, lt-leb}
use Rattle.std.proofs.lemmas.Nat.{le-div, mul-le, pow-add}
use Rattle.std.proofs.Math.Nat.{add-mul, div-mul-le_self, mul-le-mul_right}
use Rattle.storage_codec.specs.Digests.{HashFunction}
use Rattle.storage_merkle.specs.Kept.{Kept, NodesOver, StandsFor, kept_at, paired, pins}
use Rattle.storage_merkle.specs.Laws.Multiples.{out_of_units}
use Rattle.storage_merkle.specs.Laws.Shape.{early_fits, grows_at_most, inside_between}
use Rattle.storage_merkle.specs.Nodes.{IsNode}
use Rattle.storage_merkle.specs.Rests.{EachPeak, peaks_from}
use Rattle.storage_merkle.specs.Shape.{Laws, Shape, size}
use Rattle.storage_merkle.specs.Trees.{Peak, places}
use Rattle.storage_merkle.proofs.MemNodes.{pinned_is}
use Rattle.storage_merkle.proofs.MemNodes.{IsPeak as IsTreePeak}
use Rattle.storage_merkle.proofs.Topmost.{peak_kept}
use Rattle.storage_current.specs.CombinedViews.{grafted_node}
use Rattle.storage_current.specs.GraftedTrees.{IsPeak}
use Rattle.storage_current.specs.NodeLists.{IsGrown, IsRetained, plain_over}
use Rattle.storage_current.specs.Pins.{HavePins, chunk_pins}
use Rattle.storage_current.specs.Snapshots.{Grafting, Snapshot, height, view_node}
use Rattle.storage_current.proofs.MemViews.{KeepsNodes}
use Rattle.storage_current.proofs.Pinned.{paired-map, peak_inside}
use Rattle.storage_current.proofs.Pruning.{digests_of, walk_end, walk_push}

pub if_ok : {T E : Type 0} (P Q : T → Type 0) (r : Result T E) → ((x : T) → P x → Q x) → IfOk r P → IfOk r Q
if_ok P Q (Ok x) f h = f x h
if_ok P Q (Err y) f h = tt

pub if_err : {T E : Type 0} (P Q : E → Type 0) (r : Result T E) → ((x : E) → P x → Q x) → IfErr r P → IfErr r Q
if_err P Q (Ok x) f h = tt
if_err P Q (Err y) f h = f y h

-- ---- peaks over the first leaves of a tree

module _ {D : Type 0} (text : D → List ℕ) (S : Shape) (L : Laws S) (m : Kept D) (keeps : KeepsNodes text S m) where
  -- a peak over some first leaves is kept, if no leaf after these is forgotten
  pub peak_told : (N : NodesOver) (list : List (List ℕ)) → StandsFor text S N m list → (count a k : ℕ) → m.boundary ≤ count
      → count ≤ m.leaves → a % 2 ^ k ≡ 0 → IsTreePeak (S.peaks count) 0 a k
      → option_map text (kept_at S m.boundary m.pinned m.nodes (S.position a k)) ≡ Some (N list k a)
  peak_told N list stands count a k from to al peak =
      let b : ℕ = m.boundary in
      let q : ℕ = S.position a k in
      let kept = peak_kept S L b count (size S count) a k from (omega arith) al peak in
      let most : size S count ≤ size S m.leaves = grows_at_most (size S) L.grows count m.leaves to in
      let here : q < size S m.leaves = omega (arith, kept.below, most) in
      ⊎_elim
      (λ (behind : size S b ≤ q). keeps N list stands q a k (record { aligned = al; at = refl }) behind
      (subst (λ (n : ℕ). q < size S n) stands.count here))
      (λ (before : (q < size S b) × IsTreePeak (S.peaks b) 0 a k).
      ap (λ c. option_map text (if c then slice_get m.nodes (q - size S b) else paired q (pins S b) m.pinned))
      (lt-leb _ _ before.0)
      ∙ paired-map text q (pins S b) m.pinned
      ∙ ap (paired q (pins S b)) stands.holds.peaks
      ∙ pinned_is S L (N list) (S.peaks b) 0 a k (L.aligned b) al before.1)
      kept.there

  some_told : (o : Option D) (x : List ℕ) → option_map text o ≡ Some x → IsSome o
  some_told None x e = absurd (cc)
  some_told (Some d) x e = refl

  pub peak_there : (h : HashFunction) → IsGrown text h S m → (count a k : ℕ) → m.boundary ≤ count → count ≤ m.leaves
      → a % 2 ^ k ≡ 0 → IsTreePeak (S.peaks count) 0 a k → (o : Option D) (p : ℕ) → p ≡ S.position a k
      → o ≡ kept_at S m.boundary m.pinned m.nodes p → IsSome o
  peak_there h grown count a k from to al peak o p at is =
      some_told o (plain_over h S grown.list k a)
      (ap (option_map text) (is ∙ ap (kept_at S m.boundary m.pinned m.nodes) at)
      ∙ peak_told (plain_over h S) grown.list grown.stands count a k from to al peak)

  pub peak_is : (N : NodesOver) (list : List (List ℕ)) → StandsFor text S N m list → (count a k : ℕ) → m.boundary ≤ count
      → count ≤ m.leaves → a % 2 ^ k ≡ 0 → IsTreePeak (S.peaks count) 0 a k → (o : Option D) (d : D) (p : ℕ)
      → p ≡ S.position a k → o ≡ kept_at S m.boundary m.pinned m.nodes p → o ≡ Some d → text d ≡ N list k a
  peak_is N list stands count a k from to al peak o d p at is found =
      let told : Some (text d) ≡ Some (N list k a) =
      ap (option_map text) (sym found ∙ is ∙ ap (kept_at S m.boundary m.pinned m.nodes) at)
      ∙ peak_told N list stands count a k from to al peak in
      cc

-- ---- peaks over the first chunks, in the grafted view

-- the node over the operations of the 2 ^ k chunks from number a on is in the tree over n operations
abbrev pub IsRaisedIn : Grafting → ℕ → ℕ → ℕ → Type 0
IsRaisedIn g n a k = g.shape.birth (a * 2 ^ height g) (k + height g) ≤ n

pub each_raised : (g : Grafting) (n : ℕ) (hs : List ℕ) (b : ℕ) → EachPeak (IsRaisedIn g n) (places b hs) → (a k : ℕ)
    → IsPeak hs b a k → IsRaisedIn g n a k
each_raised g n [] b each a k peak = absurd peak
each_raised g n (x ∷ hs) b each a k (inl here) = rw (← here.0, ← here.1) each.0
each_raised g n (x ∷ hs) b each a k (inr later) = each_raised g n hs (b + 2 ^ x) each.1 a k later

pub record Raised (g : Grafting) (a k : ℕ) : Type 0 where
  pub ends : a * 2 ^ height g + 2 ^ (k + height g) ≤ 2 ^ 62
  pub aligned : a * 2 ^ height g % 2 ^ (k + height g) ≡ 0
  pub fits : g.shape.position (a * 2 ^ height g) (k + height g) < 2 ^ 64

pub peak_raised : (g : Grafting) → Laws g.shape → (chunks a k : ℕ) → chunks * 2 ^ height g ≤ 2 ^ 62 → a % 2 ^ k ≡ 0
    → IsPeak (g.shape.peaks chunks) 0 a k → Raised g a k
peak_raised g L chunks a k few al peak =
    let S = g.shape in
    let w : ℕ = 2 ^ height g in
    let end = (inside_between (S.peaks chunks) 0 a k (peak_inside (S.peaks chunks) 0 a k peak)).1 in
    let within : a + 2 ^ k ≤ chunks = omega (arith, end, L.sum chunks) in
    let most : (a + 2 ^ k) * w ≤ chunks * w = mul-le-mul_right w within in
    let split : (a + 2 ^ k) * w ≡ a * w + 2 ^ k * w = add-mul a (2 ^ k) w in
    let power : 2 ^ (k + height g) ≡ 2 ^ k * w = pow-add 2 k (height g) in
    let ends : a * w + 2 ^ (k + height g) ≤ 2 ^ 62 = omega (arith, few, most, split, power) in
    let aligned : a * w % 2 ^ (k + height g) ≡ 0 = out_of_units a k (height g) al in
    record {
      ends = ends;
      aligned = aligned;
      fits = early_fits S L (a * w) (k + height g) aligned (omega (arith, ends));
    }

module _ (h : HashFunction) (g : Grafting) (s : Snapshot) (chunks : ℕ) where
  -- the pins that are read so far, and the peaks that are left
  pub record AreSeen (read : List (List ℕ)) (left : List Peak) : Type 0 where
    pub had : EachPeak (IsRaisedIn g (length s.operations)) left → HavePins g (length s.operations) chunks
    pub texts : read ++ digests_of (λ k a. grafted_node h g s a k) left ≡ chunk_pins h g s chunks

  pub none_seen : (left : List Peak) → left ≡ peaks_from g.shape 0 chunks → AreSeen [] left
  none_seen left all = rw all (record {
    had = λ each a k peak. each_raised g (length s.operations) (g.shape.peaks chunks) 0 each a k peak;
    texts = refl;
  })

  pub see_more : {D : Type 0} (text : D → List ℕ) (read : List D) (p : Peak) (left all : List Peak) (d : D)
      → AreSeen (map text read) all → all ≡ p ∷ left → IsRaisedIn g (length s.operations) p.first p.height
      → text d ≡ grafted_node h g s p.first p.height → AreSeen (map text (read ++ d ∷ [])) left
  see_more text read p left all d seen step raised is =
      let had = subst (λ (ps : List Peak). EachPeak (IsRaisedIn g (length s.operations)) ps
      → HavePins g (length s.operations) chunks) step seen.had in
      record {
        had = λ each. had (raised, each);
        texts = walk_push (λ k a. grafted_node h g s a k) text read p all left d (chunk_pins h g s chunks) step seen.texts is;
      }

  pub all_seen : (read : List (List ℕ)) (left : List Peak) → AreSeen read left → left ≡ []
      → HavePins g (length s.operations) chunks × (read ≡ chunk_pins h g s chunks)
  all_seen read left seen none = (
    subst (λ (ps : List Peak). EachPeak (IsRaisedIn g (length s.operations)) ps → HavePins g (length s.operations) chunks) none
        seen.had tt,
    walk_end (λ k a. grafted_node h g s a k) read (chunk_pins h g s chunks) left none seen.texts,
  )

-- what is answered at the position of a node, whether or not it is in the tree
answered : {D : Type 0} (text : D → List ℕ) (S : Shape) → Laws S → (n a k p : ℕ) (o : Option D) (x : List ℕ)
    → a % 2 ^ k ≡ 0 → p ≡ S.position a k → (p < size S n → option_map text o ≡ Some x) → (size S n ≤ p → o ≡ None)
    → MatchOption o (S.birth a k ≤ n → ⊥) (λ d. (S.birth a k ≤ n) × (text d ≡ x))
answered text S L n a k p None x al at there past = λ born.
    let inside : S.position a k < size S n = (L.born n a k al).1 born in
    let told = there (omega (arith, at, inside)) in
    absurd (cc)
answered text S L n a k p (Some d) x al at there past = elim (cases_lt p (size S n)) [
  | inl within ↦
      let told = there within in
      ((L.born n a k al).0 (omega (arith, at, within)), let same : text d ≡ x = cc in same)
  | inr beyond ↦
      let none = past beyond in
      absurd (cc)
]

-- what the view has of a peak over the first chunks
pub seen_at : {D : Type 0} (text : D → List ℕ) (h : HashFunction) (g : Grafting) → Laws g.shape → (s : Snapshot)
    (boundary chunks first k p : ℕ) (o : Option D) → chunks * 2 ^ height g ≤ 2 ^ 62 → first % 2 ^ k ≡ 0
    → IsPeak (g.shape.peaks chunks) 0 first k → p ≡ g.shape.position (first * 2 ^ height g) (k + height g)
    → (p < size g.shape (length s.operations) → (a own : ℕ) → IsNode g.shape p a own
    → IsRetained g.shape (height g) boundary p own → option_map text o ≡ Some (view_node h g s a own))
    → (size g.shape (length s.operations) ≤ p → o ≡ None)
    → MatchOption o (IsRaisedIn g (length s.operations) first k → ⊥)
    (λ d. IsRaisedIn g (length s.operations) first k × (text d ≡ grafted_node h g s first k))
seen_at text h g L s boundary chunks first k p o few al peak at there past =
    let up = peak_raised g L chunks first k few al peak in
    answered text g.shape L (length s.operations) (first * 2 ^ height g) (k + height g) p o (grafted_node h g s first k) up.aligned
    at (λ within. there within (first * 2 ^ height g) (k + height g) (record { aligned = up.aligned; at = sym at })
    (inl (omega arith))) past

pub few_chunks : (g : Grafting) (chunks : ℕ) → chunks * 2 ^ height g ≤ 2 ^ 62 → chunks ≤ 2 ^ 62
few_chunks g chunks few =
    let most : chunks * 1 ≤ chunks * 2 ^ height g =
    mul-le chunks 1 chunks (2 ^ height g) (omega arith) (omega (arith, pow_pos (height g))) in
    omega (arith, few, most)

-- no more chunks than are complete
pub few_complete : (g : Grafting) (chunks most r : ℕ) → height g ≡ r → chunks ≤ most / 2 ^ r → most ≤ 2 ^ 62
    → chunks * 2 ^ height g ≤ 2 ^ 62
few_complete g chunks most r level within few =
    let w : ℕ = 2 ^ height g in
    let same : most / 2 ^ r ≡ most / w = ap (λ (k : ℕ). most / 2 ^ k) (sym level) in
    let below : chunks ≤ most / w = omega (arith, same, within) in
    omega (arith, mul-le-mul_right w below, div-mul-le_self most w, few)

pub too_many : (g : Grafting) (chunks most r bound : ℕ) → height g ≡ r → most / 2 ^ r < chunks → most ≡ bound
    → chunks * 2 ^ height g ≤ bound → ⊥
too_many g chunks most r bound level more is within =
    let w : ℕ = 2 ^ height g in
    let same : most / 2 ^ r ≡ most / w = ap (λ (k : ℕ). most / 2 ^ k) (sym level) in
    let few : chunks ≤ most / w = le-div chunks most w (pow_pos (height g)) (omega (arith, is, within)) in
    absurd (omega (arith, same, few, more))
