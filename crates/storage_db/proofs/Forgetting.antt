-- Operations of which the first are forgotten, and databases that have them: a put and a deletion do the same there.
use Rattle.std.proofs.Common.{◌≡◌, ℕ, zero, suc, ◌+◌, ◌-◌, ◌*◌, ◌<◌, ◌≤◌, max, List, [], ◌∷◌, ◌++◌, length, map, take, drop, replicate, set, slice_get, slice_set, Option, Some, None, is_some, inl, inr, refl, sym, ap, ap₂, ◌∙◌, subst, arith, append_assoc, append-nil}
use Rattle.std.specs.Global.{Vec}
use Rattle.std.specs.List.{slice_range}
use Rattle.std.specs.Prelude.{MatchOption, IsSomeAnd}
use Rattle.std.specs.BTreeMap.{insert_entry}
use Rattle.std.proofs.Math.Nat.{mul-le-mul_right}
use Rattle.std.proofs.Math.Seq.{take-append_seam}
use Rattle.std.proofs.lemmas.Bool.{cases_lt}
use Rattle.std.proofs.lemmas.List.{drop-append-le, length-append, length-drop, length-replicate, length-take, map-set}
use Rattle.std.proofs.lemmas.Slice.{drop-append-drop}
use Rattle.storage_codec.specs.Digests.{HashFunction}
use Rattle.storage_ops.specs.Operations as operation
use Rattle.storage_current.specs.Keys.{Keyed, commit_text, update_text}
use Rattle.storage_current.specs.Snapshots.{Grafting}
use Rattle.storage_db.specs.declared.db.active.Active.{Active}
use Rattle.storage_db.specs.Rings.{next_key, previous}
use Rattle.storage_db.specs.Databases.{Command, Commit, Committed, Database, Delete, Put, active_at, commit, delete, done, empty, least_location, put, relinked, removed, run, updated}
use Rattle.storage_db.specs.Floors.{floor_of}
use Rattle.storage_db.specs.Kept.{AreFirst, IsMade, KeptCommit, KeptDatabase, Keeps, KeepsCommit, forgetting, pruned_of}
use Rattle.storage_db.proofs.Cases.{by_bool, cond_yes, cond_no, some_not_none}
use Rattle.storage_db.proofs.Changing.{same_parts}

-- ---- operations of which the first are forgotten

abbrev blank : ℕ → List (List ℕ)
blank n = replicate n []

pub forgetting_length : (n : ℕ) (xs : List (List ℕ)) → n ≤ length xs → length (forgetting n xs) ≡ length xs
forgetting_length n xs few =
    omega (arith, few, length-append (blank n) (drop n xs), length-replicate {A = List ℕ} n [], length-drop n xs)

pub forgetting_append : (n : ℕ) (xs ys : List (List ℕ)) → n ≤ length xs → forgetting n (xs ++ ys) ≡ forgetting n xs ++ ys
forgetting_append n xs ys few =
    ap (λ (l : List (List ℕ)). blank n ++ l) (drop-append-le n xs ys few) ∙ sym (append_assoc (blank n) (drop n xs) ys)

-- those behind them are as they were
pub forgetting_drop : (n m : ℕ) (xs : List (List ℕ)) → n ≤ m → drop m (forgetting n xs) ≡ drop m xs
forgetting_drop n m xs later = drop-append-drop n xs (blank n) m later (length-replicate {A = List ℕ} n [])

pub forgetting_range : (n start end : ℕ) (xs : List (List ℕ)) → n ≤ start
    → slice_range (forgetting n xs) start end ≡ slice_range xs start end
forgetting_range n start end xs later = ap (take (end - start)) (forgetting_drop n start xs later)

get_drop : (n k : ℕ) (xs : List (List ℕ)) (i : ℕ) → i ≡ n + k → slice_get xs i ≡ slice_get (drop n xs) k
get_drop zero k xs i at = let same : i ≡ k = omega (arith, at) in ap (slice_get xs) same
get_drop (suc n) k [] i at = refl
get_drop (suc n) k (x ∷ xs) zero at = absurd (omega (arith, at))
get_drop (suc n) k (x ∷ xs) (suc i) at = get_drop n k xs i (omega (arith, at))

pub forgetting_get : (n i : ℕ) (xs : List (List ℕ)) → n ≤ i → slice_get (forgetting n xs) i ≡ slice_get xs i
forgetting_get n i xs later =
    let at : i ≡ n + (i - n) = omega (arith, later) in
    get_drop n (i - n) (forgetting n xs) i at
    ∙ ap (λ (l : List (List ℕ)). slice_get l (i - n)) (forgetting_drop n n xs (omega arith))
    ∙ sym (get_drop n (i - n) xs i at)

-- to forget more of them is to forget as many at once
pub forgetting_more : (n m : ℕ) (xs : List (List ℕ)) → n ≤ m → forgetting m (forgetting n xs) ≡ forgetting m xs
forgetting_more n m xs later = ap (λ (l : List (List ℕ)). blank m ++ l) (forgetting_drop n m xs later)

-- ---- one more operation is forgotten

set_forgetting : (n : ℕ) (xs : List (List ℕ)) → n < length xs → set (forgetting n xs) n [] ≡ forgetting (suc n) xs
set_forgetting n [] less = absurd (omega (arith, less))
set_forgetting zero (x ∷ xs) less = refl
set_forgetting (suc n) (x ∷ xs) less = ap (λ (l : List (List ℕ)). [] ∷ l) (set_forgetting n xs (omega (arith, less)))

pub one_forgotten : (items after : List (Vec ℕ)) (n : ℕ) (blank : Vec ℕ) (all : List (List ℕ))
    → map (λ (v : Vec ℕ). v.items) items ≡ forgetting n all → n < length all → after ≡ slice_set items n blank → blank.items ≡ []
    → map (λ (v : Vec ℕ). v.items) after ≡ forgetting (n + 1) all
one_forgotten items after n blank all so_far less is none =
    let next : suc n ≡ n + 1 = omega arith in
    ap (map (λ (v : Vec ℕ). v.items)) is ∙ map-set (λ (v : Vec ℕ). v.items) items n blank
    ∙ ap₂ (λ (l : List (List ℕ)) (x : List ℕ). set l n x) so_far none
    ∙ set_forgetting n all less ∙ ap (λ (m : ℕ). forgetting m all) next

-- those that are left, of all of them turned
pub rotated : (items : List (Vec ℕ)) (gone left : ℕ) → left ≡ length items - gone
    → take left (drop gone items ++ take gone items) ≡ drop gone items
rotated items gone left is =
    ap (λ (n : ℕ). take n (drop gone items ++ take gone items)) (is ∙ sym (length-drop gone items))
    ∙ take-append_seam (drop gone items) (take gone items)

-- as many as whole chunks have
pub most_chunks : (a b m : ℕ) → (a + (b - a)) * m ≡ max (a * m) (b * m)
most_chunks a b m = elim (cases_lt a b) [
  | inl less ↦
      let le : a * m ≤ b * m = mul-le-mul_right m (omega (arith, less)) in
      let all : a + (b - a) ≡ b = omega (arith, less) in
      ap (λ (k : ℕ). k * m) all ∙ (omega (arith, le))
  | inr past ↦
      let le : b * m ≤ a * m = mul-le-mul_right m past in
      let all : a + (b - a) ≡ a = omega (arith, past) in
      ap (λ (k : ℕ). k * m) all ∙ (omega (arith, le))
]

-- ---- databases

-- operations with more behind them
abbrev pub More : List (List ℕ) → List (List ℕ) → Type 0
More operations longer = (more : List (List ℕ)) × (longer ≡ operations ++ more)

more_trans : (a b c : List (List ℕ)) → More a b → More b c → More a c
more_trans a b c first second = (
  first.0 ++ second.0,
  second.1 ∙ ap (λ (l : List (List ℕ)). l ++ second.0) first.1 ∙ append_assoc a first.0 second.0,
)

module _ {K W : Type 0} where
  -- the database of whose operations the first are forgotten
  abbrev pub lacking : ℕ → Database K W → Database K W
  lacking n d = record {
    operations = forgetting n d.operations;
    bits = d.bits;
    entries = d.entries;
    last = d.last;
  }

  -- a step that appends operations, and does the same where the first are forgotten
  pub record IsChange (step : Database K W → Database K W) : Type 0 where
    pub same : (n : ℕ) (d : Database K W) → n ≤ length d.operations → step (lacking n d) ≡ lacking n (step d)
    pub more : (d : Database K W) → More d.operations (step d).operations

  -- one that appends as many
  abbrev pub IsCounted : (Database K W → Database K W) → Type 0
  IsCounted step = (n : ℕ) (d : Database K W) → n ≤ length d.operations
      → length (step (lacking n d)).operations ≡ length (step d).operations

  pub as_many : (step : Database K W → Database K W) → IsChange step → (n : ℕ) (d : Database K W) → n ≤ length d.operations
      → n ≤ length (step d).operations
  as_many step change n d few =
      let more = change.more d in
      let count : length (step d).operations ≡ length d.operations + length more.0
      = ap (λ (l : List (List ℕ)). length l) more.1 ∙ length-append d.operations more.0 in
      omega (arith, few, count)

  pub counted_change : (step : Database K W → Database K W) → IsChange step → IsCounted step
  counted_change step change n d few =
      ap (λ (x : Database K W). length x.operations) (change.same n d few)
      ∙ forgetting_length n (step d).operations (as_many step change n d few)

module _ {K W : Type 0} (e : Keyed K W) where
  updated_same : (n : ℕ) (d : Database K W) → n ≤ length d.operations → (k : K) (v : W) (m : K)
      → updated e (lacking n d) k v m ≡ lacking n (updated e d k v m)
  updated_same n d few k v m =
      let placed : ℕ → Active W = λ l. record { value = v; location = l } in
      same_parts _ _ _ _ _ _ d.last (sym (forgetting_append n d.operations (update_text e k v m ∷ []) few)) refl
      (ap (λ (l : ℕ). insert_entry e.cmp d.entries k (placed l)) (forgetting_length n d.operations few))

  removed_same : (n : ℕ) (d : Database K W) → n ≤ length d.operations → (k : K)
      → removed e (lacking n d) k ≡ lacking n (removed e d k)
  removed_same n d few k =
      same_parts _ _ _ _ _ _ d.last
      (sym (forgetting_append n d.operations (e.operation (operation.Delete (e.key k)) ∷ []) few)) refl refl

  linked_same : (n : ℕ) (d : Database K W) → n ≤ length d.operations → (o : Option (K × Active W)) (m : K)
      → relinked e (lacking n d) o m ≡ lacking n (relinked e d o m)
  linked_same n d few None m = refl
  linked_same n d few (Some entry) m = updated_same n d few entry.0 entry.1.value m

  linked_more : (d : Database K W) (o : Option (K × Active W)) (m : K) → More d.operations (relinked e d o m).operations
  linked_more d None m = ([], sym (append-nil d.operations))
  linked_more d (Some entry) m = (update_text e entry.0 entry.1.value m ∷ [], refl)

  -- ---- a put

  module _ (k : K) (v : W) where
    put_same : (n : ℕ) (d : Database K W) → n ≤ length d.operations → put e (lacking n d) k v ≡ lacking n (put e d k v)
    put_same n d few =
        let m : K = next_key e.cmp d.entries k in
        let p : Option (K × Active W) = previous e.cmp d.entries k in
        let one : Database K W = updated e d k v m in
        let two : Database K W = relinked e one p k in
        let early : Database K W = updated e (lacking n d) k v m in
        let first : early ≡ lacking n one = updated_same n d few k v m in
        let longer : length one.operations ≡ length d.operations + 1 = length-append d.operations (update_text e k v m ∷ []) in
        by_bool (is_some (active_at e d.entries k))
        (λ held. cond_yes _ early (relinked e early p k) held ∙ first ∙ ap (lacking n) (sym (cond_yes _ one two held)))
        (λ fresh. cond_no _ early (relinked e early p k) fresh ∙ ap (λ (x : Database K W). relinked e x p k) first
        ∙ linked_same n one (omega (arith, few, longer)) p k ∙ ap (lacking n) (sym (cond_no _ one two fresh)))

    put_more : (d : Database K W) → More d.operations (put e d k v).operations
    put_more d =
        let m : K = next_key e.cmp d.entries k in
        let p : Option (K × Active W) = previous e.cmp d.entries k in
        let one : Database K W = updated e d k v m in
        let two : Database K W = relinked e one p k in
        let P : Database K W → Type 0 = λ x. More d.operations x.operations in
        let first : P one = (update_text e k v m ∷ [], refl) in
        by_bool (is_some (active_at e d.entries k))
        (λ held. subst P (sym (cond_yes _ one two held)) first)
        (λ fresh. subst P (sym (cond_no _ one two fresh)) (more_trans d.operations one.operations two.operations first (linked_more one p k)))

    pub put_change : IsChange (λ d. put e d k v)
    put_change = record { same = put_same; more = put_more }

    pub put_counted : IsCounted (λ d. put e d k v)
    put_counted = counted_change (λ d. put e d k v) put_change

  -- ---- a deletion

  module _ (k : K) where
    delete_same : (n : ℕ) (d : Database K W) → n ≤ length d.operations → delete e (lacking n d) k ≡ lacking n (delete e d k)
    delete_same n d few =
        let m : K = next_key e.cmp d.entries k in
        let p : Option (K × Active W) = previous e.cmp d.entries k in
        let one : Database K W = removed e d k in
        let two : Database K W = relinked e one p m in
        let early : Database K W = removed e (lacking n d) k in
        let longer : length one.operations ≡ length d.operations + 1
        = length-append d.operations (e.operation (operation.Delete (e.key k)) ∷ []) in
        by_bool (is_some (active_at e d.entries k))
        (λ held. cond_yes _ (relinked e early p m) (lacking n d) held
        ∙ ap (λ (x : Database K W). relinked e x p m) (removed_same n d few k)
        ∙ linked_same n one (omega (arith, few, longer)) p m ∙ ap (lacking n) (sym (cond_yes _ two d held)))
        (λ absent. cond_no _ (relinked e early p m) (lacking n d) absent ∙ ap (lacking n) (sym (cond_no _ two d absent)))

    delete_more : (d : Database K W) → More d.operations (delete e d k).operations
    delete_more d =
        let m : K = next_key e.cmp d.entries k in
        let p : Option (K × Active W) = previous e.cmp d.entries k in
        let one : Database K W = removed e d k in
        let two : Database K W = relinked e one p m in
        let P : Database K W → Type 0 = λ x. More d.operations x.operations in
        let first : P one = (e.operation (operation.Delete (e.key k)) ∷ [], refl) in
        by_bool (is_some (active_at e d.entries k))
        (λ held. subst P (sym (cond_yes _ two d held)) (more_trans d.operations one.operations two.operations first (linked_more one p m)))
        (λ absent. subst P (sym (cond_no _ two d absent)) ([], sym (append-nil d.operations)))

    pub delete_change : IsChange (λ d. delete e d k)
    delete_change = record { same = delete_same; more = delete_more }

    pub delete_counted : IsCounted (λ d. delete e d k)
    delete_counted = counted_change (λ d. delete e d k) delete_change

  -- ---- a commit

  pub commit_counted : (metadata : Option W) → IsCounted (λ d. commit e d metadata)
  commit_counted metadata n d few =
      let early : List (List ℕ) = forgetting n d.operations in
      omega (
        arith,
        length-append early (commit_text e metadata (least_location d.entries (length early)) ∷ []),
        length-append d.operations (commit_text e metadata (least_location d.entries (length d.operations)) ∷ []),
        forgetting_length n d.operations few,
      )

  -- what leaves the last commit as it is, whichever that is, is a put or a deletion
  pub change_of : (command : Command K W) (now was : Option (Committed K W) → Database K W)
      → ((l : Option (Committed K W)) → (now l).last ≡ l)
      → ((l : Option (Committed K W)) → now l ≡ done e (was l) command) → IsChange (λ d. done e d command)
  change_of (Put k v) now was stays steps = put_change k v
  change_of (Delete k) now was stays steps = delete_change k
  change_of (Commit metadata) now was stays steps =
      absurd (some_not_none _ (sym (ap (λ (x : Database K W). x.last) (steps None)) ∙ stays None))

-- ---- databases in memory

module _ {K W Y : Type 0} (e : Keyed K W) (seen : W → Y) (h : HashFunction) (g : Grafting) where
  pub pruned_at : (operations : List (List ℕ)) (o : Option (Committed K W)) (l : Option (KeptCommit K W))
      → MatchOption o (l ≡ None) (λ commit. IsSomeAnd l (λ c. KeepsCommit e seen h g c commit))
      → MatchOption o (Unit {0}) (AreFirst operations) → pruned_of l ≤ length operations
  pruned_at operations None l last first = let none : pruned_of l ≡ 0 = ap pruned_of last in omega (arith, none)
  pruned_at operations (Some commit) None last first = absurd last
  pruned_at operations (Some commit) (Some c) last first =
      let n : ℕ = length commit.snapshot.operations in
      let few : n ≤ length operations
      = omega (arith, ap (λ (l : List (List ℕ)). length l) first ∙ length-take n operations) in
      omega (arith, few, last.pruned, last.whole.floor_within)

  -- what is forgotten stands before the floor of the last commit
  pub pruned_low : (o : Option (Committed K W)) (l : Option (KeptCommit K W))
      → MatchOption o (l ≡ None) (λ commit. IsSomeAnd l (λ c. KeepsCommit e seen h g c commit)) → pruned_of l ≤ floor_of l
  pruned_low None l last = let none : pruned_of l ≡ 0 = ap pruned_of last in omega (arith, none)
  pruned_low (Some commit) None last = absurd last
  pruned_low (Some commit) (Some c) last = omega (arith, last.pruned, last.floor)

  -- no more is forgotten than there is
  pub pruned_within : (kept : KeptDatabase K W) (d : Database K W) → Keeps e seen h g kept d → pruned_of kept.last ≤ length d.operations
  pruned_within kept d keeps = pruned_at d.operations d.last kept.last keeps.last keeps.prefix

  -- what is forgotten counts
  pub counted : (kept : KeptDatabase K W) (d : Database K W) → Keeps e seen h g kept d → length kept.operations ≡ length d.operations
  counted kept d keeps =
      ap (λ (l : List (List ℕ)). length l) keeps.operations
      ∙ forgetting_length (pruned_of kept.last) d.operations (pruned_within kept d keeps)

  pub made_within : (kept : KeptDatabase K W) → IsMade e seen h g kept → pruned_of kept.last ≤ length kept.operations
  made_within kept made =
      omega (arith, pruned_within kept (run e empty made.0) made.1, counted kept (run e empty made.0) made.1)
