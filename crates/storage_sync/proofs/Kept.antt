-- What is kept once a page is taken, and what it is worth once all pages are there.
use Rattle.std.proofs.Common.{◌≡◌, ◌⊎◌, ℕ, ◌+◌, ◌*◌, ◌%◌, ◌<◌, ◌≤◌, Bool, List, [], ◌∷◌, ◌++◌, length, Option, Some, None, Ok, inl, inr, refl, sym, ap, subst, ◌∙◌, arith, append-nil, append_assoc, length-append}
use Rattle.std.specs.Option.{unwrap_or}
use Rattle.storage_codec.specs.Digests.{HashFunction, IsSized}
use Rattle.storage_codec.specs.Codec.{whole}
use Rattle.storage_merkle.specs.Shape.{Laws}
use Rattle.storage_current.specs.Snapshots.{Grafting}
use Rattle.storage_sync.specs.Pages.{Page, chunk_bits, page_bits, operations_of, bits_of, FirstNames, FirstRoot, IsProved, AreProved}
use Rattle.storage_sync.specs.Floors.{PagesAreTails}
use Rattle.storage_sync.specs.Syncs.{Taken, IsWhole, IsAsked, leaves_with, ops_root_with, after, IsAt, IsKept, IsTaken, IsPromised, place}
use Rattle.storage_sync.specs.Messages.{page_at}

-- what pages give, and one page more
operations_more : (pages : List Page) (p : Page) → operations_of (pages ++ p ∷ []) ≡ operations_of pages ++ p.operations
operations_more [] p = append-nil p.operations
operations_more (q ∷ qs) p = ap (λ (xs : List (List ℕ)). q.operations ++ xs) (operations_more qs p)
    ∙ sym (append_assoc q.operations (operations_of qs) p.operations)

bits_more : (n : ℕ) (pages : List Page) (p : Page) → bits_of n (pages ++ p ∷ []) ≡ bits_of n pages ++ page_bits n p
bits_more n [] p = append-nil (page_bits n p)
bits_more n (q ∷ qs) p = ap (λ xs. page_bits n q ++ xs) (bits_more n qs p)
    ∙ sym (append_assoc (page_bits n q) (bits_of n qs) (page_bits n p))

first_more : (leaves : ℕ) (pages : List Page) (p : Page) → FirstNames leaves pages → FirstNames leaves (pages ++ p ∷ [])
first_more leaves [] p named = absurd named
first_more leaves (q ∷ qs) p named = named

pub some_is : (x y : ℕ) → Some x ≡ Some y → x ≡ y
some_is x y e = cc

pub none_is : (o : Option ℕ) (x : ℕ) → o ≡ None → o ≡ Some x → ⊥
none_is o x e f = absurd (let clash : None ≡ Some x = sym e ∙ f in cc)

-- the first page names the number that is kept
names_more : (o : Option ℕ) (pages : List Page) (p : Page) (leaves : ℕ)
    → ((n : ℕ) → o ≡ Some n → FirstNames n pages) → (o ≡ None → pages ≡ [])
    → Some (unwrap_or o p.proof.range.leaves) ≡ Some leaves → FirstNames leaves (pages ++ p ∷ [])
names_more (Some n) pages p leaves named unnamed e =
    subst (λ (x : ℕ). FirstNames x (pages ++ p ∷ [])) (some_is n leaves e) (first_more n pages p (named n refl))
names_more None pages p leaves named unnamed e =
    subst (λ (ps : List Page). FirstNames leaves (ps ++ p ∷ [])) (sym (unnamed refl))
    (some_is p.proof.range.leaves leaves e)

rooted_more : (r : List ℕ) (pages : List Page) (p : Page) → FirstRoot r pages → FirstRoot r (pages ++ p ∷ [])
rooted_more r [] p rooted = absurd rooted
rooted_more r (q ∷ qs) p rooted = rooted

-- and has the operations root that is kept
roots_more : (o : Option (List ℕ)) (pages : List Page) (p : Page) (r : List ℕ)
    → ((x : List ℕ) → o ≡ Some x → FirstRoot x pages) → (o ≡ None → pages ≡ [])
    → Some (unwrap_or o p.proof.ops_root) ≡ Some r → FirstRoot r (pages ++ p ∷ [])
roots_more (Some x) pages p r rooted unrooted e =
    let same : x ≡ r = cc in
    subst (λ (y : List ℕ). FirstRoot y (pages ++ p ∷ [])) same (rooted_more x pages p (rooted x refl))
roots_more None pages p r rooted unrooted e =
    let same : p.proof.ops_root ≡ r = cc in
    subst (λ (ps : List Page). FirstRoot r (ps ++ p ∷ [])) (sym (unrooted refl)) same

pub no_root : (o : Option (List ℕ)) (x : List ℕ) → o ≡ None → o ≡ Some x → ⊥
no_root o x e f = absurd (let clash : None ≡ Some x = sym e ∙ f in cc)

pub asked_alike : (n : ℕ) (t : Taken) (a b x y : ℕ) → a ≡ b → x ≡ y → IsAsked n t a x → IsAsked n t b y
asked_alike n t a b x y e f asked =
    subst (λ (k : ℕ). IsAsked n t k y) e (subst (λ (k : ℕ). IsAsked n t a k) f asked)

-- where the next page begins a chunk begins
pub boundary_of : (n begin next leaves count : ℕ) (o : Option ℕ) → begin % (8 * n) ≡ 0 → IsAt n begin next o → 0 < count
    → next + count ≤ unwrap_or o leaves → next % (8 * n) ≡ 0
boundary_of n begin next leaves count None start at some within = ap (λ (k : ℕ). k % (8 * n)) at ∙ start
boundary_of n begin next leaves count (Some all) start at some within = elim at.2 [
  | inl boundary ↦ boundary
  | inr whole ↦ absurd (omega arith)
]

module _ (h : HashFunction) (g : Grafting) (d : ℕ) where
  proved_more : (root : List ℕ) (low kept : ℕ) (pages : List Page) (p : Page) → AreProved h g d root low kept pages
      → IsProved h g d root kept p → AreProved h g d root low (kept + length p.operations) (pages ++ p ∷ [])
  proved_more root low kept [] p all one = (
    subst (λ (x : ℕ). IsProved h g d root x p) (sym all) one,
    ap (λ (x : ℕ). x + length p.operations) all,
  )
  proved_more root low kept (q ∷ qs) p all one =
      (all.0, proved_more root (low + length q.operations) kept qs p all.1 one)

  pub kept_more : (t : Taken) (p : Page) (pages : List Page) → IsProved h g d t.root (place t) p → IsKept h g d t pages
      → IsKept h g d (after g.bytes t p) (pages ++ p ∷ [])
  kept_more t p pages proved kept = record {
    proved =
        let sum : place t + length p.operations ≡ t.begin + length (t.operations ++ p.operations) =
        omega (arith, length-append t.operations p.operations) in
        subst (λ (x : ℕ). AreProved h g d t.root t.begin x (pages ++ p ∷ [])) sum
        (proved_more t.root t.begin (place t) pages p kept.proved proved);
    named = λ leaves e. names_more t.leaves pages p leaves kept.named kept.unnamed e;
    unnamed = λ e. absurd (none_is (Some (leaves_with t p)) (leaves_with t p) e refl);
    rooted = λ r e. roots_more t.ops_root pages p r kept.rooted kept.unrooted e;
    unrooted = λ e. absurd (no_root (Some (ops_root_with t p)) (ops_root_with t p) e refl);
    operations_are = ap (λ (xs : List (List ℕ)). xs ++ p.operations) kept.operations_are ∙ sym (operations_more pages p);
    bits_are = ap (λ xs. xs ++ page_bits g.bytes p) kept.bits_are ∙ sym (bits_more g.bytes pages p);
  }

  pub promised : PagesAreTails → (d ≡ 32) ⊎ (d ≡ 64) → IsSized d h → Laws g.shape → (t : Taken) → IsWhole t
      → (pages : List Page) → IsKept h g d t pages → IsPromised h g t pages
  promised tails width sized laws t whole pages kept = λ ops_root known s snapshot same.
      elim (tails d h width sized g laws t.root t.begin (place t) ops_root pages (kept.named (place t) whole)
      (kept.rooted ops_root known) kept.proved s snapshot same) [
        | inl tail ↦ inl (record {
          operations_are = kept.operations_are ∙ tail.operations_are;
          bits_are = kept.bits_are ∙ tail.bits_are;
          ops_root_is = tail.ops_root_is;
        })
        | inr crossed ↦ inr crossed
      ]

-- a page that was read, may come next and is proved is taken, where what it gives is kept
pub taken_as : (h : HashFunction) (g : Grafting) (there : Bool) (d : ℕ) (old new : Taken) (bytes : List ℕ) (page : Page)
    (leaves count : ℕ) (ops_root : List ℕ) → whole (page_at there d g.bytes old.limits bytes) ≡ Ok (page, [])
    → leaves ≡ leaves_with old page → ops_root ≡ ops_root_with old page → length page.operations ≡ count → IsAsked g.bytes old leaves count → IsProved h g d old.root (place old) page
    → new ≡ record old {
      leaves = Some leaves;
      ops_root = Some ops_root;
      operations = old.operations ++ page.operations;
      bits = old.bits ++ chunk_bits g.bytes count page.chunks;
    } → IsTaken h g there d old new bytes
taken_as h g there d old new bytes page leaves count ops_root read leaves_is root_is count_is asked proved new_is =
    let is : new ≡ after g.bytes old page =
    new_is ∙ ap (λ (k : ℕ). record old {
      leaves = Some k;
      ops_root = Some ops_root;
      operations = old.operations ++ page.operations;
      bits = old.bits ++ chunk_bits g.bytes count page.chunks;
    }) leaves_is ∙ ap (λ (r : List ℕ). record old {
      leaves = Some (leaves_with old page);
      ops_root = Some r;
      operations = old.operations ++ page.operations;
      bits = old.bits ++ chunk_bits g.bytes count page.chunks;
    }) root_is ∙ ap (λ (k : ℕ). record old {
      leaves = Some (leaves_with old page);
      ops_root = Some (ops_root_with old page);
      operations = old.operations ++ page.operations;
      bits = old.bits ++ chunk_bits g.bytes k page.chunks;
    }) (sym count_is) in
    record {
      page = page;
      read = read;
      asked = asked_alike g.bytes old leaves (leaves_with old page) count (length page.operations) leaves_is (sym count_is)
          asked;
      proved = proved;
      new_is = is;
      kept = λ pages kept. subst (λ (t : Taken). IsKept h g d t (pages ++ page ∷ [])) (sym is)
          (kept_more h g d old page pages proved kept);
    }
