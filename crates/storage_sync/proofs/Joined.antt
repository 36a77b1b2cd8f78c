-- What a server answers to what a copy wants is taken, until all is there.
use Rattle.std.proofs.Common.{◌≡◌, ◌⊎◌, ℕ, suc, ◌+◌, ◌-◌, ◌*◌, ◌/◌, ◌%◌, ◌<◌, ◌≤◌, ◌^◌, Bool, List, [], ◌∷◌, ◌++◌, length, Some, inl, inr, refl, sym, ap, subst, ◌∙◌, arith, length-append}
use Rattle.std.proofs.lemmas.Bool.{cases_lt}
use Rattle.std.proofs.Math.Nat.{add-mul-mod_self_right, div-mul-le_self, mul-div_cancel}
use Rattle.storage_codec.specs.Digests.{HashFunction, IsSized}
use Rattle.storage_codec.specs.Codec.{whole}
use Rattle.storage_codec.specs.Laws.Codec.{one_answer}
use Rattle.storage_bitmap.specs.Chunks.{IsChunkSize}
use Rattle.storage_current.specs.CurrentSoundness.{OwnCurrentProofsAreAccepted}
use Rattle.storage_current.specs.OwnWire.{IsPrompt, OwnCurrentProofsAreReadAgain}
use Rattle.storage_current.specs.Snapshots.{Grafting, IsGrafting, Snapshot}
use Rattle.storage_sync.specs.declared.sync.limits.Limits.{Limits}
use Rattle.storage_sync.specs.Joined.{IsServedRun, IsWithin, MayBeOf, wanted}
use Rattle.storage_sync.specs.Messages.{Request, page_at, page_text}
use Rattle.storage_sync.specs.Pages.{Page}
use Rattle.storage_sync.specs.Refusals.{IsHonest}
use Rattle.storage_sync.specs.Serving.{HasPage, IsAnswer, answer_count, page_count}
use Rattle.storage_sync.specs.Syncs.{Taken, IsAt, IsTaken, IsWhole, MayHave, after, leaves_with, place, step}
use Rattle.storage_sync.proofs.Bits.{some_bytes}
use Rattle.storage_sync.proofs.Own.{all_leaves, read}
use Rattle.storage_sync.proofs.Serving.{all_left, count_left, whole_chunks}
use Rattle.storage_sync.proofs.States.{left_at, some_step}

-- ---- what is wanted can be answered

count_some : (n left most : ℕ) → 0 < left → 0 < most / (8 * n) * (8 * n) → 0 < page_count n left most
count_some n left most some chunk = elim (cases_lt most left) [
  | inl more ↦ omega (arith, whole_chunks n left most more, chunk)
  | inr few ↦ omega (arith, all_left n left most few, some)
]

-- the most whole chunks of the most whole chunks are these
step_whole : (n : ℕ) (limits : Limits) → 0 < n → step n limits / (8 * n) * (8 * n) ≡ step n limits
step_whole n limits some =
    let b = 8 * n in
    let pos : 0 < b = omega arith in
    ap (λ (q : ℕ). q * b) (mul-div_cancel (limits.max_ops / b) pos)

pub wanted_page : (n leaves : ℕ) (t : Taken) (r : Request) → IsChunkSize n → 8 * n ≤ t.limits.max_ops → t.begin % (8 * n) ≡ 0
    → IsAt n t.begin (place t) t.leaves → MayHave t leaves → (IsWhole t → ⊥) → r.start ≡ place t → r.max_ops ≡ step n t.limits
    → HasPage n leaves 0 0 r
wanted_page n leaves t r size room start at may unfinished start_is most_is =
    let left = left_at n t.begin (place t) leaves t.leaves start at may unfinished in
    let chunk : 0 < step n t.limits / (8 * n) * (8 * n) =
    omega (arith, some_step n t.limits.max_ops size room, step_whole n t.limits (some_bytes n size)) in
    record {
      begins = record {
        within = omega (arith, left.0, start_is);
        boundary = ap (λ (k : ℕ). k % (8 * n)) start_is ∙ left.1;
      };
      kept = record { bits = omega arith; operations = omega arith };
      some = count_some n (leaves - r.start) r.max_ops (omega (arith, left.0, start_is))
          (subst (λ (k : ℕ). 0 < k / (8 * n) * (8 * n)) (sym most_is) chunk);
    }

-- ---- the answer is honest

count_most : (n left most : ℕ) → page_count n left most ≤ most
count_most n left most = elim (cases_lt most left) [
  | inl more ↦ omega (arith, whole_chunks n left most more, div-mul-le_self most (8 * n))
  | inr few ↦ omega (arith, all_left n left most few)
]

count_ends : (n start leaves most : ℕ) → start % (8 * n) ≡ 0 → start < leaves
    → ((start + page_count n (leaves - start) most) % (8 * n) ≡ 0) ⊎ (start + page_count n (leaves - start) most ≡ leaves)
count_ends n start leaves most boundary less = elim (cases_lt most (leaves - start)) [
  | inl more ↦ inl (ap (λ (m : ℕ). (start + m) % (8 * n)) (whole_chunks n (leaves - start) most more)
      ∙ add-mul-mod_self_right start (most / (8 * n)) (8 * n) ∙ boundary)
  | inr few ↦ inr (let all = all_left n (leaves - start) most few in omega (arith, all, less))
]

pub honest : (h : HashFunction) (g : Grafting) (there : Bool) (s : Snapshot) (t : Taken) (page : Page) → MayBeOf h g s t
    → IsAnswer h g s (wanted g.bytes t) page → IsWithin t.limits page → IsHonest h g there s t (page_text there page)
honest h g there s t page may answer limits =
    let n = g.bytes in
    let start = place t in
    let leaves = length s.operations in
    record {
      snapshot = may.snapshot;
      root_is = may.root_is;
      leaves_are = may.leaves_are;
      page = page;
      own = answer.own;
      asked = record {
        some = answer.own.holds.some;
        few = omega (arith, answer.count, count_most n (leaves - start) (step n t.limits));
        within = answer.own.holds.there.within;
        ends = subst (λ (c : ℕ). ((start + c) % (8 * n) ≡ 0) ⊎ (start + c ≡ leaves)) (sym answer.count)
            (count_ends n start leaves (step n t.limits) answer.begins.boundary answer.begins.within);
      };
      few = limits.few;
      short = limits.short;
      bytes_are = refl;
    }

-- ---- and what is taken of it

module _ (accepted : OwnCurrentProofsAreAccepted) (again : OwnCurrentProofsAreReadAgain) (d : ℕ) (h : HashFunction)
    (sized : IsSized d h) (g : Grafting) (grafting : IsGrafting g) (there : Bool) (prompt : IsPrompt there g.shape)
    (s : Snapshot) where
  -- what is known once the answer is taken
  record IsNext (old between : Taken) : Type 0 where
    pub may : MayBeOf h g s between
    pub limits_are : between.limits ≡ old.limits
    pub named : between.leaves ≡ Some (length s.operations)
    pub grown : place between ≡ place old + answer_count g.bytes (length s.operations) (wanted g.bytes old)

  next : (old between : Taken) (bytes : List ℕ) (page : Page) → MayBeOf h g s old → old.limits.max_digests < 2 ^ 64
      → IsAnswer h g s (wanted g.bytes old) page → IsWithin old.limits page → bytes ≡ page_text there page
      → IsTaken h g there d old between bytes → IsNext old between
  unfolding honest
  next old between bytes page may small answer limits is taken =
      let text = page_text there page in
      let none : List ℕ = [] in
      let fair = honest h g there s old page may answer limits in
      let own = read accepted again d h sized g grafting there prompt old small s text fair in
      let same : taken.page ≡ page = (one_answer (whole (page_at there d g.bytes old.limits text)) taken.page page none none
      (ap (λ (b : List ℕ). whole (page_at there d g.bytes old.limits b)) (sym is) ∙ taken.read) own).0 in
      let now : between ≡ after g.bytes old page = taken.new_is ∙ ap (after g.bytes old) same in
      let all : leaves_with old page ≡ length s.operations =
      all_leaves accepted again d h sized g grafting there prompt old small s text fair old.leaves may.leaves_are in
      let named : between.leaves ≡ Some (length s.operations) = ap (λ (t : Taken). t.leaves) now ∙ ap Some all in
      let grown : place between ≡ old.begin + length (old.operations ++ page.operations) = ap place now in
      record {
        may = record {
          snapshot = may.snapshot;
          root_is = ap (λ (t : Taken). t.root) now ∙ may.root_is;
          leaves_are = inr named;
        };
        limits_are = ap (λ (t : Taken). t.limits) now;
        named = named;
        grown =
            let sum : old.begin + length (old.operations ++ page.operations) ≡ place old + length page.operations =
            omega (arith, length-append old.operations page.operations) in
            grown ∙ sum ∙ ap (λ (k : ℕ). place old + k) answer.count;
      }

  -- either all that are left are taken, or as many as are wanted
  moved : (old between : Taken) → IsNext old between → place old < length s.operations
      → (place between ≡ length s.operations)
      ⊎ (place between ≡ place old + step g.bytes old.limits)
  moved old between is less =
      let n = g.bytes in
      let left : ℕ = length s.operations - place old in
      let most : ℕ = step n old.limits in
      elim (cases_lt most left) [
        | inl more ↦ inr (is.grown ∙ ap (λ (k : ℕ). place old + k)
            (whole_chunks n left most more ∙ step_whole n old.limits (some_bytes n grafting.size)))
        | inr few ↦ inl (let all = all_left n left most few in let grown = is.grown in omega (arith, all, grown, less))
      ]

  within : (old between : Taken) → IsNext old between → place old < length s.operations
      → place between ≤ length s.operations
  within old between is less =
      let grown = is.grown in
      let few = count_left g.bytes (length s.operations - place old) (step g.bytes old.limits) in
      omega (arith, grown, few, less)

  pub all_taken : (bytes : List ℕ) (more : List (List ℕ)) (old new : Taken) → MayBeOf h g s old → old.limits.max_digests < 2 ^ 64
      → IsServedRun h g s there d (bytes ∷ more) old new
      → length s.operations ≤ place old + length (bytes ∷ more) * step g.bytes old.limits → IsWhole new
  all_taken bytes [] old new may small (between, page, answer, limits, is, taken, same) enough =
      let now = next old between bytes page may small answer limits is taken in
      let less : place old < length s.operations = answer.begins.within in
      let upto = within old between now less in
      let all : length s.operations ≡ place between = elim (moved old between now less) [
        | inl whole ↦ sym whole
        | inr step_more ↦ omega (arith, step_more, upto, enough)
      ] in
      subst IsWhole (sym same) (now.named ∙ ap Some all)
  all_taken bytes (following ∷ more) old new may small (between, page, answer, limits, is, taken, run) enough =
      let now = next old between bytes page may small answer limits is taken in
      let less : place old < length s.operations = answer.begins.within in
      let st : ℕ = step g.bytes old.limits in
      let rest : ℕ = length (following ∷ more) in
      let one : suc rest * st ≡ rest * st + st = grind arith in
      let same : rest * step g.bytes between.limits ≡ rest * st =
      ap (λ (l : Limits). rest * step g.bytes l) now.limits_are in
      let left : length s.operations ≤ place between + rest * step g.bytes between.limits =
      elim (moved old between now less) [
        | inl whole ↦ omega (arith, whole)
        | inr step_more ↦ omega (arith, step_more, same, one, enough)
      ] in
      all_taken following more between new now.may
      (subst (λ (l : Limits). l.max_digests < 2 ^ 64) (sym now.limits_are) small) run left
