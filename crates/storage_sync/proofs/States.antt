-- What holds of what is kept, and what may come next.
use Rattle.std.proofs.Common.{◌≡◌, ◌⊎◌, ◌↔◌, ◌==◌, IsTrue, eqb-true, eq-eqb, ℕ, ◌+◌, ◌-◌, ◌*◌, ◌/◌, ◌%◌, ◌<◌, ◌≤◌, min, Bool, true, List, [], ◌∷◌, ◌++◌, length, map, get_or, Option, Some, None, Result, inl, inr, refl, sym, ap, subst, ◌∙◌, arith, length-append}
use Rattle.std.specs.Prelude.{option_map}
use Rattle.std.specs.Global.{Vec}
use Rattle.std.specs.Option.{IfSome, MatchOption, unwrap_or, is_some}
use Rattle.std.specs.Bool.{if◌then◌else◌}
use Rattle.std.specs.Result.{IfOk, is_ok}
use Rattle.std.proofs.lemmas.Bool.{cases_lt}
use Rattle.std.proofs.lemmas.Nat.{le-div}
use Rattle.std.proofs.lemmas.List.FromFn.{length-map-range_with_len, map-range_with_len_more}
use Rattle.std.proofs.Math.Nat.{zero-add, zero-mod, div-mul-le_self, mod-eq-sub-div-mul, add-mul-mod_self_right, mul-le-mul_right, min-eq_left, min-eq_right, min-le_left, min-le_right, le-min}
use Rattle.storage_codec.specs.Digests.{HashFunction}
use Rattle.storage_merkle.specs.Shape.{max_leaves}
use Rattle.storage_bitmap.specs.Chunks.{IsChunkSize, Retained, bit_count}
use Rattle.storage_bitmap.specs.Packed.{bit_in}
use Rattle.storage_current.specs.Snapshots.{Grafting, RangeProof}
use Rattle.storage_current.specs.CurrentProofs.{IsCurrent}
use Rattle.storage_sync.specs.declared.sync.limits.Limits.{Limits}
use Rattle.storage_sync.specs.Pages.{chunk_bits}
use Rattle.storage_sync.specs.Syncs.{CanStart, Taken, IsWhole, IsAsked, MayHave, IsAt, IsConsistent, place, step}
use Rattle.storage_sync.proofs.Bits.{some_bytes}
use Rattle.storage_sync.proofs.Kept.{some_is, none_is}

-- ---- the bits of a page

pub length-chunk_bits : (n count : ℕ) (chunks : List (List ℕ)) → length (chunk_bits n count chunks) ≡ count
length-chunk_bits n count chunks =
    length-map-range_with_len (λ j. bit_in (get_or chunks (j / (8 * n)) []) (j % (8 * n))) 0 count

pub bits_next : (n i : ℕ) (chunks : List (List ℕ)) (bits new : List Bool) (bit : Bool) → bits ≡ chunk_bits n i chunks
    → bit ≡ bit_in (get_or chunks (i / (8 * n)) []) (i % (8 * n)) → new ≡ bits ++ bit ∷ []
    → new ≡ chunk_bits n (i + 1) chunks
bits_next n i chunks bits new bit so_far is e =
    e ∙ ap (λ (bs : List Bool). bs ++ bit ∷ []) so_far ∙ ap (λ (b : Bool). chunk_bits n i chunks ++ b ∷ []) is
    ∙ sym (map-range_with_len_more (λ j. bit_in (get_or chunks (j / (8 * n)) []) (j % (8 * n))) 0 i i (zero-add i))

-- what is kept with bits that were read from chunks
pub more_kept : (n : ℕ) (old new : Taken) (leaves : ℕ) (ops_root : List ℕ) (operations : List (List ℕ)) (lent bits : List Bool)
    (k count : ℕ) (cs chunks : List (List ℕ)) → new ≡ record old {
      leaves = Some leaves;
      ops_root = Some ops_root;
      operations = old.operations ++ operations;
      bits = old.bits ++ lent;
    } → lent ≡ bits → bits ≡ chunk_bits n k cs → k ≡ count → cs ≡ chunks → new ≡ record old {
      leaves = Some leaves;
      ops_root = Some ops_root;
      operations = old.operations ++ operations;
      bits = old.bits ++ chunk_bits n count chunks;
    }
more_kept n old new leaves ops_root operations lent bits k count cs chunks is e bits_are count_is chunks_are =
    is ∙ ap (λ (b : List Bool). record old {
      leaves = Some leaves;
      ops_root = Some ops_root;
      operations = old.operations ++ operations;
      bits = old.bits ++ b;
    }) (e ∙ bits_are ∙ ap (λ (j : ℕ). chunk_bits n j cs) count_is
    ∙ ap (λ (xs : List (List ℕ)). chunk_bits n count xs) chunks_are)

-- the root that is kept, seen by its bytes
root_seen : {D : Type 0} (text : D → List ℕ) (o : Option D) (d : D)
    → text (unwrap_or o d) ≡ unwrap_or (option_map text o) (text d)
root_seen text None d = refl
root_seen text (Some x) d = refl

abbrev seen : List ℕ → Limits → (begin leaves : ℕ) → List ℕ → List (List ℕ) → List Bool → Taken
seen root limits begin leaves ops_root operations bits = record {
  root = root;
  limits = limits;
  begin = begin;
  leaves = Some leaves;
  ops_root = Some ops_root;
  operations = operations;
  bits = bits;
}

-- what is seen once a page is kept
pub seen_kept : {D : Type 0} (text : D → List ℕ) (was : Option D) (d first : D) (root : List ℕ) (limits : Limits)
    (begin leaves : ℕ) (old : Option ℕ) (all operations added : List (List ℕ)) (now bits more : List Bool) → first ≡ unwrap_or was d
    → all ≡ operations ++ added → now ≡ bits ++ more → (t : Taken) → record {
      root = root;
      limits = limits;
      begin = begin;
      leaves = old;
      ops_root = option_map text was;
      operations = operations;
      bits = bits;
    } ≡ t → seen root limits begin leaves (text first) all now ≡ record t {
      leaves = Some leaves;
      ops_root = Some (unwrap_or t.ops_root (text d));
      operations = t.operations ++ added;
      bits = t.bits ++ more;
    }
seen_kept text was d first root limits begin leaves old all operations added now bits more first_is all_are now_are t view =
    ap (λ (r : List ℕ). seen root limits begin leaves r all now) (ap text first_is ∙ root_seen text was d)
    ∙ ap (λ (xs : List (List ℕ)). seen root limits begin leaves (unwrap_or (option_map text was) (text d)) xs now) all_are
    ∙ ap (λ (bs : List Bool). seen root limits begin leaves (unwrap_or (option_map text was) (text d)) (operations ++ added) bs)
    now_are
    ∙ ap (λ (s : Taken). record s {
      leaves = Some leaves;
      ops_root = Some (unwrap_or s.ops_root (text d));
      operations = s.operations ++ added;
      bits = s.bits ++ more;
    }) view

-- ---- once a page is kept

pub few_leaves : (n begin next : ℕ) (o : Option ℕ) (leaves : ℕ) → IsAt n begin next o → leaves ≤ max_leaves
    → unwrap_or o leaves ≤ max_leaves
few_leaves n begin next None leaves at few = few
few_leaves n begin next (Some all) leaves at few = at.1

pub consistent_after : (n : ℕ) (limits : Limits) (o : Option ℕ) (rooted : Bool) (kept count leaves after : ℕ) (t : Taken) (old new : Retained)
    (bits : List Bool) → IsConsistent n limits o rooted kept old → IsAsked n t leaves count
    → place t ≡ old.pruned * (8 * n) + kept → leaves ≤ max_leaves → length bits ≡ count
    → new ≡ record old { bits = old.bits ++ bits } → after ≡ kept + count → IsConsistent n limits (Some leaves) true after new
consistent_after n limits o rooted kept count leaves after t old new bits was asked here few more new_is after_is =
    let start : ℕ = old.pruned * (8 * n) in
    let sum : place t + count ≡ start + after = omega (arith, here, after_is) in
    let within = asked.within in
    let each = was.bit_each in
    let all = length-append old.bits bits in
    let bit_each : length (old.bits ++ bits) ≡ after = omega (arith, all, each, more, after_is) in
    let same : new.pruned * (8 * n) ≡ start = ap (λ (r : Retained). r.pruned * (8 * n)) new_is in
    let at : IsAt n start (start + after) (Some leaves) = (
      omega (arith, within, sum),
      few,
      subst (λ (k : ℕ). (k % (8 * n) ≡ 0) ⊎ (k ≡ leaves)) sum asked.ends,
    ) in
    record {
      size = was.size;
      room = was.room;
      few = subst (λ (k : ℕ). k ≤ max_leaves) (sym same) was.few;
      bit_each = ap (λ (r : Retained). length r.bits) new_is ∙ bit_each;
      at = subst (λ (k : ℕ). IsAt n k (k + after) (Some leaves)) (sym same) at;
      root = refl;
    }

pub room_for : (n : ℕ) (r : Retained) (kept count leaves : ℕ) (bits : List Bool) → length r.bits ≡ kept → length bits ≡ count
    → r.pruned * (8 * n) + kept + count ≤ leaves → leaves ≤ max_leaves → bit_count n r + length bits ≤ max_leaves
room_for n r kept count leaves bits each new within few = omega arith

-- what a call that succeeds leaves
pub when_ok : {A E X : Type 0} (r : Result A E) (x y z : X) → is_ok r ≡ true → z ≡ (if is_ok r then x else y) → z ≡ x
when_ok r x y z ok e = e ∙ ap (λ (b : Bool). if b then x else y) ok

-- ---- what may come next

pub some_step : (n most : ℕ) → IsChunkSize n → 8 * n ≤ most → 0 < most / (8 * n) * (8 * n)
some_step n most size room =
    let some : 0 < n = some_bytes n size in
    let one : 1 ≤ most / (8 * n) = le-div 1 most (8 * n) (omega arith) (omega arith) in
    let whole : 1 * (8 * n) ≤ most / (8 * n) * (8 * n) = mul-le-mul_right (8 * n) one in
    omega arith

-- while not all is there some are left, and a chunk begins
pub left_at : (n begin next leaves : ℕ) (o : Option ℕ) → begin % (8 * n) ≡ 0 → IsAt n begin next o
    → ((o ≡ None) × (begin < leaves)) ⊎ (o ≡ Some leaves) → (o ≡ Some next → ⊥) → (next < leaves) × (next % (8 * n) ≡ 0)
left_at n begin next leaves None start at (inl first) unfinished =
    (omega (arith, first.1, at), ap (λ (k : ℕ). k % (8 * n)) at ∙ start)
left_at n begin next leaves None start at (inr known) unfinished = absurd (none_is None leaves refl known)
left_at n begin next leaves (Some all) start at (inl first) unfinished = absurd (none_is (Some all) all first.0 refl)
left_at n begin next leaves (Some all) start at (inr known) unfinished =
    let all_is : all ≡ leaves = some_is all leaves known in
    elim at.2 [
      | inr whole ↦ absurd (unfinished (ap Some (sym whole)))
      | inl boundary ↦ elim (cases_lt next all) [
        | inl less ↦ (omega arith, boundary)
        | inr more ↦ absurd (unfinished (ap Some (let e : all ≡ next = omega (arith, at.0) in e)))
      ]
    ]

-- where as many come as are wanted and left, a chunk ends or all do
ends_at : (b q kept leaves : ℕ) → kept < leaves → kept % b ≡ 0
    → ((kept + min (q * b) (leaves - kept)) % b ≡ 0) ⊎ (kept + min (q * b) (leaves - kept) ≡ leaves)
ends_at b q kept leaves less boundary = elim (cases_lt (q * b) (leaves - kept)) [
  | inl few ↦ inl (ap (λ (m : ℕ). (kept + m) % b) (min-eq_left (let h : q * b ≤ leaves - kept = omega arith in h))
      ∙ add-mul-mod_self_right kept q b ∙ boundary)
  | inr all ↦ inr (ap (λ (m : ℕ). kept + m) (min-eq_right all) ∙ (let h : kept + (leaves - kept) ≡ leaves = omega arith in h))
]

pub wanted_asked : (n leaves : ℕ) (t : Taken) → IsChunkSize n → 8 * n ≤ t.limits.max_ops → t.begin % (8 * n) ≡ 0
    → IsAt n t.begin (place t) t.leaves → MayHave t leaves → (IsWhole t → ⊥)
    → IsAsked n t leaves (min (step n t.limits) (leaves - place t))
wanted_asked n leaves t size room start at may unfinished =
    let left = left_at n t.begin (place t) leaves t.leaves start at may unfinished in
    let some = some_step n t.limits.max_ops size room in
    let less = left.0 in
    let few = min-le_left (step n t.limits) (leaves - place t) in
    let within = min-le_right (step n t.limits) (leaves - place t) in
    record {
      some = le-min (omega arith) (omega arith);
      few = few;
      within = omega arith;
      ends = ends_at (8 * n) (t.limits.max_ops / (8 * n)) (place t) leaves less left.1;
    }

-- ---- where a copy begins

-- the chunks before a location where a chunk begins
pub chunks_before : (n begin : ℕ) → begin % (8 * n) ≡ 0 → begin / (8 * n) * (8 * n) ≡ begin
chunks_before n begin boundary = omega (arith, boundary, mod-eq-sub-div-mul begin (8 * n), div-mul-le_self begin (8 * n))

-- a copy that begins with the first operation wants room for a chunk alone
pub from_first : {S : Type 0} (o : Option S) (n : ℕ) (limits : Limits) (first : ℕ) (P : ℕ → S → Type 0) → first ≡ 0
    → MatchOption o (CanStart n limits first → ⊥) (λ s. CanStart n limits first × P first s)
    → MatchOption o (limits.max_ops < 8 * n) (λ s. (8 * n ≤ limits.max_ops) × P 0 s)
from_first None n limits first P is none = elim (cases_lt limits.max_ops (8 * n)) [
  | inl less ↦ less
  | inr room ↦ absurd (none (record {
    room = room;
    boundary = ap (λ (k : ℕ). k % (8 * n)) is ∙ zero-mod (8 * n);
    few = omega (arith, is);
  }))
]
from_first (Some s) n limits first P is both = (both.0.room, subst (λ (k : ℕ). P k s) is both.1)

-- nor more, where its opening is accepted
pub begun_accepted : {S : Type 0} (o : Option S) (A C : Type 0) (Q : S → Type 0) → A → MatchOption o (C → ⊥) (λ s. C × Q s)
    → MatchOption o (A × C → ⊥) (λ s. A × C × Q s)
begun_accepted None A C Q a none = λ both. none both.1
begun_accepted (Some s) A C Q a is = (a, is.0, is.1)

-- what holds holds where there is a value
pub where_some : {S : Type 0} (o : Option S) (M : Type 0) → M → IfSome o (λ _. M)
where_some None M m = tt
where_some (Some s) M m = m

-- ---- whether all is there

pub whole_here : (o : Option ℕ) (leaves known count n : ℕ) → o ≡ Some leaves → known ≡ leaves → count ≡ n
    → IsTrue (known == count) ↔ (o ≡ Some n)
whole_here o leaves known count n is k e = (
  λ yes. is ∙ ap Some (sym k ∙ eqb-true known count yes ∙ e),
  λ whole. eq-eqb known count (k ∙ some_is leaves n (sym is ∙ whole) ∙ sym e),
)

-- ---- what a check said, of what is held

pub said_alike : {E : Type 0} (h : HashFunction) (g : Grafting) (proof : RangeProof) (a b : ℕ) (xs ys cs ds : List (List ℕ))
    (r s : List ℕ) (answer : Result Bool E) → a ≡ b → xs ≡ ys → cs ≡ ds → r ≡ s
    → IfOk answer (λ yes. IsTrue yes ↔ IsCurrent h g proof a xs cs r)
    → IfOk answer (λ yes. IsTrue yes ↔ IsCurrent h g proof b ys ds s)
said_alike h g proof a b xs ys cs ds r s answer e f k l said =
    subst (λ (x : ℕ). IfOk answer (λ yes. IsTrue yes ↔ IsCurrent h g proof x ys ds s)) e
    (subst (λ (x : List (List ℕ)). IfOk answer (λ yes. IsTrue yes ↔ IsCurrent h g proof a x ds s)) f
    (subst (λ (x : List (List ℕ)). IfOk answer (λ yes. IsTrue yes ↔ IsCurrent h g proof a xs x s)) k
    (subst (λ (x : List ℕ). IfOk answer (λ yes. IsTrue yes ↔ IsCurrent h g proof a xs cs x)) l said)))

-- and of what an opening holds
pub said_of_opening : {D : Type 0} (text : D → List ℕ) (P : List (List ℕ) → List (List ℕ) → Type 0) (vs ws : List (Vec ℕ)) (ps qs : List D)
    → vs ≡ ws → ps ≡ qs → P (map (λ v. v.items) vs) (map text ps) → P (map (λ v. v.items) ws) (map text qs)
said_of_opening text P vs ws ps qs e f said =
    subst (λ (x : List (Vec ℕ)). P (map (λ v. v.items) x) (map text qs)) e
    (subst (λ x. P (map (λ v. v.items) vs) (map text x)) f said)

-- ---- what is known once all is there

pub known_whole : {D : Type 0} (o : Option D) (leaves : Option ℕ) (n : ℕ) → is_some o ≡ is_some leaves → leaves ≡ Some n
    → is_some o ≡ true
known_whole o leaves n same whole = same ∙ ap is_some whole
