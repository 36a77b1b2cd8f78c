-- Pages that are served: how many operations they have, and that nothing is missing for them.
use Rattle.std.proofs.Common.{◌≡◌, ℕ, zero, suc, ◌+◌, ◌-◌, ◌*◌, ◌/◌, ◌<◌, ◌≤◌, ◌^◌, cond, Bool, List, [], ◌∷◌, length, map, drop, get_or, Option, Some, None, inl, inr, refl, sym, ap, subst, ◌∙◌, arith}
use Rattle.std.specs.Global.{Vec}
use Rattle.std.specs.List.{Contains, range_with_len}
use Rattle.std.specs.Prelude.{MatchOption, Result, Ok, Err, IfOk}
use Rattle.std.proofs.lemmas.Bool.{cases_lt, le-ltb, lt-ltb}
use Rattle.std.proofs.lemmas.List.{drop-drop, length-drop}
use Rattle.std.proofs.lemmas.List.FromFn.{length-map-range_with_len, get_or-map-range_with_len}
use Rattle.std.proofs.Math.Nat.{add-mul, div-mul-le_self, min-eq_left, mul-le-mul_right}
use Rattle.storage_codec.specs.Digests.{HashFunction}
use Rattle.storage_merkle.specs.Nodes.{IsNode}
use Rattle.storage_merkle.specs.Plans.{GreatestNodesArePlanned, IsFirstAbsent, PlanOf, planned}
use Rattle.storage_merkle.specs.RangeProofs.{StandAt}
use Rattle.storage_merkle.specs.Shape.{Laws, size}
use Rattle.storage_bitmap.specs.Chunks.{IsChunkSize, IsRest, Retained, bit_count, packed_bytes, chunk, chunks_from}
use Rattle.storage_ops.specs.declared.qmdb.error.Error.{Error}
use Rattle.storage_ops.specs.declared.qmdb.error.Error.TheVariants as fault
use Rattle.storage_current.specs.BuiltProofs.{AreBitsOf, ArePartsOf, IsNotBuilt}
use Rattle.storage_current.specs.KeptSnapshots.{KeptSnapshot, pruned_operations}
use Rattle.storage_current.specs.Laws.Grafting.{chunk_height}
use Rattle.storage_current.specs.Laws.Retained.{planned_retained, told_true}
use Rattle.storage_current.specs.NodeLists.{told_by}
use Rattle.storage_current.specs.Served.{Counts, MayFailWithin}
use Rattle.storage_current.specs.SnapshotTails.{KeptTail}
use Rattle.storage_current.specs.Snapshots.{Grafting, IsSnapshot, Snapshot, RangeProof, first_chunk, graftable, height, own_range_proof, view_node}
use Rattle.storage_current.specs.Tails.{PlannedNodesAreLeft}
use Rattle.storage_sync.specs.Messages.{Request}
use Rattle.storage_sync.specs.Serving.{AreNeverAbsent, HasNoPage, HasPage, IsAnswer, IsFailedRead, IsLogFault, IsLogOf, IsServed, IsServedTail, IsUnanswered, IsUnmade, TellsLeft, answer_count, page_count}
use Rattle.storage_sync.specs.declared.sync.unanswered.Unanswered.{Unanswered}
use Rattle.storage_sync.specs.declared.sync.unanswered.Unanswered.TheVariants.{OutOfBounds, NotAtChunk, Pruned, TooFew, Corrupted, Log, Memory}

pub if_ok : {T E : Type 0} (P Q : T → Type 0) (r : Result T E) → ((x : T) → P x → Q x) → IfOk r P → IfOk r Q
if_ok P Q (Ok x) f h = f x h
if_ok P Q (Err y) f h = tt

-- ---- how many operations

pub all_left : (n left most : ℕ) → left ≤ most → page_count n left most ≡ left
all_left n left most few = ap (λ (b : Bool). cond b (most / (8 * n) * (8 * n)) left) (le-ltb most left few)

pub whole_chunks : (n left most : ℕ) → most < left → page_count n left most ≡ most / (8 * n) * (8 * n)
whole_chunks n left most more = ap (λ (b : Bool). cond b (most / (8 * n) * (8 * n)) left) (lt-ltb most left more)

pub count_left : (n left most : ℕ) → page_count n left most ≤ left
count_left n left most = elim (cases_lt most left) [
  | inl more ↦ omega (arith, whole_chunks n left most more, div-mul-le_self most (8 * n))
  | inr few ↦ omega (arith, all_left n left most few)
]

-- ---- a plan, and answers for it

-- the plan of a range that has one
pub plan_is : {M : Type 0} (refused : Option M) (plan x : PlanOf) → MatchOption refused (plan ≡ x) (λ e. Ok plan ≡ Err e)
    → plan ≡ x
plan_is None plan x made = made
plan_is (Some e) plan x made = absurd (cc)

-- the first position that is absent is one of the positions, and absent
absent_at : {D : Type 0} (answers : ℕ → Option D → Type 0) (positions : List ℕ) (p : ℕ) → IsFirstAbsent answers positions p
    → Contains positions p × answers p None
absent_at answers [] p absent = absurd absent
absent_at answers (q ∷ qs) p (inl here) =
    ((0, omega arith, sym here.1), subst (λ (x : ℕ). answers x None) (sym here.1) here.0)
absent_at answers (q ∷ qs) p (inr later) =
    let rest = absent_at answers qs p later.2 in
    ((suc rest.0.0, omega (arith, rest.0.1), rest.0.2), rest.1)

-- why a proof is not built whose every node is answered, from bits of which no more than graftable chunks are pruned
pub built : {D F : Type 0} (answers : ℕ → Option D → Type 0) (g : Grafting) (plan : PlanOf) (status : Retained) (error : Error F)
    → AreNeverAbsent answers (planned g.shape plan.leaves plan.start plan.end)
    → AreBitsOf g plan.leaves status → IsNotBuilt answers g plan status error → error ≡ fault.Memory
built answers g plan status error none bits (inl absent) =
    let at = absent_at answers (planned g.shape plan.leaves plan.start plan.end) absent.0 absent.1 in
    absurd (none absent.0 at.0 at.1)
built answers g plan status error none bits (inr (inl pruned)) = absurd (pruned.1 bits)
built answers g plan status error none bits (inr (inr memory)) = memory

-- ---- bits of which some chunks are pruned

pub counted : (n : ℕ) (r : Retained) (bits : List Bool) → IsRest n r bits → bit_count n r ≡ length bits
counted n r bits rest =
    let kept : length r.bits ≡ length bits - r.pruned * (8 * n) =
    ap length rest.rest ∙ length-drop (r.pruned * (8 * n)) bits in
    omega (arith, rest.within)

kept_chunk : (n : ℕ) (r : Retained) (bits : List Bool) → IsRest n r bits → (j : ℕ) → r.pruned ≤ j
    → chunk n r.bits (j - r.pruned) ≡ chunk n bits j
unfolding chunk
kept_chunk n r bits rest j kept =
    let m : ℕ = 8 * n in
    let there : r.pruned * m + (j - r.pruned) * m ≡ j * m = sym (add-mul r.pruned (j - r.pruned) m)
    ∙ ap (λ i. i * m) (let e : r.pruned + (j - r.pruned) ≡ j = omega arith in e) in
    rw rest.rest (ap (packed_bytes n) (drop-drop ((j - r.pruned) * m) (r.pruned * m) bits ∙ ap (λ i. drop i bits) there))

kept_chunks : (n : ℕ) (r : Retained) (bits : List Bool) → IsRest n r bits → (c j k : ℕ) → r.pruned ≤ j → k ≡ j - r.pruned
    → chunks_from n r.bits c k ≡ chunks_from n bits c j
unfolding chunks_from
kept_chunks n r bits rest zero j k kept is = refl
kept_chunks n r bits rest (suc c) j k kept is =
    let head : chunk n r.bits k ≡ chunk n bits j = ap (chunk n r.bits) is ∙ kept_chunk n r bits rest j kept in
    let tail : chunks_from n r.bits c (suc k) ≡ chunks_from n bits c (suc j) =
    kept_chunks n r bits rest c (suc j) (suc k) (omega arith) (omega (arith, is)) in
    cc

-- ---- why there is no answer

pub has_moved : (n a b p q f k : ℕ) (r : Request) → a ≡ b → p ≡ q → f ≡ k → HasPage n a p f r → HasPage n b q k r
has_moved n a b p q f k r x y z has =
    subst (λ (m : ℕ). HasPage n m q k r) x (subst (λ (m : ℕ). HasPage n a m k r) y
    (subst (λ (m : ℕ). HasPage n a p m r) z has))

no_page : (n leaves pruned first past : ℕ) (may_fail : ℕ → ℕ → Type 0) (r : Request) (error : Unanswered)
    → HasNoPage n leaves pruned first r error → IsUnanswered n leaves pruned first past may_fail r error
no_page n leaves pruned first past may_fail r OutOfBounds why = why
no_page n leaves pruned first past may_fail r NotAtChunk why = why
no_page n leaves pruned first past may_fail r Pruned why = why
no_page n leaves pruned first past may_fail r TooFew why = why
no_page n leaves pruned first past may_fail r Corrupted why = absurd why
no_page n leaves pruned first past may_fail r (Log code) why = absurd why
no_page n leaves pruned first past may_fail r Memory why = tt

pub none_moved : (n a b p q f k past : ℕ) (may_fail : ℕ → ℕ → Type 0) (r : Request) (error : Unanswered) → a ≡ b → p ≡ q → f ≡ k
    → HasNoPage n a p f r error → IsUnanswered n b q k past may_fail r error
none_moved n a b p q f k past may_fail r error x y z why =
    no_page n b q k past may_fail r error (subst (λ (m : ℕ). HasNoPage n m q k r error) x
    (subst (λ (m : ℕ). HasNoPage n a m k r error) y (subst (λ (m : ℕ). HasNoPage n a p m r error) z why)))

pub unread : (n leaves pruned first past low high : ℕ) (may_fail : ℕ → ℕ → Type 0) (r : Request) (error : Unanswered)
    → HasPage n leaves pruned first r → low ≡ r.start → high ≡ r.start + answer_count n leaves r → high ≤ past
    → IsFailedRead may_fail low high error → IsUnanswered n leaves pruned first past may_fail r error
unread n leaves pruned first past low high may_fail r OutOfBounds has x y held why = absurd why
unread n leaves pruned first past low high may_fail r NotAtChunk has x y held why = absurd why
unread n leaves pruned first past low high may_fail r Pruned has x y held why = absurd why
unread n leaves pruned first past low high may_fail r TooFew has x y held why = absurd why
unread n leaves pruned first past low high may_fail r Corrupted has x y held why = absurd why
unread n leaves pruned first past low high may_fail r (Log code) has x y held why = (
  (has, omega (arith, y, held)),
  subst (λ (m : ℕ). MayFailWithin may_fail r.start m code) y
      (subst (λ (m : ℕ). MayFailWithin may_fail m high code) x why),
)
unread n leaves pruned first past low high may_fail r Memory has x y held why = tt

-- what is no fault of the log is not counted
pub uncounted : {X : Type 0} (error : Unanswered) (n : ℕ) → ((code : ℕ) → error ≡ Log code → ⊥)
    → Counts (IsLogFault {X = X} (Err error)) n n
uncounted {X} error n none = record {
  told = (λ fault. absurd (none fault.0 (let e = fault.1 in cc)), λ more. absurd (omega (arith, more)));
  once = inl refl;
}

pub page_fault : (n leaves pruned first : ℕ) (r : Request) (error : Unanswered) → HasNoPage n leaves pruned first r error
    → (code : ℕ) → error ≡ Log code → ⊥
page_fault n leaves pruned first r error why code e =
    subst (HasNoPage n leaves pruned first r) e why

pub proof_fault : (error : Unanswered) → IsUnmade error → (code : ℕ) → error ≡ Log code → ⊥
proof_fault error why code e = subst IsUnmade e why

-- a count that is told of one answer is that of another with the same error
pub counts_moved : {X Y : Type 0} (error : Unanswered) (before after : ℕ) → Counts (IsLogFault {X = X} (Err error)) before after
    → Counts (IsLogFault {X = Y} (Err error)) before after
counts_moved {X} {Y} error before after c = record {
  told = (
    λ fault. c.told.0 (fault.0, let e = fault.1 in cc),
    λ more. let fault = c.told.1 more in (fault.0, let e = fault.1 in cc),
  );
  once = c.once;
}

pub counts_made : {X Y : Type 0} (x : X) (y : Y) (before after : ℕ) → Counts (IsLogFault (Ok x)) before after
    → Counts (IsLogFault (Ok y)) before after
counts_made x y before after c = record {
  told = (λ fault. absurd (let e = fault.1 in cc), λ more. let fault = c.told.1 more in absurd (let e = fault.1 in cc));
  once = c.once;
}

-- ---- operations of a log

pub same_texts : (text : Vec ℕ → List ℕ) → ((v : Vec ℕ) → text v ≡ v.items) → (vs : List (Vec ℕ))
    → map (λ v. v.items) vs ≡ map text vs
same_texts text same [] = refl
same_texts text same (v ∷ vs) =
    let head = same v in
    let tail = same_texts text same vs in
    cc

-- ---- what is served

-- what is left of a snapshot's bits, and of no more than its graftable chunks is anything forgotten
pub record ArePageParts (g : Grafting) (status : Retained) (s : Snapshot) : Type 0 where
  pub snapshot : IsSnapshot s
  pub bits : IsRest g.bytes status s.bits
  pub pruned : status.pruned ≤ graftable g (length s.operations)

module _ (h : HashFunction) (g : Grafting) (status : Retained) (s : Snapshot) (parts : ArePageParts g status s) where
  pub leaves_are : bit_count g.bytes status ≡ length s.operations
  leaves_are = counted g.bytes status s.bits parts.bits ∙ parts.snapshot.bit_each

  pub bits_are : AreBitsOf g (length s.operations) status
  bits_are = record { all = leaves_are; pruned = parts.pruned }

  -- a page of them answers a request
  module _ (sized : IsChunkSize g.bytes) (r : Request) (first past end : ℕ)
      (has : HasPage g.bytes (length s.operations) status.pruned first r)
      (end_is : end ≡ r.start + answer_count g.bytes (length s.operations) r) where
    wide : 2 ^ height g ≡ 8 * g.bytes
    wide = (chunk_height g sized).bits

    pub some : r.start < end
    some = omega (arith, has.some, end_is)

    pub within : end ≤ length s.operations
    within =
        omega (arith, end_is, count_left g.bytes (length s.operations - r.start) r.max_ops, has.begins.within)

    pub from : status.pruned ≤ r.start / 2 ^ height g
    from = subst (λ (b : ℕ). status.pruned ≤ r.start / b) (sym wide) has.kept.bits

    pub behind : pruned_operations g status ≤ r.start
    behind = omega (
      arith,
      div-mul-le_self r.start (2 ^ height g),
      mul-le-mul_right (2 ^ height g) from,
    )

    chunks_are : (chunks : List (List ℕ)) → chunks ≡ chunks_from g.bytes status.bits
        ((end - 1) / 2 ^ height g - r.start / 2 ^ height g + 1) (r.start / 2 ^ height g - status.pruned)
        → chunks ≡ chunks_from g.bytes s.bits ((end - 1) / 2 ^ height g - first_chunk g r.start + 1) (first_chunk g r.start)
    chunks_are chunks touched =
        touched ∙ kept_chunks g.bytes status s.bits parts.bits
        ((end - 1) / 2 ^ height g - r.start / 2 ^ height g + 1) (first_chunk g r.start)
        (r.start / 2 ^ height g - status.pruned) from refl

    module _ (text : Vec ℕ → List ℕ) (item : ℕ → List ℕ) (log : IsLogOf text item first past s) (held : end ≤ past)
        (vs : List (Vec ℕ)) (read : map text vs ≡ map item (range_with_len r.start (end - r.start))) where
      abbrev operations : List (List ℕ)
      operations = map (λ v. v.items) vs

      operations_are : operations ≡ map item (range_with_len r.start (end - r.start))
      operations_are = same_texts text log.text_is vs ∙ read

      count_is : length operations ≡ end - r.start
      count_is = ap length operations_are ∙ length-map-range_with_len item r.start (end - r.start)

      stand : StandAt s.operations r.start operations
      stand = record {
        within = omega (arith, count_is, some, within);
        each = λ j less.
            let inside : j < end - r.start = omega (arith, count_is, less) in
            ap (λ (xs : List (List ℕ)). get_or xs j []) operations_are
            ∙ get_or-map-range_with_len item r.start (end - r.start) j (r.start + j) [] inside refl
            ∙ log.items (r.start + j) (omega (arith, has.kept.operations)) (omega (arith, held, inside))
            (omega (arith, within, inside));
      }

      answer_is : (proof : RangeProof) (chunks : List (List ℕ)) → proof ≡ own_range_proof h g s r.start end
          → chunks ≡ chunks_from g.bytes status.bits
          ((end - 1) / 2 ^ height g - r.start / 2 ^ height g + 1) (r.start / 2 ^ height g - status.pruned)
          → IsAnswer h g s r (record { proof = proof; operations = operations; chunks = chunks })
      answer_is proof chunks own touched =
          let last : r.start + length operations ≡ end = omega (arith, count_is, some) in
          record {
            begins = has.begins;
            own = record {
              proof_is = own ∙ ap (own_range_proof h g s r.start) (sym last);
              holds = record {
                some = omega (arith, count_is, some);
                there = stand;
                chunks_are = chunks_are chunks touched ∙ ap (λ (e : ℕ).
                    chunks_from g.bytes s.bits ((e - 1) / 2 ^ height g - first_chunk g r.start + 1) (first_chunk g r.start)) (sym last);
              };
            };
            count = omega (arith, last, end_is);
          }

    -- the parts, of the operations from where the request begins on
    pub answer_at : (text : Vec ℕ → List ℕ) (item : ℕ → List ℕ) → IsLogOf text item first past s → end ≤ past → (start : ℕ)
        → start ≡ r.start → (vs : List (Vec ℕ)) → map text vs ≡ map item (range_with_len start (end - start))
        → (proof : RangeProof) → proof ≡ own_range_proof h g s start end → (told : Retained) → told ≡ status
        → (chunks : List (List ℕ)) → ((k : ℕ) → 8 * g.bytes ≡ 2 ^ k
        → chunks ≡ chunks_from g.bytes told.bits ((end - 1) / 2 ^ k - start / 2 ^ k + 1) (start / 2 ^ k - told.pruned))
        → IsAnswer h g s r (record { proof = proof; operations = map (λ v. v.items) vs; chunks = chunks })
    answer_at text item log held start at vs read proof own told status_is chunks touched =
        answer_is text item log held vs
        (subst (λ (a : ℕ). map text vs ≡ map item (range_with_len a (end - a))) at read) proof chunks
        (subst (λ (a : ℕ). proof ≡ own_range_proof h g s a end) at own)
        (subst (λ (a : ℕ). chunks ≡ chunks_from g.bytes status.bits
        ((end - 1) / 2 ^ height g - a / 2 ^ height g + 1) (a / 2 ^ height g - status.pruned)) at
        (subst (λ (q : Retained). chunks ≡ chunks_from g.bytes q.bits
        ((end - 1) / 2 ^ height g - start / 2 ^ height g + 1) (start / 2 ^ height g - q.pruned)) status_is
        (touched (height g) (sym wide))))

-- ---- a snapshot that is served

module _ (h : HashFunction) (g : Grafting) (kept : KeptSnapshot) (floor : ℕ) (s : Snapshot) (served : IsServed h g kept floor s) where
  pub snapshot_parts : ArePageParts g kept.status s
  snapshot_parts = record { snapshot = served.snapshot; bits = served.stands.status; pruned = served.stands.pruned }

  -- its parts, and the digests of its grafted view's nodes
  pub parts_of : {D : Type 0} (text : D → List ℕ) (answers : ℕ → Option D → Type 0) (plan : PlanOf) (status : Retained)
      (ops_root : List ℕ) → length s.operations ≡ plan.leaves → status ≡ kept.status → ops_root ≡ kept.ops_root
      → ((p : ℕ) (d : D) → answers p (Some d) → told_by kept.nodes p ≡ Some (text d))
      → ArePartsOf text answers h g plan status floor ops_root s
  parts_of text answers plan status ops_root count status_is root_is told =
      let fits : floor ≤ plan.leaves = omega (arith, served.snapshot.floor_within, served.floor_is, count) in
      record {
        count = count;
        bits = subst (λ (r : Retained). IsRest g.bytes r s.bits) (sym status_is) served.stands.status;
        floor_is = sym (min-eq_left fits ∙ served.floor_is);
        ops_root_is = root_is ∙ served.stands.ops_root;
        nodes = λ p a k d planned node given.
            told_true g.shape (height g) (pruned_operations g kept.status) (length s.operations) (view_node h g s)
            (told_by kept.nodes) served.stands.nodes p a k (text d) node (told p d given);
      }

  -- each node is told that is planned of a range behind the chunks that are pruned
  pub never_absent : GreatestNodesArePlanned → Laws g.shape → (low high p : ℕ) → pruned_operations g kept.status ≤ low
      → Contains (planned g.shape (length s.operations) low high) p → told_by kept.nodes p ≡ None → ⊥
  never_absent are L low high p from there none =
      let found = (are g.shape L (length s.operations) low high p).0 there in
      let inside : p < size g.shape (length s.operations) = omega (arith, found.3.tree.inside, found.2.at) in
      let stays = planned_retained are g L (length s.operations) low high kept.status.pruned p found.0 found.1
      served.stands.pruned from there found.2 in
      let told = served.stands.nodes.are p found.0 found.1 found.2 inside stays in
      absurd (let clash = sym none ∙ told in cc)

-- ---- one that is told by pins before an operation

module _ (h : HashFunction) (g : Grafting) (kept : KeptTail) (s : Snapshot) (served : IsServedTail h g kept s) where
  pub tail_parts : ArePageParts g kept.status s
  tail_parts = record { snapshot = served.snapshot; bits = served.stands.status; pruned = served.stands.pruned }

  -- what is planned of a range behind the chunks that are pruned is told
  planned_told : GreatestNodesArePlanned → PlannedNodesAreLeft g → Laws g.shape → (low high p : ℕ) → pruned_operations g kept.status ≤ low
      → Contains (planned g.shape (length s.operations) low high) p → (o : Option (List ℕ)) → TellsLeft h g kept p o
      → (a k : ℕ) → IsNode g.shape p a k → o ≡ Some (view_node h g s a k)
  planned_told are left L low high p from there o told a k node =
      let found = (are g.shape L (length s.operations) low high p).0 there in
      let inside : p < size g.shape (length s.operations) = omega (arith, found.3.tree.inside, found.2.at) in
      told s served inside a k node (left L (length s.operations) low high kept.status.pruned kept.chunks.boundary p a k
      served.stands.behind from served.stands.pruned served.stands.have there node)

  pub told_behind : GreatestNodesArePlanned → PlannedNodesAreLeft g → Laws g.shape → (low high p : ℕ) → pruned_operations g kept.status ≤ low
      → Contains (planned g.shape (length s.operations) low high) p → TellsLeft h g kept p None → ⊥
  told_behind are left L low high p from there told =
      let found = (are g.shape L (length s.operations) low high p).0 there in
      let clash = planned_told are left L low high p from there None told found.0 found.1 found.2 in absurd (cc)

  -- its parts
  pub behind_parts : {D : Type 0} (text : D → List ℕ) (answers : ℕ → Option D → Type 0) → GreatestNodesArePlanned
      → PlannedNodesAreLeft g → Laws g.shape → (plan : PlanOf) (status : Retained) (floor : ℕ) (ops_root : List ℕ)
      → length s.operations ≡ plan.leaves → pruned_operations g kept.status ≤ plan.start → status ≡ kept.status → floor ≡ kept.floor
      → ops_root ≡ kept.ops_root
      → ((p : ℕ) (d : D) → answers p (Some d) → TellsLeft h g kept p (Some (text d)))
      → ArePartsOf text answers h g plan status floor ops_root s
  behind_parts {D} text answers are left L plan status floor ops_root count from status_is floor_is root_is told =
      let fits : floor ≤ plan.leaves =
      omega (arith, served.snapshot.floor_within, floor_is, served.stands.floor, count) in
      record {
        count = count;
        bits = subst (λ (r : Retained). IsRest g.bytes r s.bits) (sym status_is) served.stands.status;
        floor_is = sym (min-eq_left fits ∙ floor_is ∙ served.stands.floor);
        ops_root_is = root_is ∙ served.stands.ops_root;
        nodes = λ p a k d there node given.
            let same = planned_told are left L plan.start plan.end p from
            (subst (λ (n : ℕ). Contains (planned g.shape n plan.start plan.end) p) (sym count) there) (Some (text d)) (told p d given)
            a k node in
            let one : text d ≡ view_node h g s a k = cc in one;
      }
